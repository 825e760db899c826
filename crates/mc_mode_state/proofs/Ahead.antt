-- What agrees with a later moment agrees with an earlier one.
use Rattle.std.proofs.Common.{◌≡◌, ℕ, zero, suc, ◌<◌, ◌≤◌, false, List, length, take, Option, Some, None, nat_eq, sym, ap, ◌∙◌, subst, arith}
use Rattle.std.proofs.lemmas.List.{length-take}
use Rattle.std.proofs.lemmas.Bool.Decides.{nat_tests}
use Rattle.mc_program.specs.Programs.{TypeTerm, Source}
use Rattle.mc_model.specs.Insts.{InstNode, free, ground, unique, dead, bound, Graph, AllowsSymbol}
use Rattle.mc_accepted.specs.Determined.{is_dead}
use Rattle.mc_accepted.specs.Fits.{FitsInsts}
use Rattle.mc_accepted.specs.Forms.{node_takes_constants}
use Rattle.mc_accepted.specs.Inclusion.{NoMore, IncludedNodes, Included}
use Rattle.mc_accepted.specs.NodeOracle.{NodeOracle}
use Rattle.mc_insts.specs.declared.insts.Insts.{Insts}
use Rattle.mc_insts.specs.Graphs.{graph_of, count_of}
use Rattle.mc_insts.specs.Growing.{Grown}
use Rattle.mc_insts.specs.Narrowed.{Narrowed}
use Rattle.mc_procs.specs.Procedures.{PlainProcs, source_of, insts_of, with_insts}
use Rattle.mc_mode_state.specs.Tables.{node_in}
use Rattle.mc_mode_state.specs.Nodes.{NodesAre}
use Rattle.mc_mode_state.specs.Agreeing.{OracleAgrees, StateInvariant, StateExtends}
use Rattle.mc_mode_state.specs.declared.state.State.{State}
use Rattle.mc_mode_state.proofs.Found.{type-kept}

included-on : (N M : InstNode) (Q R : Type 0) → (Q → R) → IncludedNodes N M Q → IncludedNodes N M R
included-on free free Q R f h = h
included-on free ground Q R f h = h
included-on free unique Q R f h = h
included-on free dead Q R f h = h
included-on free (bound ms) Q R f h = h
included-on ground free Q R f h = h
included-on ground ground Q R f h = f h
included-on ground unique Q R f h = f h
included-on ground dead Q R f h = h
included-on ground (bound ms) Q R f h = f h
included-on unique free Q R f h = h
included-on unique ground Q R f h = f h
included-on unique unique Q R f h = f h
included-on unique dead Q R f h = h
included-on unique (bound ms) Q R f h = f h
included-on dead free Q R f h = h
included-on dead ground Q R f h = h
included-on dead unique Q R f h = h
included-on dead dead Q R f h = h
included-on dead (bound ms) Q R f h = h
included-on (bound ls) free Q R f h = h
included-on (bound ls) ground Q R f h = f h
included-on (bound ls) unique Q R f h = f h
included-on (bound ls) dead Q R f h = h
included-on (bound ls) (bound ms) Q R f h = f h

-- an older node in a graph that grew
module _ (P : Source) (I J : Insts) (g : Grown P I J) where
  narrowed-back : (i f : ℕ) (o : Option (List ℕ)) → i < count_of I → Narrowed P (graph_of J) i f o → Narrowed P (graph_of I) i f o
  narrowed-back i f None l h = λ a. h (subst (λ N. AllowsSymbol P N i f (λ is. Unit {0})) (sym (g.same i l)) a)
  narrowed-back i f (Some row) l h = subst (λ N. AllowsSymbol P N i f (λ is. is ≡ row)) (g.same i l) h

  less-back : (i j : ℕ) (t : TypeTerm) → i < count_of I → j < count_of I → NoMore P (graph_of J) i j t → NoMore P (graph_of I) i j t
  less-back i j t l m h = λ path e a. (g.meaning j m path e t).1 (h path e ((g.meaning i l path e t).0 a))

  less-on : (i j : ℕ) (t : TypeTerm) → i < count_of I → j < count_of I → NoMore P (graph_of I) i j t → NoMore P (graph_of J) i j t
  less-on i j t l m h = λ path e a. (g.meaning j m path e t).0 (h path e ((g.meaning i l path e t).1 a))

  included-back : (i j : ℕ) (t : TypeTerm) → i < count_of I → j < count_of I → Included P (graph_of J) i j t → Included P (graph_of I) i j t
  included-back i j t l m h =
      subst (λ N. IncludedNodes N (graph_of I j) (NoMore P (graph_of I) i j t)) (g.same i l)
      (subst (λ M. IncludedNodes (graph_of J i) M (NoMore P (graph_of I) i j t)) (g.same j m)
      (included-on (graph_of J i) (graph_of J j) _ _ (less-back i j t l m) h))

  included-later : (i j : ℕ) (t : TypeTerm) → i < count_of I → j < count_of I → Included P (graph_of I) i j t → Included P (graph_of J) i j t
  included-later i j t l m h =
      subst (λ N. IncludedNodes N (graph_of J j) (NoMore P (graph_of J) i j t)) (sym (g.same i l))
      (subst (λ M. IncludedNodes (graph_of I i) M (NoMore P (graph_of J) i j t)) (sym (g.same j m))
      (included-on (graph_of I i) (graph_of I j) _ _ (less-on i j t l m) h))

back-from : (q : PlainProcs) (J : Insts) (s t : State) (C : NodeOracle) (T : ℕ → TypeTerm) → Grown (source_of q) q.insts J → NodesAre (source_of q) q.insts s.nodes
    → ((f k : ℕ) (is : List ℕ) → node_in s.nodes.overs f is ≡ Some k → node_in t.nodes.overs f is ≡ Some k)
    → ((f k : ℕ) (is : List ℕ) → node_in s.nodes.joins f is ≡ Some k → node_in t.nodes.joins f is ≡ Some k)
    → take (length s.nodes.types.items) t.nodes.types.items ≡ s.nodes.types.items
    → take (length s.types.items) t.types.items ≡ s.types.items → OracleAgrees (with_insts q J) t C T → OracleAgrees q s C T
back-from q J s t C T g are overs joins met types a =
    let m = g.more in
    let longer : length s.types.items ≤ length t.types.items = omega (arith, length-take (length s.types.items) t.types.items, ap length types) in
    record {
      dies = λ i l. a.dies i (omega arith) ∙ ap is_dead (g.same i l);
      constants = λ i l. a.constants i (omega arith) ∙ ap (node_takes_constants (source_of q) (insts_of q)) (g.same i l);
      narrowed = λ i f l. narrowed-back (source_of q) q.insts J g i f (C.narrowed i f) l (a.narrowed i f (omega arith));
      fits = λ i j u l k.
          let x = a.fits i j u (omega arith) (omega arith) in
          (λ e. included-back (source_of q) q.insts J g i j u l k (x.0 e), λ h. x.1 (included-later (source_of q) q.insts J g i j u l k h));
      over = λ f k is h. a.over f k is (overs f k is h);
      joined = λ r k is h.
          ap (λ u. C.joined u is) (sym (type-kept s.nodes.types.items t.nodes.types.items r met (are.joins r k is h).0))
          ∙ a.joined r k is (joins r k is h);
      types = λ x l. a.types x (omega arith) ∙ type-kept s.types.items t.types.items x types l;
    }

pub agrees-before : (q r : PlainProcs) (s t : State) (C : NodeOracle) (T : ℕ → TypeTerm) → StateInvariant q s → StateExtends q r s t → OracleAgrees r t C T → OracleAgrees q s C T
agrees-before q r s t C T st m a =
    back-from q r.insts s t C T m.nodes.grown st.nodes m.nodes.overs m.nodes.joins m.nodes.types m.types
    (subst (λ z. OracleAgrees z t C T) m.nodes.others a)

-- the builtin insts by their numbers
dead-four : (G : Graph) → FitsInsts G → (i : ℕ) → is_dead (G (suc (suc (suc (suc i))))) ≡ false
dead-four G h i = let b = h.are_bound i in ap is_dead b.1

pub dead-is-three : (G : Graph) → FitsInsts G → (i : ℕ) → is_dead (G i) ≡ nat_eq i 3
dead-is-three G h zero = ap is_dead h.is_free
dead-is-three G h (suc zero) = ap is_dead h.is_ground
dead-is-three G h (suc (suc zero)) = ap is_dead h.is_unique
dead-is-three G h (suc (suc (suc zero))) = ap is_dead h.is_dead
dead-is-three G h (suc (suc (suc (suc i)))) = dead-four G h i ∙ (grind (arith, nat_tests))
