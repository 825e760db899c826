-- Insts of variables that were merged, one after another.
use Rattle.std.proofs.Common.{◌≡◌, ℕ, ◌<◌, List, [], ◌∷◌, length, get_or, inl, inr, Bool, true, false, nat_eq, ◌&&◌, if◌then◌else◌, Some, None, sym, ap, ◌∙◌, subst, arith}
use Rattle.std.specs.Str.{bytes_eq}
use Rattle.std.proofs.lemmas.List.{get_or-map}
use Rattle.mc_program.specs.Programs.{Source, variable_type}
use Rattle.mc_program.specs.PlainPrograms.{plain_type}
use Rattle.mc_program.specs.declared.ty.Ty.{Ty}
use Rattle.mc_insts.specs.Graphs.{graph_of, count_of}
use Rattle.mc_insts.specs.Growing.{Grown}
use Rattle.mc_insts.specs.Merging.{StandsForAll}
use Rattle.mc_procs.specs.Procedures.{PlainProcs, source_of, with_insts}
use Rattle.mc_procs.specs.VariableTypes.{type_in}
use Rattle.mc_mode_state.specs.Nodes.{StoodFor}
use Rattle.mc_mode_state.specs.Tables.{Entry, node_in}
use Rattle.mc_mode_state.proofs.Found.{put-there, put-kept, put-only, grown-refl, stood-grown}
use Rattle.mc_switch.specs.Kept.{all_are, or_none, inst_merged, Extends, AreMerged, Merges}

-- all are one inst
pub one_inst : (N : List Entry) (x i : ℕ) (is : List ℕ) → 0 < length is → i ≡ get_or is 0 i → all_are i is ≡ true → i ≡ inst_merged N x is
one_inst N x i [] some e all = absurd (omega (arith, some))
one_inst N x i (j ∷ is) some e all =
    e ∙ ap (λ (t : Bool). if t then j else or_none (node_in N x (j ∷ is))) (sym (sym (ap (λ k. all_are k (j ∷ is)) e) ∙ all))

-- they differ, and the inst was found
pub found_inst : (N : List Entry) (x i k : ℕ) (is : List ℕ) → 0 < length is → i ≡ get_or is 0 i → all_are i is ≡ false → node_in N x is ≡ Some k → k ≡ inst_merged N x is
found_inst N x i k [] some e all found = absurd (omega (arith, some))
found_inst N x i k (j ∷ is) some e all found =
    ap or_none (sym found)
    ∙ ap (λ (t : Bool). if t then j else or_none (node_in N x (j ∷ is))) (sym (sym (ap (λ k. all_are k (j ∷ is)) e) ∙ all))

pub there_still : (q : PlainProcs) (types : List Ty) (N : List Entry) (x k : ℕ) (is : List ℕ) → AreMerged q types N → node_in N x is ≡ Some k → k < count_of q.insts
there_still q types N x k is are found =
    let s = are x k is found in
    let a = s.there in
    let b = s.grown.more in
    omega (arith, a, b)

-- an inst that was just merged is found from now on
module _ (q r : PlainProcs) (types : List Ty) (old new : List Entry) (x k : ℕ) (is : List ℕ) (t : Ty)
    (put : (m : ℕ) (js : List ℕ) → node_in new m js ≡ (if nat_eq m x && bytes_eq js is then Some k else node_in old m js)) where
  pub found_now : (M : List Entry) → Extends new M → node_in M x is ≡ Some k
  found_now M e = e x k is (put-there old new x is k put)

  stood_now : x < length types → t ≡ get_or types x t → ((n : ℕ) → n < length is → get_or is n 0 < count_of q.insts) → k < count_of r.insts → r ≡ with_insts q r.insts → Grown (source_of q) q.insts r.insts → StandsForAll (source_of q) (graph_of r.insts) is k (plain_type t) → StoodFor (source_of r) r.insts is k (type_in types x)
  stood_now lt e insts there others grown stands = record {
    before = r.insts;
    insts = λ n l. let a = insts n l in let b = grown.more in omega (arith, a, b);
    there = there;
    stands =
        subst (λ (P : Source). StandsForAll P (graph_of r.insts) is k (type_in types x)) (sym (ap source_of others))
        (subst (StandsForAll (source_of q) (graph_of r.insts) is k) (ap plain_type e ∙ sym (get_or-map plain_type types x t (variable_type x) lt)) stands);
    grown = grown-refl (source_of r) r.insts;
  }

  pub merged_more : AreMerged q types old → node_in old x is ≡ None → x < length types → t ≡ get_or types x t → ((n : ℕ) → n < length is → get_or is n 0 < count_of q.insts) → k < count_of r.insts → r ≡ with_insts q r.insts → Grown (source_of q) q.insts r.insts → StandsForAll (source_of q) (graph_of r.insts) is k (plain_type t) → Merges r types old new
  merged_more are none lt e insts there others grown stands = record {
    stays = λ y v js some. put-kept old new x is k put none y v js some;
    merged = λ y v js some.
        elim (put-only old new x is k put y v js some) [
          | inl same ↦
              subst (λ z. StoodFor (source_of r) r.insts js v (type_in types z)) (sym same.0)
              (subst (λ (ls : List ℕ). StoodFor (source_of r) r.insts ls v (type_in types x)) (sym same.1)
              (subst (λ w. StoodFor (source_of r) r.insts is w (type_in types x)) (sym same.2) (stood_now lt e insts there others grown stands)))
          | inr was ↦
              subst (λ (P : Source). StoodFor P r.insts js v (type_in types y)) (sym (ap source_of others))
              (stood-grown (source_of q) q.insts r.insts js v (type_in types y) grown (are y v js was))
        ];
  }
