-- Steps from one state to a later one.
use Rattle.std.proofs.Common.{◌≡◌, ℕ, Vec, Global, zero, suc, ◌<◌, ◌≤◌, Bool, true, false, List, [], ◌∷◌, ◌++◌, length, get_or, take, nat_eq, if◌then◌else◌, refl, sym, ap, ◌∙◌, subst, arith}
use Rattle.std.proofs.Math.Seq.{take-length}
use Rattle.std.proofs.lemmas.List.{length-take}
use Rattle.mc_program.specs.Programs.{Source}
use Rattle.mc_program.specs.declared.ty.Ty.{Ty}
use Rattle.mc_accepted.specs.Arranged.{Point, with_inst}
use Rattle.mc_insts.specs.Graphs.{count_of}
use Rattle.mc_insts.specs.Growing.{Grown}
use Rattle.mc_procs.specs.Procedures.{PlainProcs, source_of, with_insts}
use Rattle.mc_mode_state.specs.Nodes.{NodesAre, NodesMoved}
use Rattle.mc_mode_state.specs.States.{point_of, TrailWithin, SameState, Later}
use Rattle.mc_mode_state.specs.Agreeing.{StateInvariant, StateExtends, LaterByTrail}
use Rattle.mc_mode_state.specs.declared.nodes.Nodes.{Nodes}
use Rattle.mc_mode_state.specs.declared.state.State.{State}
use Rattle.mc_mode_state.proofs.Rewinds.{leads-set, leads-refl, leads-same, leads-trans, within-pushed}
use Rattle.mc_mode_state.proofs.Found.{grown-trans, nodes-stay}

take-take : {A : Type 0} (n m : ℕ) (xs : List A) → n ≤ m → take n (take m xs) ≡ take n xs
take-take zero m xs h = refl
take-take (suc n) zero xs h = absurd (omega arith)
take-take (suc n) (suc m) [] h = refl
take-take (suc n) (suc m) (x ∷ xs) h = ap (λ ys. x ∷ ys) (take-take n m xs (omega arith))

-- what begins a list that begins another begins that one
pub begins : {A : Type 0} (xs ys zs : List A) → take (length xs) ys ≡ xs → take (length ys) zs ≡ ys → take (length xs) zs ≡ xs
begins xs ys zs e f =
    let l : length xs ≤ length ys = omega (arith, length-take (length xs) ys, ap length e) in
    sym (take-take (length xs) (length ys) zs l) ∙ (ap (take (length xs)) f ∙ e)

pub later-refl : (s : State) → Later s s
later-refl s = record { leads = leads-refl s; more = omega arith; outside = λ x. refl; types = take-length s.types.items }

pub later-trans : (s t u : State) → Later s t → Later t u → Later s u
later-trans s t u p q = record {
  leads = leads-trans s t u p.leads q.leads;
  more = let a = p.more in let b = q.more in omega arith;
  outside = λ x. q.outside x ∙ p.outside x;
  types = begins s.types.items t.types.items u.types.items p.types q.types;
}

nodes-moved-on : (q r u : PlainProcs) (N M L : Nodes) → NodesMoved q r N M → NodesMoved r u M L → NodesMoved q u N L
nodes-moved-on q r u N M L m n =
    let p : source_of r ≡ source_of q = ap source_of m.others in
    record {
      others = n.others ∙ ap (λ z. with_insts z u.insts) m.others;
      grown = grown-trans (source_of q) q.insts r.insts u.insts m.grown (subst (λ P. Grown P r.insts u.insts) p n.grown);
      overs = λ s k is h. n.overs s k is (m.overs s k is h);
      joins = λ s k is h. n.joins s k is (m.joins s k is h);
      types = begins N.types.items M.types.items L.types.items m.types n.types;
      are = subst (λ P. NodesAre P u.insts L) p n.are;
      fit = n.fit;
    }

pub moved-trans : (q r u : PlainProcs) (s t v : State) → StateExtends q r s t → StateExtends r u t v → StateExtends q u s v
moved-trans q r u s t v m n = record {
  nodes = nodes-moved-on q r u s.nodes t.nodes v.nodes m.nodes n.nodes;
  types = begins s.types.items t.types.items v.types.items m.types n.types;
  stands = n.stands;
}

pub moved-refl : (q : PlainProcs) (s : State) → StateInvariant q s → StateExtends q q s s
moved-refl q s st = record { nodes = nodes-stay q s.nodes st.fit st.nodes; types = take-length s.types.items; stands = st }

pub stepped-refl : (q : PlainProcs) (s : State) → StateInvariant q s → LaterByTrail q q s s
stepped-refl q s st = record { later = later-refl s; moved = moved-refl q s st }

pub stepped-trans : (q r u : PlainProcs) (s t v : State) → LaterByTrail q r s t → LaterByTrail r u t v → LaterByTrail q u s v
stepped-trans q r u s t v p n = record { later = later-trans s t v p.later n.later; moved = moved-trans q r u s t v p.moved n.moved }

pub same-refl : (s : State) → SameState s s
same-refl s = record { point = refl; count = refl; trail = refl; outside = λ x. refl; outsides = refl; types = refl }

below-with : (b : Point ℕ) (x i n : ℕ) → i < n → ((y : ℕ) → b y < n) → (y : ℕ) → with_inst ℕ x i b y < n
below-with b x i n h f y = at (nat_eq y x)
  where
    at : (t : Bool) → (if t then i else b y) < n
    at true = h
    at false = f y

-- a variable got an inst
pub stepped-set : (q : PlainProcs) (s t : State) (x i : ℕ) → StateInvariant q s → x < length s.insts.items → i < count_of q.insts
    → point_of t.insts.items ≡ with_inst ℕ x i (point_of s.insts.items) → t.trail.items ≡ s.trail.items ++ (x, point_of s.insts.items x) ∷ []
    → length t.insts.items ≡ length s.insts.items → t.outside ≡ s.outside → t.types ≡ s.types → t.nodes ≡ s.nodes → LaterByTrail q q s t
stepped-set q s t x i st h k point trail count outside types nodes = record {
  later = record {
    leads = leads-set s t x i point trail;
    more = omega (arith, count);
    outside = λ y. ap (λ v. get_or v.items y 0) outside;
    types = ap (λ v. take (length s.types.items) v.items) types ∙ take-length s.types.items;
  };
  moved = record {
    nodes = rw nodes (nodes-stay q s.nodes st.fit st.nodes);
    types = ap (λ v. take (length s.types.items) v.items) types ∙ take-length s.types.items;
    stands = record {
      fit = st.fit;
      even = record { outside = ap (λ v. length v.items) outside ∙ (st.even.outside ∙ sym count); types = ap (λ v. length v.items) types ∙ (st.even.types ∙ sym count) };
      insts = λ y. subst (λ (b : Point ℕ). b y < count_of q.insts) (sym point) (below-with (point_of s.insts.items) x i (count_of q.insts) k st.insts y);
      trail = subst (λ n. TrailWithin n t.trail.items) (sym count) (subst (TrailWithin (length s.insts.items)) (sym trail) (within-pushed (length s.insts.items) s.trail.items (x, point_of s.insts.items x) st.trail h));
      nodes = rw nodes st.nodes;
    };
  };
}

-- nodes were looked for
pub stepped-nodes : (q r : PlainProcs) (s t : State) → StateInvariant q s → t.insts ≡ s.insts → t.trail ≡ s.trail → t.outside ≡ s.outside → t.types ≡ s.types → NodesMoved q r s.nodes t.nodes → LaterByTrail q r s t
stepped-nodes q r s t st i l o y m =
    let p : source_of r ≡ source_of q = ap source_of m.others in
    let n : length t.insts.items ≡ length s.insts.items = ap (λ (v : Vec ℕ Global). length v.items) i in
    record {
      later = record {
        leads = leads-same s t (ap (λ (v : Vec ℕ Global). point_of v.items) i) (ap (λ (v : Vec (ℕ × ℕ) Global). v.items) l);
        more = omega (arith, n);
        outside = λ x. ap (λ (v : Vec ℕ Global). get_or v.items x 0) o;
        types = ap (λ (v : Vec Ty Global). take (length s.types.items) v.items) y ∙ take-length s.types.items;
      };
      moved = record {
        nodes = m;
        types = ap (λ (v : Vec Ty Global). take (length s.types.items) v.items) y ∙ take-length s.types.items;
        stands = record {
          fit = m.fit;
          even = record {
            outside = ap (λ (v : Vec ℕ Global). length v.items) o ∙ (st.even.outside ∙ sym n);
            types = ap (λ (v : Vec Ty Global). length v.items) y ∙ (st.even.types ∙ sym n);
          };
          insts = λ x.
              let e : get_or t.insts.items x 0 ≡ get_or s.insts.items x 0 = ap (λ (v : Vec ℕ Global). get_or v.items x 0) i in
              let a = st.insts x in
              let b = m.grown.more in
              omega arith;
          trail = subst (λ k. TrailWithin k t.trail.items) (sym n) (subst (λ (v : Vec (ℕ × ℕ) Global). TrailWithin (length s.insts.items) v.items) (sym l) st.trail);
          nodes = subst (λ (P : Source). NodesAre P r.insts t.nodes) (sym p) m.are;
        };
      };
    }
