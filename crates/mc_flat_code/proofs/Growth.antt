-- What stands in a code stands while it grows.
use Rattle.std.proofs.Common.{◌≡◌, ◌⊎◌, inl, inr, ℕ, zero, suc, ◌≤◌, refl, sym, ap, ◌∙◌, subst, List, [], ◌∷◌, ◌++◌, append_assoc, length, length-append, length-drop, take, drop, map, slice_get, Option, Some, None, true, false, arith}
use Rattle.std.proofs.lemmas.List.{take-append-le, drop-append-le, map-append}
use Rattle.mc_program.specs.Values.{Val, plain_value}
use Rattle.mc_model.specs.Scheduled.{Label, Node, node, Scheduled, Conj, Disj, Switch, Ite, Not, Exists, Assign, Test, Build, Take, Const, TestConst, Call, Apply, Nodes, no_nodes, node_then, Arms, no_arms, arm_then}
use Rattle.mc_flat_code.specs.Running.{part_of, IsWithin, value_at, constant_label, label_of, EachBelow, places_of, Lower}
use Rattle.mc_flat_code.specs.Standing.{At, Holds, Chain, Keyed, Cased, Stands, StandsOf, StandsAll, StandsEach, StandsArms}
use Rattle.mc_flat_code.specs.code.Building.{Continues, Grows}
use Rattle.mc_flat_code.specs.declared.code.Span.{Span}
use Rattle.mc_flat_code.specs.declared.code.Instr.{Instr}
use Rattle.mc_flat_code.specs.declared.code.Instr.TheVariants as I
use Rattle.mc_flat_code.specs.declared.code.Key.{Key}
use Rattle.mc_flat_code.specs.declared.code.Key.TheVariants as K
use Rattle.mc_flat_code.specs.declared.code.Branch.{Branch}
use Rattle.mc_flat_code.specs.declared.code.Code.{Code}

-- lists that go on
append_nothing : {A : Type 0} (xs : List A) → xs ++ [] ≡ xs
append_nothing [] = refl
append_nothing (x ∷ xs) = ap (λ l. x ∷ l) (append_nothing xs)

pub continues_same : {A : Type 0} (xs : List A) → Continues xs xs
continues_same xs = ([], sym (append_nothing xs))

pub continues_then : {A : Type 0} (xs ys zs : List A) → Continues xs ys → Continues ys zs → Continues xs zs
continues_then xs ys zs p q =
    (p.0 ++ q.0, q.1 ∙ ap (λ l. l ++ q.0) p.1 ∙ append_assoc xs p.0 q.0)

pub continues_length : {A : Type 0} (xs ys : List A) → Continues xs ys → length xs ≤ length ys
continues_length xs ys p = omega (arith, ap length p.1, length-append xs p.0)

get_append : {A : Type 0} (xs more : List A) (k : ℕ) (v : A) → slice_get xs k ≡ Some v → slice_get (xs ++ more) k ≡ Some v
get_append [] more k v p = absurd (cc)
get_append (x ∷ xs) more zero v p = p
get_append (x ∷ xs) more (suc k) v p = get_append xs more k v p

pub get_grows : {A : Type 0} (xs ys : List A) → Continues xs ys → (k : ℕ) (v : A) → slice_get xs k ≡ Some v → slice_get ys k ≡ Some v
get_grows xs ys p k v q = ap (λ l. slice_get l k) p.1 ∙ get_append xs p.0 k v q

pub get_last : {A : Type 0} (xs : List A) (v : A) → slice_get (xs ++ v ∷ []) (length xs) ≡ Some v
get_last [] v = refl
get_last (x ∷ xs) v = get_last xs v

-- an element of a list with one more is of the list, or the last one
pub get_more : {A : Type 0} (xs : List A) (v : A) (k : ℕ) (w : A) → slice_get (xs ++ v ∷ []) k ≡ Some w → (slice_get xs k ≡ Some w) ⊎ ((k ≡ length xs) × (v ≡ w))
get_more [] v zero w p = inr (refl, cc)
get_more [] v (suc k) w p = absurd (cc)
get_more (x ∷ xs) v zero w p = inl p
get_more (x ∷ xs) v (suc k) w p =
    elim (get_more xs v k w p) [ inl q ↦ inl q | inr q ↦ inr (ap suc q.0, q.1) ]

pub part_grows : {A : Type 0} (xs ys : List A) → Continues xs ys → (p : Span) → IsWithin xs p → part_of ys p ≡ part_of xs p
part_grows xs ys c p w =
    let first : p.start ≤ length xs = omega arith in
    ap (λ l. take p.count (drop p.start l)) c.1
    ∙ ap (take p.count) (drop-append-le p.start xs c.0 first)
    ∙ take-append-le p.count (drop p.start xs) c.0 (omega (arith, length-drop p.start xs))

pub within_grows : {A : Type 0} (xs ys : List A) → Continues xs ys → (p : Span) → IsWithin xs p → IsWithin ys p
within_grows xs ys c p w = omega (arith, continues_length xs ys c)

pub holds_grows : {A : Type 0} (xs ys : List A) → Continues xs ys → (p : Span) (zs : List A) → Holds xs p zs → Holds ys p zs
holds_grows xs ys c p zs h =
    record {
      within = within_grows xs ys c p h.within;
      elements = part_grows xs ys c p h.within ∙ h.elements;
    }

pub grows_same : (code : Code) → Grows code code
grows_same code =
    record {
      instrs = continues_same code.instrs.items;
      variables = continues_same code.variables.items;
      values = continues_same code.values.items;
      branches = continues_same code.branches.items;
    }

pub grows_then : (a b c : Code) → Grows a b → Grows b c → Grows a c
grows_then a b c g h =
    record {
      instrs = continues_then a.instrs.items b.instrs.items c.instrs.items g.instrs h.instrs;
      variables = continues_then a.variables.items b.variables.items c.variables.items g.variables h.variables;
      values = continues_then a.values.items b.values.items c.values.items g.values h.values;
      branches = continues_then a.branches.items b.branches.items c.branches.items g.branches h.branches;
    }

module _ (old new : Code) (g : Grows old new) where
  pub at_grows : (pc : ℕ) (i : Instr) → At old pc i → At new pc i
  at_grows pc i p = get_grows old.instrs.items new.instrs.items g.instrs pc i p

  pub value_grows : (k : ℕ) (v : Val) → value_at old k ≡ Some v → value_at new k ≡ Some v
  value_grows k v p =
      get_grows (map plain_value old.values.items) (map plain_value new.values.items)
      (map plain_value g.values.0, ap (map plain_value) g.values.1 ∙ map-append plain_value old.values.items g.values.0) k v p

  label_constant : (k : ℕ) (l : Label) (o : Option Val) → value_at old k ≡ o → constant_label o ≡ Some l → constant_label (value_at new k) ≡ Some l
  label_constant k l None p q = absurd (cc)
  label_constant k l (Some v) p q = ap constant_label (value_grows k v p) ∙ q

  pub label_grows : (key : Key) (l : Label) → label_of old key ≡ Some l → label_of new key ≡ Some l
  label_grows (K.Symbol f) l p = p
  label_grows (K.Constant k) l p = label_constant k l (value_at old k) refl p

  pub variables_grow : (p : Span) (xs : List ℕ) → Holds old.variables.items p xs → Holds new.variables.items p xs
  variables_grow p xs h = holds_grows old.variables.items new.variables.items g.variables p xs h

  -- places stay lower
  pub lower_grows : (pc : ℕ) (i : Instr) → Lower old pc i → Lower new pc i
  lower_grows pc I.Done o = tt
  lower_grows pc I.Fail o = tt
  lower_grows pc (I.Same x y next) o = o
  lower_grows pc (I.Made x f ys next) o = o
  lower_grows pc (I.Constant x k next) o = o
  lower_grows pc (I.Or l r) o = o
  lower_grows pc (I.If c t f) o = o
  lower_grows pc (I.Not a next) o = o
  lower_grows pc (I.Once a next) o = o
  lower_grows pc (I.Call p xs last next) o = o
  lower_grows pc (I.Apply op xs ys next) o = o
  lower_grows pc (I.Case x bs other) o =
      (o.0, within_grows old.branches.items new.branches.items g.branches bs o.1, subst (λ l. EachBelow pc (places_of l)) (sym (part_grows old.branches.items new.branches.items g.branches bs o.1)) o.2)

  pub chain_grows : (ps : List ℕ) (pc : ℕ) → Chain old ps pc → Chain new ps pc
  chain_grows [] pc x = at_grows pc I.Fail x
  chain_grows (p ∷ ps) pc (inl x) = inl x
  chain_grows (p ∷ ps) pc (inr x) = inr (x.0, (at_grows pc (I.Or p x.0) x.1.0, chain_grows ps x.0 x.1.1))

  pub keyed_grows : (v : ℕ) (arms : Arms) (bs : List Branch) (ps : List ℕ) → Keyed old v arms bs ps → Keyed new v arms bs ps
  keyed_grows v no_arms [] [] k = tt
  keyed_grows v no_arms [] (p ∷ ps) k = absurd k
  keyed_grows v no_arms (b ∷ bs) ps k = absurd k
  keyed_grows v (arm_then l n arms) [] ps k = absurd k
  keyed_grows v (arm_then l n arms) (b ∷ bs) [] k = absurd k
  keyed_grows v (arm_then l n arms) (b ∷ bs) (p ∷ ps) k =
      ((k.0.0, label_grows b.key l k.0.1, k.0.2), keyed_grows v arms bs ps k.1)

  cased_grows : (v : ℕ) (arms : Arms) (ps : List ℕ) (pc : ℕ) → Cased old v arms ps pc → Cased new v arms ps pc
  cased_grows v arms ps pc c =
      record {
        part = c.part;
        branches = c.branches;
        other = c.other;
        at = at_grows pc (I.Case v c.part c.other) c.at;
        held = holds_grows old.branches.items new.branches.items g.branches c.part c.branches c.held;
        keyed = keyed_grows v arms c.branches ps c.keyed;
        chain = chain_grows ps c.other c.chain;
      }

  choice_grows : (v : ℕ) (arms : Arms) (ps : List ℕ) (pc : ℕ) → Chain old ps pc ⊎ Cased old v arms ps pc → Chain new ps pc ⊎ Cased new v arms ps pc
  choice_grows v arms ps pc (inl c) = inl (chain_grows ps pc c)
  choice_grows v arms ps pc (inr c) = inr (cased_grows v arms ps pc c)

  mutual
    pub stands_grows : (n : Node) (q pc : ℕ) → Stands old n q pc → Stands new n q pc
    stands_grows (node s changes d false) q pc x = of_grows s q pc x
    stands_grows (node s changes d true) q pc (inl x) =
        inl (x.0, (at_grows pc (I.Once x.0 q) x.1.0, of_grows s 0 x.0 x.1.1))
    stands_grows (node s changes d true) q pc (inr x) = inr (x.0, of_grows s q pc x.1)

    pub of_grows : (s : Scheduled) (q pc : ℕ) → StandsOf old s q pc → StandsOf new s q pc
    of_grows (Conj ns) q pc x = all_grows ns q pc x
    of_grows (Disj ns) q pc x = (x.0, (each_grows ns q x.0 x.1.0, chain_grows x.0 pc x.1.1))
    of_grows (Switch v arms) q pc x =
        (x.0, (arms_grow arms q x.0 x.1.0, choice_grows v arms x.0 pc x.1.1))
    of_grows (Ite vs c t f) q pc x =
        (x.0, x.1, x.2, (at_grows pc (I.If x.0 x.1 x.2) x.3.0, stands_grows c 0 x.0 x.3.1, stands_grows t q x.1 x.3.2, stands_grows f q x.2 x.3.3))
    of_grows (Not n) q pc x = (x.0, (at_grows pc (I.Not x.0 q) x.1.0, stands_grows n 0 x.0 x.1.1))
    of_grows (Exists vs n) q pc x = stands_grows n q pc x
    of_grows (Assign y z) q pc x = at_grows pc (I.Same y z q) x
    of_grows (Test y z) q pc x = at_grows pc (I.Same y z q) x
    of_grows (Build y f ys) q pc x = (x.0, (at_grows pc (I.Made y f x.0 q) x.1.0, variables_grow x.0 ys x.1.1))
    of_grows (Take y f ys) q pc x = (x.0, (at_grows pc (I.Made y f x.0 q) x.1.0, variables_grow x.0 ys x.1.1))
    of_grows (Const y v) q pc x = (x.0, (at_grows pc (I.Constant y x.0 q) x.1.0, value_grows x.0 v x.1.1))
    of_grows (TestConst y v) q pc x = (x.0, (at_grows pc (I.Constant y x.0 q) x.1.0, value_grows x.0 v x.1.1))
    of_grows (Call p xs implied last) q pc x =
        (x.0, (at_grows pc (I.Call p x.0 last q) x.1.0, variables_grow x.0 xs x.1.1))
    of_grows (Apply op xs ys) q pc x =
        (x.0, x.1, (at_grows pc (I.Apply op x.0 x.1 q) x.2.0, variables_grow x.0 xs x.2.1, variables_grow x.1 ys x.2.2))

    pub all_grows : (ns : Nodes) (q pc : ℕ) → StandsAll old ns q pc → StandsAll new ns q pc
    all_grows no_nodes q pc x = x
    all_grows (node_then n ns) q pc x = (x.0, (stands_grows n x.0 pc x.1.0, all_grows ns q x.0 x.1.1))

    pub each_grows : (ns : Nodes) (q : ℕ) (ps : List ℕ) → StandsEach old ns q ps → StandsEach new ns q ps
    each_grows no_nodes q [] x = tt
    each_grows no_nodes q (p ∷ ps) x = absurd x
    each_grows (node_then n ns) q [] x = absurd x
    each_grows (node_then n ns) q (p ∷ ps) x = (stands_grows n q p x.0, each_grows ns q ps x.1)

    pub arms_grow : (arms : Arms) (q : ℕ) (ps : List ℕ) → StandsArms old arms q ps → StandsArms new arms q ps
    arms_grow no_arms q [] x = tt
    arms_grow no_arms q (p ∷ ps) x = absurd x
    arms_grow (arm_then l n arms) q [] x = absurd x
    arms_grow (arm_then l n arms) q (p ∷ ps) x = (stands_grows n q p x.0, arms_grow arms q ps x.1)
