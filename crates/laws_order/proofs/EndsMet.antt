-- The order of a procedure's goal, and what its end meets.
use Rattle.std.proofs.Common.{◌≡◌, inl, inr, ℕ, suc, ◌≤◌, Bool, true, false, cond, nat_eq, List, [], ◌∷◌, length, Option, Some, None, refl, ap, sym, ◌∙◌, subst}
use Rattle.std.proofs.Math.Path.{fun_ext}
use Rattle.std.proofs.Math.Nat.{not-le_of_lt}
use Rattle.std.proofs.lemmas.Bool.{eqb-true}
use Rattle.mc_program.specs.Programs.{TypeTerm, Source}
use Rattle.mc_model.specs.Flat.{Flat_goal, variables_of}
use Rattle.mc_model.specs.Lists.{In}
use Rattle.mc_model.specs.Scheduled.{Node, Nodes, no_nodes, node_then, Procedure}
use Rattle.mc_model.specs.Good.{System}
use Rattle.mc_accepted.specs.Fits.{type_of}
use Rattle.mc_accepted.specs.Accepted.{entered, Final, FinalAfter}
use Rattle.mc_accepted.specs.Ordered.{Insts}
use Rattle.mc_accepted.specs.Arranged.{Declared, Arranged, runs, breaks, in_order, unless_unmet, alone, trial, first_unmet, judged, entry}
use Rattle.mc_accepted.specs.NodeOracle.{NodeOracle, of_nodes}
use Rattle.mc_accepted.specs.FreshTests.{TestsAlike, AllAlike}
use Rattle.mc_accepted.specs.Tidy.{Tidy}
use Rattle.mc_accepted.specs.Typing.{TypedGoal}
use Rattle.mc_accepted.specs.code.Truthful.{Truthful, AllDeclared}
use Rattle.mc_accepted.specs.code.Standing.{Standing}
use Rattle.laws_order.specs.OrderLaws.{Below, FlatScopes, IsOrderOf, InOrderIsOrdered}
use Rattle.laws_order.specs.Tidying.{EndsTidily, TidyPoint}
use Rattle.laws_order.proofs.ArrangedGoals.{arranged-stands}
use Rattle.laws_order.proofs.MarkedGoals.{standing-is-ordered}

entered-off : (xs is : List ℕ) (x : ℕ) → (In x xs → ⊥) → entered xs is x ≡ 0
entered-off [] is x n = refl
entered-off (y ∷ ys) [] x n = refl
entered-off (y ∷ ys) (i ∷ is) x n = by_test (nat_eq x y) (eqb-true x y) (entered-off ys is x (λ h. n (inr h)))
  where
    by_test : (t : Bool) → (t ≡ true → x ≡ y) → entered ys is x ≡ 0 → cond t i (entered ys is x) ≡ 0
    by_test true e later = absurd (n (inl (e refl)))
    by_test false e later = later

module _ (Y : System) (p : Procedure) (C : NodeOracle) (declared : ℕ → List Declared) (truth : Truthful Y (type_of Y p) C) (known : (q : ℕ) → (Y.world.source.preds q).builtin ≡ None → AllDeclared Y (type_of Y p) q (declared q)) (tidily : EndsTidily Y) where
  abbrev P : Source
  P = Y.world.source

  abbrev T : ℕ → TypeTerm
  T = type_of Y p

  entry-at : (xs is : List ℕ) (x : ℕ) → entry (of_nodes C) P declared T xs is x ≡ entered xs is x
  entry-at [] is x = refl
  entry-at (y ∷ ys) [] x = refl
  entry-at (y ∷ ys) (i ∷ is) x = ap (λ k. cond (nat_eq x y) i k) (entry-at ys is x)

  ends-met : (k : ℕ) (xs ls : List ℕ) (c : Insts) → length ls ≡ length xs → first_unmet (of_nodes C) P declared T k xs ls c ≡ None → Final Y p xs ls c
  ends-met k [] [] c e u = tt
  ends-met k [] (l ∷ ls) c e u = cc
  ends-met k (x ∷ xs) [] c e u = cc
  ends-met k (x ∷ xs) (l ∷ ls) c e u = at (C.fits (c x) l (T x)) refl u (λ v. ends-met (suc k) xs ls c (let q : suc (length ls) ≡ suc (length xs) = e in cc) v)
    where
      at : (t : Bool) → C.fits (c x) l (T x) ≡ t → cond t (first_unmet (of_nodes C) P declared T (suc k) xs ls c) (Some k) ≡ None → (first_unmet (of_nodes C) P declared T (suc k) xs ls c ≡ None → Final Y p xs ls c) → Final Y p (x ∷ xs) (l ∷ ls) c
      at true q h f = (truth.fits (c x) l (T x) q, f h)
      at false q h f = cc

  module _ (n : ℕ) (g : Flat_goal) (x : Node) (same_length : length p.last ≡ length p.head) (bo : Below n p.head) (bg : Below n (variables_of g)) (sc : FlatScopes p.head g) (ty : TypedGoal Y.world.source (type_of Y p) g) (tidy : TidyPoint Y (type_of Y p) (entered p.head p.first)) where
    abbrev first_insts : Insts
    first_insts = entry (of_nodes C) P declared T p.head p.first

    free_on : (y : ℕ) → n ≤ y → first_insts y ≡ 0
    free_on y le = entry-at p.head p.first y ∙ entered-off p.head p.first y (λ i. not-le_of_lt (bo y i) le)

    tidy_first : TidyPoint Y T first_insts
    tidy_first y = subst (λ i. Tidy P Y.insts i (T y)) (sym (entry-at p.head p.first y)) (tidy y)

    abbrev alone_at : ℕ → Option Insts → Nodes → Node
    alone_at m o gs = alone (of_nodes C) m first_insts o gs

    as-ordered : (gs : Nodes) (o : Option Insts) (m : ℕ) → Standing Y T p.head n first_insts g (alone_at m o gs) o m → in_order (alone_at m o gs) ≡ in_order x → TestsAlike T n x → IsOrderOf Y T p.head p.head (entered p.head p.first) g x o
    as-ordered gs o m s e al =
        subst (λ b. IsOrderOf Y T p.head p.head b g x o) (fun_ext (entry-at p.head p.first))
        (subst (λ k. IsOrderOf Y T p.head p.head first_insts g k o) is-it (standing-is-ordered Y T p.head p.head n m first_insts g (alone_at m o gs) o s (subst (λ k. TestsAlike T n k) (sym is-it) al) bo bg sc (λ y i. inl (bo y i)) free_on))
      where
        is-it : alone_at m o gs ≡ x
        is-it = (let q : in_order (alone_at m o gs) ≡ in_order x = e in cc)

    -- a goal that stands alone in the order has tests alike
    parts-alike : (m : ℕ) (o : Option Insts) (gs : Nodes) → TestsAlike T n (alone_at m o gs) → AllAlike T n gs
    parts-alike m o no_nodes h = tt
    parts-alike m o (node_then g no_nodes) h = (h, tt)
    parts-alike m o (node_then g (node_then k gs)) h = h

    stands : (gs : Nodes) (o : Option Insts) (m : ℕ) (zs : List ℕ) → trial (of_nodes C) P declared T g p.head n first_insts ≡ runs gs o m zs → in_order (alone_at m o gs) ≡ in_order x → TestsAlike T n x → Standing Y T p.head n first_insts g (alone_at m o gs) o m
    stands gs o m zs q e al =
        arranged-stands Y T C declared truth known tidily g p.head n first_insts gs o m zs ty tidy_first q
        (let same : alone_at m o gs ≡ x = (let r : in_order (alone_at m o gs) ≡ in_order x = e in cc) in parts-alike m o gs (subst (λ k. TestsAlike T n k) (sym same) al))

    abbrev Found : Type 0
    Found = (o : Option Insts) × IsOrderOf Y T p.head p.head (entered p.head p.first) g x o × FinalAfter Y p o

    found : (r : Arranged ℕ) → trial (of_nodes C) P declared T g p.head n first_insts ≡ r → judged (of_nodes C) P declared T p.head p.last first_insts r ≡ in_order x → TestsAlike T n x → Found
    found (breaks f) q e al = cc
    found (runs gs None m zs) q e al = (None, as-ordered gs None m (stands gs None m zs q e al) e al, tt)
    found (runs gs (Some c) m zs) q e al = at (first_unmet (of_nodes C) P declared T 0 p.head p.last c) refl e
      where
        at : (r : Option ℕ) → first_unmet (of_nodes C) P declared T 0 p.head p.last c ≡ r → unless_unmet (alone_at m (Some c) gs) r ≡ in_order x → Found
        at None u h = (Some c, as-ordered gs (Some c) m (stands gs (Some c) m zs q h al) h al, ends-met 0 p.head p.last c same_length u)
        at (Some k) u h = cc

pub in-order-is-ordered : InOrderIsOrdered
in-order-is-ordered S p C declared truth known tidily n g x len bo bg sc ty tidy e al = found S p C declared truth known tidily n g x len bo bg sc ty tidy (trial (of_nodes C) S.world.source declared (type_of S p) g p.head n (entry (of_nodes C) S.world.source declared (type_of S p) p.head p.first)) refl e al
