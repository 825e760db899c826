-- What flat conjunctions, and flat goals under made variables, say of their parts.
use Rattle.std.proofs.Common.{◌≡◌, ◌⊎◌, inl, inr, ℕ, List, [], ◌∷◌, ◌++◌, refl, sym, ap, subst, ⊎_elim}
use Rattle.mc_model.specs.Truth.{Assignment, SameOff, Facts}
use Rattle.mc_model.specs.Flat as F
use Rattle.mc_model.specs.Flat.{Flat_goal, Flat_goals, no_flat, flat_then, FlatYes, FlatNo, FlatAllYes, FlatOneNo}
use Rattle.mc_model.specs.Flat.{flats}
use Rattle.mc_accepted.specs.Normal.{listed_flats, conjuncts, all_conjuncts, one_or_and, conjunction, around}
use Rattle.mc_model.specs.Lists.{In}

pub in_left : (x : ℕ) (xs ys : List ℕ) → In x xs → In x (xs ++ ys)
in_left x [] ys h = absurd h
in_left x (y ∷ xs) ys h = ⊎_elim (λ e. inl e) (λ i. inr (in_left x xs ys i)) h

pub in_right : (x : ℕ) (xs ys : List ℕ) → In x ys → In x (xs ++ ys)
in_right x [] ys h = h
in_right x (y ∷ xs) ys h = inr (in_right x xs ys h)

pub in_either : (x : ℕ) (xs ys : List ℕ) → In x (xs ++ ys) → In x xs ⊎ In x ys
in_either x [] ys h = inr h
in_either x (y ∷ xs) ys h = ⊎_elim (λ e. inl (inl e)) (λ i. ⊎_elim (λ a. inl (inr a)) (λ b. inr b) (in_either x xs ys i)) h

pub flats_listed : (gs : Flat_goals) → flats (listed_flats gs) ≡ gs
flats_listed no_flat = refl
flats_listed (flat_then g gs) = ap (flat_then g) (flats_listed gs)

module _ (C : Facts) (u : Assignment) where
  abbrev pub AllFlatYes : List Flat_goal → Type 0
  AllFlatYes gs = FlatAllYes C (flats gs) u

  abbrev pub OneFlatNo : List Flat_goal → Type 0
  OneFlatNo gs = FlatOneNo C (flats gs) u

  pub all_split : (gs hs : List Flat_goal) → AllFlatYes (gs ++ hs) → AllFlatYes gs × AllFlatYes hs
  all_split [] hs y = (tt, y)
  all_split (g ∷ gs) hs y = let z = all_split gs hs y.1 in ((y.0, z.0), z.1)

  pub one_split : (gs hs : List Flat_goal) → OneFlatNo (gs ++ hs) → OneFlatNo gs ⊎ OneFlatNo hs
  one_split [] hs n = inr n
  one_split (g ∷ gs) hs n = ⊎_elim (λ a. inl (inl a)) (λ b. ⊎_elim (λ a. inl (inr a)) (λ b. inr b) (one_split gs hs b)) n

  conjunct_yes : (g : Flat_goal) → AllFlatYes (conjuncts g) → FlatYes C g u
  conjunct_yes (F.Same x y) h = h.0
  conjunct_yes (F.Made x f ys) h = h.0
  conjunct_yes (F.Is x v) h = h.0
  conjunct_yes (F.Call p xs) h = h.0
  conjunct_yes (F.And gs) h = subst (λ hs. FlatAllYes C hs u) (flats_listed gs) h
  conjunct_yes (F.Or gs) h = h.0
  conjunct_yes (F.If vs c t e) h = h.0
  conjunct_yes (F.Not g) h = h.0
  conjunct_yes (F.Exists vs g) h = h.0

  conjunct_no : (g : Flat_goal) → OneFlatNo (conjuncts g) → FlatNo C g u
  conjunct_no (F.Same x y) h = ⊎_elim (λ a. a) (λ b. absurd b) h
  conjunct_no (F.Made x f ys) h = ⊎_elim (λ a. a) (λ b. absurd b) h
  conjunct_no (F.Is x v) h = ⊎_elim (λ a. a) (λ b. absurd b) h
  conjunct_no (F.Call p xs) h = ⊎_elim (λ a. a) (λ b. absurd b) h
  conjunct_no (F.And gs) h = subst (λ hs. FlatOneNo C hs u) (flats_listed gs) h
  conjunct_no (F.Or gs) h = ⊎_elim (λ a. a) (λ b. absurd b) h
  conjunct_no (F.If vs c t e) h = ⊎_elim (λ a. a) (λ b. absurd b) h
  conjunct_no (F.Not g) h = ⊎_elim (λ a. a) (λ b. absurd b) h
  conjunct_no (F.Exists vs g) h = ⊎_elim (λ a. a) (λ b. absurd b) h

  conjuncts_yes : (gs : List Flat_goal) → AllFlatYes (all_conjuncts gs) → AllFlatYes gs
  conjuncts_yes [] y = tt
  conjuncts_yes (g ∷ gs) y = let z = all_split (conjuncts g) (all_conjuncts gs) y in (conjunct_yes g z.0, conjuncts_yes gs z.1)

  conjuncts_no : (gs : List Flat_goal) → OneFlatNo (all_conjuncts gs) → OneFlatNo gs
  conjuncts_no [] n = n
  conjuncts_no (g ∷ gs) n = ⊎_elim (λ a. inl (conjunct_no g a)) (λ b. inr (conjuncts_no gs b)) (one_split (conjuncts g) (all_conjuncts gs) n)

  alone_yes : (gs : List Flat_goal) → FlatYes C (one_or_and gs) u → AllFlatYes gs
  alone_yes [] y = tt
  alone_yes (g ∷ []) y = (y, tt)
  alone_yes (g ∷ h ∷ gs) y = y

  alone_no : (gs : List Flat_goal) → FlatNo C (one_or_and gs) u → OneFlatNo gs
  alone_no [] n = n
  alone_no (g ∷ []) n = inl n
  alone_no (g ∷ h ∷ gs) n = n

  -- a conjunction is true where all its goals are, and false where one is
  pub conjunction_yes : (gs : List Flat_goal) → FlatYes C (conjunction gs) u → AllFlatYes gs
  conjunction_yes gs y = conjuncts_yes gs (alone_yes (all_conjuncts gs) y)

  pub conjunction_no : (gs : List Flat_goal) → FlatNo C (conjunction gs) u → OneFlatNo gs
  conjunction_no gs n = conjuncts_no gs (alone_no (all_conjuncts gs) n)

-- a goal around which variables are quantified is true for one choice of their values, and false for each
pub around_yes : (C : Facts) (vs : List ℕ) (g : Flat_goal) (u : Assignment) → FlatYes C (around vs g) u → (w : Assignment) × SameOff vs u w × FlatYes C g w
around_yes C [] g u y = (u, (λ x n. refl), y)
around_yes C (v ∷ vs) g u y = y

pub around_no : (C : Facts) (vs : List ℕ) (g : Flat_goal) (u w : Assignment) → SameOff vs u w → FlatNo C (around vs g) u → FlatNo C g w
around_no C [] g u w same n = let e : u ≡ w = (λ i. λ x. sym (same x (λ h. h)) i) in subst (FlatNo C g) e n
around_no C (v ∷ vs) g u w same n = n w same
