-- Scopes of flat goals, and the variables of conjunctions, disjunctions and quantified goals.
use Rattle.std.proofs.Common.{◌≡◌, ◌⊎◌, inl, inr, ℕ, List, [], ◌∷◌, ◌++◌, refl, sym, ap, subst, ⊎_elim}
use Rattle.mc_model.specs.Flat as F
use Rattle.mc_model.specs.Flat.{Flat_goal, Flat_goals, no_flat, flat_then, flats, variables_of, variables_of_all, free_in, free_in_all}
use Rattle.mc_model.specs.Lists.{In, Apart, Among, without}
use Rattle.mc_accepted.specs.Normal.{listed_flats, conjuncts, all_conjuncts, one_or_and, conjunction, disjuncts, all_disjuncts, disjunction, around}
use Rattle.laws_order.specs.OrderLaws.{FlatScopes, PartsScoped, DisjunctsScoped}
use Rattle.laws_language.proofs.FlatGoals.{in_left, in_right, in_either, flats_listed}
use Rattle.laws_language.proofs.ClauseNumbers.{from_without}
use Rattle.laws_language.proofs.Scopes.{wider, out_of_without}

-- a list of both
pub both : (X Y Z : List ℕ) → Among X Z → Among Y Z → Among (X ++ Y) Z
both X Y Z f g x i = ⊎_elim (λ a. f x a) (λ b. g x b) (in_either x X Y i)

-- fewer variables outside
mutual
  pub fewer : (O V : List ℕ) (g : Flat_goal) → Among V O → FlatScopes O g → FlatScopes V g
  fewer O V (F.Same x y) a s = tt
  fewer O V (F.Made x f ys) a s = tt
  fewer O V (F.Is x v) a s = tt
  fewer O V (F.Call p xs) a s = tt
  fewer O V (F.And gs) a s = fewer_parts O V gs a s
  fewer O V (F.Or gs) a s = fewer_disjuncts O V gs a s
  fewer O V (F.If vs c t e) a s = (
    (λ x i j. s.0 x i (a x j)),
    fewer (O ++ (without (free_in c) vs ++ variables_of t)) (V ++ (without (free_in c) vs ++ variables_of t)) c (wider V O (without (free_in c) vs ++ variables_of t) a) s.1,
    fewer (O ++ variables_of c) (V ++ variables_of c) t (wider V O (variables_of c) a) s.2,
    fewer O V e a s.3,
  )
  fewer O V (F.Not g) a s = fewer (O ++ free_in g) (V ++ free_in g) g (wider V O (free_in g) a) s
  fewer O V (F.Exists vs g) a s = ((λ x i j. s.0 x i (a x j)), fewer O V g a s.1)

  pub fewer_parts : (O V : List ℕ) (gs : Flat_goals) → Among V O → PartsScoped O gs → PartsScoped V gs
  fewer_parts O V no_flat a s = tt
  fewer_parts O V (flat_then g gs) a s = (
    fewer (O ++ variables_of_all gs) (V ++ variables_of_all gs) g (wider V O (variables_of_all gs) a) s.0,
    fewer_parts (O ++ variables_of g) (V ++ variables_of g) gs (wider V O (variables_of g) a) s.1,
  )

  pub fewer_disjuncts : (O V : List ℕ) (gs : Flat_goals) → Among V O → DisjunctsScoped O gs → DisjunctsScoped V gs
  fewer_disjuncts O V no_flat a s = tt
  fewer_disjuncts O V (flat_then g gs) a s = (fewer O V g a s.0, fewer_disjuncts O V gs a s.1)

-- the variables, or the free ones, of goals
abbrev pub all : (Flat_goal → List ℕ) → List Flat_goal → List ℕ
all V [] = []
all V (g ∷ gs) = V g ++ all V gs

listed_flat : (gs : List Flat_goal) → listed_flats (flats gs) ≡ gs
listed_flat [] = refl
listed_flat (g ∷ gs) = ap (λ hs. g ∷ hs) (listed_flat gs)

pub variables_are : (gs : Flat_goals) → variables_of_all gs ≡ all variables_of (listed_flats gs)
variables_are no_flat = refl
variables_are (flat_then g gs) = ap (λ xs. variables_of g ++ xs) (variables_are gs)

pub free_are : (gs : Flat_goals) → free_in_all gs ≡ all free_in (listed_flats gs)
free_are no_flat = refl
free_are (flat_then g gs) = ap (λ xs. free_in g ++ xs) (free_are gs)

pub in_flats : (x : ℕ) (gs : List Flat_goal) → In x (variables_of_all (flats gs)) → In x (all variables_of gs)
in_flats x gs i = subst (λ hs. In x (all variables_of hs)) (listed_flat gs) (subst (λ xs. In x xs) (variables_are (flats gs)) i)

module _ (V : Flat_goal → List ℕ) where
  pub all_split : (x : ℕ) (gs hs : List Flat_goal) → In x (all V (gs ++ hs)) → In x (all V gs) ⊎ In x (all V hs)
  all_split x [] hs i = inr i
  all_split x (g ∷ gs) hs i =
      ⊎_elim (λ a. inl (in_left x (V g) (all V gs) a)) (λ b. ⊎_elim (λ c. inl (in_right x (V g) (all V gs) c)) (λ c. inr c) (all_split x gs hs b)) (in_either x (V g) (all V (gs ++ hs)) i)

  pub only_one : (x : ℕ) (g : Flat_goal) → In x (all V (g ∷ [])) → In x (V g)
  only_one x g i = ⊎_elim (λ a. a) (λ b. absurd b) (in_either x (V g) [] i)

  module _ (of_and : (gs : Flat_goals) → V (F.And gs) ≡ all V (listed_flats gs)) where
    conjunct_in : (x : ℕ) (g : Flat_goal) → In x (all V (conjuncts g)) → In x (V g)
    conjunct_in x (F.Same y z) i = only_one x (F.Same y z) i
    conjunct_in x (F.Made y f ys) i = only_one x (F.Made y f ys) i
    conjunct_in x (F.Is y v) i = only_one x (F.Is y v) i
    conjunct_in x (F.Call p ys) i = only_one x (F.Call p ys) i
    conjunct_in x (F.And gs) i = subst (λ xs. In x xs) (sym (of_and gs)) i
    conjunct_in x (F.Or gs) i = only_one x (F.Or gs) i
    conjunct_in x (F.If vs c t e) i = only_one x (F.If vs c t e) i
    conjunct_in x (F.Not g) i = only_one x (F.Not g) i
    conjunct_in x (F.Exists vs g) i = only_one x (F.Exists vs g) i

    conjuncts_in : (x : ℕ) (gs : List Flat_goal) → In x (all V (all_conjuncts gs)) → In x (all V gs)
    conjuncts_in x [] i = i
    conjuncts_in x (g ∷ gs) i = ⊎_elim (λ a. in_left x (V g) (all V gs) (conjunct_in x g a)) (λ b. in_right x (V g) (all V gs) (conjuncts_in x gs b)) (all_split x (conjuncts g) (all_conjuncts gs) i)

    as_one : (x : ℕ) (gs : List Flat_goal) → In x (V (F.And (flats gs))) → In x (all V gs)
    as_one x gs i = subst (λ hs. In x (all V hs)) (listed_flat gs) (subst (λ xs. In x xs) (of_and (flats gs)) i)

    one_in : (x : ℕ) (gs : List Flat_goal) → In x (V (one_or_and gs)) → In x (all V gs)
    one_in x [] i = as_one x [] i
    one_in x (g ∷ []) i = in_left x (V g) [] i
    one_in x (g ∷ h ∷ gs) i = as_one x (g ∷ h ∷ gs) i

    pub conjunction_in : (x : ℕ) (gs : List Flat_goal) → In x (V (conjunction gs)) → In x (all V gs)
    conjunction_in x gs i = conjuncts_in x gs (one_in x (all_conjuncts gs) i)

  module _ (of_or : (gs : Flat_goals) → V (F.Or gs) ≡ all V (listed_flats gs)) where
    disjunct_in : (x : ℕ) (g : Flat_goal) → In x (all V (disjuncts g)) → In x (V g)
    disjunct_in x (F.Same y z) i = only_one x (F.Same y z) i
    disjunct_in x (F.Made y f ys) i = only_one x (F.Made y f ys) i
    disjunct_in x (F.Is y v) i = only_one x (F.Is y v) i
    disjunct_in x (F.Call p ys) i = only_one x (F.Call p ys) i
    disjunct_in x (F.And gs) i = only_one x (F.And gs) i
    disjunct_in x (F.Or gs) i = subst (λ xs. In x xs) (sym (of_or gs)) i
    disjunct_in x (F.If vs c t e) i = only_one x (F.If vs c t e) i
    disjunct_in x (F.Not g) i = only_one x (F.Not g) i
    disjunct_in x (F.Exists vs g) i = only_one x (F.Exists vs g) i

    disjuncts_in : (x : ℕ) (gs : List Flat_goal) → In x (all V (all_disjuncts gs)) → In x (all V gs)
    disjuncts_in x [] i = i
    disjuncts_in x (g ∷ gs) i = ⊎_elim (λ a. in_left x (V g) (all V gs) (disjunct_in x g a)) (λ b. in_right x (V g) (all V gs) (disjuncts_in x gs b)) (all_split x (disjuncts g) (all_disjuncts gs) i)

    pub disjunction_in : (x : ℕ) (gs : List Flat_goal) → In x (V (disjunction gs)) → In x (all V gs)
    disjunction_in x gs i = disjuncts_in x gs (subst (λ hs. In x (all V hs)) (listed_flat (all_disjuncts gs)) (subst (λ xs. In x xs) (of_or (flats (all_disjuncts gs))) i))

-- goals around which variables are quantified
pub around_in : (x : ℕ) (vs : List ℕ) (g : Flat_goal) → In x (variables_of (around vs g)) → In x vs ⊎ In x (variables_of g)
around_in x [] g i = inr i
around_in x (v ∷ vs) g i = in_either x (v ∷ vs) (variables_of g) i

pub around_free : (x : ℕ) (vs : List ℕ) (g : Flat_goal) → In x (free_in (around vs g)) → In x (free_in g) × (In x vs → ⊥)
around_free x [] g i = (i, (λ j. j))
around_free x (v ∷ vs) g i = (from_without x (free_in g) (v ∷ vs) i, out_of_without x (free_in g) (v ∷ vs) i)

pub around_scoped : (O vs : List ℕ) (g : Flat_goal) → Apart vs O → FlatScopes O g → FlatScopes O (around vs g)
around_scoped O [] g a s = s
around_scoped O (v ∷ vs) g a s = (a, s)

-- the parts of a conjunction
abbrev vars : List Flat_goal → List ℕ
vars gs = variables_of_all (flats gs)

vars_split : (x : ℕ) (gs hs : List Flat_goal) → In x (vars (gs ++ hs)) → In x (vars gs ++ vars hs)
vars_split x [] hs i = i
vars_split x (g ∷ gs) hs i =
    ⊎_elim (λ a. in_left x (variables_of g ++ vars gs) (vars hs) (in_left x (variables_of g) (vars gs) a))
    (λ b. ⊎_elim (λ c. in_left x (variables_of g ++ vars gs) (vars hs) (in_right x (variables_of g) (vars gs) c)) (λ c. in_right x (variables_of g ++ vars gs) (vars hs) c) (in_either x (vars gs) (vars hs) (vars_split x gs hs b)))
    (in_either x (variables_of g) (vars (gs ++ hs)) i)

left : (X Y : List ℕ) → Among X (X ++ Y)
left X Y x i = in_left x X Y i

right : (X Y : List ℕ) → Among Y (X ++ Y)
right X Y x i = in_right x X Y i

-- two behind another
last_first : (X Y Z : List ℕ) → Among (X ++ (Y ++ Z)) ((X ++ Z) ++ Y)
last_first X Y Z =
    both X (Y ++ Z) ((X ++ Z) ++ Y) (λ x i. in_left x (X ++ Z) Y (in_left x X Z i))
    (both Y Z ((X ++ Z) ++ Y) (right (X ++ Z) Y) (λ x i. in_left x (X ++ Z) Y (in_right x X Z i)))

swapped : (X Y Z : List ℕ) → Among ((X ++ Y) ++ Z) ((X ++ Z) ++ Y)
swapped X Y Z =
    both (X ++ Y) Z ((X ++ Z) ++ Y) (both X Y ((X ++ Z) ++ Y) (λ x i. in_left x (X ++ Z) Y (in_left x X Z i)) (right (X ++ Z) Y))
    (λ x i. in_left x (X ++ Z) Y (in_right x X Z i))

grouped : (X Y Z : List ℕ) → Among ((X ++ Y) ++ Z) (X ++ (Y ++ Z))
grouped X Y Z =
    both (X ++ Y) Z (X ++ (Y ++ Z)) (both X Y (X ++ (Y ++ Z)) (left X (Y ++ Z)) (λ x i. in_right x X (Y ++ Z) (in_left x Y Z i)))
    (λ x i. in_right x X (Y ++ Z) (in_right x Y Z i))

pub parts_joined : (O : List ℕ) (gs hs : List Flat_goal) → PartsScoped (O ++ vars hs) (flats gs) → PartsScoped (O ++ vars gs) (flats hs) → PartsScoped O (flats (gs ++ hs))
parts_joined O [] hs p q = fewer_parts (O ++ []) O (flats hs) (left O []) q
parts_joined O (g ∷ gs) hs p q = (
  fewer ((O ++ vars hs) ++ vars gs) (O ++ vars (gs ++ hs)) g
      (both O (vars (gs ++ hs)) ((O ++ vars hs) ++ vars gs) (λ x i. in_left x (O ++ vars hs) (vars gs) (in_left x O (vars hs) i))
      (λ x i. last_first O (vars gs) (vars hs) x (in_right x O (vars gs ++ vars hs) (vars_split x gs hs i)))) p.0,
  parts_joined (O ++ variables_of g) gs hs (fewer_parts ((O ++ vars hs) ++ variables_of g) ((O ++ variables_of g) ++ vars hs) (flats gs) (swapped O (variables_of g) (vars hs)) p.1)
      (fewer_parts (O ++ (variables_of g ++ vars gs)) ((O ++ variables_of g) ++ vars gs) (flats hs) (grouped O (variables_of g) (vars gs)) q),
)

pub one_part : (O : List ℕ) (g : Flat_goal) → FlatScopes O g → PartsScoped O (flats (g ∷ []))
one_part O g s = (fewer O (O ++ []) g (both O [] O (λ x i. i) (λ x i. absurd i)) s, tt)

conjunct_scoped : (O : List ℕ) (g : Flat_goal) → FlatScopes O g → PartsScoped O (flats (conjuncts g))
conjunct_scoped O (F.Same y z) s = one_part O (F.Same y z) s
conjunct_scoped O (F.Made y f ys) s = one_part O (F.Made y f ys) s
conjunct_scoped O (F.Is y v) s = one_part O (F.Is y v) s
conjunct_scoped O (F.Call p ys) s = one_part O (F.Call p ys) s
conjunct_scoped O (F.And gs) s = subst (λ hs. PartsScoped O hs) (sym (flats_listed gs)) s
conjunct_scoped O (F.Or gs) s = one_part O (F.Or gs) s
conjunct_scoped O (F.If vs c t e) s = one_part O (F.If vs c t e) s
conjunct_scoped O (F.Not g) s = one_part O (F.Not g) s
conjunct_scoped O (F.Exists vs g) s = one_part O (F.Exists vs g) s

listed_vars : (x : ℕ) (gs : List Flat_goal) → In x (all variables_of gs) → In x (vars gs)
listed_vars x [] i = i
listed_vars x (g ∷ gs) i = ⊎_elim (λ a. in_left x (variables_of g) (vars gs) a) (λ b. in_right x (variables_of g) (vars gs) (listed_vars x gs b)) (in_either x (variables_of g) (all variables_of gs) i)

conjunct_vars : (x : ℕ) (g : Flat_goal) → In x (vars (conjuncts g)) → In x (variables_of g)
conjunct_vars x g i = conjunct_in variables_of variables_are x g (in_flats x (conjuncts g) i)

conjuncts_vars : (x : ℕ) (gs : List Flat_goal) → In x (vars (all_conjuncts gs)) → In x (vars gs)
conjuncts_vars x gs i = listed_vars x gs (conjuncts_in variables_of variables_are x gs (in_flats x (all_conjuncts gs) i))

beside : (O X Y : List ℕ) → Among X Y → Among (O ++ X) (O ++ Y)
beside O X Y f = both O X (O ++ Y) (left O Y) (λ x i. in_right x O Y (f x i))

conjuncts_scoped : (O : List ℕ) (gs : List Flat_goal) → PartsScoped O (flats gs) → PartsScoped O (flats (all_conjuncts gs))
conjuncts_scoped O [] s = tt
conjuncts_scoped O (g ∷ gs) s =
    parts_joined O (conjuncts g) (all_conjuncts gs)
    (fewer_parts (O ++ vars gs) (O ++ vars (all_conjuncts gs)) (flats (conjuncts g)) (beside O (vars (all_conjuncts gs)) (vars gs) (λ x i. conjuncts_vars x gs i)) (conjunct_scoped (O ++ vars gs) g s.0))
    (fewer_parts (O ++ variables_of g) (O ++ vars (conjuncts g)) (flats (all_conjuncts gs)) (beside O (vars (conjuncts g)) (variables_of g) (λ x i. conjunct_vars x g i)) (conjuncts_scoped (O ++ variables_of g) gs s.1))

one_scoped : (O : List ℕ) (gs : List Flat_goal) → PartsScoped O (flats gs) → FlatScopes O (one_or_and gs)
one_scoped O [] s = tt
one_scoped O (g ∷ []) s = fewer (O ++ []) O g (left O []) s.0
one_scoped O (g ∷ h ∷ gs) s = s

pub conjunction_scoped : (O : List ℕ) (gs : List Flat_goal) → PartsScoped O (flats gs) → FlatScopes O (conjunction gs)
conjunction_scoped O gs s = one_scoped O (all_conjuncts gs) (conjuncts_scoped O gs s)

-- and of a disjunction
disjunct_scoped : (O : List ℕ) (g : Flat_goal) → FlatScopes O g → DisjunctsScoped O (flats (disjuncts g))
disjunct_scoped O (F.Same y z) s = (s, tt)
disjunct_scoped O (F.Made y f ys) s = (s, tt)
disjunct_scoped O (F.Is y v) s = (s, tt)
disjunct_scoped O (F.Call p ys) s = (s, tt)
disjunct_scoped O (F.And gs) s = (s, tt)
disjunct_scoped O (F.Or gs) s = subst (λ hs. DisjunctsScoped O hs) (sym (flats_listed gs)) s
disjunct_scoped O (F.If vs c t e) s = (s, tt)
disjunct_scoped O (F.Not g) s = (s, tt)
disjunct_scoped O (F.Exists vs g) s = (s, tt)

disjuncts_joined : (O : List ℕ) (gs hs : List Flat_goal) → DisjunctsScoped O (flats gs) → DisjunctsScoped O (flats hs) → DisjunctsScoped O (flats (gs ++ hs))
disjuncts_joined O [] hs p q = q
disjuncts_joined O (g ∷ gs) hs p q = (p.0, disjuncts_joined O gs hs p.1 q)

disjuncts_scoped : (O : List ℕ) (gs : List Flat_goal) → DisjunctsScoped O (flats gs) → DisjunctsScoped O (flats (all_disjuncts gs))
disjuncts_scoped O [] s = tt
disjuncts_scoped O (g ∷ gs) s = disjuncts_joined O (disjuncts g) (all_disjuncts gs) (disjunct_scoped O g s.0) (disjuncts_scoped O gs s.1)

pub disjunction_scoped : (O : List ℕ) (gs : List Flat_goal) → DisjunctsScoped O (flats gs) → FlatScopes O (disjunction gs)
disjunction_scoped O gs s = disjuncts_scoped O gs s
