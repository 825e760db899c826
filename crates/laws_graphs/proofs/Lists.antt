-- Lists of variables on which two tests agree.
use Rattle.std.proofs.Common.{◌≡◌, ◌⊎◌, inl, inr, ℕ, Bool, true, false, cond, ◌&&◌, ◌||◌, List, [], ◌∷◌, ◌++◌, Option, Some, None, refl, ap, ap₂, ◌∙◌, subst, ⊎_elim}
use Rattle.std.specs.List.{list_any, list_all}
use Rattle.mc_model.specs.Flat as F
use Rattle.mc_model.specs.Flat.{Flat_goal, Flat_goals, no_flat, flat_then, variables_of, variables_of_all, free_in, free_in_all}
use Rattle.mc_model.specs.Lists.{In, is_in, without}
use Rattle.mc_accepted.specs.Least.{least, lesser}
use Rattle.mc_accepted.specs.Arranged.{ascending, placed, those_in}
use Rattle.laws_language.proofs.FlatGoals.{in_left, in_right, in_either}
use Rattle.laws_language.proofs.FlatWhole.{is_in_true}
use Rattle.laws_language.proofs.ClauseNumbers.{from_without}

abbrev pub Agree : (f g : ℕ → Bool) → List ℕ → Type 0
Agree f g xs = (x : ℕ) → In x xs → f x ≡ g x

pub any-agree : (f g : ℕ → Bool) (xs : List ℕ) → Agree f g xs → list_any f xs ≡ list_any g xs
any-agree f g [] h = refl
any-agree f g (x ∷ xs) h = ap₂ (λ p q. p || q) (h x (inl refl)) (any-agree f g xs (λ y i. h y (inr i)))

pub least-agree : (f g : ℕ → Bool) (xs : List ℕ) → Agree f g xs → least f xs ≡ least g xs
least-agree f g [] h = refl
least-agree f g (x ∷ xs) h = ap₂ (λ (t : Bool) (r : Option ℕ). cond t (Some (lesser x r)) r) (h x (inl refl)) (least-agree f g xs (λ y i. h y (inr i)))

pub ascending-agree : (f g : ℕ → Bool) (xs : List ℕ) → Agree f g xs → ascending f xs ≡ ascending g xs
ascending-agree f g [] h = refl
ascending-agree f g (x ∷ xs) h = ap₂ (λ (t : Bool) (r : List ℕ). cond t (placed x r) r) (h x (inl refl)) (ascending-agree f g xs (λ y i. h y (inr i)))

pub all-at : (f : ℕ → Bool) (xs : List ℕ) (x : ℕ) → list_all f xs ≡ true → In x xs → f x ≡ true
all-at f [] x e i = absurd i
all-at f (y ∷ ys) x e i = at (f y) refl e (λ q j. all-at f ys x q j)
  where
    at : (t : Bool) → f y ≡ t → (t && list_all f ys) ≡ true → (list_all f ys ≡ true → In x ys → f x ≡ true) → f x ≡ true
    at true q h r = ⊎_elim (λ e. ap f e ∙ q) (λ j. r h j) i
    at false q h r = absurd (cc h)

pub none-passes : (f : ℕ → Bool) (xs : List ℕ) (x : ℕ) → least f xs ≡ None → In x xs → f x ≡ false
none-passes f [] x e i = absurd i
none-passes f (y ∷ ys) x e i = at (f y) refl e (λ h j. none-passes f ys x h j)
  where
    at : (t : Bool) → f y ≡ t → cond t (Some (lesser y (least f ys))) (least f ys) ≡ None → (least f ys ≡ None → In x ys → f x ≡ false) → f x ≡ false
    at true q h r = absurd (cc h)
    at false q h r = ⊎_elim (λ e. ap f e ∙ q) (λ j. r h j) i

pub both-in : (xs ys : List ℕ) (x : ℕ) → is_in x xs ≡ true → is_in x ys ≡ true → In x (those_in xs ys)
both-in xs ys x e f = at xs (is_in_true x xs e)
  where
    at : (xs : List ℕ) → In x xs → In x (those_in xs ys)
    at [] i = absurd i
    at (z ∷ xs) i = here (is_in z ys) refl (⊎_elim (λ q. inl q) (λ j. inr (at xs j)) i)
      where
        here : (t : Bool) → is_in z ys ≡ t → (x ≡ z) ⊎ In x (those_in xs ys) → In x (cond t (z ∷ those_in xs ys) (those_in xs ys))
        here true q k = k
        here false q k = ⊎_elim (λ r. absurd (two (is_in z ys) q (subst (λ w. is_in w ys ≡ true) r f))) (λ j. j) k
          where
            two : (t : Bool) → t ≡ false → t ≡ true → ⊥
            two true p r = cc
            two false p r = cc

pub among-those : (xs O : List ℕ) (x : ℕ) → In x (those_in xs O) → In x xs
among-those [] O x i = i
among-those (y ∷ ys) O x i = at (is_in y O) i (among-those ys O x)
  where
    at : (t : Bool) → In x (cond t (y ∷ those_in ys O) (those_in ys O)) → (In x (those_in ys O) → In x ys) → In x (y ∷ ys)
    at true j f = ⊎_elim (λ e. inl e) (λ l. inr (f l)) j
    at false j f = inr (f j)

pub in-condition : (vs : List ℕ) (g h k : Flat_goal) (x : ℕ) → In x (variables_of g) → In x (variables_of (F.If vs g h k))
in-condition vs g h k x i = in_right x vs (variables_of g ++ (variables_of h ++ variables_of k)) (in_left x (variables_of g) (variables_of h ++ variables_of k) i)

pub in-then : (vs : List ℕ) (g h k : Flat_goal) (x : ℕ) → In x (variables_of h) → In x (variables_of (F.If vs g h k))
in-then vs g h k x i = in_right x vs (variables_of g ++ (variables_of h ++ variables_of k)) (in_right x (variables_of g) (variables_of h ++ variables_of k) (in_left x (variables_of h) (variables_of k) i))

pub in-else : (vs : List ℕ) (g h k : Flat_goal) (x : ℕ) → In x (variables_of k) → In x (variables_of (F.If vs g h k))
in-else vs g h k x i = in_right x vs (variables_of g ++ (variables_of h ++ variables_of k)) (in_right x (variables_of g) (variables_of h ++ variables_of k) (in_right x (variables_of h) (variables_of k) i))

-- a goal's free variables are among its variables
mutual
  pub free-among : (g : Flat_goal) (x : ℕ) → In x (free_in g) → In x (variables_of g)
  free-among (F.Same y z) x i = i
  free-among (F.Made y s ys) x i = i
  free-among (F.Is y v) x i = i
  free-among (F.Call p xs) x i = i
  free-among (F.And gs) x i = free-among-all gs x i
  free-among (F.Or gs) x i = free-among-all gs x i
  free-among (F.If vs g h k) x i =
      ⊎_elim
      (λ j. ⊎_elim (λ l. in-condition vs g h k x (free-among g x l)) (λ l. in-then vs g h k x (free-among h x l)) (in_either x (free_in g) (free_in h) (from_without x (free_in g ++ free_in h) vs j)))
      (λ j. in-else vs g h k x (free-among k x j)) (in_either x (without (free_in g ++ free_in h) vs) (free_in k) i)
  free-among (F.Not g) x i = free-among g x i
  free-among (F.Exists vs g) x i = in_right x vs (variables_of g) (free-among g x (from_without x (free_in g) vs i))

  free-among-all : (gs : Flat_goals) (x : ℕ) → In x (free_in_all gs) → In x (variables_of_all gs)
  free-among-all no_flat x i = i
  free-among-all (flat_then g gs) x i =
      ⊎_elim (λ j. in_left x (variables_of g) (variables_of_all gs) (free-among g x j)) (λ j. in_right x (variables_of g) (variables_of_all gs) (free-among-all gs x j)) (in_either x (free_in g) (free_in_all gs) i)
