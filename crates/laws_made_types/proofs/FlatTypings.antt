-- What typings of flat goals say of lists of goals, and lists of types.
use Rattle.std.proofs.Common.{◌≡◌, ℕ, suc, ◌+◌, ◌-◌, List, [], ◌∷◌, ◌++◌, length, take, drop, ap, ◌∙◌, subst, arith, length-append}
use Rattle.std.proofs.Math.Seq.{drop-append_seam, take-append_seam}
use Rattle.mc_program.specs.Programs.{TypeTerm, Source}
use Rattle.mc_model.specs.Flat as F
use Rattle.mc_model.specs.Flat.{Flat_goal, Flat_goals, no_flat, flat_then, flats}
use Rattle.mc_accepted.specs.Typing.{TypedGoal, TypedGoals}
use Rattle.mc_accepted.specs.Normal.{listed_flats, conjuncts, all_conjuncts, one_or_and, conjunction, disjuncts, all_disjuncts, disjunction, around}
use Rattle.mc_accepted.specs.Resolving.{topmost, below}
use Rattle.laws_made_types.specs.Traced.{HasTypes}

pub has_first : (T : ℕ → TypeTerm) (n : ℕ) (ts us : List TypeTerm) → HasTypes T n (ts ++ us) → HasTypes T n ts
has_first T n [] us h = tt
has_first T n (t ∷ ts) us h = (h.0, has_first T (suc n) ts us h.1)

pub has_second : (T : ℕ → TypeTerm) (n m : ℕ) (ts us : List TypeTerm) → m ≡ n + length ts → HasTypes T n (ts ++ us) → HasTypes T m us
has_second T n m [] us e h = let s : n ≡ m = omega (arith, e) in subst (λ k. HasTypes T k us) s h
has_second T n m (t ∷ ts) us e h = has_second T (suc n) m ts us (omega (arith, e)) h.1

pub has_both : (T : ℕ → TypeTerm) (n m : ℕ) (ts us : List TypeTerm) → m ≡ n + length ts → HasTypes T n ts → HasTypes T m us → HasTypes T n (ts ++ us)
has_both T n m [] us e h k = let s : m ≡ n = omega (arith, e) in subst (λ j. HasTypes T j us) s k
has_both T n m (t ∷ ts) us e h k = (h.0, has_both T (suc n) m ts us (omega (arith, e)) h.1 k)

pub has_none : (T : ℕ → TypeTerm) (n : ℕ) (ts : List TypeTerm) → length ts ≡ 0 → HasTypes T n ts
has_none T n [] e = tt
has_none T n (t ∷ ts) e = absurd (omega (arith, e))

-- the top of a stack
top_count : (stack ts : List TypeTerm) (n : ℕ) → length ts ≡ n → length (stack ++ ts) - n ≡ length stack
top_count stack ts n e = omega (arith, e, length-append stack ts)

pub topmost_is : (stack ts : List TypeTerm) (n : ℕ) → length ts ≡ n → topmost n (stack ++ ts) ≡ ts
topmost_is stack ts n e = ap (λ k. drop k (stack ++ ts)) (top_count stack ts n e) ∙ drop-append_seam stack ts

pub below_is : (stack ts : List TypeTerm) (n : ℕ) → length ts ≡ n → below n (stack ++ ts) ≡ stack
below_is stack ts n e = ap (λ k. take k (stack ++ ts)) (top_count stack ts n e) ∙ take-append_seam stack ts

module _ (P : Source) (T : ℕ → TypeTerm) where
  abbrev pub AllTyped : List Flat_goal → Type 0
  AllTyped gs = TypedGoals P T (flats gs)

  pub join : (gs hs : List Flat_goal) → AllTyped gs → AllTyped hs → AllTyped (gs ++ hs)
  join [] hs x y = y
  join (g ∷ gs) hs x y = (x.0, join gs hs x.1 y)

  pub split : (gs hs : List Flat_goal) → AllTyped (gs ++ hs) → AllTyped gs × AllTyped hs
  split [] hs y = (tt, y)
  split (g ∷ gs) hs y = let z = split gs hs y.1 in ((y.0, z.0), z.1)

  listed : (gs : Flat_goals) → TypedGoals P T gs → AllTyped (listed_flats gs)
  listed no_flat y = tt
  listed (flat_then g gs) y = (y.0, listed gs y.1)

  unlisted : (gs : Flat_goals) → AllTyped (listed_flats gs) → TypedGoals P T gs
  unlisted no_flat y = tt
  unlisted (flat_then g gs) y = (y.0, unlisted gs y.1)

  to_conjuncts : (g : Flat_goal) → TypedGoal P T g → AllTyped (conjuncts g)
  to_conjuncts (F.Same x y) h = (h, tt)
  to_conjuncts (F.Made x f ys) h = (h, tt)
  to_conjuncts (F.Is x v) h = (h, tt)
  to_conjuncts (F.Call p xs) h = (h, tt)
  to_conjuncts (F.And gs) h = listed gs h
  to_conjuncts (F.Or gs) h = (h, tt)
  to_conjuncts (F.If vs c t e) h = (h, tt)
  to_conjuncts (F.Not g) h = (h, tt)
  to_conjuncts (F.Exists vs g) h = (h, tt)

  from_conjuncts : (g : Flat_goal) → AllTyped (conjuncts g) → TypedGoal P T g
  from_conjuncts (F.Same x y) h = h.0
  from_conjuncts (F.Made x f ys) h = h.0
  from_conjuncts (F.Is x v) h = h.0
  from_conjuncts (F.Call p xs) h = h.0
  from_conjuncts (F.And gs) h = unlisted gs h
  from_conjuncts (F.Or gs) h = h.0
  from_conjuncts (F.If vs c t e) h = h.0
  from_conjuncts (F.Not g) h = h.0
  from_conjuncts (F.Exists vs g) h = h.0

  to_disjuncts : (g : Flat_goal) → TypedGoal P T g → AllTyped (disjuncts g)
  to_disjuncts (F.Same x y) h = (h, tt)
  to_disjuncts (F.Made x f ys) h = (h, tt)
  to_disjuncts (F.Is x v) h = (h, tt)
  to_disjuncts (F.Call p xs) h = (h, tt)
  to_disjuncts (F.And gs) h = (h, tt)
  to_disjuncts (F.Or gs) h = listed gs h
  to_disjuncts (F.If vs c t e) h = (h, tt)
  to_disjuncts (F.Not g) h = (h, tt)
  to_disjuncts (F.Exists vs g) h = (h, tt)

  from_disjuncts : (g : Flat_goal) → AllTyped (disjuncts g) → TypedGoal P T g
  from_disjuncts (F.Same x y) h = h.0
  from_disjuncts (F.Made x f ys) h = h.0
  from_disjuncts (F.Is x v) h = h.0
  from_disjuncts (F.Call p xs) h = h.0
  from_disjuncts (F.And gs) h = h.0
  from_disjuncts (F.Or gs) h = unlisted gs h
  from_disjuncts (F.If vs c t e) h = h.0
  from_disjuncts (F.Not g) h = h.0
  from_disjuncts (F.Exists vs g) h = h.0

  to_all_conjuncts : (gs : List Flat_goal) → AllTyped gs → AllTyped (all_conjuncts gs)
  to_all_conjuncts [] y = tt
  to_all_conjuncts (g ∷ gs) y = join (conjuncts g) (all_conjuncts gs) (to_conjuncts g y.0) (to_all_conjuncts gs y.1)

  from_all_conjuncts : (gs : List Flat_goal) → AllTyped (all_conjuncts gs) → AllTyped gs
  from_all_conjuncts [] y = tt
  from_all_conjuncts (g ∷ gs) y = let z = split (conjuncts g) (all_conjuncts gs) y in (from_conjuncts g z.0, from_all_conjuncts gs z.1)

  to_all_disjuncts : (gs : List Flat_goal) → AllTyped gs → AllTyped (all_disjuncts gs)
  to_all_disjuncts [] y = tt
  to_all_disjuncts (g ∷ gs) y = join (disjuncts g) (all_disjuncts gs) (to_disjuncts g y.0) (to_all_disjuncts gs y.1)

  from_all_disjuncts : (gs : List Flat_goal) → AllTyped (all_disjuncts gs) → AllTyped gs
  from_all_disjuncts [] y = tt
  from_all_disjuncts (g ∷ gs) y = let z = split (disjuncts g) (all_disjuncts gs) y in (from_disjuncts g z.0, from_all_disjuncts gs z.1)

  to_one : (gs : List Flat_goal) → AllTyped gs → TypedGoal P T (one_or_and gs)
  to_one [] y = tt
  to_one (g ∷ []) y = y.0
  to_one (g ∷ h ∷ gs) y = y

  from_one : (gs : List Flat_goal) → TypedGoal P T (one_or_and gs) → AllTyped gs
  from_one [] y = tt
  from_one (g ∷ []) y = (y, tt)
  from_one (g ∷ h ∷ gs) y = y

  -- a conjunction, a disjunction, and a goal with variables quantified around it are typed where their parts are
  pub to_conjunction : (gs : List Flat_goal) → AllTyped gs → TypedGoal P T (conjunction gs)
  to_conjunction gs y = to_one (all_conjuncts gs) (to_all_conjuncts gs y)

  pub from_conjunction : (gs : List Flat_goal) → TypedGoal P T (conjunction gs) → AllTyped gs
  from_conjunction gs y = from_all_conjuncts gs (from_one (all_conjuncts gs) y)

  pub to_disjunction : (gs : List Flat_goal) → AllTyped gs → TypedGoal P T (disjunction gs)
  to_disjunction gs y = to_all_disjuncts gs y

  pub from_disjunction : (gs : List Flat_goal) → TypedGoal P T (disjunction gs) → AllTyped gs
  from_disjunction gs y = from_all_disjuncts gs y

  pub to_around : (vs : List ℕ) (g : Flat_goal) → TypedGoal P T g → TypedGoal P T (around vs g)
  to_around [] g y = y
  to_around (v ∷ vs) g y = y

  pub from_around : (vs : List ℕ) (g : Flat_goal) → TypedGoal P T (around vs g) → TypedGoal P T g
  from_around [] g y = y
  from_around (v ∷ vs) g y = y
