-- What a goal does is a function of its own variables.
use Rattle.std.proofs.Common.{◌≡◌, ◌⊎◌, inl, inr, ℕ, zero, suc, ◌≤◌, Bool, true, false, cond, not, nat_eq, nat_lt, ◌&&◌, ◌||◌, List, [], ◌∷◌, ◌++◌, map, length, Option, Some, None, refl, ap, ap₂, sym, ◌∙◌, subst, ⊎_elim, arith}
use Rattle.std.specs.List.{list_any, list_all}
use Rattle.std.proofs.Math.Nat.{not-le_of_lt}
use Rattle.std.proofs.lemmas.Bool.{eqb-true}
use Rattle.mc_program.specs.Values.{Val}
use Rattle.mc_program.specs.Programs.{TypeTerm, Source}
use Rattle.mc_model.specs.Flat as F
use Rattle.mc_model.specs.Flat.{Flat_goal, Flat_goals, no_flat, flat_then, variables_of, variables_of_all, free_in, free_in_all}
use Rattle.mc_model.specs.Lists.{In, is_in, without, Among}
use Rattle.mc_model.specs.Scheduled.{Node, Scheduled, Conj, Disj, Ite, Exists, Assign, Test, Build, Take, Const, TestConst, Nodes, no_nodes}
use Rattle.mc_model.specs.Stream.{is_bound}
use Rattle.mc_source.specs.Determinism.{is_zero}
use Rattle.mc_accepted.specs.Ordered.{Mode, is_state, modes_of, builtin_most, implied_places, times_in}
use Rattle.mc_accepted.specs.Unmarked.{unmarked}
use Rattle.mc_accepted.specs.Least.{least, lesser}
use Rattle.mc_accepted.specs.Arranged.{Operations, Declared, Fault, waits, negated_binds, branches_differ, lacks, one, alone, two_goals, count_flat, fresh_at, with_fresh, Point, with_inst, Arranged, runs, breaks, Trial, Waiting, Picked, takes, none_runs, Branches, all_run, one_breaks, variables_of_waiting, or_first, picked, pick, behind, goes_on, with_branch, and_branches, no_branch, each_branch, unless, wrapped, stuck, in_turn, atom, assigned, same, taken, built, took, take, made, constant, input_after, after_call, after, better, best, called, applied_with, call_of, binds, differs, is_there, joined_at, or_free, merged, merges, those_in, branched, conditional, negation, trial, trials, usable, implied_in}
use Rattle.mc_program.specs.declared.builtin.Builtin.{Builtin}
use Rattle.laws_language.proofs.FlatGoals.{in_left, in_right, in_either}
use Rattle.laws_order.proofs.OthersStay.{in-condition, in-then, in-else}
use Rattle.laws_modes.specs.Waits.{Below, SameOutside, OneFault, SameAt, EndsAlike, NumberedOn, Alike, OwnAlone}

-- ---- lists of variables
pub is-in-both : (x : ℕ) (xs ys : List ℕ) → is_in x (xs ++ ys) ≡ (is_in x xs || is_in x ys)
is-in-both x [] ys = refl
is-in-both x (z ∷ xs) ys = at (nat_eq x z) (is-in-both x xs ys)
  where
    at : (t : Bool) → is_in x (xs ++ ys) ≡ (is_in x xs || is_in x ys) → cond t true (is_in x (xs ++ ys)) ≡ (cond t true (is_in x xs) || is_in x ys)
    at true e = refl
    at false e = e

or-false : (t : Bool) → t ≡ (t || false)
or-false true = refl
or-false false = refl

is-in-fresh : (x : ℕ) (vs zs : List ℕ) → is_in x (with_fresh vs zs) ≡ (is_in x vs || is_in x zs)
is-in-fresh x vs [] = or-false (is_in x vs)
is-in-fresh x vs (z ∷ zs) = is-in-both x vs (z ∷ zs)

pub outside-both : (own O U V W : List ℕ) → SameOutside own O U → SameOutside own V W → SameOutside own (O ++ V) (U ++ W)
outside-both own O U V W s t x i = is-in-both x O V ∙ (ap₂ (λ p q. p || q) (s x i) (t x i) ∙ sym (is-in-both x U W))

pub outside-more : (own O U V : List ℕ) → SameOutside own O U → SameOutside own (O ++ V) (U ++ V)
outside-more own O U V s = outside-both own O U V V s (λ x i. refl)

pub outside-fresh : (own vs zs ys : List ℕ) → SameOutside own zs ys → SameOutside own (with_fresh vs zs) (with_fresh vs ys)
outside-fresh own vs zs ys s x i = is-in-fresh x vs zs ∙ (ap (λ q. is_in x vs || q) (s x i) ∙ sym (is-in-fresh x vs ys))

other-number : (x y : ℕ) → (x ≡ y → ⊥) → nat_eq x y ≡ false
other-number x y n = at (nat_eq x y) refl
  where
    at : (t : Bool) → nat_eq x y ≡ t → t ≡ false
    at true e = absurd (n (eqb-true x y e))
    at false e = refl

any-alike : (f g : ℕ → Bool) (xs : List ℕ) → ((x : ℕ) → In x xs → f x ≡ g x) → list_any f xs ≡ list_any g xs
any-alike f g [] h = refl
any-alike f g (x ∷ xs) h = ap₂ (λ p q. p || q) (h x (inl refl)) (any-alike f g xs (λ y i. h y (inr i)))

all-alike : (f g : ℕ → Bool) (xs : List ℕ) → ((x : ℕ) → In x xs → f x ≡ g x) → list_all f xs ≡ list_all g xs
all-alike f g [] h = refl
all-alike f g (x ∷ xs) h = ap₂ (λ p q. p && q) (h x (inl refl)) (all-alike f g xs (λ y i. h y (inr i)))

least-alike : (f g : ℕ → Bool) (xs : List ℕ) → ((x : ℕ) → In x xs → f x ≡ g x) → least f xs ≡ least g xs
least-alike f g [] h = refl
least-alike f g (x ∷ xs) h = ap₂ (λ (t : Bool) (r : Option ℕ). cond t (Some (lesser x r)) r) (h x (inl refl)) (least-alike f g xs (λ y i. h y (inr i)))

those-alike : (xs O U : List ℕ) → SameOutside xs O U → those_in xs O ≡ those_in xs U
those-alike [] O U s = refl
those-alike (x ∷ xs) O U s = ap₂ (λ (t : Bool) (r : List ℕ). cond t (x ∷ r) r) (s x (inl refl)) (those-alike xs O U (λ y i. s y (inr i)))

among-those : (xs O : List ℕ) (x : ℕ) → In x (those_in xs O) → In x xs
among-those [] O x i = i
among-those (y ∷ ys) O x i = at (is_in y O) i (among-those ys O x)
  where
    at : (t : Bool) → In x (cond t (y ∷ those_in ys O) (those_in ys O)) → (In x (those_in ys O) → In x ys) → In x (y ∷ ys)
    at true j f = ⊎_elim (λ e. inl e) (λ l. inr (f l)) j
    at false j f = inr (f j)

among-without : (xs vs : List ℕ) (x : ℕ) → In x (without xs vs) → In x xs
among-without [] vs x i = i
among-without (y ∷ ys) vs x i = at (is_in y vs) i (among-without ys vs x)
  where
    at : (t : Bool) → In x (cond t (without ys vs) (y ∷ without ys vs)) → (In x (without ys vs) → In x ys) → In x (y ∷ ys)
    at true j f = inr (f j)
    at false j f = ⊎_elim (λ e. inl e) (λ l. inr (f l)) j

mutual
  pub free-among : (g : Flat_goal) (x : ℕ) → In x (free_in g) → In x (variables_of g)
  free-among (F.Same y z) x i = i
  free-among (F.Made y s ys) x i = i
  free-among (F.Is y v) x i = i
  free-among (F.Call p xs) x i = i
  free-among (F.And gs) x i = free-among-all gs x i
  free-among (F.Or gs) x i = free-among-all gs x i
  free-among (F.If vs g h k) x i =
      ⊎_elim
      (λ j. ⊎_elim (λ l. in-condition vs g h k x (free-among g x l)) (λ l. in-then vs g h k x (free-among h x l)) (in_either x (free_in g) (free_in h) (among-without (free_in g ++ free_in h) vs x j)))
      (λ j. in-else vs g h k x (free-among k x j)) (in_either x (without (free_in g ++ free_in h) vs) (free_in k) i)
  free-among (F.Not g) x i = free-among g x i
  free-among (F.Exists vs g) x i = in_right x vs (variables_of g) (free-among g x (among-without (free_in g) vs x i))

  free-among-all : (gs : Flat_goals) (x : ℕ) → In x (free_in_all gs) → In x (variables_of_all gs)
  free-among-all no_flat x i = i
  free-among-all (flat_then g gs) x i =
      ⊎_elim (λ j. in_left x (variables_of g) (variables_of_all gs) (free-among g x j)) (λ j. in_right x (variables_of g) (variables_of_all gs) (free-among-all gs x j)) (in_either x (free_in g) (free_in_all gs) i)

-- ---- results
module _ {I : Type 0} (Op : Operations I) (P : Source) (declared : ℕ → List Declared) (T : ℕ → TypeTerm) (own : List ℕ) (first : ℕ) (below : Below first own) where
  abbrev Alike_here : Arranged I → Arranged I → Type 0
  Alike_here r q = Alike own first r q

  abbrev Own : List ℕ → Type 0
  Own xs = (x : ℕ) → In x xs → In x own

  alike-if : (t u : Bool) (p q p' q' : Arranged I) → t ≡ u → Alike_here p p' → Alike_here q q' → Alike_here (cond t p q) (cond u p' q')
  alike-if true true p q p' q' e h k = h
  alike-if true false p q p' q' e h k = absurd (cc e)
  alike-if false true p q p' q' e h k = absurd (cc e)
  alike-if false false p q p' q' e h k = k

  point-if : (t u : Bool) (p q p' q' : Point I) → t ≡ u → SameAt own p p' → SameAt own q q' → SameAt own (cond t p q) (cond u p' q')
  point-if true true p q p' q' e h k = h
  point-if true false p q p' q' e h k = absurd (cc e)
  point-if false true p q p' q' e h k = absurd (cc e)
  point-if false false p q p' q' e h k = k

  alike-unless : (o p : Option ℕ) (f : ℕ → Fault) (r q : Arranged I) → o ≡ p → ((v : ℕ) → OneFault (f v) (f v)) → Alike_here r q → Alike_here (unless o f r) (unless p f q)
  alike-unless None None f r q e k h = h
  alike-unless None (Some v) f r q e k h = absurd (cc e)
  alike-unless (Some v) None f r q e k h = absurd (cc e)
  alike-unless (Some v) (Some u) f r q e k h = subst (λ (o : Option ℕ). Alike_here (unless (Some v) f r) (unless o f q)) e (k v)

  one-alike : (b c : Point I) (s t : Scheduled) (o p : Option (Point I)) (n m : ℕ) → first ≤ n → first ≤ m → EndsAlike own o p → Alike_here (one Op b s o n) (one Op c t p m)
  one-alike b c s t o p n m ln lm e = (ln, lm, e, λ x i. refl, λ x i. absurd i)

  with-inst-alike : (x : ℕ) (i j : I) (b c : Point I) → i ≡ j → SameAt own b c → SameAt own (with_inst I x i b) (with_inst I x j c)
  with-inst-alike x i j b c e s z k = ap₂ (λ (p q : I). cond (nat_eq z x) p q) e (s z k)

  -- ---- atoms
  assigned-alike : (x y : ℕ) (b c : Point I) → In y own → SameAt own b c → SameAt own (assigned Op P declared T x y b) (assigned Op P declared T x y c)
  assigned-alike x y b c i s =
      with-inst-alike x (b y) (c y) _ _ (s y i) (point-if (is_state (T y)) (is_state (T y)) _ _ _ _ refl (with-inst-alike y (Op.node 3) (Op.node 3) b c refl s) s)

  bound-alike : (x : ℕ) (b c : Point I) → In x own → SameAt own b c → Op.is_bound (b x) ≡ Op.is_bound (c x)
  bound-alike x b c i s = ap Op.is_bound (s x i)

  same-alike : (x y n m : ℕ) (b c : Point I) → first ≤ n → first ≤ m → In x own → In y own → SameAt own b c → Alike_here (same Op P declared T x y n b) (same Op P declared T x y m c)
  same-alike x y n m b c ln lm i j s =
      alike-if (Op.is_bound (b x)) (Op.is_bound (c x)) _ _ _ _ (bound-alike x b c i s)
      (alike-if (Op.is_bound (b y)) (Op.is_bound (c y)) _ _ _ _ (bound-alike y b c j s)
      (alike-if (is_state (T x)) (is_state (T x)) _ _ _ _ refl tt (one-alike b c (Test x y) (Test x y) (Some b) (Some c) n m ln lm s))
      (one-alike b c (Assign y x) (Assign y x) (Some (assigned Op P declared T y x b)) (Some (assigned Op P declared T y x c)) n m ln lm (assigned-alike y x b c i s)))
      (alike-if (Op.is_bound (b y)) (Op.is_bound (c y)) _ _ _ _ (bound-alike y b c j s)
      (one-alike b c (Assign x y) (Assign x y) (Some (assigned Op P declared T x y b)) (Some (assigned Op P declared T x y c)) n m ln lm (assigned-alike x y b c j s)) tt)

  taken-alike : (ys : List ℕ) (is : List I) (b c : Point I) → Own ys → SameAt own b c → SameAt own (taken Op P declared T ys is b) (taken Op P declared T ys is c)
  taken-alike [] is b c w s = s
  taken-alike (y ∷ ys) [] b c w s = s
  taken-alike (y ∷ ys) (i ∷ is) b c w s =
      taken-alike ys is (cond (Op.is_bound (b y)) b (with_inst I y i b)) (cond (Op.is_bound (c y)) c (with_inst I y i c)) (λ x k. w x (inr k))
      (point-if (Op.is_bound (b y)) (Op.is_bound (c y)) _ _ _ _ (bound-alike y b c (w y (inl refl)) s) s (with-inst-alike y i i b c refl s))

  take-alike : (x s : ℕ) (ys : List ℕ) (n m : ℕ) (b c : Point I) (o : Option (List I)) → first ≤ n → first ≤ m → Own ys → SameAt own b c → Alike_here (take Op P declared T x s ys n b o) (take Op P declared T x s ys m c o)
  take-alike x s ys n m b c None ln lm w h = one-alike b c (Take x s ys) (Take x s ys) None None n m ln lm tt
  take-alike x s ys n m b c (Some is) ln lm w h = at (Op.over s is)
    where
      at : (o : Option I) → Alike_here (took Op P declared T x s ys is n b o) (took Op P declared T x s ys is m c o)
      at None = tt
      at (Some i) =
          one-alike b c (Take x s ys) (Take x s ys) (Some (taken Op P declared T ys is (with_inst I x i b))) (Some (taken Op P declared T ys is (with_inst I x i c))) n m ln lm
          (taken-alike ys is (with_inst I x i b) (with_inst I x i c) w (with-inst-alike x i i b c refl h))

  built-alike : (x s : ℕ) (ys : List ℕ) (n m : ℕ) (b c : Point I) (o : Option I) → first ≤ n → first ≤ m → SameAt own b c → Alike_here (built Op P declared T x s ys n b o) (built Op P declared T x s ys m c o)
  built-alike x s ys n m b c None ln lm h = tt
  built-alike x s ys n m b c (Some i) ln lm h = one-alike b c (Build x s ys) (Build x s ys) (Some (with_inst I x i b)) (Some (with_inst I x i c)) n m ln lm (with-inst-alike x i i b c refl h)

  map-alike : (ys : List ℕ) (b c : Point I) → Own ys → SameAt own b c → map b ys ≡ map c ys
  map-alike [] b c w s = refl
  map-alike (y ∷ ys) b c w s = ap₂ (λ (i : I) (is : List I). i ∷ is) (s y (w y (inl refl))) (map-alike ys b c (λ x k. w x (inr k)) s)

  made-alike : (x s : ℕ) (ys : List ℕ) (n m : ℕ) (b c : Point I) → first ≤ n → first ≤ m → Own (x ∷ ys) → SameAt own b c → Alike_here (made Op P declared T x s ys n b) (made Op P declared T x s ys m c)
  made-alike x s ys n m b c ln lm w h =
      alike-if (Op.is_bound (b x)) (Op.is_bound (c x)) _ _ _ _ (bound-alike x b c (w x (inl refl)) h)
      (subst (λ (j : I). Alike_here (take Op P declared T x s ys n b (Op.narrowed (b x) s)) (take Op P declared T x s ys m c (Op.narrowed j s))) (h x (w x (inl refl)))
      (take-alike x s ys n m b c (Op.narrowed (b x) s) ln lm (λ y i. w y (inr i)) h))
      (alike-if (list_any (λ y. not (Op.is_bound (b y)) || is_state (T y)) ys) (list_any (λ y. not (Op.is_bound (c y)) || is_state (T y)) ys) _ _ _ _
      (any-alike (λ y. not (Op.is_bound (b y)) || is_state (T y)) (λ y. not (Op.is_bound (c y)) || is_state (T y)) ys (λ y i. ap (λ (j : I). not (Op.is_bound j) || is_state (T y)) (h y (w y (inr i)))))
      tt
      (subst (λ (is : List I). Alike_here (built Op P declared T x s ys n b (Op.over s (map b ys))) (built Op P declared T x s ys m c (Op.over s is))) (map-alike ys b c (λ y i. w y (inr i)) h)
      (built-alike x s ys n m b c (Op.over s (map b ys)) ln lm h)))

  constant-alike : (x : ℕ) (v : Val) (n m : ℕ) (b c : Point I) → first ≤ n → first ≤ m → In x own → SameAt own b c → Alike_here (constant Op P declared T x v n b) (constant Op P declared T x v m c)
  constant-alike x v n m b c ln lm i h =
      alike-if (Op.is_bound (b x)) (Op.is_bound (c x)) _ _ _ _ (bound-alike x b c i h)
      (one-alike b c (TestConst x v) (TestConst x v) _ _ n m ln lm (at (Op.takes_constants (b x)) (Op.takes_constants (c x)) (ap Op.takes_constants (h x i))))
      (one-alike b c (Const x v) (Const x v) (Some (with_inst I x (Op.node 1) b)) (Some (with_inst I x (Op.node 1) c)) n m ln lm (with-inst-alike x (Op.node 1) (Op.node 1) b c refl h))
    where
      at : (t u : Bool) → t ≡ u → EndsAlike own (cond t (Some b) None) (cond u (Some c) None)
      at true true e = h
      at true false e = absurd (cc e)
      at false true e = absurd (cc e)
      at false false e = tt

  usable-alike : (all : List ℕ) (ms : List Mode) (xs : List ℕ) (b c : Point I) → Own xs → SameAt own b c → usable Op P declared T all ms xs b ≡ usable Op P declared T all ms xs c
  usable-alike all [] [] b c w h = refl
  usable-alike all [] (x ∷ xs) b c w h = refl
  usable-alike all (m ∷ ms) [] b c w h = refl
  usable-alike all (m ∷ ms) (x ∷ xs) b c w h =
      ap₂ (λ (i : I) (r : Bool). (not (is_bound m.0) || (Op.is_bound i && (Op.fits i m.0 (T x) && (not (Op.is_dead (Op.node m.1)) || nat_eq (times_in x all) 1)))) && r)
      (h x (w x (inl refl))) (usable-alike all ms xs b c (λ y i. w y (inr i)) h)

  implied-alike : (k : ℕ) (ms : List Mode) (xs : List ℕ) (f g : ℕ → Bool) → Own xs → ((x : ℕ) → In x own → f x ≡ g x) → implied_places k ms xs f ≡ implied_places k ms xs g
  implied-alike k [] xs f g w h = refl
  implied-alike k (m ∷ ms) [] f g w h = refl
  implied-alike k (m ∷ ms) (x ∷ xs) f g w h =
      at (is_bound m.0 || not (is_bound m.1)) (f x) (g x) (h x (w x (inl refl))) (implied-alike (suc k) ms xs f g (λ y i. w y (inr i)) h)
      (implied-alike (suc k) ms xs (λ y. cond (nat_eq y x) true (f y)) (λ y. cond (nat_eq y x) true (g y)) (λ y i. w y (inr i)) (λ y i. ap (cond (nat_eq y x) true) (h y i)))
    where
      at : (t u v : Bool) → u ≡ v → implied_places (suc k) ms xs f ≡ implied_places (suc k) ms xs g →
          implied_places (suc k) ms xs (λ y. cond (nat_eq y x) true (f y)) ≡ implied_places (suc k) ms xs (λ y. cond (nat_eq y x) true (g y)) →
          cond t (implied_places (suc k) ms xs f) (cond u (k ∷ implied_places (suc k) ms xs f) (implied_places (suc k) ms xs (λ y. cond (nat_eq y x) true (f y))))
          ≡ cond t (implied_places (suc k) ms xs g) (cond v (k ∷ implied_places (suc k) ms xs g) (implied_places (suc k) ms xs (λ y. cond (nat_eq y x) true (g y))))
      at true u v e p q = p
      at false true true e p q = ap (λ (r : List ℕ). k ∷ r) p
      at false true false e p q = absurd (cc e)
      at false false true e p q = absurd (cc e)
      at false false false e p q = q

  implied-in-alike : (ms : List Mode) (xs : List ℕ) (b c : Point I) → Own xs → SameAt own b c → implied_in Op P declared T ms xs b ≡ implied_in Op P declared T ms xs c
  implied-in-alike ms xs b c w h = implied-alike 0 ms xs (λ x. Op.is_bound (b x)) (λ x. Op.is_bound (c x)) w (λ x i. bound-alike x b c i h)

  better-alike : (xs : List ℕ) (b c : Point I) (d : Declared) (o : Option Declared) → Own xs → SameAt own b c → better Op P declared T xs b d o ≡ better Op P declared T xs c d o
  better-alike xs b c d None w h = refl
  better-alike xs b c d (Some e) w h =
      ap₂ (λ (p q : List ℕ). cond (nat_lt (length p) (length q)) e d) (implied-in-alike e.modes xs b c w h) (implied-in-alike d.modes xs b c w h)

  best-alike : (ds : List Declared) (xs : List ℕ) (b c : Point I) → Own xs → SameAt own b c → best Op P declared T ds xs b ≡ best Op P declared T ds xs c
  best-alike [] xs b c w h = refl
  best-alike (d ∷ ds) xs b c w h =
      ap₂ (λ (t : Bool) (r : Option Declared). cond t (Some (better Op P declared T xs b d r)) r) (usable-alike xs d.modes xs b c w h) (best-alike ds xs b c w h)
      ∙ ap (λ (e : Declared). cond (usable Op P declared T xs d.modes xs c) (Some e) (best Op P declared T ds xs c)) (better-alike xs b c d (best Op P declared T ds xs c) w h)

  -- two lists of arguments: place by place one own variable, or two that aren't own ones
  abbrev Off : ℕ → Type 0
  Off x = In x own → ⊥

  abbrev Pairs : List ℕ → List ℕ → Type 0
  Pairs [] [] = Unit {0}
  Pairs [] (y ∷ ys) = ⊥
  Pairs (x ∷ xs) [] = ⊥
  Pairs (x ∷ xs) (y ∷ ys) = (((x ≡ y) × In x own) ⊎ (Off x × Off y)) × Pairs xs ys

  pairs : (xs : List ℕ) → Own xs → Pairs xs xs
  pairs [] w = tt
  pairs (x ∷ xs) w = (inl (refl, w x (inl refl)), pairs xs (λ y i. w y (inr i)))

  numbered-on : (n : ℕ) → first ≤ n → Off n
  numbered-on n ln i = not-le_of_lt (below n i) ln

  fresh-pairs : (k : ℕ) (is xs : List ℕ) (n m : ℕ) → first ≤ n → first ≤ m → Own xs → Pairs (fresh_at k is xs n) (fresh_at k is xs m)
  fresh-pairs k is [] n m ln lm w = tt
  fresh-pairs k is (x ∷ xs) n m ln lm w =
      at (is_in k is) (fresh-pairs (suc k) is xs (suc n) (suc m) (omega (arith, ln)) (omega (arith, lm)) (λ y i. w y (inr i))) (fresh-pairs (suc k) is xs n m ln lm (λ y i. w y (inr i)))
    where
      at : (t : Bool) → Pairs (fresh_at (suc k) is xs (suc n)) (fresh_at (suc k) is xs (suc m)) → Pairs (fresh_at (suc k) is xs n) (fresh_at (suc k) is xs m) →
          Pairs (cond t (n ∷ fresh_at (suc k) is xs (suc n)) (x ∷ fresh_at (suc k) is xs n)) (cond t (m ∷ fresh_at (suc k) is xs (suc m)) (x ∷ fresh_at (suc k) is xs m))
      at true p q = (inr (numbered-on n ln, numbered-on m lm), p)
      at false p q = (inl (refl, w x (inl refl)), q)

  fresh-numbered : (k : ℕ) (is xs : List ℕ) (n : ℕ) → first ≤ n → Own xs → NumberedOn own first (fresh_at k is xs n)
  fresh-numbered k is [] n ln w = λ z i. absurd i
  fresh-numbered k is (x ∷ xs) n ln w =
      at (is_in k is) (fresh-numbered (suc k) is xs (suc n) (omega (arith, ln)) (λ y i. w y (inr i))) (fresh-numbered (suc k) is xs n ln (λ y i. w y (inr i)))
    where
      at : (t : Bool) → NumberedOn own first (fresh_at (suc k) is xs (suc n)) → NumberedOn own first (fresh_at (suc k) is xs n) →
          NumberedOn own first (cond t (n ∷ fresh_at (suc k) is xs (suc n)) (x ∷ fresh_at (suc k) is xs n))
      at true p q = λ z i. ⊎_elim (λ e. inr (subst (λ y. first ≤ y) (sym e) ln)) (λ l. p z l) i
      at false p q = λ z i. ⊎_elim (λ e. inl (subst (λ y. In y own) (sym e) (w x (inl refl)))) (λ l. q z l) i

  pairs-outside : (xs ys : List ℕ) → Pairs xs ys → SameOutside own xs ys
  pairs-outside [] [] p x i = refl
  pairs-outside [] (y ∷ ys) p x i = absurd p
  pairs-outside (z ∷ xs) [] p x i = absurd p
  pairs-outside (z ∷ xs) (y ∷ ys) p x i = ap₂ (λ (t r : Bool). cond t true r) (⊎_elim (λ q. ap (nat_eq x) q.0) (λ q. neither q.0 q.1) p.0) (pairs-outside xs ys p.1 x i)
    where
      neither : Off z → Off y → nat_eq x z ≡ nat_eq x y
      neither a b = other-number x z (λ e. a (subst (λ w. In w own) e i)) ∙ sym (other-number x y (λ e. b (subst (λ w. In w own) e i)))

  with-inst-off : (x : ℕ) (i : I) (b : Point I) → Off x → SameAt own (with_inst I x i b) b
  with-inst-off x i b off z k = ap (λ t. cond t i (b z)) (other-number z x (λ e. off (subst (λ w. In w own) e k)))

  there-off : (x : ℕ) (f : ℕ → Bool) → Off x → (z : ℕ) → In z own → cond (nat_eq z x) true (f z) ≡ f z
  there-off x f off z k = ap (λ t. cond t true (f z)) (other-number z x (λ e. off (subst (λ w. In w own) e k)))

  input-alike : (m : Mode) (x : ℕ) (b c : Point I) → In x own → SameAt own b c → SameAt own (input_after Op P declared T m x b) (input_after Op P declared T m x c)
  input-alike m x b c i h =
      point-if (not (Op.is_dead (Op.node m.1)) && Op.fits (b x) m.1 (T x)) (not (Op.is_dead (Op.node m.1)) && Op.fits (c x) m.1 (T x)) _ _ _ _
      (ap (λ (j : I). not (Op.is_dead (Op.node m.1)) && Op.fits j m.1 (T x)) (h x i)) h (with-inst-alike x (Op.node m.1) (Op.node m.1) b c refl h)

  input-off : (m : Mode) (x : ℕ) (b : Point I) → Off x → SameAt own (input_after Op P declared T m x b) b
  input-off m x b off z k = at (not (Op.is_dead (Op.node m.1)) && Op.fits (b x) m.1 (T x))
    where
      at : (t : Bool) → cond t b (with_inst I x (Op.node m.1) b) z ≡ b z
      at true = refl
      at false = with-inst-off x (Op.node m.1) b off z k

  abbrev AfterCall : (ℕ → Bool) → List Mode → List ℕ → Point I → Point I
  AfterCall f ms xs b = after_call Op P declared T f ms xs b

  abbrev and_this : ℕ → (ℕ → Bool) → ℕ → Bool
  and_this x f y = cond (nat_eq y x) true (f y)

  after-alike : (ms : List Mode) (xs ys : List ℕ) (f g : ℕ → Bool) (b c : Point I) → Pairs xs ys → ((z : ℕ) → In z own → f z ≡ g z) → SameAt own b c → SameAt own (AfterCall f ms xs b) (AfterCall g ms ys c)
  after-alike [] xs ys f g b c p fg h = h
  after-alike (m ∷ ms) [] [] f g b c p fg h = h
  after-alike (m ∷ ms) [] (y ∷ ys) f g b c p fg h = absurd p
  after-alike (m ∷ ms) (x ∷ xs) [] f g b c p fg h = absurd p
  after-alike (m ∷ ms) (x ∷ xs) (y ∷ ys) f g b c p fg h =
      ⊎_elim
      (λ q. subst (λ w. SameAt own (AfterCall f (m ∷ ms) (x ∷ xs) b) (AfterCall g (m ∷ ms) (w ∷ ys) c)) q.0
      (own-place q.1 (is_bound m.0) (not (is_bound m.1) || f x) (not (is_bound m.1) || g x) (ap (λ t. not (is_bound m.1) || t) (fg x q.1)) (λ f' g' b' c' k s. after-alike ms xs ys f' g' b' c' p.1 k s)))
      (λ q. off-place q.0 q.1 (is_bound m.0) (not (is_bound m.1) || f x) (not (is_bound m.1) || g y) (λ f' g' b' c' k s. after-alike ms xs ys f' g' b' c' p.1 k s))
      p.0
    where
      Rest : Type 0
      Rest = (f' g' : ℕ → Bool) (b' c' : Point I) → ((z : ℕ) → In z own → f' z ≡ g' z) → SameAt own b' c' → SameAt own (AfterCall f' ms xs b') (AfterCall g' ms ys c')

      own-place : In x own → (t u v : Bool) → u ≡ v → Rest →
          SameAt own (cond t (AfterCall f ms xs (input_after Op P declared T m x b)) (cond u (AfterCall f ms xs b) (AfterCall (and_this x f) ms xs (with_inst I x (Op.node m.1) b))))
          (cond t (AfterCall g ms ys (input_after Op P declared T m x c)) (cond v (AfterCall g ms ys c) (AfterCall (and_this x g) ms ys (with_inst I x (Op.node m.1) c))))
      own-place i true u v e r = r f g (input_after Op P declared T m x b) (input_after Op P declared T m x c) fg (input-alike m x b c i h)
      own-place i false true true e r = r f g b c fg h
      own-place i false true false e r = absurd (cc e)
      own-place i false false true e r = absurd (cc e)
      own-place i false false false e r = r (and_this x f) (and_this x g) (with_inst I x (Op.node m.1) b) (with_inst I x (Op.node m.1) c) (λ z k. ap (cond (nat_eq z x) true) (fg z k)) (with-inst-alike x (Op.node m.1) (Op.node m.1) b c refl h)

      off-place : Off x → Off y → (t u v : Bool) → Rest →
          SameAt own (cond t (AfterCall f ms xs (input_after Op P declared T m x b)) (cond u (AfterCall f ms xs b) (AfterCall (and_this x f) ms xs (with_inst I x (Op.node m.1) b))))
          (cond t (AfterCall g ms ys (input_after Op P declared T m y c)) (cond v (AfterCall g ms ys c) (AfterCall (and_this y g) ms ys (with_inst I y (Op.node m.1) c))))
      off-place i j true u v r = r f g (input_after Op P declared T m x b) (input_after Op P declared T m y c) fg (λ z k. input-off m x b i z k ∙ (h z k ∙ sym (input-off m y c j z k)))
      off-place i j false true true r = r f g b c fg h
      off-place i j false true false r = r f (and_this y g) b (with_inst I y (Op.node m.1) c) (λ z k. fg z k ∙ sym (there-off y g j z k)) (λ z k. h z k ∙ sym (with-inst-off y (Op.node m.1) c j z k))
      off-place i j false false true r = r (and_this x f) g (with_inst I x (Op.node m.1) b) c (λ z k. there-off x f i z k ∙ fg z k) (λ z k. with-inst-off x (Op.node m.1) b i z k ∙ h z k)
      off-place i j false false false r =
          r (and_this x f) (and_this y g) (with_inst I x (Op.node m.1) b) (with_inst I y (Op.node m.1) c) (λ z k. there-off x f i z k ∙ (fg z k ∙ sym (there-off y g j z k)))
          (λ z k. with-inst-off x (Op.node m.1) b i z k ∙ (h z k ∙ sym (with-inst-off y (Op.node m.1) c j z k)))

  after-both : (ms : List Mode) (xs ys : List ℕ) (b c : Point I) → Pairs xs ys → SameAt own b c → SameAt own (after Op P declared T ms xs b) (after Op P declared T ms ys c)
  after-both ms xs ys b c p h = after-alike ms xs ys (λ x. Op.is_bound (b x)) (λ x. Op.is_bound (c x)) b c p (λ x i. bound-alike x b c i h) h

  never-alike : (t : Bool) (b c : Point I) → SameAt own b c → EndsAlike own (cond t None (Some b)) (cond t None (Some c))
  never-alike true b c h = tt
  never-alike false b c h = h

  called-alike : (o : Option Declared) (xs : List ℕ) (n m : ℕ) (b c : Point I) → first ≤ n → first ≤ m → Own xs → SameAt own b c → Alike_here (called Op P declared T o xs n b) (called Op P declared T o xs m c)
  called-alike None xs n m b c ln lm w h = tt
  called-alike (Some d) xs n m b c ln lm w h = (ln, lm, never-alike d.never (after Op P declared T d.modes xs b) (after Op P declared T d.modes xs c) (after-both d.modes xs xs b c (pairs xs w) h), λ x i. refl, λ x i. absurd i)

  with-alike : (is : List ℕ) (op : Builtin) (xs : List ℕ) (n m : ℕ) (b c : Point I) → first ≤ n → first ≤ m → Own xs → SameAt own b c → Alike_here (applied_with Op P declared T is op xs n b) (applied_with Op P declared T is op xs m c)
  with-alike [] op xs n m b c ln lm w h =
      (ln, lm, never-alike (is_zero (builtin_most op)) (after Op P declared T (modes_of op) xs b) (after Op P declared T (modes_of op) xs c) (after-both (modes_of op) xs xs b c (pairs xs w) h), λ x i. refl, λ x i. absurd i)
  with-alike (i ∷ is) op xs n m b c ln lm w h =
      let p = fresh-pairs 0 (i ∷ is) xs n m ln lm w in
      (omega (arith, ln), omega (arith, lm), after-both (modes_of op) (fresh_at 0 (i ∷ is) xs n) (fresh_at 0 (i ∷ is) xs m) b c p h, pairs-outside (fresh_at 0 (i ∷ is) xs n) (fresh_at 0 (i ∷ is) xs m) p, fresh-numbered 0 (i ∷ is) xs n ln w)

  call-alike : (o : Option Builtin) (p : ℕ) (xs : List ℕ) (n m : ℕ) (b c : Point I) → first ≤ n → first ≤ m → Own xs → SameAt own b c → Alike_here (call_of Op P declared T o p xs n b) (call_of Op P declared T o p xs m c)
  call-alike None p xs n m b c ln lm w h =
      subst (λ (o : Option Declared). Alike_here (called Op P declared T (best Op P declared T (declared p) xs b) xs n b) (called Op P declared T o xs m c)) (best-alike (declared p) xs b c w h)
      (called-alike (best Op P declared T (declared p) xs b) xs n m b c ln lm w h)
  call-alike (Some op) p xs n m b c ln lm w h =
      alike-if (usable Op P declared T xs (modes_of op) xs b) (usable Op P declared T xs (modes_of op) xs c) _ _ _ _ (usable-alike xs (modes_of op) xs b c w h)
      (subst (λ (is : List ℕ). Alike_here (applied_with Op P declared T (implied_in Op P declared T (modes_of op) xs b) op xs n b) (applied_with Op P declared T is op xs m c)) (implied-in-alike (modes_of op) xs b c w h)
      (with-alike (implied_in Op P declared T (modes_of op) xs b) op xs n m b c ln lm w h)) tt

  atom-alike : (xs : List ℕ) (b c : Point I) (r q : Arranged I) → Own xs → SameAt own b c → Alike_here r q → Alike_here (atom Op P declared T xs b r) (atom Op P declared T xs c q)
  atom-alike xs b c r q w h k =
      alike-if (list_any (λ x. Op.is_dead (b x)) xs) (list_any (λ x. Op.is_dead (c x)) xs) _ _ _ _ (any-alike (λ x. Op.is_dead (b x)) (λ x. Op.is_dead (c x)) xs (λ x i. ap Op.is_dead (h x (w x i)))) tt k

  -- ---- compound goals
  abbrev Local : Trial I → Type 0
  Local t = OwnAlone own first t

  abbrev pub AllLocal : List (Waiting I) → Type 0
  AllLocal [] = Unit {0}
  AllLocal (w ∷ ws) = OwnAlone own first w.trial × AllLocal ws

  all-local-both : (vs ws : List (Waiting I)) → AllLocal vs → AllLocal ws → AllLocal (vs ++ ws)
  all-local-both [] ws k h = h
  all-local-both (v ∷ vs) ws k h = (k.0, all-local-both vs ws k.1 h)

  abbrev EachAlike : List (Point I) → List (Point I) → Type 0
  EachAlike [] [] = Unit {0}
  EachAlike [] (d ∷ ds) = ⊥
  EachAlike (c ∷ cs) [] = ⊥
  EachAlike (c ∷ cs) (d ∷ ds) = SameAt own c d × EachAlike cs ds

  abbrev pub BranchesAlike : Branches I → Branches I → Type 0
  BranchesAlike (all_run gs cs n) (all_run hs ds m) = (first ≤ n) × (first ≤ m) × EachAlike cs ds
  BranchesAlike (all_run gs cs n) (one_breaks e) = ⊥
  BranchesAlike (one_breaks f) (all_run hs ds m) = ⊥
  BranchesAlike (one_breaks f) (one_breaks e) = OneFault f e

  binds-alike : (xs : List ℕ) (b c : Point I) (o p : Option (Point I)) → Own xs → SameAt own b c → EndsAlike own o p → binds Op P declared T xs b o ≡ binds Op P declared T xs c p
  binds-alike xs b c None None w h e = refl
  binds-alike xs b c None (Some d) w h e = absurd e
  binds-alike xs b c (Some a) None w h e = absurd e
  binds-alike xs b c (Some a) (Some d) w h e =
      least-alike (λ x. not (Op.is_bound (b x)) && Op.is_bound (a x)) (λ x. not (Op.is_bound (c x)) && Op.is_bound (d x)) xs
      (λ x i. ap₂ (λ (p q : I). not (Op.is_bound p) && Op.is_bound q) (h x (w x i)) (e x (w x i)))

  wrapped-alike : (f h : ℕ → Option (Point I) → Nodes → Scheduled) (b c : Point I) (r q : Arranged I) → Alike_here r q → Alike_here (wrapped Op f b r) (wrapped Op h c q)
  wrapped-alike f h b c (breaks e) (breaks d) k = k
  wrapped-alike f h b c (breaks e) (runs gs o n zs) k = absurd k
  wrapped-alike f h b c (runs gs o n zs) (breaks e) k = absurd k
  wrapped-alike f h b c (runs gs o n zs) (runs hs p m ys) k = (k.0, k.1, k.2, λ x i. refl, λ x i. absurd i)

  negation-alike : (xs : List ℕ) (b c : Point I) (r q : Arranged I) → Own xs → SameAt own b c → Alike_here r q → Alike_here (negation Op P declared T xs b r) (negation Op P declared T xs c q)
  negation-alike xs b c (breaks e) (breaks d) w h k = k
  negation-alike xs b c (breaks e) (runs gs o n zs) w h k = absurd k
  negation-alike xs b c (runs gs o n zs) (breaks e) w h k = absurd k
  negation-alike xs b c (runs gs o n zs) (runs hs p m ys) w h k =
      alike-unless (binds Op P declared T xs b o) (binds Op P declared T xs c p) negated_binds _ _ (binds-alike xs b c o p w h k.2) (λ v. refl) (k.0, k.1, h, λ x i. refl, λ x i. absurd i)

  with-branch-alike : (g h : Node) (o p : Option (Point I)) (B D : Branches I) → EndsAlike own o p → BranchesAlike B D → BranchesAlike (with_branch g o B) (with_branch h p D)
  with-branch-alike g h o p (one_breaks f) (one_breaks e) k l = l
  with-branch-alike g h o p (one_breaks f) (all_run hs ds m) k l = absurd l
  with-branch-alike g h o p (all_run gs cs n) (one_breaks e) k l = absurd l
  with-branch-alike g h None None (all_run gs cs n) (all_run hs ds m) k l = l
  with-branch-alike g h None (Some d) (all_run gs cs n) (all_run hs ds m) k l = absurd k
  with-branch-alike g h (Some c) None (all_run gs cs n) (all_run hs ds m) k l = absurd k
  with-branch-alike g h (Some c) (Some d) (all_run gs cs n) (all_run hs ds m) k l = (l.0, l.1, (k, l.2))

  and-branches-alike : (b c : Point I) (r q : Arranged I) (B D : ℕ → Branches I) → Alike_here r q → ((n m : ℕ) → first ≤ n → first ≤ m → BranchesAlike (B n) (D m)) → BranchesAlike (and_branches Op b r B) (and_branches Op c q D)
  and-branches-alike b c (breaks e) (breaks d) B D k h = k
  and-branches-alike b c (breaks e) (runs gs o n zs) B D k h = absurd k
  and-branches-alike b c (runs gs o n zs) (breaks e) B D k h = absurd k
  and-branches-alike b c (runs gs o n zs) (runs hs p m ys) B D k h = with-branch-alike (alone Op n b o gs) (alone Op m c p hs) o p (B n) (D m) k.2 (h n m k.0 k.1)

  each-branch-alike : (ws : List (Waiting I)) (O U : List ℕ) (n m : ℕ) (b c : Point I) → AllLocal ws → first ≤ n → first ≤ m → SameOutside own O U → SameAt own b c → BranchesAlike (each_branch Op ws O n b) (each_branch Op ws U m c)
  each-branch-alike [] O U n m b c k ln lm s h = (ln, lm, tt)
  each-branch-alike (w ∷ ws) O U n m b c k ln lm s h =
      and-branches-alike b c (w.trial O n b) (w.trial U m c) (λ j. each_branch Op ws O j b) (λ j. each_branch Op ws U j c) (k.0 O U n m b c ln lm s h) (λ i j li lj. each-branch-alike ws O U i j b c k.1 li lj s h)

  differs-alike : (x : ℕ) (cs ds : List (Point I)) → In x own → EachAlike cs ds → differs Op P declared T cs x ≡ differs Op P declared T ds x
  differs-alike x cs ds i k = ap₂ (λ p q. p && q) (free cs ds k) (bound cs ds k)
    where
      free : (cs ds : List (Point I)) → EachAlike cs ds → list_any (λ (c : Point I). not (Op.is_bound (c x))) cs ≡ list_any (λ (c : Point I). not (Op.is_bound (c x))) ds
      free [] [] k = refl
      free [] (d ∷ ds) k = absurd k
      free (c ∷ cs) [] k = absurd k
      free (c ∷ cs) (d ∷ ds) k = ap₂ (λ p q. p || q) (ap (λ (j : I). not (Op.is_bound j)) (k.0 x i)) (free cs ds k.1)

      bound : (cs ds : List (Point I)) → EachAlike cs ds → list_any (λ (c : Point I). Op.is_bound (c x)) cs ≡ list_any (λ (c : Point I). Op.is_bound (c x)) ds
      bound [] [] k = refl
      bound [] (d ∷ ds) k = absurd k
      bound (c ∷ cs) [] k = absurd k
      bound (c ∷ cs) (d ∷ ds) k = ap₂ (λ p q. p || q) (ap Op.is_bound (k.0 x i)) (bound cs ds k.1)

  joined-alike : (x : ℕ) (cs ds : List (Point I)) → In x own → EachAlike cs ds → joined_at Op P declared T cs x ≡ joined_at Op P declared T ds x
  joined-alike x cs ds i k = ap (Op.joined (T x)) (row cs ds k)
    where
      row : (cs ds : List (Point I)) → EachAlike cs ds → map (λ (c : Point I). c x) cs ≡ map (λ (c : Point I). c x) ds
      row [] [] k = refl
      row [] (d ∷ ds) k = absurd k
      row (c ∷ cs) [] k = absurd k
      row (c ∷ cs) (d ∷ ds) k = ap₂ (λ (p : I) (q : List I). p ∷ q) (k.0 x i) (row cs ds k.1)

  merges-alike : (xs : List ℕ) (cs ds : List (Point I)) → Own xs → EachAlike cs ds → merges Op P declared T xs cs ≡ merges Op P declared T xs ds
  merges-alike xs [] [] w k = refl
  merges-alike xs [] (d ∷ ds) w k = absurd k
  merges-alike xs (c ∷ cs) [] w k = absurd k
  merges-alike xs (c ∷ cs) (d ∷ ds) w k =
      all-alike (λ x. is_there (joined_at Op P declared T (c ∷ cs) x)) (λ x. is_there (joined_at Op P declared T (d ∷ ds) x)) xs (λ x i. ap is_there (joined-alike x (c ∷ cs) (d ∷ ds) (w x i) k))

  merged-alike : (xs O U : List ℕ) (b c : Point I) (cs ds : List (Point I)) → SameOutside own O U → SameAt own b c → EachAlike cs ds → EndsAlike own (merged Op P declared T xs O b cs) (merged Op P declared T xs U c ds)
  merged-alike xs O U b c [] [] s h k = tt
  merged-alike xs O U b c [] (d ∷ ds) s h k = absurd k
  merged-alike xs O U b c (a ∷ cs) [] s h k = absurd k
  merged-alike xs O U b c (a ∷ cs) (d ∷ ds) s h k = λ x i.
      ap₂ (λ (p q : I). cond (is_in x xs) p q)
      (ap₂ (λ (t : Bool) (j : Option I). cond t (or_free Op P declared T j) (Op.node 0)) (s x i) (joined-alike x (a ∷ cs) (d ∷ ds) i k)) (h x i)

  branched-alike : (v u : Option ℕ) (f h : Nodes → Scheduled) (xs O U : List ℕ) (b c : Point I) (B D : Branches I) → v ≡ u → Own xs → SameOutside own O U → SameAt own b c → BranchesAlike B D →
      Alike_here (branched Op P declared T v f xs O b B) (branched Op P declared T u h xs U c D)
  branched-alike v u f h xs O U b c (one_breaks e) (one_breaks d) q w s k l = l
  branched-alike v u f h xs O U b c (one_breaks e) (all_run hs ds m) q w s k l = absurd l
  branched-alike v u f h xs O U b c (all_run gs cs n) (one_breaks d) q w s k l = absurd l
  branched-alike v u f h xs O U b c (all_run gs cs n) (all_run hs ds m) q w s k l =
      alike-unless v u negated_binds _ _ q (λ x. refl)
      (alike-unless (least (differs Op P declared T cs) (those_in xs O)) (least (differs Op P declared T ds) (those_in xs U)) branches_differ _ _ least-is (λ x. refl)
      (alike-if (merges Op P declared T (those_in xs O) cs) (merges Op P declared T (those_in xs U) ds) _ _ _ _ merges-is (l.0, l.1, merged-alike xs O U b c cs ds s k l.2, λ x i. refl, λ x i. absurd i) tt))
    where
      those : those_in xs O ≡ those_in xs U
      those = those-alike xs O U (λ x i. s x (w x i))

      own-those : Own (those_in xs U)
      own-those x i = w x (among-those xs U x i)

      least-is : least (differs Op P declared T cs) (those_in xs O) ≡ least (differs Op P declared T ds) (those_in xs U)
      least-is = ap (least (differs Op P declared T cs)) those ∙ least-alike (differs Op P declared T cs) (differs Op P declared T ds) (those_in xs U) (λ x i. differs-alike x cs ds (own-those x i) l.2)

      merges-is : merges Op P declared T (those_in xs O) cs ≡ merges Op P declared T (those_in xs U) ds
      merges-is = ap (λ ys. merges Op P declared T ys cs) those ∙ merges-alike (those_in xs U) cs ds own-those l.2

  else-alike : (t : Trial I) (O U : List ℕ) (b c : Point I) → Local t → SameOutside own O U → SameAt own b c → (n m : ℕ) → first ≤ n → first ≤ m → BranchesAlike (and_branches Op b (t O n b) no_branch) (and_branches Op c (t U m c) no_branch)
  else-alike t O U b c k s h n m ln lm = and-branches-alike b c (t O n b) (t U m c) no_branch no_branch (k O U n m b c ln lm s h) (λ i j li lj. (li, lj, tt))

  conditional-alike : (vs xs ys O U : List ℕ) (b c : Point I) (r q : Arranged I) (th te : Trial I) (O1 U1 O2 U2 : List ℕ) → Own xs → Own ys → Local th → Local te →
      SameOutside own O U → SameOutside own O1 U1 → SameOutside own O2 U2 → SameAt own b c → Alike_here r q →
      Alike_here (conditional Op P declared T vs xs ys O b r (λ m d. th O1 m d) (λ m. te O2 m b)) (conditional Op P declared T vs xs ys U c q (λ m d. th U1 m d) (λ m. te U2 m c))
  conditional-alike vs xs ys O U b c (breaks f) (breaks e) th te O1 U1 O2 U2 w v kh ke s s1 s2 h k = k
  conditional-alike vs xs ys O U b c (breaks f) (runs hs p m zs) th te O1 U1 O2 U2 w v kh ke s s1 s2 h k = absurd k
  conditional-alike vs xs ys O U b c (runs gs o n zs) (breaks e) th te O1 U1 O2 U2 w v kh ke s s1 s2 h k = absurd k
  conditional-alike vs xs ys O U b c (runs gs None n zs) (runs hs (Some d) m zs') th te O1 U1 O2 U2 w v kh ke s s1 s2 h k = absurd k.2
  conditional-alike vs xs ys O U b c (runs gs (Some a) n zs) (runs hs None m zs') th te O1 U1 O2 U2 w v kh ke s s1 s2 h k = absurd k.2
  conditional-alike vs xs ys O U b c (runs gs None n zs) (runs hs None m zs') th te O1 U1 O2 U2 w v kh ke s s1 s2 h k =
      branched-alike None None (two_goals (Ite vs (alone Op n b None gs))) (two_goals (Ite vs (alone Op m c None hs))) ys O U b c _ _ refl v s h
      (with-branch-alike (unmarked (Conj no_nodes)) (unmarked (Conj no_nodes)) None None _ _ tt (else-alike te O2 U2 b c ke s2 h n m k.0 k.1))
  conditional-alike vs xs ys O U b c (runs gs (Some a) n zs) (runs hs (Some d) m zs') th te O1 U1 O2 U2 w v kh ke s s1 s2 h k =
      branched-alike (binds Op P declared T xs b (Some a)) (binds Op P declared T xs c (Some d)) (two_goals (Ite vs (alone Op n b (Some a) gs))) (two_goals (Ite vs (alone Op m c (Some d) hs))) ys O U b c _ _
      (binds-alike xs b c (Some a) (Some d) w h k.2) v s h
      (and-branches-alike a d (th O1 n a) (th U1 m d) (λ j. and_branches Op b (te O2 j b) no_branch) (λ j. and_branches Op c (te U2 j c) no_branch) (kh O1 U1 n m a d k.0 k.1 s1 k.2)
      (else-alike te O2 U2 b c ke s2 h))

  -- ---- conjunctions
  abbrev pub PicksAlike : Picked I → Picked I → Type 0
  PicksAlike (takes vs ws gs o n) (takes us xs hs p m) = (first ≤ n) × (first ≤ m) × EndsAlike own o p × SameOutside own vs us × (ws ≡ xs) × AllLocal ws
  PicksAlike (takes vs ws gs o n) (none_runs f) = ⊥
  PicksAlike (none_runs f) (takes us xs hs p m) = ⊥
  PicksAlike (none_runs None) (none_runs None) = Unit {0}
  PicksAlike (none_runs None) (none_runs (Some e)) = ⊥
  PicksAlike (none_runs (Some f)) (none_runs None) = ⊥
  PicksAlike (none_runs (Some f)) (none_runs (Some e)) = OneFault f e

  or-first-alike : (f e : Fault) (p q : Picked I) → OneFault f e → PicksAlike p q → PicksAlike (or_first f p) (or_first e q)
  or-first-alike f e (takes vs ws gs o n) (takes us xs hs p m) s k = k
  or-first-alike f e (takes vs ws gs o n) (none_runs g) s k = absurd k
  or-first-alike f e (none_runs g) (takes us xs hs p m) s k = absurd k
  or-first-alike f e (none_runs None) (none_runs None) s k = s
  or-first-alike f e (none_runs None) (none_runs (Some g)) s k = absurd k
  or-first-alike f e (none_runs (Some g)) (none_runs None) s k = absurd k
  or-first-alike f e (none_runs (Some lacks)) (none_runs (Some lacks)) s k = tt
  or-first-alike f e (none_runs (Some lacks)) (none_runs (Some (waits j vs))) s k = absurd k
  or-first-alike f e (none_runs (Some lacks)) (none_runs (Some (negated_binds v))) s k = absurd k
  or-first-alike f e (none_runs (Some lacks)) (none_runs (Some (branches_differ v))) s k = absurd k
  or-first-alike f e (none_runs (Some (waits j vs))) (none_runs (Some lacks)) s k = absurd k
  or-first-alike f e (none_runs (Some (waits j vs))) (none_runs (Some (waits i us))) s k = s
  or-first-alike f e (none_runs (Some (waits j vs))) (none_runs (Some (negated_binds v))) s k = absurd k
  or-first-alike f e (none_runs (Some (waits j vs))) (none_runs (Some (branches_differ v))) s k = absurd k
  or-first-alike f e (none_runs (Some (negated_binds x))) (none_runs (Some lacks)) s k = absurd k
  or-first-alike f e (none_runs (Some (negated_binds x))) (none_runs (Some (waits i us))) s k = absurd k
  or-first-alike f e (none_runs (Some (negated_binds x))) (none_runs (Some (negated_binds v))) s k = s
  or-first-alike f e (none_runs (Some (negated_binds x))) (none_runs (Some (branches_differ v))) s k = absurd k
  or-first-alike f e (none_runs (Some (branches_differ x))) (none_runs (Some lacks)) s k = absurd k
  or-first-alike f e (none_runs (Some (branches_differ x))) (none_runs (Some (waits i us))) s k = absurd k
  or-first-alike f e (none_runs (Some (branches_differ x))) (none_runs (Some (negated_binds v))) s k = absurd k
  or-first-alike f e (none_runs (Some (branches_differ x))) (none_runs (Some (branches_differ v))) s k = s

  picked-alike : (w : Waiting I) (ws : List (Waiting I)) (r q : Arranged I) (p p' : Picked I) → AllLocal ws → Alike_here r q → PicksAlike p p' → PicksAlike (picked w ws r p) (picked w ws q p')
  picked-alike w ws (runs gs o n zs) (runs hs o' m ys) p p' a k h = (k.0, k.1, k.2, outside-fresh own w.variables zs ys k.3, refl, a)
  picked-alike w ws (runs gs o n zs) (breaks e) p p' a k h = absurd k
  picked-alike w ws (breaks f) (runs hs o' m ys) p p' a k h = absurd k
  picked-alike w ws (breaks lacks) (breaks lacks) p p' a k h = tt
  picked-alike w ws (breaks lacks) (breaks (waits i us)) p p' a k h = absurd k
  picked-alike w ws (breaks lacks) (breaks (negated_binds v)) p p' a k h = absurd k
  picked-alike w ws (breaks lacks) (breaks (branches_differ v)) p p' a k h = absurd k
  picked-alike w ws (breaks (waits j vs)) (breaks lacks) p p' a k h = absurd k
  picked-alike w ws (breaks (waits j vs)) (breaks (waits i us)) p p' a k h = h
  picked-alike w ws (breaks (waits j vs)) (breaks (negated_binds v)) p p' a k h = absurd k
  picked-alike w ws (breaks (waits j vs)) (breaks (branches_differ v)) p p' a k h = absurd k
  picked-alike w ws (breaks (negated_binds x)) (breaks lacks) p p' a k h = absurd k
  picked-alike w ws (breaks (negated_binds x)) (breaks (waits i us)) p p' a k h = absurd k
  picked-alike w ws (breaks (negated_binds x)) (breaks (negated_binds v)) p p' a k h = or-first-alike (negated_binds x) (negated_binds v) p p' k h
  picked-alike w ws (breaks (negated_binds x)) (breaks (branches_differ v)) p p' a k h = absurd k
  picked-alike w ws (breaks (branches_differ x)) (breaks lacks) p p' a k h = absurd k
  picked-alike w ws (breaks (branches_differ x)) (breaks (waits i us)) p p' a k h = absurd k
  picked-alike w ws (breaks (branches_differ x)) (breaks (negated_binds v)) p p' a k h = absurd k
  picked-alike w ws (breaks (branches_differ x)) (breaks (branches_differ v)) p p' a k h = or-first-alike (branches_differ x) (branches_differ v) p p' k h

  pick-alike : (vs ws : List (Waiting I)) (O U : List ℕ) (n m : ℕ) (b c : Point I) → AllLocal vs → AllLocal ws → first ≤ n → first ≤ m → SameOutside own O U → SameAt own b c → PicksAlike (pick vs ws O n b) (pick vs ws U m c)
  pick-alike vs [] O U n m b c k h ln lm s e = tt
  pick-alike vs (w ∷ ws) O U n m b c k h ln lm s e =
      picked-alike w (vs ++ ws) (w.trial (O ++ variables_of_waiting (vs ++ ws)) n b) (w.trial (U ++ variables_of_waiting (vs ++ ws)) m c) (pick (vs ++ w ∷ []) ws O n b) (pick (vs ++ w ∷ []) ws U m c) (all-local-both vs ws k h.1)
      (h.0 (O ++ variables_of_waiting (vs ++ ws)) (U ++ variables_of_waiting (vs ++ ws)) n m b c ln lm (outside-more own O U (variables_of_waiting (vs ++ ws)) s) e)
      (pick-alike (vs ++ w ∷ []) ws O U n m b c (all-local-both vs (w ∷ []) k (h.0, tt)) h.1 ln lm s e)

  behind-alike : (gs hs : Nodes) (r q : Arranged I) → Alike_here r q → Alike_here (behind gs r) (behind hs q)
  behind-alike gs hs (breaks f) (breaks e) k = k
  behind-alike gs hs (breaks f) (runs ks o m ys) k = absurd k
  behind-alike gs hs (runs ks o n zs) (breaks e) k = absurd k
  behind-alike gs hs (runs ks o n zs) (runs ls p m ys) k = (k.0, k.1, k.2, λ x i. refl, λ x i. absurd i)

  in-turn-alike : (k : ℕ) (ws : List (Waiting I)) → AllLocal ws → Local (in_turn Op P declared T k ws)
  in-turn-alike zero ws a O U n m b c ln lm s h = (ln, lm, h, λ x i. refl, λ x i. absurd i)
  in-turn-alike (suc k) ws a O U n m b c ln lm s h = at (pick [] ws O n b) (pick [] ws U m c) (pick-alike [] ws O U n m b c tt a ln lm s h) (λ us ku. in-turn-alike k us ku)
    where
      at : (p q : Picked I) → PicksAlike p q → ((us : List (Waiting I)) → AllLocal us → Local (in_turn Op P declared T k us)) →
          Alike_here (goes_on (stuck Op P declared T ws b) p (λ vs rest j d. in_turn Op P declared T k rest (O ++ vs) j d)) (goes_on (stuck Op P declared T ws c) q (λ vs rest j d. in_turn Op P declared T k rest (U ++ vs) j d))
      at (none_runs None) (none_runs None) e again = tt
      at (none_runs None) (none_runs (Some f)) e again = absurd e
      at (none_runs (Some f)) (none_runs None) e again = absurd e
      at (none_runs (Some f)) (none_runs (Some g)) e again = e
      at (none_runs f) (takes us xs hs p j) e again = absurd e
      at (takes vs ys gs o i) (none_runs f) e again = absurd e
      at (takes vs ys gs None i) (takes us xs hs None j) e again = (e.0, e.1, tt, λ x l. refl, λ x l. absurd l)
      at (takes vs ys gs None i) (takes us xs hs (Some d) j) e again = absurd e.2
      at (takes vs ys gs (Some a) i) (takes us xs hs None j) e again = absurd e.2
      at (takes vs ys gs (Some a) i) (takes us xs hs (Some d) j) e again =
          behind-alike gs hs _ _
          (subst (λ (zs : List (Waiting I)). Alike_here (in_turn Op P declared T k ys (O ++ vs) i a) (in_turn Op P declared T k zs (U ++ us) j d)) e.4
          (again ys e.5 (O ++ vs) (U ++ us) i j a d e.0 e.1 (outside-both own O U vs us s e.3) e.2))

  mutual
    pub alike : (g : Flat_goal) → Among (variables_of g) own → OwnAlone own first (trial Op P declared T g)
    alike (F.Same x y) w O U n m b c ln lm s h = atom-alike (x ∷ y ∷ []) b c _ _ w h (same-alike x y n m b c ln lm (w x (inl refl)) (w y (inr (inl refl))) h)
    alike (F.Made x s ys) w O U n m b c ln lm e h = atom-alike (x ∷ ys) b c _ _ w h (made-alike x s ys n m b c ln lm w h)
    alike (F.Is x v) w O U n m b c ln lm s h = atom-alike (x ∷ []) b c _ _ w h (constant-alike x v n m b c ln lm (w x (inl refl)) h)
    alike (F.Call p xs) w O U n m b c ln lm s h = atom-alike xs b c _ _ w h (call-alike (P.preds p).builtin p xs n m b c ln lm w h)
    alike (F.And gs) w O U n m b c ln lm s h =
        wrapped-alike (λ m o hs. Conj hs) (λ m o hs. Conj hs) b c _ _ (in-turn-alike (count_flat gs) (trials Op P declared T gs) (all-alike-here gs w) O U n m b c ln lm s h)
    alike (F.Or gs) w O U n m b c ln lm s h =
        branched-alike None None Disj Disj (variables_of_all gs) O U b c _ _ refl w s h (each-branch-alike (trials Op P declared T gs) O U n m b c (all-alike-here gs w) ln lm s h)
    alike (F.If vs g h k) w O U n m b c ln lm s e =
        conditional-alike vs (without (free_in g) vs) (variables_of (F.If vs g h k)) O U b c (trial Op P declared T g (O ++ (without (free_in g) vs ++ variables_of h)) n b) (trial Op P declared T g (U ++ (without (free_in g) vs ++ variables_of h)) m c)
        (trial Op P declared T h) (trial Op P declared T k) (O ++ variables_of g) (U ++ variables_of g) O U
        (λ x i. w x (in-condition vs g h k x (free-among g x (among-without (free_in g) vs x i)))) w
        (alike h (λ x i. w x (in-then vs g h k x i))) (alike k (λ x i. w x (in-else vs g h k x i)))
        s (outside-more own O U (variables_of g) s) s e
        (alike g (λ x i. w x (in-condition vs g h k x i)) (O ++ (without (free_in g) vs ++ variables_of h)) (U ++ (without (free_in g) vs ++ variables_of h)) n m b c ln lm (outside-more own O U (without (free_in g) vs ++ variables_of h) s) e)
    alike (F.Not g) w O U n m b c ln lm s h =
        negation-alike (free_in g) b c _ _ (λ x i. w x (free-among g x i)) h (alike g w (O ++ free_in g) (U ++ free_in g) n m b c ln lm (outside-more own O U (free_in g) s) h)
    alike (F.Exists vs g) w O U n m b c ln lm s h =
        wrapped-alike (λ j o gs. Exists vs (alone Op j b o gs)) (λ j o gs. Exists vs (alone Op j c o gs)) b c _ _ (alike g (λ x i. w x (in_right x vs (variables_of g) i)) O U n m b c ln lm s h)

    pub all-alike-here : (gs : Flat_goals) → Among (variables_of_all gs) own → AllLocal (trials Op P declared T gs)
    all-alike-here no_flat w = tt
    all-alike-here (flat_then g gs) w = (alike g (λ x i. w x (in_left x (variables_of g) (variables_of_all gs) i)), all-alike-here gs (λ x i. w x (in_right x (variables_of g) (variables_of_all gs) i)))
