-- What the tests of arranged goals say.
use Rattle.std.proofs.Common.{◌≡◌, ◌≢◌, ◌⊎◌, inl, inr, ℕ, suc, ◌+◌, ◌<◌, ◌≤◌, Bool, true, false, cond, not, nat_eq, ◌&&◌, ◌||◌, List, [], ◌∷◌, ◌++◌, map, length, Some, None, refl, ap, sym, ◌∙◌, subst, ⊎_elim, arith}
use Rattle.std.specs.List.{list_any}
use Rattle.std.proofs.lemmas.Bool.{eqb-true, eqb-false, eq-eqb}
use Rattle.std.proofs.Math.Nat.{lt_of_lt_of_le}
use Rattle.mc_program.specs.Programs.{TypeTerm}
use Rattle.mc_model.specs.Insts.{dead}
use Rattle.mc_model.specs.Lists.{In, is_in, without}
use Rattle.mc_model.specs.Flat.{Flat_goal, Flat_goals, no_flat, flat_then, variables_of, variables_of_all, free_in, free_in_all}
use Rattle.mc_model.specs.Flat as F
use Rattle.mc_model.specs.Stream.{is_bound}
use Rattle.mc_model.specs.Good.{System}
use Rattle.mc_accepted.specs.Inclusion.{Included}
use Rattle.mc_accepted.specs.Ordered.{Insts, Mode, is_state, also, take_all, times_in, implied_places, binds_one, AllBound, NoneDead, NoneState, UsableAt, AfterArguments, After, no_more, not_passed, output, implied, dies, keeps, becomes}
use Rattle.mc_accepted.specs.Least.{least, lesser}
use Rattle.mc_accepted.specs.Arranged.{Declared, usable, is_input, after_call, taken, fresh_at, tests_at, with_fresh, those_in, differs}
use Rattle.mc_accepted.specs.NodeOracle.{NodeOracle, of_nodes}
use Rattle.mc_accepted.specs.code.Truthful.{AllAre, Truthful}
use Rattle.laws_order.specs.OrderLaws.{Below}
use Rattle.laws_language.proofs.FlatGoals.{in_either, in_left, in_right}
use Rattle.laws_language.proofs.FlatWhole.{in_list}
use Rattle.laws_language.proofs.ClauseNumbers.{from_without}

pub not-both : (t : Bool) → t ≡ true → t ≡ false → ⊥
not-both true e f = cc
not-both false e f = cc

pub or-first : (t u : Bool) → (t || u) ≡ false → t ≡ false
or-first true u e = cc
or-first false u e = refl

pub or-second : (t u : Bool) → (t || u) ≡ false → u ≡ false
or-second true u e = cc
or-second false u e = e

pub and-first : (t u : Bool) → (t && u) ≡ true → t ≡ true
and-first true u e = refl
and-first false u e = cc

pub and-second : (t u : Bool) → (t && u) ≡ true → u ≡ true
and-second true u e = e
and-second false u e = cc

pub not-false : (t : Bool) → not t ≡ false → t ≡ true
not-false true e = refl
not-false false e = cc

pub not-true : (t : Bool) → not t ≡ true → t ≡ false
not-true true e = cc
not-true false e = refl

pub is-set : (i : ℕ) → is_bound i ≡ true → i ≢ 0
is-set i e = eqb-false i 0 (not-true (nat_eq i 0) e)

pub is-unset : (i : ℕ) → is_bound i ≡ false → i ≡ 0
is-unset i e = eqb-true i 0 (not-false (nat_eq i 0) e)

-- ---- variables below the next number
pub below-both : (n : ℕ) (xs ys : List ℕ) → Below n xs → Below n ys → Below n (xs ++ ys)
below-both n xs ys p q x i = ⊎_elim (λ j. p x j) (λ j. q x j) (in_either x xs ys i)

pub below-left : (n : ℕ) (xs ys : List ℕ) → Below n (xs ++ ys) → Below n xs
below-left n xs ys p x i = p x (in_left x xs ys i)

pub below-right : (n : ℕ) (xs ys : List ℕ) → Below n (xs ++ ys) → Below n ys
below-right n xs ys p x i = p x (in_right x xs ys i)

pub below-more : (n m : ℕ) (xs : List ℕ) → n ≤ m → Below n xs → Below m xs
below-more n m xs le p x i = lt_of_lt_of_le (p x i) le

-- a goal's free variables are its variables
mutual
  pub free-is-own : (g : Flat_goal) (x : ℕ) → In x (free_in g) → In x (variables_of g)
  free-is-own (F.Same y z) x i = i
  free-is-own (F.Made y s ys) x i = i
  free-is-own (F.Is y v) x i = i
  free-is-own (F.Call p ys) x i = i
  free-is-own (F.And gs) x i = free-are-own gs x i
  free-is-own (F.Or gs) x i = free-are-own gs x i
  free-is-own (F.If vs g h k) x i =
      in_right x vs (variables_of g ++ (variables_of h ++ variables_of k))
      (⊎_elim (λ j. ⊎_elim (λ l. in_left x (variables_of g) (variables_of h ++ variables_of k) (free-is-own g x l)) (λ l. in_right x (variables_of g) (variables_of h ++ variables_of k) (in_left x (variables_of h) (variables_of k) (free-is-own h x l)))
      (in_either x (free_in g) (free_in h) (from_without x (free_in g ++ free_in h) vs j)))
      (λ j. in_right x (variables_of g) (variables_of h ++ variables_of k) (in_right x (variables_of h) (variables_of k) (free-is-own k x j)))
      (in_either x (without (free_in g ++ free_in h) vs) (free_in k) i))
  free-is-own (F.Not g) x i = free-is-own g x i
  free-is-own (F.Exists vs g) x i = in_right x vs (variables_of g) (free-is-own g x (from_without x (free_in g) vs i))

  pub free-are-own : (gs : Flat_goals) (x : ℕ) → In x (free_in_all gs) → In x (variables_of_all gs)
  free-are-own no_flat x i = i
  free-are-own (flat_then g gs) x i = ⊎_elim (λ j. in_left x (variables_of g) (variables_of_all gs) (free-is-own g x j)) (λ j. in_right x (variables_of g) (variables_of_all gs) (free-are-own gs x j)) (in_either x (free_in g) (free_in_all gs) i)

pub fresh-below : (k : ℕ) (is xs : List ℕ) (n x : ℕ) → In x (fresh_at k is xs n) → In x xs ⊎ (x < n + length (tests_at k is xs n))
fresh-below k is [] n x i = absurd i
fresh-below k is (y ∷ xs) n x i = at (is_in k is) i (fresh-below (suc k) is xs (suc n) x) (fresh-below (suc k) is xs n x)
  where
    at : (t : Bool) → In x (cond t (n ∷ fresh_at (suc k) is xs (suc n)) (y ∷ fresh_at (suc k) is xs n)) → (In x (fresh_at (suc k) is xs (suc n)) → In x xs ⊎ (x < suc n + length (tests_at (suc k) is xs (suc n)))) →
        (In x (fresh_at (suc k) is xs n) → In x xs ⊎ (x < n + length (tests_at (suc k) is xs n))) →
        ((x ≡ y) ⊎ In x xs) ⊎ (x < n + length (cond t ((n, y) ∷ tests_at (suc k) is xs (suc n)) (tests_at (suc k) is xs n)))
    at true j f g = ⊎_elim (λ e. inr (omega (arith, e))) (λ l. ⊎_elim (λ q. inl (inr q)) (λ q. inr (omega (arith, q))) (f l)) j
    at false j f g = ⊎_elim (λ e. inl (inl e)) (λ l. ⊎_elim (λ q. inl (inr q)) (λ q. inr q) (g l)) j

pub those-in : (xs ys : List ℕ) (x : ℕ) → In x xs → In x ys → In x (those_in xs ys)
those-in [] ys x i j = absurd i
those-in (z ∷ xs) ys x i j = at (is_in z ys) refl (⊎_elim (λ e. inl e) (λ k. inr (those-in xs ys x k j)) i)
  where
    at : (t : Bool) → is_in z ys ≡ t → (x ≡ z) ⊎ In x (those_in xs ys) → In x (cond t (z ∷ those_in xs ys) (those_in xs ys))
    at true e k = k
    at false e k = ⊎_elim (λ q. absurd (not-both (is_in z ys) (in_list z ys (subst (λ y. In y ys) q j)) e)) (λ l. l) k

-- where there is no least one, none passes
pub none-passes : (f : ℕ → Bool) (xs : List ℕ) (x : ℕ) → least f xs ≡ None → In x xs → f x ≡ false
none-passes f [] x e i = absurd i
none-passes f (y ∷ ys) x e i = at (f y) refl e (λ h j. none-passes f ys x h j)
  where
    at : (t : Bool) → f y ≡ t → cond t (Some (lesser y (least f ys))) (least f ys) ≡ None → (least f ys ≡ None → In x ys → f x ≡ false) → f x ≡ false
    at true q h r = cc
    at false q h r = ⊎_elim (λ e. ap f e ∙ q) (λ j. r h j) i

pub with-fresh : (vs zs : List ℕ) → with_fresh vs zs ≡ vs ++ zs
with-fresh vs [] = sym (nil vs)
  where
    nil : (vs : List ℕ) → vs ++ [] ≡ vs
    nil [] = refl
    nil (v ∷ vs) = ap (λ ws. v ∷ ws) (nil vs)
with-fresh vs (z ∷ zs) = refl

pub length-fresh : (k : ℕ) (is xs : List ℕ) (n : ℕ) → length (fresh_at k is xs n) ≡ length xs
length-fresh k is [] n = refl
length-fresh k is (x ∷ xs) n = at (is_in k is) (length-fresh (suc k) is xs (suc n)) (length-fresh (suc k) is xs n)
  where
    at : (t : Bool) → length (fresh_at (suc k) is xs (suc n)) ≡ length xs → length (fresh_at (suc k) is xs n) ≡ length xs → length (cond t (n ∷ fresh_at (suc k) is xs (suc n)) (x ∷ fresh_at (suc k) is xs n)) ≡ suc (length xs)
    at true e f = ap suc e
    at false e f = ap suc f

-- implied outputs have tests
abbrev HasTests : ℕ → List ℕ → List ℕ → (is : List ℕ) → ℕ → Type 0
HasTests k places xs is n = ((j : ℕ) → is_in j places ≡ true → is_in j is ≡ true) → places ≢ [] → tests_at k is xs n ≢ []

pub has-tests : (k : ℕ) (ms : List Mode) (xs : List ℕ) (f : ℕ → Bool) (is : List ℕ) (n : ℕ) → HasTests k (implied_places k ms xs f) xs is n
has-tests k [] xs f is n h ne e = ne refl
has-tests k (m ∷ ms) [] f is n h ne e = ne refl
has-tests k (m ∷ ms) (x ∷ xs) f is n h ne e = at (is_in k is) refl e (is_bound m.0 || not (is_bound m.1)) (f x) (has-tests (suc k) ms xs f is n) (has-tests (suc k) ms xs (λ y. cond (nat_eq y x) true (f y)) is n) h ne
  where
    at : (t : Bool) → is_in k is ≡ t → cond t ((n, x) ∷ tests_at (suc k) is xs (suc n)) (tests_at (suc k) is xs n) ≡ [] → (u v : Bool) →
        HasTests (suc k) (implied_places (suc k) ms xs f) xs is n → HasTests (suc k) (implied_places (suc k) ms xs (λ y. cond (nat_eq y x) true (f y))) xs is n →
        ((j : ℕ) → is_in j (cond u (implied_places (suc k) ms xs f) (cond v (k ∷ implied_places (suc k) ms xs f) (implied_places (suc k) ms xs (λ y. cond (nat_eq y x) true (f y))))) ≡ true → is_in j is ≡ true) →
        cond u (implied_places (suc k) ms xs f) (cond v (k ∷ implied_places (suc k) ms xs f) (implied_places (suc k) ms xs (λ y. cond (nat_eq y x) true (f y)))) ≢ [] → ⊥
    at true q r u v g1 g2 h ne = cc
    at false q r true v g1 g2 h ne = g1 h ne r
    at false q r false true g1 g2 h ne = not-both (is_in k is) (h k (ap (λ t. cond t true (is_in k (implied_places (suc k) ms xs f))) (eq-eqb k k refl))) q
    at false q r false false g1 g2 h ne = g2 h ne r

module _ (S : System) (T : ℕ → TypeTerm) (C : NodeOracle) (declared : ℕ → List Declared) (truth : Truthful S T C) where
  pub none-dead : (xs : List ℕ) (b : Insts) → list_any (λ x. C.is_dead (b x)) xs ≡ false → NoneDead S T xs b
  none-dead [] b e = tt
  none-dead (x ∷ xs) b e = (truth.lives (b x) (or-first (C.is_dead (b x)) _ e), none-dead xs b (or-second (C.is_dead (b x)) _ e))

  pub all-bound : (xs : List ℕ) (b : Insts) → list_any (λ y. not (is_bound (b y)) || is_state (T y)) xs ≡ false → AllBound xs b
  all-bound [] b e = tt
  all-bound (x ∷ xs) b e = (not-false (is_bound (b x)) (or-first (not (is_bound (b x))) (is_state (T x)) (or-first (not (is_bound (b x)) || is_state (T x)) _ e)), all-bound xs b (or-second (not (is_bound (b x)) || is_state (T x)) _ e))

  pub none-state : (xs : List ℕ) (b : Insts) → list_any (λ y. not (is_bound (b y)) || is_state (T y)) xs ≡ false → NoneState S T xs
  none-state [] b e = tt
  none-state (x ∷ xs) b e = (or-second (not (is_bound (b x))) (is_state (T x)) (or-first (not (is_bound (b x)) || is_state (T x)) _ e), none-state xs b (or-second (not (is_bound (b x)) || is_state (T x)) _ e))

  pub none-bound : (xs : List ℕ) (b c : Insts) → least (λ x. not (is_bound (b x)) && is_bound (c x)) xs ≡ None → binds_one xs b c ≡ false
  none-bound [] b c e = refl
  none-bound (x ∷ xs) b c e = at (not (is_bound (b x)) && is_bound (c x)) e (none-bound xs b c)
    where
      f : ℕ → Bool
      f z = not (is_bound (b z)) && is_bound (c z)

      at : (t : Bool) → cond t (Some (lesser x (least f xs))) (least f xs) ≡ None → (least f xs ≡ None → binds_one xs b c ≡ false) → cond t true (binds_one xs b c) ≡ false
      at true h r = cc
      at false h r = r h

  dead-once : (m : Mode) (x : ℕ) (all : List ℕ) → (t : Bool) → C.is_dead m.1 ≡ t → (not t || nat_eq (times_in x all) 1) ≡ true → S.insts m.1 ≡ dead → times_in x all ≡ 1
  dead-once m x all true e h d = eqb-true (times_in x all) 1 h
  dead-once m x all false e h d = absurd (truth.lives m.1 e d)

  pub is-usable : (all : List ℕ) (ms : List Mode) (xs : List ℕ) (b : Insts) → usable (of_nodes C) S.world.source declared T all ms xs b ≡ true → UsableAt S T all ms xs b
  is-usable all [] [] b e = tt
  is-usable all [] (x ∷ xs) b e = cc
  is-usable all (m ∷ ms) [] b e = cc
  is-usable all (m ∷ ms) (x ∷ xs) b e = ((λ n. at (is_bound m.0) refl n (and-first (not (is_bound m.0) || is_input (of_nodes C) S.world.source declared T all m x b) _ e)), is-usable all ms xs b (and-second (not (is_bound m.0) || is_input (of_nodes C) S.world.source declared T all m x b) _ e))
    where
      whole : Bool
      whole = is_bound (b x) && (C.fits (b x) m.0 (T x) && (not (C.is_dead m.1) || nat_eq (times_in x all) 1))

      at : (t : Bool) → is_bound m.0 ≡ t → m.0 ≢ 0 → (not t || (is_bound (b x) && (C.fits (b x) m.0 (T x) && (not (C.is_dead m.1) || nat_eq (times_in x all) 1)))) ≡ true →
          (is_bound (b x) ≡ true) × Included S.world.source S.insts (b x) m.0 (T x) × (S.insts m.1 ≡ dead → times_in x all ≡ 1)
      at false q n h = absurd (n (is-unset m.0 q))
      at true q n h =
          let r = and-second (is_bound (b x)) _ h in
          (and-first (is_bound (b x)) _ h, truth.fits (b x) m.0 (T x) (and-first (C.fits (b x) m.0 (T x)) _ r), dead-once m x all (C.is_dead m.1) refl (and-second (C.fits (b x) m.0 (T x)) _ r))

  pub usable-length : (all : List ℕ) (ms : List Mode) (xs : List ℕ) (b : Insts) → UsableAt S T all ms xs b → length ms ≡ length xs
  usable-length all [] [] b u = refl
  usable-length all [] (x ∷ xs) b u = absurd u
  usable-length all (m ∷ ms) [] b u = absurd u
  usable-length all (m ∷ ms) (x ∷ xs) b u = ap suc (usable-length all ms xs b u.1)

  as-implied : (f : ℕ → Bool) (i l x : ℕ) (ms : List Mode) (xs : List ℕ) (b c : Insts) → is_bound i ≡ false → l ≢ 0 → f x ≡ true → AfterArguments S T f ms xs b c → AfterArguments S T f ((i, l) ∷ ms) (x ∷ xs) b c
  as-implied f i l x ms xs b c p q r a = subst (λ j. AfterArguments S T f ((j, l) ∷ ms) (x ∷ xs) b c) (sym (is-unset i p)) (implied q r a)

  as-output : (f : ℕ → Bool) (i l x : ℕ) (ms : List Mode) (xs : List ℕ) (b c : Insts) → is_bound i ≡ false → l ≢ 0 → f x ≡ false → AfterArguments S T (λ y. cond (nat_eq y x) true (f y)) ms xs (also x l b) c →
      AfterArguments S T f ((i, l) ∷ ms) (x ∷ xs) b c
  as-output f i l x ms xs b c p q r a = subst (λ j. AfterArguments S T f ((j, l) ∷ ms) (x ∷ xs) b c) (sym (is-unset i p)) (output q r a)

  as-not-passed : (f : ℕ → Bool) (i l x : ℕ) (ms : List Mode) (xs : List ℕ) (b c : Insts) → is_bound i ≡ false → is_bound l ≡ false → AfterArguments S T f ms xs b c → AfterArguments S T f ((i, l) ∷ ms) (x ∷ xs) b c
  as-not-passed f i l x ms xs b c p q a =
      subst (λ j. AfterArguments S T f ((j, l) ∷ ms) (x ∷ xs) b c) (sym (is-unset i p)) (subst (λ k. AfterArguments S T f ((0, k) ∷ ms) (x ∷ xs) b c) (sym (is-unset l q)) (not_passed a))

  abbrev call_end : (ℕ → Bool) → List Mode → List ℕ → Insts → Insts
  call_end f ms xs b = after_call (of_nodes C) S.world.source declared T f ms xs b

  after-arguments : (ms : List Mode) (xs : List ℕ) (f : ℕ → Bool) (b : Insts) → length ms ≡ length xs → AfterArguments S T f ms xs b (call_end f ms xs b)
  after-arguments [] [] f b e = no_more
  after-arguments [] (x ∷ xs) f b e = cc
  after-arguments (m ∷ ms) [] f b e = cc
  after-arguments ((i, l) ∷ ms) (x ∷ xs) f b e =
      at (is_bound i) refl (is_bound l) refl (f x) refl (C.is_dead l) refl (C.fits (b x) l (T x)) refl (λ h c. after-arguments ms xs h c (let q : suc (length ms) ≡ suc (length xs) = e in cc))
    where
      at : (t : Bool) → is_bound i ≡ t → (u : Bool) → is_bound l ≡ u → (v : Bool) → f x ≡ v → (d : Bool) → C.is_dead l ≡ d → (w : Bool) → C.fits (b x) l (T x) ≡ w →
          ((h : ℕ → Bool) (c : Insts) → AfterArguments S T h ms xs c (call_end h ms xs c)) →
          AfterArguments S T f ((i, l) ∷ ms) (x ∷ xs) b (cond t (call_end f ms xs (cond (not d && w) b (also x l b))) (cond (not u || v) (call_end f ms xs b) (call_end (λ y. cond (nat_eq y x) true (f y)) ms xs (also x l b))))
      at true p u q v r true s w z rest = dies (is-set i p) (truth.dies l s) (rest f (also x l b))
      at true p u q v r false s true z rest = keeps (is-set i p) (truth.lives l s) (truth.fits (b x) l (T x) z) (rest f b)
      at true p u q v r false s false z rest = becomes (is-set i p) (truth.lives l s) (truth.fits_not (b x) l (T x) z) (rest f (also x l b))
      at false p true q true r d s w z rest = as-implied f i l x ms xs b (call_end f ms xs b) p (is-set l q) r (rest f b)
      at false p true q false r d s w z rest =
          as-output f i l x ms xs b (call_end (λ y. cond (nat_eq y x) true (f y)) ms xs (also x l b)) p (is-set l q) r (rest (λ y. cond (nat_eq y x) true (f y)) (also x l b))
      at false p false q v r d s w z rest = as-not-passed f i l x ms xs b (call_end f ms xs b) p q (rest f b)

  pub after : (ms : List Mode) (xs : List ℕ) (b : Insts) → length ms ≡ length xs → After S T ms xs b (after_call (of_nodes C) S.world.source declared T (λ x. is_bound (b x)) ms xs b)
  after ms xs b e = after-arguments ms xs (λ x. is_bound (b x)) b e

  pub took-all : (ys is : List ℕ) (b : Insts) → taken (of_nodes C) S.world.source declared T ys is b ≡ take_all ys is b
  took-all [] is b = refl
  took-all (y ∷ ys) [] b = refl
  took-all (y ∷ ys) (i ∷ is) b = took-all ys is (cond (is_bound (b y)) b (also y i b))

  -- ---- ends of branches
  abbrev ends_differ : List Insts → ℕ → Bool
  ends_differ es x = differs (of_nodes C) S.world.source declared T es x

  none-free : (cs : List Insts) (x : ℕ) → list_any (λ (c : Insts). not (is_bound (c x))) cs ≡ false → AllAre true (map (λ (c : Insts). c x) cs)
  none-free [] x e = tt
  none-free (c ∷ cs) x e = (not-false (is_bound (c x)) (or-first (not (is_bound (c x))) _ e), none-free cs x (or-second (not (is_bound (c x))) _ e))

  none-set : (cs : List Insts) (x : ℕ) → list_any (λ (c : Insts). is_bound (c x)) cs ≡ false → AllAre false (map (λ (c : Insts). c x) cs)
  none-set [] x e = tt
  none-set (c ∷ cs) x e = (or-first (is_bound (c x)) _ e, none-set cs x (or-second (is_bound (c x)) _ e))

  and-true : (t : Bool) → (t && true) ≡ false → t ≡ false
  and-true true e = cc
  and-true false e = refl

  pub all-are : (c : Insts) (cs : List Insts) (x : ℕ) → ends_differ (c ∷ cs) x ≡ false → AllAre (is_bound (c x)) (map (λ (d : Insts). d x) (c ∷ cs))
  all-are c cs x e = (refl, at (is_bound (c x)) e)
    where
      at : (t : Bool) → ((not t || list_any (λ (c : Insts). not (is_bound (c x))) cs) && (t || list_any (λ (c : Insts). is_bound (c x)) cs)) ≡ false → AllAre t (map (λ (d : Insts). d x) cs)
      at true h = none-free cs x (and-true (list_any (λ (c : Insts). not (is_bound (c x))) cs) h)
      at false h = none-set cs x h
