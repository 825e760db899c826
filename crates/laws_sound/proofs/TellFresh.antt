-- Truth and falsity at builtins with implied outputs: fresh variables and their tests.
use Rattle.std.proofs.Common.{◌≡◌, ◌≢◌, ◌⊎◌, inl, inr, ℕ, suc, List, [], ◌∷◌, ◌++◌, ◌<◌, map, length, is_some, Bool, true, false, cond, nat_eq, Option, Some, None, refl, sym, ap, ap₂, ◌∙◌, subst, ⊎_elim}
use Rattle.std.proofs.Math.Path.{fun_ext}
use Rattle.std.proofs.lemmas.Bool.{eq-eqb, ne_eqb, or_left}
use Rattle.mc_program.specs.Values.{Val, same_value}
use Rattle.mc_program.specs.Programs.{TypeTerm}
use Rattle.mc_model.specs.Lists.{is_in, In, Distinct}
use Rattle.mc_model.specs.Truth.{Assignment, SameOff}
use Rattle.mc_model.specs.EventList.{Items, End, Stuck, Stopped, Answer, Called, Wrote, Read, append, bind, first, Each, Covers, of_option}
use Rattle.mc_model.specs.Stream.{Bindings, Calls, same_items, stream, stream_of, stream_all}
use Rattle.mc_model.specs.Scheduled.{node, Test, Nodes, no_nodes}
use Rattle.mc_source.specs.Determinism.{det, semidet, inferred}
use Rattle.mc_accepted.specs.Ordered.{Insts, variables_of_nodes, Freshened, FreshenedHere, TestsInOrder, firsts, tested_by}
use Rattle.mc_accepted.specs.Determined.{nothing_known}
use Rattle.mc_model.specs.Good.{System, TypeChoice, BoundAs}
use Rattle.mc_accepted.specs.ProperTypes.{Parameters, ProperType}
use Rattle.mc_accepted.specs.Fits.{Fits}
use Rattle.laws_sound.specs.code.Passes.{Grows, BindsOnly, Agrees, AgreesFor, Hit, Tells, TypedAt, CallsSound}
use Rattle.laws_sound.proofs.Atoms
use Rattle.laws_sound.proofs.Binds
use Rattle.laws_sound.proofs.Combine
use Rattle.laws_sound.proofs.Lists
use Rattle.laws_sound.proofs.Sound
use Rattle.laws_sound.proofs.Sound.{PairsIn, fresh_split}
use Rattle.laws_sound.proofs.TellAtoms
use Rattle.laws_sound.proofs.TellLists
use Rattle.laws_sound.proofs.TellLists.{agrees_off, agrees_apart, with_bound, with_bound_off, with_bound_agrees}
use Rattle.laws_sound.proofs.Typed
use Rattle.laws_language.proofs.FlatGoals.{in_either, in_left, in_right}
use Rattle.laws_sound.proofs.Binds.{true_not_false}

-- lists one after another
pub append_end : {A : Type 0} (xs : Items A) → append xs End ≡ xs
append_end End = refl
append_end Stuck = refl
append_end (Stopped w) = refl
append_end (Answer a xs) = ap (λ k. Answer a k) (append_end xs)
append_end (Called p xs) = ap (λ k. Called p k) (append_end xs)
append_end (Wrote t xs) = ap (λ k. Wrote t k) (append_end xs)
append_end (Read n xs) = ap (λ k. Read n k) (append_end xs)

append_append : {A : Type 0} (xs ys zs : Items A) → append (append xs ys) zs ≡ append xs (append ys zs)
append_append End ys zs = refl
append_append Stuck ys zs = refl
append_append (Stopped w) ys zs = refl
append_append (Answer a xs) ys zs = ap (λ k. Answer a k) (append_append xs ys zs)
append_append (Called p xs) ys zs = ap (λ k. Called p k) (append_append xs ys zs)
append_append (Wrote t xs) ys zs = ap (λ k. Wrote t k) (append_append xs ys zs)
append_append (Read n xs) ys zs = ap (λ k. Read n k) (append_append xs ys zs)

bind_append : {A B : Type 0} (xs ys : Items A) (f : A → Items B) → bind (append xs ys) f ≡ append (bind xs f) (bind ys f)
bind_append End ys f = refl
bind_append Stuck ys f = refl
bind_append (Stopped w) ys f = refl
bind_append (Answer a xs) ys f = ap (λ k. append (f a) k) (bind_append xs ys f) ∙ sym (append_append (f a) (bind xs f) (bind ys f))
bind_append (Called p xs) ys f = ap (λ k. Called p k) (bind_append xs ys f)
bind_append (Wrote t xs) ys f = ap (λ k. Wrote t k) (bind_append xs ys f)
bind_append (Read n xs) ys f = ap (λ k. Read n k) (bind_append xs ys f)

pub bind_bind : {A B C : Type 0} (xs : Items A) (f : A → Items B) (g : B → Items C) → bind (bind xs f) g ≡ bind xs (λ a. bind (f a) g)
bind_bind End f g = refl
bind_bind Stuck f g = refl
bind_bind (Stopped w) f g = refl
bind_bind (Answer a xs) f g = bind_append (f a) (bind xs f) g ∙ ap (λ k. append (bind (f a) g) k) (bind_bind xs f g)
bind_bind (Called p xs) f g = ap (λ k. Called p k) (bind_bind xs f g)
bind_bind (Wrote t xs) f g = ap (λ k. Wrote t k) (bind_bind xs f g)
bind_bind (Read n xs) f g = ap (λ k. Read n k) (bind_bind xs f g)

-- what is asked of tests
abbrev pub AllSame : List (ℕ × ℕ) → Assignment → Type 0
AllSame [] s = Unit {0}
AllSame (t ∷ ts) s = (s t.0 ≡ s t.1) × AllSame ts s

abbrev pub OneDiffers : List (ℕ × ℕ) → Assignment → Type 0
OneDiffers [] s = ⊥
OneDiffers (t ∷ ts) s = (s t.0 ≢ s t.1) ⊎ OneDiffers ts s

abbrev pub pair_list : List (ℕ × ℕ) → List ℕ
pair_list [] = []
pair_list (t ∷ ts) = t.0 ∷ t.1 ∷ pair_list ts

abbrev pub seconds : List (ℕ × ℕ) → List ℕ
seconds [] = []
seconds (t ∷ ts) = t.1 ∷ seconds ts

same_differ : (tests : List (ℕ × ℕ)) (s : Assignment) → AllSame tests s → OneDiffers tests s → ⊥
same_differ [] s a d = d
same_differ (t ∷ ts) s a d = ⊎_elim (λ n. n a.0) (λ e. same_differ ts s a.1 e) d

-- arguments whose tests hold have the same values
map_here : (s : Assignment) (b : Bool) (x z : ℕ) (tests : List (ℕ × ℕ)) (Q : List (ℕ × ℕ) → Type 0) (X : Type 0) → AllSame tests s → ((ts : List (ℕ × ℕ)) → AllSame ts s → s z ≡ s x → Q ts → X) → FreshenedHere b x z tests Q → X
map_here s false x z tests Q X a f h = f tests a (ap s h.0) h.1
map_here s true x z [] Q X a f h = absurd h
map_here s true x z (t ∷ ts) Q X a f h = f ts a.1 (subst (λ k. s k.0 ≡ s k.1) h.0 a.0) h.1

fresh_map : (k : ℕ) (is xs zs : List ℕ) (tests : List (ℕ × ℕ)) (s : Assignment) → Freshened k is xs zs tests → AllSame tests s → map s zs ≡ map s xs
fresh_map k is [] [] tests s h a = refl
fresh_map k is [] (z ∷ zs) tests s h a = absurd h
fresh_map k is (x ∷ xs) [] tests s h a = absurd h
fresh_map k is (x ∷ xs) (z ∷ zs) tests s h a =
    map_here s (is_in k is) x z tests (Freshened (suc k) is xs zs) (map s (z ∷ zs) ≡ map s (x ∷ xs)) a (λ ts b e q. ap₂ (λ v vs. v ∷ vs) e (fresh_map (suc k) is xs zs ts s q b)) h

-- the assignment with the tested values for the fresh variables
abbrev pub moved : List (ℕ × ℕ) → Assignment → Assignment
moved [] s = s
moved (t ∷ ts) s = λ y. cond (nat_eq y t.0) (s t.1) (moved ts s y)

on_true : (b : Bool) (v w : Val) → b ≡ true → cond b v w ≡ v
on_true true v w e = refl
on_true false v w e = absurd (true_not_false (sym e))

on_false : (b : Bool) (v w : Val) → b ≡ false → cond b v w ≡ w
on_false true v w e = absurd (true_not_false e)
on_false false v w e = refl

moved_off : (tests : List (ℕ × ℕ)) (s : Assignment) → SameOff (firsts tests) s (moved tests s)
moved_off [] s y n = refl
moved_off (t ∷ ts) s y n = on_false (nat_eq y t.0) (s t.1) (moved ts s y) (ne_eqb y t.0 (λ e. n (inl e))) ∙ moved_off ts s y (λ i. n (inr i))

same_ext : (tests : List (ℕ × ℕ)) (s u : Assignment) → ((x : ℕ) → In x (pair_list tests) → u x ≡ s x) → AllSame tests s → AllSame tests u
same_ext [] s u f a = tt
same_ext (t ∷ ts) s u f a = (f t.0 (inl refl) ∙ (a.0 ∙ sym (f t.1 (inr (inl refl)))), same_ext ts s u (λ x i. f x (inr (inr i))) a.1)

pairs_split : (tests : List (ℕ × ℕ)) (x : ℕ) → In x (pair_list tests) → In x (firsts tests) ⊎ In x (seconds tests)
pairs_split [] x i = absurd i
pairs_split (t ∷ ts) x i = ⊎_elim (λ q. inl (inl q)) (λ j. ⊎_elim (λ q. inr (inl q)) (λ k. ⊎_elim (λ l. inl (inr l)) (λ l. inr (inr l)) (pairs_split ts x k)) j) i

moved_same : (tests : List (ℕ × ℕ)) (s : Assignment) → Distinct (firsts tests) → ((x : ℕ) → In x (seconds tests) → In x (firsts tests) → ⊥) → AllSame tests (moved tests s)
moved_same [] s d a = tt
moved_same (t ∷ ts) s d a = (
  on_true (nat_eq t.0 t.0) (s t.1) (moved ts s t.0) (eq-eqb t.0 t.0 refl) ∙ sym (moved_off (t ∷ ts) s t.1 (λ i. a t.1 (inl refl) i)),
  same_ext ts (moved ts s) (moved (t ∷ ts) s)
      (λ x i. on_false (nat_eq x t.0) (s t.1) (moved ts s x) (ne_eqb x t.0 (λ e. ⊎_elim (λ j. d.0 (subst (λ z. In z (firsts ts)) e j)) (λ j. a x (inr j) (inl e)) (pairs_split ts x i))))
      (moved_same ts s d.1 (λ x i j. a x (inr i) (inr j))),
)

-- second variables are arguments
second_here : (M : List ℕ) (b : Bool) (x z : ℕ) (tests : List (ℕ × ℕ)) (Q : List (ℕ × ℕ) → Type 0) (y : ℕ) → In x M → ((ts : List (ℕ × ℕ)) → Q ts → In y (seconds ts) → In y M) → FreshenedHere b x z tests Q → In y (seconds tests) → In y M
second_here M false x z tests Q y i f h j = f tests h.1 j
second_here M true x z [] Q y i f h j = absurd h
second_here M true x z (t ∷ ts) Q y i f h j = ⊎_elim (λ q. subst (λ k. In k M) (sym (q ∙ ap (λ u. u.1) h.0)) i) (λ k. f ts h.1 k) j

pub seconds_in : (M : List ℕ) (k : ℕ) (is xs zs : List ℕ) (tests : List (ℕ × ℕ)) → Freshened k is xs zs tests → ((y : ℕ) → In y xs → In y M) → (y : ℕ) → In y (seconds tests) → In y M
seconds_in M k is [] [] tests h f y i = absurd (subst (λ ts. In y (seconds ts)) h i)
seconds_in M k is [] (z ∷ zs) tests h f y i = absurd h
seconds_in M k is (x ∷ xs) [] tests h f y i = absurd h
seconds_in M k is (x ∷ xs) (z ∷ zs) tests h f y i = second_here M (is_in k is) x z tests (Freshened (suc k) is xs zs) y (f x (inl refl)) (λ ts q j. seconds_in M (suc k) is xs zs ts q (λ w l. f w (inr l)) y j) h i

given_here : (y : ℕ) (b : Bool) (x z : ℕ) (tests : List (ℕ × ℕ)) (Q : List (ℕ × ℕ) → Type 0) (xs zs : List ℕ) → ((ts : List (ℕ × ℕ)) → Q ts → In y xs → In y zs ⊎ In y (seconds ts)) → FreshenedHere b x z tests Q → In y (x ∷ xs) → In y (z ∷ zs) ⊎ In y (seconds tests)
given_here y false x z tests Q xs zs f h i = ⊎_elim (λ q. inl (inl (q ∙ sym h.0))) (λ j. ⊎_elim (λ k. inl (inr k)) (λ k. inr k) (f tests h.1 j)) i
given_here y true x z [] Q xs zs f h i = absurd h
given_here y true x z (t ∷ ts) Q xs zs f h i = ⊎_elim (λ q. inr (inl (q ∙ sym (ap (λ u. u.1) h.0)))) (λ j. ⊎_elim (λ k. inl (inr k)) (λ k. inr (inr k)) (f ts h.1 j)) i

-- an argument is one of the freshened arguments, or tested
pub given_split : (k : ℕ) (is xs zs : List ℕ) (tests : List (ℕ × ℕ)) → Freshened k is xs zs tests → (y : ℕ) → In y xs → In y zs ⊎ In y (seconds tests)
given_split k is [] [] tests h y i = absurd i
given_split k is [] (z ∷ zs) tests h y i = absurd h
given_split k is (x ∷ xs) [] tests h y i = absurd h
given_split k is (x ∷ xs) (z ∷ zs) tests h y i = given_here y (is_in k is) x z tests (Freshened (suc k) is xs zs) xs zs (λ ts q j. given_split (suc k) is xs zs ts q y j) h i

pub pairs_tested : (tests : List (ℕ × ℕ)) (ns : Nodes) (x : ℕ) → In x (pair_list tests) → In x (variables_of_nodes (tested_by tests ns))
pairs_tested [] ns x i = absurd i
pairs_tested (t ∷ ts) ns x i = ⊎_elim (λ q. inl q) (λ j. ⊎_elim (λ q. inr (inl q)) (λ k. inr (inr (pairs_tested ts ns x k))) j) i

pub second_pair : (tests : List (ℕ × ℕ)) (x : ℕ) → In x (seconds tests) → In x (pair_list tests)
second_pair [] x i = absurd i
second_pair (t ∷ ts) x i = ⊎_elim (λ q. inr (inl q)) (λ j. inr (inr (second_pair ts x j))) i

pub pairs_among : (M : List ℕ) (tests : List (ℕ × ℕ)) → PairsIn M tests → (x : ℕ) → In x (pair_list tests) → In x M
pairs_among M [] p x i = absurd i
pairs_among M (t ∷ ts) p x i = ⊎_elim (λ q. subst (λ z. In z M) (sym q) p.0) (λ j. ⊎_elim (λ q. subst (λ z. In z M) (sym q) p.1) (λ k. pairs_among M ts p.2 x k) j) i

first_option : (o : Option Bindings) → first (of_option o) ≡ of_option o
first_option None = refl
first_option (Some a) = refl

map_off : (vs xs : List ℕ) (s u : Assignment) → SameOff vs s u → ((x : ℕ) → In x xs → In x vs → ⊥) → map u xs ≡ map s xs
map_off vs [] s u o n = refl
map_off vs (x ∷ xs) s u o n = ap₂ (λ a b. a ∷ b) (o x (λ i. n x (inl refl) i)) (map_off vs xs s u o (λ y i. n y (inr i)))

-- the list of a pruned test is that of the test
first_same : (x y : ℕ) (a : Bindings) (o p : Option Val) → (v : Val) × (o ≡ Some v) → (w : Val) × (p ≡ Some w) → first (same_items x y a o p) ≡ same_items x y a o p
first_same x y a None p v w = absurd (Binds.none_some None v.0 refl v.1)
first_same x y a (Some u) None v w = absurd (Binds.none_some None w.0 refl w.1)
first_same x y a (Some u) (Some t) v w = first_option (cond (same_value u t) (Some a) None)

pub tests_assoc : (outcome : _) (C : Calls) (h : ℕ) (tests : List (ℕ × ℕ)) (ns : Nodes) (a : Bindings) → stream_all outcome C h (tested_by tests ns) a ≡ bind (stream_all outcome C h (tested_by tests no_nodes) a) (λ c. stream_all outcome C h ns c)
tests_assoc outcome C h [] ns a = sym (append_end (stream_all outcome C h ns a))
tests_assoc outcome C h (t ∷ ts) ns a =
    ap (λ f. bind (stream outcome C h (node (Test t.0 t.1) [] (inferred semidet) true) a) f) (fun_ext (λ c. tests_assoc outcome C h ts ns c))
    ∙ sym (bind_bind (stream outcome C h (node (Test t.0 t.1) [] (inferred semidet) true) a) (λ c. stream_all outcome C h (tested_by ts no_nodes) c) (λ c. stream_all outcome C h ns c))

module _ (S : System) (D : Parameters) (F : Fits S D) (C : Calls) (called : CallsSound S C) (lined : (k : ℕ) → k < S.count → length (S.procs k).first ≡ length (S.procs k).last) (T : ℕ → TypeTerm) (proper : (x : ℕ) → ProperType D (T x)) (θ : TypeChoice) (h : ℕ) (M : List ℕ) (c : Insts) where
  abbrev pub tests_of : List (ℕ × ℕ) → Bindings → Items Bindings
  tests_of ts a = stream_all S.world.outcome C h (tested_by ts no_nodes) a

  abbrev test_of : ℕ × ℕ → Bindings → Items Bindings
  test_of t a = stream S.world.outcome C h (node (Test t.0 t.1) [] (inferred semidet) true) a

  pub tests_each : (ts : List (ℕ × ℕ)) (a : Bindings) → TestsInOrder S T ts c → PairsIn M ts → TypedAt S θ T M c a → Each (λ a'. Grows a a' × (BindsOnly [] a a' × TypedAt S θ T M c a')) (tests_of ts a)
  tests_each ts a q p m =
      (Sound.tests_sound S D F C called lined T proper θ nothing_known h M M [] c (Some c) no_nodes ts (λ x i. i) q p a m
      (λ a' b m'. Atoms.sound_option S D F θ T proper nothing_known M [] a' c det (Some a') refl (Binds.extends_refl a', tt) (Atoms.binds_none [] a', tt) (m', tt) (λ k z. tt))).each

  test_each : (t : ℕ × ℕ) (a : Bindings) → c t.0 ≢ 0 → c t.1 ≢ 0 → In t.0 M → In t.1 M → TypedAt S θ T M c a → Each (λ a'. Grows a a' × (BindsOnly [] a a' × TypedAt S θ T M c a')) (test_of t a)
  test_each t a n k i j m =
      (Combine.pruned_sound S θ T nothing_known M [] a (Some c) semidet true (stream_of S.world.outcome C h (Test t.0 t.1) a)
      (Atoms.test_sound S D F θ T proper nothing_known M [] c a t.0 t.1 n k (λ x l. ⊎_elim (λ e. subst (λ z. BoundAs S θ (c z) (T z) (a z)) (sym e) (m t.0 i)) (λ w. ⊎_elim (λ e. subst (λ z. BoundAs S θ (c z) (T z) (a z)) (sym e) (m t.1 j)) (λ z. absurd z) w) l) m)).each

  test_tells : (t : ℕ × ℕ) (a : Bindings) (K : List ℕ) → c t.0 ≢ 0 → c t.1 ≢ 0 → In t.0 M → In t.1 M → TypedAt S θ T M c a → Tells (λ x. In x (t.0 ∷ t.1 ∷ [])) (λ s. s t.0 ≡ s t.1) (λ s. s t.0 ≢ s t.1) false K a (test_of t a)
  test_tells t a K n k i j m =
      let v = Typed.bound_at S D F θ (c t.0) (T t.0) (a t.0) n (m t.0 i) in
      let w = Typed.bound_at S D F θ (c t.1) (T t.1) (a t.1) k (m t.1 j) in
      let same = first_same t.0 t.1 a (a t.0) (a t.1) (v.0, v.1) (w.0, w.1) in
      record {
        yes = subst (λ z. Each (λ a'. (s : Assignment) → Agrees (t.0 ∷ t.1 ∷ []) a' s → s t.0 ≡ s t.1) z) (sym same) (TellAtoms.same_yes t.0 t.1 a (a t.0) (a t.1) refl refl (or_left (is_some (a t.0)) (is_some (a t.1)) (ap is_some v.1)));
        no = λ s g l. subst (λ z. Covers (Hit false K s) (s t.0 ≢ s t.1) z) (sym same) (TellAtoms.same_no t.0 t.1 a false K s g l);
      }

  tests_tell : (ts : List (ℕ × ℕ)) (a : Bindings) (K : List ℕ) → TestsInOrder S T ts c → PairsIn M ts → TypedAt S θ T M c a → Tells (λ x. In x (pair_list ts)) (AllSame ts) (OneDiffers ts) false K a (tests_of ts a)
  tests_tell [] a K q p m = record { yes = (λ s g. tt, tt); no = λ s g l. inl l }
  tests_tell (t ∷ ts) a K q p m =
      TellLists.next_tells (λ x. In x (t.0 ∷ t.1 ∷ [])) (λ x. In x (pair_list ts)) (λ x. In x (t.0 ∷ t.1 ∷ pair_list ts)) (λ s. s t.0 ≡ s t.1) (λ s. s t.0 ≢ s t.1) (AllSame ts) (OneDiffers ts) (AllSame (t ∷ ts)) (OneDiffers (t ∷ ts)) false false (K ++ pair_list ts) K a (λ a'. BindsOnly [] a a' × TypedAt S θ T M c a') (test_of t a) (λ a'. tests_of ts a')
      (λ x i. ⊎_elim (λ e. inl e) (λ j. ⊎_elim (λ e. inr (inl e)) (λ z. absurd z) j) i) (λ x i. inr (inr i)) (λ x i. in_left x K (pair_list ts) i) (λ x i. in_right x K (pair_list ts) i) (λ x i. ⊎_elim (λ j. inl j) (λ j. inr (inr (inr j))) (in_either x K (pair_list ts) i))
      (λ s y z. (y, z)) (λ s n. inl n) (λ s n. inr n)
      (test_each t a q.1 q.2 p.0 p.1 m)
      (test_tells t a (K ++ pair_list ts) q.1 q.2 p.0 p.1 m)
      (λ a' g r. Lists.each_map (λ d. Grows a' d × (BindsOnly [] a' d × TypedAt S θ T M c d)) (λ d. Grows a' d) (λ d z. z.0) (tests_of ts a') (tests_each ts a' q.3 p.2 r.1))
      (λ s a' k g r z. inl z)
      (λ a' g r. tests_tell ts a' K q.3 p.2 r.1)

  -- a builtin over fresh variables, and their tests: what they tell of the builtin over its arguments
  module _ (Y N : List Val → Type 0) (k : ℕ) (is xs zs : List ℕ) (tests : List (ℕ × ℕ)) (fresh : Freshened k is xs zs tests) (distinct : Distinct (firsts tests)) (apart : (x : ℕ) → In x xs → In x (firsts tests) → ⊥) (ok : TestsInOrder S T tests c) (pairs : PairsIn M tests)
      (e : Bindings) (none : (x : ℕ) → In x (firsts tests) → e x ≡ None) (vs : List ℕ) (xs' : Items Bindings) (each : Each (λ a. Grows e a × (BindsOnly vs e a × TypedAt S θ T M c a)) xs')
      (K : List ℕ) (off : (x : ℕ) → In x K → In x (firsts tests) → ⊥) (told : Tells (λ x. In x zs) (λ s. Y (map s zs)) (λ s. N (map s zs)) false (K ++ pair_list tests) e xs') where
    abbrev Whole : ℕ → Type 0
    Whole x = In x zs ⊎ In x (pair_list tests)

    whole_tells : Tells Whole (λ s. Y (map s zs) × AllSame tests s) (λ s. N (map s zs) ⊎ OneDiffers tests s) false K e (bind xs' (λ a. tests_of tests a))
    whole_tells =
        TellLists.next_tells (λ x. In x zs) (λ x. In x (pair_list tests)) Whole (λ s. Y (map s zs)) (λ s. N (map s zs)) (AllSame tests) (OneDiffers tests) (λ s. Y (map s zs) × AllSame tests s) (λ s. N (map s zs) ⊎ OneDiffers tests s) false false (K ++ pair_list tests) K e (λ a. BindsOnly vs e a × TypedAt S θ T M c a) xs' (λ a. tests_of tests a)
        (λ x i. inl i) (λ x i. inr i) (λ x i. in_left x K (pair_list tests) i) (λ x i. in_right x K (pair_list tests) i) (λ x i. ⊎_elim (λ j. inl j) (λ j. inr (inr j)) (in_either x K (pair_list tests) i))
        (λ s y z. (y, z)) (λ s n. inl n) (λ s n. inr n)
        each told
        (λ a g r. Lists.each_map (λ d. Grows a d × (BindsOnly [] a d × TypedAt S θ T M c d)) (λ d. Grows a d) (λ d z. z.0) (tests_of tests a) (tests_each tests a ok pairs r.1))
        (λ s a l g r z. inl z)
        (λ a g r. tests_tell tests a K ok pairs r.1)

    second_given : (x : ℕ) → In x (seconds tests) → In x xs
    second_given x i = seconds_in xs k is xs zs tests fresh (λ y j. j) x i

    given : (x : ℕ) → Whole x → (In x (firsts tests) → ⊥) → In x xs
    given x w n =
        ⊎_elim (λ i. ⊎_elim (λ j. j) (λ j. absurd (n j)) (fresh_split S T k is xs zs tests fresh x i)) (λ i. ⊎_elim (λ j. absurd (n j)) (λ j. second_given x j) (pairs_split tests x i)) w

    pub fresh_tells : Tells (λ x. In x xs) (λ s. Y (map s xs)) (λ s. N (map s xs)) false K e (bind xs' (λ a. tests_of tests a))
    fresh_tells =
        record {
          yes = Lists.each_map (λ a. (s : Assignment) → AgreesFor Whole a s → Y (map s zs) × AllSame tests s) (λ a. (s : Assignment) → Agrees xs a s → Y (map s xs))
              (λ a f s g.
              let u = with_bound (firsts tests) a s in
              let r = f u (with_bound_agrees Whole (firsts tests) a s (λ x w n v q. g x (given x w n) v q)) in
              subst Y (fresh_map k is xs zs tests u fresh r.1 ∙ map_off (firsts tests) xs s u (with_bound_off (firsts tests) a s) apart) r.0)
              (bind xs' (λ a. tests_of tests a)) whole_tells.yes;
          no = λ s g l.
              let u = moved tests s in
              let o = moved_off tests s in
              let same = moved_same tests s distinct (λ x i j. apart x (second_given x i) j) in
              let m : map u zs ≡ map s xs = fresh_map k is xs zs tests u fresh same ∙ map_off (firsts tests) xs s u o apart in
              Lists.covers_map (Hit false K u) (Hit false K s) (N (map u zs) ⊎ OneDiffers tests u) (N (map s xs)) (λ a z. agrees_apart K (firsts tests) a s u (λ x i j. off x j i) o z) (λ n. ⊎_elim (λ q. subst N m q) (λ d. absurd (same_differ tests u same d)) n)
              (bind xs' (λ a. tests_of tests a))
              (whole_tells.no u (agrees_off Whole (firsts tests) e s u none o (λ x w n v q. g x (given x w n) v q)) (agrees_off (λ x. In x K) (firsts tests) e s u none o (λ x i n v q. l x i v q)));
        }
