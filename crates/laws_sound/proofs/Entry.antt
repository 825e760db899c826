-- The first pass at procedures: entry, exit, and the induction on the levels of calls.
use Rattle.std.proofs.Common.{◌≡◌, ◌≢◌, inl, inr, ℕ, zero, suc, ◌<◌, ◌≤◌, List, [], ◌∷◌, map, length, Bool, true, false, cond, nat_eq, IsTrue, Option, Some, None, refl, sym, ap, ◌∙◌, subst, arith, ⊎_elim}
use Rattle.std.proofs.lemmas.Bool.{eqb-true, eq-eqb, ne_eqb}
use Rattle.mc_program.specs.Values.{Val}
use Rattle.mc_program.specs.Programs.{TypeTerm}
use Rattle.mc_model.specs.Insts.{InstNode, free, ground, unique, dead, bound}
use Rattle.mc_accepted.specs.Inclusion.{Included, IncludedNodes, NoMore}
use Rattle.mc_model.specs.Lists.{In, Distinct, from}
use Rattle.mc_model.specs.EventList.{Made_call, budget, Items, End, Stuck, Stopped, Answer, Called, bind, AtMost}
use Rattle.mc_model.specs.Stream.{Bindings, Calls, is_bound, ready, enter, leave, pruned_to, stream, body_items, calls}
use Rattle.mc_model.specs.Scheduled.{Procedure, Label}
use Rattle.mc_source.specs.Determinism.{rank}
use Rattle.mc_accepted.specs.Ordered.{Insts}
use Rattle.mc_accepted.specs.Determined.{nothing_known, determined}
use Rattle.mc_model.specs.Good.{System, TypeChoice, BoundAs, Shape, Given, Keeps, GivenCall, types_of}
use Rattle.mc_accepted.specs.ProperTypes.{Parameters, ProperType}
use Rattle.mc_accepted.specs.Fits.{Fits, type_of, goal_of, FitsProcedure}
use Rattle.mc_accepted.specs.Accepted.{entered, Final, FinalAfter, AcceptedProcedure, Accepted}
use Rattle.laws_sound.specs.code.Passes.{Grows, BindsOnly, Closed, Knows, TypedAt, Reached, Sound, CallSound, CallsSound}
use Rattle.mc_source.specs.declared.det.Most.{Most}
use Rattle.mc_source.specs.declared.det.Most.TheVariants.{Zero, One, Many}
use Rattle.laws_sound.proofs.Binds
use Rattle.laws_sound.proofs.CallLists
use Rattle.laws_sound.proofs.Counts.{times_one}
use Rattle.laws_sound.proofs.Lists
use Rattle.laws_sound.proofs.Sound
use Rattle.laws_sound.proofs.Typed
use Rattle.laws_sound.proofs.Typed.{bound_is, free_is, is_bound_of}
use Rattle.laws_sound.proofs.Atoms.{none_at_most}
use Rattle.laws_language.proofs.FlatWhole.{in_or_not}
use Rattle.laws_sound.proofs.Binds.{true_not_false}

-- entry
entry_bound : (S : System) (θ : TypeChoice) (t p : Bool) (i : ℕ) (u u' : TypeTerm) (v o : Option Val) (k : ℕ) → is_bound i ≡ p → (t ≡ true → u' ≡ u) → (i ≢ 0 → BoundAs S θ i u v) → BoundAs S θ k u' o → BoundAs S θ (cond t i k) u' (cond t (cond p v None) o)
entry_bound S θ true true i u u' v o k q h f e = subst (λ w. BoundAs S θ i w v) (sym (h refl)) (f (bound_is i q))
entry_bound S θ true false i u u' v o k q h f e = free_is i q
entry_bound S θ false p i u u' v o k q h f e = e

pub enter_typed : (S : System) (θ : TypeChoice) (T : ℕ → TypeTerm) (ys is : List ℕ) (ts : List TypeTerm) (vs : List (Option Val)) → map T ys ≡ ts → Given S θ is ts vs → (x : ℕ) → BoundAs S θ (entered ys is x) (T x) (enter ys is vs x)
enter_typed S θ T [] is ts vs m g x = refl
enter_typed S θ T (y ∷ ys) [] ts vs m g x = refl
enter_typed S θ T (y ∷ ys) (i ∷ is) ts [] m g x = absurd (no ts g)
  where
    no : (ts : List TypeTerm) → Given S θ (i ∷ is) ts [] → ⊥
    no [] g = g
    no (t ∷ ts) g = g
enter_typed S θ T (y ∷ ys) (i ∷ is) [] (v ∷ vs) m g x = absurd g
enter_typed S θ T (y ∷ ys) (i ∷ is) (t ∷ ts) (v ∷ vs) m g x =
    entry_bound S θ (nat_eq x y) (is_bound i) i t (T x) v (enter ys is vs x) (entered ys is x) refl (λ q. ap T (eqb-true x y q) ∙ Sound.cons_front (T y) t (map T ys) ts m) g.0 (enter_typed S θ T ys is ts vs (Sound.cons_rest (T y) t (map T ys) ts m) g.1 x)

pub given_ready : (S : System) (θ : TypeChoice) (is : List ℕ) (ts : List TypeTerm) (vs : List (Option Val)) → Given S θ is ts vs → ready is vs ≡ true
given_ready S θ [] [] [] g = refl
given_ready S θ [] [] (v ∷ vs) g = absurd g
given_ready S θ [] (t ∷ ts) vs g = absurd g
given_ready S θ (i ∷ is) [] vs g = absurd g
given_ready S θ (i ∷ is) (t ∷ ts) [] g = absurd g
given_ready S θ (i ∷ is) (t ∷ ts) (None ∷ vs) g = on (is_bound i) refl (given_ready S θ is ts vs g.1)
  where
    on : (p : Bool) → is_bound i ≡ p → ready is vs ≡ true → cond p false (ready is vs) ≡ true
    on true q r = absurd (bound_is i q (g.0 (bound_is i q)))
    on false q r = r
given_ready S θ (i ∷ is) (t ∷ ts) (Some v ∷ vs) g = given_ready S θ is ts vs g.1

entered_out : (ys is : List ℕ) (x : ℕ) → (In x ys → ⊥) → entered ys is x ≡ 0
entered_out [] is x n = refl
entered_out (y ∷ ys) [] x n = refl
entered_out (y ∷ ys) (i ∷ is) x n = on (nat_eq x y) (ne_eqb x y (λ e. n (inl e))) (entered_out ys is x (λ j. n (inr j)))
  where
    on : (t : Bool) → t ≡ false → entered ys is x ≡ 0 → cond t i (entered ys is x) ≡ 0
    on true e h = absurd (true_not_false e)
    on false e h = h

enter_out : (ys is : List ℕ) (vs : List (Option Val)) (x : ℕ) → (In x ys → ⊥) → enter ys is vs x ≡ None
enter_out [] is vs x n = refl
enter_out (y ∷ ys) [] vs x n = refl
enter_out (y ∷ ys) (i ∷ is) [] x n = refl
enter_out (y ∷ ys) (i ∷ is) (v ∷ vs) x n = on (nat_eq x y) (cond (is_bound i) v None) (ne_eqb x y (λ e. n (inl e))) (enter_out ys is vs x (λ j. n (inr j)))
  where
    on : (t : Bool) (o : Option Val) → t ≡ false → enter ys is vs x ≡ None → cond t o (enter ys is vs x) ≡ None
    on true o e h = absurd (true_not_false e)
    on false o e h = h

pub enter_closed : (ys is : List ℕ) (vs : List (Option Val)) → Closed ys ys (entered ys is) (enter ys is vs)
enter_closed ys is vs x = ⊎_elim (λ i. inl (inl i)) (λ n. inr (entered_out ys is x n, enter_out ys is vs x n)) (in_or_not x ys)

-- the inputs stand at the head variables
abbrev pub At : List ℕ → List ℕ → List (Option Val) → Bindings → Type 0
At (y ∷ ys) (i ∷ is) (v ∷ vs) e = (i ≢ 0 → e y ≡ v) × At ys is vs e
At _ _ _ e = Unit {0}

at_other : (ys is : List ℕ) (vs : List (Option Val)) (e a : Bindings) → ((z : ℕ) → In z ys → a z ≡ e z) → At ys is vs e → At ys is vs a
at_other [] is vs e a f h = tt
at_other (y ∷ ys) [] vs e a f h = tt
at_other (y ∷ ys) (i ∷ is) [] e a f h = tt
at_other (y ∷ ys) (i ∷ is) (v ∷ vs) e a f h = ((λ n. f y (inl refl) ∙ h.0 n), at_other ys is vs e a (λ z j. f z (inr j)) h.1)

pub cond_here : {A : Type 0} (t : Bool) (x y : A) → t ≡ true → cond t x y ≡ x
cond_here true x y e = refl
cond_here false x y e = absurd (true_not_false (sym e))

pub cond_there : {A : Type 0} (t : Bool) (x y : A) → t ≡ false → cond t x y ≡ y
cond_there true x y e = absurd (true_not_false e)
cond_there false x y e = refl

pub enter_at : (ys is : List ℕ) (vs : List (Option Val)) → Distinct ys → At ys is vs (enter ys is vs)
enter_at [] is vs d = tt
enter_at (y ∷ ys) [] vs d = tt
enter_at (y ∷ ys) (i ∷ is) [] d = tt
enter_at (y ∷ ys) (i ∷ is) (v ∷ vs) d = (
  (λ n. cond_here (nat_eq y y) (cond (is_bound i) v None) (enter ys is vs y) (eq-eqb y y refl) ∙ cond_here (is_bound i) v None (is_bound_of i n)),
  at_other ys is vs (enter ys is vs) (enter (y ∷ ys) (i ∷ is) (v ∷ vs)) (λ z j. cond_there (nat_eq z y) (cond (is_bound i) v None) (enter ys is vs z) (ne_eqb z y (λ e. d.0 (subst (λ u. In u ys) e j)))) (enter_at ys is vs d.1),
)

from_least : (n k x : ℕ) → In x (from n k) → n ≤ x
from_least n zero x i = absurd i
from_least n (suc k) x i = ⊎_elim (λ e. omega arith) (λ j. omega (arith, from_least (suc n) k x j)) i

pub from_distinct : (n k : ℕ) → Distinct (from n k)
from_distinct n zero = tt
from_distinct n (suc k) = ((λ i. omega (arith, from_least (suc n) k n i)), from_distinct (suc n) k)

-- inclusion and `free`
free_included : (M : InstNode) (Q : Type 0) → IncludedNodes free M Q → M ≡ free
free_included free Q h = refl
free_included ground Q h = absurd h
free_included unique Q h = absurd h
free_included dead Q h = absurd h
free_included (bound ls) Q h = absurd h

included_free : (N : InstNode) (Q : Type 0) → IncludedNodes N free Q → N ≡ free
included_free free Q h = refl
included_free ground Q h = absurd h
included_free unique Q h = absurd h
included_free dead Q h = absurd h
included_free (bound ls) Q h = absurd h

more_answers : {A : Type 0} (m k : Most) (xs : Items A) → rank m ≤ rank k → AtMost m xs → AtMost k xs
more_answers Zero Zero xs l h = h
more_answers Zero One xs l h = omega arith
more_answers Zero Many xs l h = tt
more_answers One Zero xs l h = absurd (omega arith)
more_answers One One xs l h = h
more_answers One Many xs l h = tt
more_answers Many Zero xs l h = absurd (omega arith)
more_answers Many One xs l h = absurd (omega arith)
more_answers Many Many xs l h = tt

module _ (S : System) (D : Parameters) (F : Fits S D) (θ : TypeChoice) where
  pub included_left : (i j : ℕ) (t : TypeTerm) → Included S.world.source S.insts i j t → i ≡ 0 → j ≡ 0
  included_left i j t c e = Typed.only_free S D F j (free_included (S.insts j) (NoMore S.world.source S.insts i j t) (subst (λ N. IncludedNodes N (S.insts j) (NoMore S.world.source S.insts i j t)) (Typed.zero_free S D F i e) c))

  pub included_right : (i j : ℕ) (t : TypeTerm) → Included S.world.source S.insts i j t → j ≡ 0 → i ≡ 0
  included_right i j t c e = Typed.only_free S D F i (included_free (S.insts i) (NoMore S.world.source S.insts i j t) (subst (λ N. IncludedNodes (S.insts i) N (NoMore S.world.source S.insts i j t)) (Typed.zero_free S D F j e) c))

  -- exit
  left_shape : (l k : ℕ) (t : TypeTerm) (o : Option Val) (p : Bool) → ProperType D t → is_bound l ≡ p → Included S.world.source S.insts k l t → BoundAs S θ k t o → BoundAs S θ l t (cond p o None)
  left_shape l k t None true q b c h = absurd (bound_is l b (included_left k l t c h))
  left_shape l k t (Some v) true q b c h = Typed.included_bound S D F θ k l t v q (bound_is l b) c h
  left_shape l k t o false q b c h = free_is l b

  left_keeps : (l k : ℕ) (t : TypeTerm) (o v : Option Val) (w : Val) (p : Bool) → is_bound l ≡ p → Included S.world.source S.insts k l t → BoundAs S θ k t o → o ≡ Some w → v ≡ Some w → cond p o None ≡ v
  left_keeps l k t o v w true b c h e f = e ∙ sym f
  left_keeps l k t o v w false b c h e f = absurd (no o e h)
    where
      no : (o : Option Val) → o ≡ Some w → BoundAs S θ k t o → ⊥
      no None e h = Binds.none_some None w refl e
      no (Some u) e h = h.0 (included_right k l t c (free_is l b))

  module _ (p : Procedure) (proper : (x : ℕ) → ProperType D (type_of S p x)) where
    exit_answer : (ys is ls : List ℕ) (ts : List TypeTerm) (vs : List (Option Val)) (c : Insts) (e a : Bindings) → length is ≡ length ls → map (type_of S p) ys ≡ ts → Given S θ is ts vs → Final S p ys ls c → TypedAt S θ (type_of S p) ys c a → At ys is vs e → Grows e a →
        Shape S θ ls ts (leave ys ls a) × Keeps is vs (leave ys ls a)
    exit_answer [] is [] [] [] c e a n m g f t h x = (tt, nothing is n)
      where
        nothing : (is : List ℕ) → length is ≡ zero → Keeps is [] []
        nothing [] n = tt
        nothing (i ∷ is) n = absurd (no (length is) n)
          where
            no : (k : ℕ) → suc k ≡ zero → ⊥
            no k e = cc
    exit_answer [] is [] [] (v ∷ vs) c e a n m g f t h x = absurd (none is g)
      where
        none : (is : List ℕ) → Given S θ is [] (v ∷ vs) → ⊥
        none [] g = g
        none (i ∷ is) g = g
    exit_answer [] is [] (u ∷ ts) vs c e a n m g f t h x = absurd (no u ts m)
      where
        no : (t : TypeTerm) (ts : List TypeTerm) → [] ≡ t ∷ ts → ⊥
        no t ts e = cc
    exit_answer [] is (l ∷ ls) ts vs c e a n m g f t h x = absurd f
    exit_answer (y ∷ ys) is [] ts vs c e a n m g f t h x = absurd f
    exit_answer (y ∷ ys) [] (l ∷ ls) ts vs c e a n m g f t h x = absurd (no (length ls) n)
      where
        no : (k : ℕ) → zero ≡ suc k → ⊥
        no k e = cc
    exit_answer (y ∷ ys) (i ∷ is) (l ∷ ls) [] vs c e a n m g f t h x = absurd (no (type_of S p y) (map (type_of S p) ys) m)
      where
        no : (t : TypeTerm) (ts : List TypeTerm) → t ∷ ts ≡ [] → ⊥
        no t ts e = cc
    exit_answer (y ∷ ys) (i ∷ is) (l ∷ ls) (u ∷ ts) [] c e a n m g f t h x = absurd g
    exit_answer (y ∷ ys) (i ∷ is) (l ∷ ls) (u ∷ ts) (v ∷ vs) c e a n m g f t h x =
        let q = Sound.cons_front (type_of S p y) u (map (type_of S p) ys) ts m in
        let r = exit_answer ys is ls ts vs c e a (less (length is) (length ls) n) (Sound.cons_rest (type_of S p y) u (map (type_of S p) ys) ts m) g.1 f.1 (λ z j. t z (inr j)) h.1 x in (
          (subst (λ k. BoundAs S θ l k (cond (is_bound l) (a y) None)) q (left_shape l (c y) (type_of S p y) (a y) (is_bound l) (proper y) refl f.0 (t y (inl refl))), r.0),
          ((λ k. let w = Typed.bound_at S D F θ i u v k (g.0 k) in left_keeps l (c y) (type_of S p y) (a y) v w.0 (is_bound l) refl f.0 (t y (inl refl)) (x y w.0 (h.0 k ∙ w.1)) w.1), r.1),
        )
      where
        less : (m n : ℕ) → suc m ≡ suc n → m ≡ n
        less m n e = cc

    exit_after : (is : List ℕ) (o : Option Insts) (vs : List (Option Val)) (e a : Bindings) → length is ≡ length p.last → map (type_of S p) p.head ≡ types_of S p → Given S θ is (types_of S p) vs → FinalAfter S p o → Reached S θ (type_of S p) p.head o a → At p.head is vs e → Grows e a →
        Shape S θ p.last (types_of S p) (leave p.head p.last a) × Keeps is vs (leave p.head p.last a)
    exit_after is None vs e a n m g f t h x = absurd t
    exit_after is (Some c) vs e a n m g f t h x = exit_answer p.head is p.last (types_of S p) vs c e a n m g f t h x

  committed_sound : (p : Procedure) (vs : List (Option Val)) (t : Bool) (xs : Items (List (Option Val))) → CallSound S θ p vs xs → CallSound S θ p vs (pruned_to t xs)
  committed_sound p vs false xs s = s
  committed_sound p vs true xs s =
      record {
        each = Lists.each_first (λ os. Shape S θ p.last (types_of S p) os × Keeps p.first vs os) (λ os. Shape S θ p.last (types_of S p) os × Keeps p.first vs os) xs s.each;
        calls = CallLists.calls_first (GivenCall S) xs s.calls;
        count = Lists.at_most_first_same p.det.most xs s.count;
        sure = λ q. Lists.succeeds_first xs (s.sure q);
      }

pub cond_true : {A : Type 0} (Q : A → Type 0) (t : Bool) (x y : A) → t ≡ true → Q x → Q (cond t x y)
cond_true Q true x y e q = q
cond_true Q false x y e q = absurd (true_not_false (sym e))

row_many : (c : Bool) (m k : Most) → (c ≡ true → m ≡ Many) → rank k ≤ rank (cond c Many m) → rank k ≤ rank m
row_many true m k f h = subst (λ z. rank k ≤ rank z) (sym (f refl)) h
row_many false m k f h = h

not_fails : (f g : Bool) → (IsTrue f → IsTrue g) → g ≡ false → f ≡ false
not_fails false g h e = refl
not_fails true true h e = absurd (true_not_false e)
not_fails true false h e = sym (h refl)

one_answer : (os : List (Option Val)) → AtMost One (Answer os End)
one_answer os = omega arith

module _ (S : System) (D : Parameters) (F : Fits S D) (accepted : Accepted S) where
  pub lined : (k : ℕ) → k < S.count → length (S.procs k).first ≡ length (S.procs k).last
  lined k l = let a = accepted k l in a.lengths.0 ∙ sym a.lengths.1

  pub known_none : (e : Bindings) → Knows nothing_known e
  known_none e x l q = absurd (none_label l q)
    where
      none_label : (l : Label) → None ≡ Some l → ⊥
      none_label l e = cc

  pub body_sound : (C : Calls) → CallsSound S C → (θ : TypeChoice) (h : ℕ) (p : Procedure) (vs : List (Option Val)) → FitsProcedure S D p → AcceptedProcedure S p → Given S θ p.first (types_of S p) vs → CallSound S θ p vs (body_items S.world.outcome C h p vs)
  body_sound C called θ h p vs fit r g =
      let e : Bindings = enter p.head p.first vs in
      let T = type_of S p in
      let b = entered p.head p.first in
      let xs = stream S.world.outcome C h p.body e in
      let et = enter_typed S θ T p.head p.first (types_of S p) vs fit.head_types g in
      let s : Sound S θ T nothing_known p.head _ e r.after (determined S T b nothing_known p.body) xs =
      Sound.sound_node S D F C called lined T fit.types θ r.ordered fit.typed nothing_known h p.head (λ x i. i) e (enter_closed p.head p.first vs) (λ x i. et x) (λ x i. et x) in
      let f : Bindings → Items (List (Option Val)) = λ a. Answer (leave p.head p.last a) End in
      let dh : Distinct p.head = subst Distinct (sym r.head) (from_distinct 0 (goal_of S p).arity) in
      cond_true (CallSound S θ p vs) (ready p.first vs) (pruned_to p.det.committed (bind xs f)) Stuck (given_ready S θ p.first (types_of S p) vs g)
      (committed_sound S D F θ p vs p.det.committed (bind xs f)
      (record {
        each = Lists.each_bind (λ a. Grows e a × (BindsOnly _ e a × Reached S θ T p.head r.after a)) (λ os. Shape S θ p.last (types_of S p) os × Keeps p.first vs os) f xs s.each
            (λ a z. (exit_after S D F θ p fit.types p.first r.after vs e a (r.lengths.0 ∙ sym r.lengths.1) fit.head_types g r.final z.1.1 (enter_at p.head p.first vs dh) z.0, tt));
        calls = CallLists.calls_bind (GivenCall S) (λ a. Grows e a × (BindsOnly _ e a × Reached S θ T p.head r.after a)) f xs s.each s.calls (λ a z. tt);
        count = more_answers (determined S T b nothing_known p.body).most p.det.most (bind xs f) (row_many p.det.committed p.det.most (determined S T b nothing_known p.body).most r.declared r.allowed.1)
            (subst (λ m. AtMost m (bind xs f)) (times_one (determined S T b nothing_known p.body).most) (Lists.at_most_bind (λ a. Grows e a × (BindsOnly _ e a × Reached S θ T p.head r.after a)) f (determined S T b nothing_known p.body).most One xs s.each (s.count (known_none e)) (λ a z. one_answer (leave p.head p.last a))));
        sure = λ q. Lists.succeeds_bind (λ a. Grows e a × (BindsOnly _ e a × Reached S θ T p.head r.after a)) f xs s.each (s.sure (known_none e) (not_fails (determined S T b nothing_known p.body).can_fail p.det.can_fail r.allowed.0 q)) (λ a z. tt);
      }))

  pub calls_sound : (m : ℕ) → CallsSound S (calls S.world.outcome S.procs m)
  calls_sound zero θ h k vs l g = record { each = tt; calls = tt; count = none_at_most {A = List (Option Val)} (S.procs k).det.most (Stopped budget) refl; sure = λ q. tt }
  calls_sound (suc m) θ h k vs l g =
      let s = body_sound (calls S.world.outcome S.procs m) (calls_sound m) θ h (S.procs k) vs (F.procedures k l) (accepted k l) g in
      record { each = s.each; calls = ((l, (θ, g)), s.calls); count = called (S.procs k).det.most _ _ s.count; sure = s.sure }
    where
      called : (m : Most) (q : Made_call) (xs : Items (List (Option Val))) → AtMost m xs → AtMost m (Called q xs)
      called Zero q xs h = h
      called One q xs h = h
      called Many q xs h = h
