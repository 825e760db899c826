-- What becomes of equations of a variable and a constructor.
use Rattle.std.proofs.Common.{◌≡◌, ℕ, zero, suc, ◌<◌, Bool, true, false, not, ◌||◌, List, [], ◌∷◌, length, get_or, map, Option, Ok, Err, nat_eq, if◌then◌else◌, refl, ap, ap₂, ◌∙◌, arith}
use Rattle.std.specs.List.{list_any}
use Rattle.mc_program.specs.Programs.{TypeTerm, Source}
use Rattle.mc_model.specs.Stream.{is_bound}
use Rattle.mc_accepted.specs.Ordered.{is_state}
use Rattle.mc_accepted.specs.Arranged.{Declared, Point, with_inst, Arranged, wait, made, built, take, taken}
use Rattle.mc_accepted.specs.NodeOracle.{NodeOracle, of_nodes}
use Rattle.mc_procs.specs.Named.{NumbersBelow}
use Rattle.mc_procs.specs.Procedures.{PlainProcs, source_of, insts_of}
use Rattle.mc_insts.specs.Narrowed.{Narrowed}
use Rattle.mc_mode_state.specs.Nodes.{type_in}
use Rattle.mc_mode_state.specs.States.{point_of}
use Rattle.mc_mode_state.specs.Agreeing.{OracleAgrees, StateInvariant}
use Rattle.mc_mode_state.specs.Answers.{tried, IsWaiting, Ran, Answers}
use Rattle.mc_mode_state.specs.declared.part.Part.{Part}
use Rattle.mc_mode_state.specs.declared.fault.Failed.{Failed}
use Rattle.mc_model.specs.Flat as F
use Rattle.mc_mode_state.specs.code.Taking.{take_each}
use Rattle.mc_mode_state.specs.declared.state.State.{State}
use Rattle.mc_mode_state.proofs.Narrow.{narrowed-one}
use Rattle.mc_mode_state.proofs.AtomOutcomes.{state-at, waits-broke, atom-waits, atom-runs}
use Rattle.mc_mode_state.proofs.Ahead.{agrees-before}

-- tests that are alike on these variables
any-alike : (f g : ℕ → Bool) (n : ℕ) (xs : List ℕ) → NumbersBelow n xs → ((x : ℕ) → x < n → f x ≡ g x) → list_any f xs ≡ list_any g xs
any-alike f g n [] w h = refl
any-alike f g n (x ∷ xs) w h = ap₂ (λ a b. a || b) (h x w.0) (any-alike f g n xs w.1 h)

pub insts-below : (b : Point ℕ) (n : ℕ) (xs : List ℕ) → ((x : ℕ) → b x < n) → (k : ℕ) → k < length (map b xs) → get_or (map b xs) k 0 < n
insts-below b n [] h k l = absurd (omega arith)
insts-below b n (x ∷ xs) h zero l = h x
insts-below b n (x ∷ xs) h (suc k) l = insts-below b n xs h k (omega arith)

module _ (q : PlainProcs) (s : State) (declared : ℕ → List Declared) (st : StateInvariant q s) (C : NodeOracle) (T : ℕ → TypeTerm) (a : OracleAgrees q s C T) where
  abbrev b : Point ℕ
  b = point_of s.insts.items

  abbrev made_of : ℕ → ℕ → List ℕ → ℕ → Arranged ℕ
  made_of x f ys n = made (of_nodes C) (source_of q) declared T x f ys n b

  pub made-takes : (x f : ℕ) (ys : List ℕ) (n : ℕ) → is_bound (b x) ≡ true → made_of x f ys n ≡ take (of_nodes C) (source_of q) declared T x f ys n b (C.narrowed (b x) f)
  made-takes x f ys n h =
      ap (λ t. if t then take (of_nodes C) (source_of q) declared T x f ys n b (C.narrowed (b x) f)
      else (if list_any (λ y. not (is_bound (b y)) || is_state (T y)) ys then wait (of_nodes C) (source_of q) declared T (x ∷ ys) b
      else built (of_nodes C) (source_of q) declared T x f ys n b (C.over f (map b ys)))) h

  not-taken : (x f : ℕ) (ys : List ℕ) (n : ℕ) (t : Bool) → NumbersBelow (length s.insts.items) ys → is_bound (b x) ≡ false
      → list_any (λ y. not (is_bound (b y)) || is_state (type_in s.types.items y)) ys ≡ t
      → made_of x f ys n ≡ (if t then wait (of_nodes C) (source_of q) declared T (x ∷ ys) b else built (of_nodes C) (source_of q) declared T x f ys n b (C.over f (map b ys)))
  not-taken x f ys n t w h k =
      ap (λ u. if u then take (of_nodes C) (source_of q) declared T x f ys n b (C.narrowed (b x) f)
      else (if list_any (λ y. not (is_bound (b y)) || is_state (T y)) ys then wait (of_nodes C) (source_of q) declared T (x ∷ ys) b
      else built (of_nodes C) (source_of q) declared T x f ys n b (C.over f (map b ys)))) h
      ∙ ap (λ u. if u then wait (of_nodes C) (source_of q) declared T (x ∷ ys) b else built (of_nodes C) (source_of q) declared T x f ys n b (C.over f (map b ys)))
      (any-alike _ _ (length s.insts.items) ys w (λ y l. ap (λ u. not (is_bound (b y)) || u) (state-at q s declared st C T a y l)) ∙ k)

  pub made-waits : (x f : ℕ) (ys : List ℕ) (n : ℕ) → NumbersBelow (length s.insts.items) ys → is_bound (b x) ≡ false
      → list_any (λ y. not (is_bound (b y)) || is_state (type_in s.types.items y)) ys ≡ true → made_of x f ys n ≡ wait (of_nodes C) (source_of q) declared T (x ∷ ys) b
  made-waits x f ys n w h k = not-taken x f ys n true w h k

  pub made-builds : (x f : ℕ) (ys : List ℕ) (n : ℕ) → NumbersBelow (length s.insts.items) ys → is_bound (b x) ≡ false
      → list_any (λ y. not (is_bound (b y)) || is_state (type_in s.types.items y)) ys ≡ false → made_of x f ys n ≡ built (of_nodes C) (source_of q) declared T x f ys n b (C.over f (map b ys))
  made-builds x f ys n w h k = not-taken x f ys n false w h k

  pub narrowed-is : (x f : ℕ) (o : Option (List ℕ)) → Narrowed (source_of q) (insts_of q) (b x) f o → C.narrowed (b x) f ≡ o
  narrowed-is x f o h = narrowed-one (source_of q) q.insts (b x) f (C.narrowed (b x) f) o st.fit.program.insts_are (a.narrowed (b x) f (st.insts x)) h

pub taken-each : (C : NodeOracle) (P : Source) (declared : ℕ → List Declared) (T : ℕ → TypeTerm) (ys is : List ℕ) (b : Point ℕ) → taken (of_nodes C) P declared T ys is b ≡ take_each ys is b
taken-each C P declared T [] is b = refl
taken-each C P declared T (y ∷ ys) [] b = refl
taken-each C P declared T (y ∷ ys) (i ∷ is) b = taken-each C P declared T ys is (if is_bound (b y) then b else with_inst ℕ y i b)

module _ (q : PlainProcs) (s : State) (declared : ℕ → List Declared) (O : List ℕ) (st : StateInvariant q s) (x f : ℕ) (ys : List ℕ) (w : NumbersBelow (length s.insts.items) ys) where
  abbrev here : Point ℕ
  here = point_of s.insts.items

  abbrev count : ℕ
  count = length s.insts.items

  abbrev Dies : Bool → Type 0
  Dies t = list_any (λ z. nat_eq (here z) 3) (x ∷ ys) ≡ t

  abbrev Holds_free : Bool → Type 0
  Holds_free t = list_any (λ y. not (is_bound (here y)) || is_state (type_in s.types.items y)) ys ≡ t

  pub made-dead : (e : Failed) → IsWaiting (x ∷ ys) here e → Dies true → Answers (tried declared (F.Made x f ys) O q s) q q s s (Err e)
  made-dead e v h =
      waits-broke q s declared st (tried declared (F.Made x f ys) O q s) (x ∷ ys) e v
      (λ C T a. atom-waits q s declared st C T a (x ∷ ys) (made (of_nodes C) (source_of q) declared T x f ys count here) h)

  pub made-lacking : (e : Failed) → IsWaiting (x ∷ ys) here e → Dies false → is_bound (here x) ≡ false → Holds_free true → Answers (tried declared (F.Made x f ys) O q s) q q s s (Err e)
  made-lacking e v h g k =
      waits-broke q s declared st (tried declared (F.Made x f ys) O q s) (x ∷ ys) e v
      (λ C T a. atom-runs q s declared st C T a (x ∷ ys) (made (of_nodes C) (source_of q) declared T x f ys count here) h ∙ made-waits q s declared st C T a x f ys count w g k)

  pub made-taken : (r : PlainProcs) (t : State) (p : Part) → Dies false → is_bound (here x) ≡ true
      → Ran (λ C T. take (of_nodes C) (source_of q) declared T x f ys count here (C.narrowed (here x) f)) q r s t p → Answers (tried declared (F.Made x f ys) O q s) q r s t (Ok p)
  made-taken r t p h g ran = record {
    outcome = λ C T a.
        let b = agrees-before q r s t C T st ran.stepped.moved a in
        atom-runs q s declared st C T b (x ∷ ys) (made (of_nodes C) (source_of q) declared T x f ys count here) h
        ∙ (made-takes q s declared st C T b x f ys count g ∙ ran.outcome C T a);
    fresh = ran.fresh;
    stepped = ran.stepped;
  }

  pub made-built : (r : PlainProcs) (t : State) (p : Part) → Dies false → is_bound (here x) ≡ false → Holds_free false
      → Ran (λ C T. built (of_nodes C) (source_of q) declared T x f ys count here (C.over f (map here ys))) q r s t p → Answers (tried declared (F.Made x f ys) O q s) q r s t (Ok p)
  made-built r t p h g k ran = record {
    outcome = λ C T a.
        let b = agrees-before q r s t C T st ran.stepped.moved a in
        atom-runs q s declared st C T b (x ∷ ys) (made (of_nodes C) (source_of q) declared T x f ys count here) h
        ∙ (made-builds q s declared st C T b x f ys count w g k ∙ ran.outcome C T a);
    fresh = ran.fresh;
    stepped = ran.stepped;
  }
