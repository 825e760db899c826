-- Definitions that are expanded one behind another, step by step.
use Rattle.std.proofs.Common.{◌≡◌, ℕ, zero, suc, ◌+◌, ◌<◌, ◌≤◌, Bool, true, false, not, ◌&&◌, List, [], ◌∷◌, ◌++◌, length, length-append, get_or, set, drop, inl, inr, refl, sym, ap, ap₂, ◌∙◌, arith}
use Rattle.std.specs.Prelude.{Option, Some, None, if◌then◌else◌}
use Rattle.std.specs.Option.{option_map}
use Rattle.std.proofs.lemmas.Bool.{cases_lt, cases_eq, and_parts}
use Rattle.std.proofs.Math.ListN.{length-set}
use Rattle.std.proofs.lemmas.List.{at_drop_more}
use Rattle.std.proofs.lemmas.Option.{slice_get_past}
use Rattle.mc_program.specs.Programs.{TypeTerm, union_type, TypeTerms, no_types, type_then}
use Rattle.mc_program.specs.PlainPrograms.{plain_type}
use Rattle.mc_program.specs.declared.ty.Ty.{Ty}
use Rattle.mc_model.specs.Lists.{is_in}
use Rattle.mc_components.specs.Components.{steps}
use Rattle.mc_components.proofs.Certified.{in_head, in_tail, in_cases}
use Rattle.mc_names.specs.Linked.{Linked}
use Rattle.mc_type_table.specs.declared.definitions.Equivalences.{Equivalences}
use Rattle.mc_type_table.specs.declared.expansion.Known.{Known}
use Rattle.mc_type_table.specs.Expanded.{equivalent, equivalent_of, replaced, all_replaced, defined_as, after_rounds}
use Rattle.mc_type_table.specs.Rules.{types_in, all_types_in, types_in_body, is_cyclic, definitions}
use Rattle.mc_type_table.specs.Held.{held}
use Rattle.mc_type_table.specs.code.Hidden.{is_hidden, not_hidden}
use Rattle.mc_type_table.specs.code.Kept.{AreEquivalences, is_done, all_done, IsKnown}

pub done_more :
    (done : List Bool) (us : List ℕ) (i : ℕ)
    → i < length us → is_done done (get_or us i 0) ≡ true
    → all_done done (drop i us) ≡ all_done done (drop (i + 1) us)
done_more done us i below is =
    at_drop_more (all_done done) us i 0 below
    ∙ ap (λ (b : Bool). b && all_done done (drop (i + 1) us)) is

pub done_no_more :
    (done : List Bool) (us : List ℕ) (i : ℕ)
    → i < length us → is_done done (get_or us i 0) ≡ false → all_done done (drop i us) ≡ false
done_no_more done us i below is =
    at_drop_more (all_done done) us i 0 below
    ∙ ap (λ (b : Bool). b && all_done done (drop (i + 1) us)) is

pub each_done :
    (done : List Bool) (us : List ℕ)
    → all_done done us ≡ true → (j : ℕ) → is_in j us ≡ true → is_done done j ≡ true
each_done done [] h j e = absurd (let clash : false ≡ true = e in cc)
each_done done (u ∷ us) h j e =
    let parts = and_parts (is_done done u) (all_done done us) h in
    elim (in_cases j u us e) [
      | inl same ↦ ap (is_done done) same ∙ parts.0
      | inr later ↦ each_done done us parts.1 j later
    ]

pub in_left :
    (j : ℕ) (xs ys : List ℕ) → is_in j xs ≡ true → is_in j (xs ++ ys) ≡ true
in_left j [] ys e = absurd (let clash : false ≡ true = e in cc)
in_left j (x ∷ xs) ys e =
    elim (in_cases j x xs e) [
      | inl same ↦ in_head j x (xs ++ ys) same
      | inr later ↦ in_tail j x (xs ++ ys) (in_left j xs ys later)
    ]

pub in_right :
    (j : ℕ) (xs ys : List ℕ) → is_in j ys ≡ true → is_in j (xs ++ ys) ≡ true
in_right j [] ys e = e
in_right j (x ∷ xs) ys e = in_tail j x (xs ++ ys) (in_right j xs ys e)

-- a type is replaced alike by definitions that are alike at the types in it
mutual
  pub replaced_alike :
      (D E : ℕ → Option TypeTerm) (t : TypeTerm)
      → ((j : ℕ) → is_in j (types_in t) ≡ true → D j ≡ E j) → replaced D t ≡ replaced E t
  replaced_alike D E (union_type u ts) same =
      ap₂ (defined_as u)
      (all_replaced_alike D E ts (λ j e. same j (in_tail j u (all_types_in ts) e)))
      (same u (in_head u u (all_types_in ts) refl))
  replaced_alike D E t same = refl

  pub all_replaced_alike :
      (D E : ℕ → Option TypeTerm) (ts : TypeTerms)
      → ((j : ℕ) → is_in j (all_types_in ts) ≡ true → D j ≡ E j)
      → all_replaced D ts ≡ all_replaced E ts
  all_replaced_alike D E no_types same = refl
  all_replaced_alike D E (type_then t ts) same =
      ap₂ type_then
      (replaced_alike D E t (λ j e. same j (in_left j (types_in t) (all_types_in ts) e)))
      (all_replaced_alike D E ts (λ j e. same j (in_right j (types_in t) (all_types_in ts) e)))

-- a type without a definition has none after any rounds
pub undefined_after :
    (D : ℕ → Option TypeTerm) (n u : ℕ) → D u ≡ None → after_rounds n D u ≡ None
undefined_after D zero u none = refl
undefined_after D (suc n) u none = ap (option_map (replaced (after_rounds n D))) none

-- none is expanded yet among so many types, and those are done that have no definition
pub record Begins
    (l : Linked) (hidden : List Bool) (n : ℕ) (bodies : List (Option Ty)) (done : List Bool)
    : Type 0 where
  pub counted : length bodies ≡ n
  pub marked : length done ≡ n
  pub empty : (u : ℕ) → held bodies u ≡ None
  pub undefined : (u : ℕ) → u < n → is_done done u ≡ true → not_hidden l hidden u ≡ None

-- what is None is None in any sight
none_in_sight :
    (s : Bool) (o : Option TypeTerm) → o ≡ None → (if s then o else None) ≡ None
none_in_sight true o none = none
none_in_sight false o none = refl

pub undefined_past :
    (l : Linked) (u : ℕ) → length l.types ≤ u → definitions l u ≡ None
undefined_past l u past =
    none_in_sight (not (is_cyclic l u)) (equivalent l u)
    (ap (equivalent_of l) (slice_get_past l.types u past))

not_hidden_past :
    (l : Linked) (hidden : List Bool) (u : ℕ)
    → length l.types ≤ u → not_hidden l hidden u ≡ None
not_hidden_past l hidden u past =
    none_in_sight (not (is_hidden hidden u)) (definitions l u) (undefined_past l u past)

held_behind :
    (os : List (Option Ty)) (u : ℕ)
    → ((v : ℕ) → held os v ≡ None) → held (os ++ None ∷ []) u ≡ None
held_behind [] zero none = refl
held_behind [] (suc u) none = refl
held_behind (o ∷ os) zero none = none 0
held_behind (o ∷ os) (suc u) none = held_behind os u (λ v. none (suc v))

before_last :
    (done : List Bool) (b : Bool) (u : ℕ)
    → u < length done → is_done (done ++ b ∷ []) u ≡ is_done done u
before_last [] b u below = absurd (omega arith)
before_last (d ∷ done) b zero below = refl
before_last (d ∷ done) b (suc u) below =
    let less : u < length done = omega arith in
    before_last done b u less

at_last :
    (done : List Bool) (b : Bool) (u : ℕ)
    → u ≡ length done → is_done (done ++ b ∷ []) u ≡ b
at_last [] b zero same = refl
at_last [] b (suc u) same = absurd (omega arith)
at_last (d ∷ done) b zero same = absurd (omega arith)
at_last (d ∷ done) b (suc u) same =
    let less : u ≡ length done = omega arith in
    at_last done b u less

pub begins_none : (l : Linked) (hidden : List Bool) → Begins l hidden 0 [] []
begins_none l hidden =
    record {
      counted = refl;
      marked = refl;
      empty = λ u. refl;
      undefined = λ u below h. absurd (omega arith);
    }

pub begins_more :
    (l : Linked) (hidden : List Bool) (n : ℕ) (os : List (Option Ty)) (done : List Bool) (b : Bool)
    → (b ≡ true → not_hidden l hidden n ≡ None)
    → Begins l hidden n os done → Begins l hidden (n + 1) (os ++ None ∷ []) (done ++ b ∷ [])
begins_more l hidden n os done b tells begins =
    let counted : length os ≡ n = begins.counted in
    let marked : length done ≡ n = begins.marked in
    record {
      counted = simp length-append (omega arith);
      marked = simp length-append (omega arith);
      empty = λ u. held_behind os u begins.empty;
      undefined =
          λ u below h.
          elim (cases_lt u n) [
            | inl less ↦
                let within : u < length done = omega arith in
                begins.undefined u less (sym (before_last done b u within) ∙ h)
            | inr past ↦
                let last : u ≡ length done = omega arith in
                let here : u ≡ n = omega arith in
                ap (not_hidden l hidden) here ∙ tells (sym (at_last done b u last) ∙ h)
          ];
    }

pub known_begun :
    (l : Linked) (hidden : List Bool) (n : ℕ) (os : List (Option Ty)) (done : List Bool) (k : Known)
    → Begins l hidden n os done → n ≡ length l.types
    → k.bodies.items ≡ os → k.done.items ≡ done → IsKnown l hidden 0 k
known_begun l hidden n os done k begins all is_bodies is_done_row =
    let undefined_at :
    (u : ℕ) → is_done k.done.items u ≡ true → not_hidden l hidden u ≡ None =
    λ u h.
    elim (cases_lt u n) [
      | inl less ↦ begins.undefined u less (ap (λ d. is_done d u) (sym is_done_row) ∙ h)
      | inr past ↦
          let far : length l.types ≤ u = omega arith in
          not_hidden_past l hidden u far
    ]
    in
    record {
      counted = ap length is_bodies ∙ begins.counted ∙ all;
      marked = ap length is_done_row ∙ begins.marked ∙ all;
      agree =
          λ u h n late.
          ap (λ os. held os u) is_bodies
          ∙ begins.empty u
          ∙ sym (undefined_after (not_hidden l hidden) n u (undefined_at u h));
    }

pub known_more :
    (l : Linked) (hidden : List Bool) (rounds : ℕ) (k : Known)
    → IsKnown l hidden rounds k → IsKnown l hidden (rounds + 1) k
known_more l hidden rounds k is =
    record {
      counted = is.counted;
      marked = is.marked;
      agree =
          λ u h n late.
          let early : rounds ≤ n = omega arith in
          is.agree u h n early;
    }

held_there :
    (os : List (Option Ty)) (u : ℕ) (t : Ty)
    → u < length os → held (set os u (Some t)) u ≡ Some (plain_type t)
held_there [] u t below = absurd (omega arith)
held_there (o ∷ os) zero t below = refl
held_there (o ∷ os) (suc u) t below =
    let less : u < length os = omega arith in
    held_there os u t less

held_elsewhere :
    (os : List (Option Ty)) (u v : ℕ) (o : Option Ty)
    → (v ≡ u → ⊥) → held (set os u o) v ≡ held os v
held_elsewhere [] u v o other = refl
held_elsewhere (x ∷ os) zero zero o other = absurd (other refl)
held_elsewhere (x ∷ os) zero (suc v) o other = refl
held_elsewhere (x ∷ os) (suc u) zero o other = refl
held_elsewhere (x ∷ os) (suc u) (suc v) o other =
    held_elsewhere os u v o (λ e. other (ap suc e))

done_elsewhere :
    (ds : List Bool) (u v : ℕ) (b : Bool)
    → (v ≡ u → ⊥) → is_done (set ds u b) v ≡ is_done ds v
done_elsewhere [] u v b other = refl
done_elsewhere (x ∷ ds) zero zero b other = absurd (other refl)
done_elsewhere (x ∷ ds) zero (suc v) b other = refl
done_elsewhere (x ∷ ds) (suc u) zero b other = refl
done_elsewhere (x ∷ ds) (suc u) (suc v) b other =
    done_elsewhere ds u v b (λ e. other (ap suc e))

-- what is in sight is so too where all is
in_any_sight :
    (s : Bool) (o : Option TypeTerm) (b : TypeTerm) → (if s then o else None) ≡ Some b → o ≡ Some b
in_any_sight true o b is = is
in_any_sight false o b is = absurd (let clash : None ≡ Some b = is in cc)

-- what is defined as a type is written as that
written_so :
    (l : Linked) (hidden : List Bool) (u : ℕ) (b : TypeTerm)
    → not_hidden l hidden u ≡ Some b → equivalent l u ≡ Some b
written_so l hidden u b is =
    in_any_sight (not (is_cyclic l u)) (equivalent l u) b
    (in_any_sight (not (is_hidden hidden u)) (definitions l u) b is)

cases_before : (n r : ℕ) → r + 1 ≤ n → (m : ℕ) × ((n ≡ suc m) × (r ≤ m))
cases_before zero r late = absurd (omega arith)
cases_before (suc m) r late = let less : r ≤ m = omega arith in (m, (refl, less))

once_more :
    (D : ℕ → Option TypeTerm) (n u : ℕ) (b : TypeTerm)
    → D u ≡ Some b → after_rounds (suc n) D u ≡ Some (replaced (after_rounds n D) b)
once_more D n u b is = ap (option_map (replaced (after_rounds n D))) is

pub known_put :
    (l : Linked) (hidden : List Bool) (e : Equivalences) (rounds : ℕ) (k after : Known) (u : ℕ)
    (b : TypeTerm) (t : Ty) (us : List ℕ)
    → AreEquivalences l e → IsKnown l hidden rounds k
    → not_hidden l hidden u ≡ Some b → us ≡ steps e.graph u → all_done k.done.items us ≡ true
    → plain_type t ≡ replaced (held k.bodies.items) b
    → u < length k.bodies.items
    → after.bodies.items ≡ set k.bodies.items u (Some t)
    → after.done.items ≡ set k.done.items u true
    → IsKnown l hidden (rounds + 1) after
known_put l hidden e rounds k after u b t us are is defined is_row all is_t below is_bodies is_done_row =
    let inside : us ≡ types_in b =
    is_row ∙ are.steps u ∙ ap types_in_body (written_so l hidden u b defined)
    in
    let ready : (j : ℕ) → is_in j (types_in b) ≡ true → is_done k.done.items j ≡ true =
    λ j h. each_done k.done.items us all j (ap (is_in j) inside ∙ h)
    in
    let here :
    (n : ℕ) → rounds + 1 ≤ n → Some (plain_type t) ≡ after_rounds n (not_hidden l hidden) u =
    λ n late.
    let before = cases_before n rounds late in
    let m = before.0 in
    ap Some
    (is_t
    ∙ replaced_alike (held k.bodies.items) (after_rounds m (not_hidden l hidden)) b
    (λ j there. is.agree j (ready j there) m before.1.1))
    ∙ sym (once_more (not_hidden l hidden) m u b defined)
    ∙ ap (λ i. after_rounds i (not_hidden l hidden) u) (sym before.1.0)
    in
    record {
      counted =
          ap length is_bodies ∙ length-set k.bodies.items u (Some t) ∙ is.counted;
      marked = ap length is_done_row ∙ length-set k.done.items u true ∙ is.marked;
      agree =
          λ v h n late.
          ap (λ os. held os v) is_bodies
          ∙ elim (cases_eq v u) [
            | inl same ↦
                ap (held (set k.bodies.items u (Some t))) same
                ∙ held_there k.bodies.items u t below
                ∙ here n late
                ∙ ap (after_rounds n (not_hidden l hidden)) (sym same)
            | inr other ↦
                let early : rounds ≤ n = omega arith in
                held_elsewhere k.bodies.items u v (Some t) other
                ∙ is.agree v
                (sym (done_elsewhere k.done.items u v true other)
                ∙ ap (λ ds. is_done ds v) (sym is_done_row)
                ∙ h) n early
          ];
    }

pub known_all :
    (l : Linked) (hidden : List Bool) (rounds : ℕ) (k : Known)
    → IsKnown l hidden rounds k → rounds ≤ length l.types
    → ((u : ℕ) → is_done k.done.items u ≡ true)
    → (u : ℕ) → held k.bodies.items u ≡ after_rounds (length l.types) (not_hidden l hidden) u
known_all l hidden rounds k is few all u = is.agree u (all u) (length l.types) few

pub begins_by :
    (l : Linked) (hidden : List Bool) (n : ℕ) (os more : List (Option Ty)) (done marks : List Bool)
    (b : Bool)
    → (b ≡ true → not_hidden l hidden n ≡ None) → Begins l hidden n os done
    → more ≡ os ++ None ∷ [] → marks ≡ done ++ b ∷ []
    → Begins l hidden (n + 1) more marks
begins_by l hidden n os more done marks b tells begins is_more is_marks =
    let next = begins_more l hidden n os done b tells begins in
    record {
      counted = ap length is_more ∙ next.counted;
      marked = ap length is_marks ∙ next.marked;
      empty = λ u. ap (λ os. held os u) is_more ∙ next.empty u;
      undefined =
          λ u below h. next.undefined u below (ap (λ ds. is_done ds u) (sym is_marks) ∙ h);
    }
