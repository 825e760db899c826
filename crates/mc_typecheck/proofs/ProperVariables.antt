-- The most general types of a clause's variables, and of those that its normal goal makes, are well formed where its names
-- are declared so.
--
-- Where a part of such a type weren't well formed, types with an integer there would type the walk
-- too, and they are no instance of it.
use Rattle.std.proofs.Common.{◌≡◌, ℕ, suc, zero, ◌-◌, ◌<◌, ◌≤◌, Bool, true, false, nat_eq, nat_lt, Option, Some, None, List, [], ◌∷◌, ◌++◌, map, length, take, drop, refl, sym, ap, ap₂, subst, ◌∙◌, arith, get_or}
use Rattle.std.specs.Prelude.{if◌then◌else◌}
use Rattle.std.proofs.lemmas.Bool.{eqb-true, eq-eqb}
use Rattle.std.proofs.lemmas.List.{map-append, length-map, take-map, drop-map}
use Rattle.mc_program.specs.Programs.{TypeTerm, int_type, char_type, string_type, state_type, variable_type, union_type, TypeTerms, no_types, type_then, Source}
use Rattle.mc_model.specs.Types.{instance_of, instances_of}
use Rattle.mc_accepted.specs.ProperTypes.{Parameters, ProperType, ProperTypes, EachProper, count_types}
use Rattle.mc_accepted.specs.Resolving.{Step, push_variable, push_number, push_text, choose, equate, call, close_head, signature, Takes, topmost, below, Unresolved_clause, steps_of}
use Rattle.mc_accepted.specs.MostGeneral.{rigid_count, generalised, type_at}
use Rattle.mc_source.specs.declared.name.Candidate.{Candidate}
use Rattle.laws_made_types.specs.Makes.{makes, kept}
use Rattle.laws_made_types.specs.Traced.{Traces}
use Rattle.laws_made_types.specs.MadeTypes.{AreVariableTypes}
use Rattle.mc_typecheck.specs.WellFormed.{WalkIsDeclared}

abbrev is_count : Option ℕ → ℕ → Bool
is_count None n = false
is_count (Some m) n = nat_eq m n

is_count-some : (o : Option ℕ) (n : ℕ) → is_count o n ≡ true → o ≡ Some n
is_count-some None n e = cc
is_count-some (Some m) n e = ap (λ (k : ℕ). Some k) (eqb-true m n e)

is_count-same : (o : Option ℕ) (n m : ℕ) → o ≡ Some n → n ≡ m → is_count o m ≡ true
is_count-same o n m e same = ap (λ x. is_count x m) e ∙ eq-eqb n m same

-- a type is its own instance
mutual
  own : (t : TypeTerm) → instance_of variable_type t ≡ t
  own int_type = refl
  own char_type = refl
  own string_type = refl
  own state_type = refl
  own (variable_type v) = refl
  own (union_type u ts) = ap (union_type u) (own_all ts)

  own_all : (ts : TypeTerms) → instances_of variable_type ts ≡ ts
  own_all no_types = refl
  own_all (type_then t ts) = ap₂ type_then (own t) (own_all ts)

module _ (D : Parameters) where
  -- the type with an integer where a part isn't well formed
  abbrev mutual
    mended : TypeTerm → TypeTerm
    mended int_type = int_type
    mended char_type = char_type
    mended string_type = string_type
    mended state_type = state_type
    mended (variable_type v) = variable_type v
    mended (union_type u ts) =
        if is_count (D u) (count_types ts) then union_type u (mended_all ts) else int_type

    mended_all : TypeTerms → TypeTerms
    mended_all no_types = no_types
    mended_all (type_then t ts) = type_then (mended t) (mended_all ts)

  -- INSTANCES

  as_many : (σ : ℕ → TypeTerm) (ts : TypeTerms) → count_types ts ≡ count_types (instances_of σ ts)
  as_many σ no_types = refl
  as_many σ (type_then t ts) = ap suc (as_many σ ts)

  mutual
    mended-instance : (σ : ℕ → TypeTerm) (t : TypeTerm) → ProperType D t → mended (instance_of σ t) ≡ instance_of (λ v. mended (σ v)) t
    mended-instance σ int_type p = refl
    mended-instance σ char_type p = refl
    mended-instance σ string_type p = refl
    mended-instance σ state_type p = refl
    mended-instance σ (variable_type v) p = refl
    mended-instance σ (union_type u ts) p =
        ap (λ b. if b then union_type u (mended_all (instances_of σ ts)) else int_type) (is_count-same (D u) (count_types ts) (count_types (instances_of σ ts)) p.0 (as_many σ ts))
        ∙ ap (union_type u) (mended-instances σ ts p.1)

    mended-instances : (σ : ℕ → TypeTerm) (ts : TypeTerms) → ProperTypes D ts → mended_all (instances_of σ ts) ≡ instances_of (λ v. mended (σ v)) ts
    mended-instances σ no_types p = refl
    mended-instances σ (type_then t ts) p = ap₂ type_then (mended-instance σ t p.0) (mended-instances σ ts p.1)

  mended-each : (σ : ℕ → TypeTerm) (ts : List TypeTerm) → EachProper D ts → map (instance_of (λ v. mended (σ v))) ts ≡ map mended (map (instance_of σ) ts)
  mended-each σ [] p = refl
  mended-each σ (t ∷ ts) p = ap₂ (λ (x : TypeTerm) xs. x ∷ xs) (sym (mended-instance σ t p.0)) (mended-each σ ts p.1)

  mended-same : (t : TypeTerm) → ProperType D t → mended t ≡ t
  mended-same t p = ap mended (sym (own t)) ∙ mended-instance variable_type t p ∙ own t

  mended-all_same : (ts : List TypeTerm) → EachProper D ts → map mended ts ≡ ts
  mended-all_same [] p = refl
  mended-all_same (t ∷ ts) p = ap₂ (λ (x : TypeTerm) xs. x ∷ xs) (mended-same t p.0) (mended-all_same ts p.1)

  -- WHAT IS AN INSTANCE OF ITS OWN MENDED FORM

  abbrev is_union : TypeTerm → Type 0
  is_union (union_type u ts) = Unit {0}
  is_union _ = ⊥

  abbrev arguments : TypeTerm → TypeTerms
  arguments (union_type u ts) = ts
  arguments _ = no_types

  abbrev first_of : TypeTerms → TypeTerm
  first_of no_types = int_type
  first_of (type_then t ts) = t

  abbrev others_of : TypeTerms → TypeTerms
  others_of no_types = no_types
  others_of (type_then t ts) = ts

  proper_union : (σ : ℕ → TypeTerm) (u : ℕ) (ts : TypeTerms) → (mended_all ts ≡ instances_of σ ts → ProperTypes D ts) → (b : Bool) → is_count (D u) (count_types ts) ≡ b → (if b then union_type u (mended_all ts) else int_type) ≡ union_type u (instances_of σ ts) → ProperType D (union_type u ts)
  proper_union σ u ts rest true h e = (is_count-some (D u) (count_types ts) h, rest (ap arguments e))
  proper_union σ u ts rest false h e = absurd (subst is_union (sym e) tt)

  mutual
    proper : (σ : ℕ → TypeTerm) (t : TypeTerm) → mended t ≡ instance_of σ t → ProperType D t
    proper σ int_type e = tt
    proper σ char_type e = tt
    proper σ string_type e = tt
    proper σ state_type e = tt
    proper σ (variable_type v) e = tt
    proper σ (union_type u ts) e = proper_union σ u ts (λ same. propers σ ts same) (is_count (D u) (count_types ts)) refl e

    propers : (σ : ℕ → TypeTerm) (ts : TypeTerms) → mended_all ts ≡ instances_of σ ts → ProperTypes D ts
    propers σ no_types e = tt
    propers σ (type_then t ts) e = (proper σ t (ap first_of e), propers σ ts (ap others_of e))

  -- THE WALK

  topmost-mended : (n : ℕ) (stack : List TypeTerm) → topmost n (map mended stack) ≡ map mended (topmost n stack)
  topmost-mended n stack =
      ap (λ k. drop (k - n) (map mended stack)) (length-map stack mended) ∙ drop-map mended (length stack - n) stack

  below-mended : (n : ℕ) (stack : List TypeTerm) → below n (map mended stack) ≡ map mended (below n stack)
  below-mended n stack =
      ap (λ k. take (k - n) (map mended stack)) (length-map stack mended) ∙ take-map mended (length stack - n) stack

  one_more : (stack : List TypeTerm) (t : TypeTerm) → map mended (stack ++ t ∷ []) ≡ map mended stack ++ mended t ∷ []
  one_more stack t = map-append mended stack (t ∷ [])

  module _ (P : Source) where
    takes-mended : (c : Candidate) (ts : List TypeTerm) → EachProper D (signature P D c) → Takes P D c ts → Takes P D c (map mended ts)
    takes-mended c ts declared taken = ((λ v. mended (taken.0 v)), mended-each taken.0 (signature P D c) declared ∙ ap (map mended) taken.1)

    traces-mended : (τ : ℕ → TypeTerm) (steps : List Step) (stack : List TypeTerm) (picks : List Candidate) (trace : List TypeTerm) → WalkIsDeclared P D steps → Traces P D τ steps stack picks trace → Traces P D (λ v. mended (τ v)) steps (map mended stack) picks (map mended trace)
    traces-mended τ [] stack picks trace d w = (w.0, ap (map mended) w.1)
    traces-mended τ (push_variable v ∷ steps) stack picks trace d w =
        let Q : List TypeTerm → Type 0 = λ s. Traces P D (λ v. mended (τ v)) steps s picks (map mended trace) in
        subst Q (one_more stack (τ v)) (traces-mended τ steps (stack ++ τ v ∷ []) picks trace d w)
    traces-mended τ (push_number ∷ steps) stack picks trace d (more, is, w) =
        let Q : List TypeTerm → Type 0 = λ s. Traces P D (λ v. mended (τ v)) steps s picks (map mended more) in
        (map mended more, ap (map mended) is, subst Q (one_more stack int_type) (traces-mended τ steps (stack ++ int_type ∷ []) picks more d w))
    traces-mended τ (push_text ∷ steps) stack picks trace d (more, is, w) =
        let Q : List TypeTerm → Type 0 = λ s. Traces P D (λ v. mended (τ v)) steps s picks (map mended more) in
        (map mended more, ap (map mended) is, subst Q (one_more stack string_type) (traces-mended τ steps (stack ++ string_type ∷ []) picks more d w))
    traces-mended τ (choose cs n ∷ steps) stack [] trace d w = w
    traces-mended τ (choose cs n ∷ steps) stack (c ∷ picks) trace d (among, names, t, more, is, taken, w) =
        let Q : List TypeTerm → Type 0 = λ s. Traces P D (λ v. mended (τ v)) steps s picks (map mended more) in
        let R : List TypeTerm → Type 0 = λ ts. Takes P D c ts in (
          among,
          names,
          mended t,
          map mended more,
          ap (map mended) is,
          subst R (one_more (topmost n stack) t ∙ ap (λ ts. ts ++ mended t ∷ []) (sym (topmost-mended n stack))) (takes-mended c (topmost n stack ++ t ∷ []) (d.0 c among) taken),
          subst Q (one_more (below n stack) t ∙ ap (λ ts. ts ++ mended t ∷ []) (sym (below-mended n stack))) (traces-mended τ steps (below n stack ++ t ∷ []) picks more d.1 w),
        )
    traces-mended τ (equate ∷ steps) stack picks trace d (t, same, w) =
        let Q : List TypeTerm → Type 0 = λ s. Traces P D (λ v. mended (τ v)) steps s picks (map mended trace) in (
          mended t,
          topmost-mended 2 stack ∙ ap (map mended) same,
          subst Q (sym (below-mended 2 stack)) (traces-mended τ steps (below 2 stack) picks trace d w),
        )
    traces-mended τ (call cs n ∷ steps) stack [] trace d w = w
    traces-mended τ (call cs n ∷ steps) stack (c ∷ picks) trace d (among, names, taken, w) =
        let Q : List TypeTerm → Type 0 = λ s. Traces P D (λ v. mended (τ v)) steps s picks (map mended trace) in
        let R : List TypeTerm → Type 0 = λ ts. Takes P D c ts in (
          among,
          names,
          subst R (sym (topmost-mended n stack)) (takes-mended c (topmost n stack) (d.0 c among) taken),
          subst Q (sym (below-mended n stack)) (traces-mended τ steps (below n stack) picks trace d.1 w),
        )
    traces-mended τ (close_head p n ∷ steps) stack picks trace d (same, w) =
        let Q : List TypeTerm → Type 0 = λ s. Traces P D (λ v. mended (τ v)) steps s picks (map mended trace) in (
          topmost-mended n stack ∙ ap (map mended) same ∙ mended-all_same (P.preds p).types d.0,
          subst Q (sym (below-mended n stack)) (traces-mended τ steps (below n stack) picks trace d.1 w),
        )

-- THE TYPES

mutual
  own_type : (r : ℕ) (t : TypeTerm) → generalised r variable_type t ≡ t
  own_type r int_type = refl
  own_type r char_type = refl
  own_type r string_type = refl
  own_type r state_type = refl
  own_type r (variable_type v) = by_test (nat_lt v r)
    where
      by_test : (b : Bool) → (if b then variable_type v else variable_type v) ≡ variable_type v
      by_test true = refl
      by_test false = refl
  own_type r (union_type u ts) = ap (union_type u) (own_types r ts)

  own_types : (r : ℕ) (ts : TypeTerms) → instances_of (λ v. if nat_lt v r then variable_type v else variable_type v) ts ≡ ts
  own_types r no_types = refl
  own_types r (type_then t ts) = ap₂ type_then (own_type r t) (own_types r ts)

each_own : (r : ℕ) (ts : List TypeTerm) → map (generalised r variable_type) ts ≡ ts
each_own r [] = refl
each_own r (t ∷ ts) = ap₂ (λ x xs. x ∷ xs) (own_type r t) (each_own r ts)

-- the first types, and those behind them
each_proper : (D : Parameters) (n : ℕ) (types : List TypeTerm) → n ≤ length types → ((v : ℕ) → v < n → ProperType D (type_at types v)) → EachProper D (drop n types) → EachProper D types
each_proper D zero types le h rest = rest
each_proper D (suc n) [] le h rest = absurd (omega (arith, le))
each_proper D (suc n) (t ∷ ts) le h rest = (h 0 (omega arith), each_proper D n ts (omega (arith, le)) (λ v lt. same v (omega (arith, lt, le)) (h (suc v) (omega (arith, lt)))) rest)
  where
    same : (v : ℕ) → v < length ts → ProperType D (get_or ts v (variable_type (suc v))) → ProperType D (type_at ts v)
    same v lt p = subst (ProperType D) (there ts v (variable_type (suc v)) (variable_type v) lt) p
      where
        there : (xs : List TypeTerm) (v : ℕ) (a b : TypeTerm) → v < length xs → get_or xs v a ≡ get_or xs v b
        there [] v a b lt = absurd (omega (arith, lt))
        there (x ∷ xs) zero a b lt = refl
        there (x ∷ xs) (suc v) a b lt = there xs v a b (omega (arith, lt))

abbrev first_type : List TypeTerm → TypeTerm
first_type [] = int_type
first_type (t ∷ ts) = t

abbrev other_types : List TypeTerm → List TypeTerm
other_types [] = []
other_types (t ∷ ts) = ts

-- types that are instances of their own mended forms
instances_proper : (D : Parameters) (σ : ℕ → TypeTerm) (ts : List TypeTerm) → map (mended D) ts ≡ map (instance_of σ) ts → EachProper D ts
instances_proper D σ [] e = tt
instances_proper D σ (t ∷ ts) e = (proper D σ t (ap first_type e), instances_proper D σ ts (ap other_types e))

kept-mapped : (f : TypeTerm → TypeTerm) (flags : List Bool) (ts : List TypeTerm) → map f (kept flags ts) ≡ kept flags (map f ts)
kept-mapped f [] ts = refl
kept-mapped f (b ∷ bs) [] = refl
kept-mapped f (true ∷ bs) (t ∷ ts) = ap (λ us. f t ∷ us) (kept-mapped f bs ts)
kept-mapped f (false ∷ bs) (t ∷ ts) = kept-mapped f bs ts

pub are_proper : (P : Source) (D : Parameters) (clause : Unresolved_clause) (picks : List Candidate) (vars : ℕ) (types : List TypeTerm)
    → AreVariableTypes P D clause picks vars types → WalkIsDeclared P D (steps_of clause) → EachProper D types
are_proper P D clause picks vars types are declared =
    let r = rigid_count (P.preds clause.pred).types in
    let typed = are.typed variable_type in
    let mends = mended D in
    let general = are.general (λ v. mends (typed.0 v)) (map mends typed.1) (traces-mended D P typed.0 (steps_of clause) [] picks typed.1 declared typed.2) in
    let σ : ℕ → TypeTerm = λ k. if nat_lt k r then variable_type k else general.0 k in
    let made : map mends (drop vars types) ≡ map (instance_of σ) (drop vars types) =
    ap (map mends) (sym (typed.4 ∙ each_own r (drop vars types))) ∙ kept-mapped mends (makes clause) typed.1 ∙ general.2 in
    each_proper D vars types are.own
    (λ v lt. proper D σ (type_at types v) (ap mends (sym (typed.3 v lt ∙ own_type r (type_at types v))) ∙ general.1 v lt))
    (instances_proper D σ (drop vars types) made)
