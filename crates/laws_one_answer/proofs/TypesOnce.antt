-- The types of a clause's variables that are the most general, numbered by first occurrence, are one list.
use Rattle.std.proofs.Common.{◌≡◌, inl, inr, ℕ, zero, suc, ◌<◌, ◌≤◌, Bool, true, false, cond, nat_eq, List, [], ◌∷◌, ◌++◌, map, drop, get_or, length, refl, sym, ap, ap₂, ◌∙◌, subst, arith}
use Rattle.std.specs.Prelude.{nat_lt}
use Rattle.std.proofs.lemmas.Bool.{cases_lt, lt-ltb, le-ltb, eqb-true}
use Rattle.std.proofs.lemmas.List.{length-map, map-append}
use Rattle.mc_program.specs.Programs.{TypeTerm, int_type, char_type, string_type, state_type, variable_type, union_type, TypeTerms, no_types, type_then, Source}
use Rattle.mc_model.specs.Lists.{is_in, without, once, from}
use Rattle.mc_model.specs.Types.{instance_of, instances_of}
use Rattle.mc_accepted.specs.MostGeneral.{variables_of, variables_of_all, variables_of_each, rigid_count, at_least, AreNumbered, generalised, type_at}
use Rattle.mc_accepted.specs.ProperTypes.{Parameters}
use Rattle.mc_accepted.specs.Resolving.{Unresolved_clause}
use Rattle.mc_source.specs.declared.name.Candidate.{Candidate}
use Rattle.laws_made_types.specs.MadeTypes.{AreVariableTypes}
use Rattle.laws_made_types.proofs.Generals.{itself}
use Rattle.mc_typecheck.proofs.Numbering.{once_mapped}

-- ---- lists of which each has something
abbrev Each : (ℕ → Type 0) → List ℕ → Type 0
Each Q [] = Unit {0}
Each Q (v ∷ vs) = Q v × Each Q vs

false-true : false ≡ true → ⊥
false-true e = cc

module _ (Q : ℕ → Type 0) where
  by-test : (x v : ℕ) (b t : Bool) → Q x → nat_eq v x ≡ b → (t ≡ true → Q v) → cond b true t ≡ true → Q v
  by-test x v true t h s more e = subst Q (sym (eqb-true v x s)) h
  by-test x v false t h s more e = more e

  each-in : (vs : List ℕ) (v : ℕ) → Each Q vs → is_in v vs ≡ true → Q v
  each-in [] v h e = absurd (false-true e)
  each-in (x ∷ xs) v h e = by-test x v (nat_eq v x) (is_in v xs) h.0 refl (each-in xs v h.1) e

  each-both : (xs ys : List ℕ) → Each Q xs → Each Q ys → Each Q (xs ++ ys)
  each-both [] ys h k = k
  each-both (x ∷ xs) ys h k = (h.0, each-both xs ys h.1 k)

  each-first : (xs ys : List ℕ) → Each Q (xs ++ ys) → Each Q xs
  each-first [] ys h = tt
  each-first (x ∷ xs) ys h = (h.0, each-first xs ys h.1)

  each-second : (xs ys : List ℕ) → Each Q (xs ++ ys) → Each Q ys
  each-second [] ys h = h
  each-second (x ∷ xs) ys h = each-second xs ys h.1

  -- those from a number on are some of them, and so are those of a list once
  least-step : (b : Bool) (x : ℕ) (xs : List ℕ) → Q x → Each Q xs → Each Q (cond b xs (x ∷ xs))
  least-step true x xs h k = k
  least-step false x xs h k = (h, k)

  each-least : (r : ℕ) (xs : List ℕ) → Each Q xs → Each Q (at_least r xs)
  each-least r [] h = tt
  each-least r (x ∷ xs) h = least-step (nat_lt x r) x (at_least r xs) h.0 (each-least r xs h.1)

  -- all are those from a number on, and those below
  of-least-step : (b : Bool) (x : ℕ) (xs ys : List ℕ) → (b ≡ true → Q x) → (Each Q xs → Each Q ys) → Each Q (cond b xs (x ∷ xs)) → Each Q (x ∷ ys)
  of-least-step true x xs ys below more h = (below refl, more h)
  of-least-step false x xs ys below more h = (h.0, more h.1)

  of-least : (r : ℕ) (xs : List ℕ) → ((x : ℕ) → nat_lt x r ≡ true → Q x) → Each Q (at_least r xs) → Each Q xs
  of-least r [] below h = tt
  of-least r (x ∷ xs) below h = of-least-step (nat_lt x r) x (at_least r xs) xs (below x) (of-least r xs below) h

  each-without : (xs vs : List ℕ) → Each Q xs → Each Q (without xs vs)
  each-without [] vs h = tt
  each-without (x ∷ xs) vs h = least-step (is_in x vs) x (without xs vs) h.0 (each-without xs vs h.1)

  each-once : (xs : List ℕ) → Each Q xs → Each Q (once xs)
  each-once [] h = tt
  each-once (x ∷ xs) h = (h.0, each-without (once xs) (x ∷ []) (each-once xs h.1))

  -- all stand in the list that has each once
  of-without-step : (x y : ℕ) (b : Bool) (xs ys : List ℕ) → nat_eq y x ≡ b → Q x → (Each Q xs → Each Q ys) → Each Q (cond (cond b true false) xs (y ∷ xs)) → Each Q (y ∷ ys)
  of-without-step x y true xs ys s h more k = (subst Q (sym (eqb-true y x s)) h, more k)
  of-without-step x y false xs ys s h more k = (k.0, more k.1)

  of-without : (x : ℕ) (xs : List ℕ) → Q x → Each Q (without xs (x ∷ [])) → Each Q xs
  of-without x [] h k = tt
  of-without x (y ∷ ys) h k = of-without-step x y (nat_eq y x) (without ys (x ∷ [])) ys refl h (of-without x ys h) k

  of-once : (xs : List ℕ) → Each Q (once xs) → Each Q xs
  of-once [] h = tt
  of-once (x ∷ xs) h = (h.0, of-once xs (of-without x (once xs) h.0 h.1))

-- ---- parts of types
abbrev arguments : TypeTerm → TypeTerms
arguments (union_type u ts) = ts
arguments t = no_types

abbrev first-type : TypeTerms → TypeTerm
first-type no_types = int_type
first-type (type_then t ts) = t

abbrev more-types : TypeTerms → TypeTerms
more-types no_types = no_types
more-types (type_then t ts) = ts

abbrev number : TypeTerm → ℕ
number (variable_type v) = v
number t = 0

abbrev IsVariable : TypeTerm → Type 0
IsVariable (variable_type v) = Unit {0}
IsVariable t = ⊥

abbrev first-of : List TypeTerm → TypeTerm
first-of [] = int_type
first-of (t ∷ ts) = t

abbrev more-of : List TypeTerm → List TypeTerm
more-of [] = []
more-of (t ∷ ts) = ts

-- ---- there and back
module _ (f g : ℕ → TypeTerm) where
  abbrev Back : ℕ → Type 0
  Back v = instance_of g (f v) ≡ variable_type v

  mutual
    comes-back : (t : TypeTerm) → instance_of g (instance_of f t) ≡ t → Each Back (variables_of t)
    comes-back int_type e = tt
    comes-back char_type e = tt
    comes-back string_type e = tt
    comes-back state_type e = tt
    comes-back (variable_type v) e = (e, tt)
    comes-back (union_type u ts) e = all-come-back ts (ap arguments e)

    all-come-back : (ts : TypeTerms) → instances_of g (instances_of f ts) ≡ ts → Each Back (variables_of_all ts)
    all-come-back no_types e = tt
    all-come-back (type_then t ts) e = each-both Back (variables_of t) (variables_of_all ts) (comes-back t (ap first-type e)) (all-come-back ts (ap more-types e))

  each-comes-back : (ts : List TypeTerm) → map (instance_of g) (map (instance_of f) ts) ≡ ts → Each Back (variables_of_each ts)
  each-comes-back [] e = tt
  each-comes-back (t ∷ ts) e = each-both Back (variables_of t) (variables_of_each ts) (comes-back t (ap first-of e)) (each-comes-back ts (ap more-of e))

  -- so each variable becomes one
  abbrev renamed : ℕ → ℕ
  renamed v = number (f v)

  is-variable : (t : TypeTerm) → IsVariable (instance_of g t) → t ≡ variable_type (number t)
  is-variable int_type h = absurd h
  is-variable char_type h = absurd h
  is-variable string_type h = absurd h
  is-variable state_type h = absurd h
  is-variable (variable_type v) h = refl
  is-variable (union_type u ts) h = absurd h

  is-renamed : (v : ℕ) → Back v → f v ≡ variable_type (renamed v)
  is-renamed v e = is-variable (f v) (subst IsVariable (sym e) tt)

  renamed-back : (v : ℕ) → Back v → g (renamed v) ≡ variable_type v
  renamed-back v e = ap (instance_of g) (sym (is-renamed v e)) ∙ e

  apart : (j k : ℕ) → Back j → Back k → renamed j ≡ renamed k → j ≡ k
  apart j k a b e = ap number (sym (renamed-back j a) ∙ ap g e ∙ renamed-back k b)

  mutual
    variables-renamed : (t : TypeTerm) → Each Back (variables_of t) → variables_of (instance_of f t) ≡ map renamed (variables_of t)
    variables-renamed int_type h = refl
    variables-renamed char_type h = refl
    variables-renamed string_type h = refl
    variables-renamed state_type h = refl
    variables-renamed (variable_type v) h = ap variables_of (is-renamed v h.0)
    variables-renamed (union_type u ts) h = all-variables-renamed ts h

    all-variables-renamed : (ts : TypeTerms) → Each Back (variables_of_all ts) → variables_of_all (instances_of f ts) ≡ map renamed (variables_of_all ts)
    all-variables-renamed no_types h = refl
    all-variables-renamed (type_then t ts) h =
        ap₂ (λ xs ys. xs ++ ys) (variables-renamed t (each-first Back (variables_of t) (variables_of_all ts) h)) (all-variables-renamed ts (each-second Back (variables_of t) (variables_of_all ts) h))
        ∙ sym (map-append renamed (variables_of t) (variables_of_all ts))

  each-renamed : (ts : List TypeTerm) → Each Back (variables_of_each ts) → variables_of_each (map (instance_of f) ts) ≡ map renamed (variables_of_each ts)
  each-renamed [] h = refl
  each-renamed (t ∷ ts) h =
      ap₂ (λ xs ys. xs ++ ys) (variables-renamed t (each-first Back (variables_of t) (variables_of_each ts) h)) (each-renamed ts (each-second Back (variables_of t) (variables_of_each ts) h))
      ∙ sym (map-append renamed (variables_of t) (variables_of_each ts))

  -- where each becomes itself, so do the types
  abbrev Stays : ℕ → Type 0
  Stays v = f v ≡ variable_type v

  mutual
    stays : (t : TypeTerm) → Each Stays (variables_of t) → instance_of f t ≡ t
    stays int_type h = refl
    stays char_type h = refl
    stays string_type h = refl
    stays state_type h = refl
    stays (variable_type v) h = h.0
    stays (union_type u ts) h = ap (union_type u) (all-stay ts h)

    all-stay : (ts : TypeTerms) → Each Stays (variables_of_all ts) → instances_of f ts ≡ ts
    all-stay no_types h = refl
    all-stay (type_then t ts) h = ap₂ (λ x xs. type_then x xs) (stays t (each-first Stays (variables_of t) (variables_of_all ts) h)) (all-stay ts (each-second Stays (variables_of t) (variables_of_all ts) h))

  each-stays : (ts : List TypeTerm) → Each Stays (variables_of_each ts) → map (instance_of f) ts ≡ ts
  each-stays [] h = refl
  each-stays (t ∷ ts) h = ap₂ (λ x xs. x ∷ xs) (stays t (each-first Stays (variables_of t) (variables_of_each ts) h)) (each-stays ts (each-second Stays (variables_of t) (variables_of_each ts) h))

  -- those that become what they are, and are among those that become some
  stays-step : (v : ℕ) → Back v → renamed v ≡ v → Stays v
  stays-step v b e = is-renamed v b ∙ ap variable_type e

  stay-all : (vs : List ℕ) → Each Back vs → map renamed vs ≡ vs → Each Stays vs
  stay-all [] b e = tt
  stay-all (v ∷ vs) b e = (stays-step v b.0 (ap (λ xs. get_or xs 0 0) e), stay-all vs b.1 (ap (drop 1) e))

-- ---- types with those below a number rigid
abbrev taken : (r : ℕ) → (ℕ → TypeTerm) → ℕ → TypeTerm
taken r σ v = cond (nat_lt v r) (variable_type v) (σ v)

module _ (r : ℕ) (σ τ : ℕ → TypeTerm) where
  abbrev f : ℕ → TypeTerm
  f = taken r σ

  abbrev g : ℕ → TypeTerm
  g = taken r τ

  rigid : (υ : ℕ → TypeTerm) (v : ℕ) → v < r → taken r υ v ≡ variable_type v
  rigid υ v lt = ap (λ b. cond b (variable_type v) (υ v)) (lt-ltb v r lt)

  rigid-stays : (v : ℕ) → nat_lt v r ≡ true → Stays f g v
  rigid-stays v e = ap (λ b. cond b (variable_type v) (σ v)) e

  one-side : (v : ℕ) → Back f g v → nat_lt (renamed f g v) r ≡ nat_lt v r
  one-side v b = elim (cases_lt v r) [
    | inl lt ↦ ap (λ w. nat_lt w r) (ap number (rigid σ v lt))
    | inr le ↦ elim (cases_lt (renamed f g v) r) [
      | inl lt ↦
          let e : renamed f g v ≡ v = ap number (sym (rigid τ (renamed f g v) lt) ∙ renamed-back f g v b) in
          let no : ⊥ = omega (arith, e, lt, le) in
          absurd no
      | inr more ↦ le-ltb (renamed f g v) r more ∙ sym (le-ltb v r le)
    ]
  ]

  least-renamed-step : (a b : Bool) (v : ℕ) (l m : List ℕ) → a ≡ b → l ≡ map (renamed f g) m → cond a l (renamed f g v ∷ l) ≡ map (renamed f g) (cond b m (v ∷ m))
  least-renamed-step true true v l m s e = e
  least-renamed-step false false v l m s e = ap (λ xs. renamed f g v ∷ xs) e
  least-renamed-step true false v l m s e = absurd (false-true (sym s))
  least-renamed-step false true v l m s e = absurd (false-true s)

  least-renamed : (vs : List ℕ) → Each (Back f g) vs → at_least r (map (renamed f g) vs) ≡ map (renamed f g) (at_least r vs)
  least-renamed [] h = refl
  least-renamed (v ∷ vs) h =
      least-renamed-step (nat_lt (renamed f g v) r) (nat_lt v r) v (at_least r (map (renamed f g) vs)) (at_least r vs) (one-side v h.0) (least-renamed vs h.1)

  abbrev left-over : List TypeTerm → List ℕ
  left-over ts = once (at_least r (variables_of_each ts))

  -- lists of which each is an instance of the other, numbered alike, are one
  pub one-list : (xs ys : List TypeTerm) → xs ≡ map (generalised r σ) ys → ys ≡ map (generalised r τ) xs → AreNumbered r xs → AreNumbered r ys → xs ≡ ys
  one-list xs ys p q nx ny =
      let vs = variables_of_each ys in
      let back : Each (Back f g) vs = each-comes-back f g ys (ap (map (instance_of g)) (sym p) ∙ sym q) in
      let low : Each (Back f g) (at_least r vs) = each-least (Back f g) r vs back in
      let m : left-over xs ≡ map (renamed f g) (left-over ys) =
      ap left-over p
      ∙ ap (λ us. once (at_least r us)) (each-renamed f g ys back)
      ∙ ap once (least-renamed vs back)
      ∙ once_mapped (renamed f g) (at_least r vs)
      (λ j k hj hk e. apart f g j k (each-in (Back f g) (at_least r vs) j low hj) (each-in (Back f g) (at_least r vs) k low hk) e) in
      let long : length (left-over xs) ≡ length (left-over ys) = ap length m ∙ length-map (left-over ys) (renamed f g) in
      let fixed : map (renamed f g) (left-over ys) ≡ left-over ys = sym m ∙ nx ∙ ap (from r) long ∙ sym ny in
      p ∙ each-stays f g ys (of-least (Stays f g) r vs rigid-stays (of-once (Stays f g) (at_least r vs) (stay-all f g (left-over ys) (each-once (Back f g) (at_least r vs) low) fixed)))

-- ---- types of a clause's variables
each-itself : (r : ℕ) (ts : List TypeTerm) → map (generalised r variable_type) ts ≡ ts
each-itself r [] = refl
each-itself r (t ∷ ts) = ap₂ (λ x xs. x ∷ xs) (itself r t) (each-itself r ts)

-- a list is the instance of another where its first ones are, by number, and those behind are
by-parts : (G : TypeTerm → TypeTerm) (n : ℕ) (xs ys : List TypeTerm) (d e : ℕ → TypeTerm) → n ≤ length xs → n ≤ length ys → ((v : ℕ) → v < n → get_or xs v (d v) ≡ G (get_or ys v (e v))) → drop n xs ≡ map G (drop n ys) → xs ≡ map G ys
by-parts G zero xs ys d e here there own more = more
by-parts G (suc n) [] ys d e here there own more = let no : ⊥ = omega (arith, here) in absurd no
by-parts G (suc n) (x ∷ xs) [] d e here there own more = let no : ⊥ = omega (arith, there) in absurd no
by-parts G (suc n) (x ∷ xs) (y ∷ ys) d e here there own more =
    ap₂ (λ t ts. t ∷ ts) (own 0 (omega arith))
    (by-parts G n xs ys (λ v. d (suc v)) (λ v. e (suc v)) (omega (arith, here)) (omega (arith, there)) (λ v lt. own (suc v) (omega (arith, lt))) more)

module _ (P : Source) (D : Parameters) (clause : Unresolved_clause) (picks : List Candidate) (vars : ℕ) where
  abbrev r : ℕ
  r = rigid_count (P.preds clause.pred).types

  is-instance : (xs ys : List TypeTerm) → AreVariableTypes P D clause picks vars xs → AreVariableTypes P D clause picks vars ys → (σ : ℕ → TypeTerm) × (xs ≡ map (generalised r σ) ys)
  is-instance xs ys a b =
      let own = a.typed variable_type in
      let of = b.general own.0 own.1 own.2 in (
        of.0,
        by-parts (generalised r of.0) vars xs ys variable_type variable_type a.own b.own
            (λ v lt. sym (own.3 v lt ∙ itself r (type_at xs v)) ∙ of.1 v lt)
            (sym (own.4 ∙ each-itself r (drop vars xs)) ∙ of.2),
      )

  pub variable-types-are-one : (xs ys : List TypeTerm) → AreVariableTypes P D clause picks vars xs → AreVariableTypes P D clause picks vars ys → xs ≡ ys
  variable-types-are-one xs ys a b =
      let here = is-instance xs ys a b in
      let there = is-instance ys xs b a in
      one-list r here.0 there.0 xs ys here.1 there.1 a.numbered b.numbered
