-- The meanings of a step, and the candidates that they are.
use Rattle.std.proofs.Common.{◌≡◌, ℕ, zero, suc, ◌<◌, ◌⊎◌, Bool, true, false, cond, not, ◌&&◌, ◌||◌, List, [], ◌∷◌, ◌++◌, length, get_or, refl, sym, ap, subst, ◌∙◌, inl, inr, arith}
use Rattle.std.specs.Prelude.{nat_eq, Contains}
use Rattle.std.proofs.lemmas.Bool.{eq-eqb, eqb-true}
use Rattle.mc_program.specs.Programs.{Source}
use Rattle.mc_accepted.specs.ProperTypes.{Parameters}
use Rattle.mc_accepted.specs.Resolving.{signature, Before, NamesAtom, NamesTerm}
use Rattle.mc_source.specs.declared.name.Candidate.{Candidate}
use Rattle.mc_source.specs.declared.name.Candidate.TheVariants as C
use Rattle.mc_typecheck.specs.Ties.{Meaning, of_name, of_equation, is_same, is_among, names_atom, names_term, declared, offered, sole}

pub no_true : false ≡ true → ⊥
no_true e = cc

-- candidates that are the same
is_same_true : (a b : Candidate) → is_same a b ≡ true → a ≡ b
is_same_true (C.Con a) (C.Con b) e = ap C.Con (eqb-true a b e)
is_same_true (C.Func a) (C.Func b) e = ap C.Func (eqb-true a b e)
is_same_true (C.Pred a) (C.Pred b) e = ap C.Pred (eqb-true a b e)
is_same_true (C.Char a) (C.Char b) e = ap C.Char (eqb-true a b e)
is_same_true (C.Con a) (C.Func b) e = absurd (no_true e)
is_same_true (C.Con a) (C.Pred b) e = absurd (no_true e)
is_same_true (C.Con a) (C.Char b) e = absurd (no_true e)
is_same_true (C.Func a) (C.Con b) e = absurd (no_true e)
is_same_true (C.Func a) (C.Pred b) e = absurd (no_true e)
is_same_true (C.Func a) (C.Char b) e = absurd (no_true e)
is_same_true (C.Pred a) (C.Con b) e = absurd (no_true e)
is_same_true (C.Pred a) (C.Func b) e = absurd (no_true e)
is_same_true (C.Pred a) (C.Char b) e = absurd (no_true e)
is_same_true (C.Char a) (C.Con b) e = absurd (no_true e)
is_same_true (C.Char a) (C.Func b) e = absurd (no_true e)
is_same_true (C.Char a) (C.Pred b) e = absurd (no_true e)

is_same_self : (a : Candidate) → is_same a a ≡ true
is_same_self (C.Con a) = eq-eqb a a refl
is_same_self (C.Func a) = eq-eqb a a refl
is_same_self (C.Pred a) = eq-eqb a a refl
is_same_self (C.Char a) = eq-eqb a a refl

is_same_of : (a b : Candidate) → a ≡ b → is_same a b ≡ true
is_same_of a b e = let P : Candidate → Type 0 = λ c. is_same a c ≡ true in subst P e (is_same_self a)

-- a test that holds or doesn't
either : (b : Bool) → (b ≡ true) ⊎ (b ≡ false)
either true = inl refl
either false = inr refl

both_first : (a b : Bool) → (a && b) ≡ true → a ≡ true
both_first true b e = refl
both_first false b e = e

both_second : (a b : Bool) → (a && b) ≡ true → b ≡ true
both_second true b e = e
both_second false b e = absurd (no_true e)

both_of : (a b : Bool) → a ≡ true → b ≡ true → (a && b) ≡ true
both_of true b ea eb = eb
both_of false b ea eb = ea

or_false_first : (a b : Bool) → (a || b) ≡ false → a ≡ false
or_false_first true b e = e
or_false_first false b e = refl

or_false_second : (a b : Bool) → (a || b) ≡ false → b ≡ false
or_false_second true b e = absurd (no_true (sym e))
or_false_second false b e = e

or_false_of : (a b : Bool) → a ≡ false → b ≡ false → (a || b) ≡ false
or_false_of true b ea eb = ea
or_false_of false b ea eb = eb

not_true : (b : Bool) → not b ≡ true → b ≡ false
not_true true e = absurd (no_true e)
not_true false e = refl

not_of : (b : Bool) → b ≡ false → not b ≡ true
not_of true e = absurd (no_true (sym e))
not_of false e = refl

-- among a list with one more
among_push : (c d : Candidate) (met : List Candidate) → is_among c met ≡ false → is_same c d ≡ false → is_among c (met ++ d ∷ []) ≡ false
among_push c d [] e f = or_false_of (is_same c d) false f refl
among_push c d (m ∷ met) e f =
    or_false_of (is_same c m) (is_among c (met ++ d ∷ [])) (or_false_first (is_same c m) (is_among c met) e)
    (among_push c d met (or_false_second (is_same c m) (is_among c met) e) f)

unmet_last : (c d : Candidate) (met : List Candidate) → is_among c (met ++ d ∷ []) ≡ false → is_same c d ≡ false
unmet_last c d [] e = or_false_first (is_same c d) false e
unmet_last c d (m ∷ met) e = unmet_last c d met (or_false_second (is_same c m) (is_among c (met ++ d ∷ [])) e)

unmet_before : (c d : Candidate) (met : List Candidate) → is_among c (met ++ d ∷ []) ≡ false → is_among c met ≡ false
unmet_before c d [] e = refl
unmet_before c d (m ∷ met) e =
    or_false_of (is_same c m) (is_among c met) (or_false_first (is_same c m) (is_among c (met ++ d ∷ [])) e)
    (unmet_before c d met (or_false_second (is_same c m) (is_among c (met ++ d ∷ [])) e))

-- what kinds of candidates names stand for
pub names_term_of : (c : Candidate) → NamesTerm c → names_term c ≡ true
names_term_of (C.Con s) h = refl
names_term_of (C.Func f) h = refl
names_term_of (C.Char x) h = refl
names_term_of (C.Pred p) h = absurd h

pub of_names_term : (c : Candidate) → names_term c ≡ true → NamesTerm c
of_names_term (C.Con s) h = tt
of_names_term (C.Func f) h = tt
of_names_term (C.Char x) h = tt
of_names_term (C.Pred p) h = no_true h

pub names_atom_of : (c : Candidate) → NamesAtom c → names_atom c ≡ true
names_atom_of (C.Con s) h = absurd h
names_atom_of (C.Func f) h = absurd h
names_atom_of (C.Char x) h = absurd h
names_atom_of (C.Pred p) h = refl

pub of_names_atom : (c : Candidate) → names_atom c ≡ true → NamesAtom c
of_names_atom (C.Con s) h = no_true h
of_names_atom (C.Func f) h = no_true h
of_names_atom (C.Char x) h = no_true h
of_names_atom (C.Pred p) h = tt

-- a candidate of a list
abbrev Among : List Candidate → Candidate → Type 0
Among [] c = ⊥
Among (d ∷ ds) c = (d ≡ c) ⊎ Among ds c

among_at : (ds : List Candidate) (k : ℕ) (c : Candidate) → k < length ds → get_or ds k c ≡ c → Among ds c
among_at [] k c lt e = let none : ⊥ = omega arith in absurd none
among_at (d ∷ ds) zero c lt e = inl e
among_at (d ∷ ds) (suc k) c lt e = inr (among_at ds k c (omega arith) e)

contains_there : (d : Candidate) (ds : List Candidate) (c : Candidate) → Contains ds c → Contains (d ∷ ds) c
contains_there d ds c h = (suc h.0, omega (arith, h.1), h.2)

-- the candidate that a meaning is
abbrev pub IsOf : Meaning → Candidate → Type 0
IsOf m c = m ≡ of_name c

abbrev candidate_of : Candidate → Meaning → Candidate
candidate_of d (of_name c) = c
candidate_of d m = d

pub same_candidate : (a b : Candidate) → of_name a ≡ of_name b → a ≡ b
same_candidate a b e = ap (candidate_of a) e

module _ (P : Source) (D : Parameters) (passes : Candidate → Bool) (n : ℕ) where
  abbrev test : List Candidate → Candidate → Bool
  test met c = passes c && (nat_eq (length (signature P D c)) n && not (is_among c met))

  abbrev chosen : Bool → Candidate → List Meaning → List Meaning
  chosen b c rest = cond b (of_name c ∷ rest) rest

  -- what a meaning that is offered is
  pub record Offered (met cs : List Candidate) (j : ℕ) : Type 0 where
    pub candidate : Candidate
    pub is : get_or (offered P D passes n met cs) j of_equation ≡ of_name candidate
    pub contained : Contains cs candidate
    pub passing : passes candidate ≡ true
    pub long : length (signature P D candidate) ≡ n
    pub unmet : is_among candidate met ≡ false

  offered_there : (b : Bool) (met : List Candidate) (c : Candidate) (cs : List Candidate) (j : ℕ) → test met c ≡ b → ((k : ℕ) → k < length (offered P D passes n (met ++ c ∷ []) cs) → Offered (met ++ c ∷ []) cs k) → j < length (chosen b c (offered P D passes n (met ++ c ∷ []) cs)) → Offered met (c ∷ cs) j
  offered_there true met c cs zero e more lt = record {
    candidate = c;
    is = ap (λ b. get_or (chosen b c (offered P D passes n (met ++ c ∷ []) cs)) 0 of_equation) e;
    contained = (0, omega arith, refl);
    passing = both_first (passes c) (nat_eq (length (signature P D c)) n && not (is_among c met)) e;
    long = eqb-true (length (signature P D c)) n (both_first (nat_eq (length (signature P D c)) n) (not (is_among c met)) (both_second (passes c) (nat_eq (length (signature P D c)) n && not (is_among c met)) e));
    unmet = not_true (is_among c met) (both_second (nat_eq (length (signature P D c)) n) (not (is_among c met)) (both_second (passes c) (nat_eq (length (signature P D c)) n && not (is_among c met)) e));
  }
  offered_there true met c cs (suc j) e more lt =
      let o = more j (omega arith) in record {
        candidate = o.candidate;
        is = ap (λ b. get_or (chosen b c (offered P D passes n (met ++ c ∷ []) cs)) (suc j) of_equation) e ∙ o.is;
        contained = contains_there c cs o.candidate o.contained;
        passing = o.passing;
        long = o.long;
        unmet = unmet_before o.candidate c met o.unmet;
      }
  offered_there false met c cs j e more lt =
      let o = more j lt in record {
        candidate = o.candidate;
        is = ap (λ b. get_or (chosen b c (offered P D passes n (met ++ c ∷ []) cs)) j of_equation) e ∙ o.is;
        contained = contains_there c cs o.candidate o.contained;
        passing = o.passing;
        long = o.long;
        unmet = unmet_before o.candidate c met o.unmet;
      }

  pub offered_at : (met cs : List Candidate) (j : ℕ) → j < length (offered P D passes n met cs) → Offered met cs j
  offered_at met [] j lt = let none : ⊥ = omega arith in absurd none
  offered_at met (c ∷ cs) j lt = offered_there (test met c) met c cs j refl (offered_at (met ++ c ∷ []) cs) lt

  -- each candidate that may be offered is
  abbrev Has : List Meaning → Candidate → Type 0
  Has ms c = (j : ℕ) × (j < length ms) × (get_or ms j of_equation ≡ of_name c)

  has_more : (b : Bool) (d : Candidate) (ms : List Meaning) (c : Candidate) → Has ms c → Has (chosen b d ms) c
  has_more true d ms c h = (suc h.0, omega (arith, h.1), h.2)
  has_more false d ms c h = h

  has_first : (b : Bool) (d : Candidate) (ms : List Meaning) (c : Candidate) → b ≡ true → d ≡ c → Has (chosen b d ms) c
  has_first true d ms c e same = (0, omega arith, ap of_name same)
  has_first false d ms c e same = absurd (no_true e)

  has_among : (met cs : List Candidate) (c : Candidate) → Among cs c → passes c ≡ true → length (signature P D c) ≡ n → is_among c met ≡ false → Has (offered P D passes n met cs) c
  has_among met [] c h p l u = absurd h
  has_among met (d ∷ ds) c h p l u = elim (either (is_same c d)) [
    | inl e ↦
        let same : c ≡ d = is_same_true c d e in
        let Q : Candidate → Type 0 = λ x. test met x ≡ true in
        let holds : test met c ≡ true = both_of (passes c) (nat_eq (length (signature P D c)) n && not (is_among c met)) p (both_of (nat_eq (length (signature P D c)) n) (not (is_among c met)) (eq-eqb (length (signature P D c)) n l) (not_of (is_among c met) u)) in
        has_first (test met d) d (offered P D passes n (met ++ d ∷ []) ds) c (subst Q same holds) (sym same)
    | inr e ↦
        let later : Among ds c = elim h [
          | inl same ↦ absurd (no_true (sym e ∙ is_same_of c d (sym same)))
          | inr there ↦ there
        ] in
        has_more (test met d) d (offered P D passes n (met ++ d ∷ []) ds) c (has_among (met ++ d ∷ []) ds c later p l (among_push c d met u e))
  ]

  pub offered_has : (cs : List Candidate) (c : Candidate) → Contains cs c → passes c ≡ true → length (signature P D c) ≡ n → Has (offered P D passes n [] cs) c
  offered_has cs c h p l = has_among [] cs c (among_at cs h.0 c h.1 h.2) p l refl

  -- the order in which they are offered
  abbrev pub Ordered : (met cs : List Candidate) → Type 0
  Ordered met cs = (i j : ℕ) → i < j → j < length (offered P D passes n met cs) → (x y : Candidate) → IsOf (get_or (offered P D passes n met cs) i of_equation) x → IsOf (get_or (offered P D passes n met cs) j of_equation) y → Before cs x y

  apart : (met : List Candidate) (c : Candidate) (cs : List Candidate) (j : ℕ) (y : Candidate) → j < length (offered P D passes n (met ++ c ∷ []) cs) → IsOf (get_or (offered P D passes n (met ++ c ∷ []) cs) j of_equation) y → c ≡ y → ⊥
  apart met c cs j y lt is same =
      let o = offered_at (met ++ c ∷ []) cs j lt in
      let e : y ≡ o.candidate = same_candidate y o.candidate (sym is ∙ o.is) in
      no_true (sym (unmet_last o.candidate c met o.unmet) ∙ is_same_of o.candidate c (sym e ∙ sym same))

  ordered_there : (b : Bool) (met : List Candidate) (c : Candidate) (cs : List Candidate) → Ordered (met ++ c ∷ []) cs → (i j : ℕ) → i < j → j < length (chosen b c (offered P D passes n (met ++ c ∷ []) cs)) → (x y : Candidate) → IsOf (get_or (chosen b c (offered P D passes n (met ++ c ∷ []) cs)) i of_equation) x → IsOf (get_or (chosen b c (offered P D passes n (met ++ c ∷ []) cs)) j of_equation) y → Before (c ∷ cs) x y
  ordered_there true met c cs o i zero lt len x y ex ey = let none : ⊥ = omega arith in absurd none
  ordered_there true met c cs o zero (suc j) lt len x y ex ey = (apart met c cs j y (omega arith) ey, inl (same_candidate c x ex))
  ordered_there true met c cs o (suc i) (suc j) lt len x y ex ey = (apart met c cs j y (omega arith) ey, inr (o i j (omega arith) (omega arith) x y ex ey))
  ordered_there false met c cs o i j lt len x y ex ey = (apart met c cs j y len ey, inr (o i j lt len x y ex ey))

  pub offered_in_order : (met cs : List Candidate) → Ordered met cs
  offered_in_order met [] i j lt len x y ex ey = let none : ⊥ = omega arith in absurd none
  offered_in_order met (c ∷ cs) i j lt len x y ex ey = ordered_there (test met c) met c cs (offered_in_order (met ++ c ∷ []) cs) i j lt len x y ex ey

  pub offered_before : (cs : List Candidate) (i j : ℕ) → i < j → j < length (offered P D passes n [] cs) → (x y : Candidate) → IsOf (get_or (offered P D passes n [] cs) i of_equation) x → IsOf (get_or (offered P D passes n [] cs) j of_equation) y → Before cs x y
  offered_before cs i j lt len x y ex ey = offered_in_order [] cs i j lt len x y ex ey

-- nothing is before itself
pub not_before_itself : (cs : List Candidate) (c : Candidate) → Before cs c c → ⊥
not_before_itself [] c h = h
not_before_itself (d ∷ ds) c h = elim h.1 [ inl e ↦ h.0 e | inr more ↦ not_before_itself ds c more ]

-- a step with one meaning
module _ (P : Source) (D : Parameters) (m : Meaning) (places : List ℕ) where
  pub record Sole (j : ℕ) : Type 0 where
    pub first : j ≡ 0
    pub is : get_or (sole P D m places).meanings j of_equation ≡ m
    pub long : length (declared P D m).types ≡ length places

  sole_there : (b : Bool) (j : ℕ) → nat_eq (length (declared P D m).types) (length places) ≡ b → j < length (cond b (m ∷ []) []) → Sole j
  sole_there true zero e lt = record {
    first = refl;
    is = ap (λ b. get_or (cond b (m ∷ []) []) 0 of_equation) e;
    long = eqb-true (length (declared P D m).types) (length places) e;
  }
  sole_there true (suc j) e lt = let none : ⊥ = omega arith in absurd none
  sole_there false j e lt = let none : ⊥ = omega arith in absurd none

  pub sole_at : (j : ℕ) → j < length (sole P D m places).meanings → Sole j
  sole_at j lt = sole_there (nat_eq (length (declared P D m).types) (length places)) j refl lt

  pub sole_has : length (declared P D m).types ≡ length places → (0 < length (sole P D m places).meanings) × (get_or (sole P D m places).meanings 0 of_equation ≡ m)
  sole_has e =
      let Q : Bool → Type 0 = λ b. (0 < length (cond b (m ∷ []) [])) × (get_or (cond b (m ∷ []) []) 0 of_equation ≡ m) in
      subst Q (sym (eq-eqb (length (declared P D m).types) (length places) e)) (omega arith, refl)
