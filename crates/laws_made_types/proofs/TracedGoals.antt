-- What the walk of goals says of the typing of the goals that are made for them.
use Rattle.std.proofs.Common.{◌≡◌, ℕ, ◌+◌, List, [], ◌∷◌, ◌++◌, length, true, false, refl, sym, ap, ap₂, ◌∙◌, subst, arith, append_assoc, append-nil, length-append}
use Rattle.mc_program.specs.Programs.{TypeTerm, int_type, Source, Expression, variable, constant, made, applied, Expressions, Formula, If, Formulas, no_formulas, formula_then}
use Rattle.mc_model.specs.Flat as F
use Rattle.mc_accepted.specs.Scope.{variables_in, occurring, occurring_all}
use Rattle.mc_accepted.specs.ProperTypes.{Parameters}
use Rattle.mc_accepted.specs.Normal.{Conjuncts, the_variable, name_term, name_terms, equate, before, equation, conjunction, conjuncts_of, conjuncts_of_all, disjuncts_of}
use Rattle.mc_accepted.specs.Resolving as R
use Rattle.mc_accepted.specs.Resolving.{Unresolved, any_variable, any_number, any_text, any_name, Unresolved_terms, count, named, called, resolved_term, resolved_terms, resolved_goal, resolved_goals, Unresolved_goal, atom, all_of, one_of, choice, negation, exists, Unresolved_goals, no_goals, goal_then, Step, call, term_steps, terms_steps, goal_steps, goals_steps, topmost, below, Takes}
use Rattle.mc_source.specs.declared.name.Candidate.{Candidate}
use Rattle.mc_source.specs.declared.name.Candidate.TheVariants as C
use Rattle.laws_made_types.specs.Known.{AllKnown, GoalHasValues, GoalsHaveValues}
use Rattle.laws_made_types.specs.Makes.{makes_term, makes_terms, makes_parts, makes_equation, makes_goal, makes_goals, kept}
use Rattle.laws_made_types.specs.Traced.{Traces, HasTypes}
use Rattle.laws_made_types.proofs.Keeping.{kept_both, long_both, both_split}
use Rattle.laws_made_types.proofs.FlatTypings.{has_first, has_second, has_none, topmost_is, below_is, AllTyped, join, to_conjunction, to_disjunction, to_around}
use Rattle.laws_made_types.proofs.TracedTerms.{Agrees, agrees_left, agrees_right, Walked, AllWalked, term_walked, terms_walked}

-- conjuncts are typed wherever the variables that they make have these types, and the variables of the clause their own
pub record Conjuncts_typed (P : Source) (τ : ℕ → TypeTerm) (xs : List ℕ) (cs : (ℕ → ℕ) → ℕ → Conjuncts) (made_types : List TypeTerm) : Type 0 where
  pub next : (names : ℕ → ℕ) (m : ℕ) → (cs names m).next ≡ m + length made_types
  pub typed : (names : ℕ → ℕ) (m : ℕ) (T : ℕ → TypeTerm) → Agrees T names τ xs → HasTypes T m made_types → AllTyped P T (cs names m).goals

abbrev first_of : TypeTerm → List TypeTerm → TypeTerm
first_of d [] = d
first_of d (t ∷ ts) = t

abbrev second_of : TypeTerm → List TypeTerm → TypeTerm
second_of d [] = d
second_of d (t ∷ ts) = first_of d ts

-- AN EQUATION'S SHAPE

-- it is no variable
abbrev pub IsNone : Expression → Type 0
IsNone (variable x) = ⊥
IsNone _ = Unit {0}

name_none : (es : Expressions) (picks : List Candidate) → IsNone (named es picks).0
name_none es [] = tt
name_none es (C.Con s ∷ picks) = tt
name_none es (C.Func f ∷ picks) = tt
name_none es (C.Char c ∷ picks) = tt
name_none es (C.Pred p ∷ picks) = tt

pub name_is_none : (cs : List Candidate) (us : Unresolved_terms) (picks : List Candidate) → IsNone (resolved_term (any_name cs us) picks).0
name_is_none cs us picks = let r = resolved_terms us picks in name_none r.0 r.1

-- the equation of two terms where the left one gets a variable
abbrev pub sides : (names : ℕ → ℕ) → ℕ → Expression → Expression → Conjuncts
sides names m a b = let r = name_term names m a in before r.goals r.made_variables (equate names r.next (the_variable r) b)

pub equation_right : (names : ℕ → ℕ) (m : ℕ) (a : Expression) (y : ℕ) → IsNone a → equation names m a (variable y) ≡ equate names m (names y) a
equation_right names m (variable x) y none = absurd none
equation_right names m (constant v) y none = refl
equation_right names m (made f ts) y none = refl
equation_right names m (applied f ts) y none = refl

pub equation_sides : (names : ℕ → ℕ) (m : ℕ) (a b : Expression) → IsNone a → IsNone b → equation names m a b ≡ sides names m a b
equation_sides names m (variable x) b none none' = absurd none
equation_sides names m (constant v) (variable y) none none' = absurd none'
equation_sides names m (constant v) (constant w) none none' = refl
equation_sides names m (constant v) (made g us) none none' = refl
equation_sides names m (constant v) (applied g us) none none' = refl
equation_sides names m (made f ts) (variable y) none none' = absurd none'
equation_sides names m (made f ts) (constant w) none none' = refl
equation_sides names m (made f ts) (made g us) none none' = refl
equation_sides names m (made f ts) (applied g us) none none' = refl
equation_sides names m (applied f ts) (variable y) none none' = absurd none'
equation_sides names m (applied f ts) (constant w) none none' = refl
equation_sides names m (applied f ts) (made g us) none none' = refl
equation_sides names m (applied f ts) (applied g us) none none' = refl

-- as many flags as its terms have
pub parts_long : (u : Unresolved) → length (makes_parts u) ≡ length (makes_term u)
parts_long (any_variable v) = refl
parts_long (any_number n) = refl
parts_long (any_text bytes) = refl
parts_long (any_name cs us) = omega (arith, length-append (makes_terms us) (true ∷ []), length-append (makes_terms us) (false ∷ []))

sides_long : (a b : Unresolved) → length (makes_term a ++ makes_term b) ≡ length (makes_term a ++ makes_parts b)
sides_long a b = omega (arith, length-append (makes_term a) (makes_term b), length-append (makes_term a) (makes_parts b), parts_long b)

pub equation_long : (a b : Unresolved) → length (makes_term a ++ makes_term b) ≡ length (makes_equation a b)
equation_long (any_variable v) b = sym (parts_long b)
equation_long (any_number n) (any_variable y) = refl
equation_long (any_text n) (any_variable y) = refl
equation_long (any_name cs us) (any_variable y) = ap length (append-nil (makes_term (any_name cs us))) ∙ sym (parts_long (any_name cs us))
equation_long (any_number n) (any_number k) = refl
equation_long (any_number n) (any_text k) = refl
equation_long (any_number n) (any_name ds vs) = sides_long (any_number n) (any_name ds vs)
equation_long (any_text n) (any_number k) = refl
equation_long (any_text n) (any_text k) = refl
equation_long (any_text n) (any_name ds vs) = sides_long (any_text n) (any_name ds vs)
equation_long (any_name cs us) (any_number k) = sides_long (any_name cs us) (any_number k)
equation_long (any_name cs us) (any_text k) = sides_long (any_name cs us) (any_text k)
equation_long (any_name cs us) (any_name ds vs) = sides_long (any_name cs us) (any_name ds vs)

no_length : (ts : List TypeTerm) → length ts ≡ 0 → ts ≡ []
no_length [] e = refl
no_length (t ∷ ts) e = absurd (omega (arith, e))

module _ (P : Source) (D : Parameters) (τ : ℕ → TypeTerm) where
  -- conjuncts, and others behind them
  pub both_typed : (xs ys : List ℕ) (f g : (ℕ → ℕ) → ℕ → Conjuncts) (ts us : List TypeTerm) → Conjuncts_typed P τ xs f ts → Conjuncts_typed P τ ys g us →
      Conjuncts_typed P τ (xs ++ ys) (λ names m. before (f names m).goals (f names m).made_variables (g names (f names m).next)) (ts ++ us)
  both_typed xs ys f g ts us a b =
      record {
        next = λ names m. omega (arith, a.next names m, b.next names (f names m).next, length-append ts us);
        typed = λ names m T agree has.
            join P T (f names m).goals (g names (f names m).next).goals
            (a.typed names m T (agrees_left T names τ xs ys agree) (has_first T m ts us has))
            (b.typed names (f names m).next T (agrees_right T names τ xs ys agree) (has_second T m (f names m).next ts us (a.next names m) has));
      }

  -- AN EQUATION
  module _ (s₁ s₂ : List Step) (k₁ k₂ : List TypeTerm) (p₁ p₂ : List Candidate) (all₁ all₂ : List TypeTerm) where
    left_typed : (x : ℕ) (ua ub : Unresolved) (b : Expression) → (a' : Walked P D τ s₁ k₁ ua (variable x) p₁ all₁) → (b' : Walked P D τ s₂ k₂ ub b p₂ all₂) → a'.type ≡ b'.type →
        Conjuncts_typed P τ (x ∷ variables_in b) (λ names m. equate names m (names x) b) b'.inner
    left_typed x ua ub b a' b' e =
        record {
          next = λ names m. b'.next_inner names m (names x);
          typed = λ names m T agree has.
              let none : length (a'.inner ++ a'.own) ≡ 0 = omega (arith, a'.next_all names m) in
              let here = a'.as_named names m T (agrees_left T names τ (x ∷ []) (variables_in b) agree) (has_none T m (a'.inner ++ a'.own) none) in
              b'.equated names m (names x) T (agrees_right T names τ (x ∷ []) (variables_in b) agree) has (here.first ∙ e);
        }

    right_typed : (ua ub : Unresolved) (a : Expression) (y : ℕ) → (a' : Walked P D τ s₁ k₁ ua a p₁ all₁) → (b' : Walked P D τ s₂ k₂ ub (variable y) p₂ all₂) → a'.type ≡ b'.type →
        Conjuncts_typed P τ (variables_in a ++ y ∷ []) (λ names m. equate names m (names y) a) a'.inner
    right_typed ua ub a y a' b' e =
        record {
          next = λ names m. a'.next_inner names m (names y);
          typed = λ names m T agree has.
              let none : length (b'.inner ++ b'.own) ≡ 0 = omega (arith, b'.next_all names m) in
              let there = b'.as_named names m T (agrees_right T names τ (variables_in a) (y ∷ []) agree) (has_none T m (b'.inner ++ b'.own) none) in
              a'.equated names m (names y) T (agrees_left T names τ (variables_in a) (y ∷ []) agree) has (there.first ∙ sym e);
        }

    sides_typed : (ua ub : Unresolved) (a b : Expression) → (a' : Walked P D τ s₁ k₁ ua a p₁ all₁) → (b' : Walked P D τ s₂ k₂ ub b p₂ all₂) → a'.type ≡ b'.type →
        Conjuncts_typed P τ (variables_in a ++ variables_in b) (λ names m. sides names m a b) ((a'.inner ++ a'.own) ++ b'.inner)
    sides_typed ua ub a b a' b' e =
        let first = a'.inner ++ a'.own in
        record {
          next = λ names m.
              let r = name_term names m a in
              omega (arith, a'.next_all names m, b'.next_inner names r.next (the_variable r), length-append first b'.inner);
          typed = λ names m T agree has.
              let r = name_term names m a in
              let here = a'.as_named names m T (agrees_left T names τ (variables_in a) (variables_in b) agree) (has_first T m first b'.inner has) in
              join P T r.goals (equate names r.next (the_variable r) b).goals here.goals
              (b'.equated names r.next (the_variable r) T (agrees_right T names τ (variables_in a) (variables_in b) agree) (has_second T m r.next first b'.inner (a'.next_all names m) has) (here.first ∙ e));
        }

    -- the types that an equation makes are those of its flags
    abbrev Equated : (ua ub : Unresolved) (a b : Expression) → Walked P D τ s₁ k₁ ua a p₁ all₁ → Walked P D τ s₂ k₂ ub b p₂ all₂ → Type 0
    Equated ua ub a b a' b' = Conjuncts_typed P τ (variables_in a ++ variables_in b) (λ names m. equation names m a b) (kept (makes_equation ua ub) (a'.trace ++ b'.trace))

    left_equated : (x : ℕ) (ub : Unresolved) (b : Expression) → (a' : Walked P D τ s₁ k₁ (any_variable x) (variable x) p₁ all₁) → (b' : Walked P D τ s₂ k₂ ub b p₂ all₂) → a'.type ≡ b'.type → Equated (any_variable x) ub (variable x) b a' b'
    left_equated x ub b a' b' e =
        let made : kept (makes_parts ub) (a'.trace ++ b'.trace) ≡ b'.inner = kept_both [] (makes_parts ub) a'.trace b'.trace a'.long ∙ b'.of_parts in
        subst (λ ts. Conjuncts_typed P τ (x ∷ variables_in b) (λ names m. equate names m (names x) b) ts) (sym made) (left_typed x (any_variable x) ub b a' b' e)

    right_made : (ua : Unresolved) (y : ℕ) (a b : Expression) → (a' : Walked P D τ s₁ k₁ ua a p₁ all₁) → (b' : Walked P D τ s₂ k₂ (any_variable y) b p₂ all₂) → kept (makes_parts ua) (a'.trace ++ b'.trace) ≡ a'.inner
    right_made ua y a b a' b' =
        ap (λ ts. kept (makes_parts ua) (a'.trace ++ ts)) (no_length b'.trace b'.long) ∙ ap (kept (makes_parts ua)) (append-nil a'.trace) ∙ a'.of_parts

    right_equated : (ua : Unresolved) (y : ℕ) (a : Expression) → makes_equation ua (any_variable y) ≡ makes_parts ua → IsNone a → (a' : Walked P D τ s₁ k₁ ua a p₁ all₁) → (b' : Walked P D τ s₂ k₂ (any_variable y) (variable y) p₂ all₂) → a'.type ≡ b'.type → Equated ua (any_variable y) a (variable y) a' b'
    right_equated ua y a flags none a' b' e =
        let made : kept (makes_equation ua (any_variable y)) (a'.trace ++ b'.trace) ≡ a'.inner = ap (λ bs. kept bs (a'.trace ++ b'.trace)) flags ∙ right_made ua y a (variable y) a' b' in
        let t = right_typed ua (any_variable y) a y a' b' e in
        record {
          next = λ names m. ap (λ r. r.next) (equation_right names m a y none) ∙ t.next names m ∙ ap (λ ts. m + length ts) (sym made);
          typed = λ names m T agree has. subst (λ r. AllTyped P T r.goals) (sym (equation_right names m a y none)) (t.typed names m T agree (subst (HasTypes T m) made has));
        }

    sides_equated : (ua ub : Unresolved) (a b : Expression) → makes_equation ua ub ≡ makes_term ua ++ makes_parts ub → IsNone a → IsNone b → (a' : Walked P D τ s₁ k₁ ua a p₁ all₁) → (b' : Walked P D τ s₂ k₂ ub b p₂ all₂) → a'.type ≡ b'.type → Equated ua ub a b a' b'
    sides_equated ua ub a b flags none none' a' b' e =
        let made : kept (makes_equation ua ub) (a'.trace ++ b'.trace) ≡ (a'.inner ++ a'.own) ++ b'.inner =
        ap (λ bs. kept bs (a'.trace ++ b'.trace)) flags ∙ kept_both (makes_term ua) (makes_parts ub) a'.trace b'.trace a'.long ∙ ap₂ (λ us vs. us ++ vs) a'.of_whole b'.of_parts in
        let t = sides_typed ua ub a b a' b' e in
        record {
          next = λ names m. ap (λ r. r.next) (equation_sides names m a b none none') ∙ t.next names m ∙ ap (λ ts. m + length ts) (sym made);
          typed = λ names m T agree has. subst (λ r. AllTyped P T r.goals) (sym (equation_sides names m a b none none')) (t.typed names m T agree (subst (HasTypes T m) made has));
        }

    equation_typed : (ua ub : Unresolved) (pa pb : List Candidate) → (a' : Walked P D τ s₁ k₁ ua (resolved_term ua pa).0 p₁ all₁) → (b' : Walked P D τ s₂ k₂ ub (resolved_term ub pb).0 p₂ all₂) → a'.type ≡ b'.type → Equated ua ub (resolved_term ua pa).0 (resolved_term ub pb).0 a' b'
    equation_typed (any_variable x) ub pa pb a' b' e = left_equated x ub (resolved_term ub pb).0 a' b' e
    equation_typed (any_number n) (any_variable y) pa pb a' b' e = right_equated (any_number n) y _ refl tt a' b' e
    equation_typed (any_text n) (any_variable y) pa pb a' b' e = right_equated (any_text n) y _ refl tt a' b' e
    equation_typed (any_name cs us) (any_variable y) pa pb a' b' e = right_equated (any_name cs us) y _ refl (name_is_none cs us pa) a' b' e
    equation_typed (any_number n) (any_number k) pa pb a' b' e = sides_equated (any_number n) (any_number k) _ _ refl tt tt a' b' e
    equation_typed (any_number n) (any_text k) pa pb a' b' e = sides_equated (any_number n) (any_text k) _ _ refl tt tt a' b' e
    equation_typed (any_number n) (any_name ds vs) pa pb a' b' e = sides_equated (any_number n) (any_name ds vs) _ _ refl tt (name_is_none ds vs pb) a' b' e
    equation_typed (any_text n) (any_number k) pa pb a' b' e = sides_equated (any_text n) (any_number k) _ _ refl tt tt a' b' e
    equation_typed (any_text n) (any_text k) pa pb a' b' e = sides_equated (any_text n) (any_text k) _ _ refl tt tt a' b' e
    equation_typed (any_text n) (any_name ds vs) pa pb a' b' e = sides_equated (any_text n) (any_name ds vs) _ _ refl tt (name_is_none ds vs pb) a' b' e
    equation_typed (any_name cs us) (any_number k) pa pb a' b' e = sides_equated (any_name cs us) (any_number k) _ _ refl (name_is_none cs us pa) tt a' b' e
    equation_typed (any_name cs us) (any_text k) pa pb a' b' e = sides_equated (any_name cs us) (any_text k) _ _ refl (name_is_none cs us pa) tt a' b' e
    equation_typed (any_name cs us) (any_name ds vs) pa pb a' b' e = sides_equated (any_name cs us) (any_name ds vs) _ _ refl (name_is_none cs us pa) (name_is_none ds vs pb) a' b' e

  -- what the walk of a goal leaves
  pub record Goal_walked (steps : List Step) (stack : List TypeTerm) (u : Unresolved_goal) (g : Formula) (picks : List Candidate) (all : List TypeTerm) : Type 0 where
    pub trace : List TypeTerm
    pub later : List TypeTerm
    pub splits : all ≡ trace ++ later
    pub long : length trace ≡ length (makes_goal u)
    pub known : AllKnown P D picks
    pub rest : Traces P D τ steps stack picks later
    pub conjuncts : Conjuncts_typed P τ (occurring g) (λ names m. conjuncts_of names m g) (kept (makes_goal u) trace)

  pub record Goals_walked (steps : List Step) (stack : List TypeTerm) (us : Unresolved_goals) (gs : Formulas) (picks : List Candidate) (all : List TypeTerm) : Type 0 where
    pub trace : List TypeTerm
    pub later : List TypeTerm
    pub splits : all ≡ trace ++ later
    pub long : length trace ≡ length (makes_goals us)
    pub known : AllKnown P D picks
    pub rest : Traces P D τ steps stack picks later
    pub conjuncts : Conjuncts_typed P τ (occurring_all gs) (λ names m. conjuncts_of_all names m gs) (kept (makes_goals us) trace)
    pub disjuncts : Conjuncts_typed P τ (occurring_all gs) (λ names m. disjuncts_of names m gs) (kept (makes_goals us) trace)

  call_walked : (us : Unresolved_terms) (es : Expressions) (picks ds cs : List Candidate) (steps : List Step) (stack all : List TypeTerm) → AllWalked P D τ (call cs (count us) ∷ steps) stack us es picks all → Goal_walked steps stack (atom ds us) (called es picks).0 (called es picks).1 all
  call_walked us es [] ds cs steps stack all a = absurd a.rest
  call_walked us es (C.Con s ∷ picks) ds cs steps stack all a = absurd a.rest.1
  call_walked us es (C.Func f ∷ picks) ds cs steps stack all a = absurd a.rest.1
  call_walked us es (C.Char c ∷ picks) ds cs steps stack all a = absurd a.rest.1
  call_walked us es (C.Pred p ∷ picks) ds cs steps stack all a =
      let h = a.rest in
      let n = count us in
      let takes : Takes P D (C.Pred p) a.types = subst (Takes P D (C.Pred p)) (topmost_is stack a.types n a.as_many) h.2 in
      record {
        trace = a.trace;
        later = a.later;
        splits = a.splits;
        long = a.long;
        known = a.known.1;
        rest = subst (λ s. Traces P D τ steps s picks a.later) (below_is stack a.types n a.as_many) h.3;
        conjuncts = record {
          next = λ names m. a.next names m ∙ ap (λ ts. m + length ts) (sym a.of_terms);
          typed = λ names m T agree has.
              let r = name_terms names m es in
              let z = a.typed names m T agree (subst (HasTypes T m) a.of_terms has) in
              join P T r.goals (F.Call p r.variables ∷ []) z.0 ((takes.0, z.1 ∙ sym takes.1), tt);
        };
      }

  -- A CONDITIONAL
  choice_typed :
      (vs : List ℕ) (c t e : Formula) (xt yt zt : List TypeTerm)
      → Conjuncts_typed P τ (occurring c) (λ names m. conjuncts_of names m c) xt
      → Conjuncts_typed P τ (occurring t) (λ names m. conjuncts_of names m t) yt
      → Conjuncts_typed P τ (occurring e) (λ names m. conjuncts_of names m e) zt
      → Conjuncts_typed P τ (occurring c ++ (occurring t ++ occurring e)) (λ names m. conjuncts_of names m (If vs c t e)) (xt ++ (yt ++ zt))
  choice_typed vs c t e xt yt zt x y z = record {
    next = λ names m.
        let fc = conjuncts_of names m c in
        let ft = conjuncts_of names fc.next t in
        omega (arith, x.next names m, y.next names fc.next, z.next names ft.next, length-append xt (yt ++ zt), length-append yt zt);
    typed = λ names m T agree has.
        let fc = conjuncts_of names m c in
        let ft = conjuncts_of names fc.next t in
        let fe = conjuncts_of names ft.next e in
        let oc = occurring c in
        let ot = occurring t in
        let oe = occurring e in
        let later = agrees_right T names τ oc (ot ++ oe) agree in
        let has' = has_second T m fc.next xt (yt ++ zt) (x.next names m) has in
        let hc = x.typed names m T (agrees_left T names τ oc (ot ++ oe) agree) (has_first T m xt (yt ++ zt) has) in
        let ht = y.typed names fc.next T (agrees_left T names τ ot oe later) (has_first T fc.next yt zt has') in
        let he = z.typed names ft.next T (agrees_right T names τ ot oe later) (has_second T fc.next ft.next yt zt (y.next names fc.next) has') in (
          (
            to_around P T fc.made_variables (conjunction fc.goals) (to_conjunction P T fc.goals hc),
            to_around P T ft.made_variables (conjunction ft.goals) (to_conjunction P T ft.goals ht),
            to_around P T fe.made_variables (conjunction fe.goals) (to_conjunction P T fe.goals he),
          ),
          tt,
        );
  }

  -- a disjunct, and others behind it
  disjuncts_typed :
      (g : Formula) (gs : Formulas) (xt yt : List TypeTerm)
      → Conjuncts_typed P τ (occurring g) (λ names m. conjuncts_of names m g) xt
      → Conjuncts_typed P τ (occurring_all gs) (λ names m. disjuncts_of names m gs) yt
      → Conjuncts_typed P τ (occurring g ++ occurring_all gs) (λ names m. disjuncts_of names m (formula_then g gs)) (xt ++ yt)
  disjuncts_typed g gs xt yt x y = record {
    next = λ names m. omega (arith, x.next names m, y.next names (conjuncts_of names m g).next, length-append xt yt);
    typed = λ names m T agree has.
        let f = conjuncts_of names m g in
        let here = x.typed names m T (agrees_left T names τ (occurring g) (occurring_all gs) agree) (has_first T m xt yt has) in (
          to_around P T f.made_variables (conjunction f.goals) (to_conjunction P T f.goals here),
          y.typed names f.next T (agrees_right T names τ (occurring g) (occurring_all gs) agree) (has_second T m f.next xt yt (x.next names m) has),
        );
  }

  -- the two types on the top are one
  same_types : (stack : List TypeTerm) (t u v : TypeTerm) → topmost 2 ((stack ++ t ∷ []) ++ u ∷ []) ≡ v ∷ v ∷ [] → t ≡ u
  same_types stack t u v h =
      let e : t ∷ u ∷ [] ≡ v ∷ v ∷ [] = sym (topmost_is stack (t ∷ u ∷ []) 2 refl) ∙ ap (topmost 2) (sym (append_assoc stack (t ∷ []) (u ∷ []))) ∙ h in
      ap (first_of int_type) e ∙ sym (ap (second_of int_type) e)

  -- WHAT THE WALK OF A GOAL TYPES, ITS CONJUNCTS HAVE
  mutual
    pub goal_walked : (g : Unresolved_goal) (steps : List Step) (stack : List TypeTerm) (picks : List Candidate) (all : List TypeTerm) → GoalHasValues P g → AllKnown P D picks → Traces P D τ (goal_steps g ++ steps) stack picks all → Goal_walked steps stack g (resolved_goal g picks).0 (resolved_goal g picks).1 all
    goal_walked (R.equation a b) steps stack picks all values known w =
        let ra = resolved_term a picks in
        let rb = resolved_term b ra.1 in
        let end = R.equate ∷ [] in
        let w' : Traces P D τ (term_steps a ++ (term_steps b ++ (R.equate ∷ steps))) stack picks all =
        subst (λ s. Traces P D τ s stack picks all)
        (append_assoc (term_steps a) (term_steps b ++ end) steps ∙ ap (λ s. term_steps a ++ s) (append_assoc (term_steps b) end steps)) w in
        let s₁ = term_steps b ++ (R.equate ∷ steps) in
        let x = term_walked P D τ a s₁ stack picks all values.0 known w' in
        let k = stack ++ x.type ∷ [] in
        let y = term_walked P D τ b (R.equate ∷ steps) k ra.1 x.later values.1 x.known x.rest in
        let e = same_types stack x.type y.type y.rest.0 y.rest.1 in
        let two = x.type ∷ y.type ∷ [] in
        record {
          trace = x.trace ++ y.trace;
          later = y.later;
          splits = both_split all x.trace x.later y.trace y.later x.splits y.splits;
          long = long_both (makes_term a) (makes_term b) x.trace y.trace x.long y.long ∙ equation_long a b;
          known = y.known;
          rest = subst (λ s. Traces P D τ steps s rb.1 y.later) (ap (below 2) (append_assoc stack (x.type ∷ []) (y.type ∷ [])) ∙ below_is stack two 2 refl) y.rest.2;
          conjuncts = equation_typed s₁ (R.equate ∷ steps) stack k ra.1 rb.1 all x.later a b picks ra.1 x y e;
        }
    goal_walked (atom cs args) steps stack picks all values known w =
        let r = resolved_terms args picks in
        let w' : Traces P D τ (terms_steps args ++ (call cs (count args) ∷ steps)) stack picks all = subst (λ s. Traces P D τ s stack picks all) (append_assoc (terms_steps args) (call cs (count args) ∷ []) steps) w in
        call_walked args r.0 r.1 cs cs steps stack all (terms_walked P D τ args (call cs (count args) ∷ steps) stack picks all values known w')
    goal_walked (all_of gs) steps stack picks all values known w =
        let a = goals_walked gs steps stack picks all values known w in
        record { trace = a.trace; later = a.later; splits = a.splits; long = a.long; known = a.known; rest = a.rest; conjuncts = a.conjuncts }
    goal_walked (one_of gs) steps stack picks all values known w =
        let a = goals_walked gs steps stack picks all values known w in
        let fs = (resolved_goals gs picks).0 in
        let d = a.disjuncts in
        record {
          trace = a.trace;
          later = a.later;
          splits = a.splits;
          long = a.long;
          known = a.known;
          rest = a.rest;
          conjuncts = record {
            next = d.next;
            typed = λ names m T agree has. (to_disjunction P T (disjuncts_of names m fs).goals (d.typed names m T agree has), tt);
          };
        }
    goal_walked (choice vs c t e) steps stack picks all values known w =
        let rc = resolved_goal c picks in
        let rt = resolved_goal t rc.1 in
        let re = resolved_goal e rt.1 in
        let w' : Traces P D τ (goal_steps c ++ (goal_steps t ++ (goal_steps e ++ steps))) stack picks all =
        subst (λ s. Traces P D τ s stack picks all)
        (append_assoc (goal_steps c) (goal_steps t ++ goal_steps e) steps ∙ ap (λ s. goal_steps c ++ s) (append_assoc (goal_steps t) (goal_steps e) steps)) w in
        let x = goal_walked c (goal_steps t ++ (goal_steps e ++ steps)) stack picks all values.0 known w' in
        let y = goal_walked t (goal_steps e ++ steps) stack rc.1 x.later values.1 x.known x.rest in
        let z = goal_walked e steps stack rt.1 y.later values.2 y.known y.rest in
        let bc = makes_goal c in
        let bt = makes_goal t in
        let be = makes_goal e in
        let xt = kept bc x.trace in
        let yt = kept bt y.trace in
        let zt = kept be z.trace in
        let parts : kept (bc ++ (bt ++ be)) (x.trace ++ (y.trace ++ z.trace)) ≡ xt ++ (yt ++ zt) =
        kept_both bc (bt ++ be) x.trace (y.trace ++ z.trace) x.long ∙ ap (λ us. xt ++ us) (kept_both bt be y.trace z.trace y.long) in
        record {
          trace = x.trace ++ (y.trace ++ z.trace);
          later = z.later;
          splits = both_split all x.trace x.later (y.trace ++ z.trace) z.later x.splits (both_split x.later y.trace y.later z.trace z.later y.splits z.splits);
          long = long_both bc (bt ++ be) x.trace (y.trace ++ z.trace) x.long (long_both bt be y.trace z.trace y.long z.long);
          known = z.known;
          rest = z.rest;
          conjuncts =
              subst (λ ts. Conjuncts_typed P τ (occurring rc.0 ++ (occurring rt.0 ++ occurring re.0)) (λ names m. conjuncts_of names m (If vs rc.0 rt.0 re.0)) ts) (sym parts)
              (choice_typed vs rc.0 rt.0 re.0 xt yt zt x.conjuncts y.conjuncts z.conjuncts);
        }
    goal_walked (negation g) steps stack picks all values known w =
        let x = goal_walked g steps stack picks all values known w in
        let f = (resolved_goal g picks).0 in
        record {
          trace = x.trace;
          later = x.later;
          splits = x.splits;
          long = x.long;
          known = x.known;
          rest = x.rest;
          conjuncts = record {
            next = x.conjuncts.next;
            typed = λ names m T agree has.
                let r = conjuncts_of names m f in
                (to_around P T r.made_variables (conjunction r.goals) (to_conjunction P T r.goals (x.conjuncts.typed names m T agree has)), tt);
          };
        }
    goal_walked (exists vs g) steps stack picks all values known w =
        let x = goal_walked g steps stack picks all values known w in
        let f = (resolved_goal g picks).0 in
        record {
          trace = x.trace;
          later = x.later;
          splits = x.splits;
          long = x.long;
          known = x.known;
          rest = x.rest;
          conjuncts = record {
            next = x.conjuncts.next;
            typed = λ names m T agree has. (to_conjunction P T (conjuncts_of names m f).goals (x.conjuncts.typed names m T agree has), tt);
          };
        }

    pub goals_walked : (gs : Unresolved_goals) (steps : List Step) (stack : List TypeTerm) (picks : List Candidate) (all : List TypeTerm) → GoalsHaveValues P gs → AllKnown P D picks → Traces P D τ (goals_steps gs ++ steps) stack picks all → Goals_walked steps stack gs (resolved_goals gs picks).0 (resolved_goals gs picks).1 all
    goals_walked no_goals steps stack picks all values known w =
        let none : (cs : (ℕ → ℕ) → ℕ → Conjuncts) → ((names : ℕ → ℕ) (m : ℕ) → cs names m ≡ record { goals = []; made_variables = []; next = m }) → Conjuncts_typed P τ [] cs [] =
        λ cs is.
        record {
          next = λ names m. ap (λ r. r.next) (is names m) ∙ omega arith;
          typed = λ names m T agree has. subst (λ r. AllTyped P T r.goals) (sym (is names m)) tt;
        } in
        record {
          trace = [];
          later = all;
          splits = refl;
          long = refl;
          known = known;
          rest = w;
          conjuncts = none (λ names m. conjuncts_of_all names m no_formulas) (λ names m. refl);
          disjuncts = none (λ names m. disjuncts_of names m no_formulas) (λ names m. refl);
        }
    goals_walked (goal_then g gs) steps stack picks all values known w =
        let r = resolved_goal g picks in
        let rs = resolved_goals gs r.1 in
        let w' : Traces P D τ (goal_steps g ++ (goals_steps gs ++ steps)) stack picks all = subst (λ s. Traces P D τ s stack picks all) (append_assoc (goal_steps g) (goals_steps gs) steps) w in
        let x = goal_walked g (goals_steps gs ++ steps) stack picks all values.0 known w' in
        let y = goals_walked gs steps stack r.1 x.later values.1 x.known x.rest in
        let xt = kept (makes_goal g) x.trace in
        let yt = kept (makes_goals gs) y.trace in
        let parts : kept (makes_goal g ++ makes_goals gs) (x.trace ++ y.trace) ≡ xt ++ yt = kept_both (makes_goal g) (makes_goals gs) x.trace y.trace x.long in
        record {
          trace = x.trace ++ y.trace;
          later = y.later;
          splits = both_split all x.trace x.later y.trace y.later x.splits y.splits;
          long = long_both (makes_goal g) (makes_goals gs) x.trace y.trace x.long y.long;
          known = y.known;
          rest = y.rest;
          conjuncts =
              subst (λ ts. Conjuncts_typed P τ (occurring r.0 ++ occurring_all rs.0) (λ names m. conjuncts_of_all names m (formula_then r.0 rs.0)) ts) (sym parts)
              (both_typed (occurring r.0) (occurring_all rs.0) (λ names m. conjuncts_of names m r.0) (λ names m. conjuncts_of_all names m rs.0) xt yt x.conjuncts y.conjuncts);
          disjuncts =
              subst (λ ts. Conjuncts_typed P τ (occurring r.0 ++ occurring_all rs.0) (λ names m. disjuncts_of names m (formula_then r.0 rs.0)) ts) (sym parts)
              (disjuncts_typed r.0 rs.0 xt yt x.conjuncts y.disjuncts);
        }
