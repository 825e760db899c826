-- What typings of the conjuncts of goals say of the walk of these.
use Rattle.std.proofs.Common.{◌≡◌, ℕ, ◌+◌, List, [], ◌∷◌, ◌++◌, map, length, Bool, refl, sym, ap, ◌∙◌, subst, arith, append_assoc, append-nil, length-append}
use Rattle.std.proofs.lemmas.List.{length-map}
use Rattle.mc_program.specs.Programs.{TypeTerm, Source, Expression, variable, Expressions, Formula, Or, If, Not, Exists, Formulas, no_formulas, formula_then}
use Rattle.mc_model.specs.Flat as F
use Rattle.mc_accepted.specs.ProperTypes.{Parameters, ProperType}
use Rattle.mc_accepted.specs.Normal.{Conjuncts, before, the_variable, name_term, name_terms, equate, equation, conjunction, conjuncts_of, conjuncts_of_all, disjuncts_of}
use Rattle.mc_accepted.specs.Resolving as R
use Rattle.mc_accepted.specs.Resolving.{Unresolved, any_variable, any_number, any_text, any_name, Unresolved_terms, count, called, resolved_term, resolved_terms, resolved_goal, resolved_goals, Unresolved_goal, atom, all_of, one_of, choice, negation, exists, Unresolved_goals, no_goals, goal_then, Step, call, term_steps, terms_steps, goal_steps, goals_steps, topmost, below, Takes}
use Rattle.mc_source.specs.declared.name.Candidate.{Candidate}
use Rattle.mc_source.specs.declared.name.Candidate.TheVariants as C
use Rattle.laws_made_types.specs.Known.{AllKnown, Picked}
use Rattle.laws_made_types.specs.Makes.{makes_term, makes_parts, makes_equation, makes_goal, makes_goals, kept}
use Rattle.laws_made_types.specs.Traced.{Traces, HasTypes}
use Rattle.laws_made_types.proofs.Keeping.{kept_both, long_both}
use Rattle.laws_made_types.proofs.FlatTypings.{has_both, topmost_is, below_is, AllTyped, join, split, from_conjunction, from_disjunction, from_around}
use Rattle.laws_made_types.proofs.TracedGoals.{IsNone, name_is_none, sides, equation_right, equation_sides, parts_long}
use Rattle.laws_made_types.proofs.TypedTerms.{own, Term_walks, Terms_walk, term_walks, terms_walk}

module _ (P : Source) (D : Parameters) (T : ℕ → TypeTerm) (proper : (v : ℕ) → ProperType D (T v)) (names : ℕ → ℕ) where
  abbrev τ : ℕ → TypeTerm
  τ = own P D T proper names

  abbrev Term : (all steps : List Step) (picks : List Candidate) (u : Unresolved) (e : Expression) (left : List Candidate) → Type 0
  Term all steps picks u e left = Term_walks P D T proper names all steps picks u e left

  -- The types of the occurrences in conjuncts whose variables are numbered from m: those of the variables that are made
  -- are kept by the flags. Where the conjuncts are typed, the walk goes on behind them.
  pub record Walks_on (all steps : List Step) (picks left : List Candidate) (flags : List Bool) (cs : ℕ → Conjuncts) : Type 0 where
    pub trace : ℕ → List TypeTerm
    pub long : (m : ℕ) → length (trace m) ≡ length flags
    pub next : (m : ℕ) → (cs m).next ≡ m + length (kept flags (trace m))
    pub has : (m : ℕ) → HasTypes T m (kept flags (trace m))
    pub typed : (m : ℕ) (stack more : List TypeTerm) → AllTyped P T (cs m).goals → Traces P D τ steps stack left more → Traces P D τ all stack picks (trace m ++ more)

  pub record Goal_walks (all steps : List Step) (picks : List Candidate) (u : Unresolved_goal) (g : Formula) (left : List Candidate) : Type 0 where
    pub picked : Picked steps left
    pub known : AllKnown P D left
    pub conjuncts : Walks_on all steps picks left (makes_goal u) (λ m. conjuncts_of names m g)

  pub record Goals_walk (all steps : List Step) (picks : List Candidate) (us : Unresolved_goals) (gs : Formulas) (left : List Candidate) : Type 0 where
    pub picked : Picked steps left
    pub known : AllKnown P D left
    pub conjuncts : Walks_on all steps picks left (makes_goals us) (λ m. conjuncts_of_all names m gs)
    pub disjuncts : Walks_on all steps picks left (makes_goals us) (λ m. disjuncts_of names m gs)

  -- the same for steps and conjuncts that are these
  same_walks : (all all' steps : List Step) (picks left : List Candidate) (flags : List Bool) (cs : ℕ → Conjuncts) → all' ≡ all → Walks_on all steps picks left flags cs → Walks_on all' steps picks left flags cs
  same_walks all all' steps picks left flags cs e a = subst (λ s. Walks_on s steps picks left flags cs) (sym e) a

  -- conjuncts before others, where the typing of the whole gives that of both
  both_walk :
      (all middle steps : List Step) (picks left_a left : List Candidate) (bs cs : List Bool) (f g h : ℕ → Conjuncts)
      → Walks_on all middle picks left_a bs f
      → Walks_on middle steps left_a left cs g
      → ((m : ℕ) → (h m).next ≡ (g (f m).next).next)
      → ((m : ℕ) → AllTyped P T (h m).goals → AllTyped P T (f m).goals × AllTyped P T (g (f m).next).goals) → Walks_on all steps picks left (bs ++ cs) h
  both_walk all middle steps picks left_a left bs cs f g h a b next parts =
      let first : ℕ → List TypeTerm = a.trace in
      let second : ℕ → List TypeTerm = λ m. b.trace (f m).next in
      let all_kept : (m : ℕ) → kept (bs ++ cs) (first m ++ second m) ≡ kept bs (first m) ++ kept cs (second m) = λ m. kept_both bs cs (first m) (second m) (a.long m) in
      record {
        trace = λ m. first m ++ second m;
        long = λ m. long_both bs cs (first m) (second m) (a.long m) (b.long (f m).next);
        next = λ m. omega (arith, next m, a.next m, b.next (f m).next, ap length (all_kept m), length-append (kept bs (first m)) (kept cs (second m)));
        has = λ m. subst (HasTypes T m) (sym (all_kept m)) (has_both T m (f m).next (kept bs (first m)) (kept cs (second m)) (a.next m) (a.has m) (b.has (f m).next));
        typed = λ m stack more y w.
            let z = parts m y in
            subst (λ us. Traces P D τ all stack picks us) (sym (append_assoc (first m) (second m) more))
            (a.typed m stack (second m ++ more) z.0 (b.typed (f m).next stack more z.1 w));
      }

  -- conjuncts that stand for others with the same variables
  stand_for :
      (all steps : List Step) (picks left : List Candidate) (bs : List Bool) (f g : ℕ → Conjuncts)
      → Walks_on all steps picks left bs f
      → ((m : ℕ) → (g m).next ≡ (f m).next) → ((m : ℕ) → AllTyped P T (g m).goals → AllTyped P T (f m).goals) → Walks_on all steps picks left bs g
  stand_for all steps picks left bs f g a next typed = record {
    trace = a.trace;
    long = a.long;
    next = λ m. next m ∙ a.next m;
    has = a.has;
    typed = λ m stack more y w. a.typed m stack more (typed m y) w;
  }

  -- AN EQUATION
  module _ (all middle steps : List Step) (picks left_a left : List Candidate) where
    -- two types on the top that are one
    closes : (stack : List TypeTerm) (t : TypeTerm) (more : List TypeTerm) → Traces P D τ steps stack left more → Traces P D τ (R.equate ∷ steps) ((stack ++ t ∷ []) ++ t ∷ []) left more
    closes stack t more w =
        let two = t ∷ t ∷ [] in
        let same = append_assoc stack (t ∷ []) (t ∷ []) in
        (t, ap (topmost 2) same ∙ topmost_is stack two 2 refl, subst (λ s. Traces P D τ steps s left more) (sym (ap (below 2) same ∙ below_is stack two 2 refl)) w)

    abbrev First : Unresolved → Expression → Type 0
    First u a = Term all middle picks u a left_a

    abbrev Second : Unresolved → Expression → Type 0
    Second u b = Term middle (R.equate ∷ steps) left_a u b left

    -- the types of an equation's two sides
    joined : (ts us more : List TypeTerm) (stack : List TypeTerm) → Traces P D τ all stack picks (ts ++ (us ++ more)) → Traces P D τ all stack picks ((ts ++ us) ++ more)
    joined ts us more stack w = subst (λ vs. Traces P D τ all stack picks vs) (sym (append_assoc ts us more)) w

    left_walks : (x : ℕ) (ub : Unresolved) (b : Expression) → First (any_variable x) (variable x) → Second ub b → Walks_on all steps picks left (makes_parts ub) (λ m. equate names m (names x) b)
    left_walks x ub b a' b' =
        let first : ℕ → List TypeTerm = λ m. a'.trace m (T (names x)) in
        let second : ℕ → List TypeTerm = λ m. b'.trace m (T (names x)) in
        let kept_is : (m : ℕ) → kept (makes_parts ub) (first m ++ second m) ≡ kept (makes_parts ub) (second m) = λ m. kept_both [] (makes_parts ub) (first m) (second m) (a'.long m (T (names x))) in
        record {
          trace = λ m. first m ++ second m;
          long = λ m. omega (arith, a'.long m (T (names x)), b'.long m (T (names x)), parts_long ub, length-append (first m) (second m));
          next = λ m. b'.parts_next m (names x) (T (names x)) ∙ ap (λ ts. m + length ts) (sym (kept_is m));
          has = λ m. subst (HasTypes T m) (sym (kept_is m)) (b'.parts_have m (T (names x)));
          typed = λ m stack more y w.
              joined (first m) (second m) more stack
              (a'.as_named m stack (second m ++ more) tt (b'.equated m (names x) (stack ++ T (names x) ∷ []) more y (closes stack (T (names x)) more w)));
        }

    right_walks : (ua : Unresolved) (a : Expression) (x : ℕ) → First ua a → Second (any_variable x) (variable x) → Walks_on all steps picks left (makes_parts ua) (λ m. equate names m (names x) a)
    right_walks ua a x a' b' =
        let first : ℕ → List TypeTerm = λ m. a'.trace m (T (names x)) in
        let second : ℕ → List TypeTerm = λ m. b'.trace m (T (names x)) in
        let long : (m : ℕ) → length (first m) ≡ length (makes_parts ua) = λ m. a'.long m (T (names x)) ∙ sym (parts_long ua) in
        let kept_is : (m : ℕ) → kept (makes_parts ua) (first m ++ second m) ≡ kept (makes_parts ua) (first m) =
        λ m.
        ap (λ bs. kept bs (first m ++ second m)) (sym (append-nil (makes_parts ua)))
        ∙ kept_both (makes_parts ua) [] (first m) (second m) (long m) ∙ append-nil (kept (makes_parts ua) (first m)) in
        record {
          trace = λ m. first m ++ second m;
          long = λ m. omega (arith, long m, b'.long m (T (names x)), length-append (first m) (second m));
          next = λ m. a'.parts_next m (names x) (T (names x)) ∙ ap (λ ts. m + length ts) (sym (kept_is m));
          has = λ m. subst (HasTypes T m) (sym (kept_is m)) (a'.parts_have m (T (names x)));
          typed = λ m stack more y w.
              joined (first m) (second m) more stack
              (a'.equated m (names x) stack (second m ++ more) y (b'.as_named m (stack ++ T (names x) ∷ []) more tt (closes stack (T (names x)) more w)));
        }

    sides_walk : (ua ub : Unresolved) (a b : Expression) → First ua a → Second ub b → Walks_on all steps picks left (makes_term ua ++ makes_parts ub) (λ m. sides names m a b)
    sides_walk ua ub a b a' b' =
        let top : ℕ → ℕ = λ m. the_variable (name_term names m a) in
        let after : ℕ → ℕ = λ m. (name_term names m a).next in
        let first : ℕ → List TypeTerm = λ m. a'.trace m (T (top m)) in
        let second : ℕ → List TypeTerm = λ m. b'.trace (after m) (T (top m)) in
        let long_a : (m : ℕ) → length (first m) ≡ length (makes_term ua) = λ m. a'.long m (T (top m)) in
        let long_b : (m : ℕ) → length (second m) ≡ length (makes_parts ub) = λ m. b'.long (after m) (T (top m)) ∙ sym (parts_long ub) in
        let kept_is : (m : ℕ) → kept (makes_term ua ++ makes_parts ub) (first m ++ second m) ≡ kept (makes_term ua) (first m) ++ kept (makes_parts ub) (second m) =
        λ m. kept_both (makes_term ua) (makes_parts ub) (first m) (second m) (long_a m) in
        record {
          trace = λ m. first m ++ second m;
          long = λ m. long_both (makes_term ua) (makes_parts ub) (first m) (second m) (long_a m) (long_b m);
          next = λ m.
              omega (
                arith,
                a'.whole_next m (T (top m)),
                b'.parts_next (after m) (top m) (T (top m)),
                ap length (kept_is m),
                length-append (kept (makes_term ua) (first m)) (kept (makes_parts ub) (second m)),
              );
          has = λ m.
              subst (HasTypes T m) (sym (kept_is m))
              (has_both T m (after m) (kept (makes_term ua) (first m)) (kept (makes_parts ub) (second m)) (a'.whole_next m (T (top m))) (a'.whole_has m) (b'.parts_have (after m) (T (top m))));
          typed = λ m stack more y w.
              let r = name_term names m a in
              let x = the_variable r in
              let z = split P T r.goals (equate names r.next x b).goals y in
              joined (first m) (second m) more stack
              (a'.as_named m stack (second m ++ more) z.0 (b'.equated r.next x (stack ++ T x ∷ []) more z.1 (closes stack (T x) more w)));
        }

    abbrev Equated : (ua ub : Unresolved) (a b : Expression) → Type 0
    Equated ua ub a b = Walks_on all steps picks left (makes_equation ua ub) (λ m. equation names m a b)

    right_equated : (ua : Unresolved) (y : ℕ) (a : Expression) → makes_equation ua (any_variable y) ≡ makes_parts ua → IsNone a → First ua a → Second (any_variable y) (variable y) → Equated ua (any_variable y) a (variable y)
    right_equated ua y a flags none a' b' =
        stand_for all steps picks left (makes_equation ua (any_variable y)) (λ m. equate names m (names y) a) (λ m. equation names m a (variable y))
        (subst (λ bs. Walks_on all steps picks left bs (λ m. equate names m (names y) a)) (sym flags) (right_walks ua a y a' b'))
        (λ m. ap (λ r. r.next) (equation_right names m a y none))
        (λ m h. subst (λ r. AllTyped P T r.goals) (equation_right names m a y none) h)

    sides_equated : (ua ub : Unresolved) (a b : Expression) → makes_equation ua ub ≡ makes_term ua ++ makes_parts ub → IsNone a → IsNone b → First ua a → Second ub b → Equated ua ub a b
    sides_equated ua ub a b flags none none' a' b' =
        stand_for all steps picks left (makes_equation ua ub) (λ m. sides names m a b) (λ m. equation names m a b)
        (subst (λ bs. Walks_on all steps picks left bs (λ m. sides names m a b)) (sym flags) (sides_walk ua ub a b a' b'))
        (λ m. ap (λ r. r.next) (equation_sides names m a b none none'))
        (λ m h. subst (λ r. AllTyped P T r.goals) (equation_sides names m a b none none') h)

    equation_walks : (ua ub : Unresolved) (pa pb : List Candidate) → First ua (resolved_term ua pa).0 → Second ub (resolved_term ub pb).0 → Equated ua ub (resolved_term ua pa).0 (resolved_term ub pb).0
    equation_walks (any_variable x) ub pa pb a' b' = left_walks x ub (resolved_term ub pb).0 a' b'
    equation_walks (any_number n) (any_variable y) pa pb a' b' = right_equated (any_number n) y _ refl tt a' b'
    equation_walks (any_text n) (any_variable y) pa pb a' b' = right_equated (any_text n) y _ refl tt a' b'
    equation_walks (any_name cs us) (any_variable y) pa pb a' b' = right_equated (any_name cs us) y _ refl (name_is_none cs us pa) a' b'
    equation_walks (any_number n) (any_number k) pa pb a' b' = sides_equated (any_number n) (any_number k) _ _ refl tt tt a' b'
    equation_walks (any_number n) (any_text k) pa pb a' b' = sides_equated (any_number n) (any_text k) _ _ refl tt tt a' b'
    equation_walks (any_number n) (any_name ds vs) pa pb a' b' = sides_equated (any_number n) (any_name ds vs) _ _ refl tt (name_is_none ds vs pb) a' b'
    equation_walks (any_text n) (any_number k) pa pb a' b' = sides_equated (any_text n) (any_number k) _ _ refl tt tt a' b'
    equation_walks (any_text n) (any_text k) pa pb a' b' = sides_equated (any_text n) (any_text k) _ _ refl tt tt a' b'
    equation_walks (any_text n) (any_name ds vs) pa pb a' b' = sides_equated (any_text n) (any_name ds vs) _ _ refl tt (name_is_none ds vs pb) a' b'
    equation_walks (any_name cs us) (any_number k) pa pb a' b' = sides_equated (any_name cs us) (any_number k) _ _ refl (name_is_none cs us pa) tt a' b'
    equation_walks (any_name cs us) (any_text k) pa pb a' b' = sides_equated (any_name cs us) (any_text k) _ _ refl (name_is_none cs us pa) tt a' b'
    equation_walks (any_name cs us) (any_name ds vs) pa pb a' b' = sides_equated (any_name cs us) (any_name ds vs) _ _ refl (name_is_none cs us pa) (name_is_none ds vs pb) a' b'

  call_walks : (us : Unresolved_terms) (es : Expressions) (left ds cs : List Candidate) (all steps : List Step) (picks : List Candidate) → Terms_walk P D T proper names all (call cs (count us) ∷ steps) picks us es left → Goal_walks all steps picks (atom ds us) (called es left).0 (called es left).1
  call_walks us es [] ds cs all steps picks a = absurd a.picked
  call_walks us es (C.Con s ∷ left) ds cs all steps picks a = absurd a.picked.1
  call_walks us es (C.Func f ∷ left) ds cs all steps picks a = absurd a.picked.1
  call_walks us es (C.Char c ∷ left) ds cs all steps picks a = absurd a.picked.1
  call_walks us es (C.Pred p ∷ left) ds cs all steps picks a =
      record {
        picked = a.picked.2;
        known = a.known.1;
        conjuncts = record {
          trace = a.trace;
          long = a.long;
          next = a.next;
          has = a.has;
          typed = λ m stack more y w.
              let n = count us in
              let r = name_terms names m es in
              let ts = map T r.variables in
              let long : length ts ≡ n = length-map r.variables T ∙ a.as_many m in
              let z = split P T r.goals (F.Call p r.variables ∷ []) y in
              let takes : Takes P D (C.Pred p) (topmost n (stack ++ ts)) = (z.1.0.0, sym z.1.0.1 ∙ sym (topmost_is stack ts n long)) in
              a.typed m stack more z.0 (a.picked.0, tt, takes, subst (λ s. Traces P D τ steps s left more) (sym (below_is stack ts n long)) w);
        };
      }

  -- no goals make no variables
  none_walk : (steps : List Step) (picks : List Candidate) (cs : ℕ → Conjuncts) → ((m : ℕ) → (cs m).next ≡ m) → Walks_on steps steps picks picks [] cs
  none_walk steps picks cs next = record {
    trace = λ m. [];
    long = λ m. refl;
    next = λ m. omega (arith, next m);
    has = λ m. tt;
    typed = λ m stack more y w. w;
  }

  -- WHAT THE CONJUNCTS OF A GOAL HAVE, ITS WALK TYPES
  mutual
    pub goal_walks : (g : Unresolved_goal) (steps : List Step) (picks : List Candidate) → Picked (goal_steps g ++ steps) picks → AllKnown P D picks → Goal_walks (goal_steps g ++ steps) steps picks g (resolved_goal g picks).0 (resolved_goal g picks).1
    goal_walks (R.equation a b) steps picks picked known =
        let ra = resolved_term a picks in
        let rb = resolved_term b ra.1 in
        let end = R.equate ∷ [] in
        let later = term_steps b ++ (R.equate ∷ steps) in
        let same : (term_steps a ++ (term_steps b ++ end)) ++ steps ≡ term_steps a ++ later =
        append_assoc (term_steps a) (term_steps b ++ end) steps ∙ ap (λ s. term_steps a ++ s) (append_assoc (term_steps b) end steps) in
        let x = term_walks P D T proper names a later picks (subst (λ s. Picked s picks) same picked) known in
        let y = term_walks P D T proper names b (R.equate ∷ steps) ra.1 x.picked x.known in
        record {
          picked = y.picked;
          known = y.known;
          conjuncts =
              same_walks (term_steps a ++ later) ((term_steps a ++ (term_steps b ++ end)) ++ steps) steps picks rb.1 (makes_equation a b) (λ m. equation names m ra.0 rb.0) same
              (equation_walks (term_steps a ++ later) later steps picks ra.1 rb.1 a b picks ra.1 x y);
        }
    goal_walks (atom cs args) steps picks picked known =
        let r = resolved_terms args picks in
        let later = call cs (count args) ∷ steps in
        let same : (terms_steps args ++ call cs (count args) ∷ []) ++ steps ≡ terms_steps args ++ later = append_assoc (terms_steps args) (call cs (count args) ∷ []) steps in
        subst (λ s. Goal_walks s steps picks (atom cs args) (called r.0 r.1).0 (called r.0 r.1).1) (sym same)
        (call_walks args r.0 r.1 cs cs (terms_steps args ++ later) steps picks (terms_walk P D T proper names args later picks (subst (λ s. Picked s picks) same picked) known))
    goal_walks (all_of gs) steps picks picked known =
        let a = goals_walk gs steps picks picked known in
        record { picked = a.picked; known = a.known; conjuncts = a.conjuncts }
    goal_walks (one_of gs) steps picks picked known =
        let a = goals_walk gs steps picks picked known in
        let fs = (resolved_goals gs picks).0 in
        record {
          picked = a.picked;
          known = a.known;
          conjuncts =
              stand_for (goals_steps gs ++ steps) steps picks (resolved_goals gs picks).1 (makes_goals gs) (λ m. disjuncts_of names m fs) (λ m. conjuncts_of names m (Or fs)) a.disjuncts
              (λ m. refl) (λ m h. from_disjunction P T (disjuncts_of names m fs).goals h.0);
        }
    goal_walks (choice vs c t e) steps picks picked known =
        let rc = resolved_goal c picks in
        let rt = resolved_goal t rc.1 in
        let re = resolved_goal e rt.1 in
        let later = goal_steps t ++ (goal_steps e ++ steps) in
        let same : (goal_steps c ++ (goal_steps t ++ goal_steps e)) ++ steps ≡ goal_steps c ++ later =
        append_assoc (goal_steps c) (goal_steps t ++ goal_steps e) steps ∙ ap (λ s. goal_steps c ++ s) (append_assoc (goal_steps t) (goal_steps e) steps) in
        let x = goal_walks c later picks (subst (λ s. Picked s picks) same picked) known in
        let y = goal_walks t (goal_steps e ++ steps) rc.1 x.picked x.known in
        let z = goal_walks e steps rt.1 y.picked y.known in
        let fc : ℕ → Conjuncts = λ m. conjuncts_of names m rc.0 in
        let ft : ℕ → Conjuncts = λ m. conjuncts_of names m rt.0 in
        let fe : ℕ → Conjuncts = λ m. conjuncts_of names m re.0 in
        let two : ℕ → Conjuncts = λ m. before (ft m).goals (ft m).made_variables (fe (ft m).next) in
        let whole : ℕ → Conjuncts = λ m. conjuncts_of names m (If vs rc.0 rt.0 re.0) in
        let yz =
        both_walk later (goal_steps e ++ steps) steps rc.1 rt.1 re.1 (makes_goal t) (makes_goal e) ft fe two y.conjuncts z.conjuncts (λ m. refl) (λ m h. split P T (ft m).goals (fe (ft m).next).goals h) in
        let parts : (m : ℕ) → AllTyped P T (whole m).goals → AllTyped P T (fc m).goals × AllTyped P T (two (fc m).next).goals =
        λ m h.
        let r = fc m in
        let s = ft r.next in
        let u = fe s.next in
        let hc = from_conjunction P T r.goals (from_around P T r.made_variables (conjunction r.goals) h.0.0) in
        let ht = from_conjunction P T s.goals (from_around P T s.made_variables (conjunction s.goals) h.0.1) in
        let he = from_conjunction P T u.goals (from_around P T u.made_variables (conjunction u.goals) h.0.2) in
        (hc, join P T s.goals u.goals ht he) in
        record {
          picked = z.picked;
          known = z.known;
          conjuncts =
              same_walks (goal_steps c ++ later) ((goal_steps c ++ (goal_steps t ++ goal_steps e)) ++ steps) steps picks re.1 (makes_goal c ++ (makes_goal t ++ makes_goal e)) whole same
              (both_walk (goal_steps c ++ later) later steps picks rc.1 re.1 (makes_goal c) (makes_goal t ++ makes_goal e) fc two whole x.conjuncts yz (λ m. refl) parts);
        }
    goal_walks (negation g) steps picks picked known =
        let x = goal_walks g steps picks picked known in
        let f = (resolved_goal g picks).0 in
        record {
          picked = x.picked;
          known = x.known;
          conjuncts =
              stand_for (goal_steps g ++ steps) steps picks (resolved_goal g picks).1 (makes_goal g) (λ m. conjuncts_of names m f) (λ m. conjuncts_of names m (Not f)) x.conjuncts (λ m. refl)
              (λ m h. let r = conjuncts_of names m f in from_conjunction P T r.goals (from_around P T r.made_variables (conjunction r.goals) h.0));
        }
    goal_walks (exists vs g) steps picks picked known =
        let x = goal_walks g steps picks picked known in
        let f = (resolved_goal g picks).0 in
        record {
          picked = x.picked;
          known = x.known;
          conjuncts =
              stand_for (goal_steps g ++ steps) steps picks (resolved_goal g picks).1 (makes_goal g) (λ m. conjuncts_of names m f) (λ m. conjuncts_of names m (Exists vs f)) x.conjuncts (λ m. refl)
              (λ m h. from_conjunction P T (conjuncts_of names m f).goals h.0);
        }

    pub goals_walk : (gs : Unresolved_goals) (steps : List Step) (picks : List Candidate) → Picked (goals_steps gs ++ steps) picks → AllKnown P D picks → Goals_walk (goals_steps gs ++ steps) steps picks gs (resolved_goals gs picks).0 (resolved_goals gs picks).1
    goals_walk no_goals steps picks picked known =
        record {
          picked = picked;
          known = known;
          conjuncts = none_walk steps picks (λ m. conjuncts_of_all names m no_formulas) (λ m. refl);
          disjuncts = none_walk steps picks (λ m. disjuncts_of names m no_formulas) (λ m. refl);
        }
    goals_walk (goal_then g gs) steps picks picked known =
        let r = resolved_goal g picks in
        let rs = resolved_goals gs r.1 in
        let later = goals_steps gs ++ steps in
        let same : (goal_steps g ++ goals_steps gs) ++ steps ≡ goal_steps g ++ later = append_assoc (goal_steps g) (goals_steps gs) steps in
        let x = goal_walks g later picks (subst (λ s. Picked s picks) same picked) known in
        let y = goals_walk gs steps r.1 x.picked x.known in
        let here : ℕ → Conjuncts = λ m. conjuncts_of names m r.0 in
        let flags = makes_goal g ++ makes_goals gs in
        let all : List Step = (goal_steps g ++ goals_steps gs) ++ steps in
        record {
          picked = y.picked;
          known = y.known;
          conjuncts =
              same_walks (goal_steps g ++ later) all steps picks rs.1 flags (λ m. conjuncts_of_all names m (formula_then r.0 rs.0)) same
              (both_walk (goal_steps g ++ later) later steps picks r.1 rs.1 (makes_goal g) (makes_goals gs) here (λ m. conjuncts_of_all names m rs.0) (λ m. conjuncts_of_all names m (formula_then r.0 rs.0)) x.conjuncts y.conjuncts (λ m. refl)
              (λ m h. split P T (here m).goals (conjuncts_of_all names (here m).next rs.0).goals h));
          disjuncts =
              same_walks (goal_steps g ++ later) all steps picks rs.1 flags (λ m. disjuncts_of names m (formula_then r.0 rs.0)) same
              (both_walk (goal_steps g ++ later) later steps picks r.1 rs.1 (makes_goal g) (makes_goals gs) here (λ m. disjuncts_of names m rs.0) (λ m. disjuncts_of names m (formula_then r.0 rs.0)) x.conjuncts y.disjuncts (λ m. refl)
              (λ m h. (from_conjunction P T (here m).goals (from_around P T (here m).made_variables (conjunction (here m).goals) h.0), h.1)));
        }
