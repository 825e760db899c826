-- What typings of the goals that are made for terms and goals say of the walk of these.
use Rattle.std.proofs.Common.{◌≡◌, ℕ, suc, ◌+◌, true, false, List, [], ◌∷◌, ◌++◌, map, length, refl, sym, ap, ◌∙◌, subst, arith, append_assoc, append-nil, length-append}
use Rattle.std.specs.Prelude.{Contains}
use Rattle.std.proofs.lemmas.List.{map-append, length-map}
use Rattle.mc_program.specs.Programs.{TypeTerm, int_type, char_type, string_type, Source, Expression, Expressions, no_expressions, expression_then}
use Rattle.mc_model.specs.Flat as F
use Rattle.mc_accepted.specs.ProperTypes.{Parameters, ProperType}
use Rattle.mc_accepted.specs.Normal.{the_variable, name_term, name_terms, equate}
use Rattle.mc_accepted.specs.Resolving.{Unresolved, any_variable, any_number, any_text, any_name, Unresolved_terms, no_terms, term_then, count, named, resolved_term, resolved_terms, Step, choose, term_steps, terms_steps, topmost, below, NamesTerm, Takes}
use Rattle.mc_source.specs.declared.name.Candidate.{Candidate}
use Rattle.mc_source.specs.declared.name.Candidate.TheVariants as C
use Rattle.laws_made_types.specs.Known.{AllKnown, Picked}
use Rattle.laws_made_types.specs.Makes.{makes_term, makes_terms, makes_parts, kept}
use Rattle.laws_made_types.specs.Traced.{Traces, HasTypes}
use Rattle.laws_made_types.proofs.Keeping.{kept_both, kept_push, kept_drop, long_both}
use Rattle.laws_made_types.proofs.Taking.{constructors_are_taken}
use Rattle.laws_made_types.proofs.FlatTypings.{has_both, topmost_is, below_is, AllTyped, split}
use Rattle.laws_made_types.proofs.ClauseVariables.{one_variable}

module _ (P : Source) (D : Parameters) (T : ℕ → TypeTerm) (proper : (v : ℕ) → ProperType D (T v)) (names : ℕ → ℕ) where
  -- the types of the clause's variables
  abbrev pub own : ℕ → TypeTerm
  own v = T (names v)

  -- Where the goals for a term are typed, its walk goes on with the type of its variable: the walk of all the steps with
  -- these picks, where that of the later ones goes on with those that are left. The types of its occurrences, where the
  -- goals' variables are numbered from m and the whole has a type, are those of the variables that are made.
  pub record Term_walks (all steps : List Step) (picks : List Candidate) (u : Unresolved) (e : Expression) (left : List Candidate) : Type 0 where
    pub picked : Picked steps left
    pub known : AllKnown P D left
    pub trace : (m : ℕ) → TypeTerm → List TypeTerm
    pub long : (m : ℕ) (t : TypeTerm) → length (trace m t) ≡ length (makes_term u)
    pub parts_next : (m x : ℕ) (t : TypeTerm) → (equate names m x e).next ≡ m + length (kept (makes_parts u) (trace m t))
    pub parts_have : (m : ℕ) (t : TypeTerm) → HasTypes T m (kept (makes_parts u) (trace m t))
    pub whole_next : (m : ℕ) (t : TypeTerm) → (name_term names m e).next ≡ m + length (kept (makes_term u) (trace m t))
    pub whole_has : (m : ℕ) → HasTypes T m (kept (makes_term u) (trace m (T (the_variable (name_term names m e)))))
    pub equated :
        (m x : ℕ) (stack more : List TypeTerm)
        → AllTyped P T (equate names m x e).goals → Traces P D own steps (stack ++ T x ∷ []) left more → Traces P D own all stack picks (trace m (T x) ++ more)
    pub as_named :
        (m : ℕ) (stack more : List TypeTerm)
        → AllTyped P T (name_term names m e).goals
        → Traces P D own steps (stack ++ T (the_variable (name_term names m e)) ∷ []) left more
        → Traces P D own all stack picks (trace m (T (the_variable (name_term names m e))) ++ more)

  pub record Terms_walk (all steps : List Step) (picks : List Candidate) (us : Unresolved_terms) (es : Expressions) (left : List Candidate) : Type 0 where
    pub picked : Picked steps left
    pub known : AllKnown P D left
    pub as_many : (m : ℕ) → length (name_terms names m es).variables ≡ count us
    pub empty : count us ≡ 0 → es ≡ no_expressions
    pub trace : (m : ℕ) → List TypeTerm
    pub long : (m : ℕ) → length (trace m) ≡ length (makes_terms us)
    pub next : (m : ℕ) → (name_terms names m es).next ≡ m + length (kept (makes_terms us) (trace m))
    pub has : (m : ℕ) → HasTypes T m (kept (makes_terms us) (trace m))
    pub typed :
        (m : ℕ) (stack more : List TypeTerm)
        → AllTyped P T (name_terms names m es).goals
        → Traces P D own steps (stack ++ map T (name_terms names m es).variables) left more → Traces P D own all stack picks (trace m ++ more)

  to_top : (c : Candidate) (n : ℕ) (stack ts : List TypeTerm) (t : TypeTerm) → length ts ≡ n → Takes P D c (ts ++ t ∷ []) → Takes P D c (topmost n (stack ++ ts) ++ t ∷ [])
  to_top c n stack ts t e h = subst (λ us. Takes P D c (us ++ t ∷ [])) (sym (topmost_is stack ts n e)) h

  to_below : (steps : List Step) (n : ℕ) (stack ts : List TypeTerm) (t : TypeTerm) (picks : List Candidate) (more : List TypeTerm) → length ts ≡ n → Traces P D own steps (stack ++ t ∷ []) picks more → Traces P D own steps (below n (stack ++ ts) ++ t ∷ []) picks more
  to_below steps n stack ts t picks more e h = subst (λ us. Traces P D own steps (us ++ t ∷ []) picks more) (sym (below_is stack ts n e)) h

  -- THE TYPES OF A NAME AND ITS ARGUMENTS
  module _ (all steps : List Step) (picks left cs : List Candidate) (us : Unresolved_terms) (es : Expressions) (a : Terms_walk all (choose cs (count us) ∷ steps) picks us es left) where
    abbrev name_trace : (m : ℕ) → TypeTerm → List TypeTerm
    name_trace m t = a.trace m ++ t ∷ []

    name_long : (m : ℕ) (t : TypeTerm) → length (name_trace m t) ≡ length (makes_terms us ++ true ∷ [])
    name_long m t = long_both (makes_terms us) (true ∷ []) (a.trace m) (t ∷ []) (a.long m) refl

    name_parts : (m : ℕ) (t : TypeTerm) → kept (makes_terms us ++ false ∷ []) (name_trace m t) ≡ kept (makes_terms us) (a.trace m)
    name_parts m t = kept_drop (makes_terms us) (a.trace m) t (a.long m)

    name_all : (m : ℕ) (t : TypeTerm) → kept (makes_terms us ++ true ∷ []) (name_trace m t) ≡ kept (makes_terms us) (a.trace m) ++ t ∷ []
    name_all m t = kept_push (makes_terms us) (a.trace m) t (a.long m)

    name_parts_next : (m : ℕ) (t : TypeTerm) → (name_terms names m es).next ≡ m + length (kept (makes_terms us ++ false ∷ []) (name_trace m t))
    name_parts_next m t = a.next m ∙ ap (λ ts. m + length ts) (sym (name_parts m t))

    name_parts_have : (m : ℕ) (t : TypeTerm) → HasTypes T m (kept (makes_terms us ++ false ∷ []) (name_trace m t))
    name_parts_have m t = subst (HasTypes T m) (sym (name_parts m t)) (a.has m)

    name_next : (m : ℕ) (t : TypeTerm) → (name_terms names m es).next + 1 ≡ m + length (kept (makes_terms us ++ true ∷ []) (name_trace m t))
    name_next m t = omega (arith, a.next m, ap length (name_all m t), length-append (kept (makes_terms us) (a.trace m)) (t ∷ []))

    name_has : (m : ℕ) → HasTypes T m (kept (makes_terms us ++ true ∷ []) (name_trace m (T (name_terms names m es).next)))
    name_has m =
        let x = (name_terms names m es).next in
        subst (HasTypes T m) (sym (name_all m (T x))) (has_both T m x (kept (makes_terms us) (a.trace m)) (T x ∷ []) (a.next m) (a.has m) (refl, tt))

    -- the walk of a name whose pick takes the types of its arguments and its own
    name_taken :
        (m : ℕ) (c : Candidate) (rest : List Candidate) (t : TypeTerm) (stack more : List TypeTerm)
        → left ≡ c ∷ rest
        → Contains cs c
        → NamesTerm c
        → AllTyped P T (name_terms names m es).goals
        → Takes P D c (map T (name_terms names m es).variables ++ t ∷ [])
        → Traces P D own steps (stack ++ t ∷ []) rest more → Traces P D own all stack picks (name_trace m t ++ more)
    name_taken m c rest t stack more is in_list of_term goals takes w =
        let n = count us in
        let ts = map T (name_terms names m es).variables in
        let long : length ts ≡ n = length-map (name_terms names m es).variables T ∙ a.as_many m in
        let here : Traces P D own (choose cs n ∷ steps) (stack ++ ts) (c ∷ rest) (t ∷ more) =
        (in_list, of_term, t, more, refl, to_top c n stack ts t long takes, to_below steps n stack ts t rest more long w) in
        subst (λ us. Traces P D own all stack picks us) (sym (append_assoc (a.trace m) (t ∷ []) more))
        (a.typed m stack (t ∷ more) goals (subst (λ ps. Traces P D own (choose cs n ∷ steps) (stack ++ ts) ps (t ∷ more)) (sym is) here))

  name_walks : (us : Unresolved_terms) (es : Expressions) (left cs : List Candidate) (all steps : List Step) (picks : List Candidate) → Terms_walk all (choose cs (count us) ∷ steps) picks us es left → Term_walks all steps picks (any_name cs us) (named es left).0 (named es left).1
  name_walks us es [] cs all steps picks a = absurd a.picked
  name_walks us es (C.Pred p ∷ left) cs all steps picks a = absurd a.picked.1
  name_walks (term_then u us) es (C.Char c ∷ left) cs all steps picks a = absurd (omega (arith, a.picked.2))
  name_walks no_terms (expression_then e es) (C.Char c ∷ left) cs all steps picks a = let q = a.empty refl in cc
  name_walks no_terms no_expressions (C.Char c ∷ left) cs all steps picks a =
      let taken : (m : ℕ) (t : TypeTerm) (stack more : List TypeTerm) → t ≡ char_type → Traces P D own steps (stack ++ t ∷ []) left more → Traces P D own all stack picks (name_trace all steps picks (C.Char c ∷ left) cs no_terms no_expressions a m t ++ more) =
      λ m t stack more e w.
      name_taken all steps picks (C.Char c ∷ left) cs no_terms no_expressions a m (C.Char c) left t stack more refl a.picked.0 tt tt ((λ v. char_type), ap (λ u. u ∷ []) (sym e)) w in
      record {
        picked = a.picked.3;
        known = a.known.1;
        trace = λ m t. a.trace m ++ t ∷ [];
        long = name_long all steps picks (C.Char c ∷ left) cs no_terms no_expressions a;
        parts_next = λ m x t. name_parts_next all steps picks (C.Char c ∷ left) cs no_terms no_expressions a m t;
        parts_have = name_parts_have all steps picks (C.Char c ∷ left) cs no_terms no_expressions a;
        whole_next = name_next all steps picks (C.Char c ∷ left) cs no_terms no_expressions a;
        whole_has = name_has all steps picks (C.Char c ∷ left) cs no_terms no_expressions a;
        equated = λ m x stack more y w. taken m (T x) stack more y.0.1 w;
        as_named = λ m stack more y w. taken m (T m) stack more y.0.1 w;
      }
  name_walks us es (C.Con s ∷ left) cs all steps picks a =
      let taken :
      (m x : ℕ) (stack more : List TypeTerm)
      → AllTyped P T ((name_terms names m es).goals ++ F.Made x s (name_terms names m es).variables ∷ [])
      → Traces P D own steps (stack ++ T x ∷ []) left more → Traces P D own all stack picks (name_trace all steps picks (C.Con s ∷ left) cs us es a m (T x) ++ more) =
      λ m x stack more y w.
      let r = name_terms names m es in
      let z = split P T r.goals (F.Made x s r.variables ∷ []) y in
      let takes = constructors_are_taken P D s a.known.0.0 (map T r.variables) (T x) a.known.0.1 (proper x) z.1.0 in
      name_taken all steps picks (C.Con s ∷ left) cs us es a m (C.Con s) left (T x) stack more refl a.picked.0 tt z.0 takes w in
      record {
        picked = a.picked.3;
        known = a.known.1;
        trace = λ m t. a.trace m ++ t ∷ [];
        long = name_long all steps picks (C.Con s ∷ left) cs us es a;
        parts_next = λ m x t. name_parts_next all steps picks (C.Con s ∷ left) cs us es a m t;
        parts_have = name_parts_have all steps picks (C.Con s ∷ left) cs us es a;
        whole_next = name_next all steps picks (C.Con s ∷ left) cs us es a;
        whole_has = name_has all steps picks (C.Con s ∷ left) cs us es a;
        equated = taken;
        as_named = λ m stack more y w. taken m (name_terms names m es).next stack more y w;
      }
  name_walks us es (C.Func f ∷ left) cs all steps picks a =
      let taken :
      (m x : ℕ) (stack more : List TypeTerm)
      → AllTyped P T ((name_terms names m es).goals ++ F.Call f ((name_terms names m es).variables ++ x ∷ []) ∷ [])
      → Traces P D own steps (stack ++ T x ∷ []) left more → Traces P D own all stack picks (name_trace all steps picks (C.Func f ∷ left) cs us es a m (T x) ++ more) =
      λ m x stack more y w.
      let r = name_terms names m es in
      let z = split P T r.goals (F.Call f (r.variables ++ x ∷ []) ∷ []) y in
      let takes : Takes P D (C.Func f) (map T r.variables ++ T x ∷ []) = (z.1.0.0, sym z.1.0.1 ∙ map-append T r.variables (x ∷ [])) in
      name_taken all steps picks (C.Func f ∷ left) cs us es a m (C.Func f) left (T x) stack more refl a.picked.0 tt z.0 takes w in
      record {
        picked = a.picked.3;
        known = a.known.1;
        trace = λ m t. a.trace m ++ t ∷ [];
        long = name_long all steps picks (C.Func f ∷ left) cs us es a;
        parts_next = λ m x t. name_parts_next all steps picks (C.Func f ∷ left) cs us es a m t;
        parts_have = name_parts_have all steps picks (C.Func f ∷ left) cs us es a;
        whole_next = name_next all steps picks (C.Func f ∷ left) cs us es a;
        whole_has = name_has all steps picks (C.Func f ∷ left) cs us es a;
        equated = taken;
        as_named = λ m stack more y w. taken m (name_terms names m es).next stack more y w;
      }

  -- the walk goes on with another type that is the same
  as_type : (steps : List Step) (stack : List TypeTerm) (t u : TypeTerm) (picks : List Candidate) (more : List TypeTerm) → t ≡ u → Traces P D own steps (stack ++ t ∷ []) picks more → Traces P D own steps (stack ++ u ∷ []) picks more
  as_type steps stack t u picks more e w = subst (λ v. Traces P D own steps (stack ++ v ∷ []) picks more) e w

  -- WHAT THE GOALS THAT ARE MADE FOR A TERM HAVE, ITS WALK TYPES
  mutual
    pub term_walks : (e : Unresolved) (steps : List Step) (picks : List Candidate) → Picked (term_steps e ++ steps) picks → AllKnown P D picks → Term_walks (term_steps e ++ steps) steps picks e (resolved_term e picks).0 (resolved_term e picks).1
    term_walks (any_variable v) steps picks picked known =
        record {
          picked = picked;
          known = known;
          trace = λ m t. [];
          long = λ m t. refl;
          parts_next = λ m x t. omega arith;
          parts_have = λ m t. tt;
          whole_next = λ m t. omega arith;
          whole_has = λ m. tt;
          equated = λ m x stack more y w. as_type steps stack (T x) (own v) picks more y.0 w;
          as_named = λ m stack more y w. w;
        }
    term_walks (any_number n) steps picks picked known =
        record {
          picked = picked;
          known = known;
          trace = λ m t. t ∷ [];
          long = λ m t. refl;
          parts_next = λ m x t. omega arith;
          parts_have = λ m t. tt;
          whole_next = λ m t. refl;
          whole_has = λ m. (refl, tt);
          equated = λ m x stack more y w. (more, ap (λ t. t ∷ more) y.0.1, as_type steps stack (T x) int_type picks more y.0.1 w);
          as_named = λ m stack more y w. (more, ap (λ t. t ∷ more) y.0.1, as_type steps stack (T m) int_type picks more y.0.1 w);
        }
    term_walks (any_text bytes) steps picks picked known =
        record {
          picked = picked;
          known = known;
          trace = λ m t. t ∷ [];
          long = λ m t. refl;
          parts_next = λ m x t. omega arith;
          parts_have = λ m t. tt;
          whole_next = λ m t. refl;
          whole_has = λ m. (refl, tt);
          equated = λ m x stack more y w. (more, ap (λ t. t ∷ more) y.0.1, as_type steps stack (T x) string_type picks more y.0.1 w);
          as_named = λ m stack more y w. (more, ap (λ t. t ∷ more) y.0.1, as_type steps stack (T m) string_type picks more y.0.1 w);
        }
    term_walks (any_name cs args) steps picks picked known =
        let r = resolved_terms args picks in
        let later = choose cs (count args) ∷ steps in
        let same : (terms_steps args ++ choose cs (count args) ∷ []) ++ steps ≡ terms_steps args ++ later = append_assoc (terms_steps args) (choose cs (count args) ∷ []) steps in
        subst (λ s. Term_walks s steps picks (any_name cs args) (named r.0 r.1).0 (named r.0 r.1).1) (sym same)
        (name_walks args r.0 r.1 cs (terms_steps args ++ later) steps picks (terms_walk args later picks (subst (λ s. Picked s picks) same picked) known))

    pub terms_walk : (es : Unresolved_terms) (steps : List Step) (picks : List Candidate) → Picked (terms_steps es ++ steps) picks → AllKnown P D picks → Terms_walk (terms_steps es ++ steps) steps picks es (resolved_terms es picks).0 (resolved_terms es picks).1
    terms_walk no_terms steps picks picked known =
        record {
          picked = picked;
          known = known;
          as_many = λ m. refl;
          empty = λ e. refl;
          trace = λ m. [];
          long = λ m. refl;
          next = λ m. omega arith;
          has = λ m. tt;
          typed = λ m stack more y w. subst (λ s. Traces P D own steps s picks more) (append-nil stack) w;
        }
    terms_walk (term_then e es) steps picks picked known =
        let r = resolved_term e picks in
        let rs = resolved_terms es r.1 in
        let same : (term_steps e ++ terms_steps es) ++ steps ≡ term_steps e ++ (terms_steps es ++ steps) = append_assoc (term_steps e) (terms_steps es) steps in
        let a = term_walks e (terms_steps es ++ steps) picks (subst (λ s. Picked s picks) same picked) known in
        let b = terms_walk es steps r.1 a.picked a.known in
        let first : ℕ → List TypeTerm = λ m. a.trace m (T (the_variable (name_term names m r.0))) in
        let second : ℕ → List TypeTerm = λ m. b.trace (name_term names m r.0).next in
        let first_long : (m : ℕ) → length (first m) ≡ length (makes_term e) = λ m. a.long m (T (the_variable (name_term names m r.0))) in
        let parts : (m : ℕ) → kept (makes_term e ++ makes_terms es) (first m ++ second m) ≡ kept (makes_term e) (first m) ++ kept (makes_terms es) (second m) =
        λ m. kept_both (makes_term e) (makes_terms es) (first m) (second m) (first_long m) in
        record {
          picked = b.picked;
          known = b.known;
          as_many = λ m.
              let here = name_term names m r.0 in
              let there = name_terms names here.next rs.0 in
              ap (λ us. length (us ++ there.variables)) (one_variable names m r.0) ∙ ap suc (b.as_many here.next);
          empty = λ q. absurd (omega (arith, q));
          trace = λ m. first m ++ second m;
          long = λ m. long_both (makes_term e) (makes_terms es) (first m) (second m) (first_long m) (b.long (name_term names m r.0).next);
          next = λ m.
              let here = name_term names m r.0 in
              omega (
                arith,
                a.whole_next m (T (the_variable here)),
                b.next here.next,
                ap length (parts m),
                length-append (kept (makes_term e) (first m)) (kept (makes_terms es) (second m)),
              );
          has = λ m.
              let here = name_term names m r.0 in
              subst (HasTypes T m) (sym (parts m))
              (has_both T m here.next (kept (makes_term e) (first m)) (kept (makes_terms es) (second m)) (a.whole_next m (T (the_variable here))) (a.whole_has m) (b.has here.next));
          typed = λ m stack more y w.
              let here = name_term names m r.0 in
              let there = name_terms names here.next rs.0 in
              let t = T (the_variable here) in
              let z = split P T here.goals there.goals y in
              let is : map T (here.variables ++ there.variables) ≡ t ∷ map T there.variables = ap (λ us. map T (us ++ there.variables)) (one_variable names m r.0) in
              let w' : Traces P D own steps ((stack ++ t ∷ []) ++ map T there.variables) rs.1 more =
              subst (λ s. Traces P D own steps s rs.1 more) (ap (λ us. stack ++ us) is ∙ sym (append_assoc stack (t ∷ []) (map T there.variables))) w in
              let all_of : Traces P D own (term_steps e ++ (terms_steps es ++ steps)) stack picks (first m ++ (second m ++ more)) =
              a.as_named m stack (second m ++ more) z.0 (b.typed here.next (stack ++ t ∷ []) more z.1 w') in
              subst (λ s. Traces P D own s stack picks ((first m ++ second m) ++ more)) (sym same)
              (subst (λ us. Traces P D own (term_steps e ++ (terms_steps es ++ steps)) stack picks us) (sym (append_assoc (first m) (second m) more)) all_of);
        }
