-- What the walk of terms says of the typing of the goals that are made for them.
use Rattle.std.proofs.Common.{◌≡◌, ℕ, suc, ◌+◌, true, List, [], ◌∷◌, ◌++◌, map, length, refl, sym, ap, ap₂, ◌∙◌, subst, arith, inl, Some, append_assoc, append-nil, length-append}
use Rattle.std.proofs.lemmas.List.{map-append}
use Rattle.mc_program.specs.Programs.{TypeTerm, int_type, string_type, char_type, Source, Expression, Expressions}
use Rattle.mc_model.specs.Lists.{In}
use Rattle.mc_model.specs.Flat as F
use Rattle.mc_accepted.specs.Scope.{variables_in, variables_in_all}
use Rattle.mc_accepted.specs.ProperTypes.{Parameters}
use Rattle.mc_accepted.specs.Typing.{constructor_types}
use Rattle.mc_accepted.specs.Normal.{the_variable, name_term, name_terms, equate}
use Rattle.mc_accepted.specs.Resolving.{Unresolved, any_variable, any_number, any_text, any_name, Unresolved_terms, no_terms, term_then, count, named, resolved_term, resolved_terms, Step, choose, term_steps, terms_steps, topmost, below, Takes}
use Rattle.mc_source.specs.declared.name.Candidate.{Candidate}
use Rattle.mc_source.specs.declared.name.Candidate.TheVariants as C
use Rattle.laws_made_types.specs.Known.{AllKnown, HasValues, AllHaveValues}
use Rattle.laws_made_types.specs.Makes.{makes_term, makes_terms, makes_parts, kept}
use Rattle.laws_made_types.specs.Traced.{Traces, HasTypes}
use Rattle.laws_made_types.proofs.Keeping.{kept_both, kept_push, kept_drop, long_both, both_split}
use Rattle.laws_made_types.proofs.Taking.{constructors_take, last_of, last-push}
use Rattle.laws_made_types.proofs.FlatTypings.{has_first, has_second, topmost_is, below_is, AllTyped, join}
use Rattle.laws_made_types.proofs.ClauseVariables.{in_left, in_right}

-- the numbers of variables have the types of the variables
abbrev pub Agrees : (T : ℕ → TypeTerm) (names : ℕ → ℕ) (τ : ℕ → TypeTerm) → List ℕ → Type 0
Agrees T names τ xs = (v : ℕ) → In v xs → T (names v) ≡ τ v

pub agrees_left : (T : ℕ → TypeTerm) (names : ℕ → ℕ) (τ : ℕ → TypeTerm) (xs ys : List ℕ) → Agrees T names τ (xs ++ ys) → Agrees T names τ xs
agrees_left T names τ xs ys h v i = h v (in_left v xs ys i)

pub agrees_right : (T : ℕ → TypeTerm) (names : ℕ → ℕ) (τ : ℕ → TypeTerm) (xs ys : List ℕ) → Agrees T names τ (xs ++ ys) → Agrees T names τ ys
agrees_right T names τ xs ys h v i = h v (in_right v xs ys i)

module _ (P : Source) (D : Parameters) (τ : ℕ → TypeTerm) where
  -- a term is a variable of this type beside its goals
  pub record Named (T : ℕ → TypeTerm) (names : ℕ → ℕ) (m : ℕ) (e : Expression) (t : TypeTerm) : Type 0 where
    pub goals : AllTyped P T (name_term names m e).goals
    pub first : T (the_variable (name_term names m e)) ≡ t
    pub whole : map T (name_term names m e).variables ≡ t ∷ []

  -- What the walk of a term leaves: its type, the types of its occurrences and of those behind it, those of the variables
  -- that are made for its parts and for itself, and how its goals are typed.
  pub record Walked (steps : List Step) (stack : List TypeTerm) (u : Unresolved) (e : Expression) (picks : List Candidate) (all : List TypeTerm) : Type 0 where
    pub type : TypeTerm
    pub trace : List TypeTerm
    pub later : List TypeTerm
    pub splits : all ≡ trace ++ later
    pub long : length trace ≡ length (makes_term u)
    pub inner : List TypeTerm
    pub own : List TypeTerm
    pub of_parts : kept (makes_parts u) trace ≡ inner
    pub of_whole : kept (makes_term u) trace ≡ inner ++ own
    pub known : AllKnown P D picks
    pub rest : Traces P D τ steps (stack ++ type ∷ []) picks later
    pub next_inner : (names : ℕ → ℕ) (m x : ℕ) → (equate names m x e).next ≡ m + length inner
    pub next_all : (names : ℕ → ℕ) (m : ℕ) → (name_term names m e).next ≡ m + length (inner ++ own)
    pub equated :
        (names : ℕ → ℕ) (m x : ℕ) (T : ℕ → TypeTerm)
        → Agrees T names τ (variables_in e) → HasTypes T m inner → T x ≡ type → AllTyped P T (equate names m x e).goals
    pub as_named :
        (names : ℕ → ℕ) (m : ℕ) (T : ℕ → TypeTerm)
        → Agrees T names τ (variables_in e) → HasTypes T m (inner ++ own) → Named T names m e type

  pub record AllWalked (steps : List Step) (stack : List TypeTerm) (us : Unresolved_terms) (es : Expressions) (picks : List Candidate) (all : List TypeTerm) : Type 0 where
    pub types : List TypeTerm
    pub as_many : length types ≡ count us
    pub made_types : List TypeTerm
    pub trace : List TypeTerm
    pub later : List TypeTerm
    pub splits : all ≡ trace ++ later
    pub long : length trace ≡ length (makes_terms us)
    pub of_terms : kept (makes_terms us) trace ≡ made_types
    pub known : AllKnown P D picks
    pub rest : Traces P D τ steps (stack ++ types) picks later
    pub next : (names : ℕ → ℕ) (m : ℕ) → (name_terms names m es).next ≡ m + length made_types
    pub typed :
        (names : ℕ → ℕ) (m : ℕ) (T : ℕ → TypeTerm)
        → Agrees T names τ (variables_in_all es)
        → HasTypes T m made_types → AllTyped P T (name_terms names m es).goals × (map T (name_terms names m es).variables ≡ types)

  -- what a name takes where its arguments have these types
  takes_these : (c : Candidate) (n : ℕ) (stack ts : List TypeTerm) (t : TypeTerm) → length ts ≡ n → Takes P D c (topmost n (stack ++ ts) ++ t ∷ []) → Takes P D c (ts ++ t ∷ [])
  takes_these c n stack ts t e h = subst (λ us. Takes P D c (us ++ t ∷ [])) (topmost_is stack ts n e) h

  goes_on : (steps : List Step) (n : ℕ) (stack ts : List TypeTerm) (t : TypeTerm) (picks : List Candidate) (later : List TypeTerm) → length ts ≡ n → Traces P D τ steps (below n (stack ++ ts) ++ t ∷ []) picks later → Traces P D τ steps (stack ++ t ∷ []) picks later
  goes_on steps n stack ts t picks later e h = subst (λ us. Traces P D τ steps (us ++ t ∷ []) picks later) (below_is stack ts n e) h

  -- the last of the made variables stands for the whole
  own_type : (T : ℕ → TypeTerm) (m next : ℕ) (made_types : List TypeTerm) (t : TypeTerm) → next ≡ m + length made_types → HasTypes T m (made_types ++ t ∷ []) → T next ≡ t
  own_type T m next made_types t e h = (has_second T m next made_types (t ∷ []) e h).0

  pushed : (next m : ℕ) (made_types : List TypeTerm) (t : TypeTerm) → next ≡ m + length made_types → next + 1 ≡ m + length (made_types ++ t ∷ [])
  pushed next m made_types t e = omega (arith, e, length-append made_types (t ∷ []))

  -- the types of the occurrences in a name and its arguments
  name_splits : (all trace later more : List TypeTerm) (t : TypeTerm) → all ≡ trace ++ later → later ≡ t ∷ more → all ≡ (trace ++ t ∷ []) ++ more
  name_splits all trace later more t e f = e ∙ ap (λ us. trace ++ us) f ∙ sym (append_assoc trace (t ∷ []) more)

  name_walked : (us : Unresolved_terms) (es : Expressions) (picks cs : List Candidate) (steps : List Step) (stack all : List TypeTerm) → AllWalked (choose cs (count us) ∷ steps) stack us es picks all → Walked steps stack (any_name cs us) (named es picks).0 (named es picks).1 all
  name_walked us es [] cs steps stack all a = absurd a.rest
  name_walked us es (C.Pred p ∷ picks) cs steps stack all a = absurd a.rest.1
  name_walked (term_then u us) es (C.Char c ∷ picks) cs steps stack all a =
      let takes = takes_these (C.Char c) (suc (count us)) stack a.types a.rest.2 a.as_many a.rest.5 in
      absurd (omega (arith, a.as_many, ap length takes.1, length-append a.types (a.rest.2 ∷ [])))
  name_walked no_terms es (C.Char c ∷ picks) cs steps stack all a =
      let h = a.rest in
      let t = h.2 in
      let is_char : t ≡ char_type = sym (last-push t (topmost 0 (stack ++ a.types)) t) ∙ sym (ap (last_of t) h.5.1) in
      record {
        type = t;
        trace = a.trace ++ t ∷ [];
        later = h.3;
        splits = name_splits all a.trace a.later h.3 t a.splits h.4;
        long = long_both [] (true ∷ []) a.trace (t ∷ []) a.long refl;
        inner = [];
        own = t ∷ [];
        of_parts = kept_drop [] a.trace t a.long;
        of_whole = kept_push [] a.trace t a.long;
        known = a.known.1;
        rest = goes_on steps 0 stack a.types t picks h.3 a.as_many h.6;
        next_inner = λ names m x. omega arith;
        next_all = λ names m. refl;
        equated = λ names m x T agree has e. ((a.known.0, e ∙ is_char), tt);
        as_named = λ names m T agree has. record { goals = ((a.known.0, has.0 ∙ is_char), tt); first = has.0; whole = ap (λ u. u ∷ []) has.0 };
      }
  name_walked us es (C.Con s ∷ picks) cs steps stack all a =
      let h = a.rest in
      let t = h.2 in
      let n = count us in
      let flags = makes_terms us in
      let takes = constructors_take P D s a.known.0.0 a.types t a.known.0.1 (takes_these (C.Con s) n stack a.types t a.as_many h.5) in
      let typed_made :
      (names : ℕ → ℕ) (m x : ℕ) (T : ℕ → TypeTerm) → Agrees T names τ (variables_in_all es) → HasTypes T m a.made_types → T x ≡ t → AllTyped P T ((name_terms names m es).goals ++ F.Made x s (name_terms names m es).variables ∷ []) =
      λ names m x T agree has e.
      let r = name_terms names m es in
      let z = a.typed names m T agree has in
      join P T r.goals (F.Made x s r.variables ∷ []) z.0 (ap (constructor_types P s) e ∙ takes ∙ ap Some (sym z.1), tt) in
      record {
        type = t;
        trace = a.trace ++ t ∷ [];
        later = h.3;
        splits = name_splits all a.trace a.later h.3 t a.splits h.4;
        long = long_both flags (true ∷ []) a.trace (t ∷ []) a.long refl;
        inner = a.made_types;
        own = t ∷ [];
        of_parts = kept_drop flags a.trace t a.long ∙ a.of_terms;
        of_whole = kept_push flags a.trace t a.long ∙ ap (λ us. us ++ t ∷ []) a.of_terms;
        known = a.known.1;
        rest = goes_on steps n stack a.types t picks h.3 a.as_many h.6;
        next_inner = λ names m x. a.next names m;
        next_all = λ names m. pushed (name_terms names m es).next m a.made_types t (a.next names m);
        equated = typed_made;
        as_named = λ names m T agree has.
            let top = own_type T m (name_terms names m es).next a.made_types t (a.next names m) has in
            record {
              goals = typed_made names m (name_terms names m es).next T agree (has_first T m a.made_types (t ∷ []) has) top;
              first = top;
              whole = ap (λ u. u ∷ []) top;
            };
      }
  name_walked us es (C.Func f ∷ picks) cs steps stack all a =
      let h = a.rest in
      let t = h.2 in
      let n = count us in
      let flags = makes_terms us in
      let takes = takes_these (C.Func f) n stack a.types t a.as_many h.5 in
      let typed_call :
      (names : ℕ → ℕ) (m x : ℕ) (T : ℕ → TypeTerm) → Agrees T names τ (variables_in_all es) → HasTypes T m a.made_types → T x ≡ t → AllTyped P T ((name_terms names m es).goals ++ F.Call f ((name_terms names m es).variables ++ x ∷ []) ∷ []) =
      λ names m x T agree has e.
      let r = name_terms names m es in
      let z = a.typed names m T agree has in
      join P T r.goals (F.Call f (r.variables ++ x ∷ []) ∷ []) z.0 ((takes.0, map-append T r.variables (x ∷ []) ∙ ap₂ (λ us u. us ++ u ∷ []) z.1 e ∙ sym takes.1), tt) in
      record {
        type = t;
        trace = a.trace ++ t ∷ [];
        later = h.3;
        splits = name_splits all a.trace a.later h.3 t a.splits h.4;
        long = long_both flags (true ∷ []) a.trace (t ∷ []) a.long refl;
        inner = a.made_types;
        own = t ∷ [];
        of_parts = kept_drop flags a.trace t a.long ∙ a.of_terms;
        of_whole = kept_push flags a.trace t a.long ∙ ap (λ us. us ++ t ∷ []) a.of_terms;
        known = a.known.1;
        rest = goes_on steps n stack a.types t picks h.3 a.as_many h.6;
        next_inner = λ names m x. a.next names m;
        next_all = λ names m. pushed (name_terms names m es).next m a.made_types t (a.next names m);
        equated = typed_call;
        as_named = λ names m T agree has.
            let top = own_type T m (name_terms names m es).next a.made_types t (a.next names m) has in
            record {
              goals = typed_call names m (name_terms names m es).next T agree (has_first T m a.made_types (t ∷ []) has) top;
              first = top;
              whole = ap (λ u. u ∷ []) top;
            };
      }

  -- WHAT THE WALK OF A TERM TYPES, THE GOALS THAT ARE MADE FOR IT HAVE
  mutual
    pub term_walked : (e : Unresolved) (steps : List Step) (stack : List TypeTerm) (picks : List Candidate) (all : List TypeTerm) → HasValues P e → AllKnown P D picks → Traces P D τ (term_steps e ++ steps) stack picks all → Walked steps stack e (resolved_term e picks).0 (resolved_term e picks).1 all
    term_walked (any_variable v) steps stack picks all values known w =
        record {
          type = τ v;
          trace = [];
          later = all;
          splits = refl;
          long = refl;
          inner = [];
          own = [];
          of_parts = refl;
          of_whole = refl;
          known = known;
          rest = w;
          next_inner = λ names m x. omega arith;
          next_all = λ names m. omega arith;
          equated = λ names m x T agree has e. (e ∙ sym (agree v (inl refl)), tt);
          as_named = λ names m T agree has. record { goals = tt; first = agree v (inl refl); whole = ap (λ u. u ∷ []) (agree v (inl refl)) };
        }
    term_walked (any_number n) steps stack picks all values known w =
        record {
          type = int_type;
          trace = int_type ∷ [];
          later = w.0;
          splits = w.1;
          long = refl;
          inner = [];
          own = int_type ∷ [];
          of_parts = refl;
          of_whole = refl;
          known = known;
          rest = w.2;
          next_inner = λ names m x. omega arith;
          next_all = λ names m. refl;
          equated = λ names m x T agree has e. ((values, e), tt);
          as_named = λ names m T agree has. record { goals = ((values, has.0), tt); first = has.0; whole = ap (λ u. u ∷ []) has.0 };
        }
    term_walked (any_text bytes) steps stack picks all values known w =
        record {
          type = string_type;
          trace = string_type ∷ [];
          later = w.0;
          splits = w.1;
          long = refl;
          inner = [];
          own = string_type ∷ [];
          of_parts = refl;
          of_whole = refl;
          known = known;
          rest = w.2;
          next_inner = λ names m x. omega arith;
          next_all = λ names m. refl;
          equated = λ names m x T agree has e. ((values, e), tt);
          as_named = λ names m T agree has. record { goals = ((values, has.0), tt); first = has.0; whole = ap (λ u. u ∷ []) has.0 };
        }
    term_walked (any_name cs args) steps stack picks all values known w =
        let r = resolved_terms args picks in
        let w' : Traces P D τ (terms_steps args ++ (choose cs (count args) ∷ steps)) stack picks all = subst (λ s. Traces P D τ s stack picks all) (append_assoc (terms_steps args) (choose cs (count args) ∷ []) steps) w in
        name_walked args r.0 r.1 cs steps stack all (terms_walked args (choose cs (count args) ∷ steps) stack picks all values known w')

    pub terms_walked : (es : Unresolved_terms) (steps : List Step) (stack : List TypeTerm) (picks : List Candidate) (all : List TypeTerm) → AllHaveValues P es → AllKnown P D picks → Traces P D τ (terms_steps es ++ steps) stack picks all → AllWalked steps stack es (resolved_terms es picks).0 (resolved_terms es picks).1 all
    terms_walked no_terms steps stack picks all values known w =
        record {
          types = [];
          as_many = refl;
          made_types = [];
          trace = [];
          later = all;
          splits = refl;
          long = refl;
          of_terms = refl;
          known = known;
          rest = subst (λ s. Traces P D τ steps s picks all) (sym (append-nil stack)) w;
          next = λ names m. omega arith;
          typed = λ names m T agree has. (tt, refl);
        }
    terms_walked (term_then e es) steps stack picks all values known w =
        let r = resolved_term e picks in
        let rs = resolved_terms es r.1 in
        let w' : Traces P D τ (term_steps e ++ (terms_steps es ++ steps)) stack picks all = subst (λ s. Traces P D τ s stack picks all) (append_assoc (term_steps e) (terms_steps es) steps) w in
        let a = term_walked e (terms_steps es ++ steps) stack picks all values.0 known w' in
        let b = terms_walked es steps (stack ++ a.type ∷ []) r.1 a.later values.1 a.known a.rest in
        let first = a.inner ++ a.own in
        record {
          types = a.type ∷ b.types;
          as_many = ap suc b.as_many;
          made_types = first ++ b.made_types;
          trace = a.trace ++ b.trace;
          later = b.later;
          splits = both_split all a.trace a.later b.trace b.later a.splits b.splits;
          long = long_both (makes_term e) (makes_terms es) a.trace b.trace a.long b.long;
          of_terms = kept_both (makes_term e) (makes_terms es) a.trace b.trace a.long ∙ ap₂ (λ us vs. us ++ vs) a.of_whole b.of_terms;
          known = b.known;
          rest = subst (λ s. Traces P D τ steps s rs.1 b.later) (append_assoc stack (a.type ∷ []) b.types) b.rest;
          next = λ names m. omega (arith, a.next_all names m, b.next names (name_term names m r.0).next, length-append first b.made_types);
          typed = λ names m T agree has.
              let here = name_term names m r.0 in
              let there = name_terms names here.next rs.0 in
              let x = a.as_named names m T (agrees_left T names τ (variables_in r.0) (variables_in_all rs.0) agree) (has_first T m first b.made_types has) in
              let y = b.typed names here.next T (agrees_right T names τ (variables_in r.0) (variables_in_all rs.0) agree) (has_second T m here.next first b.made_types (a.next_all names m) has) in
              (join P T here.goals there.goals x.goals y.0, map-append T here.variables there.variables ∙ ap₂ (λ us vs. us ++ vs) x.whole y.1);
        }
