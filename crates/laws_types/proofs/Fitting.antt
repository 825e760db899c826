-- Clauses fit the table of what their program declares.
use Rattle.std.proofs.Common.{◌≡◌, ℕ, zero, suc, ◌+◌, ◌<◌, ◌&&◌, Bool, true, false, cond, List, [], ◌∷◌, ◌++◌, length, Option, Some, None, refl, ap, ◌∙◌, subst, arith, length-append}
use Rattle.std.proofs.lemmas.Bool.{lt-ltb}
use Rattle.std.proofs.lemmas.Option.{none-some, same_Some}
use Rattle.std.specs.Prelude.{nat_lt, slice_index_or, Contains}
use Rattle.std.specs.Set.{is_member}
use Rattle.mc_term_data.specs.Plain.{PlainTerm, PlainTerms, no_term, more_terms}
use Rattle.mc_source.specs.declared.name.Candidate.{Candidate}
use Rattle.mc_source.specs.declared.name.Candidate.TheVariants as C
use Rattle.mc_source.specs.declared.place.Place.{Place}
use Rattle.mc_program.specs.Programs.{TypeTerm}
use Rattle.mc_accepted.specs.Resolving.{Unresolved, any_variable, any_number, any_text, any_name, Unresolved_terms, no_terms, term_then, Unresolved_goal, equation, atom, all_of, one_of, choice, negation, exists, Unresolved_goals, no_goals, goal_then, Unresolved_clause, count, Step, equate, choose, call, close_head, term_steps, terms_steps, goal_steps, goals_steps, steps_of}
use Rattle.mc_decl_syntax.specs.Plain.{PlainDecl, ModuleStart, ModuleEnd, Interface, Implementation, Imports, UseOnly, AbstractType, UnionType, SameType, SameInst, BoundInst, ModeDef, Pred, Func, Mode, Pragma, Clause}
use Rattle.mc_names.specs.declared.definition.Kind.{Kind}
use Rattle.mc_names.specs.declared.definition.Kind.TheVariants as K
use Rattle.mc_names.specs.Plain.{PlainDefinition, definition, is_definition}
use Rattle.mc_names.specs.Definitions.{head_name}
use Rattle.mc_defs_uses.specs.Clauses.{clause_of}
use Rattle.mc_decl_syntax.specs.Entries.{File}
use Rattle.mc_modules.specs.Files.{PlainItemInFile, items_in_file, definitions_of, shown_of, has}
use Rattle.mc_names.specs.Linked.{Defined, Linked, defining_module}
use Rattle.mc_modules.specs.Linked.{linked, defined, types_by, types_in, types_of, constructors, symbols_by, symbols_in, symbols_of, name_of, each, flat}
use Rattle.mc_names.specs.Candidates.{fitting}
use Rattle.mc_typecheck.specs.declared.table.Signatures.{Signatures}
use Rattle.mc_typecheck.specs.Fitting.{is_there, all_there, step_fits, each_fits}
use Rattle.mc_names.specs.Parameters.{parameters_of}
use Rattle.mc_clauses.specs.Unresolved.{unresolved_clause, unresolved_query}
use Rattle.mc_declarations.specs.Declarations.{constructors_in, constructors_by, constructors_from}
use Rattle.mc_type_phase.specs.Typing.{ModuleClause, number_among, clause_predicate, clause_item, module_clauses, clauses_from}
use Rattle.laws_made_types.specs.Known.{HasNames, AllHaveNames, GoalHasNames, GoalsHaveNames}
use Rattle.laws_types.specs.ClauseLaws.{IsThere}
use Rattle.laws_types.specs.FitLaws.{HasAll, ClausesFit, PredicatesAreThere, ConstructorsAreLinked}
use Rattle.laws_types.proofs.Candidates.{Each, fitting_there}
use Rattle.laws_types.proofs.Clauses.{ThereIn, ThereInAll, ThereInGoal, ThereInGoals, clauses_have_names, queries_have_names, clause_there, query_there}

one_true : (b : Bool) → b ≡ true → b && true ≡ true
one_true b e = ap (λ c. c && true) e

module _ (l : Linked) (t : Signatures) (n : ℕ) (all : HasAll l t) where
  abbrev EachFits : List Step → Type 0
  EachFits steps = each_fits t n steps ≡ true

  fits_both : (xs ys : List Step) → EachFits xs → EachFits ys → EachFits (xs ++ ys)
  fits_both [] ys h k = k
  fits_both (x ∷ xs) ys h k = by_test (step_fits t n x) h (λ e. fits_both xs ys e k)
    where
      by_test : (b : Bool) → b && each_fits t n xs ≡ true → (each_fits t n xs ≡ true → each_fits t n (xs ++ ys) ≡ true) → b && each_fits t n (xs ++ ys) ≡ true
      by_test true h rest = rest h
      by_test false h rest = h

  -- a step before others
  fits_then : (x : Step) (xs : List Step) → step_fits t n x ≡ true → EachFits xs → EachFits (x ∷ xs)
  fits_then x xs e h = ap (λ b. b && each_fits t n xs) e ∙ h

  candidate_fits : (c : Candidate) → IsThere l c → is_there t c ≡ true
  candidate_fits (C.Con s) h = lt-ltb s t.symbols (let e = all.symbols in omega (arith, e, h))
  candidate_fits (C.Func f) h = lt-ltb f t.preds (let e = all.preds in omega (arith, e, h))
  candidate_fits (C.Pred p) h = lt-ltb p t.preds (let e = all.preds in omega (arith, e, h))
  candidate_fits (C.Char c) h = refl

  all_fit : (cs : List Candidate) → ((c : Candidate) → Contains cs c → IsThere l c) → all_there t cs ≡ true
  all_fit [] h = refl
  all_fit (c ∷ cs) h =
      ap (λ b. b && all_there t cs) (candidate_fits c (h c (0, omega arith, refl)))
      ∙ all_fit cs (λ d i. h d (let lt : suc i.0 < length (c ∷ cs) = omega (arith, i.1) in (suc i.0, lt, i.2)))

  mutual
    term_fits : (e : Unresolved) → HasNames n e → ThereIn l e → EachFits (term_steps e)
    term_fits (any_variable v) h k = one_true (nat_lt v n) (lt-ltb v n h)
    term_fits (any_number k) h j = refl
    term_fits (any_text bytes) h k = refl
    term_fits (any_name cs args) h k = fits_both (terms_steps args) (choose cs (count args) ∷ []) (terms_fit args h k.1) (one_true (all_there t cs) (all_fit cs k.0))

    terms_fit : (es : Unresolved_terms) → AllHaveNames n es → ThereInAll l es → EachFits (terms_steps es)
    terms_fit no_terms h k = refl
    terms_fit (term_then e es) h k = fits_both (term_steps e) (terms_steps es) (term_fits e h.0 k.0) (terms_fit es h.1 k.1)

  mutual
    goal_fits : (g : Unresolved_goal) → GoalHasNames n g → ThereInGoal l g → EachFits (goal_steps g)
    goal_fits (equation a b) h k = fits_both (term_steps a) (term_steps b ++ equate ∷ []) (term_fits a h.0 k.0) (fits_both (term_steps b) (equate ∷ []) (term_fits b h.1 k.1) refl)
    goal_fits (atom cs args) h k = fits_both (terms_steps args) (call cs (count args) ∷ []) (terms_fit args h k.1) (one_true (all_there t cs) (all_fit cs k.0))
    goal_fits (all_of gs) h k = goals_fit gs h k
    goal_fits (one_of gs) h k = goals_fit gs h k
    goal_fits (choice vs c u e) h k = fits_both (goal_steps c) (goal_steps u ++ goal_steps e) (goal_fits c h.1 k.0) (fits_both (goal_steps u) (goal_steps e) (goal_fits u h.2 k.1) (goal_fits e h.3 k.2))
    goal_fits (negation g) h k = goal_fits g h k
    goal_fits (exists vs g) h k = goal_fits g h.1 k

    goals_fit : (gs : Unresolved_goals) → GoalsHaveNames n gs → ThereInGoals l gs → EachFits (goals_steps gs)
    goals_fit no_goals h k = refl
    goals_fit (goal_then g gs) h k = fits_both (goal_steps g) (goals_steps gs) (goal_fits g h.0 k.0) (goals_fit gs h.1 k.1)

  clause_fits : (c : Unresolved_clause) → c.pred < suc (length l.preds) → AllHaveNames n c.head × GoalHasNames n c.body → ThereInAll l c.head × ThereInGoal l c.body → EachFits (steps_of c)
  clause_fits c lt h k =
      let closes : step_fits t n (close_head c.pred (count c.head)) ≡ true = lt-ltb c.pred t.preds (let e = all.preds in omega (arith, e, lt)) in
      fits_both (terms_steps c.head) (close_head c.pred (count c.head) ∷ goal_steps c.body) (terms_fit c.head h.0 k.0) (fits_then (close_head c.pred (count c.head)) (goal_steps c.body) closes (goal_fits c.body h.1 k.1))

pub clauses_fit : ClausesFit
clauses_fit l table own pred t all lt =
    let c = unresolved_clause l own pred t in
    let q = unresolved_query l own pred t in
    (clause_fits l table (length c.names) all c.clause lt (clauses_have_names l own pred t) (clause_there l own t), clause_fits l table (length q.names) all q.clause lt (queries_have_names l own pred t) (query_there l own t))

-- THE PREDICATES of clauses
module _ (l : Linked) where
  number_there : (k : Kind) (cs : List Candidate) (p : ℕ) → Each l cs → number_among k cs ≡ Some p → p < length l.preds
  number_there k [] p h e = absurd (none-some p e)
  number_there K.Pred (C.Pred q ∷ cs) p h e = subst (λ n. n < length l.preds) (same_Some q p e) h.0
  number_there K.Pred (C.Con s ∷ cs) p h e = number_there K.Pred cs p h.1 e
  number_there K.Pred (C.Func f ∷ cs) p h e = number_there K.Pred cs p h.1 e
  number_there K.Pred (C.Char c ∷ cs) p h e = number_there K.Pred cs p h.1 e
  number_there K.Func (C.Func f ∷ cs) p h e = subst (λ n. n < length l.preds) (same_Some f p e) h.0
  number_there K.Func (C.Con s ∷ cs) p h e = number_there K.Func cs p h.1 e
  number_there K.Func (C.Pred q ∷ cs) p h e = number_there K.Func cs p h.1 e
  number_there K.Func (C.Char c ∷ cs) p h e = number_there K.Func cs p h.1 e
  number_there K.AbstractType (c ∷ cs) p h e = number_there K.AbstractType cs p h.1 e
  number_there K.DefinedType (c ∷ cs) p h e = number_there K.DefinedType cs p h.1 e
  number_there K.Inst (c ∷ cs) p h e = number_there K.Inst cs p h.1 e
  number_there K.Mode (c ∷ cs) p h e = number_there K.Mode cs p h.1 e
  number_there K.Symbol (c ∷ cs) p h e = number_there K.Symbol cs p h.1 e

  abbrev EachOf : List ModuleClause → Type 0
  EachOf [] = Unit {0}
  EachOf (c ∷ cs) = (c.pred < length l.preds) × EachOf cs

  of_both : (xs ys : List ModuleClause) → EachOf xs → EachOf ys → EachOf (xs ++ ys)
  of_both [] ys h k = k
  of_both (x ∷ xs) ys h k = (h.0, of_both xs ys h.1 k)

  of_at : (cs : List ModuleClause) (k : ℕ) (c : ModuleClause) → EachOf cs → k < length cs → slice_index_or cs k c ≡ c → c.pred < length l.preds
  of_at [] k c h lt e = absurd (omega (arith, lt))
  of_at (d ∷ ds) zero c h lt e = subst (λ (x : ModuleClause). x.pred < length l.preds) e h.0
  of_at (d ∷ ds) (suc k) c h lt e = of_at ds k c h.1 (omega (arith, lt)) e

  predicate_there : (own : ℕ) (o : Option PlainDefinition) (p : ℕ) → clause_predicate l own o ≡ Some p → p < length l.preds
  predicate_there own None p e = absurd (none-some p e)
  predicate_there own (Some d) p e =
      number_there d.kind (fitting l true d.id (slice_index_or l.declared own [])) p (fitting_there l true d.id (slice_index_or l.declared own [])) e

  item_of : (own : ℕ) (o : Option ℕ) (i : PlainDecl) (at : Place) → ((p : ℕ) → o ≡ Some p → p < length l.preds) → EachOf (clause_item own o i at)
  item_of own None i at h = tt
  item_of own (Some p) (Clause t) at h = (h p refl, tt)
  item_of own (Some p) (ModuleStart w) at h = tt
  item_of own (Some p) (ModuleEnd w) at h = tt
  item_of own (Some p) Interface at h = tt
  item_of own (Some p) Implementation at h = tt
  item_of own (Some p) (Imports ws) at h = tt
  item_of own (Some p) (UseOnly ws) at h = tt
  item_of own (Some p) (AbstractType t) at h = tt
  item_of own (Some p) (UnionType t ts) at h = tt
  item_of own (Some p) (SameType t u) at h = tt
  item_of own (Some p) (SameInst t u) at h = tt
  item_of own (Some p) (BoundInst t ts) at h = tt
  item_of own (Some p) (ModeDef t u) at h = tt
  item_of own (Some p) (Pred t d) at h = tt
  item_of own (Some p) (Func t d) at h = tt
  item_of own (Some p) (Mode t d) at h = tt
  item_of own (Some p) Pragma at h = tt

  module_of : (own : ℕ) (f : File) → EachOf (module_clauses l own f)
  module_of own [] = tt
  module_of own (e ∷ es) =
      of_both (clause_item own (clause_predicate l own (clause_of e.0)) e.0 e.1) (module_clauses l own es)
      (item_of own (clause_predicate l own (clause_of e.0)) e.0 e.1 (λ p. predicate_there own (clause_of e.0) p)) (module_of own es)

  all_of_files : (own : ℕ) (files : List File) → EachOf (clauses_from l own files)
  all_of_files own [] = tt
  all_of_files own (f ∷ fs) = of_both (module_clauses l own f) (clauses_from l (suc own) fs) (module_of own f) (all_of_files (suc own) fs)

pub predicates_are_there : PredicatesAreThere
predicates_are_there l own files c h = of_at l (clauses_from l own files) h.0 c (all_of_files l own files) h.1 h.2

-- CONSTRUCTORS
module _ (l : Linked) (D : ℕ → Option TypeTerm) where
  as_many : (w : List ℕ) (u own : ℕ) (vs : List (List ℕ)) (ts : PlainTerms) (m : List ℕ) (s : PlainItemInFile) (h : PlainTerm) → length (constructors_in l D w u own vs ts) ≡ length (constructors m s h ts)
  as_many w u own vs no_term m s h = refl
  as_many w u own vs (more_terms t ts) m s h = ap suc (as_many w u own vs ts m s h)

  from_both : (u : ℕ) (ds es : List Defined) → length (constructors_from l D u (ds ++ es)) ≡ length (constructors_from l D u ds) + length (constructors_from l D (u + length ds) es)
  from_both u [] es = let e : u + 0 ≡ u = omega arith in omega (arith, ap (λ k. length (constructors_from l D k es)) e)
  from_both u (d ∷ ds) es =
      let first = constructors_by l D u d d.item in
      let e : suc u + length ds ≡ u + suc (length ds) = omega arith in
      let rest = from_both (suc u) ds es in
      let long = length-append first (constructors_from l D (suc u) (ds ++ es)) in
      let long' = length-append first (constructors_from l D (suc u) ds) in
      let same = ap (λ k. length (constructors_from l D k es)) e in
      omega (arith, rest, long, long', same)

  -- one definition
  one_of_them : (u : ℕ) (m : List ℕ) (all : List PlainItemInFile) (s : PlainItemInFile) (i : PlainDecl) → s.item ≡ i → length (constructors_from l D u (types_by m all s i)) ≡ length (symbols_by m s i)
  one_of_them u m all s (AbstractType h) e = by_test (is_member is_definition (definitions_of all) (definition K.DefinedType (head_name h)))
    where
      by_test : (b : Bool) → length (constructors_from l D u (cond b [] (defined m s (has K.DefinedType (head_name h) (shown_of all)) s.item (head_name h) ∷ []))) ≡ 0
      by_test true = refl
      by_test false = ap (λ i. length (constructors_from l D u (defined m s (has K.DefinedType (head_name h) (shown_of all)) i (head_name h) ∷ []))) e
  one_of_them u m all s (UnionType h ts) e =
      let d = defined m s (has K.DefinedType (head_name h) (shown_of all)) (UnionType h ts) (head_name h) in
      let made = constructors_in l D d.name.module u (defining_module l d) (parameters_of h) ts in
      ap (λ i. length (constructors_from l D u (defined m s (has K.DefinedType (head_name h) (shown_of all)) i (head_name h) ∷ []))) e
      ∙ (let long = length-append made [] in let same = as_many d.name.module u (defining_module l d) (parameters_of h) ts m s h in omega (arith, long, same))
  one_of_them u m all s (SameType h t) e = ap (λ i. length (constructors_from l D u (defined m s (has K.DefinedType (head_name h) (shown_of all)) i (head_name h) ∷ []))) e
  one_of_them u m all s (ModuleStart w) e = refl
  one_of_them u m all s (ModuleEnd w) e = refl
  one_of_them u m all s Interface e = refl
  one_of_them u m all s Implementation e = refl
  one_of_them u m all s (Imports ws) e = refl
  one_of_them u m all s (UseOnly ws) e = refl
  one_of_them u m all s (SameInst t v) e = refl
  one_of_them u m all s (BoundInst t ts) e = refl
  one_of_them u m all s (ModeDef t v) e = refl
  one_of_them u m all s (Pred t d) e = refl
  one_of_them u m all s (Func t d) e = refl
  one_of_them u m all s (Mode t d) e = refl
  one_of_them u m all s Pragma e = refl
  one_of_them u m all s (Clause t) e = refl

  all_of_them : (u : ℕ) (m : List ℕ) (all ss : List PlainItemInFile) → length (constructors_from l D u (types_in m all ss)) ≡ length (symbols_in m ss)
  all_of_them u m all [] = refl
  all_of_them u m all (s ∷ ss) =
      let ds = types_by m all s s.item in
      let first = one_of_them u m all s s.item refl in
      let rest = all_of_them (u + length ds) m all ss in
      let both = from_both u ds (types_in m all ss) in
      let long = length-append (symbols_by m s s.item) (symbols_in m ss) in
      omega (arith, first, rest, both, long)

  of_files : (u : ℕ) (files : List File) → length (constructors_from l D u (flat (each types_of files))) ≡ length (flat (each symbols_of files))
  of_files u [] = refl
  of_files u (f ∷ fs) =
      let ds = types_of f in
      let first = all_of_them u (name_of f) (items_in_file f) (items_in_file f) in
      let rest = of_files (u + length ds) fs in
      let both = from_both u ds (flat (each types_of fs)) in
      let long = length-append (symbols_of f) (flat (each symbols_of fs)) in
      omega (arith, first, rest, both, long)

pub constructors_are_linked : ConstructorsAreLinked
constructors_are_linked files D = of_files (linked files) D 0 files
