-- The whole of what is joined.
use Rattle.std.proofs.Common.{◌≡◌, ◌<◌, ◌+◌, ℕ, suc, List, [], ◌∷◌, ◌++◌, map, length, get_or, Bool, false, append-nil, refl, sym, ap, ap₂, ◌∙◌, subst, arith, Option, Some, None, Result, Ok, Err}
use Rattle.std.specs.Prelude.{IfOk}
use Rattle.std.proofs.lemmas.List.{length-map, map-append}
use Rattle.mc_program.specs.Programs.{TypeTerm, Expression, variable, ClauseForm, Constructor, Predicate, Source}
use Rattle.mc_program.specs.PlainPrograms.{plain_symbol, plain_pred, plain_program, no_symbol, no_pred}
use Rattle.mc_program.specs.declared.program.Pred.{Pred}
use Rattle.mc_program.specs.declared.program.Program.{Program}
use Rattle.mc_program.specs.declared.program.Resolved.{Resolved}
use Rattle.mc_program.specs.declared.program.TypeDef.{TypeDef}
use Rattle.mc_accepted.specs.NormalTypes.{TypedClause}
use Rattle.mc_names.specs.Linked.{Defined, Linked}
use Rattle.mc_type_table.specs.Rules.{definitions}
use Rattle.mc_type_table.specs.Table.{table}
use Rattle.mc_declarations.specs.Declarations.{constructors_from, predicate_of}
use Rattle.mc_declarations.specs.Made.{DeclaredAs}
use Rattle.mc_goals.specs.Resolved.{clause_of, typed_clause}
use Rattle.mc_core_program.specs.Whole.{of_number, name_in, whole_types, whole_clause, whole_query, each_with_clauses}
use Rattle.mc_core_program.specs.WholeProgramGoals.{HasTypedGoals}
use Rattle.mc_core_program.specs.Wholes.{asked, asked_names, behind, query_type, query_predicate, query_clauses, final_definitions, bare_predicates, all_clauses, all_predicates, clauses_of, clauses_from, whole_source, IsWhole}
use Rattle.mc_core_program.specs.code.Rows.{argument_type, argument_name, predicate_over, names_over, IsJoined}
use Rattle.mc_core_program.specs.declared.whole_program_program.WholeProgram.{WholeProgram}
use Rattle.mc_core_program.proofs.Queries.{nameless}
use Rattle.mc_core_program.proofs.NumberLemmas.{rows_from}

-- ARGUMENTS THAT ARE VARIABLES

over_variables : {B : Type 0} (f : Expression → B) (xs : List ℕ) → map f (map variable xs) ≡ map (λ x. f (variable x)) xs
over_variables f [] = refl
over_variables f (x ∷ xs) = ap (λ ys. f (variable x) ∷ ys) (over_variables f xs)

pub query_predicate_is : (l : Linked) (c : TypedClause) → predicate_over (whole_query (final_definitions l) c) ≡ query_predicate l c
query_predicate_is l c =
    ap₂ nameless (length-map (asked c) variable)
    (over_variables (argument_type (whole_types (final_definitions l) c)) (asked c))

pub names_are : (l : Linked) (c : TypedClause) → names_over (whole_query (final_definitions l) c) ≡ asked_names (Some c)
names_are l c = over_variables (argument_name c.names) (asked c)

-- ROWS

bare : (rs : List Resolved) → map clause_of rs ≡ map (λ (c : TypedClause). c.clause) (map typed_clause rs)
bare [] = refl
bare (r ∷ rs) = ap (λ cs. clause_of r ∷ cs) (bare rs)

all_bare : (rows : List (List Resolved)) → map (map clause_of) rows ≡ map (map (λ (c : TypedClause). c.clause)) (map (map typed_clause) rows)
all_bare [] = refl
all_bare (rs ∷ rows) = ap₂ (λ cs css. cs ∷ css) (bare rs) (all_bare rows)

abbrev source : List Constructor → List TypeDef → List Predicate → Source
source cs ts ps =
    record {
      symbols = λ k. get_or cs k no_symbol;
      symbols_of = λ u. get_or (map (λ (t : TypeDef). t.symbols) ts) u [];
      preds = λ k. get_or ps k no_pred;
    }

-- THE WHOLE

pub is_whole :
    (l : Linked) (clauses : List (ℕ × TypedClause)) (query : Option TypedClause)
    (program : Program) (rows : List (List Resolved)) (whole : WholeProgram)
    → program.types ≡ table l
    → map plain_symbol program.symbols ≡ constructors_from l (definitions l) 0 l.types
    → map plain_pred program.preds ≡ bare_predicates l query
    → map (map typed_clause) rows ≡ all_clauses l clauses query
    → IsJoined program rows whole
    → whole.exported.items ≡ map (λ (d : Defined). d.exported) l.preds ++ behind (λ c. false) query
    → whole.variables ≡ asked_names query
    → IsWhole l clauses query whole
is_whole l clauses query program rows whole types symbols preds all joined exported variables =
    let the_types : whole.program.types ≡ table l = joined.types ∙ types in
    let the_symbols : map plain_symbol whole.program.symbols ≡ constructors_from l (definitions l) 0 l.types =
    ap (map plain_symbol) joined.symbols ∙ symbols in
    let the_preds : map plain_pred whole.program.preds ≡ all_predicates l clauses query =
    joined.preds
    ∙ ap₂ each_with_clauses preds (all_bare rows ∙ ap (map (map (λ (c : TypedClause). c.clause))) all)
    in
    record {
      is =
          ap (λ (cs : List Constructor). source cs whole.program.types (map plain_pred whole.program.preds)) the_symbols
          ∙ ap (λ (ts : List TypeDef). source (constructors_from l (definitions l) 0 l.types) ts (map plain_pred whole.program.preds)) the_types
          ∙ ap (source (constructors_from l (definitions l) 0 l.types) (table l)) the_preds;
      types = the_types;
      symbols = the_symbols;
      preds = the_preds;
      goals = joined.goals;
      typed =
          subst (λ ps. HasTypedGoals ps (all_clauses l clauses query) whole.goals.items) preds
          (subst (λ css. HasTypedGoals (map plain_pred program.preds) css whole.goals.items) all joined.typed);
      exported = exported;
      variables = variables;
    }

-- without a query
pub without_query :
    (l : Linked) (clauses : List (ℕ × TypedClause))
    (program : Program) (rows : List (List Resolved)) (whole : WholeProgram)
    → DeclaredAs l (definitions l) program
    → map (map typed_clause) rows ≡ clauses_from l clauses 0 l.preds
    → IsJoined program rows whole
    → whole.exported.items ≡ map (λ (d : Defined). d.exported) l.preds
    → whole.variables ≡ []
    → IsWhole l clauses None whole
without_query l clauses program rows whole declared all joined exported variables =
    is_whole l clauses None program rows whole declared.types declared.symbols
    (declared.preds ∙ sym (append-nil (map (predicate_of l (definitions l)) l.preds)))
    (all ∙ sym (append-nil (clauses_from l clauses 0 l.preds)))
    joined
    (exported ∙ sym (append-nil (map (λ (d : Defined). d.exported) l.preds)))
    variables

abbrev with_pred : Program → Pred → Program
with_pred program p =
    record { types = program.types; symbols = program.symbols; preds = program.preds ++ p ∷ [] }

-- with one, of a predicate and a clause
pub with_query :
    (l : Linked) (clauses : List (ℕ × TypedClause)) (c : TypedClause) (D : ℕ → Option TypeTerm)
    (program : Program) (rows : List (List Resolved)) (whole : WholeProgram)
    (pred : Pred) (clause : Resolved)
    → D ≡ final_definitions l
    → DeclaredAs l (definitions l) program
    → map (map typed_clause) rows ≡ clauses_from l clauses 0 l.preds
    → typed_clause clause ≡ whole_query D c
    → plain_pred pred ≡ predicate_over (typed_clause clause)
    → IsJoined (with_pred program pred) (rows ++ (clause ∷ []) ∷ []) whole
    → whole.exported.items ≡ map (λ (d : Defined). d.exported) l.preds ++ false ∷ []
    → whole.variables ≡ names_over (typed_clause clause)
    → IsWhole l clauses (Some c) whole
with_query l clauses c D program rows whole pred clause same declared all asks over joined exported variables =
    let clause_is : typed_clause clause ≡ whole_query (final_definitions l) c = asks ∙ ap (λ (E : ℕ → Option TypeTerm). whole_query E c) same in
    is_whole l clauses (Some c) (with_pred program pred) (rows ++ (clause ∷ []) ∷ []) whole
    declared.types declared.symbols
    (map-append plain_pred program.preds (pred ∷ [])
    ∙ ap₂ (λ ps p. ps ++ p ∷ []) declared.preds (over ∙ ap predicate_over clause_is ∙ query_predicate_is l c))
    (map-append (map typed_clause) rows ((clause ∷ []) ∷ [])
    ∙ ap₂ (λ css b. css ++ (b ∷ []) ∷ []) all clause_is)
    joined exported
    (variables ∙ ap names_over clause_is ∙ names_are l c)

-- WHAT COMES OF A CALL

all_three :
    {X E : Type 0} (r : Result X E) (P Q R S : X → Type 0)
    → ((x : X) → P x → Q x → R x → S x) → IfOk r P → IfOk r Q → IfOk r R → IfOk r S
all_three (Ok x) P Q R S f p q s = f x p q s
all_three (Err e) P Q R S f p q s = tt

pub comes_without :
    {E : Type 0} (l : Linked) (clauses : List (ℕ × TypedClause)) (query : Option TypedClause)
    (program : Program) (rows : List (List Resolved)) (exported : List Bool)
    (variables : List (List ℕ)) (r : Result WholeProgram E)
    → query ≡ None
    → DeclaredAs l (definitions l) program
    → map (map typed_clause) rows ≡ clauses_from l clauses 0 l.preds
    → exported ≡ map (λ (d : Defined). d.exported) l.preds
    → variables ≡ []
    → IfOk r (IsJoined program rows)
    → IfOk r (λ w. w.exported.items ≡ exported)
    → IfOk r (λ w. w.variables ≡ variables)
    → IfOk r (IsWhole l clauses query)
comes_without l clauses query program rows exported variables r none declared all so nothing joined e v =
    subst (λ q. IfOk r (IsWhole l clauses q)) (sym none)
    (all_three r (IsJoined program rows) (λ w. w.exported.items ≡ exported) (λ w. w.variables ≡ variables) (IsWhole l clauses None)
    (λ w j f x. without_query l clauses program rows w declared all j (f ∙ so) (x ∙ nothing)) joined e v)

pub comes_with :
    {E : Type 0} (l : Linked) (clauses : List (ℕ × TypedClause)) (query : Option TypedClause)
    (c : TypedClause) (D : ℕ → Option TypeTerm)
    (program : Program) (rows : List (List Resolved)) (exported : List Bool)
    (variables : List (List ℕ)) (pred : Pred) (clause : Resolved) (r : Result WholeProgram E)
    → query ≡ Some c
    → D ≡ final_definitions l
    → DeclaredAs l (definitions l) program
    → map (map typed_clause) rows ≡ clauses_from l clauses 0 l.preds
    → exported ≡ map (λ (d : Defined). d.exported) l.preds
    → typed_clause clause ≡ whole_query D c
    → plain_pred pred ≡ predicate_over (typed_clause clause)
    → variables ≡ names_over (typed_clause clause)
    → IfOk r (IsJoined (with_pred program pred) (rows ++ (clause ∷ []) ∷ []))
    → IfOk r (λ w. w.exported.items ≡ exported ++ false ∷ [])
    → IfOk r (λ w. w.variables ≡ variables)
    → IfOk r (IsWhole l clauses query)
comes_with l clauses query c D program rows exported variables pred clause r some same declared all so asks over names joined e v =
    subst (λ q. IfOk r (IsWhole l clauses q)) (sym some)
    (all_three r (IsJoined (with_pred program pred) (rows ++ (clause ∷ []) ∷ [])) (λ w. w.exported.items ≡ exported ++ false ∷ []) (λ w. w.variables ≡ variables) (IsWhole l clauses (Some c))
    (λ w j f x. with_query l clauses c D program rows w pred clause same declared all asks over j (f ∙ ap (λ es. es ++ false ∷ []) so) (x ∙ names)) joined e v)

-- the rows of all predicates
pub rows_of_all :
    (l : Linked) (clauses : List (ℕ × TypedClause)) (H : ℕ → Option TypeTerm) (program : Program)
    (rows : List (List Resolved)) (count : ℕ)
    → H ≡ final_definitions l
    → DeclaredAs l (definitions l) program
    → length rows ≡ count
    → count ≡ length program.preds
    → ((p : ℕ) → p < count → map typed_clause (get_or rows p []) ≡ map (whole_clause H) (of_number p clauses))
    → map (map typed_clause) rows ≡ clauses_from l clauses 0 l.preds
rows_of_all l clauses H program rows count same declared as_many counted each =
    let preds : length program.preds ≡ length l.preds =
    sym (length-map program.preds plain_pred)
    ∙ ap length declared.preds
    ∙ length-map l.preds (predicate_of l (definitions l))
    in
    rows_from l clauses 0 l.preds rows (as_many ∙ counted ∙ preds)
    (λ p less.
    each p (omega (arith, less, as_many))
    ∙ ap (λ (D : ℕ → Option TypeTerm). map (whole_clause D) (of_number p clauses)) same
    ∙ ap (clauses_of l clauses) (let z : p ≡ 0 + p = omega arith in z))
