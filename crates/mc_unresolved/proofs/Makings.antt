-- The terms and goals that picks make, around their last arguments and in lists.
use Rattle.std.proofs.Common.{◌≡◌, ℕ, ◌<◌, List, [], ◌∷◌, ◌++◌, length, map, Vec, Global, refl, sym, ap, ◌∙◌, arith}
use Rattle.std.proofs.lemmas.List.{map-append, map_push, nil_from_length}
use Rattle.std.specs.Prelude.{ℤ}
use denote.Param.Weighed.{most}
use Rattle.mc_source.specs.declared.name.Candidate.{Candidate}
use Rattle.mc_program.specs.Programs.{Expression, Expressions, expression_then, expressions, Formula, And, Or, Formulas, formula_then, ClauseForm}
use Rattle.mc_program.specs.PlainPrograms.{plain_expression, plain_goal, formulas}
use Rattle.mc_program.specs.declared.expr.Expr as X
use Rattle.mc_program.specs.declared.expr.Expr.{Expr}
use Rattle.mc_program.specs.declared.program.Goal as PG
use Rattle.mc_program.specs.declared.program.Goal.{Goal}
use Rattle.mc_accepted.specs.Resolving.{Unresolved as PlainUnresolved, any_name, Unresolved_goal, resolved_term, resolved_terms, resolved_goal, resolved_goals, resolved, named, called, listed_expressions}
use Rattle.mc_unresolved.specs.Unresolved.{plain_unresolved, unresolved_terms, unresolved_goals, plain_unresolved_goal, plain_unresolved_clause}
use Rattle.mc_unresolved.specs.code.Picked.{resolved_list, resolved_goal_list}
use Rattle.mc_unresolved.specs.declared.term.Unresolved.{Unresolved, Variable, Number, Text, Name, size-Unresolved}
use Rattle.mc_unresolved.specs.declared.term.Unresolved.TheViews as views
use Rattle.mc_unresolved.specs.declared.goal.UnresolvedGoal.{UnresolvedGoal, Atom, AllOf, OneOf}
use Rattle.mc_unresolved.specs.declared.clause.UnresolvedClause.{UnresolvedClause}
use Rattle.mc_unresolved.proofs.Views.{plain-Variable, plain-Number, plain-Text, plain-Name, plain-Atom, plain-AllOf, plain-OneOf, plain_expression-Var, plain_expression-Int, plain_expression-Str, plain_goal-Conj, plain_goal-Disj}

abbrev pub Picked : Type 0
Picked = Expression × List Candidate

-- a name over terms and one more, which has been made
abbrev pub over : List Expr → Picked → Picked
over front r = named (expressions (map plain_expression front ++ r.0 ∷ [])) r.1

pub name_above : (cs : List Candidate) (args : List Unresolved) (t : Unresolved) → t ≡ Name cs args → most size-Unresolved args < size-Unresolved t
name_above cs args t is = let z : size-Unresolved t ≡ size-Unresolved (Name cs args) = ap size-Unresolved is in omega (arith, z, views.sized-Name cs args)

-- a list of terms makes a list
pub list_made : (ts : List PlainUnresolved) (picks : List Candidate) → resolved_terms (unresolved_terms ts) picks ≡ (expressions (resolved_list ts picks).0, (resolved_list ts picks).1)
list_made [] picks = refl
list_made (t ∷ ts) picks =
    let r = resolved_term t picks in
    ap (λ (p : Expressions × List Candidate). (expression_then r.0 p.0, p.1)) (list_made ts r.1)

pub goals_made : (gs : List Unresolved_goal) (picks : List Candidate) → resolved_goals (unresolved_goals gs) picks ≡ (formulas (resolved_goal_list gs picks).0, (resolved_goal_list gs picks).1)
goals_made [] picks = refl
goals_made (g ∷ gs) picks =
    let r = resolved_goal g picks in
    ap (λ (p : Formulas × List Candidate). (formula_then r.0 p.0, p.1)) (goals_made gs r.1)

list_more : (ts : List PlainUnresolved) (t : PlainUnresolved) (picks : List Candidate) → resolved_list (ts ++ t ∷ []) picks ≡ (let rs = resolved_list ts picks in let r = resolved_term t rs.1 in (rs.0 ++ r.0 ∷ [], r.1))
list_more [] t picks = refl
list_more (x ∷ ts) t picks =
    let r = resolved_term x picks in
    ap (λ (p : List Expression × List Candidate). (r.0 ∷ p.0, p.1)) (list_more ts t r.1)

pub listed-expressions : (es : List Expression) → listed_expressions (expressions es) ≡ es
listed-expressions [] = refl
listed-expressions (e ∷ es) = ap (λ l. e ∷ l) (listed-expressions es)

-- a name's arguments but the last have been made, and the last is next
pub front_made : (rest : Unresolved) (cs : List Candidate) (args front : List Unresolved) (last : Unresolved) (made : List Expr) (picks left : List Candidate) → rest ≡ Name cs args → args ≡ front ++ last ∷ [] → (map plain_expression made, left) ≡ resolved_list (map plain_unresolved front) picks → resolved_term (plain_unresolved rest) picks ≡ over made (resolved_term (plain_unresolved last) left)
front_made rest cs args front last made picks left is split so =
    let x = plain_unresolved last in
    ap (λ t. resolved_term t picks) (ap plain_unresolved is ∙ plain-Name cs args ∙ ap (λ xs. any_name cs (unresolved_terms xs)) (ap (map plain_unresolved) split ∙ map-append plain_unresolved front (last ∷ [])))
    ∙ ap (λ (p : Expressions × List Candidate). named p.0 p.1) (list_made (map plain_unresolved front ++ x ∷ []) picks ∙ ap (λ (p : List Expression × List Candidate). (expressions p.0, p.1)) (list_more (map plain_unresolved front) x picks))
    ∙ ap (λ (p : List Expression × List Candidate). let r = resolved_term x p.1 in named (expressions (p.0 ++ r.0 ∷ [])) r.1) (sym so)

-- the last argument has been made, and the name is next
pub whole_made : (front args : List Expr) (made made' : Expr) (picks left : List Candidate) → args ≡ front ++ made ∷ [] → (plain_expression made', left) ≡ named (expressions (map plain_expression args)) picks → (plain_expression made', left) ≡ over front (plain_expression made, picks)
whole_made front args made made' picks left grown so =
    so ∙ ap (λ xs. named (expressions xs) picks) (ap (map plain_expression) grown ∙ map-append plain_expression front (made ∷ []))

-- what stands in the fronts
abbrev pub front_items : List (Vec Expr Global) → List (List Expr)
front_items fronts = map (λ (f : Vec Expr Global). f.items) fronts

pub front_push : (fronts more : List (Vec Expr Global)) (f : Vec Expr Global) → more ≡ fronts ++ f ∷ [] → front_items more ≡ front_items fronts ++ f.items ∷ []
front_push fronts more f e = ap front_items e ∙ map_push (λ (g : Vec Expr Global). g.items) fronts f

-- a name without arguments
pub bare_made : (rest : Unresolved) (cs : List Candidate) (args : List Unresolved) (none : List Expr) (r : Picked) (picks : List Candidate) → rest ≡ Name cs args → length args ≡ 0 → none ≡ [] → r ≡ named (expressions (map plain_expression none)) picks → r ≡ resolved_term (plain_unresolved rest) picks
bare_made rest cs args none r picks is len empty so =
    so ∙ ap (λ (xs : List Expr). named (expressions (map plain_expression xs)) picks) empty
    ∙ sym (ap (λ t. resolved_term t picks) (ap plain_unresolved is ∙ plain-Name cs args ∙ ap (λ xs. any_name cs (unresolved_terms (map plain_unresolved xs))) (nil_from_length args len)))

pub variable_made : (rest : Unresolved) (v : ℕ) (picks : List Candidate) → rest ≡ Variable v → (plain_expression (X.Var v), picks) ≡ resolved_term (plain_unresolved rest) picks
variable_made rest v picks is = ap (λ (e : Expression). (e, picks)) (plain_expression-Var v) ∙ sym (ap (λ t. resolved_term t picks) (ap plain_unresolved is ∙ plain-Variable v))

pub number_made : (rest : Unresolved) (n : ℤ) (picks : List Candidate) → rest ≡ Number n → (plain_expression (X.Int n), picks) ≡ resolved_term (plain_unresolved rest) picks
number_made rest n picks is = ap (λ (e : Expression). (e, picks)) (plain_expression-Int n) ∙ sym (ap (λ t. resolved_term t picks) (ap plain_unresolved is ∙ plain-Number n))

pub text_made : (rest : Unresolved) (bytes copy : List ℕ) (picks : List Candidate) → rest ≡ Text bytes → copy ≡ bytes → (plain_expression (X.Str copy), picks) ≡ resolved_term (plain_unresolved rest) picks
text_made rest bytes copy picks is same =
    ap (λ (x : List ℕ). (plain_expression (X.Str x), picks)) same ∙ ap (λ (e : Expression). (e, picks)) (plain_expression-Str bytes) ∙ sym (ap (λ t. resolved_term t picks) (ap plain_unresolved is ∙ plain-Text bytes))

-- GOALS

pub atom_made : (g : UnresolvedGoal) (cs : List Candidate) (args : List Unresolved) (made : List Expr) (picks left : List Candidate) (r : Formula × List Candidate) → g ≡ Atom cs args → (map plain_expression made, left) ≡ resolved_list (map plain_unresolved args) picks → r ≡ called (expressions (map plain_expression made)) left → r ≡ resolved_goal (plain_unresolved_goal g) picks
atom_made g cs args made picks left r is so last =
    last
    ∙ ap (λ (p : List Expression × List Candidate). called (expressions p.0) p.1) so
    ∙ sym (ap (λ (p : Expressions × List Candidate). called p.0 p.1) (list_made (map plain_unresolved args) picks))
    ∙ sym (ap (λ x. resolved_goal x picks) (ap plain_unresolved_goal is ∙ plain-Atom cs args))

pub all_made : (g : UnresolvedGoal) (gs : List UnresolvedGoal) (made : List Goal) (picks left : List Candidate) → g ≡ AllOf gs → (map plain_goal made, left) ≡ resolved_goal_list (map plain_unresolved_goal gs) picks → (plain_goal (PG.Conj made), left) ≡ resolved_goal (plain_unresolved_goal g) picks
all_made g gs made picks left is so =
    ap (λ (f : Formula). (f, left)) (plain_goal-Conj made)
    ∙ ap (λ (p : List Formula × List Candidate). (And (formulas p.0), p.1)) so
    ∙ sym (ap (λ (p : Formulas × List Candidate). (And p.0, p.1)) (goals_made (map plain_unresolved_goal gs) picks))
    ∙ sym (ap (λ x. resolved_goal x picks) (ap plain_unresolved_goal is ∙ plain-AllOf gs))

pub one_made : (g : UnresolvedGoal) (gs : List UnresolvedGoal) (made : List Goal) (picks left : List Candidate) → g ≡ OneOf gs → (map plain_goal made, left) ≡ resolved_goal_list (map plain_unresolved_goal gs) picks → (plain_goal (PG.Disj made), left) ≡ resolved_goal (plain_unresolved_goal g) picks
one_made g gs made picks left is so =
    ap (λ (f : Formula). (f, left)) (plain_goal-Disj made)
    ∙ ap (λ (p : List Formula × List Candidate). (Or (formulas p.0), p.1)) so
    ∙ sym (ap (λ (p : Formulas × List Candidate). (Or p.0, p.1)) (goals_made (map plain_unresolved_goal gs) picks))
    ∙ sym (ap (λ x. resolved_goal x picks) (ap plain_unresolved_goal is ∙ plain-OneOf gs))

-- CLAUSES

abbrev clause_of : Unresolved_goal → Expressions × List Candidate → ClauseForm
clause_of body p = record { head = listed_expressions p.0; body = (resolved_goal body p.1).0 }

pub clause_made : (clause : UnresolvedClause) (head : List Expr) (body : Goal) (picks mid left : List Candidate) → (map plain_expression head, mid) ≡ resolved_list (map plain_unresolved clause.head) picks → (plain_goal body, left) ≡ resolved_goal (plain_unresolved_goal clause.body) mid → (let made : ClauseForm = record { head = map plain_expression head; body = plain_goal body } in made) ≡ resolved (plain_unresolved_clause clause) picks
clause_made clause head body picks mid left so last =
    let g = plain_unresolved_goal clause.body in
    let es = map plain_expression head in
    let with_body : Formula → ClauseForm = λ f. record { head = es; body = f } in
    let with_head : List Expression → ClauseForm = λ xs. record { head = xs; body = (resolved_goal g mid).0 } in
    ap (λ (p : Formula × List Candidate). with_body p.0) last
    ∙ ap with_head (sym (listed-expressions es))
    ∙ ap (λ (p : List Expression × List Candidate). clause_of g (expressions p.0, p.1)) so
    ∙ sym (ap (clause_of g) (list_made (map plain_unresolved clause.head) picks))
