-- The plain data that types, terms, goals of clauses and programs stand for, without their rows and
-- boxes.
use Rattle.std.specs.Prelude.{List, [], ◌∷◌, map, get_or, None}
use Rattle.mc_program.specs.Values.{int, char, str}
use Rattle.mc_program.specs.Programs.{TypeTerm, int_type, char_type, string_type, state_type, variable_type, union_type, TypeTerms, no_types, type_then, Expression, variable, constant, made, applied, expressions, Formula, Equal, Call, And, Or, If, Not, Exists, Formulas, no_formulas, formula_then, FullName, Constructor, ClauseForm, Predicate, Source}
use Rattle.mc_program.specs.declared.ty.Ty.{Ty}
use Rattle.mc_program.specs.declared.ty.Ty.TheOpen as T
use Rattle.mc_program.specs.declared.ty.Ty.TheFolds.{fold-Ty}
use Rattle.mc_program.specs.declared.expr.Expr.{Expr}
use Rattle.mc_program.specs.declared.expr.Expr.TheOpen as E
use Rattle.mc_program.specs.declared.expr.Expr.TheFolds.{fold-Expr}
use Rattle.mc_program.specs.declared.program.Goal.{Goal}
use Rattle.mc_program.specs.declared.program.Goal.TheOpen as G
use Rattle.mc_program.specs.declared.program.Goal.TheFolds.{fold-Goal}
use Rattle.mc_source.specs.declared.name.Name.{Name}
use Rattle.mc_program.specs.declared.program.Symbol.{Symbol}
use Rattle.mc_program.specs.declared.program.TypeDef.{TypeDef}
use Rattle.mc_program.specs.declared.program.Clause.{Clause}
use Rattle.mc_program.specs.declared.program.Pred.{Pred}
use Rattle.mc_program.specs.declared.program.Program.{Program}

-- the types, and the goals, of a list
abbrev pub type_terms : List TypeTerm → TypeTerms
type_terms [] = no_types
type_terms (t ∷ ts) = type_then t (type_terms ts)

abbrev pub formulas : List Formula → Formulas
formulas [] = no_formulas
formulas (g ∷ gs) = formula_then g (formulas gs)

abbrev pub plain_type_step : T.Ty-F TypeTerm → TypeTerm
plain_type_step T.Int = int_type
plain_type_step T.Char = char_type
plain_type_step T.Str = string_type
plain_type_step T.Io = state_type
plain_type_step (T.Var v) = variable_type v
plain_type_step (T.Union u args) = union_type u (type_terms args)

abbrev pub plain_type : Ty → TypeTerm
plain_type = fold-Ty TypeTerm plain_type_step

abbrev pub plain_expression_step : E.Expr-F Expression → Expression
plain_expression_step (E.Var v) = variable v
plain_expression_step (E.Int n) = constant (int n)
plain_expression_step (E.Char c) = constant (char c)
plain_expression_step (E.Str t) = constant (str t)
plain_expression_step (E.Con s args) = made s (expressions args)
plain_expression_step (E.Apply f args) = applied f (expressions args)

abbrev pub plain_expression : Expr → Expression
plain_expression = fold-Expr Expression plain_expression_step

-- `true` is the conjunction of no goals
abbrev pub plain_goal_step : G.Goal-F Formula → Formula
plain_goal_step G.True = And no_formulas
plain_goal_step (G.Conj goals) = And (formulas goals)
plain_goal_step (G.Disj goals) = Or (formulas goals)
plain_goal_step (G.Ite vars c t e) = If vars c.value t.value e.value
plain_goal_step (G.Not g) = Not g.value
plain_goal_step (G.Some vars g) = Exists vars g.value
plain_goal_step (G.Equal a b) = Equal (plain_expression a) (plain_expression b)
plain_goal_step (G.Call p args) = Call p (expressions (map plain_expression args))

abbrev pub plain_goal : Goal → Formula
plain_goal = fold-Goal Formula plain_goal_step

abbrev pub plain_name : Name → FullName
plain_name n = record { module_name = n.module; bytes = n.name; arity = n.arity }

abbrev pub plain_symbol : Symbol → Constructor
plain_symbol s =
    record { name = plain_name s.name; of_type = s.of_type; args = map plain_type s.args }

abbrev pub plain_clause : Clause → ClauseForm
plain_clause c = record { head = map plain_expression c.head; body = plain_goal c.body }

abbrev pub plain_pred : Pred → Predicate
plain_pred p =
    record {
      name = plain_name p.name;
      types = map plain_type p.types;
      clauses = map plain_clause p.clauses;
      builtin = p.builtin;
    }

-- what stands at a number that a program doesn't have
abbrev pub no_name : FullName
no_name = record { module_name = []; bytes = []; arity = 0 }

abbrev pub no_symbol : Constructor
no_symbol = record { name = no_name; of_type = 0; args = [] }

abbrev pub no_pred : Predicate
no_pred = record { name = no_name; types = []; clauses = []; builtin = None }

-- a program's symbols, each union type's symbols, and its predicates, by number
abbrev pub plain_program : Program → Source
plain_program P =
    record {
      symbols = λ k. get_or (map plain_symbol P.symbols) k no_symbol;
      symbols_of = λ u. get_or (map (λ (t : TypeDef). t.symbols) P.types) u [];
      preds = λ k. get_or (map plain_pred P.preds) k no_pred;
    }
