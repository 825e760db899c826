-- The forms that this project's profile of the Mercury manual (Items, Clauses, Goals, Insts and
-- modes) leaves out, and the first of them in an item: a term comes before its parts, and parts
-- come left to right.
use Rattle.std.specs.Prelude.{ℕ, nat_eq, nat_lt, ◌&&◌, List, [], ◌∷◌, Option, Some, None, codes}
use Rattle.std.specs.Option.{option_or}
use Rattle.std.specs.Bool.{then_some}
use Rattle.std.specs.List.{starts_with}
use Rattle.mc_term_data.specs.Plain.{PlainTerm, PlainNode, PlainTerms, at, no_term, more_terms, Var, App, Items, Tailed, Conj, Disj}
use Rattle.mc_term_data.specs.Names.{count, Row, row, found}
use Rattle.mc_clause_syntax.specs.declared.goal_form.GoalForm.{GoalForm}
use Rattle.mc_clause_syntax.specs.declared.goal_form.GoalForm.TheVariants as G
use Rattle.mc_clause_syntax.specs.GoalForms.{goal_form}
use Rattle.mc_items.specs.Declarations.{is_order, declaration}
use Rattle.mc_items.specs.Roles.{parts, inner, joined}
use Rattle.mc_items.specs.declared.role.Role.{Role}
use Rattle.mc_items.specs.declared.role.Role.TheVariants as S
use Rattle.mc_items.specs.declared.reason.LeftOut.{LeftOut}
use Rattle.mc_items.specs.declared.reason.LeftOut.TheVariants as L

-- the operators that are read and then refused, wherever they stand: those over two parts, those
-- over one that stand before a declaration, and those that begin an item
unfoldable pub infix_rows : List (Row LeftOut)
infix_rows =
    row (codes "^") 2 L.FieldAccess
    ∷ row (codes ":=") 2 L.FieldAccess
    ∷ row (codes "for") 2 L.InstFor
    ∷ row (codes "&") 2 L.ParallelConjunction
    ∷ row (codes "where") 2 L.UserEquality
    ∷ row (codes "-->") 2 L.GrammarRule
    ∷ []

unfoldable pub prefix_rows : List (Row LeftOut)
prefix_rows =
    row (codes "impure") 1 L.Purity ∷ row (codes "semipure") 1 L.Purity
    ∷ row (codes "solver") 1 L.SolverType ∷ []

unfoldable pub item_rows : List (Row LeftOut)
item_rows =
    row (codes "include_module") 1 L.NestedModule
    ∷ row (codes "typeclass") 1 L.TypeClass
    ∷ row (codes "instance") 1 L.TypeClass
    ∷ row (codes "promise") 1 L.Promise
    ∷ row (codes "initialise") 1 L.Initialise
    ∷ []

abbrev pub refused : List ℕ → ℕ → Option LeftOut
refused w n =
    option_or (found infix_rows w n) (option_or (found prefix_rows w n) (found item_rows w n))

-- the parts of a conditional expression, by what they would be as a goal
abbrev pub conditional : GoalForm → Option LeftOut
conditional G.If = Some L.ConditionalExpression
conditional G.Then = Some L.ConditionalExpression
conditional G.Else = Some L.ConditionalExpression
conditional G.Arrow = Some L.ConditionalExpression
conditional _ = None

unfoldable pub inst_rows : List (Row LeftOut)
inst_rows =
    row (codes "any") 0 L.AnyInst
    ∷ row (codes "mostly_unique") 0 L.MostlyUniqueInst
    ∷ row (codes "mostly_clobbered") 0 L.MostlyUniqueInst
    ∷ []

unfoldable pub mode_specific_rows : List (Row LeftOut)
mode_specific_rows = row (codes "::") 2 L.ModeSpecificClause ∷ []

-- a type or inst `pred(..)` or `func(..)`
abbrev pub higher_order : List ℕ → PlainTerms → Option LeftOut
higher_order w ts = then_some (nat_lt 0 (count ts) && is_order w) L.HigherOrder

-- what is left out in the head of a clause
abbrev pub head_form : GoalForm → List ℕ → ℕ → Option LeftOut
head_form form w n = option_or (conditional form) (found mode_specific_rows w n)

-- what is left out, by what the name over these parts is there, and by its form as a goal
abbrev pub by_role : Role → GoalForm → List ℕ → PlainTerms → Option LeftOut
by_role S.Item form w ts = head_form form w (count ts)
by_role S.Head form w ts = head_form form w (count ts)
by_role S.Argument form w ts = conditional form
by_role S.Goal form w ts = then_some (starts_with nat_eq w (codes "promise_")) L.Promise
by_role S.Declaration form w ts = declaration w ts
by_role S.Field form w ts = higher_order w ts
by_role S.TypeTerm form w ts = higher_order w ts
by_role S.Parameter form w ts = higher_order w ts
by_role S.Inst form w ts = option_or (higher_order w ts) (found inst_rows w (count ts))
by_role _ form w ts = None

-- what a name over these parts is left out for; a qualified name is no operator and no form
abbrev pub reason : Role → List (List ℕ) → PlainTerms → Option LeftOut
reason s (w ∷ []) ts =
    option_or (refused w (count ts)) (by_role s (goal_form (w ∷ []) (count ts)) w ts)
reason s _ ts = None

abbrev mutual
  -- the first form that is left out in a term
  pub left_out : Role → PlainTerm → Option LeftOut
  left_out s (at n l) = left_out_node s n

  pub left_out_node : Role → PlainNode → Option LeftOut
  left_out_node S.Goal (Var w) = Some L.HigherOrder
  left_out_node s (App w ts) = option_or (reason s w ts) (left_out_parts (parts s w (count ts)) ts)
  left_out_node s (Items ts) = left_out_all (inner s) ts
  left_out_node s (Tailed ts t) = option_or (left_out_all (inner s) ts) (left_out (inner s) t)
  left_out_node s (Conj ts) = left_out_all (joined s) ts
  left_out_node s (Disj ts) = left_out_all (joined s) ts
  left_out_node s _ = None

  pub left_out_parts : Role × Role → PlainTerms → Option LeftOut
  left_out_parts ss no_term = None
  left_out_parts ss (more_terms t ts) = option_or (left_out ss.0 t) (left_out_all ss.1 ts)

  pub left_out_all : Role → PlainTerms → Option LeftOut
  left_out_all s no_term = None
  left_out_all s (more_terms t ts) = option_or (left_out s t) (left_out_all s ts)

-- the first form that is left out in an item: a declaration, a clause with a body, or a fact
abbrev pub item_left_out : PlainTerm → Option LeftOut
item_left_out t = left_out S.Item t

-- the first form that is left out in a goal
abbrev pub goal_left_out : PlainTerm → Option LeftOut
goal_left_out t = left_out S.Goal t
