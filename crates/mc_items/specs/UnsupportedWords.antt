-- The words that the program prints for what is left out, and the tokens that are (this project's
-- profile).
use Rattle.std.specs.Prelude.{ℕ, nat_eq, nat_le, ◌&&◌, ◌||◌, List, codes, if◌then◌else◌}
use Rattle.mc_items.specs.declared.reason.LeftOut.{LeftOut}
use Rattle.mc_items.specs.declared.reason.LeftOut.TheVariants as L

abbrev pub words : LeftOut → List ℕ
words L.HigherOrder = codes "higher-order"
words L.TypeClass = codes "type class"
words L.ExistentialType = codes "existential type"
words L.Float = codes "float"
words L.IntegerTail = codes "integer tail"
words L.Backquote = codes "backquote"
words L.Tuple = codes "tuple"
words L.NestedModule = codes "nested module"
words L.GrammarRule = codes "grammar rule"
words L.FieldAccess = codes "field access"
words L.InstFor = codes "inst for"
words L.ParallelConjunction = codes "parallel conjunction"
words L.Purity = codes "purity"
words L.SolverType = codes "solver type"
words L.UserEquality = codes "user equality"
words L.Promise = codes "promise"
words L.Initialise = codes "initialise"
words L.Mutable = codes "mutable"
words L.AnyInst = codes "any inst"
words L.MostlyUniqueInst = codes "mostly unique inst"
words L.Pragma = codes "pragma"
words L.ConditionalExpression = codes "conditional expression"
words L.ModeSpecificClause = codes "mode-specific clause"

-- The form that a token left out is, by its first byte: a digit begins a float, a bracket behind a
-- variable a higher-order term, and a letter or an underscore stands directly behind a number.
abbrev pub of_token : ℕ → LeftOut
of_token b =
    if nat_le 48 b && nat_le b 57 then L.Float
    else if nat_eq b 96 then L.Backquote
    else if nat_eq b 123 || nat_eq b 125 then L.Tuple
    else if nat_eq b 40 then L.HigherOrder
    else L.IntegerTail
