-- What bodies of procedures mention is declared: a constructor that its type lists, a constant that
-- is a value, a builtin that a predicate has. (Mercury Language Reference Manual: Types; this
-- project's form of code.)
use Rattle.std.specs.Prelude.{◌≡◌, ℕ, List, Option, Some, true}
use Rattle.mc_program.specs.Values.{Val, int, char, str, con, state}
use Rattle.mc_program.specs.Programs.{TypeTerm, Source}
use Rattle.mc_model.specs.Lists.{is_in}
use Rattle.mc_model.specs.Types.{IsValue}
use Rattle.mc_model.specs.Flat.{Flat_goal}
use Rattle.mc_model.specs.Scheduled.{Node, Procedure}
use Rattle.mc_model.specs.Good.{System}
use Rattle.mc_accepted.specs.ProperTypes.{Parameters}
use Rattle.mc_accepted.specs.Typing.{TypedGoal}
use Rattle.mc_accepted.specs.Ordered.{Insts, OrderedNode}
use Rattle.mc_accepted.specs.Fits.{FitsProcedure}
use Rattle.mc_accepted.specs.Accepted.{AcceptedProcedure}
use Rattle.mc_flat_code.specs.Mentions.{Mention, of_symbol, of_constant, of_builtin, Mentions}

-- an integer, a character or a string
abbrev pub IsScalarValue : Val → Type 0
IsScalarValue (int n) = Unit {0}
IsScalarValue (char c) = Unit {0}
IsScalarValue (str bytes) = Unit {0}
IsScalarValue (con s vs) = ⊥
IsScalarValue (state written taken) = ⊥

abbrev pub IsDeclared : Source → Mention → Type 0
IsDeclared P (of_symbol s) = (u : ℕ) × (is_in s (P.symbols_of u) ≡ true)
IsDeclared P (of_constant v) = IsValue P v × IsScalarValue v
IsDeclared P (of_builtin op) = (p : ℕ) × ((P.preds p).builtin ≡ Some op)

-- an ordered goal mentions what is declared, where the goal that it is an order of is typed
abbrev pub OrderedMentionDeclared : Type 0
OrderedMentionDeclared =
    (S : System) (T : ℕ → TypeTerm) (O Q : List ℕ) (b : Insts) (g : Flat_goal) (n : Node)
    (o : Option Insts) (m : Mention)
    → OrderedNode S T O Q b g n o
    → TypedGoal S.world.source T g → Mentions n m → IsDeclared S.world.source m

-- so does the body of a procedure that fits and is accepted
abbrev pub BodiesMentionDeclared : Type 0
BodiesMentionDeclared =
    (S : System) (D : Parameters) (p : Procedure) (m : Mention)
    → FitsProcedure S D p
    → AcceptedProcedure S p → Mentions p.body m → IsDeclared S.world.source m
