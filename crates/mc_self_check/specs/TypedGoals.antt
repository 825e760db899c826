-- The goal of a predicate is typed. (Mercury Language Reference Manual: Types.)
use Rattle.std.specs.Prelude.{◌≡◌, ℕ, map}
use Rattle.mc_program.specs.Programs.{Source}
use Rattle.mc_model.specs.PlainGoals.{plain_flat}
use Rattle.mc_model.specs.declared.flat.Normal.{Normal}
use Rattle.mc_accepted.specs.Typing.{TypedGoal}
use Rattle.mc_procs.specs.VariableTypes.{type_in}

-- its head variables have the predicate's types, and its body is typed
pub record IsTyped (P : Source) (p : ℕ) (g : Normal) : Type 0 where
  pub head : map (type_in g.var_types) g.head ≡ (P.preds p).types
  pub body : TypedGoal P (type_in g.var_types) (plain_flat g.body)
