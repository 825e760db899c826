-- What is asked of a procedure that fits, of its predicate and its goal; not that its insts are tidy.
use Rattle.std.specs.Prelude.{◌≡◌, ℕ, length, map, get_or, None}
use Rattle.mc_program.specs.Programs.{variable_type, Predicate, Source}
use Rattle.mc_model.specs.Flat.{Flat_goal}
use Rattle.mc_model.specs.Scheduled.{Procedure}
use Rattle.mc_accepted.specs.Fits.{EachClauseHasScopes, HeadsHave}
use Rattle.mc_accepted.specs.ProperTypes.{Parameters, ProperType}
use Rattle.mc_accepted.specs.Typing.{TypedGoal}
use Rattle.mc_procs.specs.Named.{NumbersBelow, Named}
use Rattle.mc_procs.specs.Procedures.{PlainProcs}
use Rattle.mc_procs.specs.Fitting.{bounds_of}
use Rattle.mc_insts.specs.Graphs.{count_of}

-- the numbers of a procedure name what is there
pub record NumbersFit (q : PlainProcs) (p : Procedure) : Type 0 where
  pub head : NumbersBelow (length p.var_types) p.head
  pub first : NumbersBelow (count_of q.insts) p.first
  pub last : NumbersBelow (count_of q.insts) p.last
  pub body : Named (bounds_of q p) p.body

pub record FitsPredicate (P : Source) (D : Parameters) (d : Predicate) (goal : Flat_goal)
    (p : Procedure) : Type 0 where
  pub heads : HeadsHave (length d.types) d.clauses
  pub scopes : EachClauseHasScopes d.clauses
  pub types : (x : ℕ) → ProperType D (get_or p.var_types x (variable_type x))
  pub head_types : map (λ x. get_or p.var_types x (variable_type x)) p.head ≡ d.types
  pub typed : TypedGoal P (λ x. get_or p.var_types x (variable_type x)) goal
  pub no_builtin : d.builtin ≡ None
