-- What a clause is resolved to, or the rule that it breaks. (Mercury Language Reference Manual: Types;
-- this project's profile: the order of candidates and of the walk, and the limit.)
use Rattle.std.specs.Prelude.{◌≡◌, List, length, map, Result, Ok, Err}
use Rattle.mc_program.specs.Programs.{Source}
use Rattle.mc_program.specs.PlainPrograms.{plain_clause, plain_type}
use Rattle.mc_program.specs.declared.program.Resolved.{Resolved}
use Rattle.mc_source.specs.declared.name.Candidate.{Candidate}
use Rattle.mc_accepted.specs.ProperTypes.{Parameters, EachProper}
use Rattle.mc_accepted.specs.Resolving.{steps_of, resolved, Resolves, WellTyped, TooMany, FirstTwo, assignments_limit}
use Rattle.mc_accepted.specs.MostGeneral.{MostGeneral}
use Rattle.mc_unresolved.specs.Unresolved.{plain_unresolved_clause}
use Rattle.mc_unresolved.specs.declared.clause.UnresolvedClause.{UnresolvedClause}
use Rattle.mc_goals.specs.Resolved.{typed_clause}
use Rattle.laws_made_types.specs.Known.{AllKnown, ClauseHasValues, ClauseHasNames}
use Rattle.laws_made_types.specs.MadeTypes.{AreVariableTypes}
use Rattle.mc_typecheck.specs.WellFormed.{WalkIsDeclared}
use Rattle.mc_typecheck.specs.declared.checking.TypeFault.{TypeFault}
use Rattle.mc_typecheck.specs.declared.checking.TypeFault.TheVariants as F

-- The clause has one resolution, and this is the clause that it makes, with the types of its variables
-- and, behind them, of those that its normal goal makes.
pub record IsResolved
    (P : Source) (D : Parameters) (clause : UnresolvedClause) (made : Resolved)
    : Type 0 where
  pub typed : WellTyped P D (plain_unresolved_clause clause)
  pub form : plain_clause made.clause ≡ resolved (plain_unresolved_clause clause) typed.picks
  pub vars : made.clause.vars ≡ length clause.names
  pub place : made.clause.place ≡ clause.place
  pub types :
      AreVariableTypes P D (plain_unresolved_clause clause) typed.picks (length clause.names)
      (map plain_type made.var_types)
  -- The most general types of the normal goal, where the constructors that are picked are declared,
  -- texts and characters are values, and each variable has a name.
  pub most_general :
      AllKnown P D typed.picks
      → ClauseHasValues P (plain_unresolved_clause clause)
      → ClauseHasNames (length clause.names) (plain_unresolved_clause clause)
      → MostGeneral P D (P.preds clause.pred).types (typed_clause made)
  -- well formed where what the clause may speak of is declared with well-formed types
  pub proper :
      WalkIsDeclared P D (steps_of (plain_unresolved_clause clause))
      → EachProper D (map plain_type made.var_types)
  pub names : made.var_names ≡ clause.names

module _ (P : Source) (D : Parameters) (clause : UnresolvedClause) where
  abbrev pub PassesLimit : Type 0
  PassesLimit = TooMany P D assignments_limit (plain_unresolved_clause clause)

  -- The one resolution; or none types the clause; or these are the first two that do. In none of
  -- these cases is the limit passed. Or it is. Memory can be wanting at any clause.
  abbrev pub Answers : Result Resolved TypeFault → Type 0
  Answers (Ok made) = IsResolved P D clause made × (PassesLimit → ⊥)
  Answers (Err F.None) =
      ((picks : List Candidate) → Resolves P D (plain_unresolved_clause clause) picks → ⊥)
      × (PassesLimit → ⊥)
  Answers (Err (F.Two first second)) =
      FirstTwo P D (plain_unresolved_clause clause) first second × (PassesLimit → ⊥)
  Answers (Err F.TooMany) = PassesLimit
  Answers (Err F.Memory) = Unit {0}
