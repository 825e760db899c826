-- What is made of a clause by picks.
use Rattle.std.specs.Prelude.{◌≡◌, List, length, map}
use Rattle.mc_program.specs.Programs.{Source}
use Rattle.mc_program.specs.PlainPrograms.{plain_clause, plain_type}
use Rattle.mc_program.specs.declared.program.Resolved.{Resolved}
use Rattle.mc_source.specs.declared.name.Candidate.{Candidate}
use Rattle.mc_accepted.specs.Resolving.{Step, resolved}
use Rattle.mc_accepted.specs.MostGeneral.{rigid_count}
use Rattle.mc_types.specs.declared.written_types.Written.{Written}
use Rattle.mc_unresolved.specs.Unresolved.{plain_unresolved_clause}
use Rattle.mc_unresolved.specs.declared.clause.UnresolvedClause.{UnresolvedClause}
use Rattle.laws_made_types.specs.Makes.{kept}
use Rattle.mc_typecheck.specs.VariableTypes.{ArePlain}
use Rattle.mc_typecheck.specs.code.Marking.{first_marking, after_all}

pub record IsMade
    (P : Source) (clause : UnresolvedClause) (steps : List Step) (picks : List Candidate)
    (types : List Written) (made : Resolved)
    : Type 0 where
  pub form : plain_clause made.clause ≡ resolved (plain_unresolved_clause clause) picks
  pub vars : made.clause.vars ≡ length clause.names
  pub place : made.clause.place ≡ clause.place
  pub are_plain :
      ArePlain (rigid_count (P.preds clause.pred).types)
      (kept (after_all steps (first_marking (length clause.names))).flags types)
      (map plain_type made.var_types)
  pub names : made.var_names ≡ clause.names
