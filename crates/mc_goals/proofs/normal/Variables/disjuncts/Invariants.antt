use Rattle.std.proofs.Common.{◌≡◌, ◌++◌, map, drop}
use Rattle.mc_program.specs.PlainPrograms.{plain_type}
use Rattle.mc_model.specs.PlainGoals.{plain_flat}
use Rattle.mc_accepted.specs.Normal.{all_disjuncts, clause_goals}
use Rattle.mc_accepted.specs.NormalTypes.{clauses_types, clauses_names}
use Rattle.mc_goals.specs.Resolved.{clause_of, typed_clause}
use Rattle.mc_goals.proofs.normal.Variables.disjuncts.Given as goal

abbrev pub invariant-loop-clause : goal.invariant-loop-clause
invariant-loop-clause l =
    let rest = drop l.clause-index l.clauses in
    record {
      goals :
          map plain_flat l.goals.items ++ all_disjuncts (clause_goals l.self.next (map clause_of rest)).goals
          ≡ all_disjuncts (clause_goals l.fn.self.next (map clause_of l.clauses)).goals;
      types :
          map plain_type l.self.types.items ++ clauses_types (map typed_clause rest)
          ≡ map plain_type l.fn.self.types.items ++ clauses_types (map typed_clause l.clauses);
      names :
          l.self.names.items ++ clauses_names (map typed_clause rest)
          ≡ l.fn.self.names.items ++ clauses_names (map typed_clause l.clauses);
    }
