use Rattle.mc_core_program.proofs.Queries.{predicate_made}
use Rattle.mc_core_program.proofs.query.query_over.Goals as goal

pub returns-clause-pred : goal.returns-clause-pred
returns-clause-pred c =
    predicate_made c.in_ok-types.types c.as_slice-head.result.now c.in_ok-clause.clause.var_types
    c.in_ok-clause.clause.clause.head c.without_name-pred.result c.without_name-pred.ensures
    c.in_ok-types.ensures c.as_slice-head.ensures.items
