use Rattle.std.proofs.Common.{subst}
use Rattle.mc_flat_code.specs.Standing.{StandsForAll, procedure_at}
use Rattle.mc_cmd.proofs.Procs.{stands_there}
use Rattle.mc_cmd.proofs.procs_run.flat_query.Goals as goal

pub returns-clause-stands : goal.returns-clause-stands
returns-clause-stands c =
    let program = c.in_ok-program.program in
    let e = c.in_ok-program.ensures {u = tt} in
    stands_there c.args.procs.now.added c.args.query program c.get.result.now c.over.result c.requires c.get.ensures
    (subst (λ procs. StandsForAll program (procedure_at procs)) c.procs.ensures e.stands) c.over.ensures.program c.over.ensures.query
