use Rattle.std.proofs.Common.{subst}
use Rattle.mc_model.specs.declared.run.Limits.{Limits}
use Rattle.mc_procs.specs.Procedures.{procedure_at}
use Rattle.mc_plain.specs.Rest.{Begins}
use Rattle.mc_plain.specs.Running.{run_of}
use Rattle.mc_plain.specs.Runs.{query_rest}
use Rattle.mc_cmd.proofs.Procs.{left_first}
use Rattle.mc_cmd.proofs.procs_run.ProcsRun.of.Goals as goal

pub returns-clause-left : goal.returns-clause-left
returns-clause-left c =
    let q = c.args.procs.now in
    let run = run_of c.in_ok-plain.plain in
    let limits : Limits = record { budget = c.args.bounds.budget; depth = c.args.bounds.depth } in
    let begun = (c.in_ok-plain.ensures {u = tt}).run (procedure_at q.added) (procedure_at q.added c.args.query) (c.in_ok-flat.ensures {u = tt}).stands in
    left_first q c.args.query limits run
    (subst (λ (l : Limits). Begins run (query_rest q.program l (procedure_at q.added) (procedure_at q.added c.args.query))) c.limits_of.ensures
    (subst (λ program. Begins run (query_rest program c.limits_of.result (procedure_at q.added) (procedure_at q.added c.args.query))) c.program-2.ensures begun))
