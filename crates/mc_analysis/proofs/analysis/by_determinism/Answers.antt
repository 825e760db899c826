use Rattle.std.proofs.Common.{sym, ◌∙◌}
use Rattle.mc_analysis.proofs.Coming.{none_listed, some_listed}
use Rattle.mc_analysis.proofs.analysis.by_determinism.Goals as goal

pub faults-requires : goal.faults-requires
faults-requires c = (c.in_ok-procs.ensures {u = tt}).marks

pub returns-then-is_empty : goal.returns-then-is_empty
returns-then-is_empty c = (
  c.in_ok-procs.ensures {u = tt},
  λ outcome. sym (none_listed c.in_ok-found.found.items c.in_ok-found.found.len c.in_ok-found.found.ok.0 c.if-is_empty.ensures) ∙ (c.in_ok-found.ensures {u = tt}) outcome,
  c.fit.ensures.all,
)

pub returns-else-is_empty : goal.returns-else-is_empty
returns-else-is_empty c = (
  c.in_ok-procs.procs,
  c.in_ok-procs.ensures {u = tt},
  c.in_ok-found.ensures {u = tt},
  some_listed c.in_ok-found.found.items c.in_ok-found.found.len c.in_ok-found.found.ok.0 c.if-is_empty.ensures,
  c.fit.ensures.all,
)
