use Rattle.std.proofs.Common.{ap, ◌∙◌}
use Rattle.mc_program.specs.PlainPrograms.{plain_program, plain_type}
use Rattle.mc_program.specs.declared.program.Program.{Program}
use Rattle.mc_det.specs.code.Symbols.{one_missed}
use Rattle.mc_det.proofs.Questions.{missed_some}
use Rattle.mc_det.proofs.symbols.misses.Goals as goal

pub returns-in_ok-one_missed-in-Some : goal.returns-in_ok-one_missed-in-Some
returns-in_ok-one_missed-in-Some c =
    missed_some c.args.procs.now (plain_type c.args.t.now) c.args.i c.in-Some.u c.args.arms.now c.in_ok-one_missed-in-Some.field-0 c.in-Some.ensures
    (c.in_ok-one_missed-in-Some.ensures
    ∙ ap (one_missed c.args.procs.now c.args.i c.args.arms.now) (c.symbols_of.ensures ∙ ap (λ (p : Program). (plain_program p).symbols_of c.in-Some.u) c.program.ensures))
