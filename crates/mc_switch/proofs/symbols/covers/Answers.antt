use Rattle.std.proofs.Common.{nat_eq, ap, ◌∙◌}
use Rattle.std.specs.HashSet.{contains}
use Rattle.mc_program.specs.PlainPrograms.{plain_program, plain_type}
use Rattle.mc_program.specs.declared.program.Program.{Program}
use Rattle.mc_switch.specs.code.Choices.{none_missed}
use Rattle.mc_switch.proofs.Labelled.{covers_some, covers_none}
use Rattle.mc_switch.proofs.symbols.covers.Goals as goal

pub returns-in_ok-none_missed-in-Some : goal.returns-in_ok-none_missed-in-Some
returns-in_ok-none_missed-in-Some c =
    covers_some c.args.procs.now (plain_type c.args.t.now) c.args.i c.in-Some.u c.args.x c.args.disjuncts.now (contains nat_eq c.in_ok-found-in-Some.found) c.in_ok-none_missed-in-Some.field-0
    c.in-Some.ensures c.in_ok-found-in-Some.ensures
    (c.in_ok-none_missed-in-Some.ensures
    ∙ ap (none_missed c.args.procs.now c.args.i (contains nat_eq c.in_ok-found-in-Some.found)) (c.symbols_of.ensures ∙ ap (λ (p : Program). (plain_program p).symbols_of c.in-Some.u) c.program.ensures))

pub returns-in-None : goal.returns-in-None
returns-in-None c = covers_none c.args.procs.now (plain_type c.args.t.now) c.args.i c.args.x c.args.disjuncts.now c.in-None.ensures
