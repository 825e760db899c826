use Rattle.std.proofs.Common.{List, ℕ, ap, ◌∙◌, ◌&&◌, not}
use Rattle.mc_program.specs.PlainPrograms.{plain_program, plain_type}
use Rattle.mc_program.specs.declared.program.Program.{Program}
use Rattle.mc_det.specs.code.Symbols.{another, one_allowed}
use Rattle.mc_det.proofs.Questions.{alone_some}
use Rattle.mc_det.proofs.symbols.is_alone.Goals as goal

pub returns-in_ok-only_one-in-Some : goal.returns-in_ok-only_one-in-Some
returns-in_ok-only_one-in-Some c =
    alone_some c.args.procs.now (plain_type c.args.t.now) c.args.i c.args.symbol c.in-Some.u c.in_ok-only_one-in-Some.field-0 c.in-Some.ensures
    (c.in_ok-only_one-in-Some.ensures
    ∙ ap (λ (ss : List ℕ). one_allowed c.args.procs.now c.args.i ss && not (another c.args.procs.now c.args.i c.args.symbol ss))
    (c.symbols_of.ensures ∙ ap (λ (p : Program). (plain_program p).symbols_of c.in-Some.u) c.program.ensures))
