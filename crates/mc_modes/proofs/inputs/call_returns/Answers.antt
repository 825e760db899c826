use Rattle.std.proofs.Common.{List, map, get_or, not, sym, ap, ◌∙◌}
use Rattle.std.specs.List.{list_all}
use Rattle.mc_program.specs.declared.program.Program.{Program}
use Rattle.mc_model.specs.declared.inst.ModeDecl.{ModeDecl}
use Rattle.mc_accepted.specs.Arranged.{Declared}
use Rattle.mc_mode_state.specs.Modes.{declared_mode, never_answers}
use Rattle.mc_procs.specs.Procedures.{source_of}
use Rattle.mc_modes.specs.Signatures.{declared_in}
use Rattle.mc_modes.proofs.FreeInputs.{all-end, all-mapped, no-builtin, each-returns}
use Rattle.mc_modes.proofs.inputs.call_returns.Goals as goal

pub returns : goal.returns
returns c i =
    let q = c.args.procs.now in
    let returns = λ (m : ModeDecl). not (never_answers m.det) in
    let ms = c.modes_at-mode-items.result.now in
    each-returns (source_of q) (declared_in c.args.sigs.now) _ c.args.pred (no-builtin q.program c.args.pred c.get.result.now c.requires (c.get.ensures ∙ ap (λ (P : Program). get_or P.preds c.args.pred c.get.result.now) c.program.ensures) c.in_default.is)
    (ap (λ (ds : List ModeDecl). list_all (λ (d : Declared). not d.never) (map declared_mode ds)) (sym c.modes_at-mode-items.ensures)
    ∙ (all-mapped (λ (d : Declared). not d.never) declared_mode ms ∙ all-end returns ms c.loop-mode.mode-index c.loop-mode-test.false c.loop-mode.invariant))
