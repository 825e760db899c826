use Rattle.std.proofs.Common.{List, map, get_or, sym, ap, ◌∙◌}
use Rattle.std.specs.List.{list_all}
use Rattle.mc_program.specs.declared.program.Program.{Program}
use Rattle.mc_model.specs.declared.inst.ModeDecl.{ModeDecl}
use Rattle.mc_accepted.specs.Arranged.{Declared}
use Rattle.mc_mode_state.specs.Modes.{declared_mode}
use Rattle.mc_procs.specs.Procedures.{source_of}
use Rattle.mc_modes.specs.Signatures.{declared_in}
use Rattle.mc_modes.specs.code.Sleeping.{input_is_free, free_beside, free_now}
use Rattle.mc_modes.proofs.FreeInputs.{all-end, all-mapped, no-builtin, each-sleeps}
use Rattle.mc_modes.proofs.inputs.call_sleeps.Goals as goal

pub returns : goal.returns
returns c i =
    let q = c.args.procs.now in
    let free = free_beside (free_now c.args.state.now) c.args.others.now in
    let xs = c.args.xs.now in
    let ms = c.modes_at-mode-items.result.now in
    each-sleeps (source_of q) (declared_in c.args.sigs.now) free _ c.args.pred xs (no-builtin q.program c.args.pred c.get.result.now c.requires.pred (c.get.ensures ∙ ap (λ (P : Program). get_or P.preds c.args.pred c.get.result.now) c.program.ensures) c.in_default.is)
    (ap (λ (ds : List ModeDecl). list_all (λ (d : Declared). input_is_free free d.modes xs) (map declared_mode ds)) (sym c.modes_at-mode-items.ensures)
    ∙ (all-mapped (λ (d : Declared). input_is_free free d.modes xs) declared_mode ms
    ∙ all-end (λ (m : ModeDecl). input_is_free free (declared_mode m).modes xs) ms c.loop-mode.mode-index c.loop-mode-test.false c.loop-mode.invariant))
