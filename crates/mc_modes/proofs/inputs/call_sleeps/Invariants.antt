use Rattle.std.proofs.Common.{◌≡◌, true, drop}
use Rattle.std.specs.List.{list_all}
use Rattle.mc_model.specs.declared.inst.ModeDecl.{ModeDecl}
use Rattle.mc_mode_state.specs.Modes.{declared_mode}
use Rattle.mc_modes.specs.code.Sleeping.{input_is_free, free_beside, free_now}
use Rattle.mc_modes.proofs.inputs.call_sleeps.Given as goal

abbrev pub invariant-loop-mode : goal.invariant-loop-mode
invariant-loop-mode l =
    let sleeps = λ (m : ModeDecl). input_is_free (free_beside (free_now l.state) l.others) (declared_mode m).modes l.xs in
    list_all sleeps (drop l.mode-index l.mode-items) ≡ true → list_all sleeps l.mode-items ≡ true
