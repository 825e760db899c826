use Rattle.std.proofs.Common.{◌≡◌, true, not, drop}
use Rattle.std.specs.List.{list_all}
use Rattle.mc_model.specs.declared.inst.ModeDecl.{ModeDecl}
use Rattle.mc_mode_state.specs.Modes.{never_answers}
use Rattle.mc_modes.proofs.inputs.call_returns.Given as goal

abbrev pub invariant-loop-mode : goal.invariant-loop-mode
invariant-loop-mode l =
    list_all (λ (m : ModeDecl). not (never_answers m.det)) (drop l.mode-index l.mode-items) ≡ true
    → list_all (λ (m : ModeDecl). not (never_answers m.det)) l.mode-items ≡ true
