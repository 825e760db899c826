use Rattle.std.proofs.Common.{◌≡◌, drop}
use Rattle.std.specs.List.{list_any}
use Rattle.mc_model.specs.Stream.{is_bound}
use Rattle.mc_mode_state.proofs.joining.one_is_bound.Given as goal

abbrev pub invariant-loop-inst : goal.invariant-loop-inst
invariant-loop-inst l =
    list_any (λ i. is_bound i) (drop l.inst-index l.insts) ≡ list_any (λ i. is_bound i) l.insts
