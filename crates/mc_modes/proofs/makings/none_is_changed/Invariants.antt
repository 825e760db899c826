use Rattle.std.proofs.Common.{◌≡◌, true, drop}
use Rattle.std.specs.List.{list_all}
use Rattle.mc_modes.specs.code.Sleeping.{kept_beside}
use Rattle.mc_modes.proofs.makings.none_is_changed.Given as goal

abbrev pub invariant-loop-y : goal.invariant-loop-y
invariant-loop-y l =
    let kept = kept_beside l.state l.changed in
    list_all kept (drop l.y-index l.ys) ≡ true → list_all kept l.ys ≡ true
