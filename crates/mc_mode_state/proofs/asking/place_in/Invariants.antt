use Rattle.std.proofs.Common.{◌≡◌, ◌++◌, take, drop}
use Rattle.mc_accepted.specs.Arranged.{placed}
use Rattle.mc_mode_state.proofs.asking.place_in.Given as goal

abbrev pub invariant-loop-k : goal.invariant-loop-k
invariant-loop-k l = take l.k l.row ++ placed l.x (drop l.k l.row) ≡ placed l.x l.row
