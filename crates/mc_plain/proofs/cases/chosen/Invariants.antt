use Rattle.std.proofs.Common.{◌≡◌, take}
use Rattle.mc_values.specs.Heap.{value_at}
use Rattle.mc_flat_code.specs.Running.{fitting}
use Rattle.mc_plain.specs.code.Cases.{listed_place}
use Rattle.mc_plain.proofs.cases.chosen.Given as goal

abbrev pub invariant-loop-branch : goal.invariant-loop-branch
invariant-loop-branch l =
    fitting l.code (value_at l.heap l.value) (take l.branch-index l.branches) ≡ listed_place l.only
