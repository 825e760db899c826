use Rattle.std.proofs.Common.{◌≡◌, ℕ, List, ◌++◌, vec_len}
use Rattle.mc_values.specs.Heap.{Extends, StandsFor}
use Rattle.mc_model.specs.Builtins.{char_list}
use Rattle.mc_builtins.specs.Answers.{known}
use Rattle.mc_builtins.proofs.applying.char_list.Given as goal

abbrev pub invariant-loop-c : goal.invariant-loop-c
invariant-loop-c l =
    ((done : List ℕ) × (l.fn.chars.items ≡ l.chars.items ++ done) × StandsFor l.heap l.list (char_list (known l.library) done))
    × Extends l.fn.heap l.heap

abbrev pub decreases-loop-c : goal.decreases-loop-c
decreases-loop-c l = vec_len l.chars
