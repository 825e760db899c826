use Rattle.std.proofs.Common.{◌≡◌, ℕ, nat_eq, take}
use Rattle.std.specs.List.{list_any}
use Rattle.std.specs.HashSet.{contains}
use Rattle.mc_switch.specs.code.Labels.{is_symbol_in}
use Rattle.mc_switch.proofs.symbols.symbols_in.Given as goal

abbrev pub invariant-loop-disjunct : goal.invariant-loop-disjunct
invariant-loop-disjunct l =
    (s : ℕ) → contains nat_eq l.found s ≡ list_any (is_symbol_in l.x s) (take l.disjunct-index l.disjuncts)
