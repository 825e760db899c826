use Rattle.std.proofs.Common.{◌-◌, ℕ, ◌<◌, ◌≤◌, length, get_or}
use Rattle.mc_insts.specs.declared.graph.Case.{Case}
use Rattle.mc_insts.proofs.cases.find.Given as goal

abbrev pub invariant-loop-low : goal.invariant-loop-low
invariant-loop-low l = record {
  within : l.high ≤ length l.cases;
  order : l.low ≤ l.high;
  below : (k : ℕ) (d : Case) → k < l.low → (get_or l.cases k d).functor < l.functor;
  above : (k : ℕ) (d : Case) → l.high ≤ k → k < length l.cases → l.functor < (get_or l.cases k d).functor;
}

abbrev pub decreases-loop-low : goal.decreases-loop-low
decreases-loop-low l = l.high - l.low
