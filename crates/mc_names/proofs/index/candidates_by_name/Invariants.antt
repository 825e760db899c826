use Rattle.std.proofs.Common.{◌≡◌, ◌++◌, ℕ, List, drop}
use Rattle.mc_names.specs.code.Index.{listed, called}
use Rattle.mc_names.proofs.index.candidates_by_name.Given as goal

abbrev pub invariant-loop-candidate : goal.invariant-loop-candidate
invariant-loop-candidate l = (w : List ℕ) → listed l.index w ++ called l.symbols l.preds w (drop l.candidate-index l.candidates) ≡ called l.symbols l.preds w l.candidates
