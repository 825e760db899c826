use Rattle.std.proofs.Common.{◌≡◌, ℕ, ◌<◌, length, get_or}
use Rattle.mc_types.specs.declared.signature.Signature.{Signature}
use Rattle.mc_types.proofs.proper.step_is_proper.Given as goal

abbrev pub invariant-loop-place : goal.invariant-loop-place
invariant-loop-place l = (k d : ℕ) → k < l.place-index → get_or l.step.places.items k d < l.places

abbrev pub invariant-loop-candidate : goal.invariant-loop-candidate
invariant-loop-candidate l = record {
  there : (c : ℕ) → c < l.candidate-index → get_or l.step.candidates.items c 0 < length l.signatures;
  same : (c : ℕ) (d : Signature) → c < l.candidate-index → length l.step.places.items ≡ length (get_or l.signatures (get_or l.step.candidates.items c 0) d).types.items;
}
