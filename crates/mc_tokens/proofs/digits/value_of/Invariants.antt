use Rattle.std.proofs.Common.{◌≡◌, ◌^◌, ◌≤◌, drop}
use Rattle.mc_tokens.specs.Tokens.{spelled}
use Rattle.mc_tokens.proofs.digits.value_of.Given as goal

abbrev pub invariant-loop-x : goal.invariant-loop-x
invariant-loop-x l = record {
  rest : spelled l.base l.value (drop l.x-index l.digits) ≡ spelled l.base 0 l.digits;
  small : l.value ≤ 2 ^ 63;
}
