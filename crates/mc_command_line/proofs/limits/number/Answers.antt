use Rattle.std.proofs.Common.{◌≤◌, ◌^◌, ℕ, arith}
use Rattle.std.proofs.Math.Nat.{pow-le-pow_right}
use Rattle.mc_command_line.proofs.limits.number.Goals as goal

-- the digits before a ninth one
eight_digits : (i : ℕ) → i ≤ 8 → 10 ^ i ≤ 10 ^ 8
eight_digits i below = pow-le-pow_right {n = 10} (omega arith) {i = i} {j = 8} below

pub overflow_mul-number : goal.overflow_mul-number
overflow_mul-number c = omega (arith, eight_digits c.loop-byte.byte-index (omega arith), c.loop-byte.invariant.small)

pub overflow_add-number : goal.overflow_add-number
overflow_add-number c = omega (arith, eight_digits c.loop-byte.byte-index (omega arith), c.loop-byte.invariant.small, c.from.ensures)
