-- The value of digits, one after another.
use Rattle.std.proofs.Common.{◌≡◌, ℕ, ◌+◌, ◌*◌, ◌<◌, ◌≤◌, List, [], ◌∷◌, length, get_or, drop, ap, arith}
use Rattle.std.proofs.Math.Nat.{mul-le-mul_right}
use Rattle.mc_tokens.specs.Classes.{hex_value}
use Rattle.mc_tokens.specs.Tokens.{spelled}
use Rattle.mc_tokens.proofs.CharLen.{drop-at}

pub spelled_next : (base v : ℕ) (ds : List ℕ) (k : ℕ) → k < length ds → spelled base v (drop k ds) ≡ spelled base (base * v + hex_value (get_or ds k 0)) (drop (k + 1) ds)
spelled_next base v ds k h = ap (spelled base v) (drop-at ds k h)

pub spelled_grows : (base v : ℕ) (ds : List ℕ) → 0 < base → v ≤ spelled base v ds
spelled_grows base v [] h = omega arith
spelled_grows base v (d ∷ ds) h =
    let ih = spelled_grows base (base * v + hex_value d) ds h in
    let more : 1 * v ≤ base * v = mul-le-mul_right v (omega arith) in
    omega (arith, ih, more)
