-- Two lists in one room, one behind the other.
use Rattle.std.proofs.Common.{◌≡◌, ℕ, ◌+◌, List, ◌++◌, length, take, ap, ap₂, ◌∙◌}
use Rattle.std.proofs.Math.Seq.{take-append_seam, take-append-add}

pub both_in_room : (front back f b rest others : List ℕ) → f ≡ front → b ≡ back → take (length front + length back) (take (length front) (f ++ rest) ++ (b ++ others)) ≡ front ++ back
both_in_room front back f b rest others p q =
    ap₂ (λ (x y : List ℕ). take (length front + length back) (take (length front) (x ++ rest) ++ (y ++ others))) p q
    ∙ ap (λ (x : List ℕ). take (length front + length back) (x ++ (back ++ others))) (take-append_seam front rest)
    ∙ take-append-add front (back ++ others) (length back)
    ∙ ap (λ (x : List ℕ). front ++ x) (take-append_seam back others)
