-- A text that a writer takes part by part.
use Rattle.std.proofs.Common.{◌≡◌, ℕ, ◌+◌, ◌-◌, List, take, drop, length, Option, Some, None, arith}
use Rattle.std.proofs.lemmas.Grind.{common_steps}
use Rattle.std.specs.Io.KnownBytes.{Appends, Keeps}
use Rattle.std.proofs.Math.Seq.{take-add}

-- the first bytes of a text and then some of the next are the first bytes of it
pub Appends-more : (old between new : Option (List ℕ)) (text : List ℕ) (done count : ℕ) → Appends old between (take done text) → Appends between new (take count (drop done text)) → Appends old new (take (done + count) text)
Appends-more None between new text done count first more = tt
Appends-more (Some xs) None new text done count first more = absurd first
Appends-more (Some xs) (Some ys) None text done count first more = absurd more
Appends-more (Some xs) (Some ys) (Some zs) text done count first more = grind (arith, common_steps, take-add)

-- a writer that has kept its bytes still holds what was appended
pub Appends-kept : (old between new : Option (List ℕ)) (text : List ℕ) → Appends old between text → Keeps between new → Appends old new text
Appends-kept None between new text first kept = tt
Appends-kept (Some xs) None new text first kept = absurd first
Appends-kept (Some xs) (Some ys) None text first kept = absurd kept
Appends-kept (Some xs) (Some ys) (Some zs) text first kept = grind (arith, common_steps)

-- the rest of a text, taken whole
pub take-rest : (text : List ℕ) (done : ℕ) → take (length text - done) (drop done text) ≡ drop done text
take-rest text done = grind (arith, common_steps)
