-- The laws of determinisms: that the tables are monotone, and that allowing is an order. (Mercury
-- Language Reference Manual: Determinism.)
use Rattle.std.specs.Prelude.{◌≡◌}
use Rattle.mc_source.specs.Determinism.{Determinism, conj, disj, ite, negated, pruned, Allows}

-- the tables are monotone: what allows the parts' determinisms has a value that allows the whole's
abbrev pub ConjIsMonotone : Type 0
ConjIsMonotone = (a b c d : Determinism) → Allows c a → Allows d b → Allows (conj c d) (conj a b)

abbrev pub DisjIsMonotone : Type 0
DisjIsMonotone = (a b c d : Determinism) → Allows c a → Allows d b → Allows (disj c d) (disj a b)

abbrev pub IteIsMonotone : Type 0
IteIsMonotone =
    (a b c d e f : Determinism)
    → Allows d a → Allows e b → Allows f c → Allows (ite d e f) (ite a b c)

abbrev pub NegatedIsMonotone : Type 0
NegatedIsMonotone = (a b : Determinism) → Allows b a → Allows (negated b) (negated a)

abbrev pub PrunedIsMonotone : Type 0
PrunedIsMonotone = (a b : Determinism) → Allows b a → Allows (pruned b) (pruned a)

-- allowing is an order
abbrev pub AllowsItself : Type 0
AllowsItself = (a : Determinism) → Allows a a

abbrev pub AllowsInTurn : Type 0
AllowsInTurn = (a b c : Determinism) → Allows b a → Allows c b → Allows c a

abbrev pub AllowsOneWay : Type 0
AllowsOneWay = (a b : Determinism) → Allows b a → Allows a b → a ≡ b
