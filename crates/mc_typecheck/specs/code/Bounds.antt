-- Bounds above numbers.
use Rattle.std.specs.Prelude.{ℕ, List, max}
use Rattle.mc_accepted.specs.MostGeneral.{bound_of}

-- the greater of a bound and the bound of some numbers
abbrev pub above : List ℕ → ℕ → ℕ
above vs bound = max (bound_of vs) bound
