-- A set of numbers below a bound, as the list that tells of each number whether it is a member; its
-- length is the bound. (The characteristic function of a set, as in any textbook of set theory.)
use Rattle.std.specs.Prelude.{ℕ, Bool, false, List, slice_index_or}

-- whether a number is a member of the set; none at or above the bound is
abbrev pub has : List Bool → ℕ → Bool
has set v = slice_index_or set v false
