-- What is put in for the arguments of a constructor.
use Rattle.std.specs.Prelude.{◌≡◌, ℕ, ◌<◌, ◌≤◌, List, length, get_or}
use Rattle.mc_insts.specs.declared.over.Over.{Over}
use Rattle.mc_insts.specs.declared.triples.Triple.{Triple}
use Rattle.mc_insts.specs.code.OverArgs.{over_arg}
use Rattle.mc_insts.specs.code.Lists.{Stands}

abbrev pub triple_of : Over → Over → Over → ℕ → Triple
triple_of lows highs types k = record { low = over_arg lows k; high = over_arg highs k; row = over_arg types k }

-- the pair of an argument, with its type
abbrev pub joined_of : (lows highs : List ℕ) → Over → ℕ → Triple
joined_of lows highs types k = record { low = get_or lows k 0; high = get_or highs k 0; row = over_arg types k }

-- each triple that is new is one of the first n
abbrev pub NewAmong : (ℕ → Triple) → ℕ → (before after : List Triple) → Type 0
NewAmong f n before after = (m : ℕ) (u : Triple) → length before ≤ m → Stands after m u → (k : ℕ) × (k < n) × (f k ≡ u)
