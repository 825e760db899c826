-- Variables that are there before an argument of a call: bound before the call, or given by an
-- earlier output.
use Rattle.std.specs.Prelude.{ℕ, List, Bool, ◌||◌}
use Rattle.mc_model.specs.Lists.{is_in}
use Rattle.mc_model.specs.Stream.{is_bound}
use Rattle.mc_accepted.specs.Arranged.{Point}

abbrev pub there_before : List ℕ → Point ℕ → ℕ → Bool
there_before given b = λ y. is_in y given || is_bound (b y)
