-- Free variables of a deconstruction get the insts of the constructor's arguments.
use Rattle.std.specs.Prelude.{ℕ, List, [], ◌∷◌, if◌then◌else◌}
use Rattle.mc_model.specs.Stream.{is_bound}
use Rattle.mc_accepted.specs.Arranged.{Point, with_inst}

abbrev pub take_each : List ℕ → List ℕ → Point ℕ → Point ℕ
take_each [] is b = b
take_each (y ∷ ys) [] b = b
take_each (y ∷ ys) (i ∷ is) b = take_each ys is (if is_bound (b y) then b else with_inst ℕ y i b)
