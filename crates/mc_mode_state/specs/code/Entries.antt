-- The insts at the beginning of a clause.
use Rattle.std.specs.Prelude.{ℕ, List, [], ◌∷◌}
use Rattle.mc_accepted.specs.Arranged.{Point, with_inst}

abbrev pub entered : List ℕ → List ℕ → Point ℕ
entered [] is = λ x. 0
entered (y ∷ ys) [] = λ x. 0
entered (y ∷ ys) (i ∷ is) = with_inst ℕ y i (entered ys is)
