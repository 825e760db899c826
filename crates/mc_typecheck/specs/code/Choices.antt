-- Choices that are taken.
use Rattle.std.specs.Prelude.{ℕ, ◌-◌, List, [], ◌∷◌, Option, Some, None}

abbrev pub taken_choice : List ℕ → Option ℕ × List ℕ
taken_choice [] = (None, [])
taken_choice (c ∷ cs) = (Some c, cs)

-- so many of a number of things, or as many as there are
abbrev pub fewer : (count height : ℕ) → ℕ
fewer count height = height - (height - count)
