-- What is put in where a test holds.
use Rattle.std.specs.Prelude.{Bool, List, [], ◌∷◌, if◌then◌else◌}

-- one definition, or none
abbrev pub kept : {A : Type 0} → Bool → A → List A
kept holds x = if holds then x ∷ [] else []
