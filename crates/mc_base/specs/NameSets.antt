-- Lists of names without repetition.
use Rattle.std.specs.Prelude.{ℕ, List, [], ◌∷◌, ◌++◌, if◌then◌else◌}
use Rattle.std.specs.Set.{is_member}
use Rattle.std.specs.Str.{bytes_eq}

-- The names with one more put in. A name that is there stays where it came first.
abbrev pub put : List (List ℕ) → List ℕ → List (List ℕ)
put names x = if is_member bytes_eq names x then names else names ++ x ∷ []

-- the names with others put in, one after another
abbrev pub put_all : List (List ℕ) → List (List ℕ) → List (List ℕ)
put_all names [] = names
put_all names (x ∷ xs) = put_all (put names x) xs
