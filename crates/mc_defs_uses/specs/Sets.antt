-- Lists of definitions without repetition.
use Rattle.std.specs.Prelude.{List, [], ◌∷◌, ◌++◌, if◌then◌else◌}
use Rattle.std.specs.Set.{is_member}
use Rattle.mc_names.specs.Plain.{PlainDefinition, is_definition}

-- The definitions with one more put in. A definition that is there stays where it came first.
abbrev pub put : List PlainDefinition → PlainDefinition → List PlainDefinition
put ts t = if is_member is_definition ts t then ts else ts ++ t ∷ []

-- the definitions with others put in, one after another
abbrev pub put_all : List PlainDefinition → List PlainDefinition → List PlainDefinition
put_all ts [] = ts
put_all ts (u ∷ us) = put_all (put ts u) us
