-- What the program says of a broken rule of the phase that reads (this project's profile).
use Rattle.std.specs.Prelude.{ℕ, List, ◌++◌, codes}
use Rattle.mc_items.specs.declared.reason.LeftOut.{LeftOut}
use Rattle.mc_items.specs.UnsupportedWords.{words}

abbrev pub bad_character : List ℕ
bad_character = codes "bad character"

abbrev pub not_closed : List ℕ
not_closed = codes "quote or comment is not closed"

abbrev pub out_of_range : List ℕ
out_of_range = codes "integer is out of range"

abbrev pub not_utf8 : List ℕ
not_utf8 = codes "text is not UTF-8"

abbrev pub not_a_term : List ℕ
not_a_term = codes "not a term"

abbrev pub not_an_item : List ℕ
not_an_item = codes "not an item"

abbrev pub left_out : LeftOut → List ℕ
left_out form = codes "left out of this profile: " ++ words form

abbrev pub sources_too_long : List ℕ
sources_too_long = codes "sources are too long"

abbrev pub nested_too_deep : List ℕ
nested_too_deep = codes "term is nested deeper than 256"

abbrev pub too_many_arguments : List ℕ
too_many_arguments = codes "more than 255 arguments"

abbrev pub too_many_variables : List ℕ
too_many_variables = codes "more than 4096 variables"
