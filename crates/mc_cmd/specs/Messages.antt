-- The texts of the lines that the program puts on its error output. (This project's profile.)
use Rattle.std.specs.Prelude.{ℕ, List, [], ◌∷◌, ◌++◌, codes, slice_index_or}
use Rattle.mc_source.specs.declared.rule.Broken.{Broken}
use Rattle.mc_program.specs.Printed.{broken_text}

abbrev pub usage_line : List ℕ
usage_line = codes "merc: usage: merc check|run|query|gen\n"

abbrev pub absent_line : List ℕ → List ℕ
absent_line file = codes "merc: no file " ++ (file ++ codes "\n")

abbrev pub unreadable_line : List ℕ → List ℕ
unreadable_line file = codes "merc: cannot read " ++ (file ++ codes "\n")

-- the line of a broken rule; what isn't in a given file is told as the query's
abbrev pub broken_line : (files : List (List ℕ)) → Broken → List ℕ
broken_line files b =
    broken_text (slice_index_or files b.at.file (codes "query")) b.at.line b.rule b.what

abbrev pub broken_lines : (files : List (List ℕ)) → List Broken → List ℕ
broken_lines files [] = []
broken_lines files (b ∷ bs) = broken_line files b ++ broken_lines files bs
