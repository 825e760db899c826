-- What the reader answers for tokens that stand for a term.
use Rattle.std.specs.Prelude.{◌≡◌, ◌≤◌, None, min}
use Rattle.mc_term_data.specs.Plain.{plain_term}
use Rattle.mc_term_parser.specs.Tree.{Tree, depth, too_large, term}
use Rattle.mc_term_parser.specs.declared.reading.Reading.{Reading}

-- What it answers for a term: its depth, where 257 stands for every depth above 256, the
-- line of the first number that 64 bits don't hold, and, where it is neither deeper nor holds such
-- a number, the term.
abbrev pub Shows : Tree → Reading → Type 0
Shows t r =
    (r.depth ≡ min (depth t) 257)
    × (r.too_large ≡ too_large t)
    × (depth t ≤ 256 → too_large t ≡ None → plain_term r.term ≡ term t)
