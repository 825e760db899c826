-- Laws of the relation between tokens and terms.
use Rattle.std.specs.Prelude.{◌≡◌, ◌≤◌, ℕ, List}
use Rattle.mc_term_data.specs.Plain as P
use Rattle.mc_term_parser.specs.declared.lexeme.Lexeme.{Lexeme}
use Rattle.mc_term_parser.specs.Tree.{Tree, depth, term}
use Rattle.mc_term_parser.specs.Reads.{ReadsTerm}

-- at most one term stands for a list of tokens
abbrev pub AtMostOne : Type 0
AtMostOne =
    (ts : List Lexeme) (limit : ℕ) (t u : Tree)
    → ReadsTerm ts t limit → ReadsTerm ts u limit → t ≡ u

-- A term is no deeper than what was read, where brackets count too.
abbrev pub NoDeeper : Type 0
NoDeeper = (t : Tree) → P.depth (term t) ≤ depth t
