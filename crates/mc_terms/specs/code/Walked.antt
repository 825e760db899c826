-- The tokens of an item as a walk over its pieces makes them, which keeps those that are done, the
-- last first. They are the item's lexemes (proofs/Walked.antt).
use Rattle.std.specs.Prelude.{ℕ, Bool, true, false, List, [], ◌∷◌, ◌++◌, reverse, Option, Some, None}
use Rattle.mc_term_parser.specs.declared.lexeme.Lexeme.{Lexeme}
use Rattle.mc_term_parser.specs.declared.lexeme.Lexeme.TheVariants as L
use Rattle.mc_tokens.specs.declared.token.Kind.{Kind}
use Rattle.mc_tokens.specs.declared.token.Kind.TheVariants as K
use Rattle.mc_tokens.specs.Contents.{stands_for}
use Rattle.mc_tokens.specs.Items.{Piece}
use Rattle.mc_terms.specs.Lines.{line_at}

-- The name that a dot goes on from, where the tokens so far, the last first, end so: its parts, its
-- line, and the tokens before it.
abbrev pub qualifier : List Lexeme → Option (List (List ℕ) × ℕ × List Lexeme)
qualifier (L.Dot ∷ L.Word w q l ∷ done) = Some (w ∷ [], l, done)
qualifier (L.Dot ∷ L.Path ws l ∷ done) = Some (ws, l, done)
qualifier _ = None

-- one more name: names with dots between them are one qualified name
abbrev pub with_name :
    Option (List (List ℕ) × ℕ × List Lexeme) → List Lexeme → List ℕ → Bool → ℕ → List Lexeme
with_name None done w q l = L.Word w q l ∷ done
with_name (Some r) done w q l = L.Path (r.0 ++ w ∷ []) r.1 ∷ r.2

-- one more token, of a kind, that stands for these bytes and begins on a line
abbrev pub with_token : List Lexeme → Kind → List ℕ → ℕ → List Lexeme
with_token done K.Name w l = with_name (qualifier done) done w false l
with_token done K.Quoted w l = with_name (qualifier done) done w true l
with_token done K.Var w l = L.Var w l ∷ done
with_token done (K.Int n) w l = L.Int n l ∷ done
with_token done K.Str w l = L.Str w l ∷ done
with_token done K.Open w l = L.Open l ∷ done
with_token done K.OpenCt w l = L.OpenCt l ∷ done
with_token done K.Close w l = L.Close ∷ done
with_token done K.ListOpen w l = L.ListOpen l ∷ done
with_token done K.ListClose w l = L.ListClose ∷ done
with_token done K.Bar w l = L.Bar ∷ done
with_token done K.Comma w l = L.Comma ∷ done
with_token done _ w l = L.Dot ∷ done

-- The tokens of an item, of which those that are done, the last first, come before the pieces.
abbrev pub walked : List ℕ → List Lexeme → List Piece → List Lexeme
walked text done [] = reverse done
walked text done (p ∷ ps) =
    walked text (with_token done p.kind (stands_for p.kind p.bytes) (line_at text p.place)) ps

-- a kind of tokens that have no text of their own
abbrev pub IsMark : Kind → Type 0
IsMark K.Name = ⊥
IsMark K.Quoted = ⊥
IsMark K.Var = ⊥
IsMark (K.Int n) = ⊥
IsMark K.Str = ⊥
IsMark _ = Unit {0}
