-- The tokens of an item as the reader of terms takes them (the Mercury manual, Tokens and Terms).
use Rattle.std.specs.Prelude.{ℕ, Bool, true, false, List, [], ◌∷◌, Option, Some, None}
use Rattle.mc_term_parser.specs.declared.lexeme.Lexeme.{Lexeme}
use Rattle.mc_term_parser.specs.declared.lexeme.Lexeme.TheVariants as L
use Rattle.mc_tokens.specs.declared.token.Kind.{Kind}
use Rattle.mc_tokens.specs.declared.token.Kind.TheVariants as K
use Rattle.mc_tokens.specs.Contents.{stands_for}
use Rattle.mc_tokens.specs.Items.{Piece}
use Rattle.mc_terms.specs.Lines.{line_at}

-- Where a dot and a name come first, with which a name before them goes on: the parts of that name,
-- and the tokens behind it.
abbrev pub goes_on : List Lexeme → Option (List (List ℕ) × List Lexeme)
goes_on (L.Dot ∷ L.Word w q l ∷ ts) = Some (w ∷ [], ts)
goes_on (L.Dot ∷ L.Path ws l ∷ ts) = Some (ws, ts)
goes_on _ = None

-- A name before these tokens: names with dots between them are one qualified name, which is on the
-- line of its first part.
abbrev pub name_by :
    Option (List (List ℕ) × List Lexeme) → List ℕ → Bool → ℕ → List Lexeme → List Lexeme
name_by None w q l ts = L.Word w q l ∷ ts
name_by (Some r) w q l ts = L.Path (w ∷ r.0) l ∷ r.1

abbrev pub name_before : List ℕ → Bool → ℕ → List Lexeme → List Lexeme
name_before w q l ts = name_by (goes_on ts) w q l ts

-- a token, of a kind, that stands for these bytes and begins on a line, before these tokens
abbrev pub token_before : Kind → List ℕ → ℕ → List Lexeme → List Lexeme
token_before K.Name w l ts = name_before w false l ts
token_before K.Quoted w l ts = name_before w true l ts
token_before K.Var w l ts = L.Var w l ∷ ts
token_before (K.Int n) w l ts = L.Int n l ∷ ts
token_before K.Str w l ts = L.Str w l ∷ ts
token_before K.Open w l ts = L.Open l ∷ ts
token_before K.OpenCt w l ts = L.OpenCt l ∷ ts
token_before K.Close w l ts = L.Close ∷ ts
token_before K.ListOpen w l ts = L.ListOpen l ∷ ts
token_before K.ListClose w l ts = L.ListClose ∷ ts
token_before K.Bar w l ts = L.Bar ∷ ts
token_before K.Comma w l ts = L.Comma ∷ ts
token_before _ w l ts = L.Dot ∷ ts

-- the tokens of an item, for its pieces in a text
abbrev pub lexemes : List ℕ → List Piece → List Lexeme
lexemes text [] = []
lexemes text (p ∷ ps) =
    token_before p.kind (stands_for p.kind p.bytes) (line_at text p.place) (lexemes text ps)
