-- The strings of what is read are UTF-8.
use Rattle.std.proofs.Common.{ℕ, Bool, true, false, List, [], ◌∷◌, Option, Some, None, drop, arith, subst}
use Rattle.std.specs.Str.{IsUtf8}
use Rattle.mc_tokens.specs.declared.token.Kind.{Kind}
use Rattle.mc_tokens.specs.declared.token.Kind.TheVariants as K
use Rattle.mc_tokens.specs.Spots.{Plain}
use Rattle.mc_tokens.specs.Contents.{stands_for}
use Rattle.mc_tokens.specs.Items.{Piece}
use Rattle.mc_tokens.proofs.Texts.{contents_text}
use Rattle.mc_term_parser.specs.declared.lexeme.Lexeme.{Lexeme}
use Rattle.mc_term_parser.specs.declared.lexeme.Lexeme.TheVariants as L
use Rattle.mc_term_parser.specs.declared.infixes.Chain.{Chain}
use Rattle.mc_term_parser.specs.declared.infixes.Chain.TheVariants.{And, Or}
use Rattle.mc_term_parser.specs.Part.{Part}
use Rattle.mc_term_parser.specs.Tree.{Tree, Var, Int, Neg, Str, App, Items, Tailed, Conj, Disj, Inside, Trees, no_tree, more_trees, trees}
use Rattle.mc_term_parser.specs.Reads.{chain, Between, Reads, Parts, variable, number, string, negative, name, path, compound, paren, nil, elements, tailed, prefix, quantified, binary, chained, last, more}
use Rattle.mc_terms.specs.Lines.{line_at}
use Rattle.mc_terms.specs.Lexemes.{goes_on, name_by, name_before, token_before, lexemes}
use Rattle.mc_terms.specs.Answers.{ItemReads}

-- OF TOKENS
abbrev IsText : Lexeme → Type 0
IsText (L.Str bytes l) = IsUtf8 bytes
IsText _ = Unit {0}

abbrev pub AreTexts : List Lexeme → Type 0
AreTexts [] = Unit {0}
AreTexts (t ∷ ts) = IsText t × AreTexts ts

abbrev RestIsTexts : Option (List (List ℕ) × List Lexeme) → Type 0
RestIsTexts None = Unit {0}
RestIsTexts (Some r) = AreTexts r.1

rest_texts : (ts : List Lexeme) → AreTexts ts → RestIsTexts (goes_on ts)
rest_texts (L.Dot ∷ L.Word w q l ∷ ts) h = h.1.1
rest_texts (L.Dot ∷ L.Path ws l ∷ ts) h = h.1.1
rest_texts _ h = tt

name_by_texts : (o : Option (List (List ℕ) × List Lexeme)) (w : List ℕ) (q : Bool) (l : ℕ) (ts : List Lexeme) → RestIsTexts o → AreTexts ts → AreTexts (name_by o w q l ts)
name_by_texts None w q l ts h k = (tt, k)
name_by_texts (Some r) w q l ts h k = (tt, h)

name_texts : (w : List ℕ) (q : Bool) (l : ℕ) (ts : List Lexeme) → AreTexts ts → AreTexts (name_before w q l ts)
name_texts w q l ts h = name_by_texts (goes_on ts) w q l ts (rest_texts ts h) h

-- what a token stands for that is a string is UTF-8
token_texts : (k : Kind) (bytes : List ℕ) (l : ℕ) (ts : List Lexeme) → AreTexts ts → AreTexts (token_before k (stands_for k bytes) l ts)
token_texts K.Name bytes l ts h = name_texts (stands_for K.Name bytes) false l ts h
token_texts K.Quoted bytes l ts h = name_texts (stands_for K.Quoted bytes) true l ts h
token_texts K.Str bytes l ts h = (contents_text 34 (omega arith) Plain 0 (drop 1 bytes), h)
token_texts _ bytes l ts h = (tt, h)

lexemes_texts : (text : List ℕ) (ps : List Piece) → AreTexts (lexemes text ps)
lexemes_texts text [] = tt
lexemes_texts text (p ∷ ps) = token_texts p.kind p.bytes (line_at text p.place) (lexemes text ps) (lexemes_texts text ps)

-- OF TREES
abbrev mutual
  pub TreeOfTexts : Tree → Type 0
  TreeOfTexts (Var l w) = Unit {0}
  TreeOfTexts (Int l n) = Unit {0}
  TreeOfTexts (Neg l n) = Unit {0}
  TreeOfTexts (Str l bytes) = IsUtf8 bytes
  TreeOfTexts (App l w ts) = TreesOfTexts ts
  TreeOfTexts (Items l ts) = TreesOfTexts ts
  TreeOfTexts (Tailed l ts t) = TreesOfTexts ts × TreeOfTexts t
  TreeOfTexts (Conj l ts) = TreesOfTexts ts
  TreeOfTexts (Disj l ts) = TreesOfTexts ts
  TreeOfTexts (Inside l t) = TreeOfTexts t

  pub TreesOfTexts : Trees → Type 0
  TreesOfTexts no_tree = Unit {0}
  TreesOfTexts (more_trees t ts) = TreeOfTexts t × TreesOfTexts ts

chain_texts : (k : Chain) (l : ℕ) (ts : List Tree) → TreesOfTexts (trees ts) → TreeOfTexts (chain k l ts)
chain_texts And l ts h = h
chain_texts Or l ts h = h

mutual
  reads_texts : {c : Bool} {limit : ℕ} {ts rest : List Lexeme} {p : Part Tree} → Reads c limit ts p rest → AreTexts ts → TreeOfTexts p.tree × AreTexts rest
  reads_texts variable h = (tt, h.1)
  reads_texts number h = (tt, h.1)
  reads_texts string h = (h.0, h.1)
  reads_texts (negative e) h = (tt, h.1.1)
  reads_texts (name e) h = (tt, h.1)
  reads_texts (path e) h = (tt, h.1)
  reads_texts (compound e ps) h = let r = parts_texts ps h.1.1 in (r.0, r.1.1)
  reads_texts (paren e d n) h = let r = reads_texts d h.1 in (r.0, r.1.1)
  reads_texts nil h = (tt, h.1.1)
  reads_texts (elements ps) h = let r = parts_texts ps h.1 in (r.0, r.1.1)
  reads_texts (tailed ps d n) h = let r = parts_texts ps h.1 in let s = reads_texts d r.1.1 in ((r.0, s.0), s.1.1)
  reads_texts (prefix e d n) h = let r = reads_texts d h.1 in ((r.0, tt), r.1)
  reads_texts (quantified e a m j b n) h = let r = reads_texts a h.1 in let s = reads_texts b r.1 in ((r.0, (s.0, tt)), s.1)
  reads_texts (binary a j m n b o) h = let r = reads_texts a h in let s = reads_texts b r.1.1 in ((r.0, (s.0, tt)), s.1)
  reads_texts (chained {k = k} {a = a} {ms = ms} d j n ps) h = let r = reads_texts d h in let s = parts_texts ps r.1.1 in (chain_texts k _ (a.tree ∷ ms) (r.0, s.0), s.1)

  parts_texts : {s : Between} {c : Bool} {limit : ℕ} {ts rest : List Lexeme} {ms : List Tree} → Parts s c limit ts ms rest → AreTexts ts → TreesOfTexts (trees ms) × AreTexts rest
  parts_texts (last d n) h = let r = reads_texts d h in ((r.0, tt), r.1)
  parts_texts (more d n e ps) h = let r = reads_texts d h in let s = parts_texts ps r.1.1 in ((r.0, s.0), s.1)

-- OF ITEMS
pub item_texts : (text : List ℕ) (from : ℕ) (t : Tree) (next : ℕ) → ItemReads text from t next → TreeOfTexts t
item_texts text from t next reads =
    let tokens = reads.1 in
    let read = reads.2 in
    let texts : AreTexts reads.0 = subst AreTexts tokens.2 (lexemes_texts text tokens.0) in
    subst TreeOfTexts read.3 (reads_texts read.1 texts).0
