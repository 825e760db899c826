-- How the tokens of names, of arguments and of lists read.
use Rattle.std.proofs.Common.{◌≡◌, ℕ, Bool, true, false, cond, List, [], ◌∷◌, refl, sym, ap, subst, arith, Option, Some, None}
use Rattle.std.specs.Prelude.{codes, ◌&&◌, nat_le}
use Rattle.mc_term_parser.specs.declared.lexeme.Lexeme.{Lexeme}
use Rattle.mc_term_parser.specs.declared.lexeme.Lexeme.TheVariants as L
use Rattle.mc_term_parser.specs.declared.infixes.Role.TheVariants.{Plain, Negative}
use Rattle.mc_operators.specs.declared.table.Fix.{Fix}
use Rattle.mc_operators.specs.Table.{prefix_row}
use Rattle.mc_term_parser.specs.Infixes.{role, prefix_role, prefix_of, starts}
use Rattle.mc_term_parser.specs.Part.{closed}
use Rattle.mc_term_parser.specs.Reads.{Reads, Parts, ByComma}
use Rattle.mc_term_parser.specs.Reads as R
use Rattle.mc_term_parser.specs.Tree.{Tree, Int, Neg, Str, App, Items, Tailed, no_tree, more_trees, trees}
use Rattle.laws_print.proofs.Trees.{cell_tree}

-- the tokens before the rest read as the term wherever a term may start
abbrev pub ReadsOnly : List Lexeme → Tree → List Lexeme → Type 0
ReadsOnly ts t rest = (c : Bool) (limit : ℕ) → Reads c limit ts (closed t) rest

no_prefix :
    (limit : ℕ) (row : Option (ℕ × Fix)) (next : Bool)
    → next ≡ false → prefix_role limit row next ≡ Plain
no_prefix limit None next e = refl
no_prefix limit (Some r) next e = ap (λ t. cond (t && nat_le r.0 limit) (prefix_of r.0 r.1) Plain) e

-- a name before what starts no term is a name
pub plain_role :
    (limit : ℕ) (w : List ℕ) (rest : List Lexeme) → starts rest ≡ false → role limit w rest ≡ Plain
unfolding role
plain_role limit w [] e = no_prefix limit (prefix_row w) false refl
plain_role limit w (L.Word v q l ∷ ts) e =
    no_prefix limit (prefix_row w) (starts (L.Word v q l ∷ ts)) e
plain_role limit w (L.Path ps l ∷ ts) e = cc
plain_role limit w (L.Var v l ∷ ts) e = cc
plain_role limit w (L.Int n l ∷ ts) e = cc
plain_role limit w (L.Str s l ∷ ts) e = cc
plain_role limit w (L.Open l ∷ ts) e = cc
plain_role limit w (L.OpenCt l ∷ ts) e = cc
plain_role limit w (L.Close ∷ ts) e = no_prefix limit (prefix_row w) false refl
plain_role limit w (L.ListOpen l ∷ ts) e = cc
plain_role limit w (L.ListClose ∷ ts) e = no_prefix limit (prefix_row w) false refl
plain_role limit w (L.Bar ∷ ts) e = no_prefix limit (prefix_row w) false refl
plain_role limit w (L.Comma ∷ ts) e = no_prefix limit (prefix_row w) false refl
plain_role limit w (L.Dot ∷ ts) e = no_prefix limit (prefix_row w) false refl

pub minus_role :
    (limit n k : ℕ) (rest : List Lexeme) → role limit (codes "-") (L.Int n k ∷ rest) ≡ Negative n
unfolding role
minus_role limit n k rest = refl

module _ (line : ℕ) where
  pub reads_name :
      (w : List ℕ) (q : Bool) (rest : List Lexeme)
      → starts rest ≡ false → ReadsOnly (L.Word w q line ∷ rest) (App line (w ∷ []) no_tree) rest
  reads_name w q rest e = λ c limit. R.name (plain_role limit w rest e)

  pub reads_integer :
      (n : ℕ) (rest : List Lexeme) → ReadsOnly (L.Int n line ∷ rest) (Int line n) rest
  reads_integer n rest = λ c limit. R.number

  pub reads_negative :
      (n : ℕ) (q : Bool) (rest : List Lexeme)
      → ReadsOnly (L.Word (codes "-") q line ∷ L.Int n line ∷ rest) (Neg line n) rest
  reads_negative n q rest = λ c limit. R.negative (minus_role limit n line rest)

  pub reads_string :
      (s : List ℕ) (rest : List Lexeme) → ReadsOnly (L.Str s line ∷ rest) (Str line s) rest
  reads_string s rest = λ c limit. R.string

  pub reads_nil :
      (rest : List Lexeme)
      → ReadsOnly (L.ListOpen line ∷ L.ListClose ∷ rest) (Items line no_tree) rest
  reads_nil rest = λ c limit. R.nil

  abbrev pub Arguments : List Lexeme → List Tree → List Lexeme → Type 0
  Arguments ts es rest = Parts ByComma true 1200 ts es rest

  pub reads_compound :
      (w : List ℕ) (q : Bool) (ts rest : List Lexeme) (es : List Tree)
      → Arguments ts es (L.Close ∷ rest)
      → ReadsOnly (L.Word w q line ∷ L.OpenCt line ∷ ts) (App line (w ∷ []) (trees es)) rest
  reads_compound w q ts rest es h = λ c limit. R.compound refl h

  pub one_part :
      (ts rest : List Lexeme) (t : Tree) → ReadsOnly ts t rest → Arguments ts (t ∷ []) rest
  one_part ts rest t h = R.last {p = closed t} (h true 1200) (omega arith)

  pub part_then :
      (ts us rest : List Lexeme) (t : Tree) (es : List Tree)
      → ReadsOnly ts t (L.Comma ∷ us) → Arguments us es rest → Arguments ts (t ∷ es) rest
  part_then ts us rest t es h others = R.more {p = closed t} (h true 1200) (omega arith) refl others

  -- the inside of a list, up to its closing bracket, and the list
  pub data Inner : List Lexeme → Tree → List Lexeme → Type 0 where
    whole :
        {ts rest : List Lexeme} {es : List Tree} → Arguments ts es (L.ListClose ∷ rest)
        → Inner ts (Items line (trees es)) rest
    before :
        {ts us rest : List Lexeme} {es : List Tree} {t : Tree} → Arguments ts es (L.Bar ∷ us)
        → ReadsOnly us t (L.ListClose ∷ rest) → Inner ts (Tailed line (trees es) t) rest

  pub reads_list :
      (ts rest : List Lexeme) (t : Tree) → Inner ts t rest → ReadsOnly (L.ListOpen line ∷ ts) t rest
  reads_list ts rest t (whole h) = λ c limit. R.elements h
  reads_list ts rest u (before {t = t} h k) =
      λ c limit. R.tailed {p = closed t} h (k true 1200) (omega arith)

  -- one more element before a list
  pub element_then :
      (ts us rest : List Lexeme) (h t : Tree)
      → ReadsOnly ts h (L.Comma ∷ us) → Inner us t rest → Inner ts (cell_tree line h t) rest
  element_then ts us rest h t reads (whole {es = es} others) =
      whole {es = h ∷ es} (part_then ts us (L.ListClose ∷ rest) h es reads others)
  element_then ts us rest h t reads (before {us = vs} {es = es} others tail) =
      before {es = h ∷ es} (part_then ts us (L.Bar ∷ vs) h es reads others) tail

  -- What stands behind an element of a list, up to the closing bracket: with any element before it,
  -- it is the list of that element and of this tail.
  abbrev pub Tail : List Lexeme → Tree → List Lexeme → Type 0
  Tail us t rest =
      (ts : List Lexeme) (h : Tree) → ReadsOnly ts h us → Inner ts (cell_tree line h t) rest

  pub tail_nil : (rest : List Lexeme) → Tail (L.ListClose ∷ rest) (Items line no_tree) rest
  tail_nil rest = λ ts h reads. whole {es = h ∷ []} (one_part ts (L.ListClose ∷ rest) h reads)

  pub tail_more :
      (vs us rest : List Lexeme) (v t : Tree)
      → ReadsOnly vs v us → Tail us t rest → Tail (L.Comma ∷ vs) (cell_tree line v t) rest
  tail_more vs us rest v t reads tail =
      λ ts h first. element_then ts vs rest h (cell_tree line v t) first (tail vs v reads)

  abbrev pub is_list : Tree → Bool
  is_list (Items l ts) = true
  is_list (Tailed l ts t) = true
  is_list _ = false

  other_cell :
      (h t : Tree) → is_list t ≡ false → cell_tree line h t ≡ Tailed line (more_trees h no_tree) t
  other_cell h (Items l ts) e = cc
  other_cell h (Tailed l ts t) e = cc
  other_cell h _ e = refl

  pub tail_bar :
      (us rest : List Lexeme) (t : Tree)
      → is_list t ≡ false → ReadsOnly us t (L.ListClose ∷ rest) → Tail (L.Bar ∷ us) t rest
  tail_bar us rest t e reads =
      λ ts h first.
      subst (λ u. Inner ts u rest) (sym (other_cell h t e))
      (before {es = h ∷ []} (one_part ts (L.Bar ∷ us) h first) reads)
