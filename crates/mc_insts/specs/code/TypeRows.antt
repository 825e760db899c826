-- Types as numbers into a table of keys: a key names a type over types that come before it.
use Rattle.std.specs.Prelude.{◌≡◌, ℕ, suc, ◌<◌, List, [], ◌∷◌, ◌++◌, length, get_or, map}
use Rattle.mc_program.specs.Programs.{TypeTerm, int_type, char_type, string_type, state_type, variable_type, union_type, TypeTerms}
use Rattle.mc_program.specs.PlainPrograms.{type_terms}
use Rattle.mc_model.specs.Types.{instance_of, type_at}
use Rattle.mc_insts.specs.declared.types.TypeKey.{TypeKey}
use Rattle.mc_insts.specs.declared.types.TypeKey.TheVariants as K

-- the type of a number
abbrev pub term_at : List TypeTerm → ℕ → TypeTerm
term_at ts r = get_or ts r (variable_type 0)

-- the types of these numbers
abbrev pub terms_at : List TypeTerm → List ℕ → TypeTerms
terms_at ts rows = type_terms (map (term_at ts) rows)

-- the type of a key, over the types that are there
abbrev pub term_of : List TypeTerm → TypeKey → TypeTerm
term_of ts K.Int = int_type
term_of ts K.Char = char_type
term_of ts K.Str = string_type
term_of ts K.Io = state_type
term_of ts (K.Var v) = variable_type v
term_of ts (K.Union u args) = union_type u (terms_at ts args.items)

-- the types that are there, and those of these keys behind them
abbrev pub terms_from : List TypeTerm → List TypeKey → List TypeTerm
terms_from ts [] = ts
terms_from ts (k ∷ ks) = terms_from (ts ++ term_of ts k ∷ []) ks

-- the types of the keys
abbrev pub terms : List TypeKey → List TypeTerm
terms ks = terms_from [] ks

-- the numbers are below a bound
abbrev pub AllBelow : ℕ → List ℕ → Type 0
AllBelow n rows = (k : ℕ) → k < length rows → get_or rows k 0 < n

-- the arguments of a key come before it
abbrev pub KeyFits : ℕ → TypeKey → Type 0
KeyFits n (K.Union u args) = AllBelow n args.items
KeyFits n _ = Unit {0}

abbrev pub KeysFit : ℕ → List TypeKey → Type 0
KeysFit n [] = Unit {0}
KeysFit n (k ∷ ks) = KeyFits n k × KeysFit (suc n) ks

-- the number is that of the type
pub record RowOf (ts : List TypeTerm) (r : ℕ) (t : TypeTerm) : Type 0 where
  pub there : r < length ts
  pub is : term_at ts r ≡ t

-- the type with these rows' types for its variables
abbrev pub over_rows : List TypeTerm → List ℕ → TypeTerm → TypeTerm
over_rows ts env t = instance_of (type_at (terms_at ts env)) t

-- the numbers are those of the types
pub record RowsOf (ts : List TypeTerm) (rows : List ℕ) (args : List TypeTerm) : Type 0 where
  pub there : AllBelow (length ts) rows
  pub are : map (term_at ts) rows ≡ args
