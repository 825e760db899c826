-- What is compiled: the texts of files, a query, and what is asked of them.
use Rattle.std.specs.Prelude.{ℕ, Bool, false, List, map, Option, Some, None}
use Rattle.mc_compile.specs.declared.given.Given.{Given}
use Rattle.mc_compile.specs.declared.given.Query.{Query}

-- the bytes of the files and of the query's goal, whether the first answer alone is wanted, and
-- whether `main` is to be run
pub record Sources : Type 0 where
  pub texts : List (List ℕ)
  pub query : Option (List ℕ)
  pub first : Bool
  pub wants_main : Bool

abbrev pub texts_of : List Given → List (List ℕ)
texts_of files = map (λ (file : Given). file.bytes) files

abbrev pub text_of : Option Query → Option (List ℕ)
text_of None = None
text_of (Some query) = Some query.text

abbrev pub is_first : Option Query → Bool
is_first None = false
is_first (Some query) = query.first

abbrev pub sources_of : List Given → Option Query → (wants_main : Bool) → Sources
sources_of files query wants_main =
    record {
      texts = texts_of files;
      query = text_of query;
      first = is_first query;
      wants_main = wants_main;
    }
