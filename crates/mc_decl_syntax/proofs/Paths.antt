-- Names that are taken from terms one after another.
use Rattle.std.proofs.Common.{◌≡◌, List, [], ◌∷◌, ◌++◌, Option, Some, None, refl, ap, sym, append_assoc}
use Rattle.std.specs.Option.{option_map}
use Rattle.std.proofs.lemmas.List.{append-nil}
use Rattle.mc_term_data.specs.Plain.{PlainTerm, PlainTerms, no_term, more_terms}
use Rattle.mc_decl_syntax.specs.Plain.{Path}
use Rattle.mc_decl_syntax.specs.Terms.{path, paths, joined}
use Rattle.mc_decl_syntax.specs.code.Steps.{paths_with}

with_joined : (names : List Path) (p : Path) (more : Option (List Path)) → option_map (λ m. names ++ m) (joined (Some p) more) ≡ option_map (λ m. (names ++ (p ∷ [])) ++ m) more
with_joined names p None = refl
with_joined names p (Some m) = ap Some (sym (append_assoc names (p ∷ []) m))

pub with_path : (names : List Path) (t : PlainTerm) (p : Path) (ts : PlainTerms) → Some p ≡ path t → paths_with names (more_terms t ts) ≡ paths_with (names ++ (p ∷ [])) ts
with_path names t p ts e = rw (← e) (with_joined names p (paths ts))

pub without_path : (names : List Path) (t : PlainTerm) (ts : PlainTerms) → None ≡ path t → paths_with names (more_terms t ts) ≡ None
without_path names t ts e = rw (← e) refl

pub all_paths : (names : List Path) → paths_with names no_term ≡ Some names
all_paths names = ap Some (append-nil names)
