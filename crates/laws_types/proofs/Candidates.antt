-- What a name may mean is there.
use Rattle.std.proofs.Common.{◌≡◌, ℕ, zero, suc, ◌<◌, Bool, true, false, cond, ◌&&◌, List, [], ◌∷◌, ◌++◌, length, Option, Some, None, refl, subst, arith}
use Rattle.std.proofs.lemmas.Option.{none-some}
use Rattle.std.proofs.lemmas.Str.{scalars-chars, IsUtf8-from_is_utf8}
use Rattle.std.specs.Prelude.{nat_eq, slice_get, slice_index_or, Contains}
use Rattle.std.specs.Char.{IsScalar}
use Rattle.std.specs.Str.{is_utf8, chars}
use lib.Utf8.{scalar, scalars}
use Rattle.mc_source.specs.declared.name.Candidate.{Candidate}
use Rattle.mc_source.specs.declared.name.Candidate.TheVariants as C
use Rattle.mc_decl_syntax.specs.Plain.{Path}
use Rattle.mc_names.specs.Plain.{PlainNameArity, id, qualifiers, last_part}
use Rattle.mc_names.specs.Characters.{sole, sole_character, character}
use Rattle.mc_names.specs.Linked.{Defined, Linked}
use Rattle.mc_names.specs.Candidates.{defined_by, fits, fitting, fitting_in, looked_in, as_character, candidates}
use Rattle.mc_clauses.specs.Unresolved.{meanings}
use Rattle.laws_types.specs.ClauseLaws.{IsThere}

-- a place at which something is
place_below : {A : Type 0} (xs : List A) (k : ℕ) (d : A) → slice_get xs k ≡ Some d → k < length xs
place_below [] k d e = absurd (none-some d e)
place_below (x ∷ xs) zero d e = omega arith
place_below (x ∷ xs) (suc k) d e = omega (arith, place_below xs k d e)

module _ (l : Linked) where
  abbrev pub Each : List Candidate → Type 0
  Each [] = Unit {0}
  Each (c ∷ cs) = IsThere l c × Each cs

  both : (cs ds : List Candidate) → Each cs → Each ds → Each (cs ++ ds)
  both [] ds h k = k
  both (c ∷ cs) ds h k = (h.0, both cs ds h.1 k)

  each_at : (cs : List Candidate) (k : ℕ) (c : Candidate) → Each cs → k < length cs → slice_index_or cs k c ≡ c → IsThere l c
  each_at [] k c h lt e = absurd (omega (arith, lt))
  each_at (d ∷ ds) zero c h lt e = subst (IsThere l) e h.0
  each_at (d ∷ ds) (suc k) c h lt e = each_at ds k c h.1 (omega (arith, lt)) e

  -- what is defined is there
  defined_there : (c : Candidate) (d : Defined) → defined_by l c ≡ Some d → IsThere l c
  defined_there (C.Con s) d e = place_below l.symbols s d e
  defined_there (C.Func f) d e = place_below l.preds f d e
  defined_there (C.Pred p) d e = place_below l.preds p d e
  defined_there (C.Char c) d e = absurd (none-some d e)

  fits_there : (own : Bool) (x : PlainNameArity) (c : Candidate) (o : Option Defined) → defined_by l c ≡ o → fits own x o ≡ true → IsThere l c
  fits_there own x c None e h = cc
  fits_there own x c (Some d) e h = defined_there c d e

  pub fitting_there : (own : Bool) (x : PlainNameArity) (cs : List Candidate) → Each (fitting l own x cs)
  fitting_there own x [] = tt
  fitting_there own x (c ∷ cs) = by_test (fits own x (defined_by l c)) (fits_there own x c (defined_by l c) refl) (fitting_there own x cs)
    where
      by_test : (t : Bool) → (t ≡ true → IsThere l c) → Each (fitting l own x cs) → Each (cond t (c ∷ fitting l own x cs) (fitting l own x cs))
      by_test true h rest = (h refl, rest)
      by_test false h rest = rest

  fitting_in_there : (own : ℕ) (x : PlainNameArity) (js : List ℕ) → Each (fitting_in l own x js)
  fitting_in_there own x [] = tt
  fitting_in_there own x (j ∷ js) =
      both (fitting l (nat_eq own j) x (slice_index_or l.declared j [])) (fitting_in l own x js) (fitting_there (nat_eq own j) x (slice_index_or l.declared j [])) (fitting_in_there own x js)

  -- a character is one
  one_scalar : (c : ℕ) → scalars (c ∷ []) ≡ true → IsScalar c
  one_scalar c e = by_test (scalar c) e
    where
      by_test : (t : Bool) → t && true ≡ true → t ≡ true
      by_test true e = refl
      by_test false e = e

  sole_there : (cs : List ℕ) → scalars cs ≡ true → Each (as_character (sole cs))
  sole_there [] e = tt
  sole_there (c ∷ []) e = (one_scalar c e, tt)
  sole_there (c ∷ d ∷ cs) e = tt

  sole_character_there : (w : List ℕ) → Each (as_character (sole_character w))
  sole_character_there w = by_test (is_utf8 w) (λ e. sole_there (chars w) (scalars-chars w (IsUtf8-from_is_utf8 w e)))
    where
      by_test : (t : Bool) → (t ≡ true → Each (as_character (sole (chars w)))) → Each (as_character (cond t (sole (chars w)) None))
      by_test true h = h refl
      by_test false h = tt

  character_there : (qs : Path) (x : PlainNameArity) → Each (as_character (character qs x))
  character_there [] x = by_test (nat_eq x.arity 0)
    where
      by_test : (t : Bool) → Each (as_character (cond t (sole_character x.name) None))
      by_test true = sole_character_there x.name
      by_test false = tt
  character_there (q ∷ qs) x = tt

  candidates_there : (own : ℕ) (qs : Path) (x : PlainNameArity) → Each (candidates l own qs x)
  candidates_there own qs x =
      both (fitting_in l own x (looked_in l (slice_get l.scopes own) qs)) (as_character (character qs x)) (fitting_in_there own x (looked_in l (slice_get l.scopes own) qs)) (character_there qs x)

  pub meanings_there : (own : ℕ) (w : Path) (n : ℕ) (c : Candidate) → Contains (meanings l own w n) c → IsThere l c
  meanings_there own w n c h = each_at (meanings l own w n) h.0 c (candidates_there own (qualifiers w) (id (last_part w) n)) h.1 h.2
