-- What holds of the parts of a clause's term.
use Rattle.std.specs.Prelude.{ℤ, codes}
use Rattle.std.proofs.Common.{ℕ, Bool, true, false, cond, List, Option, Some, None}
use Rattle.mc_term_data.specs.Plain.{PlainTerm, PlainTerms, at, no_term, more_terms, Var, Int, Str, App, Items, Tailed, Conj, Disj}
use Rattle.mc_term_data.specs.Shapes.{is_the_word, two, operands}
use Rattle.mc_source.specs.declared.name.Candidate.{Candidate}
use Rattle.mc_clauses.specs.Unresolved.{arguments_of, and_result, head_by, head_terms}
use Rattle.laws_types.proofs.Combined.{Sourced, AllSourced}

module _ (Names : List Candidate → Type 0) (Number : ℤ → Type 0) (Text : List ℕ → Type 0) where
  abbrev pub Both : Option (PlainTerm × PlainTerm) → Type 0
  Both None = Unit {0}
  Both (Some p) = Sourced Names Number Text p.0 × Sourced Names Number Text p.1

  both_two : (ts : PlainTerms) → AllSourced Names Number Text ts → Both (two ts)
  both_two no_term h = tt
  both_two (more_terms a no_term) h = tt
  both_two (more_terms a (more_terms b no_term)) h = (h.0, h.1.0)
  both_two (more_terms a (more_terms b (more_terms c ts))) h = tt

  pub both_operands : (name : List ℕ) (t : PlainTerm) → Sourced Names Number Text t → Both (operands name t)
  both_operands name (at (Var x) line) h = tt
  both_operands name (at (Int n) line) h = tt
  both_operands name (at (Str bytes) line) h = tt
  both_operands name (at (App w ts) line) h = by_test (is_the_word name w)
    where
      by_test : (b : Bool) → Both (cond b (two ts) None)
      by_test true = both_two ts h
      by_test false = tt
  both_operands name (at (Items ts) line) h = tt
  both_operands name (at (Tailed ts t) line) h = tt
  both_operands name (at (Conj ts) line) h = tt
  both_operands name (at (Disj ts) line) h = tt

  arguments_sourced : (t : PlainTerm) → Sourced Names Number Text t → AllSourced Names Number Text (arguments_of t)
  arguments_sourced (at (Var x) line) h = tt
  arguments_sourced (at (Int n) line) h = tt
  arguments_sourced (at (Str bytes) line) h = tt
  arguments_sourced (at (App w ts) line) h = h
  arguments_sourced (at (Items ts) line) h = tt
  arguments_sourced (at (Tailed ts t) line) h = tt
  arguments_sourced (at (Conj ts) line) h = tt
  arguments_sourced (at (Disj ts) line) h = tt

  result_sourced : (ts : PlainTerms) (r : PlainTerm) → AllSourced Names Number Text ts → Sourced Names Number Text r → AllSourced Names Number Text (and_result ts r)
  result_sourced no_term r h k = (k, tt)
  result_sourced (more_terms t ts) r h k = (h.0, result_sourced ts r h.1 k)

  head_sourced : (t : PlainTerm) (o : Option (PlainTerm × PlainTerm)) → Sourced Names Number Text t → Both o → AllSourced Names Number Text (head_by t o)
  head_sourced t None h k = arguments_sourced t h
  head_sourced t (Some p) h k = result_sourced (arguments_of p.0) p.1 (arguments_sourced p.0 k.0) k.1

  pub heads_sourced : (t : PlainTerm) → Sourced Names Number Text t → AllSourced Names Number Text (head_terms t)
  heads_sourced t h = head_sourced t (operands (codes "=") t) h (both_operands (codes "=") t h)

-- where nothing is asked of numbers and texts, each term is such
module _ (Names : List Candidate → Type 0) where
  mutual
    pub any_term : (t : PlainTerm) → Sourced Names (λ n. Unit {0}) (λ bytes. Unit {0}) t
    any_term (at (Var x) line) = tt
    any_term (at (Int n) line) = tt
    any_term (at (Str bytes) line) = tt
    any_term (at (App w ts) line) = any_terms ts
    any_term (at (Items ts) line) = any_terms ts
    any_term (at (Tailed ts t) line) = (any_terms ts, any_term t)
    any_term (at (Conj ts) line) = any_terms ts
    any_term (at (Disj ts) line) = any_terms ts

    any_terms : (ts : PlainTerms) → AllSourced Names (λ n. Unit {0}) (λ bytes. Unit {0}) ts
    any_terms no_term = tt
    any_terms (more_terms t ts) = (any_term t, any_terms ts)
