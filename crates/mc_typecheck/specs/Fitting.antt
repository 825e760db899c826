-- Whether a table has what a clause speaks of. (This project's profile.)
use Rattle.std.specs.Prelude.{ℕ, Bool, true, nat_lt, ◌&&◌, List, [], ◌∷◌, length}
use Rattle.mc_program.specs.Programs.{Source}
use Rattle.mc_accepted.specs.ProperTypes.{Parameters}
use Rattle.mc_accepted.specs.Resolving.{Step, push_variable, push_number, push_text, choose, equate, call, close_head, steps_of}
use Rattle.mc_source.specs.declared.name.Candidate.{Candidate}
use Rattle.mc_source.specs.declared.name.Candidate.TheVariants as C
use Rattle.mc_typecheck.specs.Ties.{Meaning}
use Rattle.mc_typecheck.specs.Walked.{IsThere, Shows}
use Rattle.mc_typecheck.specs.declared.table.Signatures.{Signatures}
use Rattle.mc_unresolved.specs.Unresolved.{plain_unresolved_clause}
use Rattle.mc_unresolved.specs.declared.clause.UnresolvedClause.{UnresolvedClause}

-- the table has what each thing that is there is declared with, in some program
pub record IsSomeTable (t : Signatures) : Type 0 where
  pub source : Source
  pub parameters : Parameters
  pub shows : (m : Meaning) → IsThere t m → Shows source parameters t m

abbrev pub is_there : Signatures → Candidate → Bool
is_there t (C.Con s) = nat_lt s t.symbols
is_there t (C.Func f) = nat_lt f t.preds
is_there t (C.Pred p) = nat_lt p t.preds
is_there t (C.Char c) = true

abbrev pub all_there : Signatures → List Candidate → Bool
all_there t [] = true
all_there t (c ∷ cs) = is_there t c && all_there t cs

-- the step's variable has a name, its candidates are in the table, or its predicate is
abbrev pub step_fits : Signatures → (names : ℕ) → Step → Bool
step_fits t n (push_variable v) = nat_lt v n
step_fits t n push_number = true
step_fits t n push_text = true
step_fits t n (choose cs k) = all_there t cs
step_fits t n equate = true
step_fits t n (call cs k) = all_there t cs
step_fits t n (close_head p k) = nat_lt p t.preds

abbrev pub each_fits : Signatures → (names : ℕ) → List Step → Bool
each_fits t n [] = true
each_fits t n (s ∷ steps) = step_fits t n s && each_fits t n steps

abbrev pub clause_fits : Signatures → UnresolvedClause → Bool
clause_fits t clause =
    each_fits t (length clause.names) (steps_of (plain_unresolved_clause clause))
