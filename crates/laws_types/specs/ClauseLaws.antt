-- What clauses and queries are before their names are resolved. (Mercury Language Reference Manual:
-- Syntax, variables; Goals, quantification; Overload resolution.)
use Rattle.std.specs.Prelude.{ℕ, ◌<◌, List, [], ◌∷◌, length, Contains}
use Rattle.std.specs.Char.{IsScalar}
use Rattle.mc_term_data.specs.Plain.{PlainTerm, PlainTerms, at, no_term, more_terms, Var, Int, Str, App, Items, Tailed, Conj, Disj}
use Rattle.mc_source.specs.declared.name.Candidate.{Candidate}
use Rattle.mc_source.specs.declared.name.Candidate.TheVariants as C
use Rattle.mc_program.specs.Values.{int, str}
use Rattle.mc_program.specs.Programs.{Source}
use Rattle.mc_model.specs.Types.{IsValue}
use Rattle.mc_accepted.specs.Resolving.{Step, choose, call, steps_of}
use Rattle.mc_names.specs.Linked.{Linked}
use Rattle.laws_made_types.specs.Known.{ClauseHasValues, ClauseHasNames}
use Rattle.mc_clauses.specs.Unresolved.{Numbered_clause, unresolved_clause, unresolved_query}
use Rattle.laws_types.specs.Mentioned.{ClauseNamesItsOwn}

-- each variable of a clause has a name, those too that a quantifier names
abbrev pub HasNames : Numbered_clause → Type 0
HasNames c = ClauseHasNames (length c.names) c.clause

abbrev pub ClausesHaveNames : Type 0
ClausesHaveNames =
    (l : Linked) (own pred : ℕ) (t : PlainTerm) → HasNames (unresolved_clause l own pred t)

abbrev pub QueriesHaveNames : Type 0
QueriesHaveNames =
    (l : Linked) (own pred : ℕ) (g : PlainTerm) → HasNames (unresolved_query l own pred g)

-- quantifiers name variables of their own
abbrev pub ClausesNameTheirOwn : Type 0
ClausesNameTheirOwn =
    (l : Linked) (own pred : ℕ) (t : PlainTerm)
    → ClauseNamesItsOwn (unresolved_clause l own pred t).clause

abbrev pub QueriesNameTheirOwn : Type 0
QueriesNameTheirOwn =
    (l : Linked) (own pred : ℕ) (g : PlainTerm)
    → ClauseNamesItsOwn (unresolved_query l own pred g).clause

-- WHAT NAMES MAY MEAN is there: a constructor, a function or a predicate of the program, or a
-- character.
abbrev pub IsThere : Linked → Candidate → Type 0
IsThere l (C.Con s) = s < length l.symbols
IsThere l (C.Func f) = f < length l.preds
IsThere l (C.Pred p) = p < length l.preds
IsThere l (C.Char c) = IsScalar c

abbrev pub AllThere : Linked → List Step → Type 0
AllThere l [] = Unit {0}
AllThere l (choose cs n ∷ steps) =
    ((c : Candidate) → Contains cs c → IsThere l c) × AllThere l steps
AllThere l (call cs n ∷ steps) =
    ((c : Candidate) → Contains cs c → IsThere l c) × AllThere l steps
AllThere l (s ∷ steps) = AllThere l steps

abbrev pub CandidatesAreThere : Type 0
CandidatesAreThere =
    (l : Linked) (own pred : ℕ) (t : PlainTerm)
    → AllThere l (steps_of (unresolved_clause l own pred t).clause)
    × AllThere l (steps_of (unresolved_query l own pred t).clause)

-- THE NUMBERS AND TEXTS of a term are values, so those of a clause are
module _ (P : Source) where
  abbrev mutual
    pub IsOfValues : PlainTerm → Type 0
    IsOfValues (at (Var x) line) = Unit {0}
    IsOfValues (at (Int n) line) = IsValue P (int n)
    IsOfValues (at (Str bytes) line) = IsValue P (str bytes)
    IsOfValues (at (App w ts) line) = AreOfValues ts
    IsOfValues (at (Items ts) line) = AreOfValues ts
    IsOfValues (at (Tailed ts t) line) = AreOfValues ts × IsOfValues t
    IsOfValues (at (Conj ts) line) = AreOfValues ts
    IsOfValues (at (Disj ts) line) = AreOfValues ts

    pub AreOfValues : PlainTerms → Type 0
    AreOfValues no_term = Unit {0}
    AreOfValues (more_terms t ts) = IsOfValues t × AreOfValues ts

abbrev pub ClausesHaveValues : Type 0
ClausesHaveValues =
    (P : Source) (l : Linked) (own pred : ℕ) (t : PlainTerm)
    → IsOfValues P t
    → ClauseHasValues P (unresolved_clause l own pred t).clause
    × ClauseHasValues P (unresolved_query l own pred t).clause
