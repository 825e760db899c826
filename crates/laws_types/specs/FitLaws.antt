-- Clauses and queries fit the table of what their program declares: their variables have names, and
-- what their names may mean, and the predicate that they are of, stand there. (Mercury Language
-- Reference Manual: Types; this project's profile.)
use Rattle.std.specs.Prelude.{◌≡◌, ◌<◌, ℕ, suc, true, List, length, Contains, Option}
use Rattle.mc_term_data.specs.Plain.{PlainTerm}
use Rattle.mc_program.specs.Programs.{TypeTerm}
use Rattle.mc_accepted.specs.Resolving.{steps_of}
use Rattle.mc_decl_syntax.specs.Entries.{File}
use Rattle.mc_names.specs.Linked.{Linked}
use Rattle.mc_modules.specs.Linked.{linked}
use Rattle.mc_typecheck.specs.declared.table.Signatures.{Signatures}
use Rattle.mc_typecheck.specs.Fitting.{each_fits}
use Rattle.mc_clauses.specs.Unresolved.{Numbered_clause, unresolved_clause, unresolved_query}
use Rattle.mc_declarations.specs.Declarations.{constructors_from}
use Rattle.mc_type_phase.specs.Typing.{ModuleClause, clauses_from}

-- a table has the constructors of a program and its predicates, and behind these that of a query
pub record HasAll (l : Linked) (table : Signatures) : Type 0 where
  pub symbols : table.symbols ≡ length l.symbols
  pub preds : table.preds ≡ suc (length l.preds)

abbrev pub Fits : Signatures → Numbered_clause → Type 0
Fits table c = each_fits table (length c.names) (steps_of c.clause) ≡ true

abbrev pub ClausesFit : Type 0
ClausesFit =
    (l : Linked) (table : Signatures) (own pred : ℕ) (t : PlainTerm)
    → HasAll l table
    → pred < suc (length l.preds)
    → Fits table (unresolved_clause l own pred t) × Fits table (unresolved_query l own pred t)

-- the predicate of a clause of a module is there
abbrev pub PredicatesAreThere : Type 0
PredicatesAreThere =
    (l : Linked) (own : ℕ) (files : List File) (c : ModuleClause)
    → Contains (clauses_from l own files) c → c.pred < length l.preds

-- a program that is linked declares each constructor once, where it is numbered
abbrev pub ConstructorsAreLinked : Type 0
ConstructorsAreLinked =
    (files : List File) (D : ℕ → Option TypeTerm)
    → length (constructors_from (linked files) D 0 (linked files).types)
    ≡ length (linked files).symbols
