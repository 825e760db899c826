-- What the names of a clause or a query may mean is declared, with types that are well formed.
-- (Mercury Language Reference Manual: Types; Overload resolution.)
use Rattle.std.specs.Prelude.{◌≡◌, ℕ, [], length, Option}
use Rattle.mc_term_data.specs.Plain.{PlainTerm}
use Rattle.mc_program.specs.Programs.{TypeTerm}
use Rattle.mc_accepted.specs.Resolving.{Unresolved_clause, steps_of}
use Rattle.laws_made_types.specs.Known.{WalkIsKnown}
use Rattle.mc_typecheck.specs.WellFormed.{WalkIsDeclared}
use Rattle.mc_names.specs.Linked.{Linked}
use Rattle.mc_type_table.specs.Rules.{type_faults}
use Rattle.mc_clauses.specs.Unresolved.{unresolved_clause, unresolved_query}
use Rattle.mc_declarations.specs.Declarations.{constructors_from, parameter_counts}
use Rattle.mc_declarations.specs.Proper.{AreWellWritten, declared_for}

-- each constructor has a number, as in a program that is linked (laws_types)
abbrev pub ConstructorsAreNumbered : Linked → Type 0
ConstructorsAreNumbered l =
    (D : ℕ → Option TypeTerm) → length (constructors_from l D 0 l.types) ≡ length l.symbols

-- what the names of this clause may mean in a module is declared, with types that are well formed
abbrev pub IsKnownIn : Linked → (own : ℕ) → Unresolved_clause → Type 0
IsKnownIn l own clause =
    WalkIsKnown (declared_for l own) (parameter_counts l) (steps_of clause)
    × WalkIsDeclared (declared_for l own) (parameter_counts l) (steps_of clause)

abbrev pub CandidatesAreKnown : Type 0
CandidatesAreKnown =
    (l : Linked) (own number : ℕ) (t : PlainTerm)
    → AreWellWritten l → type_faults l ≡ [] → ConstructorsAreNumbered l
    → IsKnownIn l own (unresolved_clause l own number t).clause
    × IsKnownIn l own (unresolved_query l own number t).clause
