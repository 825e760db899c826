-- What a module sees typed is typed where all definitions of types are seen: each type stands
-- without equivalences there. (Mercury Language Reference Manual: Types, equivalence types; The
-- module system, abstract types.)
use Rattle.std.specs.Prelude.{◌≡◌, ℕ, [], map}
use Rattle.mc_program.specs.Programs.{TypeTerm, Predicate, Source}
use Rattle.mc_model.specs.Flat.{Flat_goal}
use Rattle.mc_accepted.specs.ProperTypes.{EachProper}
use Rattle.mc_accepted.specs.Typing.{TypedGoal}
use Rattle.mc_names.specs.Linked.{Linked}
use Rattle.mc_type_table.specs.Expanded.{expanded}
use Rattle.mc_type_table.specs.Rules.{definitions, type_faults}
use Rattle.mc_declarations.specs.Declarations.{declarations, parameter_counts}
use Rattle.mc_declarations.specs.Proper.{AreWellWritten, declared_for}

-- a type without equivalences, whoever sees what types are defined as
abbrev pub final : Linked → TypeTerm → TypeTerm
final l t = expanded l (definitions l) t

-- what a program declares, whoever sees what types are defined as
abbrev pub declared : Linked → Source
declared l = declarations l (definitions l)

-- a program with other predicates
abbrev pub with_preds : Source → (ℕ → Predicate) → Source
with_preds P preds =
    record { symbols = P.symbols; symbols_of = P.symbols_of; preds = preds }

-- Predicates are seen with these types, which are well formed, and are declared with those, which
-- are the same without equivalences.
abbrev pub AreSeenAs : Linked → (seen all : ℕ → Predicate) → Type 0
AreSeenAs l seen all =
    (p : ℕ)
    → EachProper (parameter_counts l) (seen p).types × (map (final l) (seen p).types ≡ (all p).types)

abbrev pub SeenTypesAreTyped : Type 0
SeenTypesAreTyped =
    (l : Linked) (own : ℕ) (seen all : ℕ → Predicate) (T : ℕ → TypeTerm) (g : Flat_goal)
    → AreWellWritten l → type_faults l ≡ [] → AreSeenAs l seen all
    → TypedGoal (with_preds (declared_for l own) seen) T g
    → TypedGoal (with_preds (declared l) all) (λ v. final l (T v)) g

-- the predicates and functions that a module declares are so
abbrev pub SeenTypesAreFinal : Type 0
SeenTypesAreFinal =
    (l : Linked) (own : ℕ)
    → AreWellWritten l → type_faults l ≡ []
    → AreSeenAs l (declared_for l own).preds (declared l).preds
