-- What the phase that types clauses answers is typed, each clause in its own module, as the law of
-- the whole program asks. (Mercury Language Reference Manual: Types; The module system.)
use Rattle.std.specs.Prelude.{◌≡◌, ◌<◌, ℕ, [], length, Option, Some}
use Rattle.mc_term_data.specs.Plain.{PlainTerm}
use Rattle.mc_source.specs.declared.place.Place.{Place}
use Rattle.mc_program.specs.Programs.{Source}
use Rattle.mc_accepted.specs.NormalTypes.{TypedClause}
use Rattle.laws_made_types.specs.Known.{ClauseHasValues}
use Rattle.mc_names.specs.Linked.{Linked}
use Rattle.mc_type_table.specs.Rules.{type_faults}
use Rattle.mc_type_table.specs.Visibility.{definitions_seen}
use Rattle.mc_clauses.specs.Unresolved.{Numbered_clause, unresolved_clause, unresolved_query}
use Rattle.mc_declarations.specs.Proper.{AreWellWritten}
use Rattle.mc_goals.specs.Resolved.{typed_clause}
use Rattle.mc_type_phase.specs.Items.{Item}
use Rattle.mc_type_phase.specs.Judging.{IsTyped}
use Rattle.mc_type_phase.specs.declared.judged.TypedClause.{TypedClause as Judged_clause}
use Rattle.laws_types.specs.WholeTypes.{IsTypedIn, QueryIsTyped}
use Rattle.laws_types.specs.KnownCandidates.{ConstructorsAreNumbered}

-- a clause in a module, at a place
abbrev pub item : (own : ℕ) → Numbered_clause → Place → Item
item own numbered at = record { own = own; numbered = numbered; at = at }

abbrev pub HasValues : Numbered_clause → Type 0
HasValues c = (P : Source) → ClauseHasValues P c.clause

abbrev pub JudgedClausesAreTyped : Type 0
JudgedClausesAreTyped =
    (l : Linked) (own number : ℕ) (t : PlainTerm) (at : Place) (query : Option TypedClause)
    (judged : Judged_clause)
    → AreWellWritten l → type_faults l ≡ [] → ConstructorsAreNumbered l
    → number < length l.preds
    → HasValues (unresolved_clause l own number t)
    → IsTyped l (definitions_seen l) (item own (unresolved_clause l own number t) at) judged
    → IsTypedIn l query own number (typed_clause judged.resolved)

abbrev pub JudgedQueriesAreTyped : Type 0
JudgedQueriesAreTyped =
    (l : Linked) (own : ℕ) (g : PlainTerm) (at : Place) (query : Option TypedClause)
    (judged : Judged_clause)
    → AreWellWritten l → type_faults l ≡ [] → ConstructorsAreNumbered l
    → HasValues (unresolved_query l own (length l.preds) g)
    → IsTyped l (definitions_seen l) (item own (unresolved_query l own (length l.preds) g) at)
    judged
    → QueryIsTyped l query (Some (typed_clause judged.resolved))
