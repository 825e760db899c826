-- THE LAW of a program whose clauses and query the phase of clauses let through: the whole program
-- that is made of them fits as far as types go. (Mercury Language Reference Manual: Types; the
-- query is this project's.)
use Rattle.std.specs.Prelude.{◌≡◌, ℕ, List, [], ◌∷◌, ◌++◌, map, Option}
use Rattle.std.specs.Option.{is_some, option_map, option_to_list}
use Rattle.mc_term_data.specs.Plain.{PlainTerm}
use Rattle.mc_accepted.specs.NormalTypes.{TypedClause}
use Rattle.mc_decl_syntax.specs.Entries.{File}
use Rattle.mc_names.specs.Linked.{Linked}
use Rattle.mc_type_table.specs.Rules.{type_faults}
use Rattle.mc_type_table.specs.Visibility.{definitions_seen}
use Rattle.mc_declarations.specs.Proper.{AreWellWritten}
use Rattle.mc_goals.specs.Resolved.{typed_clause}
use Rattle.mc_type_phase.specs.Items.{Item, items}
use Rattle.mc_type_phase.specs.Judging.{AreTyped}
use Rattle.mc_type_phase.specs.declared.judged.TypedClause.{TypedClause as Judged_clause}
use Rattle.mc_core_program.specs.Wholes.{IsWhole}
use Rattle.mc_core_program.specs.declared.whole_program_program.WholeProgram.{WholeProgram}
use Rattle.laws_types.specs.WholeTypes.{TypesFitIn}
use Rattle.laws_types.specs.KnownCandidates.{ConstructorsAreNumbered}
use Rattle.laws_types.specs.JudgedClauses.{HasValues}

abbrev pub EachHasValues : List Item → Type 0
EachHasValues [] = Unit {0}
EachHasValues (i ∷ is) = HasValues i.numbered × EachHasValues is

-- a clause that was judged, and that with the number of its predicate
abbrev pub judged_clause : Judged_clause → TypedClause
judged_clause c = typed_clause c.resolved

abbrev pub numbered : Judged_clause → ℕ × TypedClause
numbered c = (c.pred, judged_clause c)

abbrev pub JudgedProgramsFit : Type 0
JudgedProgramsFit =
    (l : Linked) (files : List File) (number : ℕ) (goal : Option PlainTerm)
    (clauses : List Judged_clause) (query : Option Judged_clause) (whole : WholeProgram)
    → AreWellWritten l → type_faults l ≡ [] → ConstructorsAreNumbered l
    → EachHasValues (items l files number goal)
    → AreTyped l (definitions_seen l) (items l files number goal)
    (clauses ++ option_to_list query)
    → is_some query ≡ is_some goal
    → IsWhole l (map numbered clauses) (option_map judged_clause query) whole
    → TypesFitIn l whole
