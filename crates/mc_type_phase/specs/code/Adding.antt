-- What is judged behind what was judged before.
use Rattle.std.specs.Prelude.{◌≡◌, ℕ, List, [], ◌∷◌, ◌++◌, Option, Some, None, ⊤}
use Rattle.mc_source.specs.declared.rule.Broken.{Broken}
use Rattle.mc_program.specs.Programs.{TypeTerm, Source}
use Rattle.mc_accepted.specs.ProperTypes.{Parameters}
use Rattle.mc_unresolved.specs.Unresolved.{plain_unresolved_clause}
use Rattle.mc_unresolved.specs.declared.clause.UnresolvedClause.{UnresolvedClause}
use Rattle.mc_names.specs.Linked.{Linked, plain_names}
use Rattle.mc_source.specs.declared.place.Place.{Place}
use Rattle.mc_source.specs.declared.name.Candidate.{Candidate}
use Rattle.mc_source.specs.declared.name.Candidate.TheVariants as C
use Rattle.mc_decl_syntax.specs.Plain.{PlainDecl}
use Rattle.mc_defs_uses.specs.Clauses.{clause_of}
use Rattle.mc_names.specs.declared.definition.Kind.{Kind}
use Rattle.mc_names.specs.declared.definition.Kind.TheVariants as K
use Rattle.mc_type_phase.specs.Typing.{TypingSays, ModuleClause, clause_predicate, clause_item}
use Rattle.mc_declarations.specs.Made.{DeclaredAs}
use Rattle.mc_typecheck.specs.Tables.{IsTable}
use Rattle.mc_type_table.specs.Visibility.{definitions_seen}
use Rattle.mc_typecheck.specs.Fitting.{IsSomeTable}
use Rattle.mc_typecheck.specs.Checked.{IsResolved}
use Rattle.mc_type_phase.specs.Items.{Item}
use Rattle.mc_type_phase.specs.Judging.{AreFaults, AreTyped, typed_clauses}
use Rattle.mc_type_phase.specs.declared.checker.Checker.{Checker}
use Rattle.mc_type_phase.specs.declared.checker.Verdict.{Verdict}
use Rattle.mc_type_phase.specs.declared.checker.Verdict.TheVariants as V
use Rattle.mc_type_phase.specs.declared.judged.TypedClause.{TypedClause}
use Rattle.mc_type_phase.specs.declared.judged.TypecheckResult.{TypecheckResult}

-- what a checker says of a clause is what typing says of it
abbrev pub IsVerdict : Linked → Source → Parameters → UnresolvedClause → Verdict → Type 0
IsVerdict l P D clause (V.Typed made) =
    TypingSays l P D (plain_unresolved_clause clause) None × IsResolved P D clause made
IsVerdict l P D clause (V.Faulty rule what) =
    TypingSays l P D (plain_unresolved_clause clause) (Some (rule, what))

-- this, of a clause of a predicate, was put behind what was judged before
abbrev pub WasPut : (pred : ℕ) → Place → Verdict → (before after : TypecheckResult) → Type 0
WasPut pred at (V.Typed made) before after =
    (after.broken.items ≡ before.broken.items)
    × (before.broken.items ≡ []
    → typed_clauses after.clauses.items
    ≡ typed_clauses before.clauses.items ++ record { pred = pred; resolved = made } ∷ [])
WasPut pred at (V.Faulty rule what) before after =
    after.broken.items ≡ before.broken.items ++ record { rule = rule; at = at; what = what } ∷ []

-- the clause that an item of a file is, where it is one
abbrev pub entry_clauses : Linked → (own : ℕ) → PlainDecl × Place → List ModuleClause
entry_clauses l own e = clause_item own (clause_predicate l own (clause_of e.0)) e.0 e.1

-- the number of a candidate, where it is a predicate, or a function
abbrev pub number_as : Kind → Candidate → Option ℕ
number_as K.Pred (C.Pred p) = Some p
number_as K.Func (C.Func f) = Some f
number_as k c = None

-- the checker has what a module sees that the program declares, and the table of it
pub record Checks (l : Linked) (D : ℕ → Option TypeTerm) (c : Checker) : Type 0 where
  pub names : plain_names c.at.names.now ≡ l
  pub declared : DeclaredAs l D c.program
  pub table : IsTable c.program c.signatures

-- these items were judged since
pub record Adds
    (l : Linked) (seen : (own : ℕ) → ℕ → Option TypeTerm) (items : List Item) (before after : TypecheckResult)
    : Type 0 where
  pub broken : List Broken
  pub faults : AreFaults l seen items broken
  pub is : after.broken.items ≡ before.broken.items ++ broken
  pub made : after.broken.items ≡ [] → List TypedClause
  pub typed : (none : after.broken.items ≡ []) → AreTyped l seen items (made none)
  pub added :
      (none : after.broken.items ≡ [])
      → typed_clauses after.clauses.items ≡ typed_clauses before.clauses.items ++ made none

-- A checker that is at hand has what its module sees that the program declares.
abbrev pub IsAtHand : Linked → Option Checker → Type 0
IsAtHand l None = ⊤
IsAtHand l (Some c) = IsSomeTable c.signatures × Checks l (definitions_seen l c.at.own) c
