-- The typed clauses of a program without its query's, which stands behind them.
use Rattle.std.specs.Prelude.{◌≡◌, Bool, true, false, List, [], ◌∷◌, ◌++◌, Option, Some, None}
use Rattle.mc_program.specs.declared.program.Resolved.{Resolved}
use Rattle.mc_type_phase.specs.declared.judged.TypedClause.{TypedClause}

abbrev pub IsParted :
    List TypedClause → (has_query : Bool) → List TypedClause → Option Resolved → Type 0
IsParted all false clauses None = all ≡ clauses
IsParted all true clauses (Some query) =
    (one : TypedClause) × (one.resolved ≡ query) × (all ≡ clauses ++ one ∷ [])
IsParted all _ clauses _ = ⊥
