-- Insts that are tidy at a type variable and at its instances, and insts that aren't.
use Rattle.std.specs.Prelude.{ℕ, [], ◌∷◌, nat_eq, if◌then◌else◌}
use Rattle.mc_program.specs.Programs.{TypeTerm, state_type, variable_type, union_type, no_types}
use Rattle.mc_model.specs.Insts.{bound, Graph}
use Rattle.mc_accepted.specs.Tidy.{Tidy}
use Rattle.laws_order.specs.code.Examples.{cell, source, graph, filled}

abbrev pub list_type : TypeTerm
list_type = union_type 0 no_types

-- lists that aren't empty, whose first element is `unique`
abbrev pub holding : Graph
holding i =
    if nat_eq i filled
    then bound (record { name = cell ∷ []; arity = 2; args = 2 ∷ 1 ∷ [] } ∷ [])
    else graph i

-- Below a type variable nothing may be `unique`, as below a type of integers. `unique` itself may
-- stand at io's state, and not at a type variable, of which that is an instance.
abbrev pub TidyBelowVariables : Type 0
TidyBelowVariables =
    (Tidy source holding filled (variable_type 0) → ⊥)
    × (Tidy source holding filled list_type → ⊥)
    × Tidy source graph filled (variable_type 0)
    × Tidy source graph filled list_type
    × (Tidy source graph 2 (variable_type 0) → ⊥)
    × Tidy source graph 2 state_type
