-- Types as binary trees: a union type is its name applied to its arguments one by one. (Mercury
-- Language Reference Manual: Types; trees of two parts as in Robinson's unification.)
use Rattle.std.specs.Prelude.{ℕ}
use Rattle.mc_types.specs.declared.cells.TypeName.{TypeName}

pub data Shape : Type 0 where
  named : TypeName → Shape
  rigid : ℕ → Shape
  app : Shape → Shape → Shape
