-- Which items equivalences are.
use Rattle.std.specs.Prelude.{Bool, true, false}
use Rattle.mc_decl_syntax.specs.Plain.{PlainDecl, SameType}

-- whether an item defines a type to stand for another
abbrev pub is_equivalence : PlainDecl → Bool
is_equivalence (SameType h t) = true
is_equivalence i = false
