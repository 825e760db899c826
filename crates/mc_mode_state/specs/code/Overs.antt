-- The definition of an inst of one symbol over insts.
use Rattle.std.specs.Prelude.{ℕ, List, [], ◌∷◌, map}
use Rattle.mc_program.specs.Programs.{FullName}
use Rattle.mc_model.specs.declared.inst.InstRef.TheVariants.{Old}
use Rattle.mc_accepted.specs.InstRules.{PlainChoice, PlainInstDef, bound_inst}

abbrev pub over_choice : FullName → List ℕ → PlainChoice
over_choice name is = record { name = name.bytes; arity = name.arity; args = map Old is }

abbrev pub over_definition : FullName → List ℕ → List PlainInstDef
over_definition name is = bound_inst (over_choice name is ∷ []) ∷ []
