-- The phase of types: the table of the types that the files define, and the rules of types that
-- their definitions break (this project's rules; the Mercury manual: Types).
use Rattle.std.specs.Prelude.{◌≡◌, List, Result}
use Rattle.mc_program.specs.declared.program.TypeDef.{TypeDef}
use Rattle.mc_type_table.specs.Rules.{type_faults}
use Rattle.mc_type_table.specs.Table.{table}
use Rattle.mc_compile.specs.declared.typed.Typed.{Typed}
use Rattle.mc_compile.specs.Phases.{Refusal, unless_broken}
use Rattle.mc_compile.specs.Linking.{PlainNamed, plain_named}

-- linked files, and the table of their types by the numbers that these have among the names
pub record PlainTyped : Type 0 where
  pub named : PlainNamed
  pub types : List TypeDef

abbrev pub plain_typed : Typed → PlainTyped
plain_typed typed = record { named = plain_named typed.named; types = typed.types }

-- what is linked, with its table
abbrev pub typed_as : PlainNamed → PlainTyped
typed_as named = record { named = named; types = table named.files.names }

-- The phase of types: the table, unless the definition of a type breaks a rule (T3, T4 or T5). A
-- query defines no type, so none of its own is told here.
abbrev pub Types : PlainNamed → Result PlainTyped Refusal → Type 0
Types named result =
    result ≡ unless_broken (type_faults named.files.names) (typed_as named)
