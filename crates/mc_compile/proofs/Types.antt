-- What the phase of types makes and refuses.
use Rattle.std.proofs.Common.{◌≡◌, List, [], Ok, Err, ap, sym, subst, ◌∙◌}
use Rattle.mc_source.specs.declared.rule.Broken.{Broken}
use Rattle.mc_program.specs.declared.program.TypeDef.{TypeDef}
use Rattle.mc_names.specs.Linked.{plain_names}
use Rattle.mc_type_table.specs.Rules.{type_faults}
use Rattle.mc_type_table.specs.Table.{table}
use Rattle.mc_compile.specs.declared.given.CompileFault.TheVariants as F
use Rattle.mc_compile.specs.declared.named.Named.{Named}
use Rattle.mc_compile.specs.declared.typed.Typed.{Typed}
use Rattle.mc_compile.specs.Phases.{Breaks, Tells, Viewed}
use Rattle.mc_compile.specs.Linking.{PlainNamed, plain_named}
use Rattle.mc_compile.specs.Typing.{PlainTyped, plain_typed, typed_as, Types}
use Rattle.mc_compile.proofs.Chains.{broken_up, none_broken, unbroken_made}

-- what is linked stays what it was
pub typed_is : (named : PlainNamed) (typed : PlainTyped) → Types named (Ok typed) → typed ≡ typed_as named
typed_is named typed t = unbroken_made (type_faults named.files.names) (typed_as named) typed t

abbrev made : PlainNamed → List TypeDef → PlainTyped
made named types = record { named = named; types = types }

-- where no rule of types is broken
pub has_types : (named : Named) (types : List TypeDef) → types ≡ table (plain_names named.names) → type_faults (plain_names named.names) ≡ []
    → Tells Types (Viewed plain_typed) (plain_named named) (Ok (record { named = named; types = types }))
has_types named types is legal = (
  typed_as (plain_named named),
  ap (made (plain_named named)) is,
  none_broken (type_faults (plain_names named.names)) (typed_as (plain_named named)) legal,
)

-- and where rules are
pub has_faults : (named : Named) (broken : List Broken) → broken ≡ type_faults (plain_names named.names) → (broken ≡ [] → ⊥) → Tells Types (Viewed plain_typed) (plain_named named) (Err (F.Rejected broken))
has_faults named broken is some =
    ap (λ bs. Err (Breaks bs)) is
    ∙ broken_up (type_faults (plain_names named.names)) (typed_as (plain_named named)) (λ none. some (is ∙ none))
