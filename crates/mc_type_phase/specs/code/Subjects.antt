-- What is known of the name that the clause before is of.
use Rattle.std.specs.Prelude.{◌≡◌, ℕ, Option, Some, None, ⊤}
use Rattle.mc_names.specs.Plain.{PlainDefinition, id, definition}
use Rattle.mc_names.specs.Linked.{Linked}
use Rattle.mc_type_phase.specs.Typing.{clause_predicate}
use Rattle.mc_type_phase.specs.declared.subject.Subject.{Subject}

abbrev pub plain_subject : Subject → PlainDefinition
plain_subject s = definition s.kind (id s.name s.arity)

-- its number is the one that names give
abbrev pub IsKnown : Linked → (own : ℕ) → Option Subject → Type 0
IsKnown l own None = ⊤
IsKnown l own (Some s) = s.number ≡ clause_predicate l own (Some (plain_subject s))
