use Rattle.std.proofs.Common.{◌≡◌, map, take}
use Rattle.mc_decl_syntax.specs.Plain.{plain_item}
use Rattle.mc_program.specs.PlainPrograms.{plain_pred}
use Rattle.mc_program.specs.declared.program.Pred.{Pred}
use Rattle.mc_names.specs.declared.names.Named.{Named}
use Rattle.mc_names.specs.Linked.{plain_named, plain_names}
use Rattle.mc_type_table.specs.Held.{held}
use Rattle.mc_declarations.specs.Declarations.{is_function}
use Rattle.mc_declarations.specs.code.With.{predicate_with}
use Rattle.mc_declarations.proofs.predicates.predicates.Given as goal

abbrev pub invariant-loop-named : goal.invariant-loop-named
invariant-loop-named l =
    (map plain_pred l.all.items
    ≡ map
    (λ (d : Named).
    predicate_with (plain_names l.at.names.now) (held l.at.definitions.now) (plain_named d))
    (take l.named-index l.named-items))
    × (map (λ (p : Pred). p.name) l.all.items
    ≡ map (λ (d : Named). d.name) (take l.named-index l.named-items))
    × (map (λ (p : Pred). p.is_func) l.all.items
    ≡ map (λ (d : Named). is_function (plain_item d.decl)) (take l.named-index l.named-items))
