use Rattle.std.proofs.Common.{◌∙◌, List, Bor, map, ap}
use Rattle.mc_term_data.specs.Plain.{plain_term, term_list}
use Rattle.mc_term_data.specs.declared.term.Term.{Term}
use Rattle.mc_names.specs.Linked.{plain_named}
use Rattle.mc_type_table.specs.Held.{held}
use Rattle.mc_clauses.specs.Variables.{nothing_met}
use Rattle.mc_clauses.specs.declared.terms.Module.{Module}
use Rattle.mc_declarations.proofs.Typed.{types_so}
use Rattle.mc_declarations.proofs.predicates.types.Goals as goal

pub returns : goal.returns
returns c =
    let here : Module =
    record { alloc = c.args.at.now.alloc; names = c.args.at.now.names; own = c.defining_module.result }
    in
    types_so here (held c.args.at.now.definitions.now) (plain_named c.args.named.now)
    (map (λ (t : Bor Term). plain_term t.now) c.as_slice-written.result.now)
    c.in_ok-declared.declared c.as_slice-plain.result.now c.in_ok-types.types
    c.declared_all.new.variables c.defining_module.ensures
    (ap (λ (ts : List (Bor Term)). term_list (map (λ (t : Bor Term). plain_term t.now) ts))
    c.as_slice-written.ensures.value
    ∙ c.in_ok-terms.ensures)
    (c.in_ok-declared.ensures nothing_met c.new-variables.ensures)
    c.as_slice-plain.ensures.items c.in_ok-types.ensures
