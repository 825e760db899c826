use Rattle.std.proofs.Common.{arith, refl, map, List}
use Rattle.mc_term_data.specs.Plain.{plain_term, term_list}
use Rattle.mc_term_data.specs.declared.term.Term.{Term}
use Rattle.mc_state_variables.specs.Numbered.{named_versions}
use Rattle.mc_state_variables.specs.code.Helds.{plain_helds, listed}
use Rattle.mc_state_variables.proofs.Lists.{row_from_list, none_left}
use Rattle.mc_state_variables.proofs.quantifiers.named_versions.Goals as goal

pub returns : goal.returns
returns c =
    let written = λ (ts : List Term). listed (named_versions (plain_helds c.args.held.now) c.args.updates.now (term_list (map plain_term ts))) in
    row_from_list c.of.result c.loop-element.named.items (named_versions (plain_helds c.args.held.now) c.args.updates.now (term_list (map plain_term c.args.elements.now))) c.of.ensures.elements
    (none_left (map plain_term c.loop-element.named.items) c.loop-element.element-index c.args.elements.now written (omega arith) refl c.loop-element.invariant)
