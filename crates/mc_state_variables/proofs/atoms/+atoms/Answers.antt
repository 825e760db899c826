use Rattle.std.proofs.Common.{arith, refl, map, List}
use Rattle.mc_term_data.specs.Plain.{plain_term, term_list}
use Rattle.mc_term_data.specs.declared.term.Term.{Term}
use Rattle.mc_state_variables.specs.Numbered.{terms_of}
use Rattle.mc_state_variables.specs.code.Helds.{plain_helds, listed}
use Rattle.mc_state_variables.proofs.Lists.{row_from_list, none_left}
use Rattle.mc_state_variables.proofs.atoms.+atoms.Goals as goal

pub terms_of-returns : goal.terms_of-returns
terms_of-returns t c =
    let written = λ (ts : List Term). listed (terms_of (plain_helds c.args.held.now) (term_list (map plain_term ts))) in
    row_from_list c.of.result c.loop-term.out.items (terms_of (plain_helds c.args.held.now) (term_list (map plain_term c.args.terms.now))) c.of.ensures.elements
    (none_left (map plain_term c.loop-term.out.items) c.loop-term.term-index c.args.terms.now written (omega arith) refl c.loop-term.invariant)
