use Rattle.std.proofs.Common.{◌∙◌, List, map, ap}
use Rattle.std.proofs.lemmas.List.{take_all}
use Rattle.mc_term_data.specs.Plain.{plain_term, term_list}
use Rattle.mc_term_data.specs.declared.term.Term.{Term}
use Rattle.mc_declarations.specs.Declarations.{without_mode, without_modes}
use Rattle.mc_declarations.proofs.Writing.{without_each}
use Rattle.mc_declarations.proofs.terms.argument_types.Goals as goal

pub returns : goal.returns
returns c =
    let ts = c.arguments-terms.result.now in
    ap term_list
    (c.loop-term.invariant
    ∙ ap (λ (us : List Term). map (λ (t : Term). without_mode (plain_term t)) us)
    (take_all c.loop-term.term-index ts c.loop-term-test.false))
    ∙ without_each ts
    ∙ ap without_modes c.arguments-terms.ensures
