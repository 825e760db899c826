use Rattle.std.proofs.Common.{ap, ◌∙◌}
use Rattle.mc_term_data.specs.Plain.{plain_term}
use Rattle.mc_state_variables.specs.Numbered.{goal_of}
use Rattle.mc_state_variables.specs.code.Helds.{plain_helds}
use Rattle.mc_state_variables.proofs.clause.body_in.Goals as goal

pub returns : goal.returns
returns c =
    ap (λ w. w.text)
    (c.in_ok-text.ensures {u = tt}
    ∙ ap (λ ns. (goal_of (plain_term c.args.body.now)).branch.writing ns (plain_helds c.args.held.now) c.args.numbering.now.next) c.in_ok-wanted.ensures)
