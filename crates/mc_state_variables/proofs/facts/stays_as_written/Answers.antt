use Rattle.std.proofs.Common.{◌∙◌, sym}
use Rattle.mc_term_data.specs.Plain.{plain_term}
use Rattle.mc_state_variables.proofs.Stateless.{which_fact, same_fact}
use Rattle.mc_state_variables.proofs.facts.stays_as_written.Goals as goal

pub returns-in-None-clause-which : goal.returns-in-None-clause-which
returns-in-None-clause-which c =
    which_fact (plain_term c.args.clause.now) c.is_stateless.result c.in-None.ensures
    c.is_stateless.ensures

pub returns-in-None-clause-same : goal.returns-in-None-clause-same
returns-in-None-clause-same c holds =
    same_fact (plain_term c.args.clause.now) c.in-None.ensures
    (sym c.is_stateless.ensures ∙ holds)
