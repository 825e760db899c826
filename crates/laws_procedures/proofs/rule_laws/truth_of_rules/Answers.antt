use Rattle.laws_procedures.proofs.Truth.{truth_of_rules}
use Rattle.laws_procedures.proofs.rule_laws.truth_of_rules.Goals as goal

pub returns : goal.returns
returns c =
    truth_of_rules
    (record {
      accept = c.computed_procedures_are_accepted.ensures;
      procedures = c.accepted_are_good.ensures.procedures;
      queries = c.accepted_are_good.ensures.queries;
      library = c.has_library.ensures;
      builtins = c.builtins_fit.ensures;
      io = c.builtins_do_io.ensures;
    })
