use Rattle.mc_core_program.proofs.GoalLemmas.{joined_is}
use Rattle.mc_core_program.proofs.whole_program_program.joined.Goals as goal

pub returns-clause-joined : goal.returns-clause-joined
returns-clause-joined c =
    joined_is c.args.program c.args.rows.items c.in_ok-rows.rows c.into_vec.result.items
    (record {
      program = c.in_ok-program.program;
      goals = c.in_ok-goals.goals;
      exported = c.args.exported;
      variables = c.args.variables;
    })
    c.requires c.in_ok-rows.ensures.elements c.into_vec.ensures.items c.in_ok-goals.ensures
    c.in_ok-program.ensures.types c.in_ok-program.ensures.symbols c.in_ok-program.ensures.preds
