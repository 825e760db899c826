use Rattle.std.proofs.Common.{subst}
use Rattle.mc_modes.specs.Outcomes.{ModesGive}
use Rattle.mc_modes.specs.declared.ordering.Orders.{Orders}
use Rattle.mc_analysis.proofs.Coming.{are_normal, are_numbered, all_ordered, modes_broken}
use Rattle.mc_analysis.proofs.analysis.by_order.Goals as goal

pub order_goals-requires-clause-none : goal.order_goals-requires-clause-none
order_goals-requires-clause-none c = c.requires.none

pub order_goals-requires-clause-sigs : goal.order_goals-requires-clause-sigs
order_goals-requires-clause-sigs c = c.requires.asked.insts_there

pub order_goals-requires-clause-numbered : goal.order_goals-requires-clause-numbered
order_goals-requires-clause-numbered c =
    are_numbered c.args.procs c.args.sigs.now c.requires.preds c.requires.asked.numbers_told

pub order_goals-requires-clause-goals : goal.order_goals-requires-clause-goals
order_goals-requires-clause-goals c =
    are_normal c.args.procs c.args.sigs.now c.args.goals.now c.requires.goals c.requires.asked.goals_fit

pub order_goals-requires-clause-exported : goal.order_goals-requires-clause-exported
order_goals-requires-clause-exported c = c.requires.asked.as_many_exported

pub returns-in_ok-ruled-in-All : goal.returns-in_ok-ruled-in-All
returns-in_ok-ruled-in-All c =
    let q = c.args.procs in
    let r = c.order_goals.new.procs in
    λ ds begun.
    all_ordered q.program ds c.args.sigs.now c.args.goals.now c.args.exported.now c.args.runs q begun r c.in_ok-ruled-in-All.ruled
    c.requires.asked
    (subst (λ (o : Orders). ModesGive c.args.sigs.now c.args.goals.now c.args.exported.now q r o) c.in-All.is c.in_ok-order_goals.ensures.became)
    c.in_ok-order_goals.ensures.others
    (c.in_ok-ruled-in-All.ensures {u = tt})

pub returns-in-Broken : goal.returns-in-Broken
returns-in-Broken c =
    let q = c.args.procs in
    let r = c.order_goals.new.procs in
    λ ds begun.
    modes_broken q.program ds c.args.sigs.now c.args.goals.now c.args.exported.now c.args.runs q begun r c.in-Broken.list
    c.requires.asked
    (subst (λ (o : Orders). ModesGive c.args.sigs.now c.args.goals.now c.args.exported.now q r o) c.in-Broken.is c.in_ok-order_goals.ensures.became)
    c.in_ok-order_goals.ensures.others
