use Rattle.std.proofs.Common.{refl, sym, ◌∙◌}
use Rattle.mc_mode_state.proofs.Found.{over-moved}
use Rattle.mc_mode_state.proofs.nodes.Nodes.over.Goals as goal

pub returns-in_ok-put-in-None-clause-moved : goal.returns-in_ok-put-in-None-clause-moved
returns-in_ok-put-in-None-clause-moved c =
    over-moved c.args.procs.now c.define_over.new.procs c.args.self.now
    (record { overs = c.put.new.self; joins = c.args.self.now.joins; types = c.args.self.now.types })
    c.args.symbol c.args.insts.now c.in_ok-node-in-None.node c.fit-in-None.ensures.all
    c.in_ok-node-in-None.ensures.others c.in_ok-node-in-None.ensures.grown c.requires.nodes
    c.in_ok-put-in-None.ensures.ok (sym c.in_ok-node.ensures ∙ c.in-None.is) refl refl
    c.in_ok-node-in-None.ensures.there c.in_ok-node-in-None.ensures.over
