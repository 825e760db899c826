use Rattle.std.proofs.Common.{sym, ◌∙◌}
use Rattle.mc_switch.proofs.MergedInsts.{merged_more}
use Rattle.mc_switch.proofs.merging.Merger.merged.Goals as goal

pub returns-in_ok-put-in-None-clause-merges : goal.returns-in_ok-put-in-None-clause-merges
returns-in_ok-put-in-None-clause-merges c =
    let m = c.in_ok-node-in-None.ensures in
    merged_more c.args.procs.now c.merge_all.new.self c.args.types.now c.args.self.now.found c.put.new.self c.args.x c.in_ok-node-in-None.node c.args.insts.now c.get-in-None.result.now c.in_ok-put-in-None.ensures.ok c.requires.merged
    (sym c.in_ok-node.ensures ∙ c.in-None.is) c.requires.variable c.get-in-None.ensures c.requires.insts m.there m.others m.grown m.merged
