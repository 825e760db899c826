use Rattle.std.proofs.Common.{◌∙◌}
use Rattle.mc_inst_table.specs.Plain.{plain_inst}
use Rattle.mc_signatures.specs.code.Keys.{terms}
use Rattle.mc_signatures.proofs.Expanding.{with_later}
use Rattle.mc_signatures.proofs.meant.ends_of.Goals as goal

pub returns-clause-last : goal.returns-clause-last
returns-clause-last c =
    let ts = terms c.args.insts.now in
    let us = terms c.expanded.new.insts in
    let last = c.in_ok-last.ensures.inst in
    record {
      there = last.there;
      is = last.is ∙ with_later ts us c.args.over.now (plain_inst c.args.last.now) c.expanded.ensures.extends c.requires;
    }
