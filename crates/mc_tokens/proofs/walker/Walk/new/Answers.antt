use Rattle.mc_tokens.proofs.walker.Walk.new.Goals as goal

pub invariant_of-result : goal.invariant_of-result
invariant_of-result c = c.nothing.ensures c.args.text.now
