use Rattle.std.proofs.Common.{nat_eq}
use Rattle.std.specs.HashSet.{contains}
use Rattle.mc_switch.proofs.Tables.{keeps_at, one_more_symbol}
use Rattle.mc_switch.proofs.symbols.symbols_in.Goals as goal

pub loop-disjunct-preserved : goal.loop-disjunct-preserved
loop-disjunct-preserved c =
    λ s.
    one_more_symbol c.args.x s c.args.disjuncts.now c.loop-disjunct.disjunct-index c.disjunct-item.result c.label.result (contains nat_eq c.loop-disjunct.found s) (contains nat_eq c.put_symbol.new.found s)
    c.loop-disjunct-test.true c.disjunct-item.is (keeps_at c.args.disjuncts.now c.loop-disjunct.disjunct-index c.disjunct-item.result c.loop-disjunct-test.true c.disjunct-item.is c.requires)
    c.label.ensures (c.loop-disjunct.invariant s) (c.in_ok-put_symbol.ensures s)
