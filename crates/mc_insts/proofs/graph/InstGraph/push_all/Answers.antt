use Rattle.std.proofs.Common.{sym, subst, ◌∙◌}
use Rattle.mc_insts.specs.declared.triples.Triple.{Triple}
use Rattle.mc_insts.specs.code.Walks.{Covered}
use Rattle.mc_insts.specs.code.Pushes.{triple_of}
use Rattle.mc_insts.proofs.Growth.{extends_on, covered_more, new_more, same_triple}
use Rattle.mc_insts.proofs.graph.InstGraph.push_all.Goals as goal

pub loop-k-preserved : goal.loop-k-preserved
loop-k-preserved c =
    let f = triple_of c.args.lows.now c.args.highs.now c.args.types.now in
    let e = same_triple _ _ _ _ _ _ c.argument.ensures c.argument-in-loop-k.ensures c.argument-in-loop-k-2.ensures in
    record {
      extends = extends_on _ _ _ c.loop-k.invariant.extends c.put.ensures.extends;
      covered = covered_more c.args.self.now.nodes f c.loop-k.k _ _ c.put.ensures.extends c.loop-k.invariant.covered (subst (λ (t : Triple). Covered c.args.self.now.nodes c.put.new.seen t) e c.in_ok-put.ensures.covered);
      new = new_more f c.loop-k.k _ _ _ c.put.ensures.extends c.loop-k.invariant.new (λ m u h s. sym e ∙ c.in_ok-put.ensures.new m u h s);
    }
