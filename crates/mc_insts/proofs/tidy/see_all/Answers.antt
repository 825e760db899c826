use Rattle.std.proofs.Common.{sym, subst, ◌∙◌}
use Rattle.mc_insts.specs.declared.triples.Triple.{Triple}
use Rattle.mc_insts.specs.code.Lists.{Stands}
use Rattle.mc_insts.specs.code.Pushes.{triple_of}
use Rattle.mc_insts.proofs.Growth.{extends_on, new_more, same_triple, stands_one}
use Rattle.mc_insts.proofs.TidyWalks.{seen_more}
use Rattle.mc_insts.proofs.tidy.see_all.Goals as goal

pub loop-k-preserved : goal.loop-k-preserved
loop-k-preserved c =
    let f = triple_of c.args.insts.now c.args.insts.now c.args.types.now in
    let e = same_triple _ _ _ _ _ _ c.argument-inst.ensures c.argument-inst.ensures c.argument.ensures in
    record {
      extends = extends_on _ _ _ c.loop-k.invariant.extends c.insert.ensures.extends;
      seen = seen_more f c.loop-k.k _ _ c.insert.ensures.extends c.loop-k.invariant.seen
          (c.in_ok-insert.field-0, subst (λ (t : Triple). Stands c.insert.new.self c.in_ok-insert.field-0 t) e c.in_ok-insert.ensures.stands);
      new = new_more f c.loop-k.k _ _ _ c.insert.ensures.extends c.loop-k.invariant.new
          (λ m u h s. sym e ∙ stands_one c.insert.new.self m _ u (c.in_ok-insert.ensures.last m h s.within) s);
    }
