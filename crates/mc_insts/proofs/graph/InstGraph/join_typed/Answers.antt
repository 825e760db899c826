use Rattle.std.proofs.Common.{◌≡◌, ℕ, ◌+◌, ◌<◌, List, [], ◌∷◌, ◌++◌, length, get_or, sym, ap, ◌∙◌, subst, arith, length-append}
use Rattle.mc_insts.specs.declared.triples.Triple.{Triple}
use Rattle.mc_insts.specs.code.Pushes.{joined_of}
use Rattle.mc_insts.specs.code.Merges.{Refers, top_of}
use Rattle.mc_insts.specs.code.Walks.{scene}
use Rattle.mc_insts.proofs.Found.{get_any}
use Rattle.mc_insts.proofs.Growth.{extends_on, same_triple}
use Rattle.mc_insts.proofs.Opens.{refers_more, there_more, top_on}
use Rattle.mc_insts.proofs.Results.{if_ok}
use Rattle.mc_insts.proofs.graph.InstGraph.join_typed.Goals as goal

pub loop-k-preserved : goal.loop-k-preserved
loop-k-preserved c =
    let C = scene c.args.self.now c.args.shapes.now in
    let f = joined_of c.args.lows.now c.args.highs.now c.args.types.now in
    let low : c.get.result.now ≡ get_or c.args.lows.now c.loop-k.k 0 = c.get.ensures ∙ get_any c.args.lows.now c.loop-k.k c.get.result.now 0 (omega arith) in
    let high : c.get-in-loop-k.result.now ≡ get_or c.args.highs.now c.loop-k.k 0 = c.get-in-loop-k.ensures ∙ get_any c.args.highs.now c.loop-k.k c.get-in-loop-k.result.now 0 (omega arith) in
    let here : Refers C c.resolve.new.seen (f c.loop-k.k) c.in_ok-x.x = subst (λ (u : Triple). Refers C c.resolve.new.seen u c.in_ok-x.x) (same_triple _ _ _ _ _ _ low high c.argument.ensures) c.in_ok-x.ensures.refers in
    let l : length c.push.new.self.items ≡ length (c.loop-k.out.items ++ c.in_ok-x.x ∷ []) = ap length c.in_ok-push.ensures.items in
    let m : length (c.loop-k.out.items ++ c.in_ok-x.x ∷ []) ≡ length c.loop-k.out.items + 1 = length-append c.loop-k.out.items (c.in_ok-x.x ∷ []) in
    record {
      extends = extends_on _ _ _ c.loop-k.invariant.extends c.resolve.ensures.extends;
      sound = c.resolve.ensures.sound;
      count = omega arith;
      refers = subst (λ (xs : List ℕ). (k : ℕ) → k < c.loop-k.k + 1 → Refers C c.resolve.new.seen (f k) (get_or xs k 0)) (sym c.in_ok-push.ensures.items)
          (refers_more C f c.loop-k.k c.in_ok-x.x c.loop-k.out.items _ _ c.resolve.ensures.extends c.loop-k.invariant.count c.loop-k.invariant.refers here);
      there = subst (λ (xs : List ℕ). (k : ℕ) → k < length xs → get_or xs k 0 < top_of C c.resolve.new.seen) (sym c.in_ok-push.ensures.items)
          (there_more C c.in_ok-x.x (top_of C c.loop-k.seen) (top_of C c.resolve.new.seen) c.loop-k.out.items (top_on C _ _ c.resolve.ensures.extends) c.loop-k.invariant.there c.in_ok-x.ensures.there);
    }

pub returns-clause-refers : goal.returns-clause-refers
returns-clause-refers c =
    let C = scene c.args.self.now c.args.shapes.now in
    if_ok _ _ c.of.result (λ row e k lt. subst (λ (xs : List ℕ). Refers C c.loop-k.seen (joined_of c.args.lows.now c.args.highs.now c.args.types.now k) (get_or xs k 0)) (sym e) (c.loop-k.invariant.refers k (omega arith))) c.of.ensures.elements
