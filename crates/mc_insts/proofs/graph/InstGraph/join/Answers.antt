use Rattle.std.proofs.Common.{◌≡◌, ◌+◌, ◌<◌, List, length, refl, sym, ap, ◌∙◌, subst, arith}
use Rattle.mc_insts.specs.declared.graph.Case.{Case}
use Rattle.mc_insts.specs.code.Cases.{Fitting}
use Rattle.mc_insts.specs.code.Formed.{Filled, AllFilled}
use Rattle.mc_insts.specs.code.Joins.{Joining}
use Rattle.mc_insts.specs.code.Merges.{Both, Fits, top_of}
use Rattle.mc_insts.specs.code.Walks.{scene, arity_of}
use Rattle.mc_insts.proofs.Forming.{filled_push, filled_copy}
use Rattle.mc_insts.proofs.Growth.{extends_on, extends_same}
use Rattle.mc_insts.proofs.Opens.{top_on}
use Rattle.mc_insts.proofs.Fits.{fits_copy, fits_push, fits_up, joining_on}
use Rattle.mc_insts.proofs.Joins.{start, take_low, take_high, take_both}
use Rattle.mc_insts.proofs.Found.{get_any}
use Rattle.mc_insts.proofs.graph.InstGraph.join.Goals as goal

pub loop-a-init : goal.loop-a-init
loop-a-init c =
    let C = scene c.args.self.now c.args.shapes.now in
    record {
      extends = extends_same c.args.seen.now;
      sound = c.requires.sound;
      first = omega arith;
      second = omega arith;
      joining = subst (λ (out : List Case). Joining (Both C c.args.seen.now c.args.t) c.args.lows.now c.args.highs.now 0 0 out) (sym c.new-out.ensures.items) (start (Both C c.args.seen.now c.args.t) c.args.lows.now c.args.highs.now);
      fits = λ k d h. let l : length c.new-out.result.items ≡ 0 = ap length c.new-out.ensures.items in absurd (omega arith);
      filled = λ f g k d h. let l : length c.new-out.result.items ≡ 0 = ap length c.new-out.ensures.items in absurd (omega arith);
    }

pub loop-a-preserved-then-a-lows : goal.loop-a-preserved-then-a-lows
loop-a-preserved-then-a-lows c =
    let C = scene c.args.self.now c.args.shapes.now in
    record {
      extends = c.loop-a.invariant.extends;
      sound = c.loop-a.invariant.sound;
      first = omega arith;
      second = omega arith;
      joining = subst (λ (out : List Case). Joining (Both C c.loop-a.seen c.args.t) c.args.lows.now c.args.highs.now c.loop-a.a (c.loop-a.b + 1) out) (sym c.in_ok-push.ensures.items)
          (take_high (Both C c.loop-a.seen c.args.t) c.args.lows.now c.args.highs.now c.requires.rising.0 c.requires.rising.1 c.loop-a.a c.loop-a.b c.loop-a.out.items c.loop-a.invariant.joining c.index-highs-b.result c.in_ok-copy.copy (omega arith) c.index-highs-b.is (ap (λ (v : Case). v.functor) c.in_ok-copy.ensures) (ap (λ (v : Case). v.args) c.in_ok-copy.ensures) (λ d h. absurd (omega arith)));
      fits = subst (λ (out : List Case). Fits C (top_of C c.loop-a.seen) out) (sym c.in_ok-push.ensures.items)
          (fits_copy C (length C.nodes) (top_of C c.loop-a.seen) c.args.highs.now c.loop-a.out.items c.loop-a.b c.index-highs-b.result c.in_ok-copy.copy (omega arith) c.requires.fits.1 (omega arith) c.index-highs-b.is c.in_ok-copy.ensures c.loop-a.invariant.fits);
      filled = λ f g. subst AllFilled (sym c.in_ok-push.ensures.items)
          (filled_copy c.args.highs.now c.loop-a.out.items c.loop-a.b c.index-highs-b.result c.in_ok-copy.copy (omega arith) c.index-highs-b.is c.in_ok-copy.ensures g (c.loop-a.invariant.filled f g));
    }

pub loop-a-preserved-then-b-highs-2 : goal.loop-a-preserved-then-b-highs-2
loop-a-preserved-then-b-highs-2 c =
    let C = scene c.args.self.now c.args.shapes.now in
    record {
      extends = c.loop-a.invariant.extends;
      sound = c.loop-a.invariant.sound;
      first = omega arith;
      second = omega arith;
      joining = subst (λ (out : List Case). Joining (Both C c.loop-a.seen c.args.t) c.args.lows.now c.args.highs.now (c.loop-a.a + 1) c.loop-a.b out) (sym c.in_ok-push-2.ensures.items)
          (take_low (Both C c.loop-a.seen c.args.t) c.args.lows.now c.args.highs.now c.requires.rising.0 c.requires.rising.1 c.loop-a.a c.loop-a.b c.loop-a.out.items c.loop-a.invariant.joining c.index-lows-a.result c.in_ok-copy-2.copy (omega arith) c.index-lows-a.is (ap (λ (v : Case). v.functor) c.in_ok-copy-2.ensures) (ap (λ (v : Case). v.args) c.in_ok-copy-2.ensures) (λ d h. absurd (omega arith)));
      fits = subst (λ (out : List Case). Fits C (top_of C c.loop-a.seen) out) (sym c.in_ok-push-2.ensures.items)
          (fits_copy C (length C.nodes) (top_of C c.loop-a.seen) c.args.lows.now c.loop-a.out.items c.loop-a.a c.index-lows-a.result c.in_ok-copy-2.copy (omega arith) c.requires.fits.0 (omega arith) c.index-lows-a.is c.in_ok-copy-2.ensures c.loop-a.invariant.fits);
      filled = λ f g. subst AllFilled (sym c.in_ok-push-2.ensures.items)
          (filled_copy c.args.lows.now c.loop-a.out.items c.loop-a.a c.index-lows-a.result c.in_ok-copy-2.copy (omega arith) c.index-lows-a.is c.in_ok-copy-2.ensures f (c.loop-a.invariant.filled f g));
    }

pub loop-a-preserved-then-low-high : goal.loop-a-preserved-then-low-high
loop-a-preserved-then-low-high c =
    let C = scene c.args.self.now c.args.shapes.now in
    record {
      extends = c.loop-a.invariant.extends;
      sound = c.loop-a.invariant.sound;
      first = omega arith;
      second = omega arith;
      joining = subst (λ (out : List Case). Joining (Both C c.loop-a.seen c.args.t) c.args.lows.now c.args.highs.now (c.loop-a.a + 1) c.loop-a.b out) (sym c.in_ok-push-3.ensures.items)
          (take_low (Both C c.loop-a.seen c.args.t) c.args.lows.now c.args.highs.now c.requires.rising.0 c.requires.rising.1 c.loop-a.a c.loop-a.b c.loop-a.out.items c.loop-a.invariant.joining c.index-lows-a-in-loop-a.result c.in_ok-copy-3.copy (omega arith) c.index-lows-a-in-loop-a.is (ap (λ (v : Case). v.functor) c.in_ok-copy-3.ensures) (ap (λ (v : Case). v.args) c.in_ok-copy-3.ensures) (λ d h. subst (λ (v : Case). c.index-lows-a-in-loop-a.result.functor < v.functor) (c.index-highs-b-in-loop-a.is ∙ get_any c.args.highs.now c.loop-a.b c.index-highs-b-in-loop-a.result d h) c.if-low-high.true));
      fits = subst (λ (out : List Case). Fits C (top_of C c.loop-a.seen) out) (sym c.in_ok-push-3.ensures.items)
          (fits_copy C (length C.nodes) (top_of C c.loop-a.seen) c.args.lows.now c.loop-a.out.items c.loop-a.a c.index-lows-a-in-loop-a.result c.in_ok-copy-3.copy (omega arith) c.requires.fits.0 (omega arith) c.index-lows-a-in-loop-a.is c.in_ok-copy-3.ensures c.loop-a.invariant.fits);
      filled = λ f g. subst AllFilled (sym c.in_ok-push-3.ensures.items)
          (filled_copy c.args.lows.now c.loop-a.out.items c.loop-a.a c.index-lows-a-in-loop-a.result c.in_ok-copy-3.copy (omega arith) c.index-lows-a-in-loop-a.is c.in_ok-copy-3.ensures f (c.loop-a.invariant.filled f g));
    }

pub loop-a-preserved-then-high-low : goal.loop-a-preserved-then-high-low
loop-a-preserved-then-high-low c =
    let C = scene c.args.self.now c.args.shapes.now in
    record {
      extends = c.loop-a.invariant.extends;
      sound = c.loop-a.invariant.sound;
      first = omega arith;
      second = omega arith;
      joining = subst (λ (out : List Case). Joining (Both C c.loop-a.seen c.args.t) c.args.lows.now c.args.highs.now c.loop-a.a (c.loop-a.b + 1) out) (sym c.in_ok-push-4.ensures.items)
          (take_high (Both C c.loop-a.seen c.args.t) c.args.lows.now c.args.highs.now c.requires.rising.0 c.requires.rising.1 c.loop-a.a c.loop-a.b c.loop-a.out.items c.loop-a.invariant.joining c.index-highs-b-in-loop-a.result c.in_ok-copy-4.copy (omega arith) c.index-highs-b-in-loop-a.is (ap (λ (v : Case). v.functor) c.in_ok-copy-4.ensures) (ap (λ (v : Case). v.args) c.in_ok-copy-4.ensures) (λ d h. subst (λ (v : Case). c.index-highs-b-in-loop-a.result.functor < v.functor) (c.index-lows-a-in-loop-a.is ∙ get_any c.args.lows.now c.loop-a.a c.index-lows-a-in-loop-a.result d h) c.if-high-low.true));
      fits = subst (λ (out : List Case). Fits C (top_of C c.loop-a.seen) out) (sym c.in_ok-push-4.ensures.items)
          (fits_copy C (length C.nodes) (top_of C c.loop-a.seen) c.args.highs.now c.loop-a.out.items c.loop-a.b c.index-highs-b-in-loop-a.result c.in_ok-copy-4.copy (omega arith) c.requires.fits.1 (omega arith) c.index-highs-b-in-loop-a.is c.in_ok-copy-4.ensures c.loop-a.invariant.fits);
      filled = λ f g. subst AllFilled (sym c.in_ok-push-4.ensures.items)
          (filled_copy c.args.highs.now c.loop-a.out.items c.loop-a.b c.index-highs-b-in-loop-a.result c.in_ok-copy-4.copy (omega arith) c.index-highs-b-in-loop-a.is c.in_ok-copy-4.ensures g (c.loop-a.invariant.filled f g));
    }

pub loop-a-preserved : goal.loop-a-preserved
loop-a-preserved c =
    let C = scene c.args.self.now c.args.shapes.now in
    let low = c.index-lows-a-in-loop-a in
    let high = c.index-highs-b-in-loop-a in
    let e : Case = record { functor = low.result.functor; args = c.in_ok-args.args } in
    let same : high.result.functor ≡ low.result.functor = omega arith in
    let fit : Fitting (arity_of C) (length C.functors) (length C.nodes) low.result = subst (λ (v : Case). Fitting (arity_of C) (length C.functors) (length C.nodes) v) (sym low.is) (c.requires.fits.0 c.loop-a.a low.result (omega arith)) in
    record {
      extends = extends_on _ _ _ c.loop-a.invariant.extends c.join_args.ensures.extends;
      sound = c.join_args.ensures.sound;
      first = omega arith;
      second = omega arith;
      joining = subst (λ (out : List Case). Joining (Both C c.join_args.new.seen c.args.t) c.args.lows.now c.args.highs.now (c.loop-a.a + 1) (c.loop-a.b + 1) out) (sym c.in_ok-push-5.ensures.items)
          (take_both (Both C c.join_args.new.seen c.args.t) c.args.lows.now c.args.highs.now c.requires.rising.0 c.requires.rising.1 c.loop-a.a c.loop-a.b c.loop-a.out.items
          (joining_on C c.args.t _ _ c.join_args.ensures.extends c.args.lows.now c.args.highs.now c.loop-a.a c.loop-a.b c.loop-a.out.items c.loop-a.invariant.joining)
          low.result high.result e (omega arith) low.is (omega arith) high.is same refl c.in_ok-args.ensures.both);
      fits = subst (λ (out : List Case). Fits C (top_of C c.join_args.new.seen) out) (sym c.in_ok-push-5.ensures.items)
          (fits_push C (top_of C c.join_args.new.seen) c.loop-a.out.items e
          (record { functor = fit.functor; args = c.in_ok-args.ensures.length; below = c.in_ok-args.ensures.there })
          (fits_up C (top_of C c.loop-a.seen) (top_of C c.join_args.new.seen) c.loop-a.out.items (top_on C _ _ c.join_args.ensures.extends) c.loop-a.invariant.fits));
      filled = λ f g. subst AllFilled (sym c.in_ok-push-5.ensures.items)
          (filled_push c.loop-a.out.items e (c.loop-a.invariant.filled f g)
          (c.in_ok-args.ensures.filled
          (subst (λ (v : Case). Filled v.args) (sym low.is) (f c.loop-a.a low.result (omega arith)))
          (subst (λ (v : Case). Filled v.args) (sym high.is) (g c.loop-a.b high.result (omega arith)))));
    }
