use Rattle.std.proofs.Common.{◌≡◌, ◌∙◌, ◌<◌, ◌≤◌, ◌-◌, length, get_or, drop, Some, if◌then◌else◌, ap, sym, subst, arith}
use Rattle.mc_model.specs.declared.inst.ModeDecl.{ModeDecl}
use Rattle.mc_accepted.specs.Arranged.{better}
use Rattle.mc_accepted.specs.NodeOracle.{of_nodes}
use Rattle.mc_insts.specs.Graphs.{count_of}
use Rattle.mc_procs.specs.Procedures.{source_of}
use Rattle.mc_mode_state.specs.States.{point_of}
use Rattle.mc_mode_state.specs.Modes.{declared_mode, ModeFits}
use Rattle.mc_mode_state.specs.code.Picking.{IsPicked}
use Rattle.mc_mode_state.proofs.Ahead.{agrees-before}
use Rattle.mc_mode_state.proofs.Steps.{stepped-trans}
use Rattle.mc_mode_state.proofs.PickedModes.{any-mode, best_of, usable_of, best-one, mode-fits, mode-fits-later}
use Rattle.mc_mode_state.proofs.state.State.best.Goals as goal

pub pick-requires-clause-mode : goal.pick-requires-clause-mode
pick-requires-clause-mode c =
    let m = c.index-modes-k.result in
    let lt : c.loop-k.k - 1 < length c.args.modes.now = omega (arith, c.loop-k.invariant.within, c.loop-k-test.true) in
    mode-fits-later (count_of c.args.procs.now.insts) (count_of c.loop-k.procs.insts) m c.loop-k.invariant.stepped.moved.nodes.grown.more
    (subst (ModeFits (count_of c.args.procs.now.insts)) (sym c.index-modes-k.is) (mode-fits (count_of c.args.procs.now.insts) c.args.modes.now (c.loop-k.k - 1) m c.requires.modes lt))

pub loop-k-preserved : goal.loop-k-preserved
loop-k-preserved c =
    let q = c.args.procs.now in
    let p = c.loop-k.procs in
    let r = c.pick.new.procs in
    let s = c.args.self.now in
    let modes = c.args.modes.now in
    let xs = c.args.xs.now in
    let b = point_of s.insts.items in
    let k = c.loop-k.k in
    let m = c.index-modes-k.result in
    let e = c.in_ok-better.ensures in
    let h : 0 < k = omega (arith, c.loop-k-test.true) in
    let w : k ≤ length modes = c.loop-k.invariant.within in
    let lt : k - 1 < length modes = omega (arith, h, w) in
    let at : (n : ModeDecl) → get_or modes (k - 1) n ≡ m = λ n. any-mode modes (k - 1) n m lt ∙ sym c.index-modes-k.is in
    record {
      within = omega (arith, w);
      stepped = stepped-trans q p r s s s c.loop-k.invariant.stepped e.stepped;
      fits = e.fits modes lt at c.loop-k.invariant.fits;
      rest = λ declared C T a.
          let P = source_of q in
          let rest = best_of C P declared T modes xs b (drop k modes) in
          subst (IsPicked modes xs b c.in_ok-better.better)
          (sym (best-one C P declared T modes xs b k m h w
          ∙ ap (λ (n : ModeDecl). if usable_of C P declared T modes xs b n then Some (better (of_nodes C) P declared T xs b (declared_mode n) rest) else rest) (at m)))
          (e.picked declared C T modes rest a lt at
          (c.loop-k.invariant.rest declared C T (agrees-before p r s s C T c.loop-k.invariant.stepped.moved.stands e.stepped.moved a)));
    }
