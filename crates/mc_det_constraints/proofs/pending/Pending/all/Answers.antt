use Rattle.std.proofs.Common.{ℕ, ◌<◌, ◌+◌, ◌∙◌, subst, sym, ap, List, [], ◌∷◌, length, length-append, true, arith}
use Rattle.std.specs.List.{Contains}
use Rattle.mc_det_constraints.specs.code.Callers.{AllBelow}
use Rattle.mc_det_constraints.proofs.Raising.{more_has, more_below}
use Rattle.mc_det_constraints.proofs.Waiting.{noted_all}
use Rattle.mc_det_constraints.proofs.pending.Pending.all.Goals as goal

pub loop-p-preserved : goal.loop-p-preserved
loop-p-preserved c =
    record {
      has = subst (λ (xs : List ℕ). (q : ℕ) → q < c.loop-p.p + 1 → Contains xs q) (sym c.in_ok-push.ensures.items) (more_has c.loop-p.list.items c.loop-p.p c.loop-p.invariant.has);
      below = subst (AllBelow c.args.n) (sym c.in_ok-push.ensures.items) (more_below c.args.n c.loop-p.list.items c.loop-p.p c.loop-p.invariant.below c.loop-p-test.true);
      count = omega (arith, ap length c.in_ok-push-2.ensures.items, length-append c.loop-p.flags.items (true ∷ []), c.loop-p.invariant.count);
    }

pub returns-clause-pending : goal.returns-clause-pending
returns-clause-pending c =
    noted_all c.loop-p.list.items c.loop-p.flags.items (λ p lt. let e = c.loop-p.invariant.count in c.loop-p.invariant.has p (omega arith))
