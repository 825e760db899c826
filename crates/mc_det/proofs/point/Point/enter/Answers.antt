use Rattle.std.proofs.Common.{◌≡◌, ℕ, ◌-◌, [], ◌∷◌, ◌++◌, length, get_or, drop, ap, subst, ◌∙◌, arith}
use Rattle.std.proofs.lemmas.List.{length-set}
use Rattle.mc_accepted.specs.Ordered.{change_at}
use Rattle.mc_det.specs.code.Points.{insts_in, undone}
use Rattle.mc_det.proofs.Entering.{changes_step, found_one}
use Rattle.mc_det.proofs.point.Point.enter.Goals as goal

pub loop-n-preserved : goal.loop-n-preserved
loop-n-preserved c =
    let k = c.loop-n.n - 1 in
    let x = (get_or c.args.changes.now k (0, 0)).0 in
    let i = (get_or c.args.changes.now k (0, 0)).1 in
    record {
      left = omega arith;
      count = ap length c.put.ensures ∙ length-set c.loop-n.self x i ∙ c.loop-n.invariant.count;
      insts = changes_step c.args.changes.now k c.loop-n.n (0, 0) c.args.self.now c.loop-n.self c.put.new.self (omega arith) c.loop-n.invariant.left c.loop-n.invariant.count c.requires c.loop-n.invariant.insts c.put.ensures;
      found =
          ap (undone c.push.new.self.items) c.put.ensures
          ∙ found_one c.loop-n.found.items c.push.new.self.items x i c.loop-n.self
          (c.in_ok-push.ensures.items ∙ ap (λ (v : ℕ). c.loop-n.found.items ++ (x, v) ∷ []) c.get.ensures)
          ∙ c.loop-n.invariant.found;
    }

pub returns-clause-insts : goal.returns-clause-insts
returns-clause-insts c =
    let none : c.loop-n.n ≡ 0 = omega arith in
    subst (λ (n : ℕ). insts_in c.loop-n.self ≡ (λ x. change_at x (drop n c.args.changes.now) (insts_in c.args.self.now x))) none c.loop-n.invariant.insts
