use Rattle.std.proofs.Common.{[], ◌∷◌, Bool, map, refl, sym, ap, ◌∙◌, if◌then◌else◌}
use Rattle.std.proofs.lemmas.Result.{on_ok_weaker}
use Rattle.mc_model.specs.PlainGoals.{plain_arm, arms_of}
use Rattle.mc_det_constraints.specs.declared.constraint.Step.TheVariants as T
use Rattle.mc_det.specs.declared.walk.Walk.{Walk}
use Rattle.mc_det.specs.code.Walks.{typed, missed}
use Rattle.mc_det.proofs.Walking.{puts_steps, no_more}
use Rattle.mc_det.proofs.walk.Walk.put_misses.Goals as goal

pub returns : goal.returns
returns c =
    let a : Walk = c.args.self.now in
    puts_steps c.args.procs.now a a [] (λ S b known. missed S (typed c.args.types.now) b c.args.x (arms_of (map plain_arm c.args.arms.now)))
    (record { point = refl; known = refl; put = sym (no_more a.steps.items) })
    (λ outcome. ap (λ (m : Bool). if m then T.Misses ∷ [] else []) (sym c.if-is_missed.false ∙ c.in_ok-is_missed.ensures outcome))

pub returns-then-is_missed : goal.returns-then-is_missed
returns-then-is_missed c =
    let a : Walk = c.args.self.now in
    on_ok_weaker c.put.result
    (λ p.
    puts_steps c.args.procs.now a c.put.new.self (T.Misses ∷ []) (λ S b known. missed S (typed c.args.types.now) b c.args.x (arms_of (map plain_arm c.args.arms.now))) p
    (λ outcome. ap (λ (m : Bool). if m then T.Misses ∷ [] else []) (sym c.if-is_missed.true ∙ c.in_ok-is_missed.ensures outcome)))
    c.put.ensures
