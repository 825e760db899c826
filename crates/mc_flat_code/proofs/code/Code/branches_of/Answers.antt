use Rattle.std.proofs.Common.{◌≡◌, refl, sym, ap, ◌∙◌, subst, Some, [], ◌∷◌, ◌++◌, length, take, get_or, map, append_assoc, length-take, arith}
use Rattle.mc_model.specs.PlainGoals.{plain_node, plain_arm, plain_label, arms_of}
use Rattle.mc_model.specs.declared.sched.Arm.{Arm}
use Rattle.mc_model.specs.Scheduled.{Label, Node}
use Rattle.mc_flat_code.specs.Standing.{Opens}
use Rattle.mc_flat_code.specs.Mentions.{Mention, Mentions, ArmsMention}
use Rattle.mc_flat_code.specs.code.Building.{Grows}
use Rattle.mc_flat_code.specs.code.Mentioning.{LabelMentions}
use Rattle.mc_flat_code.specs.declared.code.Branch.{Branch}
use Rattle.mc_flat_code.specs.declared.code.Code.{Code}
use Rattle.mc_flat_code.proofs.Growth.{grows_then, keyed_grows, label_grows}
use Rattle.mc_flat_code.proofs.Mentioning.{brings_then, arm_mentions, opening_mentions}
use Rattle.mc_flat_code.proofs.Views.{arm_open}
use Rattle.mc_flat_code.proofs.Cases.{keyed_step, keyed_whole, keyed_length, end_holds, branch_grows}
use Rattle.mc_flat_code.proofs.code.Code.branches_of.Goals as goal

pub loop-k-preserved : goal.loop-k-preserved
loop-k-preserved c =
    let key : Code = c.key.new.self in
    let new : Code = record c.key.new.self { branches = c.push.new.self } in
    let b : Branch = record { key = c.in_ok-key.key; place = get_or c.args.places.now c.loop-k.k 0 } in
    let keyed = c.loop-k.invariant.keyed in
    let arm : Arm = c.index-arms-k.result in
    let all : Mention → Type 0 = ArmsMention (arms_of (map plain_arm c.args.arms.now)) in
    let pushed : Grows key new = branch_grows key c.push.new.self b c.in_ok-push.ensures.items in
    let more : Grows c.loop-k.self new = grows_then c.loop-k.self key new c.in_ok-key.ensures.grows pushed in
    let opened : Opens (plain_label arm.on) c.args.variable (plain_node arm.body) = c.opens.ensures c.if-not-opens.false in
    record {
      grows = grows_then c.args.self.now c.loop-k.self new c.loop-k.invariant.grows more;
      goals = ap (λ k. k.instrs.items) c.in_ok-key.ensures.others ∙ c.loop-k.invariant.goals;
      brings =
          brings_then c.args.self.now c.loop-k.self new all (LabelMentions (plain_label arm.on)) all c.loop-k.invariant.brings
          (record { only = λ m x. c.in_ok-key.ensures.brings.only m x }) (λ m x. x)
          (λ m x.
          arm_mentions c.args.arms.now c.loop-k.k arm m c.loop-k-test.true
          (subst (λ (a : Arm). Mentions (plain_node a.body) m) c.index-arms-k.is (opening_mentions (plain_label arm.on) c.args.variable (plain_node arm.body) m opened x)));
      keyed = (
        keyed.0 ++ b ∷ [],
        (
          c.in_ok-push.ensures.items ∙ ap (λ k. k.branches.items ++ b ∷ []) c.in_ok-key.ensures.others
              ∙ ap (λ l. l ++ b ∷ []) keyed.1.0 ∙ append_assoc c.args.self.now.branches.items keyed.0 (b ∷ []),
          keyed_step new c.args.variable c.args.arms.now c.args.places.now c.loop-k.k arm keyed.0 b c.loop-k-test.true c.requires c.index-arms-k.is refl
              (keyed_grows c.loop-k.self new more c.args.variable (arms_of (map plain_arm (take c.loop-k.k c.args.arms.now))) keyed.0 (take c.loop-k.k c.args.places.now) keyed.1.1)
              (subst (λ (a : Label × Node). Opens a.0 c.args.variable a.1) (sym (arm_open arm)) opened)
              (label_grows key new pushed c.in_ok-key.key (plain_arm arm).0 (c.in_ok-key.ensures.key ∙ ap (λ (a : Label × Node). Some a.0) (sym (arm_open arm)))),
        ),
      );
    }

pub returns-clause-keyed : goal.returns-clause-keyed
returns-clause-keyed c =
    let keyed = c.loop-k.invariant.keyed in
    let end : c.loop-k.k ≡ length c.args.arms.now = omega arith in
    let count : length keyed.0 ≡ length (take c.loop-k.k c.args.places.now) = keyed_length c.loop-k.self c.args.variable (arms_of (map plain_arm (take c.loop-k.k c.args.arms.now))) keyed.0 (take c.loop-k.k c.args.places.now) keyed.1.1 in
    record {
      branches = keyed.0;
      held = end_holds c.args.self.now.branches.items keyed.0 c.loop-k.self.branches.items (record { start = c.len-start.result; count = length c.args.arms.now }) keyed.1.0 (omega (arith, c.len-start.ensures)) (omega (arith, count, length-take c.loop-k.k c.args.places.now));
      keyed = keyed_whole c.loop-k.self c.args.variable c.args.arms.now c.args.places.now c.loop-k.k keyed.0 end c.requires keyed.1.1;
    }
