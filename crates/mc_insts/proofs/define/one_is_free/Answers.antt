use Rattle.std.proofs.Common.{◌≡◌, length, IsTrue, false, true, refl, sym, subst, arith, ⊎_elim}
use Rattle.std.proofs.lemmas.List.{take_all}
use Rattle.mc_model.specs.declared.inst.InstRef.TheVariants.{Old}
use Rattle.mc_accepted.specs.InstRules.{OneIsFree}
use Rattle.mc_insts.proofs.Definitions.{one_split, one_at, args_fit}
use Rattle.mc_insts.proofs.define.one_is_free.Goals as goal

false_none : {X : Type 0} → IsTrue false → X
false_none t = let x : false ≡ true = t in cc

pub is_free-requires : goal.is_free-requires
is_free-requires c = (
  c.requires.0,
  args_fit c.requires.0 (length c.args.chains.now) c.args.insts.now c.requires.1 c.loop-inst.inst-index (Old 0) (omega arith),
)

pub returns-then-branch : goal.returns-then-branch
returns-then-branch c = λ ds first some are. (
  (λ t. one_at ds c.args.insts.now c.loop-inst.inst-index (Old 0) (omega arith) ((c.in_ok-is_free.ensures ds first some are).0 c.if-branch.true)),
  (λ h. refl),
)

pub loop-inst-preserved : goal.loop-inst-preserved
loop-inst-preserved c = λ ds first some are h.
    ⊎_elim
    (λ before. c.loop-inst.invariant ds first some are before)
    (λ here. let x = (c.in_ok-is_free.ensures ds first some are).1 here in let y = c.if-branch.false in cc)
    (one_split ds c.args.insts.now c.loop-inst.inst-index (Old 0) (omega arith) h)

pub returns : goal.returns
returns c = λ ds first some are. (
  (λ t. false_none t),
  (λ h. absurd
      (c.loop-inst.invariant ds first some are
      (subst (OneIsFree ds) (sym (take_all c.loop-inst.inst-index c.args.insts.now (omega arith))) h))),
)
