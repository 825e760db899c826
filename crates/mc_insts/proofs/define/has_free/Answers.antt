use Rattle.std.proofs.Common.{◌≡◌, ℕ, List, length, map, get_or, IsTrue, false, true, refl, sym, ap, ◌∙◌, subst, arith, ⊎_elim}
use Rattle.std.proofs.lemmas.List.{take_all}
use Rattle.mc_model.specs.declared.inst.InstRef.{InstRef}
use Rattle.mc_model.specs.declared.inst.Choice.{Choice}
use Rattle.mc_accepted.specs.InstRules.{OneIsFree, OneHasFree}
use Rattle.mc_insts.specs.Defining.{plain_choice, AllFitThere}
use Rattle.mc_insts.proofs.Definitions.{has_split, has_at}
use Rattle.mc_insts.proofs.MadeNodes.{arity_at}
use Rattle.mc_insts.proofs.define.has_free.Goals as goal

false_none : {X : Type 0} → IsTrue false → X
false_none t = let x : false ≡ true = t in cc

-- the arguments that were read
read : (cs : List Choice) (k : ℕ) (d : Choice) (rs : List InstRef) → d ≡ get_or cs k d → rs ≡ d.args → (get_or cs k d).args ≡ rs
read cs k d rs e f = sym (f ∙ ap (λ (x : Choice). x.args) e)

pub one_is_free-requires : goal.one_is_free-requires
one_is_free-requires c = (
  c.requires.0,
  subst (AllFitThere c.requires.0 (length c.args.chains.now)) (read c.args.choices.now c.loop-choice.choice-index c.choice-item.result c.as_slice.result.now c.choice-item.is c.as_slice.ensures.items)
      (arity_at c.requires.0 (length c.args.chains.now) c.args.choices.now c.requires.1 c.loop-choice.choice-index c.choice-item.result (omega arith)).1,
)

pub returns-then-branch : goal.returns-then-branch
returns-then-branch c = λ ds first some are. (
  (λ t. has_at ds c.args.choices.now c.loop-choice.choice-index c.choice-item.result (omega arith)
      (subst (OneIsFree ds) (sym (read c.args.choices.now c.loop-choice.choice-index c.choice-item.result c.as_slice.result.now c.choice-item.is c.as_slice.ensures.items))
      ((c.in_ok-one_is_free.ensures ds first some are).0 c.if-branch.true))),
  (λ h. refl),
)

pub loop-choice-preserved : goal.loop-choice-preserved
loop-choice-preserved c = λ ds first some are h.
    ⊎_elim
    (λ before. c.loop-choice.invariant ds first some are before)
    (λ here.
    let x = (c.in_ok-one_is_free.ensures ds first some are).1
    (subst (OneIsFree ds) (read c.args.choices.now c.loop-choice.choice-index c.choice-item.result c.as_slice.result.now c.choice-item.is c.as_slice.ensures.items) here) in
    let y = c.if-branch.false in cc)
    (has_split ds c.args.choices.now c.loop-choice.choice-index c.choice-item.result (omega arith) h)

pub returns : goal.returns
returns c = λ ds first some are. (
  (λ t. false_none t),
  (λ h. absurd
      (c.loop-choice.invariant ds first some are
      (subst (λ (cs : List Choice). OneHasFree ds (map plain_choice cs)) (sym (take_all c.loop-choice.choice-index c.args.choices.now (omega arith))) h))),
)
