use Rattle.std.proofs.Common.{◌≡◌, List, map, refl, sym, ap, ◌∙◌, subst}
use Rattle.mc_model.specs.declared.inst.Choice.{Choice}
use Rattle.mc_accepted.specs.InstRules.{HasFree, OneHasFree, definition_at, same_inst, bound_inst}
use Rattle.mc_insts.specs.Defining.{plain_choice, plain_definition}
use Rattle.mc_insts.proofs.Chained.{chain_is}
use Rattle.mc_insts.proofs.Definitions.{founded_node, founded_bound, no_free_name}
use Rattle.mc_insts.proofs.define.test.Goals as goal

pub returns-then-branch-clause-fault : goal.returns-then-branch-clause-fault
returns-then-branch-clause-fault c = λ ds first some are e.
    let d : definition_at ds c.args.k ≡ bound_inst (map plain_choice c.in-Bound.choices) = e ∙ ap plain_definition c.in-Bound.is in (
      refl,
      subst (HasFree ds) (sym d) (subst (λ (cs : List Choice). OneHasFree ds (map plain_choice cs)) c.as_slice.ensures.items ((c.in_ok-has_free-in-Bound.ensures ds first some are).0 c.if-branch.true)),
    )

pub returns-else-branch-clause-sound : goal.returns-else-branch-clause-sound
returns-else-branch-clause-sound c = λ ds first some are e.
    let d : definition_at ds c.args.k ≡ bound_inst (map plain_choice c.in-Bound.choices) = e ∙ ap plain_definition c.in-Bound.is in
    record {
      no_free = λ h.
          let x = (c.in_ok-has_free-in-Bound.ensures ds first some are).1
          (subst (λ (cs : List Choice). OneHasFree ds (map plain_choice cs)) (sym c.as_slice.ensures.items) (subst (HasFree ds) d h)) in
          let y = c.if-branch.false in cc;
      founded = founded_bound ds first some c.args.chains.now are c.args.k (map plain_choice c.in-Bound.choices) d;
    }

pub returns-in-Node-clause-sound : goal.returns-in-Node-clause-sound
returns-in-Node-clause-sound c = λ ds first some are e.
    let d : definition_at ds c.args.k ≡ same_inst c.in-Is.field-0 = e ∙ ap plain_definition c.in-Is.is in
    record {
      no_free = no_free_name ds first some c.args.chains.now are c.args.k c.in-Is.field-0 d;
      founded = founded_node ds first some c.args.chains.now are c.args.k c.in-Node.field-0 c.requires.there
          (chain_is c.args.chains.now c.args.k c.get.result.now c.requires.there c.get.ensures ∙ c.in-Node.is);
    }
