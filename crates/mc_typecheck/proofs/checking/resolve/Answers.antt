use Rattle.std.proofs.Common.{ℕ, List, Bool, length, map, subst, ◌∙◌}
use Rattle.mc_program.specs.PlainPrograms.{plain_type}
use Rattle.mc_accepted.specs.MostGeneral.{rigid_count}
use Rattle.mc_types.specs.declared.written_types.Written.{Written}
use Rattle.mc_unresolved.specs.Steps.{plain_walk_step}
use Rattle.laws_made_types.specs.Makes.{kept}
use Rattle.mc_typecheck.specs.VariableTypes.{ArePlain}
use Rattle.mc_typecheck.specs.code.Marking.{first_marking, after_all}
use Rattle.mc_typecheck.proofs.checking.resolve.Goals as goal

pub returns : goal.returns
returns c = λ P D head.
    let clause = c.args.clause.now in
    let steps = map plain_walk_step c.args.steps.now in
    let ts = map plain_type c.in_ok-var_types.var_types in
    let r = rigid_count (P.preds clause.pred).types in
    let Q : ℕ → Type 0 = λ k. ArePlain k (kept c.as_slice-2.result.now c.as_slice.result.now) ts in
    let R : List Bool → List Written → Type 0 = λ bs ws. ArePlain r (kept bs ws) ts in
    let S : ℕ → Type 0 = λ n. R (after_all steps (first_marking n)).flags c.args.types.now.items in
    let flags = c.as_slice-2.ensures.value ∙ c.in_ok-flags.ensures in
    record {
      form = c.in_ok-made.ensures.form;
      vars = c.in_ok-made.ensures.vars;
      place = c.in_ok-made.ensures.place;
      are_plain =
          subst S c.len.ensures
          (subst (λ bs. R bs c.args.types.now.items) flags
          (subst (λ ws. R c.as_slice-2.result.now ws) c.as_slice.ensures.value (subst Q (c.in_ok-rigid.ensures P D head) c.in_ok-var_types.ensures)));
      names = c.in_ok-var_names.ensures;
    }
