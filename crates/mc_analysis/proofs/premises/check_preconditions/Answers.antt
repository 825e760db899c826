use Rattle.std.proofs.Common.{length, ap, subst, ◌∙◌, arith}
use Rattle.std.proofs.lemmas.Bool.{eqb-true, leb-true}
use Rattle.mc_program.specs.declared.program.Program.{Program}
use Rattle.mc_analysis.specs.Premises.{GoalsAreTyped}
use Rattle.mc_analysis.proofs.premises.check_preconditions.Goals as goal

pub returns : goal.returns
returns c = record {
  as_many_exported = eqb-true _ _ (c.in_ok-self_check.ensures {u = tt}) ∙ c.len-preds.ensures ∙ ap (λ (x : Program). length x.preds) c.program.ensures;
  fewer = omega (arith, leb-true _ _ (c.in_ok-self_check-2.ensures {u = tt}), c.len-preds.ensures, ap (λ (x : Program). length x.preds) c.program.ensures);
  committed_many = c.committed_are_many.ensures.0 (c.in_ok-self_check-3.ensures {u = tt});
  insts_there = c.requires.sigs;
  numbers_told = c.in_ok-tell_numbers.ensures.0 (c.in_ok-self_check-4.ensures {u = tt});
  goals_fit = c.goals_fit.ensures.0 (c.in_ok-self_check-5.ensures {u = tt});
  goals_typed = subst (λ (P : Program). GoalsAreTyped P c.args.goals.now) c.program-2.ensures (c.in_ok-goals_are_typed.ensures.0 (c.in_ok-self_check-6.ensures {u = tt}));
}
