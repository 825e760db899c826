use Rattle.std.proofs.Common.{List, sym, ap₂, ◌∙◌}
use Rattle.std.proofs.lemmas.Result.{on_ok_weaker}
use Rattle.mc_source.specs.declared.name.Candidate.{Candidate}
use Rattle.mc_unresolved.specs.declared.term.Unresolved.{Unresolved}
use Rattle.mc_unresolved.specs.declared.goal.UnresolvedGoal.{Atom}
use Rattle.mc_unresolved.proofs.Pendings.{atom_opened, equation_opened, choice_opened, negation_opened, exists_opened}
use Rattle.mc_unresolved.proofs.tasks.open_goal.Goals as goal

pub returns-in-Equation : goal.returns-in-Equation
returns-in-Equation c = on_ok_weaker c.open_equation.result (λ p. equation_opened c.args.goal.now c.in-Equation.left c.in-Equation.right _ _ c.in-Equation.is p) c.open_equation.ensures

pub returns-in-Atom : goal.returns-in-Atom
returns-in-Atom c =
    on_ok_weaker c.open_atom.result
    (λ p. atom_opened c.args.goal.now c.as_slice.result.now c.as_slice-in-Atom.result.now _ _
    (c.in-Atom.is ∙ ap₂ (λ (cs : List Candidate) (xs : List Unresolved). Atom cs xs) (sym c.as_slice.ensures.items) (sym c.as_slice-in-Atom.ensures.items)) p)
    c.open_atom.ensures

pub returns-in-Choice : goal.returns-in-Choice
returns-in-Choice c =
    on_ok_weaker c.open_choice.result
    (λ p. choice_opened c.args.goal.now _ _ _ c.in-Choice.field-0 c.in-Choice.condition c.in-Choice.then_part c.in-Choice.else_part _ _ c.in-Choice.is c.deref.ensures c.deref-in-Choice.ensures c.deref-in-Choice-2.ensures p)
    c.open_choice.ensures

pub returns-in-Negation : goal.returns-in-Negation
returns-in-Negation c = on_ok_weaker c.put_goal.result (λ p. negation_opened c.args.goal.now _ c.in-Negation.goal _ _ c.in-Negation.is c.deref-in-Negation.ensures p) c.put_goal.ensures

pub returns-in-Exists : goal.returns-in-Exists
returns-in-Exists c = on_ok_weaker c.put_goal-in-Exists.result (λ p. exists_opened c.args.goal.now _ c.in-Exists.field-0 c.in-Exists.goal _ _ c.in-Exists.is c.deref-in-Exists.ensures p) c.put_goal-in-Exists.ensures
