use Rattle.std.proofs.Common.{sym, subst}
use Rattle.std.specs.Prelude.{IfOk, IsTrue}
use Rattle.mc_unresolved.specs.Steps.{plain_walk_step}
use Rattle.mc_unresolved.specs.declared.steps.WalkStep.{WalkStep}
use Rattle.mc_typecheck.specs.NamedWalks.{TakesNamed}
use Rattle.mc_typecheck.proofs.walking.name_step.Goals as goal

pub returns-in_ok-push_variable-in-Variable : goal.returns-in_ok-push_variable-in-Variable
returns-in_ok-push_variable-in-Variable c = λ yes.
    let Q : WalkStep → Type 0 = λ x. TakesNamed c.args.signatures.now c.args.walk.now c.push_variable.new.self (plain_walk_step x) in
    subst Q (sym c.in-Variable.is) (c.in_ok-push_variable-in-Variable.ensures c.args.signatures.now)

pub returns-in-Number : goal.returns-in-Number
returns-in-Number c =
    let Q : WalkStep → Type 0 = λ x. IfOk c.push_number.result (λ yes. IsTrue yes → TakesNamed c.args.signatures.now c.args.walk.now c.push_number.new.self (plain_walk_step x)) in
    subst Q (sym c.in-Number.is) c.push_number.ensures

pub returns-in-Text : goal.returns-in-Text
returns-in-Text c =
    let Q : WalkStep → Type 0 = λ x. IfOk c.push_text.result (λ yes. IsTrue yes → TakesNamed c.args.signatures.now c.args.walk.now c.push_text.new.self (plain_walk_step x)) in
    subst Q (sym c.in-Text.is) c.push_text.ensures

pub returns-in-CloseHead : goal.returns-in-CloseHead
returns-in-CloseHead c = λ yes.
    let Q : WalkStep → Type 0 = λ x. TakesNamed c.args.signatures.now c.args.walk.now c.close_head.new.self (plain_walk_step x) in
    subst Q (sym c.in-CloseHead.is) (c.close_head.ensures yes)
