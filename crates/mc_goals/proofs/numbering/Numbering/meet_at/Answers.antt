use Rattle.std.proofs.Common.{◌++◌, sym, ap, ◌∙◌}
use Rattle.mc_program.specs.PlainPrograms.{plain_expression}
use Rattle.mc_accepted.specs.Scope.{variables_in}
use Rattle.mc_goals.specs.code.Meeting.{head_variables}
use Rattle.mc_goals.proofs.Results.{on_ok}
use Rattle.mc_goals.proofs.HeadSteps.{met_variable, met_term}
use Rattle.mc_goals.proofs.numbering.Numbering.meet_at.Goals as goal

pub returns-in-Some : goal.returns-in-Some
returns-in-Some c = λ n head place k.
    on_ok c.meet_argument.result (λ m. met_variable n head c.in-Some.variable c.args.place c.args.self.now c.meet_argument.new.self (plain_expression c.args.argument.now) (sym c.in-Some.is ∙ c.variable_of.ensures) place k m) c.meet_argument.ensures

pub returns : goal.returns
returns c = λ n head place k.
    let t = plain_expression c.args.argument.now in
    let vs = c.as_slice.ensures.value ∙ (c.in_ok-push_variables.ensures {u = tt}) ∙ ap (λ l. l ++ variables_in t) c.new-variables.ensures.items in
    on_ok c.meet_all.result (λ m. met_term n head c.as_slice.result.now c.meet_all.new.self t (sym c.in_default.is ∙ c.variable_of.ensures) vs m) (c.meet_all.ensures n head (head_variables head) k)
