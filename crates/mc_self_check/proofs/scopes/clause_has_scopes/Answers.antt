use Rattle.std.proofs.lemmas.Result.{IfOk-weaker}
use Rattle.std.proofs.Common.{◌≡◌, ◌↔◌, ◌∙◌, ◌++◌, ℕ, List, [], map, refl, ap, subst}
use Rattle.std.specs.Prelude.{IsTrue}
use Rattle.mc_program.specs.Programs.{expressions}
use Rattle.mc_program.specs.PlainPrograms.{plain_expression, plain_goal}
use Rattle.mc_program.specs.declared.expr.Expr.{Expr}
use Rattle.mc_accepted.specs.Scope.{variables_in_all}
use Rattle.mc_self_check.specs.code.WrittenScopes.{ScopesIn}
use Rattle.mc_self_check.proofs.Scoping.{scopes_told}
use Rattle.mc_self_check.proofs.scopes.clause_has_scopes.Goals as goal

pub returns-then-has_no_parts : goal.returns-then-has_no_parts
returns-then-has_no_parts c =
    let O = variables_in_all (expressions (map plain_expression c.args.clause.now.head)) in
    (λ h. (scopes_told O [] (plain_goal c.args.clause.now.body)).0 (c.has_no_parts.ensures c.if-has_no_parts.true O []), λ h. refl)

pub returns : goal.returns
returns c =
    let O = variables_in_all (expressions (map plain_expression c.args.clause.now.head)) in
    let g = plain_goal c.args.clause.now.body in
    let told = scopes_told O [] g in
    let outside : c.as_slice-2.result.now ≡ O =
    c.as_slice-2.ensures.value ∙ c.in_ok-push_all_variables.ensures
    ∙ ap (λ (l : List ℕ). l ++ variables_in_all (expressions (map plain_expression c.as_slice.result.now))) c.new-outside.ensures.items
    ∙ ap (λ (l : List Expr). variables_in_all (expressions (map plain_expression l))) c.as_slice.ensures.items in
    IfOk-weaker c.has_scopes.result _ _
    (λ b m. let n = subst (λ l. IsTrue b ↔ ScopesIn l [] g) outside m in (λ h. told.0 (n.0 h), λ h. n.1 (told.1 h)))
    c.has_scopes.ensures
