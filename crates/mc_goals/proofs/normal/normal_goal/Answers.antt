use Rattle.std.proofs.Common.{◌≡◌, ◌++◌, map, ap, ap₂, ◌∙◌}
use Rattle.std.proofs.lemmas.Result.{IfOk-weaker}
use Rattle.mc_program.specs.PlainPrograms.{plain_type}
use Rattle.mc_model.specs.declared.flat.Normal.{Normal}
use Rattle.mc_accepted.specs.NormalTypes.{clauses_types, normal_types}
use Rattle.mc_goals.specs.Resolved.{typed_clause}
use Rattle.mc_goals.proofs.Counts.{counted}
use Rattle.mc_goals.proofs.normal.normal_goal.Goals as goal

pub returns-clause-count : goal.returns-clause-count
returns-clause-count c = λ as_many.
    let types : map plain_type c.add_clauses.new.self.types.items ≡ normal_types (map plain_type c.args.pred.now.types) (map typed_clause c.args.clauses.now) =
    (c.in_ok-body.ensures {u = tt}).types
    ∙ ap₂ (λ ts rs. ts ++ clauses_types (map typed_clause rs)) (c.in_ok-variables.ensures {u = tt}).types c.as_slice.ensures.items in
    IfOk-weaker c.finish.result (λ (g : Normal). g.var_types ≡ c.add_clauses.new.self.types.items) _
    (λ g is. counted g.var_types c.args.pred.now.types c.args.clauses.now (ap (map plain_type) is ∙ types) as_many) c.finish.ensures.types
