use Rattle.std.proofs.Common.{◌≡◌, [], ◌++◌, refl, ap, ◌∙◌, subst}
use Rattle.std.specs.Prelude.{OnOk, slice_index_or}
use Rattle.mc_names.specs.Plain.{plain_name_arity}
use Rattle.mc_names.specs.Linked.{plain_names}
use Rattle.mc_names.specs.Candidates.{fitting}
use Rattle.mc_names.proofs.Listed.{fitting_called}
use Rattle.mc_names.proofs.names.Names.put_of_module.Goals as goal

pub returns : goal.returns
returns c =
    let names = c.args.self.now in
    let own = c.args.own in
    let x = plain_name_arity c.args.id in
    let same = ap (fitting (plain_names names) own x) c.called.ensures ∙ fitting_called (plain_names names) names.symbols names.preds refl refl own x (slice_index_or names.declared c.args.number []) in
    subst (λ cs. OnOk c.put_fitting.result (c.put_fitting.new.all.items ≡ c.args.all.now.items ++ cs)) same c.put_fitting.ensures
