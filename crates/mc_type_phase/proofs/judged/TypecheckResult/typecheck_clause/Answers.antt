use Rattle.std.proofs.Common.{◌≡◌, ◌∙◌, ap}
use Rattle.mc_term_data.specs.Plain.{plain_term}
use Rattle.mc_state_variables.specs.Numbered.{numbered_clause}
use Rattle.mc_names.specs.Linked.{Linked, plain_names}
use Rattle.mc_clauses.specs.Unresolved.{Numbered_clause, unresolved_clause}
use Rattle.mc_type_phase.specs.Items.{clause_item}
use Rattle.mc_type_phase.proofs.Adding.{adds_one}
use Rattle.mc_type_phase.proofs.Seeing.{verdict_so}
use Rattle.mc_type_phase.proofs.judged.TypecheckResult.typecheck_clause.Goals as goal

pub returns : goal.returns
returns c l seen k =
    let checker = c.args.checker.now in
    let own = checker.at.own in
    let t = plain_term c.args.term.now in
    let same :
    unresolved_clause (plain_names checker.at.names.now) own c.args.pred (numbered_clause t)
    ≡ unresolved_clause l own c.args.pred (numbered_clause t) =
    ap (λ (m : Linked). unresolved_clause m own c.args.pred (numbered_clause t)) k.names
    in
    adds_one l seen
    (clause_item l (record { own = own; pred = c.args.pred; term = t; at = c.args.at }))
    c.in_ok-clause.clause c.in_ok-verdict.verdict c.args.self.now c.put.new.self
    (c.in_ok-clause.ensures.clause ∙ ap (λ (n : Numbered_clause). n.clause) same)
    (c.in_ok-clause.ensures.names ∙ ap (λ (n : Numbered_clause). n.names) same)
    c.in_ok-clause.ensures.place
    (verdict_so l (seen own) checker c.in_ok-clause.clause c.in_ok-verdict.verdict k
    c.in_ok-verdict.ensures)
    c.in_ok-put.ensures
