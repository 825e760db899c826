use Rattle.std.proofs.Common.{◌≡◌, ◌∙◌, ℕ, ap, length, refl, subst}
use Rattle.mc_term_data.specs.Plain.{plain_term}
use Rattle.mc_source.specs.declared.place.Place.{Place}
use Rattle.mc_state_variables.specs.Numbered.{numbered_goal, line_of}
use Rattle.mc_clauses.specs.Unresolved.{Numbered_clause, unresolved_query}
use Rattle.mc_type_phase.specs.Items.{Item}
use Rattle.mc_type_phase.specs.code.Adding.{WasPut, Checks}
use Rattle.mc_type_phase.proofs.Adding.{adds_one}
use Rattle.mc_type_phase.proofs.Querying.{query_so, count_so, place_so}
use Rattle.mc_type_phase.proofs.Seeing.{verdict_so}
use Rattle.mc_type_phase.proofs.judged.TypecheckResult.typecheck_query.Goals as goal

pub returns : goal.returns
returns c l seen k =
    let checker = c.args.checker.now in
    let names = checker.at.names.now in
    let t = plain_term c.args.goal.now in
    let item : Item =
    record {
      own = 0;
      numbered = unresolved_query l 0 (length l.preds) (numbered_goal t);
      at = record { file = c.args.number; line = line_of t };
    }
    in
    let here : Place = record { file = c.args.number; line = c.args.goal.now.line } in
    let there : here ≡ item.at = place_so c.args.number c.args.goal.now here item.at refl refl in
    let same =
    query_so names l checker.at.own c.len-pred.result t (plain_term c.in_ok-numbered.numbered)
    k.names c.requires.first c.len-pred.ensures c.in_ok-numbered.ensures
    in
    let Sees : ℕ → Type 0 = λ n. Checks l (seen n) checker in
    let behind : c.len-pred.result ≡ length l.preds =
    count_so names l k.names c.len-pred.result c.len-pred.ensures
    in
    let At : Place → Type 0 =
    λ p. WasPut c.len-pred.result p c.in_ok-verdict.verdict c.args.self.now c.put.new.self
    in
    let Of : ℕ → Type 0 =
    λ n. WasPut n item.at c.in_ok-verdict.verdict c.args.self.now c.put.new.self
    in
    adds_one l seen item c.in_ok-clause.clause c.in_ok-verdict.verdict c.args.self.now
    c.put.new.self
    (c.in_ok-clause.ensures.clause ∙ ap (λ (n : Numbered_clause). n.clause) same)
    (c.in_ok-clause.ensures.names ∙ ap (λ (n : Numbered_clause). n.names) same)
    (c.in_ok-clause.ensures.place ∙ there)
    (verdict_so l (seen 0) checker c.in_ok-clause.clause c.in_ok-verdict.verdict
    (subst Sees c.requires.first k) c.in_ok-verdict.ensures)
    (subst Of behind (subst At there c.in_ok-put.ensures))
