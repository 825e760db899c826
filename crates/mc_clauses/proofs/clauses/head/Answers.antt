use Rattle.std.proofs.Common.{◌≡◌, ◌∙◌, ◌++◌, ◌∷◌, [], Some, ap, sym}
use Rattle.std.specs.Prelude.{codes, option_map}
use Rattle.mc_term_data.specs.Plain.{plain_term}
use Rattle.mc_term_data.specs.Shapes.{operands}
use Rattle.mc_names.specs.Linked.{plain_names}
use Rattle.mc_clauses.specs.Unresolved.{in_turn, terms_of, head_by, arguments_of}
use Rattle.mc_clauses.proofs.Heads.{walked-result}
use Rattle.mc_clauses.proofs.clauses.head.Goals as goal

pub returns-in_ok-row-in-Some : goal.returns-in_ok-row-in-Some
returns-in_ok-row-in-Some c =
    let names = plain_names c.args.at.now.names.now in
    let own = c.args.at.now.own in
    let f = plain_term c.in-Some.function.now in
    let r = plain_term c.in-Some.result.now in
    let is : operands (codes "=") (plain_term c.args.head.now) ≡ Some (f, r) =
    sym c.operands.ensures ∙ ap (option_map (λ p. (plain_term p.0.now, plain_term p.1.now))) c.in-Some.is in
    rw (ap (λ o. in_turn (terms_of names own (head_by (plain_term c.args.head.now) o))) is)
    (walked-result names own (arguments_of f) r c.args.variables.now c.terms.new.variables c.term.new.variables
    c.in_ok-args-in-Some.args c.in_ok-last-in-Some.last c.in_ok-row-in-Some.row
    (rw (← c.arguments.ensures) c.in_ok-args-in-Some.ensures)
    c.in_ok-last-in-Some.ensures
    (c.in_ok-row-in-Some.ensures.elements ∙ c.in_ok-push-in-Some.ensures.items ∙ ap (λ xs. xs ++ c.in_ok-last-in-Some.last ∷ []) c.into_vec-made.ensures.items))
