use Rattle.std.proofs.Common.{◌≡◌, ◌∙◌, ◌∷◌, [], List, Some, Bor, map, ap, ap₂, sym}
use Rattle.std.specs.Prelude.{codes, option_map}
use Rattle.std.proofs.lemmas.List.{map-append}
use Rattle.mc_term_data.specs.Plain.{PlainTerm, plain_term, term_list}
use Rattle.mc_term_data.specs.Shapes.{operands}
use Rattle.mc_term_data.specs.declared.term.Term.{Term}
use Rattle.mc_clauses.specs.Unresolved.{and_result}
use Rattle.mc_declarations.specs.Declarations.{with_result}
use Rattle.mc_declarations.proofs.Writing.{result_last}
use Rattle.mc_declarations.proofs.terms.with_result.Goals as goal

abbrev seen : Bor Term → PlainTerm
seen t = plain_term t.now

pub returns-in_ok-push-in-Some : goal.returns-in_ok-push-in-Some
returns-in_ok-push-in-Some c =
    let t = plain_term c.args.signature.now in
    let before = c.in_ok-all-in-Some.all.items in
    let last = c.without_mode.result in
    let is :
    operands (codes "=") t
    ≡ Some (plain_term c.in-Some.function.now, plain_term c.in-Some.value.now) =
    sym c.operands.ensures
    ∙ ap (option_map (λ p. (plain_term p.0.now, plain_term p.1.now))) c.in-Some.is
    in
    ap (λ (ts : List (Bor Term)). term_list (map seen ts)) c.in_ok-push-in-Some.ensures.items
    ∙ ap term_list (map-append seen before (last ∷ []))
    ∙ result_last (map seen before) (seen last)
    ∙ ap₂ and_result c.in_ok-all-in-Some.ensures c.without_mode.ensures
    ∙ sym (ap with_result is)
