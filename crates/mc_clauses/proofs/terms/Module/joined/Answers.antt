use Rattle.std.proofs.Common.{◌≡◌, ◌∙◌, ap, sym, map, ◌∷◌, ◌++◌, []}
use Rattle.std.proofs.lemmas.List.{map-append}
use Rattle.mc_names.specs.Linked.{plain_names}
use Rattle.mc_unresolved.specs.Unresolved.{plain_unresolved}
use Rattle.mc_clauses.specs.Unresolved.{meanings}
use Rattle.mc_clauses.specs.code.Walking.{nested_over, joined_over}
use Rattle.mc_clauses.proofs.Taking.{joined-nested}
use Rattle.mc_clauses.proofs.terms.Module.joined.Goals as goal

pub returns-in-Some : goal.returns-in-Some
returns-in-Some c =
    let names = plain_names c.args.self.now.names.now in
    let own = c.args.self.now.own in
    let front = map plain_unresolved c.pop.new.self.items in
    let last = plain_unresolved c.in-Some.last in
    c.in_ok-made-in-Some.ensures
    ∙ ap (λ cs. nested_over cs front last) (c.in_ok-candidates-in-Some.ensures ∙ ap (λ w. meanings names own w 2) c.in_ok-name.ensures)
    ∙ sym (joined-nested names own (c.args.name.now ∷ []) front last)
    ∙ ap (joined_over names own (c.args.name.now ∷ []))
    (sym (map-append plain_unresolved c.pop.new.self.items (c.in-Some.last ∷ [])) ∙ ap (map plain_unresolved) (sym c.in-Some.ensures.items ∙ c.into_vec-parts.ensures.items))
