use Rattle.std.proofs.Common.{◌≡◌, ◌∙◌, ap, ap₂, sym, refl, map, ◌∷◌, ◌++◌, [], rules}
use Rattle.mc_accepted.specs.Resolving.{any_name}
use Rattle.mc_unresolved.specs.Unresolved.{plain_unresolved}
use Rattle.mc_clauses.specs.code.Walking.{nested_over}
use Rattle.mc_clauses.proofs.Taking.{nested-behind, name-over-two}
use Rattle.mc_clauses.proofs.terms.Module.nested.Goals as goal

pub loop-term-init : goal.loop-term-init
loop-term-init c = refl

pub loop-term-preserved : goal.loop-term-preserved
loop-term-preserved c =
    let cs = c.args.candidates.now in
    let us = c.pop.new.self.items in
    ap (nested_over cs (map plain_unresolved us))
    (name-over-two cs c.in_ok-of.field-0 c.in_ok-of-2.field-0 c.in-Some.term c.loop-term.made (search rules) (search rules))
    ∙ sym (nested-behind cs us c.in-Some.term (plain_unresolved c.loop-term.made))
    ∙ ap (λ ts. nested_over cs (map plain_unresolved ts) (plain_unresolved c.loop-term.made)) (sym c.in-Some.ensures.items)
    ∙ c.loop-term.invariant

pub returns : goal.returns
returns c =
    let none : c.loop-term.terms.items ≡ [] = search rules in
    ap (λ ts. nested_over c.args.candidates.now (map plain_unresolved ts) (plain_unresolved c.loop-term.made)) (sym none) ∙ c.loop-term.invariant
