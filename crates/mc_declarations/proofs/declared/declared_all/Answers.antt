use Rattle.std.proofs.Common.{◌≡◌, ◌∙◌, ◌+◌, List, ◌∷◌, Bor, map, drop, ap, sym, subst}
use Rattle.std.proofs.lemmas.List.{at_drop_more, drop_all}
use Rattle.mc_term_data.specs.Plain.{PlainTerm, plain_term}
use Rattle.mc_term_data.specs.declared.term.Term.{Term}
use Rattle.mc_declarations.specs.code.Walking.{Taken}
use Rattle.mc_declarations.proofs.Walking.{taken_more, taken_all}
use Rattle.mc_declarations.proofs.declared.declared_all.Goals as goal

abbrev seen : List (Bor Term) → List PlainTerm
seen ts = map (λ (t : Bor Term). plain_term t.now) ts

pub loop-term-preserved : goal.loop-term-preserved
loop-term-preserved c m k =
    let here = c.args.at.now in
    let ts = c.args.terms.now in
    let i = c.loop-term.term-index in
    let rest = seen (drop (i + 1) ts) in
    let split : seen (drop i ts) ≡ plain_term c.term-item.result.now ∷ rest =
    at_drop_more seen ts i c.term-item.result c.loop-term-test.true
    ∙ ap (λ (x : Bor Term). plain_term x.now ∷ rest) (sym c.term-item.is)
    in
    let Q : List PlainTerm → Type 0 =
    λ us. Taken here m (seen ts) us c.loop-term.made.items c.loop-term.variables
    in
    rw c.in_ok-push.ensures.items
    (taken_more here m (seen ts) rest (plain_term c.term-item.result.now) c.loop-term.made.items
    c.in_ok-declared_type.field-0 c.loop-term.variables c.declared_type.new.variables
    (subst Q split (c.loop-term.invariant m k)) c.in_ok-declared_type.ensures)

pub returns : goal.returns
returns c m k =
    let here = c.args.at.now in
    let ts = c.args.terms.now in
    let Q : List PlainTerm → Type 0 =
    λ us. Taken here m (seen ts) us c.loop-term.made.items c.loop-term.variables
    in
    rw c.in_ok-row.ensures.elements
    (taken_all here m (seen ts) c.loop-term.made.items c.loop-term.variables
    (subst Q (ap seen (drop_all c.loop-term.term-index ts c.loop-term-test.false))
    (c.loop-term.invariant m k)))
