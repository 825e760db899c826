use Rattle.std.proofs.Common.{◌≡◌, ◌∙◌, ◌+◌, List, ◌∷◌, map, drop, ap, sym, subst}
use Rattle.std.proofs.lemmas.List.{at_drop_more, drop_all}
use Rattle.mc_term_data.specs.Plain.{PlainTerm, plain_term}
use Rattle.mc_term_data.specs.declared.term.Term.{Term}
use Rattle.mc_declarations.specs.code.Walking.{Taken}
use Rattle.mc_declarations.proofs.Views.{var_walked, app_walked}
use Rattle.mc_declarations.proofs.Walking.{taken_more, taken_all}
use Rattle.mc_declarations.proofs.declared.+declared.Goals as goal

pub declared_type-returns-in_ok-number-in-Var : goal.declared_type-returns-in_ok-number-in-Var
declared_type-returns-in_ok-number-in-Var t c =
    var_walked c.args.at.now c.args.term.now c.in-Var.name c.bytes.result.now
    c.in_ok-number-in-Var.number c.args.variables.now c.number.new.self c.in-Var.is
    c.bytes.ensures.items c.in_ok-number-in-Var.ensures

pub declared_type-returns-in_ok-made-in-App : goal.declared_type-returns-in_ok-made-in-App
declared_type-returns-in_ok-made-in-App t c =
    app_walked c.args.at.now c.args.term.now c.in-App.name c.in-App.args c.as_slice.result.now
    c.in_ok-types-in-App.types c.in_ok-made-in-App.made c.args.variables.now
    c.declared_types.new.variables c.in-App.is c.as_slice.ensures.items
    c.in_ok-types-in-App.ensures c.in_ok-made-in-App.ensures

pub declared_types-loop-term-preserved : goal.declared_types-loop-term-preserved
declared_types-loop-term-preserved t c m k =
    let here = c.args.at.now in
    let ts = c.args.terms.now in
    let i = c.loop-term.term-index in
    let rest = map plain_term (drop (i + 1) ts) in
    let split : map plain_term (drop i ts) ≡ plain_term c.term-item.result ∷ rest =
    at_drop_more (λ (us : List Term). map plain_term us) ts i c.term-item.result
    c.loop-term-test.true
    ∙ ap (λ (x : Term). plain_term x ∷ rest) (sym c.term-item.is)
    in
    let Q : List PlainTerm → Type 0 =
    λ us. Taken here m (map plain_term ts) us c.loop-term.made.items c.loop-term.variables
    in
    rw c.in_ok-push.ensures.items
    (taken_more here m (map plain_term ts) rest (plain_term c.term-item.result)
    c.loop-term.made.items c.in_ok-declared_type.field-0 c.loop-term.variables
    c.declared_type.new.variables (subst Q split (c.loop-term.invariant m k))
    c.in_ok-declared_type.ensures)

pub declared_types-returns : goal.declared_types-returns
declared_types-returns t c m k =
    let here = c.args.at.now in
    let ts = c.args.terms.now in
    let Q : List PlainTerm → Type 0 =
    λ us. Taken here m (map plain_term ts) us c.loop-term.made.items c.loop-term.variables
    in
    rw c.in_ok-row.ensures.elements
    (taken_all here m (map plain_term ts) c.loop-term.made.items c.loop-term.variables
    (subst Q
    (ap (λ (us : List Term). map plain_term us)
    (drop_all c.loop-term.term-index ts c.loop-term-test.false))
    (c.loop-term.invariant m k)))
