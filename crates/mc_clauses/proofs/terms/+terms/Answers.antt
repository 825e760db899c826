use Rattle.std.proofs.Common.{◌≡◌, ◌∙◌, ap, ap₂, sym, refl, map, drop, ◌∷◌, ◌++◌, [], ◌+◌, rules, List, length}
use Rattle.std.proofs.lemmas.List.{drop_more, drop_all}
use Rattle.mc_term_data.specs.Plain.{PlainTerm, plain_term, term_list, at, Var, App}
use Rattle.mc_term_data.specs.Names.{count}
use Rattle.mc_accepted.specs.Resolving.{any_name, no_terms}
use Rattle.mc_unresolved.specs.Unresolved.{plain_unresolved, unresolved_terms}
use Rattle.mc_unresolved.specs.declared.term.Unresolved.{Unresolved, Variable, Name}
use Rattle.mc_unresolved.proofs.Views.{plain-Variable, plain-Name}
use Rattle.mc_term_data.specs.declared.term.Term.{Term}
use Rattle.mc_names.specs.Definitions.{comma, semicolon, nil_path}
use Rattle.mc_names.specs.Linked.{plain_names}
use Rattle.mc_clauses.specs.Unresolved.{term_of, terms_of, nil, meanings}
use Rattle.mc_clauses.specs.code.Walking.{Taken, Comes, Walked, term_walk, terms_walk}
use Rattle.mc_clauses.proofs.Taking.{taken-none, taken-more, taken-all, count-terms, walked-elements, walked-joined}
use Rattle.mc_clauses.proofs.Walks.{walked-made, walked-on, comes-variable}
use Rattle.mc_clauses.proofs.Views.{plain_term-var, plain_term-app, plain_term-items, plain_term-tailed, plain_term-conj, plain_term-disj}
use Rattle.mc_clauses.proofs.terms.+terms.Goals as goal

pub term-returns-in_ok-number-in-Var : goal.term-returns-in_ok-number-in-Var
term-returns-in_ok-number-in-Var t c q m k =
    let names = plain_names c.args.at.now.names.now in
    let own = c.args.at.now.own in
    let is : plain_term c.args.whole.now ≡ at (Var c.bytes.result.now) c.args.whole.now.line =
    plain_term-var c.args.whole.now c.in-Var.name c.in-Var.is ∙ ap (λ w. at (Var w) c.args.whole.now.line) (sym c.bytes.ensures.items) in
    rw (ap (λ (u : PlainTerm). term_of names own u) is)
    (rw (plain-Variable c.in_ok-number-in-Var.number)
    (comes-variable q m c.bytes.result.now c.in_ok-number-in-Var.number c.number.new.self (c.in_ok-number-in-Var.ensures q m k)))

pub term-returns-in_ok-candidates-in-App : goal.term-returns-in_ok-candidates-in-App
term-returns-in_ok-candidates-in-App t c =
    let names = plain_names c.args.at.now.names.now in
    let own = c.args.at.now.own in
    let args = c.in-App.args in
    rw (ap (λ (u : PlainTerm). term_of names own u) (plain_term-app c.args.whole.now c.in-App.name args c.in-App.is))
    (walked-on (λ row. unresolved_terms (map plain_unresolved row)) plain_unresolved
    (any_name (meanings names own c.in-App.name (count (term_list (map plain_term args))))) (terms_walk c.args.at.now args)
    c.args.variables.now c.terms.new.variables c.in_ok-made-in-App.made (Name c.in_ok-candidates-in-App.candidates c.in_ok-made-in-App.made)
    (rw (← c.as_slice.ensures.items) c.in_ok-made-in-App.ensures)
    (plain-Name _ _ ∙ ap (λ cs. any_name cs (unresolved_terms (map plain_unresolved c.in_ok-made-in-App.made)))
    (c.in_ok-candidates-in-App.ensures ∙ ap (meanings names own c.in-App.name) (c.len.ensures ∙ sym (count-terms args)))))

pub term-returns-in_ok-list-in-None : goal.term-returns-in_ok-list-in-None
term-returns-in_ok-list-in-None t c =
    let names = plain_names c.args.at.now.names.now in
    let own = c.args.at.now.own in
    let elements = c.in-List.elements in
    rw (ap (λ (u : PlainTerm). term_of names own u) (plain_term-items c.args.whole.now elements c.in-List.tail c.in-List.is c.in-None.is))
    (walked-elements names own (terms_of names own (term_list (map plain_term elements))) (nil names own)
    c.args.variables.now c.terms-in-List.new.variables c.terms-in-List.new.variables
    c.in_ok-made-in-List.made c.in_ok-end-in-None.end c.in_ok-list-in-None.list
    (rw (← c.as_slice-in-List.ensures.items) c.in_ok-made-in-List.ensures)
    (walked-made plain_unresolved (any_name (meanings names own nil_path 0) no_terms) c.terms-in-List.new.variables c.in_ok-end-in-None.end c.in_ok-end-in-None.ensures)
    c.in_ok-list-in-None.ensures)

pub term-returns-in_ok-list-in-Some : goal.term-returns-in_ok-list-in-Some
term-returns-in_ok-list-in-Some t c =
    let names = plain_names c.args.at.now.names.now in
    let own = c.args.at.now.own in
    let elements = c.in-List.elements in
    rw (ap (λ (u : PlainTerm). term_of names own u) (plain_term-tailed c.args.whole.now elements c.in-List.tail c.in-Some.tail c.in-List.is c.in-Some.is))
    (walked-elements names own (terms_of names own (term_list (map plain_term elements))) (term_of names own (plain_term c.in-Some.tail.value))
    c.args.variables.now c.terms-in-List.new.variables c.term.new.variables
    c.in_ok-made-in-List.made c.in_ok-end-in-Some.end c.in_ok-list-in-Some.list
    (rw (← c.as_slice-in-List.ensures.items) c.in_ok-made-in-List.ensures)
    (rw (← ap (λ (u : Term). plain_term u) c.deref.ensures) c.in_ok-end-in-Some.ensures)
    c.in_ok-list-in-Some.ensures)

pub term-returns-in_ok-joined-in-Conj : goal.term-returns-in_ok-joined-in-Conj
term-returns-in_ok-joined-in-Conj t c =
    let names = plain_names c.args.at.now.names.now in
    let own = c.args.at.now.own in
    let parts = c.in-Conj.parts in
    rw (ap (λ (u : PlainTerm). term_of names own u) (plain_term-conj c.args.whole.now parts c.in-Conj.is))
    (walked-joined names own comma (terms_of names own (term_list (map plain_term parts))) c.args.variables.now c.terms-in-Conj.new.variables
    c.in_ok-made-in-Conj.made c.in_ok-joined-in-Conj.joined
    (rw (← c.as_slice-in-Conj.ensures.items) c.in_ok-made-in-Conj.ensures)
    c.in_ok-joined-in-Conj.ensures)

pub term-returns-in_ok-joined-in-Disj : goal.term-returns-in_ok-joined-in-Disj
term-returns-in_ok-joined-in-Disj t c =
    let names = plain_names c.args.at.now.names.now in
    let own = c.args.at.now.own in
    let parts = c.in-Disj.parts in
    rw (ap (λ (u : PlainTerm). term_of names own u) (plain_term-disj c.args.whole.now parts c.in-Disj.is))
    (walked-joined names own semicolon (terms_of names own (term_list (map plain_term parts))) c.args.variables.now c.terms-in-Disj.new.variables
    c.in_ok-made-in-Disj.made c.in_ok-joined-in-Disj.joined
    (rw (← c.as_slice-in-Disj.ensures.items) c.in_ok-made-in-Disj.ensures)
    c.in_ok-joined-in-Disj.ensures)

pub terms-loop-one-init : goal.terms-loop-one-init
terms-loop-one-init t c q m k =
    rw c.in_ok-made.ensures.items (taken-none c.args.at.now q m c.args.terms.now c.args.variables.now k)

pub terms-loop-one-preserved : goal.terms-loop-one-preserved
terms-loop-one-preserved t c q m k =
    let i = c.loop-one.invariant q m k in
    let split : drop c.loop-one.one-index c.args.terms.now ≡ c.one-item.result ∷ drop (c.loop-one.one-index + 1) c.args.terms.now =
    drop_more c.args.terms.now c.loop-one.one-index c.one-item.result c.loop-one-test.true
    ∙ ap (λ x. x ∷ drop (c.loop-one.one-index + 1) c.args.terms.now) (sym c.one-item.is) in
    rw c.in_ok-push.ensures.items
    (taken-more c.args.at.now q m c.args.terms.now (drop (c.loop-one.one-index + 1) c.args.terms.now) c.one-item.result c.loop-one.made.items c.in_ok-term.field-0 c.loop-one.variables c.term.new.variables
    (rw (← split) i) c.in_ok-term.ensures)

pub terms-returns : goal.terms-returns
terms-returns t c q m k =
    let i = c.loop-one.invariant q m k in
    rw c.in_ok-row.ensures.elements
    (taken-all c.args.at.now q m c.args.terms.now c.loop-one.made.items c.loop-one.variables
    (rw (← drop_all c.loop-one.one-index c.args.terms.now c.loop-one-test.false) i))
