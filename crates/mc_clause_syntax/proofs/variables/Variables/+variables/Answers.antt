use Rattle.std.proofs.Common.{refl, ◌∙◌, sym, map, drop, ◌+◌, ◌++◌, ◌≡◌, ap}
use Rattle.mc_clause_syntax.specs.code.Found.{with_variables}
use Rattle.mc_term_data.specs.Plain.{plain_term, term_list}
use Rattle.mc_clause_syntax.specs.Limits.{variables, all_variables}
use Rattle.mc_clause_syntax.proofs.Appended.{with_variables_append}
use Rattle.mc_clause_syntax.proofs.Views.{plain_term-tailed}
use Rattle.mc_clause_syntax.proofs.Shapes.{drop_item}
use Rattle.mc_clause_syntax.proofs.variables.Variables.+variables.Goals as goal

pub add-returns-in_ok-add-in-Some : goal.add-returns-in_ok-add-in-Some
add-returns-in_ok-add-in-Some t c =
    let old = c.args.self.now in
    let xs = all_variables (term_list (map plain_term c.in-List.elements)) in
    let ys = variables (plain_term c.in-Some.tail.value) in
    let f : c.add_all-in-List.new.self ≡ with_variables old xs = rw c.as_slice-in-List.ensures.items at (c.in_ok-add_all-in-List.ensures {u = tt}) in
    let e : c.add.new.self ≡ with_variables c.add_all-in-List.new.self ys = rw c.deref.ensures at (c.in_ok-add-in-Some.ensures {u = tt}) in
    let whole : xs ++ ys ≡ variables (plain_term c.args.term.now) =
    ap variables (sym (plain_term-tailed c.args.term.now c.in-List.elements c.in-List.tail c.in-Some.tail c.in-List.is c.in-Some.is)) in
    e ∙ rw (f, ← whole, with_variables_append old xs ys) refl

pub add_all-loop-term-preserved : goal.add_all-loop-term-preserved
add_all-loop-term-preserved t c =
    let i = c.loop-term.term-index in
    let u = c.term-item.result in
    let ts = c.args.terms.now in
    let f = rw (drop_item ts i u c.loop-term-test.true c.term-item.is) at c.loop-term.invariant in
    let e = c.in_ok-add.ensures {u = tt} in rw e (sym (with_variables_append c.loop-term.self (variables (plain_term u)) (all_variables (term_list (map plain_term (drop (i + 1) ts))))) ∙ f)
