use Rattle.std.proofs.Common.{◌≡◌, true, false, refl, sym, ap, ◌∙◌, Some}
use Rattle.mc_model.specs.Stream.{Bindings, unify, leave}
use Rattle.mc_values.specs.declared.heap.Heap.{Heap}
use Rattle.mc_flat_code.specs.Running.{instr_at, variables_at, body_at}
use Rattle.mc_flat_code.specs.declared.code.Body.{Body}
use Rattle.mc_plain.specs.Frames.{bindings, given}
use Rattle.mc_plain.specs.code.Machine.{at, failing}
use Rattle.mc_plain.proofs.Calling.{came}
use Rattle.mc_plain.proofs.calls.came_back.Goals as goal

pub returns-then-met-clause-says : goal.returns-then-met-clause-says
returns-then-met-clause-says c =
    λ outcome m height.
    let h : Heap = c.args.heap.now in
    let e2 : Bindings = bindings h c.returned.new.caller.items in
    let head : variables_at c.args.flat.now.code (body_at c.args.flat.now c.in-Some-Call.number).head ≡ c.variables-head.result.now = ap (λ (b : Body). variables_at c.args.flat.now.code b.head) (sym c.body-body.ensures) ∙ sym c.variables-head.ensures in
    let last : variables_at c.args.flat.now.code (body_at c.args.flat.now c.in-Some-Call.number).last ≡ c.variables-last.result.now = ap (λ (b : Body). variables_at c.args.flat.now.code b.last) (sym c.body-body.ensures) ∙ sym c.variables-last.ensures in
    came outcome c.args.flat.now m height c.in-Some-Call.number c.in-Some-Call.args c.in-Some-Call.field-0-2 c.in-Some-Call.next (instr_at c.args.flat.now.code c.args.place)
    (sym c.goal.ensures ∙ c.in-Some-Call.is ∙ ap Some c.in-Some-Call.field-0-is)
    (bindings h c.args.caller.now.items) (bindings h c.args.callee.now.items) e2 true
    ((λ i. unify (sym c.variables-args.ensures i) (leave (head i) (last i) (sym (c.in_ok-widen_all-in-Some-Call-2.ensures.same h) i)) (sym (c.in_ok-widen_all-in-Some-Call.ensures.same h) i))
    ∙ c.in_ok-met-in-Some-Call.ensures.unifies ∙ ap (λ b. given b e2) c.if-met.true)
    (at c.in-Some-Call.next) refl

pub returns-else-met-clause-says : goal.returns-else-met-clause-says
returns-else-met-clause-says c =
    λ outcome m height.
    let h : Heap = c.args.heap.now in
    let e2 : Bindings = bindings h c.returned.new.caller.items in
    let head : variables_at c.args.flat.now.code (body_at c.args.flat.now c.in-Some-Call.number).head ≡ c.variables-head.result.now = ap (λ (b : Body). variables_at c.args.flat.now.code b.head) (sym c.body-body.ensures) ∙ sym c.variables-head.ensures in
    let last : variables_at c.args.flat.now.code (body_at c.args.flat.now c.in-Some-Call.number).last ≡ c.variables-last.result.now = ap (λ (b : Body). variables_at c.args.flat.now.code b.last) (sym c.body-body.ensures) ∙ sym c.variables-last.ensures in
    came outcome c.args.flat.now m height c.in-Some-Call.number c.in-Some-Call.args c.in-Some-Call.field-0-2 c.in-Some-Call.next (instr_at c.args.flat.now.code c.args.place)
    (sym c.goal.ensures ∙ c.in-Some-Call.is ∙ ap Some c.in-Some-Call.field-0-is)
    (bindings h c.args.caller.now.items) (bindings h c.args.callee.now.items) e2 false
    ((λ i. unify (sym c.variables-args.ensures i) (leave (head i) (last i) (sym (c.in_ok-widen_all-in-Some-Call-2.ensures.same h) i)) (sym (c.in_ok-widen_all-in-Some-Call.ensures.same h) i))
    ∙ c.in_ok-met-in-Some-Call.ensures.unifies ∙ ap (λ b. given b e2) c.if-met.false)
    failing refl
