use Rattle.std.proofs.Common.{◌≡◌, ◌-◌, ◌∷◌, true, length, sym, ap, subst, ◌∙◌, map, arith}
use Rattle.mc_model.specs.Stream.{Bindings, ready, enter}
use Rattle.mc_plain.specs.Frames.{bindings}
use Rattle.mc_flat_code.specs.Running.{variables_at, body_at}
use Rattle.mc_flat_code.specs.declared.code.Body.{Body}
use Rattle.mc_plain.specs.code.Machine.{Machine, Moved, at, called, stuck}
use Rattle.mc_plain.specs.code.Views.{machine, plain_now}
use Rattle.mc_plain.proofs.Calling.{inner_height, too_deep_moved, no_levels_moved, used_up_moved, not_ready_moved, call_moved}
use Rattle.mc_plain.proofs.state.Control.call.Goals as goal

pub returns-then-is_too_deep-clause-steps : goal.returns-then-is_too_deep-clause-steps
returns-then-is_too_deep-clause-steps c =
    λ next q outcome head last h o w.
    too_deep_moved outcome c.args.flat.now o head last (machine h c.args.self.now) w c.args.place (ap plain_now c.requires) c.args.number c.args.args c.args.is_last next q
    (c.is_too_deep.ensures.yes c.if-is_too_deep.true).0 (c.is_too_deep.ensures.yes c.if-is_too_deep.true).1

pub returns-then-self-eq0-clause-steps : goal.returns-then-self-eq0-clause-steps
returns-then-self-eq0-clause-steps c =
    λ next q outcome head last h o w.
    no_levels_moved outcome c.args.flat.now o head last (machine h c.args.self.now) w c.args.place (ap plain_now c.requires) c.args.number c.args.args c.args.is_last next q
    (c.is_too_deep.ensures.no c.if-is_too_deep.false) (omega arith)

pub returns-then-self-eq0-2-clause-steps : goal.returns-then-self-eq0-2-clause-steps
returns-then-self-eq0-2-clause-steps c =
    λ next q outcome head last h o w.
    used_up_moved outcome c.args.flat.now o head last (machine h c.args.self.now) w c.args.place (ap plain_now c.requires) c.args.number c.args.args c.args.is_last next q
    (c.is_too_deep.ensures.no c.if-is_too_deep.false) (omega arith) (omega arith)

pub returns-clause-steps : goal.returns-clause-steps
returns-clause-steps c =
    λ next q outcome head last h o w.
    let M : Machine = machine h c.args.self.now in
    let same : bindings h c.widen_all.new.frame.items ≡ bindings h c.args.self.now.frame.items = c.in_ok-widen_all.ensures.same h in
    let first : variables_at c.args.flat.now.code (body_at c.args.flat.now c.args.number).first ≡ c.variables-first.result.now = ap (λ (b : Body). variables_at c.args.flat.now.code b.first) (sym c.body-body.ensures) ∙ sym c.variables-first.ensures in
    subst (λ (b : Bindings). Moved outcome c.args.flat.now head last M (record M { bindings = b; now = stuck })) (sym same)
    (not_ready_moved outcome c.args.flat.now o head last M w c.args.place (ap plain_now c.requires) c.args.number c.args.args c.args.is_last next q
    (c.is_too_deep.ensures.no c.if-is_too_deep.false) (omega arith) (omega arith)
    ((λ i. ready (first i) (map (sym same i) (sym c.variables-variables.ensures i))) ∙ sym (c.ready-is_ready.ensures h) ∙ c.if-is_ready.false))

pub returns-then-is_ready-clause-steps : goal.returns-then-is_ready-clause-steps
returns-then-is_ready-clause-steps c =
    λ next q outcome head last h o w.
    let M : Machine = machine h c.args.self.now in
    let same : bindings h c.widen_all.new.frame.items ≡ bindings h c.args.self.now.frame.items = c.in_ok-widen_all.ensures.same h in
    let first : variables_at c.args.flat.now.code (body_at c.args.flat.now c.args.number).first ≡ c.variables-first.result.now = ap (λ (b : Body). variables_at c.args.flat.now.code b.first) (sym c.body-body.ensures) ∙ sym c.variables-first.ensures in
    let heads : variables_at c.args.flat.now.code (body_at c.args.flat.now c.args.number).head ≡ c.variables-head.result.now = ap (λ (b : Body). variables_at c.args.flat.now.code b.head) (sym c.body-body.ensures) ∙ sym c.variables-head.ensures in
    let is_ready : ready (variables_at c.args.flat.now.code (body_at c.args.flat.now c.args.number).first) (map M.bindings (variables_at c.args.flat.now.code c.args.args)) ≡ true = (λ i. ready (first i) (map (sym same i) (sym c.variables-variables.ensures i))) ∙ sym (c.ready-is_ready.ensures h) ∙ c.if-is_ready.true in
    let enters : bindings h c.in_ok-inner.inner.items ≡ enter (variables_at c.args.flat.now.code (body_at c.args.flat.now c.args.number).head) (variables_at c.args.flat.now.code (body_at c.args.flat.now c.args.number).first) (map M.bindings (variables_at c.args.flat.now.code c.args.args)) = c.in_ok-inner.ensures.enters h ∙ sym (λ i. enter (heads i) (first i) (map (sym same i) (sym c.variables-variables.ensures i))) in
    subst (λ (N : Machine). Moved outcome c.args.flat.now head last M N) (sym (c.in_ok-enter.ensures.goes_on h))
    (subst (λ (b : Body). Moved outcome c.args.flat.now head last M (record {
      budget = M.budget - 1;
      points = M.points;
      segments = record { around = called c.args.place; bindings = bindings h c.widen_all.new.frame.items; level = M.level; height = M.height; below = M.base } ∷ M.segments;
      base = length M.points;
      level = M.level - 1;
      height = inner_height c.args.is_last M.height;
      bindings = bindings h c.in_ok-inner.inner.items;
      now = at b.entry;
    })) (sym c.body-body.ensures)
    (call_moved outcome c.args.flat.now o head last M w c.args.place (ap plain_now c.requires) c.args.number c.args.args c.args.is_last next q
    (c.is_too_deep.ensures.no c.if-is_too_deep.false) (omega arith) (omega arith) is_ready (bindings h c.widen_all.new.frame.items) (bindings h c.in_ok-inner.inner.items) same enters))

pub returns-then-is_ready-clause-held : goal.returns-then-is_ready-clause-held
returns-then-is_ready-clause-held c =
    λ p h x.
    let wide = c.in_ok-widen_all.ensures.held p h x.frame in
    c.in_ok-enter.ensures.held p h (c.in_ok-inner.ensures.held p h wide) (record { frame = wide; segments = x.segments; points = x.points })

pub returns-clause-held : goal.returns-clause-held
returns-clause-held c =
    λ p h x.
    record { frame = c.in_ok-widen_all.ensures.held p h x.frame; segments = x.segments; points = x.points }
