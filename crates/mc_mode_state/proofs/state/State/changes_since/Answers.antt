use Rattle.std.proofs.Common.{◌∙◌, ◌<◌, ◌-◌, ℕ, List, length, take, drop, ap, sym, subst, arith}
use Rattle.std.specs.List.{All}
use Rattle.mc_accepted.specs.Arranged.{Point, changes_from}
use Rattle.mc_accepted.specs.NodeOracle.{other_node}
use Rattle.mc_mode_state.specs.States.{point_of, undo}
use Rattle.mc_mode_state.proofs.ChangesTold.{latest-since, within-at, within-rest, only-one, led-back}
use Rattle.mc_mode_state.proofs.state.State.changes_since.Goals as goal

pub changes_of-requires-clause-within : goal.changes_of-requires-clause-within
changes_of-requires-clause-within c =
    let t = c.args.self.now in
    let n = length t.insts.items in
    subst (All (λ (e : ℕ × ℕ). e.0 < n)) (sym (latest-since c.args.trail c.min-start.result c.deref.result.now t.trail.items c.deref.ensures.value (omega (arith, c.min-start.ensures, c.len.ensures, t.trail.ok.0)))) (within-at n (drop c.args.trail t.trail.items) (within-rest n c.args.trail t.trail.items c.requires))

pub change_of-requires : goal.change_of-requires
change_of-requires c =
    let t = c.args.self.now in
    let n = length t.insts.items in
    let is = latest-since c.args.trail c.min-start.result c.deref.result.now t.trail.items c.deref.ensures.value (omega (arith, c.min-start.ensures, c.len.ensures, t.trail.ok.0)) in
    subst (All (λ (e : ℕ × ℕ). e.0 < n)) (sym is) (within-at n (drop c.args.trail t.trail.items) (within-rest n c.args.trail t.trail.items c.requires)) 0 (0, 0) (omega (arith, c.if-latest-eq1.true))

pub returns-then-latest-eq1 : goal.returns-then-latest-eq1
returns-then-latest-eq1 c = λ s p e.
    let t = c.args.self.now in
    let now : Point ℕ = point_of t.insts.items in
    let latest = take (length c.deref.result.now - c.min-start.result) (drop c.min-start.result c.deref.result.now) in
    let is = latest-since c.args.trail c.min-start.result c.deref.result.now t.trail.items c.deref.ensures.value (omega (arith, c.min-start.ensures, c.len.ensures, t.trail.ok.0)) in
    c.in_ok-row.ensures
    ∙ ap (λ (b : Point ℕ). changes_from other_node 0 (length t.insts.items) b now)
    (ap (λ (es : List (ℕ × ℕ)). undo es now) (sym (only-one latest c.if-latest-eq1.true))
    ∙ led-back s t c.args.trail latest p e (λ x. ap (λ (es : List (ℕ × ℕ)). undo es now x) is))

pub returns-then-are_in_order : goal.returns-then-are_in_order
returns-then-are_in_order c = λ s p e.
    let t = c.args.self.now in
    let now : Point ℕ = point_of t.insts.items in
    c.in_ok-row-2.ensures
    ∙ ap (λ (b : Point ℕ). changes_from other_node 0 (length t.insts.items) b now)
    (led-back s t c.args.trail (take (length c.deref.result.now - c.min-start.result) (drop c.min-start.result c.deref.result.now)) p e (λ x. ap (λ (es : List (ℕ × ℕ)). undo es now x) (latest-since c.args.trail c.min-start.result c.deref.result.now t.trail.items c.deref.ensures.value (omega (arith, c.min-start.ensures, c.len.ensures, t.trail.ok.0)))))

pub returns : goal.returns
returns c = λ s p e.
    let t = c.args.self.now in
    let now : Point ℕ = point_of t.insts.items in
    c.in_ok-row-3.ensures
    ∙ ap (λ (b : Point ℕ). changes_from other_node 0 (length t.insts.items) b now)
    (ap (λ (es : List (ℕ × ℕ)). undo es now) c.as_slice.ensures.value ∙ led-back s t c.args.trail c.in_ok-replaced.replaced.items p e (c.in_ok-replaced.ensures.same now))
