use Rattle.std.proofs.Common.{◌≡◌, ◌<◌, ◌∙◌, None, length, get_or, arith, rules, refl, ap, sym, subst}
use Rattle.std.specs.Prelude.{min, IfSome}
use Rattle.mc_values.specs.Heap.{IsLive}
use Rattle.mc_model.specs.Stream.{leave}
use Rattle.mc_plain.specs.Values.{IsHeld}
use Rattle.mc_plain.specs.Frames.{bindings, seen}
use Rattle.mc_plain.specs.code.Steps.{kept}
use Rattle.mc_plain.proofs.Binding.{read_is}
use Rattle.mc_plain.proofs.FramesCalling.{left_at, length-leave, kept_holds}
use Rattle.mc_plain.proofs.Unifying.{unify_lengths, unified, fails_here, goes_on}
use Rattle.mc_plain.proofs.call.returned.Goals as goal

pub meet_if-requires-clause-value : goal.meet_if-requires-clause-value
meet_if-requires-clause-value c =
    let h = c.args.heap.now in
    let callee = c.args.callee.now.items in
    let k = c.loop-k.k in
    let m : c.min.result ≡ min (length c.args.head.now) (length c.args.last.now) = search rules in
    let y_in : k < length c.args.head.now = omega arith in
    let y = get_or c.args.head.now k 0 in
    let y_fits = c.requires.head k 0 y_in in
    let is = read_is callee y c.index.result.now c.index.result.now y_fits c.index.ensures refl in
    subst (λ p. IfSome p (IsLive h)) (sym c.kept-value.ensures) (kept_holds (IsLive h) (get_or c.args.last.now k 0) c.index.result.now (subst (λ p. IfSome p (IsLive h)) is (c.requires.callee y None y_fits)))

pub returns-then-args-min-clause-unifies : goal.returns-then-args-min-clause-unifies
returns-then-args-min-clause-unifies c =
    let e = bindings c.args.heap.now c.args.callee.now.items in
    let m : c.min.result ≡ min (length c.args.head.now) (length c.args.last.now) = search rules in
    unify_lengths c.args.args.now (leave c.args.head.now c.args.last.now e) (bindings c.args.heap.now c.args.caller.now.items)
    (λ q. c.if-args-min.true (q ∙ length-leave c.args.head.now c.args.last.now e ∙ sym m))

pub returns-then-not-branch-clause-unifies : goal.returns-then-not-branch-clause-unifies
returns-then-not-branch-clause-unifies c =
    let h = c.args.heap.now in
    let callee = c.args.callee.now.items in
    let head = c.args.head.now in
    let last = c.args.last.now in
    let out = leave head last (bindings h callee) in
    let k = c.loop-k.k in
    let m : c.min.result ≡ min (length head) (length last) = search rules in
    let lt : k < length c.args.args.now = omega arith in
    let y_in : k < length head = omega arith in
    let i_in : k < length last = omega arith in
    let lt' : k < length out = omega (arith, length-leave head last (bindings h callee)) in
    let y = get_or head k 0 in
    let is = read_is callee y c.index.result.now c.index.result.now (c.requires.head k 0 y_in) c.index.ensures refl in
    let at = left_at h callee head last k y (get_or last k 0) c.kept-value.result c.kept-value.result y_in i_in refl refl (c.kept-value.ensures ∙ ap (kept (get_or last k 0)) (sym is)) refl in
    fails_here c.args.args.now out k (bindings h c.loop-k.caller.items) lt lt' _ c.loop-k.invariant.unifies
    (seen h c.kept-value.result) c.in_ok-meet_if.field-0 (bindings h c.meet_if.new.frame.items) at
    (c.in_ok-meet_if.ensures {u = tt}).meets c.if-not-branch.true

pub returns-then-not-branch-clause-held : goal.returns-then-not-branch-clause-held
returns-then-not-branch-clause-held c P a b =
    let h = c.args.heap.now in
    let callee = c.args.callee.now.items in
    let k = c.loop-k.k in
    let m : c.min.result ≡ min (length c.args.head.now) (length c.args.last.now) = search rules in
    let y_in : k < length c.args.head.now = omega arith in
    let y = get_or c.args.head.now k 0 in
    let y_fits = c.requires.head k 0 y_in in
    let is = read_is callee y c.index.result.now c.index.result.now y_fits c.index.ensures refl in
    c.meet_if.ensures.held P (subst (λ p. IfSome p (IsHeld P h)) (sym c.kept-value.ensures) (kept_holds (IsHeld P h) (get_or c.args.last.now k 0) c.index.result.now (subst (λ p. IfSome p (IsHeld P h)) is (a y None y_fits)))) (c.loop-k.invariant.held P a b)

pub returns-in_err-meet_if-clause-held : goal.returns-in_err-meet_if-clause-held
returns-in_err-meet_if-clause-held c P a b =
    let h = c.args.heap.now in
    let callee = c.args.callee.now.items in
    let k = c.loop-k.k in
    let m : c.min.result ≡ min (length c.args.head.now) (length c.args.last.now) = search rules in
    let y_in : k < length c.args.head.now = omega arith in
    let y = get_or c.args.head.now k 0 in
    let y_fits = c.requires.head k 0 y_in in
    let is = read_is callee y c.index.result.now c.index.result.now y_fits c.index.ensures refl in
    c.meet_if.ensures.held P (subst (λ p. IfSome p (IsHeld P h)) (sym c.kept-value.ensures) (kept_holds (IsHeld P h) (get_or c.args.last.now k 0) c.index.result.now (subst (λ p. IfSome p (IsHeld P h)) is (a y None y_fits)))) (c.loop-k.invariant.held P a b)

pub loop-k-preserved : goal.loop-k-preserved
loop-k-preserved c =
    let h = c.args.heap.now in
    let callee = c.args.callee.now.items in
    let head = c.args.head.now in
    let last = c.args.last.now in
    let out = leave head last (bindings h callee) in
    let k = c.loop-k.k in
    let m : c.min.result ≡ min (length head) (length last) = search rules in
    let lt : k < length c.args.args.now = omega arith in
    let y_in : k < length head = omega arith in
    let i_in : k < length last = omega arith in
    let lt' : k < length out = omega (arith, length-leave head last (bindings h callee)) in
    let y = get_or head k 0 in
    let y_fits = c.requires.head k 0 y_in in
    let is = read_is callee y c.index.result.now c.index.result.now y_fits c.index.ensures refl in
    let at = left_at h callee head last k y (get_or last k 0) c.kept-value.result c.kept-value.result y_in i_in refl refl (c.kept-value.ensures ∙ ap (kept (get_or last k 0)) (sym is)) refl in
    record {
      size = c.meet_if.ensures.size ∙ c.loop-k.invariant.size;
      live = c.meet_if.ensures.live;
      held = λ P a b. c.meet_if.ensures.held P (subst (λ p. IfSome p (IsHeld P h)) (sym c.kept-value.ensures) (kept_holds (IsHeld P h) (get_or last k 0) c.index.result.now (subst (λ p. IfSome p (IsHeld P h)) is (a y None y_fits)))) (c.loop-k.invariant.held P a b);
      unifies =
          goes_on c.args.args.now out k (bindings h c.loop-k.caller.items) lt lt' _ c.loop-k.invariant.unifies
          (seen h c.kept-value.result) c.in_ok-meet_if.field-0 (bindings h c.meet_if.new.frame.items) at
          (c.in_ok-meet_if.ensures {u = tt}).meets c.if-not-branch.false;
    }

pub returns-clause-unifies : goal.returns-clause-unifies
returns-clause-unifies c =
    let h = c.args.heap.now in
    let e = bindings h c.args.callee.now.items in
    let m : c.min.result ≡ min (length c.args.head.now) (length c.args.last.now) = search rules in
    c.loop-k.invariant.unifies
    ∙ unified c.args.args.now (leave c.args.head.now c.args.last.now e) c.loop-k.k (bindings h c.loop-k.caller.items) (omega arith) (omega (arith, length-leave c.args.head.now c.args.last.now e))
