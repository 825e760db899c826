use Rattle.std.proofs.Common.{◌≡◌, ◌<◌, ◌+◌, ◌-◌, ◌∙◌, None, length, get_or, arith, rules, refl, sym, subst}
use Rattle.std.specs.Prelude.{min, IfSome}
use Rattle.std.proofs.lemmas.List.{length-map, length-set}
use Rattle.mc_values.specs.Heap.{IsLive}
use Rattle.mc_plain.specs.Values.{IsHeld}
use Rattle.mc_plain.specs.Frames.{bindings, seen_at}
use Rattle.mc_plain.proofs.Binding.{read_is, live_set, held_set}
use Rattle.mc_plain.proofs.FramesCalling.{seen_var, enter_past, enter_down, kept_holds}
use Rattle.mc_plain.proofs.call.enter.Goals as goal

pub loop-k-init : goal.loop-k-init
loop-k-init c =
    let first_of_all : c.min-k.result ≡ min (min (length c.args.head.now) (length c.args.first.now)) (length c.args.args.now) = search rules in
    let new = c.in_ok-frame.ensures {u = tt} in
    record {
      few = omega arith;
      size = new.size;
      enters = λ h. new.nothing h ∙ sym (enter_past c.min-k.result c.args.head.now c.args.first.now (seen_at h c.args.caller.now.items c.args.args.now) (omega (arith, length-map c.args.args.now (bindings h c.args.caller.now.items))));
      live = λ h live. new.live h;
      held = λ P h held. new.held P h;
    }

pub loop-k-preserved : goal.loop-k-preserved
loop-k-preserved c =
    let caller = c.args.caller.now.items in
    let args = c.args.args.now in
    let head = c.args.head.now in
    let first = c.args.first.now in
    let frame = c.loop-k.frame.items in
    let k = c.loop-k.k - 1 in
    let next : c.loop-k.k ≡ k + 1 = omega arith in
    let few = c.loop-k.invariant.few in
    let lt : k < length args = omega arith in
    let y_in : k < length head = omega arith in
    let i_in : k < length first = omega arith in
    let x = get_or args k 0 in
    let y = get_or head k 0 in
    let o = c.index.result.now in
    let x_in : x < length caller = c.requires.arguments k 0 lt in
    let is = read_is caller x o o x_in c.index.ensures refl in
    let y_fits : y < length frame = subst (λ n. y < n) (sym c.loop-k.invariant.size) (c.requires.head k 0 y_in) in
    record {
      few = omega arith;
      size = length-set frame y c.kept.result ∙ c.loop-k.invariant.size;
      enters = λ h. enter_down h frame head first (seen_at h caller args) k y (get_or first k 0) o y_in i_in (omega (arith, length-map args (bindings h caller))) refl refl (seen_var h caller args k x o lt refl is) c.loop-k.k c.kept.result next c.kept.ensures y_fits (c.loop-k.invariant.enters h);
      live = λ h live. live_set h frame y c.kept.result (c.loop-k.invariant.live h live) (subst (λ p. IfSome p (IsLive h)) (sym c.kept.ensures) (kept_holds (IsLive h) (get_or first k 0) o (subst (λ p. IfSome p (IsLive h)) is (live x None x_in))));
      held = λ P h held. held_set P h frame y c.kept.result (c.loop-k.invariant.held P h held) (subst (λ p. IfSome p (IsHeld P h)) (sym c.kept.ensures) (kept_holds (IsHeld P h) (get_or first k 0) o (subst (λ p. IfSome p (IsHeld P h)) is (held x None x_in))));
    }
