use Rattle.std.proofs.Common.{◌≡◌, ◌<◌, ◌∙◌, None, map, length, get_or, arith, rules, refl, ap, sym, subst}
use Rattle.std.specs.Prelude.{min, IfSome}
use Rattle.mc_program.specs.Values.{plain_value}
use Rattle.mc_values.specs.Heap.{IsLive}
use Rattle.mc_model.specs.Stream.{leave}
use Rattle.mc_plain.specs.Frames.{bindings, seen}
use Rattle.mc_plain.specs.code.Steps.{kept}
use Rattle.mc_plain.proofs.Binding.{read_is}
use Rattle.mc_plain.proofs.FramesCalling.{left_at, length-leave, kept_holds, put_behind, all_put, if_row}
use Rattle.mc_plain.proofs.call.answer.Goals as goal

pub put_value-requires : goal.put_value-requires
put_value-requires c =
    let h = c.args.heap.now in
    let frame = c.args.frame.now.items in
    let k = c.loop-k.k in
    let m : c.min-count.result ≡ min (length c.args.head.now) (length c.args.last.now) = search rules in
    let y_in : k < length c.args.head.now = omega arith in
    let y = get_or c.args.head.now k 0 in
    let y_fits = c.requires.head k 0 y_in in
    let is = read_is frame y c.index.result.now c.index.result.now y_fits c.index.ensures refl in
    subst (λ p. IfSome p (IsLive h)) (sym c.kept.ensures) (kept_holds (IsLive h) (get_or c.args.last.now k 0) c.index.result.now (subst (λ p. IfSome p (IsLive h)) is (c.requires.frame y None y_fits)))

pub loop-k-preserved : goal.loop-k-preserved
loop-k-preserved c =
    let h = c.args.heap.now in
    let frame = c.args.frame.now.items in
    let head = c.args.head.now in
    let last = c.args.last.now in
    let k = c.loop-k.k in
    let m : c.min-count.result ≡ min (length head) (length last) = search rules in
    let y_in : k < length head = omega arith in
    let i_in : k < length last = omega arith in
    let y = get_or head k 0 in
    let is = read_is frame y c.index.result.now c.index.result.now (c.requires.head k 0 y_in) c.index.ensures refl in
    let at = left_at h frame head last k y (get_or last k 0) c.kept.result c.kept.result y_in i_in refl refl (c.kept.ensures ∙ ap (kept (get_or last k 0)) (sym is)) refl in
    put_behind (leave head last (bindings h frame)) k (seen h c.kept.result) (map plain_value c.loop-k.values.items) (map plain_value c.put_value.new.values.items) _
    (omega (arith, length-leave head last (bindings h frame))) at (c.in_ok-put_value.ensures {u = tt}) c.loop-k.invariant

pub returns : goal.returns
returns c =
    let e = bindings c.args.heap.now c.args.frame.now.items in
    let m : c.min-count.result ≡ min (length c.args.head.now) (length c.args.last.now) = search rules in
    if_row c.of.result c.loop-k.values.items _ c.of.ensures.elements
    (all_put (leave c.args.head.now c.args.last.now e) c.loop-k.k (map plain_value c.loop-k.values.items) _ (omega (arith, length-leave c.args.head.now c.args.last.now e)) c.loop-k.invariant)
