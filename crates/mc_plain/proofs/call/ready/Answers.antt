use Rattle.std.proofs.Common.{◌<◌, ◌+◌, ◌∙◌, Bool, false, length, get_or, drop, arith, refl, ap, sym}
use Rattle.std.specs.Prelude.{if◌then◌else◌}
use Rattle.std.proofs.lemmas.List.{length-map}
use Rattle.mc_model.specs.Stream.{ready}
use Rattle.mc_plain.specs.Frames.{bindings, seen_at}
use Rattle.mc_plain.proofs.Binding.{read_is}
use Rattle.mc_plain.proofs.FramesCalling.{ready_lengths, ready_step, seen_var}
use Rattle.mc_plain.proofs.call.ready.Goals as goal

pub returns-then-first-args : goal.returns-then-first-args
returns-then-first-args c h =
    sym (ready_lengths c.args.first.now (seen_at h c.args.caller.now.items c.args.args.now) (λ q. c.if-first-args.true (q ∙ length-map c.args.args.now (bindings h c.args.caller.now.items))))

pub returns-then-lacks : goal.returns-then-lacks
returns-then-lacks c h =
    let caller = c.args.caller.now.items in
    let args = c.args.args.now in
    let first = c.args.first.now in
    let k = c.loop-k.k in
    let lt : k < length args = omega arith in
    let within : k < length first = omega arith in
    let x = get_or args k 0 in
    let is = seen_var h caller args k x c.index.result.now lt refl (read_is caller x c.index.result.now c.index.result.now (c.requires k 0 lt) c.index.ensures refl) in
    sym (c.loop-k.invariant h
    ∙ ready_step h first (seen_at h caller args) k (get_or first k 0) c.index.result.now within (omega (arith, length-map args (bindings h caller))) refl is
    ∙ ap (λ (b : Bool). if b then false else ready (drop (k + 1) first) (drop (k + 1) (seen_at h caller args))) (sym c.lacks.ensures ∙ c.if-lacks.true))

pub loop-k-preserved : goal.loop-k-preserved
loop-k-preserved c h =
    let caller = c.args.caller.now.items in
    let args = c.args.args.now in
    let first = c.args.first.now in
    let k = c.loop-k.k in
    let lt : k < length args = omega arith in
    let within : k < length first = omega arith in
    let x = get_or args k 0 in
    let is = seen_var h caller args k x c.index.result.now lt refl (read_is caller x c.index.result.now c.index.result.now (c.requires k 0 lt) c.index.ensures refl) in
    c.loop-k.invariant h
    ∙ ready_step h first (seen_at h caller args) k (get_or first k 0) c.index.result.now within (omega (arith, length-map args (bindings h caller))) refl is
    ∙ ap (λ (b : Bool). if b then false else ready (drop (k + 1) first) (drop (k + 1) (seen_at h caller args))) (sym c.lacks.ensures ∙ c.if-lacks.false)
