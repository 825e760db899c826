use Rattle.std.proofs.Common.{◌<◌, length, get_or, sym, ap, subst, ◌∙◌, arith}
use Rattle.std.specs.Prelude.{All}
use Rattle.mc_values.specs.Heap.{IsLive, values_at}
use Rattle.mc_values.specs.declared.heap.Heap.{Heap}
use Rattle.mc_plain.proofs.Looking.{one_more_live, one_more_value}
use Rattle.mc_plain.proofs.begin.constants_of.Goals as goal

pub loop-value-preserved : goal.loop-value-preserved
loop-value-preserved c =
    let k : Heap = c.constant.new.heap in
    let within : c.loop-value.value-index < length c.args.values.now.items = omega arith in
    record {
      live = subst (All (IsLive k)) (sym c.in_ok-push.ensures.items) (one_more_live c.loop-value.heap k c.in_ok-found.ensures.keeps c.loop-value.refs.items c.loop-value.invariant.live c.in_ok-found.found c.args.values.now.items c.loop-value.value-index c.value-item.result c.in_ok-found.ensures.ok);
      values = ap (values_at k) c.in_ok-push.ensures.items ∙ one_more_value c.loop-value.heap k c.in_ok-found.ensures.keeps c.loop-value.refs.items c.loop-value.invariant.live c.in_ok-found.found c.args.values.now.items c.loop-value.value-index c.value-item.result c.in_ok-found.ensures.ok within (ap (λ l. get_or l c.loop-value.value-index c.value-item.result) (sym c.deref-value-items.ensures.value) ∙ sym c.value-item.is) c.loop-value.invariant.values;
    }
