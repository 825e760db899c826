use Rattle.std.proofs.Common.{◌≡◌, ◌∙◌, ◌+◌, ◌-◌, suc, [], ◌∷◌, ◌++◌, length, sym, ap, arith, append_assoc}
use Rattle.mc_model.specs.Lists.{from}
use Rattle.mc_modes.proofs.WaitingPlaces.{length-places, from-more}
use Rattle.mc_modes.proofs.places.push_between.Goals as goal

pub returns-in_err-push_back-clause-few : goal.returns-in_err-push_back-clause-few
returns-in_err-push_back-clause-few c =
    let i = c.loop-k.invariant in
    let first = c.args.first in
    omega (arith, i.from_first, i.to_end, ap length c.in_err-push_back.ensures.items, ap length i.numbers, length-places c.args.list.now.items first (c.loop-k.k - first))

pub loop-k-preserved : goal.loop-k-preserved
loop-k-preserved c =
    let i = c.loop-k.invariant in
    let first = c.args.first in
    let k = c.loop-k.k in
    let before = c.args.list.now.items in
    let one_more : suc (k - first) ≡ k + 1 - first = omega (arith, i.from_first) in
    record {
      numbers =
          c.in_ok-push_back.ensures.items
          ∙ (ap (λ xs. xs ++ k ∷ []) i.numbers
          ∙ (append_assoc before (from first (k - first)) (k ∷ [])
          ∙ ap (λ xs. before ++ xs) (sym (from-more first (k - first) k (omega (arith, i.from_first))) ∙ ap (from first) one_more)));
      from_first = omega (arith, i.from_first);
      to_end = omega (arith, c.loop-k-test.true);
    }

pub returns-clause-few : goal.returns-clause-few
returns-clause-few c =
    let i = c.loop-k.invariant in
    let first = c.args.first in
    omega (arith, i.from_first, i.to_end, ap length i.numbers, length-places c.args.list.now.items first (c.loop-k.k - first))
