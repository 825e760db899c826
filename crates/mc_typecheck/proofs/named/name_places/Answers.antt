use Rattle.std.proofs.Common.{◌<◌, length, get_or, sym, refl, arith, ◌∙◌}
use Rattle.std.proofs.lemmas.List.{get_or_read, get_or_default}
use Rattle.mc_typecheck.proofs.Naming.{places_first, places_more, places_named}
use Rattle.mc_typecheck.proofs.named.name_places.Goals as goal

pub loop-k-init : goal.loop-k-init
loop-k-init c = (refl, places_first c.args.types.now.items c.args.signature.now.types.items c.args.places.now)

pub loop-k-preserved : goal.loop-k-preserved
loop-k-preserved c =
    let k = c.loop-k.k in
    let types = c.args.signature.now.types in
    let lt : k < length types.items = omega (arith, c.if-len-places.false, c.len.ensures, types.ok) in (
      c.name_place.ensures.as_many ∙ c.loop-k.invariant.0,
      places_more c.args.types.now.items c.loop-k.types.items types.items c.args.places.now k c.loop-k.invariant.1
          c.index.result.now (get_or c.args.places.now k 0)
          (λ d. sym (get_or_read types.items k c.index.result.now lt c.index.ensures d))
          (λ e. get_or_default c.args.places.now k e 0 (omega (arith, c.loop-k-test.true)))
          c.name_place.new.types.items (c.if-not-name_place.ensures.named refl),
    )

pub returns-clause-named : goal.returns-clause-named
returns-clause-named c = λ yes.
    places_named c.args.types.now.items c.loop-k.types.items c.args.signature.now c.args.places.now c.loop-k.k (omega arith) (omega arith) c.loop-k.invariant.1
