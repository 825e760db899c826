use Rattle.std.proofs.Common.{◌≡◌, true, false, sym, ◌∙◌, arith}
use Rattle.std.specs.Str.{bytes_eq}
use Rattle.std.proofs.lemmas.Slice.Eq.{bytes_eq-Decides}
use Rattle.mc_names.proofs.Places.{place_here, place_there}
use Rattle.mc_names.proofs.parameters.place_of.Goals as goal

pub returns-then-eq : goal.returns-then-eq
returns-then-eq c =
    let same : c.bytes.result.now ≡ c.args.name.now =
    (bytes_eq-Decides c.bytes.result.now c.args.name.now).0 (sym c.eq.ensures ∙ c.if-eq.true)
    in
    let here =
    place_here c.args.name.now c.known-item.result c.args.names.now c.loop-known.known-index
    c.loop-known-test.true c.known-item.is (sym c.bytes.ensures.items ∙ same)
    in
    omega (arith, here, c.loop-known.invariant.0, c.loop-known.invariant.1)

pub loop-known-preserved : goal.loop-known-preserved
loop-known-preserved c =
    let there =
    place_there c.args.name.now c.known-item.result c.args.names.now c.loop-known.known-index
    c.loop-known-test.true c.known-item.is
    (λ e.
    let found : bytes_eq c.bytes.result.now c.args.name.now ≡ true =
    (bytes_eq-Decides c.bytes.result.now c.args.name.now).1 (c.bytes.ensures.items ∙ e)
    in
    let clash : true ≡ false = sym found ∙ sym c.eq.ensures ∙ c.if-eq.false in
    cc)
    in
    (omega (arith, c.loop-known.invariant.0), omega (arith, there, c.loop-known.invariant.1))
