use Rattle.std.proofs.Common.{◌≡◌, true, false, sym, ◌∙◌, arith}
use Rattle.std.specs.Str.{bytes_eq}
use Rattle.std.proofs.lemmas.Slice.Eq.{bytes_eq-Decides}
use Rattle.mc_names.proofs.Modules.{module_here, module_later}
use Rattle.mc_names.proofs.homes.module_named.Goals as goal

pub returns-then-eq : goal.returns-then-eq
returns-then-eq c =
    let same : c.bytes.result.now ≡ c.args.name.now =
    (bytes_eq-Decides c.bytes.result.now c.args.name.now).0 (sym c.eq.ensures ∙ c.if-eq.true)
    in
    sym
    (module_here c.loop-scope.number c.args.name.now c.args.scopes.now c.loop-scope.scope-index
    c.scope-item.result c.loop-scope-test.true c.scope-item.is
    (sym c.bytes.ensures.items ∙ same))
    ∙ c.loop-scope.invariant.1

pub loop-scope-preserved : goal.loop-scope-preserved
loop-scope-preserved c =
    let later =
    module_later c.loop-scope.number c.args.name.now c.args.scopes.now
    c.loop-scope.scope-index c.scope-item.result c.loop-scope-test.true c.scope-item.is
    (λ e.
    let found : bytes_eq c.bytes.result.now c.args.name.now ≡ true =
    (bytes_eq-Decides c.bytes.result.now c.args.name.now).1 (c.bytes.ensures.items ∙ e)
    in
    let clash : true ≡ false = sym found ∙ sym c.eq.ensures ∙ c.if-eq.false in
    cc)
    in
    (omega (arith, c.loop-scope.invariant.0), sym later ∙ c.loop-scope.invariant.1)
