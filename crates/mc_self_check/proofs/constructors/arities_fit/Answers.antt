use Rattle.std.proofs.Common.{◌≡◌, length, sym, ◌∙◌, subst, arith}
use Rattle.mc_insts.proofs.Found.{by_order}
use Rattle.mc_self_check.proofs.Distinct.{ArityFits, isnt, arity_at, arity_of}
use Rattle.mc_self_check.proofs.constructors.arities_fit.Goals as goal

pub returns-then-symbol-len : goal.returns-then-symbol-len
returns-then-symbol-len c = isnt (λ all.
    let ss = c.args.symbols.now in
    let d = c.symbol-item.result in
    let a : d.name.arity ≡ length d.args = arity_of ss c.loop-symbol.symbol-index d (omega arith) c.symbol-item.is (all c.loop-symbol.symbol-index) in
    omega (arith, a, c.if-symbol-len.true, c.len.ensures))

pub loop-symbol-preserved : goal.loop-symbol-preserved
loop-symbol-preserved c = λ s lt.
    let ss = c.args.symbols.now in
    let d = c.symbol-item.result in
    let a : d.name.arity ≡ length d.args = omega (arith, c.if-symbol-len.false, c.len.ensures) in
    by_order s c.loop-symbol.symbol-index
    (λ x. c.loop-symbol.invariant s x)
    (λ e. subst (ArityFits ss) (sym e) (arity_at ss c.loop-symbol.symbol-index d (omega arith) c.symbol-item.is a))
    (λ x. absurd (omega arith))
