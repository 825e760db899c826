use Rattle.std.proofs.Common.{◌≡◌, ℕ, ◌<◌, false, true, length, sym, ◌∙◌, subst, arith}
use Rattle.mc_program.specs.Programs.{Source}
use Rattle.mc_program.specs.PlainPrograms.{plain_program}
use Rattle.mc_insts.proofs.Found.{by_order}
use Rattle.mc_self_check.specs.code.Constructors.{TypeFits}
use Rattle.mc_self_check.proofs.Distinct.{isnt, of_type, type_read}
use Rattle.mc_self_check.proofs.constructors.constructors_fit.Goals as goal

pub returns-then-not-fits : goal.returns-then-not-fits
returns-then-not-fits c = isnt (λ fits.
    let P = c.args.program.now in
    let k : ℕ = c.loop-u.u in
    let there : k < length P.types = omega (arith, c.len-u-end.ensures) in
    let read = c.as_slice-in-loop-u.ensures.items ∙ type_read P k c.get.result.now there c.get.ensures in
    let t = c.in_ok-fits.ensures.1 (subst (TypeFits (plain_program P) k) (sym read) (of_type P k fits)) in
    let x : false ≡ true = sym c.if-not-fits.true ∙ t in cc)

pub loop-u-preserved : goal.loop-u-preserved
loop-u-preserved c = λ u lt.
    let P = c.args.program.now in
    let S : Source = plain_program P in
    let k : ℕ = c.loop-u.u in
    let there : k < length P.types = omega (arith, c.len-u-end.ensures) in
    let read = c.as_slice-in-loop-u.ensures.items ∙ type_read P k c.get.result.now there c.get.ensures in
    by_order u k
    (λ x. c.loop-u.invariant u x)
    (λ e. subst (λ v. TypeFits S v (S.symbols_of v)) (sym e) (subst (TypeFits S k) read (c.in_ok-fits.ensures.0 c.if-not-fits.false)))
    (λ x. absurd (omega arith))
