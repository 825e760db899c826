use Rattle.std.proofs.Common.{◌∙◌, sym, arith}
use Rattle.mc_type_phase.proofs.Sights.{alike_past_of, alike_named}
use Rattle.mc_type_phase.proofs.alike.is_alike.Goals as goal

pub returns-then-number-len : goal.returns-then-number-len
returns-then-number-len c =
    λ yes.
    alike_past_of c.args.names.now c.args.own c.args.other c.args.number
    (omega (arith, c.if-number-len.true, c.len.ensures))

pub returns-then-not-is_equivalence : goal.returns-then-not-is_equivalence
returns-then-not-is_equivalence c =
    λ yes.
    alike_named c.args.names.now c.args.own c.args.other c.args.number c.get.result.now
    (omega (arith, c.if-number-len.false, c.len.ensures)) c.get.ensures
    (sym c.is_equivalence.ensures ∙ c.if-not-is_equivalence.true)
