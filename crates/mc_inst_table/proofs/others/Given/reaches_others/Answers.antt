use Rattle.std.proofs.Common.{◌≡◌, ◌<◌, true, false, arith}
use Rattle.mc_inst_table.proofs.Sizing.{found_shared, found_spoiled, none_found}
use Rattle.mc_inst_table.proofs.others.Given.reaches_others.Goals as goal

pub returns : goal.returns
returns c l are = (
  λ h. (let clash : false ≡ true = h in cc),
  λ others.
      absurd
      (none_found l c.args.self.now c.args.number are
      (λ p below.
      let within : p < c.loop-parameter.parameter =
      omega (arith, below, c.loop-parameter-test.false, c.number_at-parameter-end.ensures)
      in
      c.loop-parameter.invariant p within)
      others),
)
