use Rattle.std.proofs.Common.{sym, ◌∙◌}
use Rattle.mc_typecheck.proofs.Numbering.{knows_same, knows_more}
use Rattle.mc_typecheck.proofs.numbers.Numbers.number.Goals as goal

pub returns-in-Some : goal.returns-in-Some
returns-in-Some c = λ r seen k. knows_same r seen c.args.self.now c.args.place c.in-Some.number k (sym c.in-Some.ensures)

pub returns : goal.returns
returns c = λ r seen k. knows_more r seen c.args.self.now c.next.new.self c.args.place c.in_ok-number.number k (sym c.slot.ensures ∙ c.in_default.is) c.in_ok-number.ensures
