use Rattle.std.proofs.Common.{ap, sym, ◌∙◌, subst, map, arith, ◌<◌}
use Rattle.std.specs.List.{All}
use Rattle.mc_values.specs.Heap.{IsLive, IsBelow, value_at}
use Rattle.mc_values.specs.Parts.{arguments}
use Rattle.mc_values.proofs.Arguments.{arguments-cell, args_named, live_below}
use Rattle.mc_values.proofs.heap.Heap.args.Goals as goal

pub returns-clause-values : goal.returns-clause-values
returns-clause-values c =
    ap (map (value_at c.args.self.now)) c.args-2.ensures.refs ∙ sym (arguments-cell (value_at c.args.self.now) _) ∙ sym (ap arguments c.cell.ensures.value)

pub returns-clause-live : goal.returns-clause-live
returns-clause-live c =
    subst (λ l. All (IsLive c.args.self.now) l) (sym c.args-2.ensures.refs) (live_below _ c.args.r _ c.requires (args_named (λ a. a < c.args.r) c.cell.result.now c.cell.ensures.below))

pub returns-clause-below : goal.returns-clause-below
unfolding IsBelow
returns-clause-below c mark lt =
    subst (λ l. All (IsBelow mark) l) (sym c.args-2.ensures.refs) (λ k d within. let b = args_named (λ a. a < c.args.r) c.cell.result.now c.cell.ensures.below k d within in omega arith)
