use Rattle.std.proofs.Common.{◌∙◌, sym}
use Rattle.mc_model.specs.Stream.{is_bound}
use Rattle.mc_accepted.specs.Arranged.{is_input}
use Rattle.mc_accepted.specs.NodeOracle.{of_nodes}
use Rattle.mc_procs.specs.Procedures.{source_of}
use Rattle.mc_mode_state.specs.States.{point_of}
use Rattle.mc_mode_state.proofs.CallOutcomes.{takes-by, takes-free}
use Rattle.mc_mode_state.proofs.state.State.takes.Goals as goal

pub returns-then-is_bound-clause-takes : goal.returns-then-is_bound-clause-takes
returns-then-is_bound-clause-takes c = λ declared C T a.
    takes-by (is_bound c.args.first)
    (is_input (of_nodes C) (source_of c.args.procs.now) declared T c.args.all.now (c.args.first, c.args.last) c.args.x (point_of c.args.self.now.insts.items))
    c.in_ok-takes.takes (sym c.is_bound.ensures ∙ c.if-is_bound.true) (c.in_ok-takes.ensures.takes declared C T a)

pub returns-clause-takes : goal.returns-clause-takes
returns-clause-takes c = λ declared C T a.
    takes-free (is_bound c.args.first)
    (is_input (of_nodes C) (source_of c.args.procs.now) declared T c.args.all.now (c.args.first, c.args.last) c.args.x (point_of c.args.self.now.insts.items))
    (sym c.is_bound.ensures ∙ c.if-is_bound.false)
