use Rattle.std.proofs.Common.{◌≡◌}
use Rattle.mc_program.specs.PlainPrograms.{plain_program}
use Rattle.mc_insts.specs.Graphs.{graph_of, count_of}
use Rattle.mc_insts.specs.Kept.{AreOf}
use Rattle.mc_analysis.proofs.Asking.{MarksTo}
use Rattle.mc_analysis.proofs.asked.tidy_predicates.Given as goal

abbrev pub invariant-loop-pred : goal.invariant-loop-pred
invariant-loop-pred l = record {
  program : AreOf (plain_program l.program) l.insts;
  graph : graph_of l.insts ≡ graph_of l.fn.insts;
  count : count_of l.insts ≡ count_of l.fn.insts;
  marked : MarksTo (plain_program l.program) (graph_of l.fn.insts) l.sigs l.pred l.tidy.items;
}
