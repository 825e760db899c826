use Rattle.std.proofs.Common.{◌≡◌, map}
use Rattle.mc_program.specs.PlainPrograms.{plain_program, plain_type}
use Rattle.mc_insts.specs.Graphs.{graph_of, count_of}
use Rattle.mc_insts.specs.Kept.{AreOf}
use Rattle.mc_analysis.proofs.Untidying.{TidyTo}
use Rattle.mc_analysis.proofs.untidy.are_tidy.Given as goal

abbrev pub invariant-loop-k : goal.invariant-loop-k
invariant-loop-k l = record {
  program : AreOf (plain_program l.program) l.insts;
  graph : graph_of l.insts ≡ graph_of l.initial.insts;
  count : count_of l.insts ≡ count_of l.initial.insts;
  tidy : TidyTo (plain_program l.program) (graph_of l.initial.insts) l.nodes (map plain_type l.types) l.k;
}
