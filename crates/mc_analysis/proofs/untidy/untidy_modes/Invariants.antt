use Rattle.std.proofs.Common.{◌≡◌, take}
use Rattle.mc_program.specs.PlainPrograms.{plain_program}
use Rattle.mc_insts.specs.Graphs.{graph_of, count_of}
use Rattle.mc_insts.specs.Kept.{AreOf}
use Rattle.mc_analysis.specs.Untidy.{AreUntidy}
use Rattle.mc_analysis.proofs.untidy.untidy_modes.Given as goal

abbrev pub invariant-loop-sig : goal.invariant-loop-sig
invariant-loop-sig l = record {
  program : AreOf (plain_program l.program) l.insts;
  graph : graph_of l.insts ≡ graph_of l.initial.insts;
  count : count_of l.insts ≡ count_of l.initial.insts;
  told : AreUntidy (plain_program l.program) (graph_of l.initial.insts) (take l.sig-index l.sigs) l.broken.items;
}
