use Rattle.std.proofs.Common.{◌≡◌, ◌↔◌, map, drop}
use Rattle.mc_program.specs.PlainPrograms.{plain_program, plain_type}
use Rattle.mc_insts.specs.Graphs.{graph_of, count_of}
use Rattle.mc_insts.specs.Kept.{AreOf}
use Rattle.mc_analysis.specs.Untidy.{AllTidy}
use Rattle.mc_analysis.proofs.asked.all_tidy.Given as goal

abbrev pub invariant-loop-mode : goal.invariant-loop-mode
invariant-loop-mode l = record {
  program : AreOf (plain_program l.program) l.insts;
  graph : graph_of l.insts ≡ graph_of l.fn.insts;
  count : count_of l.insts ≡ count_of l.fn.insts;
  rest :
      AllTidy (plain_program l.program) (graph_of l.fn.insts) (map plain_type l.types) (drop l.mode-index l.modes)
      ↔ AllTidy (plain_program l.program) (graph_of l.fn.insts) (map plain_type l.types) l.modes;
}
