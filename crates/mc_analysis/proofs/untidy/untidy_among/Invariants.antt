use Rattle.std.proofs.Common.{◌≡◌, map, take}
use Rattle.mc_program.specs.PlainPrograms.{plain_program, plain_type}
use Rattle.mc_insts.specs.Graphs.{graph_of, count_of}
use Rattle.mc_insts.specs.Kept.{AreOf}
use Rattle.mc_analysis.specs.Untidy.{ModesSay}
use Rattle.mc_analysis.proofs.untidy.untidy_among.Given as goal

abbrev pub invariant-loop-mode : goal.invariant-loop-mode
invariant-loop-mode l = record {
  program : AreOf (plain_program l.program) l.insts;
  graph : graph_of l.insts ≡ graph_of l.initial.insts;
  count : count_of l.insts ≡ count_of l.initial.insts;
  told : ModesSay (plain_program l.program) (graph_of l.initial.insts) (map plain_type l.types) (take l.mode-index l.modes) l.broken.items;
}
