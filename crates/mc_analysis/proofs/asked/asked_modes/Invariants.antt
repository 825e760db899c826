use Rattle.std.proofs.Common.{◌≡◌, take}
use Rattle.mc_program.specs.PlainPrograms.{plain_program}
use Rattle.mc_insts.specs.Graphs.{graph_of, count_of}
use Rattle.mc_insts.specs.Kept.{AreOf}
use Rattle.mc_modes.specs.Numbering.{mode_ids}
use Rattle.mc_analysis.specs.Untidy.{AreAsked}
use Rattle.mc_analysis.proofs.asked.asked_modes.Given as goal

abbrev pub invariant-loop-id : goal.invariant-loop-id
invariant-loop-id l = record {
  program : AreOf (plain_program l.program) l.insts;
  graph : graph_of l.insts ≡ graph_of l.fn.insts;
  count : count_of l.insts ≡ count_of l.fn.insts;
  asked : AreAsked (plain_program l.program) (graph_of l.fn.insts) l.sigs l.goals (take l.id-index (mode_ids l.program l.sigs)) l.asked.items;
}
