use Rattle.std.proofs.Common.{◌≡◌, ◌≤◌, ℕ, List, length, map, refl, sym, subst, ap, ◌∙◌, arith}
use Rattle.mc_program.specs.PlainPrograms.{plain_program, plain_type}
use Rattle.mc_insts.specs.Graphs.{graph_of, count_of}
use Rattle.mc_mode_state.specs.Modes.{ModesFit}
use Rattle.mc_modes.specs.Signatures.{modes_at}
use Rattle.mc_analysis.proofs.Asking.{none_marked, one_marked, all_marked, tidy_at_by}
use Rattle.mc_analysis.proofs.asked.tidy_predicates.Goals as goal

pub loop-pred-init : goal.loop-pred-init
loop-pred-init c = record {
  program = c.requires.program;
  graph = refl;
  count = refl;
  marked = none_marked (plain_program c.args.program.now) (graph_of c.args.insts.now) c.args.sigs.now c.new-tidy.result.items c.new-tidy.ensures.items;
}

pub all_tidy-requires-clause-modes : goal.all_tidy-requires-clause-modes
all_tidy-requires-clause-modes c =
    subst (ModesFit (count_of c.loop-pred.insts)) (sym c.modes_at.ensures)
    (subst (λ (n : ℕ). ModesFit n (modes_at c.args.sigs.now c.loop-pred.pred)) (sym c.loop-pred.invariant.count) (c.requires.sigs c.loop-pred.pred))

pub loop-pred-preserved : goal.loop-pred-preserved
loop-pred-preserved c =
    let P = plain_program c.args.program.now in
    let G = graph_of c.args.insts.now in
    record {
      program = c.all_tidy.ensures.program;
      graph = c.all_tidy.ensures.graph ∙ c.loop-pred.invariant.graph;
      count = c.all_tidy.ensures.count ∙ c.loop-pred.invariant.count;
      marked =
          one_marked P G c.args.sigs.now c.loop-pred.pred c.loop-pred.tidy.items c.push.new.self.items c.in_ok-all_tidy.field-0 c.in_ok-push.ensures.items
          (tidy_at_by P G (graph_of c.loop-pred.insts) c.args.sigs.now c.loop-pred.pred c.in_ok-all_tidy.field-0 (map plain_type c.types_of-types.result.now) c.modes_at.result.now c.loop-pred.invariant.graph c.types_of-types.ensures c.modes_at.ensures (c.in_ok-all_tidy.ensures {u = tt}).tidy)
          c.loop-pred.invariant.marked;
    }

pub returns-clause-tidy : goal.returns-clause-tidy
returns-clause-tidy c =
    all_marked c.args.program.now (graph_of c.args.insts.now) c.args.sigs.now c.loop-pred.pred c.loop-pred.tidy.items
    (omega (arith, c.loop-pred-test.false, c.len-pred-end.ensures)) c.loop-pred.invariant.marked
