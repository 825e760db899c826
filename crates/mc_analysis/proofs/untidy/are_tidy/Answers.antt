use Rattle.std.proofs.Common.{◌↔◌, IsTrue, get_or, subst, ◌∙◌, arith}
use Rattle.mc_program.specs.PlainPrograms.{plain_program, plain_type}
use Rattle.mc_model.specs.Insts.{Graph}
use Rattle.mc_accepted.specs.Tidy.{Tidy}
use Rattle.mc_insts.specs.Graphs.{graph_of}
use Rattle.mc_analysis.proofs.Untidying.{past_types, untidy_at, one_more_tidy}
use Rattle.mc_analysis.proofs.untidy.are_tidy.Goals as goal

pub returns-then-k-types-clause-tidy : goal.returns-then-k-types-clause-tidy
returns-then-k-types-clause-tidy c =
    past_types (plain_program c.args.program.now) (graph_of c.args.insts.now) c.args.nodes.now c.args.types.now c.loop-k.k (omega arith) c.loop-k.invariant.tidy

pub returns-then-not-branch-clause-tidy : goal.returns-then-not-branch-clause-tidy
returns-then-not-branch-clause-tidy c =
    let P = plain_program c.args.program.now in
    let t = c.index-types-k.result in
    let k = c.loop-k.k in
    let answer = c.in_ok-is_tidy.field-0 in
    untidy_at P (graph_of c.args.insts.now) c.args.nodes.now c.args.types.now k t answer c.if-not-branch.true (omega arith) (omega arith) c.index-types-k.is
    (subst (λ (G : Graph). IsTrue answer ↔ Tidy P G (get_or c.args.nodes.now k 0) (plain_type t)) c.loop-k.invariant.graph (c.in_ok-is_tidy.ensures {u = tt}).tidy)

pub loop-k-preserved : goal.loop-k-preserved
loop-k-preserved c =
    let P = plain_program c.args.program.now in
    let t = c.index-types-k.result in
    let k = c.loop-k.k in
    record {
      program = c.is_tidy.ensures.program;
      graph = c.is_tidy.ensures.graph ∙ c.loop-k.invariant.graph;
      count = c.is_tidy.ensures.count ∙ c.loop-k.invariant.count;
      tidy =
          one_more_tidy P (graph_of c.args.insts.now) c.args.nodes.now c.args.types.now k t (omega arith) c.index-types-k.is
          (subst (λ (G : Graph). Tidy P G (get_or c.args.nodes.now k 0) (plain_type t)) c.loop-k.invariant.graph ((c.in_ok-is_tidy.ensures {u = tt}).tidy.0 c.if-not-branch.false))
          c.loop-k.invariant.tidy;
    }
