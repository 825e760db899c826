use Rattle.std.proofs.Common.{◌≡◌, ℕ, sym, ap, subst, ◌∙◌}
use Rattle.std.proofs.lemmas.Result.{on_ok_weaker}
use Rattle.mc_insts.specs.declared.graph.Node.{Node}
use Rattle.mc_insts.specs.declared.graph.Shape.{Shape}
use Rattle.mc_insts.specs.code.Cases.{node_arg}
use Rattle.mc_insts.specs.code.OverArgs.{over_arg}
use Rattle.mc_insts.specs.code.Overs.{NodeWide, RowWide}
use Rattle.mc_insts.specs.code.Pushes.{triple_of}
use Rattle.mc_insts.specs.code.Walks.{scene, node_at, arity_of, child}
use Rattle.mc_insts.proofs.Scenes.{node_wide, row_wide}
use Rattle.mc_insts.proofs.Steps.{child_is}
use Rattle.mc_insts.proofs.TidyWalks.{seen_case}
use Rattle.mc_insts.proofs.graph.InstGraph.look_at_case.Goals as goal

pub see_all-requires-clause-insts : goal.see_all-requires-clause-insts
see_all-requires-clause-insts c =
    let C = scene c.args.self.now c.args.shapes.now in
    c.in-Some.ensures.2 c.args.arity (subst (λ n. NodeWide c.node.result.now c.args.functor n) (sym c.requires.arity) (subst (λ (K : Node). NodeWide K c.args.functor (arity_of C c.args.functor)) (sym c.node.ensures) (node_wide C c.requires.proper c.args.t.low c.args.functor)))

pub see_all-requires-clause-types : goal.see_all-requires-clause-types
see_all-requires-clause-types c =
    let C = scene c.args.self.now c.args.shapes.now in
    c.in-Some-over_row.ensures.2 c.args.arity (subst (λ n. RowWide c.row.result.now c.args.functor n) (sym c.requires.arity) (subst (λ (K : Shape). RowWide K c.args.functor (arity_of C c.args.functor)) (sym c.row.ensures) (row_wide C c.requires.proper c.args.t.row c.args.functor)))

pub returns-clause-seen : goal.returns-clause-seen
returns-clause-seen c =
    let C = scene c.args.self.now c.args.shapes.now in
    let t = c.args.t in
    let f = c.args.functor in
    let insts = c.in-Some.insts in
    let types = c.in-Some-over_row.types in
    let M = c.node.result.now in
    let highs : (k : ℕ) → over_arg insts k ≡ node_arg M t.high f k = λ k. c.in-Some.ensures.1 k ∙ ap (λ i. node_arg M i f k) c.requires.alone in
    let same : (k : ℕ) → child C t f k ≡ triple_of insts insts types k =
    child_is C t f insts insts types M M c.row.result.now c.node.ensures (c.node.ensures ∙ ap (node_at C.nodes) c.requires.alone) c.row.ensures c.in-Some.ensures.1 highs c.in-Some-over_row.ensures.1 in
    on_ok_weaker c.see_all.result (λ all counts. seen_case C t f c.args.arity (triple_of insts insts types) c.see_all.new.seen c.requires.arity same all) c.see_all.ensures.seen
