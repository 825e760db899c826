use Rattle.std.proofs.Common.{subst}
use Rattle.mc_insts.specs.code.Steps.{same_of}
use Rattle.mc_insts.specs.code.Walks.{scene, node_at, Within}
use Rattle.mc_insts.proofs.Bridge.{more_by_paths, below_by_paths}
use Rattle.mc_insts.proofs.Results.{if_ok}
use Rattle.mc_insts.proofs.Nodes.{Inner, included_to, included_from}
use Rattle.mc_insts.proofs.graph.InstGraph.includes.Goals as goal

pub returns-in_default : goal.returns-in_default
returns-in_default c =
    let C = scene c.args.self.now c.args.shapes.now in
    let t = same_of c.args.i c.args.j c.args.r in
    let w : Within C t = record { low = c.requires.low; high = c.requires.high; row = c.requires.row } in
    let m : Inner (node_at C.nodes c.args.i) = subst Inner c.node.ensures (record { not_free = c.in_default.not-Free-0; not_dead = c.in_default.not-Dead-0 }) in
    let k : Inner (node_at C.nodes c.args.j) = subst Inner c.node-2.ensures (record { not_free = c.in_default.not-Free-1; not_dead = c.in_default.not-Dead-1 }) in
    if_ok _ _ c.below.result
    (λ b h P type rows. (
      λ e. included_from C.functors (node_at C.nodes c.args.i) (node_at C.nodes c.args.j) _ m k (λ path tip a. more_by_paths P C type c.requires.proper c.requires.distinct rows path tip t w (h.0 e) a),
      λ i. h.1 (λ n. below_by_paths P C type c.requires.proper c.requires.distinct rows n t w (included_to C.functors (node_at C.nodes c.args.i) (node_at C.nodes c.args.j) _ m k i)),
    ))
    c.below.ensures
