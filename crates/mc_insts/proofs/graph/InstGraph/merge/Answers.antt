use Rattle.std.proofs.Common.{refl}
use Rattle.mc_insts.specs.code.Walks.{scene, node_at}
use Rattle.mc_insts.specs.code.Answers.{Unkept}
use Rattle.mc_insts.proofs.Nodes.{Inner}
use Rattle.mc_insts.proofs.Kept.{grown, apart}
use Rattle.mc_insts.proofs.Results.{match_none}
use Rattle.mc_insts.proofs.graph.InstGraph.merge.Goals as goal

pub returns-clause-merge : goal.returns-clause-merge
returns-clause-merge c =
    let u : Unkept (scene c.args.self.now c.args.shapes.now) c.args.i c.args.j c.args.r = match_none _ _ c.in_ok-k.field-0 c.in_default.is c.in_ok-k.ensures in
    let m : Inner (node_at c.args.self.now.nodes c.args.i) = record { not_free = u.inner.first_free; not_dead = u.inner.first_dead } in
    let k : Inner (node_at c.args.self.now.nodes c.args.j) = record { not_free = u.inner.second_free; not_dead = u.inner.second_dead } in
    grown c.args.self.now c.args.shapes.now c.args.i c.args.j c.args.r c.requires.proper c.requires.distinct c.requires.builtins c.requires.low c.requires.high c.requires.row c.in_ok-stands.field-0.nodes c.in_ok-stands.field-0.stands c.in_ok-stands.ensures m k (record { functors = c.args.self.now.functors; nodes = c.append.new.row }) refl c.in_ok-append.ensures.ok

pub returns-clause-same : goal.returns-clause-same
returns-clause-same c =
    let u : Unkept (scene c.args.self.now c.args.shapes.now) c.args.i c.args.j c.args.r = match_none _ _ c.in_ok-k.field-0 c.in_default.is c.in_ok-k.ensures in
    λ P type rows h. absurd (apart c.args.self.now c.args.shapes.now c.args.i c.args.j c.args.r c.requires.proper c.requires.distinct c.requires.builtins c.requires.low c.requires.high c.requires.row u P type rows h)
