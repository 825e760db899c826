use Rattle.std.proofs.Common.{sym, ap, ◌∙◌}
use Rattle.mc_insts.specs.code.Cases.{marks}
use Rattle.mc_insts.specs.code.Walks.{node_at}
use Rattle.mc_insts.proofs.Nodes.{Inner}
use Rattle.mc_insts.proofs.Kept.{kept_high, kept_low, kept_free_low, kept_free_high, kept_dead_low, kept_dead_high}
use Rattle.mc_insts.proofs.graph.InstGraph.kept.Goals as goal

pub returns-in-Free : goal.returns-in-Free
returns-in-Free c = kept_free_low c.args.self.now c.args.shapes.now c.args.i c.args.j c.args.r c.requires.proper c.requires.distinct c.requires.builtins c.requires.low c.requires.high c.requires.row (sym c.node-low.ensures ∙ c.in-Free.is)

pub returns-in-Free-high : goal.returns-in-Free-high
returns-in-Free-high c = kept_free_high c.args.self.now c.args.shapes.now c.args.i c.args.j c.args.r c.requires.proper c.requires.distinct c.requires.builtins c.requires.low c.requires.high c.requires.row (sym c.node-high.ensures ∙ c.in-Free-high.is)

pub returns-in-Dead : goal.returns-in-Dead
returns-in-Dead c = kept_dead_low c.args.self.now c.args.shapes.now c.args.i c.args.j c.args.r c.requires.proper c.requires.distinct c.requires.builtins c.requires.low c.requires.high c.requires.row (ap marks (sym c.node-low.ensures ∙ c.in-Dead.is))

pub returns-in-Dead-high : goal.returns-in-Dead-high
returns-in-Dead-high c = kept_dead_high c.args.self.now c.args.shapes.now c.args.i c.args.j c.args.r c.requires.proper c.requires.distinct c.requires.builtins c.requires.low c.requires.high c.requires.row (ap marks (sym c.node-high.ensures ∙ c.in-Dead-high.is))

pub returns-then-branch : goal.returns-then-branch
returns-then-branch c =
    let m : Inner (node_at c.args.self.now.nodes c.args.i) = record { not_free = λ e. c.in_default.not-Free (c.node-low.ensures ∙ e); not_dead = λ e. c.in_default-low.not-Dead (c.node-low.ensures ∙ e) } in
    let k : Inner (node_at c.args.self.now.nodes c.args.j) = record { not_free = λ e. c.in_default-high.not-Free (c.node-high.ensures ∙ e); not_dead = λ e. c.in_default-high-2.not-Dead (c.node-high.ensures ∙ e) } in
    kept_high c.args.self.now c.args.shapes.now c.args.i c.args.j c.args.r c.requires.proper c.requires.distinct c.requires.builtins c.requires.low c.requires.high c.requires.row m k (c.in_ok-below.ensures.0 c.if-branch.true)

pub returns-then-branch-2 : goal.returns-then-branch-2
returns-then-branch-2 c =
    let m : Inner (node_at c.args.self.now.nodes c.args.i) = record { not_free = λ e. c.in_default.not-Free (c.node-low.ensures ∙ e); not_dead = λ e. c.in_default-low.not-Dead (c.node-low.ensures ∙ e) } in
    let k : Inner (node_at c.args.self.now.nodes c.args.j) = record { not_free = λ e. c.in_default-high.not-Free (c.node-high.ensures ∙ e); not_dead = λ e. c.in_default-high-2.not-Dead (c.node-high.ensures ∙ e) } in
    kept_low c.args.self.now c.args.shapes.now c.args.i c.args.j c.args.r c.requires.proper c.requires.distinct c.requires.builtins c.requires.low c.requires.high c.requires.row m k (c.in_ok-below-2.ensures.0 c.if-branch-2.true)

pub returns : goal.returns
returns c = record {
  inner = record {
    first_free = λ e. c.in_default.not-Free (c.node-low.ensures ∙ e);
    first_dead = λ e. c.in_default-low.not-Dead (c.node-low.ensures ∙ e);
    second_free = λ e. c.in_default-high.not-Free (c.node-high.ensures ∙ e);
    second_dead = λ e. c.in_default-high-2.not-Dead (c.node-high.ensures ∙ e);
  };
  not_first = λ h. let x = c.in_ok-below.ensures.1 h in let y = c.if-branch.false in cc;
  not_second = λ h. let x = c.in_ok-below-2.ensures.1 h in let y = c.if-branch-2.false in cc;
}
