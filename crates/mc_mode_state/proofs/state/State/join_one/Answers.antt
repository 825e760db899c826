use Rattle.std.proofs.Common.{◌∙◌, ◌<◌, ℕ, Vec, Global, Some, length, sym, ap, subst, arith}
use Rattle.mc_accepted.specs.Arranged.{Point}
use Rattle.mc_mode_state.specs.States.{point_of}
use Rattle.mc_mode_state.proofs.Ahead.{agrees-before}
use Rattle.mc_mode_state.proofs.Steps.{stepped-trans}
use Rattle.mc_mode_state.proofs.EndColumns.{step-after, with-at, with-others}
use Rattle.mc_mode_state.proofs.state.State.join_one.Goals as goal

pub joined-requires-clause-variable : goal.joined-requires-clause-variable
joined-requires-clause-variable c = omega (arith, c.requires.variable, c.requires.stands.even.types)

pub set-requires : goal.set-requires
set-requires c = subst (λ (n : ℕ). c.args.x < n) (sym (ap (λ (v : Vec ℕ Global). length v.items) c.in_ok-node.ensures.insts)) c.requires.variable

pub returns-clause-found : goal.returns-clause-found
returns-clause-found c = λ C T a.
    let r = c.joined.new.procs in
    let t = c.joined.new.self in
    let u = c.set.new.self in
    let e = c.in_ok-node.ensures in
    let f = c.in_ok-set.ensures in
    let m = step-after c.args.procs.now r c.args.self.now t u c.args.x c.in_ok-node.node e.stepped e.insts c.requires.variable e.there f.point f.trail f.count f.outside f.types f.nodes in
    e.found C T (agrees-before r r t u C T e.stepped.moved.stands m.moved a)
    ∙ ap Some (sym (ap (λ (b : Point ℕ). b c.args.x) f.point ∙ with-at (point_of t.insts.items) c.args.x c.in_ok-node.node))

pub returns-clause-others : goal.returns-clause-others
returns-clause-others c = λ y h.
    ap (λ (b : Point ℕ). b y) c.in_ok-set.ensures.point
    ∙ (with-others (point_of c.joined.new.self.insts.items) c.args.x c.in_ok-node.node y h
    ∙ ap (λ (v : Vec ℕ Global). point_of v.items y) c.in_ok-node.ensures.insts)

pub returns-clause-count : goal.returns-clause-count
returns-clause-count c = c.in_ok-set.ensures.count ∙ ap (λ (v : Vec ℕ Global). length v.items) c.in_ok-node.ensures.insts

pub returns-clause-stepped : goal.returns-clause-stepped
returns-clause-stepped c =
    let q = c.args.procs.now in
    let r = c.joined.new.procs in
    let s = c.args.self.now in
    let t = c.joined.new.self in
    let u = c.set.new.self in
    let e = c.in_ok-node.ensures in
    let f = c.in_ok-set.ensures in
    stepped-trans q r r s t u e.stepped (step-after q r s t u c.args.x c.in_ok-node.node e.stepped e.insts c.requires.variable e.there f.point f.trail f.count f.outside f.types f.nodes)
