use Rattle.std.proofs.Common.{◌≡◌, ◌∙◌, ◌<◌, ℕ, Vec, Global, length, Some, ap, sym, subst, arith}
use Rattle.mc_model.specs.Scheduled as S
use Rattle.mc_accepted.specs.Arranged.{Point, with_inst, one, took}
use Rattle.mc_accepted.specs.NodeOracle.{of_nodes}
use Rattle.mc_procs.specs.Named.{NumbersBelow}
use Rattle.mc_procs.specs.Procedures.{source_of}
use Rattle.mc_mode_state.specs.States.{point_of}
use Rattle.mc_mode_state.specs.Agreeing.{LaterByTrail}
use Rattle.mc_mode_state.specs.code.Taking.{take_each}
use Rattle.mc_mode_state.proofs.Ahead.{agrees-before}
use Rattle.mc_mode_state.proofs.Steps.{stepped-set, stepped-trans}
use Rattle.mc_mode_state.proofs.MadeOutcomes.{taken-each}
use Rattle.mc_mode_state.proofs.state.State.take_as.Goals as goal

pub set-requires : goal.set-requires
set-requires c = subst (λ (v : Vec ℕ Global). c.args.x < length v.items) (sym c.in_ok-inst.ensures.insts) c.requires.variables.0

pub take_each-requires-clause-variables : goal.take_each-requires-clause-variables
take_each-requires-clause-variables c =
    subst (λ n. NumbersBelow n c.args.ys.now) (sym (c.in_ok-set.ensures.count ∙ ap (λ (v : Vec ℕ Global). length v.items) c.in_ok-inst.ensures.insts)) c.requires.variables.1

pub returns-clause-count : goal.returns-clause-count
returns-clause-count c = c.in_ok-take_each.ensures.count ∙ (c.in_ok-set.ensures.count ∙ ap (λ (v : Vec ℕ Global). length v.items) c.in_ok-inst.ensures.insts)

pub returns-clause-stepped : goal.returns-clause-stepped
returns-clause-stepped c =
    let q = c.args.procs.now in
    let r = c.over.new.procs in
    let s = c.args.self.now in
    let u = c.over.new.self in
    let v = c.set.new.self in
    let t = c.take_each.new.self in
    let o = c.in_ok-inst.ensures in
    let e = c.in_ok-set.ensures in
    let h : c.args.x < length u.insts.items = subst (λ (w : Vec ℕ Global). c.args.x < length w.items) (sym o.insts) c.requires.variables.0 in
    let set : LaterByTrail r r u v = stepped-set r u v c.args.x c.in_ok-inst.inst o.stepped.moved.stands h o.there e.point e.trail e.count e.outside e.types e.nodes in
    let more = o.stepped.moved.nodes.grown.more in
    let each : LaterByTrail r r v t = c.in_ok-take_each.ensures.stepped r set.moved.stands (λ n l. let a = c.requires.insts n l in omega arith) in
    stepped-trans q r r s u t o.stepped (stepped-trans r r r u v t set each)

pub returns-clause-took : goal.returns-clause-took
returns-clause-took c = λ declared C T a.
    let q = c.args.procs.now in
    let r = c.over.new.procs in
    let s = c.args.self.now in
    let u = c.over.new.self in
    let v = c.set.new.self in
    let t = c.take_each.new.self in
    let x = c.args.x in
    let f = c.args.symbol in
    let ys = c.args.ys.now in
    let is = c.args.insts.now in
    let b = point_of s.insts.items in
    let n = length s.insts.items in
    let i = c.in_ok-inst.inst in
    let o = c.in_ok-inst.ensures in
    let e = c.in_ok-set.ensures in
    let h : x < length u.insts.items = subst (λ (w : Vec ℕ Global). x < length w.items) (sym o.insts) c.requires.variables.0 in
    let set : LaterByTrail r r u v = stepped-set r u v x i o.stepped.moved.stands h o.there e.point e.trail e.count e.outside e.types e.nodes in
    let more = o.stepped.moved.nodes.grown.more in
    let each : LaterByTrail r r v t = c.in_ok-take_each.ensures.stepped r set.moved.stands (λ m l. let k = c.requires.insts m l in omega arith) in
    let both : LaterByTrail r r u t = stepped-trans r r r u v t set each in
    let point : point_of v.insts.items ≡ with_inst ℕ x i b = e.point ∙ ap (λ (w : Vec ℕ Global). with_inst ℕ x i (point_of w.items)) o.insts in
    ap (took (of_nodes C) (source_of q) declared T x f ys is n b) (o.found C T (agrees-before r r u t C T o.stepped.moved.stands both.moved a))
    ∙ ap (λ (d : Point ℕ). one (of_nodes C) b (S.Take x f ys) (Some d) n)
    (taken-each C (source_of q) declared T ys is (with_inst ℕ x i b) ∙ (ap (take_each ys is) (sym point) ∙ sym c.in_ok-take_each.ensures.point))
