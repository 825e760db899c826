use Rattle.std.proofs.Common.{◌∙◌, ◌<◌, ℕ, true, Vec, Global, length, Some, ap, sym, subst, arith}
use Rattle.mc_model.specs.Scheduled as S
use Rattle.mc_accepted.specs.Arranged.{with_inst, built}
use Rattle.mc_accepted.specs.NodeOracle.{of_nodes}
use Rattle.mc_procs.specs.Procedures.{source_of}
use Rattle.mc_mode_state.specs.States.{point_of}
use Rattle.mc_mode_state.specs.Agreeing.{LaterByTrail}
use Rattle.mc_mode_state.proofs.Ahead.{agrees-before}
use Rattle.mc_mode_state.proofs.Steps.{stepped-set, stepped-trans}
use Rattle.mc_mode_state.proofs.AtomOutcomes.{alike-one, none-fresh, runs-one}
use Rattle.mc_mode_state.proofs.state.State.build.Goals as goal

pub building-requires : goal.building-requires
building-requires c =
    let q = c.args.procs.now in
    let r = c.over_these.new.procs in
    let s = c.args.self.now in
    let u = c.over_these.new.self in
    let t = c.set.new.self in
    let o = c.in_ok-inst.ensures in
    let e = c.in_ok-set.ensures in
    let h : c.args.x < length u.insts.items = subst (λ (v : Vec ℕ Global). c.args.x < length v.items) (sym o.insts) c.requires.variables.0 in
    let set : LaterByTrail r r u t = stepped-set r u t c.args.x c.in_ok-inst.inst o.stepped.moved.stands h o.there e.point e.trail e.count e.outside e.types e.nodes in
    set.moved.stands.trail

pub returns-clause-ran : goal.returns-clause-ran
returns-clause-ran c = λ declared.
    let q = c.args.procs.now in
    let r = c.over_these.new.procs in
    let s = c.args.self.now in
    let u = c.over_these.new.self in
    let t = c.set.new.self in
    let x = c.args.x in
    let f = c.args.symbol in
    let ys = c.args.ys.now in
    let b = point_of s.insts.items in
    let n = length s.insts.items in
    let i = c.in_ok-inst.inst in
    let o = c.in_ok-inst.ensures in
    let e = c.in_ok-set.ensures in
    let p = c.in_ok-part.ensures in
    let h : x < length u.insts.items = subst (λ (v : Vec ℕ Global). x < length v.items) (sym o.insts) c.requires.variables.0 in
    let set : LaterByTrail r r u t = stepped-set r u t x i o.stepped.moved.stands h o.there e.point e.trail e.count e.outside e.types e.nodes in
    let step : LaterByTrail q r s t = stepped-trans q r r s u t o.stepped set in
    record {
      outcome = λ C T a.
          ap (built (of_nodes C) (source_of q) declared T x f ys n b) (o.found C T (agrees-before r r u t C T o.stepped.moved.stands set.moved a))
          ∙ runs-one C c.in_ok-part.part s t (S.Build x f ys) (Some (with_inst ℕ x i b)) n true
          (p.goals s step.later.leads (omega (arith, c.len-trail.ensures, c.args.self.now.trail.ok.0)))
          p.reachable p.freshened
          (ap Some (sym (e.point ∙ ap (λ (v : Vec ℕ Global). with_inst ℕ x i (point_of v.items)) o.insts)))
          (sym (e.count ∙ ap (λ (v : Vec ℕ Global). length v.items) o.insts));
      fresh = none-fresh (length t.insts.items) c.in_ok-part.part.freshened.items p.freshened;
      stepped = step;
    }

pub returns-clause-alike : goal.returns-clause-alike
returns-clause-alike c = λ T next same.
    let q = c.args.procs.now in
    let r = c.over_these.new.procs in
    let s = c.args.self.now in
    let u = c.over_these.new.self in
    let t = c.set.new.self in
    let o = c.in_ok-inst.ensures in
    let e = c.in_ok-set.ensures in
    let h : c.args.x < length u.insts.items = subst (λ (v : Vec ℕ Global). c.args.x < length v.items) (sym o.insts) c.requires.variables.0 in
    let set : LaterByTrail r r u t = stepped-set r u t c.args.x c.in_ok-inst.inst o.stepped.moved.stands h o.there e.point e.trail e.count e.outside e.types e.nodes in
    let step : LaterByTrail q r s t = stepped-trans q r r s u t o.stepped set in
    alike-one T next c.in_ok-part.part s t true (S.Build c.args.x c.args.symbol c.args.ys.now)
    (c.in_ok-part.ensures.goals s step.later.leads (omega (arith, c.len-trail.ensures, c.args.self.now.trail.ok.0))) tt
