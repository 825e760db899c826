use Rattle.std.proofs.Common.{◌<◌, sym, subst}
use Rattle.mc_insts.specs.Graphs.{count_of}
use Rattle.mc_mode_state.specs.Agreeing.{LaterByTrail}
use Rattle.mc_mode_state.proofs.Steps.{stepped-set, stepped-trans}
use Rattle.mc_mode_state.proofs.state.State.assign.Goals as goal

pub returns-then-is_state-clause-stepped : goal.returns-then-is_state-clause-stepped
returns-then-is_state-clause-stepped c = λ q st.
    let e = c.in_ok-set.ensures in
    let f = c.in_ok-set-2.ensures in
    let s = c.args.self.now in
    let t = c.set.new.self in
    let p : LaterByTrail q q s t = stepped-set q s t c.args.y 3 st c.requires.second st.fit.program.insts_are.builtins.many e.point e.trail e.count e.outside e.types e.nodes in
    stepped-trans q q q s t c.set-then-is_state.new.self p
    (stepped-set q t c.set-then-is_state.new.self c.args.x c.inst-inst.result p.moved.stands
    (subst (λ n. c.args.x < n) (sym e.count) c.requires.first) (subst (λ i. i < count_of q.insts) (sym c.inst-inst.ensures) (st.insts c.args.y)) f.point f.trail f.count f.outside f.types f.nodes)

pub returns-clause-stepped : goal.returns-clause-stepped
returns-clause-stepped c = λ q st.
    let e = c.in_ok-set-3.ensures in
    stepped-set q c.args.self.now c.set-2.new.self c.args.x c.inst-inst.result st c.requires.first
    (subst (λ i. i < count_of q.insts) (sym c.inst-inst.ensures) (st.insts c.args.y)) e.point e.trail e.count e.outside e.types e.nodes
