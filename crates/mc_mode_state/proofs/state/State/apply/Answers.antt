use Rattle.std.proofs.Common.{◌∙◌, ◌<◌, ◌≤◌, List, ap, sym, arith}
use Rattle.mc_accepted.specs.Arranged.{usable}
use Rattle.mc_accepted.specs.NodeOracle.{of_nodes}
use Rattle.mc_accepted.specs.Ordered.{Mode}
use Rattle.mc_insts.specs.Graphs.{count_of}
use Rattle.mc_procs.specs.Procedures.{source_of}
use Rattle.mc_mode_state.specs.States.{point_of}
use Rattle.mc_mode_state.proofs.PickedModes.{mode-fits-later}
use Rattle.mc_mode_state.proofs.BuiltinOutcomes.{builtin-dead, builtin-waits, builtin-runs}
use Rattle.mc_mode_state.proofs.state.State.apply.Goals as goal

pub usable-requires-clause-mode : goal.usable-requires-clause-mode
usable-requires-clause-mode c =
    let n = count_of c.args.procs.now.insts in
    let h : 3 < n = c.requires.stands.fit.program.insts_are.builtins.many in
    mode-fits-later 4 n c.in_ok-mode.mode (omega (arith, h)) c.in_ok-mode.ensures.fits

pub apply_in-requires-clause-mode : goal.apply_in-requires-clause-mode
apply_in-requires-clause-mode c =
    let n = count_of c.args.procs.now.insts in
    let m = count_of c.usable.new.procs.insts in
    let h : 3 < n = c.requires.stands.fit.program.insts_are.builtins.many in
    let l : n ≤ m = c.in_ok-usable.ensures.stepped.moved.nodes.grown.more in
    mode-fits-later 4 m c.in_ok-mode.mode (omega (arith, h, l)) c.in_ok-mode.ensures.fits

pub apply_in-requires-clause-arguments : goal.apply_in-requires-clause-arguments
apply_in-requires-clause-arguments c = c.in_ok-usable.ensures.many c.if-not-usable.false

pub returns-then-one_is_dead-clause-answer : goal.returns-then-one_is_dead-clause-answer
returns-then-one_is_dead-clause-answer c = λ declared O is.
    builtin-dead c.args.procs.now c.args.self.now declared O c.requires.stands c.args.pred c.args.op c.args.xs.now is c.waiting.result c.waiting.ensures
    (sym c.one_is_dead.ensures ∙ c.if-one_is_dead.true)

pub returns-then-not-usable-clause-answer : goal.returns-then-not-usable-clause-answer
returns-then-not-usable-clause-answer c = λ declared O is.
    let q = c.args.procs.now in
    let s = c.args.self.now in
    let xs = c.args.xs.now in
    builtin-waits q s declared O c.requires.stands c.args.pred c.args.op xs is c.usable.new.procs c.waiting-then-not-usable.result c.waiting-then-not-usable.ensures
    (sym c.one_is_dead.ensures ∙ c.if-one_is_dead.false) c.in_ok-usable.ensures.stepped
    (λ C T a.
    ap (λ (ms : List Mode). usable (of_nodes C) (source_of q) declared T xs ms xs (point_of s.insts.items)) (sym c.in_ok-mode.ensures.modes)
    ∙ (c.in_ok-usable.ensures.usable declared C T a ∙ c.if-not-usable.true))

pub returns-clause-answer : goal.returns-clause-answer
returns-clause-answer c = λ declared O is.
    let q = c.args.procs.now in
    let s = c.args.self.now in
    let xs = c.args.xs.now in
    builtin-runs q s declared O c.requires.stands c.args.pred c.args.op xs is c.usable.new.procs c.apply_in.new.procs c.apply_in.new.self c.in_ok-part.part
    (sym c.one_is_dead.ensures ∙ c.if-one_is_dead.false) c.in_ok-usable.ensures.stepped
    (λ C T a.
    ap (λ (ms : List Mode). usable (of_nodes C) (source_of q) declared T xs ms xs (point_of s.insts.items)) (sym c.in_ok-mode.ensures.modes)
    ∙ (c.in_ok-usable.ensures.usable declared C T a ∙ c.if-not-usable.false))
    (c.in_ok-part.ensures.ran declared)

pub returns-clause-alike : goal.returns-clause-alike
returns-clause-alike c = λ T next same below. c.in_ok-part.ensures.alike T next same
