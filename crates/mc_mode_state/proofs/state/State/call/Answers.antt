use Rattle.std.proofs.Common.{◌≡◌, ◌∙◌, length, get_or, map, Option, Some, ap, sym, subst}
use Rattle.mc_model.specs.declared.inst.ModeDecl.{ModeDecl}
use Rattle.mc_accepted.specs.Arranged.{best, called}
use Rattle.mc_model.specs.Stream.{is_bound}
use Rattle.mc_accepted.specs.Ordered.{implied_places}
use Rattle.mc_insts.specs.Graphs.{count_of}
use Rattle.mc_accepted.specs.NodeOracle.{of_nodes}
use Rattle.mc_procs.specs.Procedures.{source_of}
use Rattle.mc_mode_state.specs.States.{point_of}
use Rattle.mc_mode_state.specs.Answers.{Ran}
use Rattle.mc_mode_state.specs.Modes.{declared_mode, ModeFits}
use Rattle.mc_mode_state.specs.code.Picking.{Takable, PickFits, IsPicked}
use Rattle.mc_mode_state.specs.declared.picking.Pick.{Pick}
use Rattle.mc_mode_state.proofs.PickedModes.{mode-fits, mode-fits-later, call-dead, call-waits, call-runs}
use Rattle.mc_mode_state.proofs.state.State.call.Goals as goal

pub returns-then-one_is_dead-clause-answer : goal.returns-then-one_is_dead-clause-answer
returns-then-one_is_dead-clause-answer c = λ declared O d none.
    call-dead c.args.procs.now c.args.self.now declared O c.requires.stands c.args.pred c.args.modes.now c.args.xs.now d none c.waiting.result c.waiting.ensures
    (sym c.one_is_dead.ensures ∙ c.if-one_is_dead.true)

pub returns-in-None-clause-answer : goal.returns-in-None-clause-answer
returns-in-None-clause-answer c = λ declared O d none.
    let q = c.args.procs.now in
    let s = c.args.self.now in
    let modes = c.args.modes.now in
    let xs = c.args.xs.now in
    let b = point_of s.insts.items in
    call-waits q s declared O c.requires.stands c.args.pred modes xs d none c.best.new.procs c.waiting-in-None.result c.waiting-in-None.ensures
    (sym c.one_is_dead.ensures ∙ c.if-one_is_dead.false) c.in_ok-best.ensures.stepped
    (λ C T a. subst (λ (k : Option Pick). IsPicked modes xs b k (best (of_nodes C) (source_of q) declared T (map declared_mode modes) xs b)) c.in-None.is (c.in_ok-best.ensures.best declared C T a))

pub run-requires-clause-arguments : goal.run-requires-clause-arguments
run-requires-clause-arguments c =
    let f = subst (PickFits c.args.modes.now c.args.xs.now (point_of c.args.self.now.insts.items)) c.in-Some.is c.in_ok-best.ensures.fits in
    ap (λ (m : ModeDecl). length m.first) c.index-modes-place.is ∙ f.many c.index-modes-place.result

pub run-requires-clause-mode : goal.run-requires-clause-mode
run-requires-clause-mode c =
    let q = c.args.procs.now in
    let r = c.best.new.procs in
    let f = subst (PickFits c.args.modes.now c.args.xs.now (point_of c.args.self.now.insts.items)) c.in-Some.is c.in_ok-best.ensures.fits in
    mode-fits-later (count_of q.insts) (count_of r.insts) c.index-modes-place.result c.in_ok-best.ensures.stepped.moved.nodes.grown.more
    (subst (ModeFits (count_of q.insts)) (sym c.index-modes-place.is) (mode-fits (count_of q.insts) c.args.modes.now c.in-Some.pick.place c.index-modes-place.result c.requires.modes f.there))

pub returns-in_ok-part-in-Some-clause-answer : goal.returns-in_ok-part-in-Some-clause-answer
returns-in_ok-part-in-Some-clause-answer c = λ declared O d none.
    let q = c.args.procs.now in
    let r = c.best.new.procs in
    let u = c.run.new.procs in
    let s = c.args.self.now in
    let t = c.run.new.self in
    let modes = c.args.modes.now in
    let xs = c.args.xs.now in
    let b = point_of s.insts.items in
    let k : Pick = c.in-Some.pick in
    let m : ModeDecl = c.index-modes-place.result in
    let f : Takable modes xs b k = subst (PickFits modes xs b) c.in-Some.is c.in_ok-best.ensures.fits in
    let at : m ≡ get_or modes k.place m = c.index-modes-place.is in
    call-runs q s declared O c.requires.stands c.args.pred modes xs d none r u t c.in_ok-part-in-Some.part k m
    (sym c.one_is_dead.ensures ∙ c.if-one_is_dead.false) c.in_ok-best.ensures.stepped
    (λ C T a. subst (λ (p : Option Pick). IsPicked modes xs b p (best (of_nodes C) (source_of q) declared T (map declared_mode modes) xs b)) c.in-Some.is (c.in_ok-best.ensures.best declared C T a))
    (subst (λ (n : ModeDecl). Ran (λ C T. called (of_nodes C) (source_of r) declared T (Some (declared_mode n)) xs (length s.insts.items) b) r u s t c.in_ok-part-in-Some.part) at
    (c.in_ok-part-in-Some.ensures.ran declared
    (f.implied m ∙ ap (λ (n : ModeDecl). implied_places 0 (declared_mode n).modes xs (λ x. is_bound (b x))) (sym at))))

pub returns-in_ok-part-in-Some-clause-alike : goal.returns-in_ok-part-in-Some-clause-alike
returns-in_ok-part-in-Some-clause-alike c = λ T next same below. c.in_ok-part-in-Some.ensures.alike T next same
