use Rattle.std.proofs.Common.{◌∙◌, Bool, length, Some, if◌then◌else◌, ap, sym, subst}
use Rattle.mc_model.specs.declared.inst.ModeDecl.{ModeDecl}
use Rattle.mc_accepted.specs.Arranged.{Declared, better}
use Rattle.mc_model.specs.Stream.{is_bound}
use Rattle.mc_accepted.specs.NodeOracle.{of_nodes}
use Rattle.mc_accepted.specs.Ordered.{implied_places}
use Rattle.mc_procs.specs.Procedures.{source_of}
use Rattle.mc_mode_state.specs.States.{point_of}
use Rattle.mc_mode_state.specs.Modes.{declared_mode}
use Rattle.mc_mode_state.specs.code.Picking.{Takable, IsPicked}
use Rattle.mc_mode_state.specs.declared.picking.Pick.{Pick}
use Rattle.mc_mode_state.proofs.PickedModes.{picked-better, takable-better}
use Rattle.mc_mode_state.proofs.state.State.pick.Goals as goal

pub returns-then-usable-clause-picked : goal.returns-then-usable-clause-picked
returns-then-usable-clause-picked c = λ declared C T modes o a h g w.
    let P = source_of c.args.procs.now in
    let b = point_of c.args.self.now.insts.items in
    let xs = c.args.xs.now in
    let d : Declared = declared_mode c.args.mode.now in
    subst (λ (t : Bool). IsPicked modes xs b (Some c.better.result) (if t then Some (better (of_nodes C) P declared T xs b d o) else o)) (sym (c.in_ok-usable.ensures.usable declared C T a ∙ c.if-usable.true))
    (subst (λ (p : Pick). IsPicked modes xs b (Some p) (Some (better (of_nodes C) P declared T xs b d o))) (sym c.better.ensures)
    (picked-better C P declared T modes xs b c.args.place c.in_ok-implied.implied d c.args.found o w
    (record { is = λ m. ap declared_mode (g m); implied = c.in_ok-implied.ensures })))

pub returns-then-usable-clause-fits : goal.returns-then-usable-clause-fits
returns-then-usable-clause-fits c = λ modes h g w.
    let b = point_of c.args.self.now.insts.items in
    let xs = c.args.xs.now in
    subst (Takable modes xs b) (sym c.better.ensures)
    (takable-better modes xs b c.args.place c.in_ok-implied.implied c.args.found w
    (record {
      there = h;
      many = λ m. ap (λ (d : ModeDecl). length d.first) (g m) ∙ c.in_ok-usable.ensures.many c.if-usable.true;
      implied = λ m. c.in_ok-implied.ensures ∙ ap (λ (d : ModeDecl). implied_places 0 (declared_mode d).modes xs (λ x. is_bound (b x))) (sym (g m));
    }))

pub returns-clause-picked : goal.returns-clause-picked
returns-clause-picked c = λ declared C T modes o a h g w.
    subst (λ (t : Bool). IsPicked modes c.args.xs.now (point_of c.args.self.now.insts.items) c.args.found (if t then Some (better (of_nodes C) (source_of c.args.procs.now) declared T c.args.xs.now (point_of c.args.self.now.insts.items) (declared_mode c.args.mode.now) o) else o))
    (sym (c.in_ok-usable.ensures.usable declared C T a ∙ c.if-usable.false)) w

pub returns-clause-fits : goal.returns-clause-fits
returns-clause-fits c = λ modes h g w. w

pub implied-requires-clause-arguments : goal.implied-requires-clause-arguments
implied-requires-clause-arguments c = c.in_ok-usable.ensures.many c.if-usable.true
