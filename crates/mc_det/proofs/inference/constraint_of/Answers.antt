use Rattle.std.proofs.Common.{◌≡◌, List, sym, subst, ap, ◌∙◌}
use Rattle.mc_program.specs.declared.ty.Ty.{Ty}
use Rattle.mc_model.specs.PlainGoals.{plain_proc, plain_node}
use Rattle.mc_accepted.specs.Accepted.{entered}
use Rattle.mc_det.specs.Bodies.{constraint}
use Rattle.mc_det.specs.declared.walk.Walk.{Walk}
use Rattle.mc_det.specs.ConstraintLaws.{constraint_of}
use Rattle.mc_det.specs.code.Walks.{typed, Ready, InSystems, Puts}
use Rattle.mc_det.proofs.Declaring.{ready_first, whole_body, if_ok_as}
use Rattle.mc_det.proofs.inference.constraint_of.Goals as goal

pub goal-requires-clause-ready : goal.goal-requires-clause-ready
goal-requires-clause-ready c =
    let q = c.args.procs.now in
    let p = c.args.p.now in
    subst (λ (types : List Ty). Ready q types c.in_ok-entered.field-0) (sym c.as_slice-3.ensures.items)
    (ready_first q p c.in_ok-entered.field-0 c.fit.ensures.all c.requires
    (c.in_ok-entered.ensures.count ∙ c.len-variables.ensures)
    (c.in_ok-entered.ensures.insts ∙ ap (λ l. entered l c.as_slice-2.result.now) c.as_slice.ensures.items ∙ ap (entered p.head) c.as_slice-2.ensures.items))

pub returns : goal.returns
returns c =
    let q = c.args.procs.now in
    let p = c.args.p.now in
    let a : Walk = record { point = c.in_ok-entered.field-0; known = c.new.result; steps = c.new-2.result; found = c.new-3.result } in
    if_ok_as c.of.result (λ steps. steps ≡ c.goal.new.self.steps.items) (λ steps. InSystems q (λ S. steps ≡ constraint_of S (plain_proc p)))
    (λ steps e outcome.
    e
    ∙ whole_body q p a c.goal.new.self c.new.ensures.items c.new-2.ensures.items
    (c.in_ok-entered.ensures.insts ∙ ap (λ l. entered l c.as_slice-2.result.now) c.as_slice.ensures.items ∙ ap (entered p.head) c.as_slice-2.ensures.items)
    (subst (λ (types : List Ty). Puts q a c.goal.new.self (λ S is kn. constraint S (typed types) is kn (plain_node p.body))) c.as_slice-3.ensures.items c.in_ok-goal.ensures)
    outcome)
    c.of.ensures.elements
