use Rattle.std.proofs.Common.{List, sym, subst, ap, ◌∙◌}
use Rattle.std.proofs.lemmas.Result.{on_ok_weaker}
use Rattle.mc_program.specs.declared.ty.Ty.{Ty}
use Rattle.mc_accepted.specs.Accepted.{entered}
use Rattle.mc_det.specs.declared.walk.Walk.{Walk}
use Rattle.mc_det.specs.code.Walks.{Ready}
use Rattle.mc_det.proofs.Declaring.{ready_first}
use Rattle.mc_det.proofs.MarkedParts.{whole_marked}
use Rattle.mc_det.proofs.procedures.mark_body.Goals as goal

pub mark-requires-clause-ready : goal.mark-requires-clause-ready
mark-requires-clause-ready c =
    let q = c.args.procs.now in
    let p = c.args.p.now in
    subst (λ (types : List Ty). Ready q types c.in_ok-entered.field-0) (sym c.as_slice-3.ensures.items)
    (ready_first q p c.in_ok-entered.field-0 c.fit.ensures.all c.requires
    (c.in_ok-entered.ensures.count ∙ c.len-variables.ensures)
    (c.in_ok-entered.ensures.insts ∙ ap (λ l. entered l c.as_slice-2.result.now) c.as_slice.ensures.items ∙ ap (entered p.head) c.as_slice-2.ensures.items))

pub returns-clause-body : goal.returns-clause-body
returns-clause-body c =
    let q = c.args.procs.now in
    let p = c.args.p.now in
    let ds = c.args.dets.now in
    let a : Walk = record { point = c.in_ok-entered.field-0; known = c.new.result; steps = c.new-2.result; found = c.new-3.result } in
    on_ok_weaker c.mark.result
    (λ is.
    whole_marked q c.as_slice-3.result.now ds a p c.mark.new.goal c.as_slice-3.ensures.items c.new.ensures.items
    (c.in_ok-entered.ensures.insts ∙ ap (λ l. entered l c.as_slice-2.result.now) c.as_slice.ensures.items ∙ ap (entered p.head) c.as_slice-2.ensures.items) is)
    c.mark.ensures.marked
