use Rattle.std.proofs.Common.{ℕ, List, sym, subst, ap, ◌∙◌}
use Rattle.mc_program.specs.declared.ty.Ty.{Ty}
use Rattle.mc_accepted.specs.Accepted.{entered}
use Rattle.mc_det.specs.declared.prune.Pruning.{Pruning}
use Rattle.mc_det.specs.code.Walks.{Ready}
use Rattle.mc_det.proofs.Declaring.{ready_first}
use Rattle.mc_det.proofs.Counting.{More, head_counted, whole_pruned}
use Rattle.mc_det.proofs.pruned.prune_body.Goals as goal

pub prune-requires-clause-ready : goal.prune-requires-clause-ready
prune-requires-clause-ready c =
    let q = c.args.procs.now in
    let p = c.args.p.now in
    subst (λ (types : List Ty). Ready q types c.in_ok-entered.field-0) (sym c.as_slice-4.ensures.items)
    (ready_first q p c.in_ok-entered.field-0 c.fit.ensures.all c.requires
    (c.in_ok-entered.ensures.count ∙ c.len-variables.ensures)
    (c.in_ok-entered.ensures.insts ∙ ap (λ l. entered l c.as_slice-2.result.now) c.as_slice.ensures.items ∙ ap (entered p.head) c.as_slice-2.ensures.items))

pub returns-clause-body : goal.returns-clause-body
returns-clause-body c =
    let q = c.args.procs.now in
    let p = c.args.p.now in
    let a : Pruning = record { point = c.in_ok-entered.field-0; outside = c.enter.new.self; found = c.new.result; all = c.new-2.result; own = c.new-3.result } in
    let more : More p.head c.in_ok-none.field-0 a.outside =
    subst (λ (vs : List ℕ). More vs c.in_ok-none.field-0 a.outside) c.as_slice-3.ensures.items (c.in_ok-enter.ensures.count, c.in_ok-enter.ensures.more) in
    whole_pruned q c.as_slice-4.result.now a p c.prune.new.goal c.in_ok-prune.field-0 c.as_slice-4.ensures.items
    (c.in_ok-entered.ensures.insts ∙ ap (λ l. entered l c.as_slice-2.result.now) c.as_slice.ensures.items ∙ ap (entered p.head) c.as_slice-2.ensures.items)
    (head_counted p.head c.in_ok-none.field-0 a.outside c.in_ok-none.ensures.none more)
    c.in_ok-prune.ensures.pruned
