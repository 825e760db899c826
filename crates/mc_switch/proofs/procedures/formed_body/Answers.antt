use Rattle.std.proofs.Common.{◌≡◌, List, [], length, Some, sym, ap, ◌∙◌}
use Rattle.mc_model.specs.PlainGoals.{plain_node}
use Rattle.mc_accepted.specs.Accepted.{entered}
use Rattle.mc_accepted.specs.Ordered.{Insts}
use Rattle.mc_accepted.specs.Switched.{formed}
use Rattle.mc_procs.specs.VariableTypes.{type_in}
use Rattle.mc_mode_state.specs.Tables.{Entry, node_in}
use Rattle.mc_det.proofs.Declaring.{ready_first}
use Rattle.mc_switch.specs.Types.{inst_in}
use Rattle.mc_switch.specs.Kept.{kept_by}
use Rattle.mc_switch.proofs.procedures.formed_body.Goals as goal

pub formed-requires-clause-stands : goal.formed-requires-clause-stands
formed-requires-clause-stands c =
    let q = c.args.procs.now in
    let p = c.args.p.now in
    let ready =
    ready_first q p c.in_ok-point.point c.fit.ensures.all c.requires
    (c.in_ok-point.ensures.count ∙ c.len.ensures)
    (c.in_ok-point.ensures.insts ∙ ap (λ l. entered l c.as_slice-2.result.now) c.as_slice.ensures.items ∙ ap (entered p.head) c.as_slice-2.ensures.items) in
    record {
      ready = record { many = ready.many; there = ready.below };
      merged = λ x k is e. let none : node_in [] x is ≡ Some k = ap (λ (N : List Entry). node_in N x is) (sym c.new.ensures) ∙ e in cc;
    }

pub returns-clause-form : goal.returns-clause-form
returns-clause-form c =
    let p = c.args.p.now in
    let T = type_in p.var_types in
    let did = c.in_ok-part.ensures in
    let is = did.formed in
    let first : inst_in c.in_ok-point.point ≡ entered p.head p.first =
    c.in_ok-point.ensures.insts ∙ ap (λ l. entered l c.as_slice-2.result.now) c.as_slice.ensures.items ∙ ap (entered p.head) c.as_slice-2.ensures.items in
    record {
      found = c.formed.new.self.merger.found;
      merged = did.returns.merges.merged;
      form = λ S M suits later.
          is.made S M suits later
          ∙ ap (λ (b : Insts). formed S T (kept_by S T M (length p.var_types)) b (plain_node p.body)) first;
    }
