use Rattle.std.proofs.Common.{◌≡◌, List, ℕ, true, false, Some, sym, ap, ◌∙◌}
use Rattle.mc_source.specs.declared.rule.Rule.TheVariants as R
use Rattle.mc_decl_syntax.specs.Plain.{plain_item}
use Rattle.mc_names.specs.Linked.{plain_names}
use Rattle.mc_inst_table.proofs.Faulting.{says_free, says_founded, free_by}
use Rattle.mc_inst_table.proofs.faults.fault.Goals as goal

pub returns-then-branch : goal.returns-then-branch
returns-then-branch c at =
    let l = plain_names c.args.names.now in
    let free =
    free_by l (record { own = c.args.own; item = plain_item c.args.decl.now; at = at }) c.as_slice.result.now c.in_ok-insts.insts
    c.in_ok-one_puts_free.field-0 (c.in_ok-one_puts_free.ensures l c.requires.insts) c.as_slice.ensures.items c.in_ok-insts.ensures
    in
    says_free l (record { own = c.args.own; item = plain_item c.args.decl.now; at = at })
    (Some (R.M6, c.in_ok-what.what)) (free.0 c.if-branch.true)
    (ap (λ (w : List ℕ). Some (R.M6, w)) c.in_ok-what.ensures)

pub returns : goal.returns
returns c at =
    let l = plain_names c.args.names.now in
    let free =
    free_by l (record { own = c.args.own; item = plain_item c.args.decl.now; at = at }) c.as_slice.result.now c.in_ok-insts.insts
    c.in_ok-one_puts_free.field-0 (c.in_ok-one_puts_free.ensures l c.requires.insts) c.as_slice.ensures.items c.in_ok-insts.ensures
    in
    says_founded l (record { own = c.args.own; item = plain_item c.args.decl.now; at = at }) c.in_ok-fault.fault
    (λ h. (let clash : true ≡ false = sym (free.1 h) ∙ c.if-branch.false in cc)) c.in_ok-fault.ensures
