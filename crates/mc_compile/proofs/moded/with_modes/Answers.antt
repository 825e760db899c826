use Rattle.std.proofs.Common.{ap, ◌∙◌}
use Rattle.mc_decl_syntax.specs.Entries.{plain_files}
use Rattle.mc_names.specs.Linked.{plain_names}
use Rattle.mc_type_phase.specs.Judging.{typed_clauses}
use Rattle.mc_signatures.specs.WrittenModes.{declared_modes}
use Rattle.mc_compile.specs.declared.moded.Moded.{Moded}
use Rattle.mc_compile.specs.Typing.{PlainTyped}
use Rattle.mc_compile.proofs.Modes.{modes_made}
use Rattle.mc_compile.proofs.moded.with_modes.Goals as goal

pub returns-clause-goals : goal.returns-clause-goals
returns-clause-goals c = (c.in_ok-whole.ensures {u = tt}).goals

pub returns-clause-defs : goal.returns-clause-defs
returns-clause-defs c = (c.in_ok-table.ensures {u = tt}).fit

pub returns-clause-moded : goal.returns-clause-moded
returns-clause-moded c = λ plain shows.
    let named = c.args.checked.typed.named in
    let table = c.in_ok-table.table in
    let made : Moded = record { whole = c.in_ok-whole.whole; defs = table.defs; sigs = c.in_ok-sigs.sigs; query = c.in_ok-sigs.query } in
    let written = c.in_ok-rows.ensures ∙ ap (λ fs. declared_modes (plain_names named.names) (plain_files fs)) c.as_slice.ensures.items in
    let signed = rw (c.as_slice-2.ensures.items) at (c.in_ok-table.ensures {u = tt}).signatures in
    let told = c.in_ok-sigs.ensures {u = tt} in
    modes_made c.args.first named plain.named (typed_clauses c.args.checked.clauses.items) (typed_clauses c.in_ok-clauses.clauses.items) c.in_ok-clauses.query c.is_some.result c.in_ok-numbered.field-0.items c.in_ok-rows.rows table.sigs.items made
    (ap (λ (t : PlainTyped). t.named) shows.typed) shows.clauses c.is_some.ensures (c.in_ok-clauses.ensures {u = tt}) (c.in_ok-numbered.ensures {u = tt}) (c.in_ok-whole.ensures {u = tt}) written signed (c.in_ok-table.ensures {u = tt}).fit told.sigs told.number
