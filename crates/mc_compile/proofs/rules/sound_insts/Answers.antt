use Rattle.std.proofs.Common.{List, subst}
use Rattle.mc_decl_syntax.specs.declared.entry.Entry.{Entry}
use Rattle.mc_decl_syntax.specs.Entries.{plain_files}
use Rattle.mc_names.specs.Linked.{plain_names}
use Rattle.mc_inst_table.specs.Rules.{items_from, AreInstFaults}
use Rattle.mc_compile.proofs.Insts.{insts_sound, insts_faulty}
use Rattle.mc_compile.proofs.Lists.{none_counted, some_counted}
use Rattle.mc_compile.proofs.rules.sound_insts.Goals as goal

pub returns-then-is_empty : goal.returns-then-is_empty
returns-then-is_empty c = λ plain left.
    let named = c.args.typed.now.named in
    let broken = c.in_ok-broken.broken in
    let Faults : List (List Entry) → Type 0 = λ fs. AreInstFaults (plain_names named.names) (items_from 0 (plain_files fs)) broken.items in
    insts_sound c.args.typed.now plain left broken.items
    (subst Faults c.as_slice.ensures.items c.in_ok-broken.ensures) (none_counted broken.items broken.len broken.ok.0 c.if-is_empty.ensures)

pub returns : goal.returns
returns c = λ plain left.
    let named = c.args.typed.now.named in
    let broken = c.in_ok-broken.broken in
    let Faults : List (List Entry) → Type 0 = λ fs. AreInstFaults (plain_names named.names) (items_from 0 (plain_files fs)) broken.items in
    insts_faulty c.args.typed.now plain left broken.items c.in_ok-of.field-0
    (subst Faults c.as_slice.ensures.items c.in_ok-broken.ensures) c.in_ok-of.ensures.elements (some_counted broken.items broken.len broken.ok.0 c.if-is_empty.ensures)
