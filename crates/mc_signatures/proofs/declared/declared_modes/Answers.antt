use Rattle.std.proofs.Common.{◌+◌, List, map, take, subst, sym, ap, ◌∙◌}
use Rattle.mc_decl_syntax.specs.Entries.{plain_files}
use Rattle.mc_names.specs.declared.names.Named.{Named}
use Rattle.mc_names.specs.Linked.{plain_named, plain_names}
use Rattle.mc_signatures.specs.WrittenModes.{PlainMode, plain_written, modes_of}
use Rattle.mc_signatures.specs.code.ByName.{AreIndices}
use Rattle.mc_signatures.proofs.Behind.{rows_more, rows_all}
use Rattle.mc_signatures.proofs.declared.declared_modes.Goals as goal

pub loop-named-preserved : goal.loop-named-preserved
loop-named-preserved c =
    let named : Named → List PlainMode =
    λ n. modes_of (plain_names c.args.names.now) (plain_files c.args.files.now) (plain_named n)
    in
    let preds = c.as_slice-named-items.result.now in
    let items = c.as_slice-named-items.ensures.items in
    let k = c.loop-named.named-index in
    let files = plain_files c.args.files.now in
    let are = subst (λ indices. AreIndices indices files) (sym c.as_slice.ensures.value) c.in_ok-indices.ensures in
    rows_more named c.loop-named.rows.items c.push.new.self.items c.in_ok-modes_of.field-0 preds k c.named-item.result
    c.loop-named-test.true c.named-item.is c.in_ok-push.ensures.items (c.in_ok-modes_of.ensures files are)
    (c.loop-named.invariant ∙ ap (λ (ns : List Named). map named (take k ns)) (sym items))
    ∙ ap (λ (ns : List Named). map named (take (k + 1) ns)) items

pub returns : goal.returns
returns c =
    let modes = modes_of (plain_names c.args.names.now) (plain_files c.args.files.now) in
    let preds = c.as_slice-named-items.result.now in
    let items = c.as_slice-named-items.ensures.items in
    let k = c.loop-named.named-index in
    ap (map (map plain_written)) c.in_ok-rows.ensures.elements
    ∙ rows_all modes c.loop-named.rows.items preds k c.loop-named-test.false
    (c.loop-named.invariant ∙ ap (λ (ns : List Named). map (λ n. modes (plain_named n)) (take k ns)) (sym items))
    ∙ ap (λ (ns : List Named). map modes (map plain_named ns)) items
