use Rattle.std.proofs.Common.{◌++◌, ◌∷◌, [], ap, sym, ◌∙◌, map, take, length, arith, List, length-append}
use Rattle.std.proofs.lemmas.List.{length-map, length-take-le, take_more}
use Rattle.mc_decl_syntax.specs.declared.entry.Entry.{Entry}
use Rattle.mc_decl_syntax.specs.Entries.{plain_entry, plain_files}
use Rattle.mc_signatures.proofs.Behind.{map_more}
use Rattle.mc_signatures.proofs.Named.{indices_more}
use Rattle.mc_signatures.proofs.by_name.indices.Goals as goal

pub loop-entries-preserved : goal.loop-entries-preserved
loop-entries-preserved c =
    let files = c.args.files.now in
    let k = c.loop-entries.entries-index in
    let below = c.loop-entries-test.true in
    let all = c.loop-entries.all.items in
    let index = c.in_ok-items_by_name.field-0 in
    let entries = c.entries-item.result in
    let so_many = ap length c.in_ok-push.ensures.items in
    let one_more = length-append all (index ∷ []) in
    let before = c.loop-entries.invariant.as_many in
    let taken = length-take-le k files (omega (arith, below)) in
    let mapped = length-map (take k files) (map plain_entry) in
    let after =
    ap plain_files (take_more files k entries below)
    ∙ map_more (map plain_entry) (take k files) _
    ∙ ap (λ (es : List Entry). plain_files (take k files) ++ map plain_entry es ∷ []) (sym c.entries-item.is ∙ sym c.as_slice.ensures.items)
    in
    record {
      as_many = omega (arith, so_many, one_more, before);
      are =
          indices_more all c.push.new.self.items index (plain_files (take k files)) _ (map plain_entry c.as_slice.result.now)
          c.loop-entries.invariant.are (omega (arith, before, taken, mapped)) c.in_ok-push.ensures.items after c.in_ok-items_by_name.ensures;
    }
