use Rattle.std.proofs.Common.{map, ap, ◌∙◌}
use Rattle.std.proofs.lemmas.List.{map_push}
use Rattle.mc_typecheck.specs.Searched.{plain_signature}
use Rattle.mc_typecheck.specs.code.Entries.{constructor_in}
use Rattle.mc_typecheck.proofs.Entries.{mapped_more, constructor_entry}
use Rattle.mc_typecheck.proofs.check_clause_table.put_constructors.Goals as goal

pub loop-symbol-preserved : goal.loop-symbol-preserved
loop-symbol-preserved c =
    let types = c.args.types.now in
    let s = c.symbol-item.result in
    let made = c.in_ok-signature.field-0 in
    mapped_more (constructor_in types) c.args.symbols.now c.loop-symbol.symbol-index s (map plain_signature c.args.all.now.items) (map plain_signature c.loop-symbol.all.items) (map plain_signature c.push-in-loop-symbol.new.self.items) (plain_signature made) c.loop-symbol-test.true c.loop-symbol.invariant
    (ap (map plain_signature) c.in_ok-push-2.ensures.items ∙ map_push plain_signature c.loop-symbol.all.items made)
    (constructor_entry types s c.in_ok-own.own.items c.push.new.self.items c.in_ok-declared.field-0 (plain_signature made) c.in_ok-signature.ensures c.in_ok-push.ensures.items c.in_ok-own.ensures c.in_ok-declared.ensures ∙ ap (constructor_in types) c.symbol-item.is)
