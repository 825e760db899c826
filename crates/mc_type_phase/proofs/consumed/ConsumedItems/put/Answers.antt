use Rattle.std.proofs.Common.{◌∙◌, ap, map, sym}
use Rattle.mc_decl_syntax.specs.Entries.{plain_entry}
use Rattle.mc_type_phase.proofs.Passing.{clause_left_out, entry_left}
use Rattle.mc_type_phase.proofs.consumed.ConsumedItems.put.Goals as goal

pub returns-then-not-is_clause : goal.returns-then-not-is_clause
returns-then-not-is_clause c =
    entry_left c.args.entry c.args.self.now.others.items c.push.new.self.items
    (sym c.is_clause.ensures ∙ c.if-not-is_clause.true)
    c.in_ok-push.ensures.items

pub returns : goal.returns
returns c =
    ap (map plain_entry) c.in_ok-put_judged.ensures
    ∙ clause_left_out (plain_entry c.args.entry) (map plain_entry c.args.self.now.others.items)
    (sym c.is_clause.ensures ∙ c.if-not-is_clause.false)
