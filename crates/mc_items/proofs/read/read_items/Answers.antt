use Rattle.std.proofs.Common.{map, subst, arith, ◌∙◌}
use Rattle.std.specs.Prelude.{IfSome}
use Rattle.std.proofs.lemmas.Grind.{common_steps}
use Rattle.mc_decl_syntax.specs.Entries.{plain_entry}
use Rattle.mc_items.specs.Files.{IsItem}
use Rattle.mc_items.specs.code.VerdictViews.{plain_verdict}
use Rattle.mc_items.proofs.Done.{answered, refusal, one_more_at}
use Rattle.mc_items.proofs.read.read_items.Goals as goal

pub returns-in-None-clause-whole : goal.returns-in-None-clause-whole
returns-in-None-clause-whole c =
    answered c.args.file c.args.text.now c.items.walk c.items.from.at c.items.found.entries.items c.items.found.broken.items c.in_ok-next_item.field-0 c.answer.result
    (omega (arith, c.if-text-gt-GREATEST_TEXT.false)) c.items.invariant.same c.items.invariant.done c.in_ok-next_item.ensures.over c.in-None.is c.answer.ensures.entries

pub returns-in-None-clause-refusal : goal.returns-in-None-clause-refusal
returns-in-None-clause-refusal c =
    refusal c.args.file c.args.text.now c.items.walk c.items.from.at c.items.found.entries.items c.items.found.broken.items c.in_ok-next_item.field-0 c.answer.result
    (omega (arith, c.if-text-gt-GREATEST_TEXT.false)) c.items.invariant.same c.items.invariant.done c.in_ok-next_item.ensures.over c.in-None.is c.answer.ensures.broken

pub items-preserved : goal.items-preserved
items-preserved c =
    let n = c.in-Some.item in
    record {
      same = c.in_ok-next_item.ensures.same ∙ c.items.invariant.same;
      within = grind (arith, common_steps);
      line = grind (arith, common_steps);
      done =
          one_more_at c.args.file c.args.text.now c.items.walk c.items.from.at n.line n.end.at (plain_verdict n.verdict) (map plain_entry c.items.found.entries.items) _ c.items.found.broken.items _
          c.items.invariant.same c.items.invariant.done
          (subst (λ o. IfSome o (λ n. IsItem c.items.walk c.items.from.at (plain_verdict n.verdict) n.line n.end.at)) c.in-Some.is c.in_ok-next_item.ensures.item)
          c.in_ok-put-in-Some.ensures.entries c.in_ok-put-in-Some.ensures.broken;
    }
