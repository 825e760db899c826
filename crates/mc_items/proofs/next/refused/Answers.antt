use Rattle.std.proofs.Common.{refl, sym, ap, ◌∙◌, subst, slice_index_or}
use Rattle.mc_items.specs.Files.{IsUnread}
use Rattle.mc_items.specs.Verdicts.{breaks, unread}
use Rattle.mc_items.proofs.next.refused.Goals as goal

pub returns-clause-item : goal.returns-clause-item
returns-clause-item c =
    let f = c.args.fault.fault in
    subst (λ next. IsUnread c.args.walk.now c.args.from.at (breaks c.in_ok-rule.rule c.in_ok-rule.what) f.line next) (sym c.moved.ensures.at) (record {
      kind = f.kind;
      place = c.args.fault.at;
      refused = c.requires.refused;
      stands = c.requires.stands;
      broken = (c.in_ok-rule.rule, c.in_ok-rule.what);
      told = ap (λ text. unread f.kind (slice_index_or text c.args.fault.at 0)) (sym c.text.ensures) ∙ c.in_ok-rule.ensures;
      is = refl;
    })
