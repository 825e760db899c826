use Rattle.std.proofs.Common.{refl, sym, ap, ◌∙◌, arith}
use Rattle.mc_tokens.specs.declared.token.Kind.TheVariants.{End, Eof}
use Rattle.mc_terms.specs.Lines.{line_at}
use Rattle.mc_terms.specs.Answers.{place_of}
use Rattle.mc_terms.proofs.Items.{begins_with, refused_by, stands_by, full_stop, ended_at, behind_next, next_after}
use Rattle.mc_terms.proofs.item.item_tokens.Goals as goal

pub item-init : goal.item-init
item-init c = record {
  same = refl;
  begins = c.requires.begin.0;
  line = c.requires.begin.1 ∙ ap (line_at c.args.walk.now) (sym c.requires.begin.0);
  behind = c.requires.behind;
  next = record {
    at = c.args.from.at;
    after = Eof;
    so_far = begins_with c.args.walk.now c.args.from.at _ c.in-Ok.ensures.items;
    is = c.requires.first;
    bytes = c.requires.bytes;
    order = c.requires.order;
  };
}

pub returns-then-ends_item-clause-whole : goal.returns-then-ends_item-clause-whole
returns-then-ends_item-clause-whole c other =
    let i = c.item.invariant in
    let ends = sym c.ends_item.ensures ∙ c.if-ends_item.true in
    ended_at c.args.walk.now c.item.walk c.args.from.at i.next.at i.next.after End c.item.token c.item.tokens.items _
    i.same i.next.so_far i.next.is ends (full_stop c.item.token.kind ends (c.is_eof.ensures.no other)) c.moved.ensures.at

pub returns-then-ends_item-clause-cut_off : goal.returns-then-ends_item-clause-cut_off
returns-then-ends_item-clause-cut_off c eof =
    let i = c.item.invariant in
    ended_at c.args.walk.now c.item.walk c.args.from.at i.next.at i.next.after Eof c.item.token c.item.tokens.items _
    i.same i.next.so_far i.next.is (sym c.ends_item.ensures ∙ c.if-ends_item.true) (c.is_eof.ensures.yes eof) c.moved.ensures.at

pub returns-in-Err-clause-fault : goal.returns-in-Err-clause-fault
returns-in-Err-clause-fault c =
    let text = c.args.walk.now in
    let i = c.item.invariant in
    let t = c.item.token in
    let f = c.faulty_token.ensures in
    let more = c.push_token.new.tokens.items in
    refused_by text c.item.walk c.next.new.self c.args.from.at t.end c.args.begin.line t.kind c.in-Err.fault more c.faulty_token.result.fault i.same c.next.ensures.same
    (behind_next c.item.walk c.args.from.at c.item.tokens.items more t c.item.place.line i.next (sym c.ends_item.ensures ∙ c.if-ends_item.false)
    (i.line ∙ ap (line_at c.item.walk) i.begins) (c.in-Ok-push_token.ensures {u = tt}))
    c.in-Err.ensures.value (c.requires.begin.1 ∙ ap (λ x. line_at text (place_of x)) c.requires.first) f.kind f.line f.passes

pub returns-in-Err-clause-place : goal.returns-in-Err-clause-place
returns-in-Err-clause-place c =
    let i = c.item.invariant in
    let t = c.item.token in
    let f = c.faulty_token.ensures in
    let more = c.push_token.new.tokens.items in
    stands_by c.args.walk.now c.item.walk c.args.from.at t.end c.faulty_token.result.at t.kind c.in-Err.fault more c.faulty_token.result.fault.kind i.same
    (behind_next c.item.walk c.args.from.at c.item.tokens.items more t c.item.place.line i.next (sym c.ends_item.ensures ∙ c.if-ends_item.false)
    (i.line ∙ ap (line_at c.item.walk) i.begins) (c.in-Ok-push_token.ensures {u = tt}))
    c.in-Err.ensures.value f.kind f.at

pub item-preserved : goal.item-preserved
item-preserved c =
    let i = c.item.invariant in
    let o = c.in-Ok-next.ensures.order in
    record {
      same = c.next.ensures.same ∙ i.same;
      begins = c.moved-place.ensures.at;
      line = c.moved-place.ensures.line ∙ (λ j. line_at (c.text-in-item.ensures j) (sym c.moved-place.ensures.at j));
      behind = omega (arith, i.behind, o.0, o.1);
      next =
          next_after c.item.walk c.args.from.at c.item.tokens.items c.push_token.new.tokens.items c.item.token c.item.place.line i.next (sym c.ends_item.ensures ∙ c.if-ends_item.false)
          (i.line ∙ ap (line_at c.item.walk) i.begins) (c.in-Ok-push_token.ensures {u = tt})
          c.next.new.self c.in-Ok-next.next c.next.ensures.same c.in-Ok-next.ensures.value c.in-Ok-next.ensures.text o;
    }
