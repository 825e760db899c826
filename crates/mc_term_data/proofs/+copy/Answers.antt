use Rattle.std.proofs.Common.{arith, map, sym, ap, ◌∙◌, subst, length, ◌-◌}
use Rattle.std.specs.Option.{option_map}
use Rattle.std.proofs.lemmas.List.{length-take}
use Rattle.mc_term_data.specs.Plain.{plain_term, plain_terms}
use Rattle.mc_term_data.specs.code.LastParts.{last_term}
use Rattle.mc_term_data.proofs.Depths.{deepest_of, deepest_take, depth_item, last_shallower}
use Rattle.mc_term_data.proofs.Lasts.{row_copied, has_last}
use Rattle.mc_term_data.proofs.Chains.{Hangs, seen, pushed, popped, popped_last, hangs_depth}
use Rattle.mc_term_data.proofs.+copy.Goals as goal
use Rattle.mc_term_data.proofs.+copy.Goals.{copy::copied_row-in-Some+in_ok-push-in-len1-up, copy::copied_row-in_default}

pub copy::copied_row-copied_terms-requires : goal.copy::copied_row-copied_terms-requires
copy::copied_row-copied_terms-requires t c =
    (omega (arith, deepest_take (length c.as_slice.result.now - 1) c.as_slice.result.now, ap deepest_of c.as_slice.ensures.items), grind (arith, length-take))

pub copy::copied_row-returns-after-last-3 : goal.copy::copied_row-returns-after-last-3
copy::copied_row-returns-after-last-3 t c = λ last. elim c.match-last-3.branch [
  | copy::copied_row-in-Some+in_ok-push-in-len1-up w ↦
      let same = c.as_slice.ensures.items in
      ap (map plain_term) w.copy-is
      ∙ row_copied c.as_slice.result.now c.in_ok-copy-in-len1-up.copy w.push.new.self w.in-Some.last c.in-len1-up.len_at_least (c.in_ok-copy-in-len1-up.ensures {u = tt}) (w.in_ok-push-in-len1-up.ensures {u = tt}).ok (ap (λ xs. last_term (plain_terms xs)) same ∙ last ∙ ap (option_map plain_term) w.in-Some.is)
      ∙ ap (map plain_term) same
  | copy::copied_row-in_default w ↦
      absurd (has_last c.as_slice.result.now c.in-len1-up.len_at_least (ap (λ xs. last_term (plain_terms xs)) c.as_slice.ensures.items ∙ last ∙ ap (option_map plain_term) w.in_default.is))
]

pub copy::copied_terms-copied-requires : goal.copy::copied_terms-copied-requires
copy::copied_terms-copied-requires t c =
    (omega (arith, depth_item c.args.terms.now c.loop-term.term-index c.term-item.result c.loop-term-test.true c.term-item.is), tt)

pub term::Term::copied-down-smaller : goal.term::Term::copied-down-smaller
term::Term::copied-down-smaller t c =
    last_shallower _ _ (c.last.ensures ∙ ap (option_map (λ last. plain_term last.now)) c.in-Some.is)

pub term::Term::copied-down-preserved : goal.term::Term::copied-down-preserved
term::Term::copied-down-preserved t c =
    pushed _ _ _ _ _ (c.in_ok-push.ensures {u = tt}).items c.down.invariant (c.last.ensures ∙ ap (option_map (λ last. plain_term last.now)) c.in-Some.is)

pub term::Term::copied-copied_over-requires-in-Some-pop : goal.term::Term::copied-copied_over-requires-in-Some-pop
term::Term::copied-copied_over-requires-in-Some-pop t c =
    let hangs = popped _ _ c.in-Some-pop.term _ _ (c.in-Some-pop.ensures {u = tt}).items c.up.invariant in
    (omega (arith, hangs_depth _ _ _ hangs), tt)

pub term::Term::copied-up-preserved : goal.term::Term::copied-up-preserved
term::Term::copied-up-preserved t c =
    let items = (c.in-Some-pop.ensures {u = tt}).items in
    let last = popped_last _ _ c.in-Some-pop.term _ _ items c.up.invariant in
    subst (λ u. Hangs (seen c.pop.new.self.items) u (plain_term c.args.self.now)) (sym (c.in_ok-copy-2.ensures {u = tt} last)) (popped _ _ c.in-Some-pop.term _ _ items c.up.invariant)
