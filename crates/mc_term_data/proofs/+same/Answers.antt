use Rattle.std.proofs.Common.{arith, refl, Some, sym, ap, ◌∙◌, length, ◌-◌}
use Rattle.std.proofs.lemmas.Bool.{false≢true}
use Rattle.std.specs.Option.{option_map}
use Rattle.mc_term_data.specs.Plain.{plain_term}
use Rattle.mc_term_data.specs.code.LastParts.{last_part}
use Rattle.mc_term_data.proofs.Depths.{deepest_of, deepest_take, depth_item, last_shallower}
use Rattle.mc_term_data.proofs.Lasts.{rows_by_fronts, empty_test, at_same_place, as_long, some_same}
use Rattle.mc_term_data.proofs.+same.Goals as goal

pub same::same_rows-same_terms-requires : goal.same::same_rows-same_terms-requires
same::same_rows-same_terms-requires t c =
    (omega (arith, deepest_take (length c.as_slice.result.now - 1) c.as_slice.result.now, ap deepest_of c.as_slice.ensures.items), tt)

pub same::same_rows-returns-in-len1-up-as_slice : goal.same::same_rows-returns-in-len1-up-as_slice
same::same_rows-returns-in-len1-up-as_slice t c =
    rows_by_fronts c.same_terms.result _ _ _ _ c.as_slice.ensures.items c.as_slice-in-len1-up.ensures.items c.in-len1-up.len_at_least c.in-len1-up-as_slice.len_at_least c.same_terms.ensures

pub same::same_rows-returns-in-empty : goal.same::same_rows-returns-in-empty
same::same_rows-returns-in-empty t c = λ last.
    empty_test c.is_empty.result _ _ (omega (arith, ap length c.as_slice.ensures.items)) c.is_empty.ensures

pub same::same_rows-returns-in-empty-as_slice : goal.same::same_rows-returns-in-empty-as_slice
same::same_rows-returns-in-empty-as_slice t c = λ last. (
  λ no. absurd (false≢true no),
  λ same.
      absurd (omega (arith, ap length c.as_slice.ensures.items, ap length c.as_slice-in-len1-up.ensures.items, as_long _ _ same)),
)

pub same::same_terms-same-requires : goal.same::same_terms-same-requires
same::same_terms-same-requires t c =
    (omega (arith, depth_item c.args.left.now c.loop-k.k c.index-left-k.result c.loop-k-test.true c.index-left-k.is), tt)

pub same::same_terms-returns-then-not-same : goal.same::same_terms-returns-then-not-same
same::same_terms-returns-then-not-same t c =
    (λ no. absurd (false≢true no), λ same. (c.if-not-same.ensures {u = tt}).1 (at_same_place c.args.left.now c.args.right.now c.loop-k.k _ _ c.loop-k-test.true c.index-left-k.is c.index-right-k.is same))

pub same::same_terms-returns-then-left-right : goal.same::same_terms-returns-then-left-right
same::same_terms-returns-then-left-right t c =
    (λ no. absurd (false≢true no), λ same. absurd (c.if-left-right.true (as_long _ _ same)))

pub term::Term::same-down-smaller : goal.term::Term::same-down-smaller
term::Term::same-down-smaller t c =
    last_shallower _ _ (c.last.ensures ∙ ap (option_map (λ last. plain_term last.now)) c.in-Some.is)

pub term::Term::same-down-preserved : goal.term::Term::same-down-preserved
term::Term::same-down-preserved t c =
    let left = c.last.ensures ∙ ap (option_map (λ last. plain_term last.now)) c.in-Some.is in
    let right = c.last-in-Some.ensures ∙ ap (option_map (λ last. plain_term last.now)) c.in-Some-last.is in
    let less = last_shallower _ _ left in
    let over = c.if-not-same_over.ensures {u = tt} in (
      (
        (λ same. c.down.invariant.0.0 ((over (left ∙ ap Some same ∙ sym right)).0 refl)),
        (λ same. some_same _ _ (sym left ∙ ap last_part (c.down.invariant.0.1 same) ∙ right)),
      ),
      omega (arith, less, c.down.invariant.1),
    )
