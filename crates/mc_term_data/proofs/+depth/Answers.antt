use Rattle.std.proofs.Common.{arith, ap, ◌∙◌, length, ◌-◌}
use Rattle.std.specs.Option.{option_map}
use Rattle.mc_term_data.specs.Plain.{plain_term, plain_terms}
use Rattle.mc_term_data.specs.code.LastParts.{last_term}
use Rattle.mc_term_data.proofs.Depths.{deepest_of, deepest_take, deepest_more, deepest_front, depth_item, last_shallower}
use Rattle.mc_term_data.proofs.+depth.Goals as goal

pub depth::deepest-depth-requires : goal.depth::deepest-depth-requires
depth::deepest-depth-requires t c =
    (omega (arith, depth_item c.args.terms.now c.loop-term.term-index c.term-item.result c.loop-term-test.true c.term-item.is), tt)

pub depth::deepest-loop-term-preserved : goal.depth::deepest-loop-term-preserved
depth::deepest-loop-term-preserved t c =
    let more = deepest_more c.args.terms.now c.loop-term.term-index c.term-item.result c.loop-term-test.true c.term-item.is in
    omega (arith, more, c.loop-term.invariant, c.depth.ensures, c.max-greatest.ensures)

pub depth::deepest_front-deepest-requires : goal.depth::deepest_front-deepest-requires
depth::deepest_front-deepest-requires t c =
    (omega (arith, deepest_take (length c.as_slice.result.now - 1) c.as_slice.result.now, ap deepest_of c.as_slice.ensures.items), tt)

pub depth::deepest_front-returns-in-len1-up-clause-over : goal.depth::deepest_front-returns-in-len1-up-clause-over
depth::deepest_front-returns-in-len1-up-clause-over t c = λ last is.
    let same = c.as_slice.ensures.items in
    let front = deepest_front c.as_slice.result.now last c.in-len1-up.len_at_least (ap (λ xs. last_term (plain_terms xs)) same ∙ is) in
    omega (arith, front, ap deepest_of same, c.deepest.ensures)

pub term::Term::depth-down-smaller : goal.term::Term::depth-down-smaller
term::Term::depth-down-smaller t c =
    last_shallower _ _ (c.last.ensures ∙ ap (option_map (λ last. plain_term last.now)) c.in-Some.is)

pub term::Term::depth-down-preserved : goal.term::Term::depth-down-preserved
term::Term::depth-down-preserved t c =
    let last = c.last.ensures ∙ ap (option_map (λ last. plain_term last.now)) c.in-Some.is in
    let less = last_shallower _ _ last in
    let over = c.depth_over.ensures.over (plain_term c.in-Some.last.now) last in
    (omega (arith, over, c.down.invariant.0), omega (arith, less, c.down.invariant.1))
