use Rattle.std.proofs.Common.{◌≡◌, ℕ, ◌+◌, ◌<◌, ◌≤◌, ◌++◌, [], ◌∷◌, List, ◌&&◌, ◌||◌, not, map, drop, reverse, length, refl, ap, ap₂, sym, ◌∙◌, true, arith, codes}
use Rattle.std.proofs.lemmas.List.{drop_all, reverse-append, reverse-reverse, map-append}
use Rattle.mc_term_data.specs.Plain.{plain_term, term_list, at, no_term, more_terms, App}
use Rattle.mc_term_data.specs.declared.term.Term.{Term}
use Rattle.mc_clause_syntax.specs.States.{names_of}
use Rattle.mc_state_variables.specs.Updates.{leave_out, updated}
use Rattle.mc_state_variables.specs.Versions.{renewed, handed, closings, seen_outside, and_then}
use Rattle.mc_state_variables.specs.Numbered.{Part, written, on_text, goal_of, goals_of, goal_parts, conditional, negated, quantifier}
use Rattle.mc_state_variables.specs.declared.pieces.Piece.{Piece}
use Rattle.mc_state_variables.specs.code.Helds.{plain_helds, listed}
use Rattle.mc_state_variables.specs.code.Steps.{gone_on, stepwise, steps_of, wholes_of}
use Rattle.mc_state_variables.specs.code.Pieces.{plain_piece, pieces_of, gathered, alone, is_last}
use Rattle.mc_state_variables.specs.code.Conditions.{condition_of, tried_goal, then_of}
use Rattle.mc_state_variables.proofs.Closing.{item_at}
use Rattle.mc_state_variables.proofs.Lists.{terms-pushed, terms_from_list}
use Rattle.mc_state_variables.proofs.Forms.{part_updates}
use Rattle.mc_state_variables.proofs.Orders.{gone_on_is}
use Rattle.mc_state_variables.proofs.Disjunctions.{pieced, disjunction_is}
use Rattle.mc_state_variables.proofs.Written.{if_ok, conjunction_is, pieces_are, arrow_is, quantified_is, whole_is, implied_is, both_ways_is}
use Rattle.std.proofs.lemmas.Grind.{common_steps}
use Rattle.mc_state_variables.proofs.ShortParts.{has_two, short_of_two}
use Rattle.mc_state_variables.proofs.numbering.Numbering.+goals.Goals as goal

pub conjunction-loop-goal-preserved : goal.conjunction-loop-goal-preserved
conjunction-loop-goal-preserved t c =
    let i = c.loop-goal.goal-index in
    let goals = c.args.goals.now in
    c.in_ok-conjunct.ensures {u = tt} (goal_parts (goals_of (term_list (map plain_term (drop (i + 1) goals)))))
    ∙ ap (λ ts. gone_on c.loop-goal.written (goal_parts (goals_of (term_list (map plain_term ts)))) c.loop-goal.self.next)
    (sym (item_at goals i c.goal-item.result c.loop-goal-test.true c.goal-item.is))
    ∙ c.loop-goal.invariant

pub conjunction-returns : goal.conjunction-returns
conjunction-returns t c =
    let goals = c.args.goals.now in
    let ts = term_list (map plain_term goals) in
    let l = c.args.line in
    let made = c.in_ok-written.written in
    let now = c.loop-goal.written in
    let next = c.loop-goal.self.next in
    let none : drop c.loop-goal.goal-index goals ≡ [] = drop_all c.loop-goal.goal-index goals (omega arith) in
    let begun : gone_on made (goal_parts (goals_of ts)) c.args.self.now.next ≡ on_text listed (stepwise (steps_of ts) (goal_parts (goals_of ts)) (plain_helds c.args.held.now) c.args.self.now.next) =
    ap (λ xs. on_text (λ us. map plain_term xs ++ listed us) (stepwise (reverse made.steps.items) (goal_parts (goals_of ts)) (plain_helds made.current.items) c.args.self.now.next)) c.in_ok-written.ensures.texts
    ∙ ap₂ (λ ss hs. on_text listed (stepwise (reverse ss) (goal_parts (goals_of ts)) (plain_helds hs) c.args.self.now.next)) c.in_ok-written.ensures.steps c.in_ok-written.ensures.current
    ∙ ap (λ ss. on_text listed (stepwise ss (goal_parts (goals_of ts)) (plain_helds c.args.held.now) c.args.self.now.next)) (reverse-reverse (steps_of ts)) in
    if_ok c.conjunction_term.result _ _ c.conjunction_term.ensures
    (λ x e.
    ap (λ v. written v next) e
    ∙ conjunction_is l ts (map plain_term now.texts.items) (reverse now.steps.items) (plain_helds c.args.held.now) (plain_helds now.current.items) c.args.self.now.next next
    (ap (λ us. gone_on now (goal_parts (goals_of (term_list (map plain_term us)))) next) (sym none)
    ∙ c.loop-goal.invariant
    ∙ begun))

pub conjunct-returns : goal.conjunct-returns
conjunct-returns t c rest =
    let p = (goal_of (plain_term c.args.goal.now)).part in
    let old = c.args.written.now in
    let behind = c.passed.new.goals in
    let passed = c.in_ok-given.ensures {u = tt} in
    let text = c.in_ok-text.text in
    gone_on_is (map plain_term old.texts.items) _ (plain_term text) c.part.new.self.next
    (p.writing (plain_helds c.in_ok-given.given.items) c.passed.new.self.next)
    (stepwise (reverse behind.steps.items) rest (plain_helds behind.current.items)) _
    (ap (map plain_term) ((c.in_ok-push.ensures {u = tt}).items ∙ ap (λ (ts : List Term). ts ++ text ∷ []) passed.texts) ∙ terms-pushed old.texts.items text)
    (c.in_ok-text.ensures {u = tt} ∙ ap (λ hs. p.writing (plain_helds hs) c.passed.new.self.next) c.deref.ensures.value)
    (passed.step p rest)

pub whole-returns : goal.whole-returns
whole-returns t c =
    let g = plain_term c.args.goal.now in
    let around = c.in_ok-around.ensures {u = tt} in
    c.in_ok-text.ensures {u = tt}
    ∙ ap (λ hs. (goal_of g).part.writing (plain_helds hs) c.around_whole.new.self.next) c.deref.ensures.value
    ∙ whole_is g (plain_helds c.args.held.now) (plain_helds c.in_ok-around.around.given.items) c.args.self.now.next c.around_whole.new.self.next around.given around.next

pub disjunction-returns : goal.disjunction-returns
disjunction-returns t c =
    let l = c.args.line in
    ap (λ text. written text c.pieces.new.self.next) c.in_ok-text.ensures
    ∙ ap (on_text (λ ps. alone l (gathered l ps no_term))) (c.in_ok-pieces.ensures {u = tt})
    ∙ disjunction_is l (term_list (map plain_term c.args.goals.now)) (plain_helds c.args.held.now) c.args.self.now.next

pub pieces-loop-goal-preserved : goal.pieces-loop-goal-preserved
pieces-loop-goal-preserved t c =
    let l = c.args.line in
    let i = c.loop-goal.goal-index in
    let goals = c.args.goals.now in
    let item = c.goal-item.result in
    let g = goal_of (plain_term item) in
    let behind = goals_of (term_list (map plain_term (drop (i + 1) goals))) in
    let held = plain_helds c.args.held.now in
    let pieces = c.loop-goal.pieces.items in
    let left = c.pop.new.self.items in
    let whole = c.in-Some.whole in
    let opening = c.in_ok-around.field-0 in
    let piece : Piece = record { text = c.in_ok-text.text; opened = opening.closings } in
    let from = c.loop-goal.self.next in
    let next = c.branch-self.new.self.next in
    ap₂ (λ qs k. on_text (λ ps. qs ++ ps) (pieces_of l (reverse left) opening.wanted k behind held next))
    (ap (map plain_piece) (c.in_ok-push.ensures {u = tt}).items ∙ map-append plain_piece pieces (piece ∷ [])) c.is_conditional-conditional.ensures
    ∙ pieced l (map plain_piece pieces) (plain_piece piece) whole (reverse left) c.loop-goal.wanted opening.wanted c.loop-goal.fresh c.begins-begins.result g behind held from next
    (c.begins-begins.ensures ∙ ap₂ (λ k xs. (c.loop-goal.fresh || k) && not (is_last (reverse xs))) c.is_conditional-conditional.ensures c.deref.ensures.value)
    c.in_ok-around.ensures.wanted c.in_ok-around.ensures.closings (c.in_ok-text.ensures {u = tt})
    ∙ ap₂ (λ ws ts. on_text (λ ps. map plain_piece pieces ++ ps) (pieces_of l ws c.loop-goal.wanted c.loop-goal.fresh (goals_of (term_list (map plain_term ts))) held from))
    (sym (ap reverse c.in-Some.ensures.items ∙ reverse-append left (whole ∷ [])))
    (sym (item_at goals i item c.loop-goal-test.true c.goal-item.is))
    ∙ c.loop-goal.invariant

pub pieces-returns : goal.pieces-returns
pieces-returns t c =
    let l = c.args.line in
    let goals = c.args.goals.now in
    let none : drop c.loop-goal.goal-index goals ≡ [] = drop_all c.loop-goal.goal-index goals (omega arith) in
    let held = plain_helds c.args.held.now in
    let pieces = map plain_piece c.loop-goal.pieces.items in
    pieces_are l pieces (reverse c.loop-goal.wholes.items) c.loop-goal.wanted c.loop-goal.fresh held c.loop-goal.self.next _
    (ap (λ ts. on_text (λ ps. pieces ++ ps) (pieces_of l (reverse c.loop-goal.wholes.items) c.loop-goal.wanted c.loop-goal.fresh (goals_of (term_list (map plain_term ts))) held c.loop-goal.self.next)) (sym none)
    ∙ c.loop-goal.invariant)

pub closed-returns : goal.closed-returns
closed-returns t c =
    let g = plain_term c.args.goal.now in
    let l = c.args.goal.now.line in
    let held = plain_helds c.args.held.now in
    let xs = c.args.wanted.now in
    let p : Part = (goal_of g).part in
    let text = plain_term c.in_ok-text.text in
    if_ok c.and_then.result _ _ c.and_then.ensures
    (λ x e.
    ap (λ v. written v c.part.new.self.next) (e ∙ ap (λ cs. and_then text cs) (c.in_ok-goals.ensures ∙ ap (λ us. closings xs us l held) (sym (part_updates g))))
    ∙ ap (on_text (λ u. and_then u (closings xs p.updates l held))) (c.in_ok-text.ensures {u = tt}))

pub conditional-returns : goal.conditional-returns
conditional-returns t c =
    let l = c.args.line in
    let u = plain_term c.args.then.now in
    let held = plain_helds c.args.held.now in
    let xs = c.args.wanted.now in
    let from = c.args.self.now.next in
    let tried = c.in_ok-tried.ensures {u = tt} in
    c.in_ok-text.ensures {u = tt}
    ∙ arrow_is c.in_ok-tried.tried u xs held l from c.tried.new.self.next tried.around
    ∙ ap (λ d. (conditional l d (goal_of u).part []).writing xs held from) tried.same

pub arrow-returns : goal.arrow-returns
arrow-returns t c =
    let l = c.args.line in
    let u = plain_term c.args.then.now in
    let tried = c.args.tried.now in
    let held = plain_helds c.args.held.now in
    let xs = c.args.wanted.now in
    let next = c.then_part.new.self.next in
    if_ok c.operator.result _ _ c.operator.ensures
    (λ x e.
    ap (λ v. written v next) e
    ∙ ap (on_text (λ v. at (App (codes "->" ∷ []) (more_terms (plain_term c.in_ok-test.test) (more_terms v no_term))) l)) (c.in_ok-result.ensures {u = tt})
    ∙ ap (λ w. on_text (λ v. at (App (codes "->" ∷ []) (more_terms w.text (more_terms v no_term))) l) (then_of tried u xs held l w.next)) (c.in_ok-test.ensures {u = tt}))

pub test-returns : goal.test-returns
test-returns t c =
    let tried = c.args.tried.now in
    let d = condition_of tried in
    let g = tried_goal tried in
    let u = plain_term c.args.then.now in
    let us = updated g ++ updated u in
    if_ok c.quantified.result _ _ c.quantified.ensures
    (λ x e.
    ap (λ v. written v c.part.new.self.next) (e ∙ ap (λ hs. d.quantify (plain_helds hs) us (plain_term c.in_ok-text.text)) c.deref-2.ensures.value)
    ∙ ap (on_text (d.quantify (plain_helds tried.inside.items) us))
    (c.in_ok-text.ensures {u = tt} ∙ ap (λ hs. (goal_of g).part.writing (plain_helds hs) c.args.self.now.next) c.deref.ensures.value))

pub then_part-returns : goal.then_part-returns
then_part-returns t c =
    let tried = c.args.tried.now in
    let l = c.args.line in
    let u = plain_term c.args.then.now in
    let held = plain_helds c.args.held.now in
    let xs = c.args.wanted.now in
    if_ok c.and_then.result _ _ c.and_then.ensures
    (λ x e.
    ap (λ v. written v c.part.new.self.next)
    (e
    ∙ ap (λ cs. and_then (plain_term c.in_ok-result.result) cs)
    (terms_from_list _ _ c.in_ok-goals.ensures
    ∙ ap₂ (λ ns bs. closings xs (leave_out (names_of ns) (updated u)) l (seen_outside (names_of ns) (plain_helds bs) held)) c.deref-2.ensures.value c.deref-3.ensures.value))
    ∙ ap (on_text (λ v. and_then v (closings xs (leave_out (names_of tried.names.items) (updated u)) l (seen_outside (names_of tried.names.items) (plain_helds tried.around.behind.items) held))))
    (c.in_ok-result.ensures {u = tt} ∙ ap (λ hs. (goal_of u).part.writing (plain_helds hs) c.args.self.now.next) c.deref.ensures.value))

pub existential-returns : goal.existential-returns
existential-returns t c =
    let l = c.args.line in
    let q = plain_term c.args.list.now in
    let g = plain_term c.args.goal.now in
    let p : Part = (goal_of g).part in
    let text = plain_term c.in_ok-text.text in
    let next = c.part.new.self.next in
    let from = c.entered_by.new.self.next in
    let entered = c.in_ok-inside.ensures {u = tt} in
    let inside = plain_helds c.in_ok-inside.inside.items in
    if_ok c.some_over.result _ _ c.some_over.ensures
    (λ x e.
    ap (λ v. written v next) (e ∙ ap (λ hs. at (App (codes "some" ∷ []) (more_terms (quantifier (plain_helds hs) (updated g) q) (more_terms text no_term))) l) c.deref-2.ensures.value)
    ∙ quantified_is (codes "some") l q p (updated g) (plain_helds c.args.held.now) inside c.args.self.now.next from text next (sym (part_updates g)) entered.held entered.next
    (c.in_ok-text.ensures {u = tt} ∙ ap (λ hs. p.writing (plain_helds hs) from) c.deref.ensures.value))

pub universal-returns : goal.universal-returns
universal-returns t c =
    let l = c.args.line in
    let q = plain_term c.args.list.now in
    let g = plain_term c.args.goal.now in
    let p : Part = negated (goal_of g).part in
    let text = plain_term c.in_ok-text.text in
    let next = c.whole.new.self.next in
    let from = c.entered_by.new.self.next in
    let entered = c.in_ok-inside.ensures {u = tt} in
    let inside = plain_helds c.in_ok-inside.inside.items in
    if_ok c.all_over.result _ _ c.all_over.ensures
    (λ x e.
    ap (λ v. written v next) (e ∙ ap (λ hs. at (App (codes "all" ∷ []) (more_terms (quantifier (plain_helds hs) [] q) (more_terms text no_term))) l) c.deref-2.ensures.value)
    ∙ quantified_is (codes "all") l q p [] (plain_helds c.args.held.now) inside c.args.self.now.next from text next refl entered.held entered.next
    (c.in_ok-text.ensures {u = tt} ∙ ap (λ hs. p.writing (plain_helds hs) from) c.deref.ensures.value))

pub negation-returns : goal.negation-returns
negation-returns t c =
    let l = c.args.line in
    let w = c.args.name.now in
    if_ok c.over_one.result _ _ c.over_one.ensures
    (λ x e.
    ap (λ v. written v c.whole.new.self.next) e
    ∙ ap (λ v. written (at (App w (more_terms v.text no_term)) l) v.next) (c.in_ok-text.ensures {u = tt}))

pub implied-returns : goal.implied-returns
implied-returns t c =
    let a = plain_term c.args.premise.now in
    let b = plain_term c.args.conclusion.now in
    let p : Part = (goal_of a).part in
    let q : Part = negated (goal_of b).part in
    let held = plain_helds c.args.held.now in
    let from = c.args.self.now.next in
    let first = c.around_whole.new.self.next in
    let middle = c.part.new.self.next in
    let next = c.whole.new.self.next in
    let around = c.in_ok-given.ensures {u = tt} in
    let given = plain_helds c.in_ok-given.field-0.given.items in
    let behind = plain_helds c.in_ok-given.field-0.behind.items in
    if_ok c.operator.result _ _ c.operator.ensures
    (λ x e.
    ap (λ v. written v next) e
    ∙ implied_is c.args.line a b held from (plain_term c.in_ok-left.left) middle behind (plain_term c.in_ok-right.right) next
    (c.in_ok-left.ensures {u = tt} ∙ ap (λ hs. p.writing (plain_helds hs) first) c.deref.ensures.value ∙ whole_is a held given from first around.given around.next)
    (around.behind ∙ ap (λ gs. handed (updated a) gs held) around.given ∙ ap (λ us. handed us (renewed us from held) held) (sym (part_updates a)))
    (c.in_ok-right.ensures {u = tt} ∙ ap (λ hs. q.writing (plain_helds hs) middle) c.deref-2.ensures.value))

pub both_ways-returns : goal.both_ways-returns
both_ways-returns t c =
    let next = c.implied-2.new.self.next in
    if_ok c.both.result _ _ c.both.ensures
    (λ x e.
    ap (λ v. written v next) e
    ∙ both_ways_is c.args.line (plain_term c.args.left.now) (plain_term c.args.right.now) (plain_helds c.args.held.now) c.args.self.now.next
    (plain_term c.in_ok-forth.forth) c.implied.new.self.next (plain_term c.in_ok-back.back) next (c.in_ok-forth.ensures {u = tt}) (c.in_ok-back.ensures {u = tt}))

pub formed-returns-in_default-as_slice : goal.formed-returns-in_default-as_slice
formed-returns-in_default-as_slice t c =
    let short : length c.args.parts.now < 2 = omega (arith, ap length c.as_slice-in-Arrow.ensures.items, c.in_default-as_slice.len_below) in
    if_ok c.over.result _ _ c.over.ensures
    (λ x e. ap (λ v. written v c.args.self.now.next) e ∙ short_of_two c.args.form c.args.name.now c.args.line c.args.parts.now (plain_helds c.args.held.now) c.args.self.now.next (grind (arith, common_steps)) short)

pub formed_apart-returns-in_default-as_slice : goal.formed_apart-returns-in_default-as_slice
formed_apart-returns-in_default-as_slice t c =
    let short : length c.args.parts.now < 2 = omega (arith, ap length c.as_slice.ensures.items, c.in_default-as_slice.len_below) in
    if_ok c.over.result _ _ c.over.ensures
    (λ x e a. ap (λ v. written v c.args.self.now.next) e ∙ short_of_two c.args.form c.args.name.now c.args.line c.args.parts.now (plain_helds c.args.held.now) c.args.self.now.next (ap has_two c.in-Existential.is) short)

pub formed_apart-returns-in_default-as_slice-2 : goal.formed_apart-returns-in_default-as_slice-2
formed_apart-returns-in_default-as_slice-2 t c =
    let short : length c.args.parts.now < 2 = omega (arith, ap length c.as_slice-in-Universal.ensures.items, c.in_default-as_slice-2.len_below) in
    if_ok c.over-in_default-as_slice-2.result _ _ c.over-in_default-as_slice-2.ensures
    (λ x e a. ap (λ v. written v c.args.self.now.next) e ∙ short_of_two c.args.form c.args.name.now c.args.line c.args.parts.now (plain_helds c.args.held.now) c.args.self.now.next (ap has_two c.in-Universal.is) short)

pub formed_apart-returns-in_default-as_slice-3 : goal.formed_apart-returns-in_default-as_slice-3
formed_apart-returns-in_default-as_slice-3 t c =
    let short : length c.args.parts.now < 2 = omega (arith, ap length c.as_slice-in-Implication.ensures.items, c.in_default-as_slice-3.len_below) in
    if_ok c.over-in_default-as_slice-3.result _ _ c.over-in_default-as_slice-3.ensures
    (λ x e a. ap (λ v. written v c.args.self.now.next) e ∙ short_of_two c.args.form c.args.name.now c.args.line c.args.parts.now (plain_helds c.args.held.now) c.args.self.now.next (ap has_two c.in-Implication.is) short)

pub formed_apart-returns-in_default-as_slice-4 : goal.formed_apart-returns-in_default-as_slice-4
formed_apart-returns-in_default-as_slice-4 t c =
    let short : length c.args.parts.now < 2 = omega (arith, ap length c.as_slice-in-ReverseImplication.ensures.items, c.in_default-as_slice-4.len_below) in
    if_ok c.over-in_default-as_slice-4.result _ _ c.over-in_default-as_slice-4.ensures
    (λ x e a. ap (λ v. written v c.args.self.now.next) e ∙ short_of_two c.args.form c.args.name.now c.args.line c.args.parts.now (plain_helds c.args.held.now) c.args.self.now.next (ap has_two c.in-ReverseImplication.is) short)

pub formed_apart-returns-in_default-as_slice-5 : goal.formed_apart-returns-in_default-as_slice-5
formed_apart-returns-in_default-as_slice-5 t c =
    let short : length c.args.parts.now < 2 = omega (arith, ap length c.as_slice-in-Equivalence.ensures.items, c.in_default-as_slice-5.len_below) in
    if_ok c.over-in_default-as_slice-5.result _ _ c.over-in_default-as_slice-5.ensures
    (λ x e a. ap (λ v. written v c.args.self.now.next) e ∙ short_of_two c.args.form c.args.name.now c.args.line c.args.parts.now (plain_helds c.args.held.now) c.args.self.now.next (ap has_two c.in-Equivalence.is) short)
