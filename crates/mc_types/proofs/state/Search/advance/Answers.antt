use Rattle.std.proofs.Common.{◌≡◌, ◌<◌, ◌≤◌, ◌+◌, ℕ, List, length, vec_len, get_or, sym, ◌∙◌, ap, refl, subst, arith, true, false}
use Rattle.mc_types.specs.declared.steps.Step.{Step}
use Rattle.mc_types.specs.code.Standing.{Tried, choices}
use Rattle.mc_types.proofs.Choosing.{skip_passes, next_less, up_less, NoneLeft, to_try}
use Rattle.mc_types.proofs.Standings.{Here, here_is, standing_represents, standing_more, standing_up, never_live, arrived, up_same, all_passed, choices_push, choices_length}
use Rattle.mc_types.proofs.state.Search.advance.Goals as goal
use Rattle.mc_types.proofs.state.Search.advance.Goals.{After-deref, After-pop, else-k-steps-via-then-k-steps+else-self-len, else-k-steps-via-else-k-steps}

here : (c : After-deref) → Here c.args.signatures.now c.args.steps.now c.args.places (length c.tries.self.path.items) c.tries.self.next c.index-steps-k-then-self-len.result c.index-signatures-index.result
here c = here_is c.args.signatures.now c.args.steps.now c.args.places c.requires.proper c.len-k.result (length c.tries.self.path.items) c.tries.self.next c.index-steps-k.result c.index-steps-k-then-self-len.result c.index.result.now c.index-signatures-index.result
    (omega (arith, c.len-k.ensures)) c.if-k-steps.true c.index-steps-k.is c.index-steps-k-then-self-len.is (let n : c.len.result ≡ vec_len c.index-steps-k.result.candidates = c.len.ensures ∙ ap (λ s. vec_len s.candidates) (sym c.index-steps-k.is) in omega (arith, c.if-self-len.true, n, c.index-steps-k.result.candidates.ok)) c.index.ensures c.index-signatures-index.is

pub try_candidate-requires-clause-in_order : goal.try_candidate-requires-clause-in_order
try_candidate-requires-clause-in_order c = (standing_represents _ _ _ _ _ _ c.tries.invariant.stands.standing).in_order

pub try_candidate-requires-clause-founded : goal.try_candidate-requires-clause-founded
try_candidate-requires-clause-founded c = (standing_represents _ _ _ _ _ _ c.tries.invariant.stands.standing).founded

pub try_candidate-requires-clause-places : goal.try_candidate-requires-clause-places
try_candidate-requires-clause-places c = λ k d lt.
    let P : List ℕ → Type 0 = λ xs. k < length xs → get_or xs k d < c.args.places in
    let within = subst P (sym c.deref.ensures.value) (λ l. (here c).within k d l) lt in
    omega (arith, within, (standing_represents _ _ _ _ _ _ c.tries.invariant.stands.standing).room)

pub returns-then-branch : goal.returns-then-branch
returns-then-branch c =
    let h = here (goal.at.returns-then-branch c).After-deref in
    let now = c.tries.self in
    let step = c.index-steps-k-then-self-len.result in
    let P : List ℕ → Type 0 = λ xs. Tried true now.graph.cells.items now.graph.changes.items c.try_candidate.new.g.cells.items c.try_candidate.new.g.changes.items c.index-signatures-index.result xs in
    let fits = subst P c.deref.ensures.value (rw c.if-branch.true at c.in_ok-try_candidate.ensures.answer) in
    record {
      moved = arrived _ _ _ _ now _ _ c.in_ok-push.ensures.items refl refl
          (standing_more _ _ _ now.path.items _ _ c.tries.invariant.stands.standing now.next step h.at_step h.below h.small c.index-signatures-index.result h.at_signature h.within _ _ _ refl (omega (arith, c.len-cells.ensures)) (omega (arith, c.len-changes.ensures)) fits)
          c.try_candidate.ensures.past (omega arith) c.tries.invariant.same;
    }

pub tries-smaller-then-self-len : goal.tries-smaller-then-self-len
tries-smaller-then-self-len c =
    let h = here (goal.at.tries-smaller-then-self-len c).After-deref in
    let step = c.index-steps-k-then-self-len.result in
    let long = choices_length c.tries.self.path.items in
    let P : Step → Type 0 = λ s. c.tries.self.next < length s.candidates.items in
    next_less c.args.steps.now (choices c.tries.self.path.items) c.tries.self.next step (omega (arith, long, h.below)) (subst P (sym (ap (λ k. get_or c.args.steps.now k step) long ∙ h.at_step step)) h.small)

pub tries-preserved-then-self-len : goal.tries-preserved-then-self-len
tries-preserved-then-self-len c =
    let h = here (goal.at.tries-preserved-then-self-len c).After-deref in
    let now = c.tries.self in
    let step = c.index-steps-k-then-self-len.result in
    let P : List ℕ → Type 0 = λ xs. Tried false now.graph.cells.items now.graph.changes.items c.try_candidate.new.g.cells.items c.try_candidate.new.g.changes.items c.index-signatures-index.result xs in
    let fails = subst P c.deref.ensures.value (rw c.if-branch.false at c.in_ok-try_candidate.ensures.answer) in
    let never = never_live _ _ _ now.path.items _ _ c.tries.invariant.stands.standing now.next step h.at_step h.below h.small c.index-signatures-index.result h.at_signature h.within _ _ fails in
    record {
      stands = record {
        standing = rw (fails.same_cells, fails.same_changes) c.tries.invariant.stands.standing;
        past = c.try_candidate.ensures.past;
        some_round = omega arith;
      };
      same = λ cs live.
          let p = skip_passes c.args.signatures.now c.args.steps.now (choices now.path.items) now.next never cs live in
          let q = c.tries.invariant.same cs live in
          ((λ x. q.0 (p.0 x)), (λ x. p.1 (q.1 x)));
    }

none_left : (c : After-pop) → NoneLeft c.args.signatures.now c.args.steps.now (length c.tries.self.path.items) c.tries.self.next
none_left c = λ s lt at. elim c.else-k-steps.branch [
  | else-k-steps-via-then-k-steps+else-self-len w ↦
      let k : c.len-k.result ≡ length c.tries.self.path.items = omega (arith, c.len-k.ensures) in
      let same : w.index-steps-k.result ≡ s = w.index-steps-k.is ∙ ap (λ n. get_or c.args.steps.now n w.index-steps-k.result) k ∙ at w.index-steps-k.result in
      let P : Step → Type 0 = λ x. length x.candidates.items ≤ c.tries.self.next in
      let n : w.len.result ≡ vec_len w.index-steps-k.result.candidates = w.len.ensures ∙ ap (λ x. vec_len x.candidates) (sym w.index-steps-k.is) in
      subst P same (omega (arith, w.if-self-len.false, n, w.index-steps-k.result.candidates.ok))
  | else-k-steps-via-else-k-steps w ↦ let never : ⊥ = omega (arith, c.len-k.ensures, w.if-k-steps.false) in absurd never
]

pub restore-requires : goal.restore-requires
restore-requires c = (standing_up _ _ _ _ _ _ _ c.in-Some.level c.in-Some.ensures.items c.tries.invariant.stands.standing).enough

pub overflow_add-self-in-Some : goal.overflow_add-self-in-Some
overflow_add-self-in-Some c =
    let u = standing_up c.args.signatures.now c.args.steps.now c.args.places _ _ _ _ c.in-Some.level c.in-Some.ensures.items c.tries.invariant.stands.standing in
    omega (arith, u.valid, u.step.candidates.ok, u.step.candidates.small)

pub tries-smaller : goal.tries-smaller
tries-smaller c =
    let u = standing_up c.args.signatures.now c.args.steps.now c.args.places _ _ _ _ c.in-Some.level c.in-Some.ensures.items c.tries.invariant.stands.standing in
    let long = choices_length c.pop.new.self.items in
    let P : Step → Type 0 = λ s. c.in-Some.level.choice < length s.candidates.items in
    let Q : List ℕ → Type 0 = λ xs. to_try c.args.steps.now (choices c.pop.new.self.items) (c.in-Some.level.choice + 1) < to_try c.args.steps.now xs c.tries.self.next in
    subst Q (sym (ap choices c.in-Some.ensures.items ∙ choices_push c.pop.new.self.items c.in-Some.level))
    (up_less c.args.steps.now (choices c.pop.new.self.items) c.in-Some.level.choice c.tries.self.next u.step (omega (arith, long, u.below)) (subst P (sym (ap (λ k. get_or c.args.steps.now k u.step) long ∙ u.at_step u.step)) u.valid))

pub tries-preserved : goal.tries-preserved
tries-preserved c =
    let u = standing_up c.args.signatures.now c.args.steps.now c.args.places _ _ _ _ c.in-Some.level c.in-Some.ensures.items c.tries.invariant.stands.standing in
    record {
      stands = record {
        standing = rw (c.restore.ensures.cells ∙ u.cells_are, c.restore.ensures.changes ∙ u.changes_are) u.standing;
        past = c.tries.invariant.stands.past;
        some_round = c.tries.invariant.stands.some_round;
      };
      same = λ cs live.
          let p = up_same c.args.signatures.now c.args.steps.now c.args.places _ c.pop.new.self.items c.in-Some.level c.tries.self.next c.in-Some.ensures.items (none_left (goal.at.tries-preserved c).After-pop) cs live in
          let q = c.tries.invariant.same cs live in
          ((λ x. q.0 (p.0 x)), (λ x. p.1 (q.1 x)));
    }

pub returns-in-None : goal.returns-in-None
returns-in-None c = record {
  moved = λ cs live.
      (c.tries.invariant.same cs live).0
      (all_passed c.args.signatures.now c.args.steps.now c.args.places _ c.tries.self.next (let e : length c.tries.self.path.items ≡ 0 = omega (arith, c.in-None.ensures.cases.0, c.tries.self.path.ok) in e) (none_left (goal.at.returns-in-None c).After-pop) cs live);
}
