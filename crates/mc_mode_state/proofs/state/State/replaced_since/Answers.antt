use Rattle.std.proofs.Common.{rules, ◌≡◌, ◌∙◌, ℕ, ◌-◌, length, take, drop, ap, sym, subst, arith}
use Rattle.std.specs.List.Sorted.{IsStableByKey}
use Rattle.std.specs.Ordering.{nat_cmp}
use Rattle.std.proofs.lemmas.Fn.{always_returns_same}
use Rattle.std.proofs.lemmas.List.Sorted.{IsNonDecreasingBy-from_sort_by_key}
use Rattle.mc_mode_state.specs.States.{undo, TrailWithin}
use Rattle.mc_mode_state.proofs.ChangesTold.{rest-since, undo-sorted, within-rest, within-moved}
use Rattle.mc_mode_state.proofs.state.State.replaced_since.Goals as goal

-- what was there before the sort
copied : (c : goal.In_ok-sort_by_key) → c.in_ok-replaced.replaced.items ≡ drop c.args.trail c.args.self.now.trail.items
copied c =
    let items = c.args.self.now.trail.items in
    c.in_ok-replaced.ensures.items
    ∙ (ap (λ es. take (length es - c.min-start.result) (drop c.min-start.result es)) c.deref.ensures.value
    ∙ rest-since c.args.trail c.min-start.result items (omega (arith, c.min-start.ensures, c.len.ensures, c.args.self.now.trail.ok.0)))

pub returns-clause-sorted : goal.returns-clause-sorted
returns-clause-sorted c = IsNonDecreasingBy-from_sort_by_key (λ (e : ℕ × ℕ). e.0) _ c.in_ok-sort_by_key.ensures.sorted (λ a r q k. search rules)

pub returns-clause-within : goal.returns-clause-within
returns-clause-within c =
    let t = c.args.self.now in
    let n = length t.insts.items in
    within-moved n c.in_ok-replaced.replaced.items c.sort_by_key.new.self.items c.in_ok-sort_by_key.ensures.permutation
    (subst (TrailWithin n) (sym (copied c)) (within-rest n c.args.trail t.trail.items c.requires))

pub returns-clause-same : goal.returns-clause-same
returns-clause-same c = λ b x.
    let stable : IsStableByKey (λ (e : ℕ × ℕ). e.0) nat_cmp c.in_ok-replaced.replaced.items c.sort_by_key.new.self.items =
    c.in_ok-sort_by_key.ensures.stable (λ (e : ℕ × ℕ). e.0) (always_returns_same _ (λ a r. r ≡ a.0.now.0) _ (λ a r q k. search rules)) in
    undo-sorted c.in_ok-replaced.replaced.items c.sort_by_key.new.self.items stable b x
    ∙ ap (λ es. undo es b x) (copied c)
