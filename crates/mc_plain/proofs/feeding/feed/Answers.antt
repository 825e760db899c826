use Rattle.std.proofs.Common.{◌≡◌, ℕ, ◌<◌, ◌≤◌, true, List, [], ◌∷◌, Some, length, get_or, subst, sym, ap, ◌∙◌, arith}
use Rattle.mc_program.specs.declared.builtin.Builtin.TheVariants.{ReadLine}
use Rattle.mc_values.specs.declared.heap.Heap.{Heap}
use Rattle.mc_values.specs.Heap.{value_at, values_at}
use Rattle.mc_model.specs.Builtins.{outcome}
use Rattle.mc_model.specs.Stream.{Bindings, apply_items, gather, outcome_items}
use Rattle.mc_builtins.specs.Answers.{known}
use Rattle.mc_plain.specs.Atoms.{ReadsFrom, IsUnread}
use Rattle.mc_plain.specs.Frames.{bindings, given}
use Rattle.mc_plain.proofs.ReadingLemmas.{only_one}
use Rattle.mc_plain.proofs.feeding.feed.Goals as goal

pub returns-in_ok-fed-in-len1-clause-does : goal.returns-in_ok-fed-in-len1-clause-does
returns-in_ok-fed-in-len1-clause-does c =
    λ input from r next.
    let h : Heap = c.args.heap.now in
    let refs : List ℕ = c.as_slice.result.now in
    let ys : List ℕ = c.args.outputs.now in
    let e : Bindings = bindings h c.args.frame.now.items in
    let does = outcome (known c.args.library.now) input ReadLine in
    let some : 1 ≤ length refs = omega arith in
    let few : length refs < 2 = omega arith in
    let all : gather c.args.inputs.now e ≡ Some (values_at h refs) =
    c.in_ok-gather.ensures.gathers h ∙ ap (λ b. given b (values_at h c.gather.new.refs.items)) c.if-not-branch.false ∙ ap (λ (l : List ℕ). given true (values_at h l)) (sym c.as_slice.ensures.value) in
    let q : apply_items does ys e (gather c.args.inputs.now e) ≡ outcome_items ys e (does (value_at h (get_or refs 0 0) ∷ [])) =
    ap (apply_items does ys e) all ∙ ap (λ (l : List ℕ). outcome_items ys e (does (values_at h l))) (only_one refs some few) in
    q ∙ c.in_ok-fed-in-len1.ensures.does input from (subst (ReadsFrom from) q r) next

pub returns-in_ok-fed-in-len1-clause-unread : goal.returns-in_ok-fed-in-len1-clause-unread
returns-in_ok-fed-in-len1-clause-unread c =
    λ input u.
    let h : Heap = c.args.heap.now in
    let refs : List ℕ = c.as_slice.result.now in
    let ys : List ℕ = c.args.outputs.now in
    let e : Bindings = bindings h c.args.frame.now.items in
    let does = outcome (known c.args.library.now) input ReadLine in
    let some : 1 ≤ length refs = omega arith in
    let few : length refs < 2 = omega arith in
    let all : gather c.args.inputs.now e ≡ Some (values_at h refs) =
    c.in_ok-gather.ensures.gathers h ∙ ap (λ b. given b (values_at h c.gather.new.refs.items)) c.if-not-branch.false ∙ ap (λ (l : List ℕ). given true (values_at h l)) (sym c.as_slice.ensures.value) in
    let q : apply_items does ys e (gather c.args.inputs.now e) ≡ outcome_items ys e (does (value_at h (get_or refs 0 0) ∷ [])) =
    ap (apply_items does ys e) all ∙ ap (λ (l : List ℕ). outcome_items ys e (does (values_at h l))) (only_one refs some few) in
    q ∙ c.in_ok-fed-in-len1.ensures.unread input (subst IsUnread q u)
