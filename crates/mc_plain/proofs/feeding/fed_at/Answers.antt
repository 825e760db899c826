use Rattle.std.proofs.Common.{ℕ, List, [], ◌∷◌, drop, refl, subst, sym, ap, ◌∙◌}
use Rattle.std.specs.Prelude.{IsSome}
use Rattle.mc_values.specs.declared.heap.Heap.{Heap}
use Rattle.mc_values.specs.Heap.{value_at}
use Rattle.mc_values.specs.Parts.{IsState}
use Rattle.mc_model.specs.EventList.{Read}
use Rattle.mc_model.specs.Builtins.{outcome, line_limit}
use Rattle.mc_model.specs.Stream.{Bindings, outcome_items}
use Rattle.mc_program.specs.declared.builtin.Builtin.TheVariants.{ReadLine}
use Rattle.mc_builtins.specs.Answers.{known}
use Rattle.mc_builtins.specs.Reading.{IsNext}
use Rattle.mc_plain.specs.Frames.{bindings}
use Rattle.mc_plain.specs.Atoms.{IsUnread}
use Rattle.mc_plain.specs.code.Steps.{got_items}
use Rattle.mc_plain.proofs.Growth.{bindings_grow, live_from_held}
use Rattle.mc_plain.proofs.ReadingLemmas.{got_read, state_parts, line_reads, no_state_read}
use Rattle.mc_plain.proofs.feeding.fed_at.Goals as goal

pub returns-in_ok-fed-in-Some-clause-does : goal.returns-in_ok-fed-in-Some-clause-does
returns-in_ok-fed-in-Some-clause-does c =
    λ input from r next.
    let h : Heap = c.args.heap.now in
    let later : Heap = c.read_line.new.heap in
    let frame = c.args.frame.now.items in
    let ys : List ℕ = c.args.outputs.now in
    let e : Bindings = bindings h frame in
    let state : IsState (value_at h c.args.before) = subst IsSome c.in-Some.ensures refl in
    let parts = state_parts (value_at h c.args.before) state in
    got_read ys e (known c.args.library.now) input later (value_at h c.args.before) parts.0 parts.1.0 c.in_ok-answer-in-Some.answer parts.1.1 from r
    (λ q. c.in_ok-answer-in-Some.ensures.tells input parts.0 parts.1.0 parts.1.1 (subst (λ k. IsNext (drop k input) c.args.line.now) q next))
    ∙ ap (Read from)
    (ap (λ (g : Bindings). got_items later ys g c.in_ok-answer-in-Some.answer) (sym (bindings_grow h later c.read_line.ensures.keeps frame (live_from_held c.args.library.now.program.now h frame c.requires.frame)))
    ∙ c.in_ok-fed-in-Some.ensures.does)

pub returns-in_ok-fed-in-Some-clause-unread : goal.returns-in_ok-fed-in-Some-clause-unread
returns-in_ok-fed-in-Some-clause-unread c =
    λ input u.
    let h : Heap = c.args.heap.now in
    let ys : List ℕ = c.args.outputs.now in
    let e : Bindings = bindings h c.args.frame.now.items in
    let parts = state_parts (value_at h c.args.before) (subst IsSome c.in-Some.ensures refl) in
    absurd (line_reads ys e (known c.args.library.now) line_limit parts.1.0 parts.0 (drop parts.1.0 input)
    (subst (λ v. IsUnread (outcome_items ys e (outcome (known c.args.library.now) input ReadLine (v ∷ [])))) parts.1.1 u))

pub returns-in-None-clause-unread : goal.returns-in-None-clause-unread
returns-in-None-clause-unread c =
    λ input u.
    ap (outcome_items c.args.outputs.now (bindings c.args.heap.now c.args.frame.now.items)) (no_state_read (known c.args.library.now) input (value_at c.args.heap.now c.args.before) (sym c.in-None.ensures))
