use Rattle.std.proofs.Common.{◌≡◌, ◌∙◌, List, ℕ, ◌∷◌, [], true, ap, sym, subst}
use Rattle.std.specs.List.{All}
use Rattle.mc_values.specs.Heap.{value_at, values_at}
use Rattle.mc_model.specs.Builtins.{outcome}
use Rattle.mc_model.specs.Stream.{gather}
use Rattle.mc_builtins.specs.Answers.{known, Tells, output_at, plain_exception}
use Rattle.mc_plain.specs.Values.{IsHeld}
use Rattle.mc_plain.specs.Frames.{bindings, given}
use Rattle.mc_plain.proofs.Acting.{of_held, gives_held, writes_held, acted_gives, acted_writes, acted_fails, acted_throws, acted_reads}
use Rattle.mc_plain.proofs.Growth.{live_from_held, are_held_grow}
use Rattle.mc_plain.proofs.apply.applied.Goals as goal

pub apply-requires-clause-values : goal.apply-requires-clause-values
apply-requires-clause-values c =
    let P = c.args.library.now.program.now in
    let h = c.args.heap.now in
    of_held P h c.as_slice.result.now (subst (λ (l : List ℕ). All (IsHeld P h) l) (sym c.as_slice.ensures.value) (c.gather.ensures.held P h c.requires.frame))

pub returns-in_ok-gave-in-Gives-clause-does : goal.returns-in_ok-gave-in-Gives-clause-does
returns-in_ok-gave-in-Gives-clause-does c =
    let h = c.args.heap.now in
    let k = c.apply.new.heap in
    let P = c.args.library.now.program.now in
    let frame = c.args.frame.now.items in
    let xs = c.args.call.now.inputs.now in
    let refs = c.as_slice.result.now in
    let tells = subst (λ a. Tells k (λ input. outcome (known c.args.library.now) input c.args.call.now.op (values_at h refs)) a) c.in-Gives.is (c.in_ok-output.ensures {u = tt}).tells in
    let all : gather xs (bindings h frame) ≡ given true (values_at h refs) =
    (c.in_ok-gather.ensures {u = tt}).gathers h ∙ ap (λ b. given b (values_at h c.gather.new.refs.items)) c.if-not-branch.false ∙ ap (λ (l : List ℕ). given true (values_at h l)) (sym c.as_slice.ensures.value) in
    acted_gives (λ input. outcome (known c.args.library.now) input c.args.call.now.op) h k c.apply.ensures.keeps frame c.gave.new.frame.items (live_from_held P h frame c.requires.frame) xs c.args.call.now.outputs.now (values_at h refs) all (output_at k c.in-Gives.output) c.in_ok-gave-in-Gives.field-0 tells.1 (c.in_ok-gave-in-Gives.ensures {u = tt}).does

pub returns-in_ok-gave-in-Gives-clause-held : goal.returns-in_ok-gave-in-Gives-clause-held
returns-in_ok-gave-in-Gives-clause-held c lists =
    let h = c.args.heap.now in
    let k = c.apply.new.heap in
    let P = c.args.library.now.program.now in
    let frame = c.args.frame.now.items in
    let xs = c.args.call.now.inputs.now in
    let refs = c.as_slice.result.now in
    let tells = subst (λ a. Tells k (λ input. outcome (known c.args.library.now) input c.args.call.now.op (values_at h refs)) a) c.in-Gives.is (c.in_ok-output.ensures {u = tt}).tells in
    let held = subst (λ (l : List ℕ). All (IsHeld P h) l) (sym c.as_slice.ensures.value) (c.gather.ensures.held P h c.requires.frame) in
    c.gave.ensures.held P (gives_held c.args.library.now h k c.args.call.now.op lists refs held c.in-Gives.output tells.0 tells.1) (are_held_grow h k c.apply.ensures.keeps P frame c.requires.frame)

pub returns-in_err-gave-in-Gives-clause-held : goal.returns-in_err-gave-in-Gives-clause-held
returns-in_err-gave-in-Gives-clause-held c lists =
    let h = c.args.heap.now in
    let k = c.apply.new.heap in
    let P = c.args.library.now.program.now in
    let frame = c.args.frame.now.items in
    let xs = c.args.call.now.inputs.now in
    let refs = c.as_slice.result.now in
    let tells = subst (λ a. Tells k (λ input. outcome (known c.args.library.now) input c.args.call.now.op (values_at h refs)) a) c.in-Gives.is (c.in_ok-output.ensures {u = tt}).tells in
    let held = subst (λ (l : List ℕ). All (IsHeld P h) l) (sym c.as_slice.ensures.value) (c.gather.ensures.held P h c.requires.frame) in
    c.gave.ensures.held P (gives_held c.args.library.now h k c.args.call.now.op lists refs held c.in-Gives.output tells.0 tells.1) (are_held_grow h k c.apply.ensures.keeps P frame c.requires.frame)

pub returns-in_err-went-in-Wrote-clause-held : goal.returns-in_err-went-in-Wrote-clause-held
returns-in_err-went-in-Wrote-clause-held c lists =
    let h = c.args.heap.now in
    let k = c.apply.new.heap in
    let P = c.args.library.now.program.now in
    let frame = c.args.frame.now.items in
    let xs = c.args.call.now.inputs.now in
    let refs = c.as_slice.result.now in
    let tells = subst (λ a. Tells k (λ input. outcome (known c.args.library.now) input c.args.call.now.op (values_at h refs)) a) c.in-Wrote.is (c.in_ok-output.ensures {u = tt}).tells in
    let held = subst (λ (l : List ℕ). All (IsHeld P h) l) (sym c.as_slice.ensures.value) (c.gather.ensures.held P h c.requires.frame) in
    c.gave-in-Wrote.ensures.held P (writes_held c.args.library.now h k c.args.call.now.op lists refs held c.in-Wrote.text c.in-Wrote.after tells.0 tells.1) (are_held_grow h k c.apply.ensures.keeps P frame c.requires.frame)

pub returns-in-Fails-clause-does : goal.returns-in-Fails-clause-does
returns-in-Fails-clause-does c =
    let h = c.args.heap.now in
    let k = c.apply.new.heap in
    let P = c.args.library.now.program.now in
    let frame = c.args.frame.now.items in
    let xs = c.args.call.now.inputs.now in
    let refs = c.as_slice.result.now in
    let tells = subst (λ a. Tells k (λ input. outcome (known c.args.library.now) input c.args.call.now.op (values_at h refs)) a) c.in-Fails.is (c.in_ok-output.ensures {u = tt}).tells in
    let all : gather xs (bindings h frame) ≡ given true (values_at h refs) =
    (c.in_ok-gather.ensures {u = tt}).gathers h ∙ ap (λ b. given b (values_at h c.gather.new.refs.items)) c.if-not-branch.false ∙ ap (λ (l : List ℕ). given true (values_at h l)) (sym c.as_slice.ensures.value) in
    acted_fails (λ input. outcome (known c.args.library.now) input c.args.call.now.op) h k c.apply.ensures.keeps frame frame (live_from_held P h frame c.requires.frame) xs c.args.call.now.outputs.now (values_at h refs) all tells

pub returns-in-Throws-clause-does : goal.returns-in-Throws-clause-does
returns-in-Throws-clause-does c =
    let h = c.args.heap.now in
    let k = c.apply.new.heap in
    let P = c.args.library.now.program.now in
    let frame = c.args.frame.now.items in
    let xs = c.args.call.now.inputs.now in
    let refs = c.as_slice.result.now in
    let tells = subst (λ a. Tells k (λ input. outcome (known c.args.library.now) input c.args.call.now.op (values_at h refs)) a) c.in-Throws.is (c.in_ok-output.ensures {u = tt}).tells in
    let all : gather xs (bindings h frame) ≡ given true (values_at h refs) =
    (c.in_ok-gather.ensures {u = tt}).gathers h ∙ ap (λ b. given b (values_at h c.gather.new.refs.items)) c.if-not-branch.false ∙ ap (λ (l : List ℕ). given true (values_at h l)) (sym c.as_slice.ensures.value) in
    acted_throws (λ input. outcome (known c.args.library.now) input c.args.call.now.op) h k c.apply.ensures.keeps frame frame (live_from_held P h frame c.requires.frame) xs c.args.call.now.outputs.now (values_at h refs) all (plain_exception c.in-Throws.exception) tells

pub returns-in_ok-went-in-Wrote-clause-does : goal.returns-in_ok-went-in-Wrote-clause-does
returns-in_ok-went-in-Wrote-clause-does c =
    let h = c.args.heap.now in
    let k = c.apply.new.heap in
    let P = c.args.library.now.program.now in
    let frame = c.args.frame.now.items in
    let xs = c.args.call.now.inputs.now in
    let refs = c.as_slice.result.now in
    let tells = subst (λ a. Tells k (λ input. outcome (known c.args.library.now) input c.args.call.now.op (values_at h refs)) a) c.in-Wrote.is (c.in_ok-output.ensures {u = tt}).tells in
    let all : gather xs (bindings h frame) ≡ given true (values_at h refs) =
    (c.in_ok-gather.ensures {u = tt}).gathers h ∙ ap (λ b. given b (values_at h c.gather.new.refs.items)) c.if-not-branch.false ∙ ap (λ (l : List ℕ). given true (values_at h l)) (sym c.as_slice.ensures.value) in
    acted_writes (λ input. outcome (known c.args.library.now) input c.args.call.now.op) h k c.apply.ensures.keeps frame c.gave-in-Wrote.new.frame.items (live_from_held P h frame c.requires.frame) xs c.args.call.now.outputs.now (values_at h refs) all c.in-Wrote.text (value_at k c.in-Wrote.after ∷ []) c.in_ok-went-in-Wrote.went tells.1 (c.in_ok-went-in-Wrote.ensures {u = tt}).does

pub returns-in_ok-went-in-Wrote-clause-held : goal.returns-in_ok-went-in-Wrote-clause-held
returns-in_ok-went-in-Wrote-clause-held c lists =
    let h = c.args.heap.now in
    let k = c.apply.new.heap in
    let P = c.args.library.now.program.now in
    let frame = c.args.frame.now.items in
    let xs = c.args.call.now.inputs.now in
    let refs = c.as_slice.result.now in
    let tells = subst (λ a. Tells k (λ input. outcome (known c.args.library.now) input c.args.call.now.op (values_at h refs)) a) c.in-Wrote.is (c.in_ok-output.ensures {u = tt}).tells in
    let held = subst (λ (l : List ℕ). All (IsHeld P h) l) (sym c.as_slice.ensures.value) (c.gather.ensures.held P h c.requires.frame) in
    c.gave-in-Wrote.ensures.held P (writes_held c.args.library.now h k c.args.call.now.op lists refs held c.in-Wrote.text c.in-Wrote.after tells.0 tells.1) (are_held_grow h k c.apply.ensures.keeps P frame c.requires.frame)

pub returns-in-Reads-clause-does : goal.returns-in-Reads-clause-does
returns-in-Reads-clause-does c =
    let h = c.args.heap.now in
    let k = c.apply.new.heap in
    let P = c.args.library.now.program.now in
    let frame = c.args.frame.now.items in
    let xs = c.args.call.now.inputs.now in
    let refs = c.as_slice.result.now in
    let tells = subst (λ a. Tells k (λ input. outcome (known c.args.library.now) input c.args.call.now.op (values_at h refs)) a) c.in-Reads.is (c.in_ok-output.ensures {u = tt}).tells in
    let all : gather xs (bindings h frame) ≡ given true (values_at h refs) =
    (c.in_ok-gather.ensures {u = tt}).gathers h ∙ ap (λ b. given b (values_at h c.gather.new.refs.items)) c.if-not-branch.false ∙ ap (λ (l : List ℕ). given true (values_at h l)) (sym c.as_slice.ensures.value) in
    acted_reads (λ input. outcome (known c.args.library.now) input c.args.call.now.op) h k c.apply.ensures.keeps frame frame (live_from_held P h frame c.requires.frame) xs c.args.call.now.outputs.now (values_at h refs) all c.in-Reads.from tells
