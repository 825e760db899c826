use Rattle.std.proofs.Common.{◌∙◌, ap, sym}
use Rattle.mc_plain.specs.Frames.{bindings}
use Rattle.mc_plain.specs.Atoms.{went_items}
use Rattle.mc_plain.proofs.Binding.{read_is, both_bound, held_at, held_set}
use Rattle.mc_plain.proofs.atom.same.Goals as goal

pub returns-in_ok-equal-in-Some-Some-clause-does : goal.returns-in_ok-equal-in-Some-Some-clause-does
returns-in_ok-equal-in-Some-Some-clause-does c =
    let h = c.args.heap.now in
    let frame = c.args.frame.now.items in
    both_bound h frame c.args.x c.args.y _ _ c.in_ok-equal-in-Some-Some.field-0
    (read_is frame c.args.x c.index.result.now _ c.requires.left c.index.ensures c.in-Some-Some.is-0)
    (read_is frame c.args.y c.index-2.result.now _ c.requires.right c.index-2.ensures c.in-Some-Some.is-1)
    (c.in_ok-equal-in-Some-Some.ensures {u = tt})
    ∙ ap (λ o. went_items o (bindings h frame)) (sym c.of.ensures)

pub returns-in-None-Some-clause-held : goal.returns-in-None-Some-clause-held
returns-in-None-Some-clause-held c P held =
    let frame = c.args.frame.now.items in
    let e = read_is frame c.args.y c.index-2.result.now _ c.requires.right c.index-2.ensures c.in-None-Some.is-1 in
    held_set P c.args.heap.now frame c.args.x _ held (held_at P c.args.heap.now frame c.args.y _ held c.requires.right e)

pub returns-in-Some-None-clause-held : goal.returns-in-Some-None-clause-held
returns-in-Some-None-clause-held c P held =
    let frame = c.args.frame.now.items in
    let e = read_is frame c.args.x c.index.result.now _ c.requires.left c.index.ensures c.in-Some-None.is-0 in
    held_set P c.args.heap.now frame c.args.y _ held (held_at P c.args.heap.now frame c.args.x _ held c.requires.left e)
