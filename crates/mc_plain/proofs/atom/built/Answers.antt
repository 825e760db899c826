use Rattle.std.proofs.Common.{◌∙◌, List, ℕ, Some, ap, sym, subst}
use Rattle.std.specs.List.{All}
use Rattle.mc_program.specs.Values.{con, vals}
use Rattle.mc_values.specs.Heap.{values_at}
use Rattle.mc_plain.specs.Values.{IsHeld}
use Rattle.mc_plain.specs.Frames.{given}
use Rattle.mc_plain.proofs.Acting.{are_values}
use Rattle.mc_plain.proofs.Binding.{held_set}
use Rattle.mc_plain.proofs.Growth.{are_held_grow}
use Rattle.mc_plain.proofs.Making.{built_says, con_held}
use Rattle.mc_plain.proofs.atom.built.Goals as goal

pub returns-clause-does : goal.returns-clause-does
returns-clause-does c =
    let h = c.args.heap.now in
    let k = c.con.new.self in
    let refs = c.gather.new.refs.items in
    let made = (c.in_ok-r.ensures {u = tt}).ok in
    built_says h k c.con.ensures.keeps c.args.frame.now.items c.requires.frame c.args.x c.args.symbol c.in_ok-r.r c.args.args.now refs c.requires.variable
    ((c.in_ok-gather.ensures {u = tt}).gathers h ∙ ap (λ b. given b (values_at h refs)) c.if-not-branch.false)
    (made.is ∙ ap (λ (l : List ℕ). con c.args.symbol (vals (values_at h l))) c.as_slice.ensures.value)

pub returns-clause-held : goal.returns-clause-held
returns-clause-held c P lt held =
    let h = c.args.heap.now in
    let k = c.con.new.self in
    let frame = c.args.frame.now.items in
    let refs = c.as_slice.result.now in
    let are = are_values P h refs (subst (λ (l : List ℕ). All (IsHeld P h) l) (sym c.as_slice.ensures.value) (c.gather.ensures.held P h held)) in
    held_set P k frame c.args.x (Some c.in_ok-r.r) (are_held_grow h k c.con.ensures.keeps P frame held)
    (con_held P k c.args.symbol c.in_ok-r.r (values_at h refs) (c.in_ok-r.ensures {u = tt}).ok lt are)
