use Rattle.std.proofs.Common.{◌≡◌, [], ◌∷◌, ◌++◌, ap, sym, ◌∙◌, subst, arith}
use Rattle.mc_program.specs.declared.ty.Ty.{Ty}
use Rattle.mc_mode_state.specs.Nodes.{Once}
use Rattle.mc_mode_state.proofs.Found.{once-pushed}
use Rattle.mc_mode_state.proofs.nodes.Nodes.place_of.Goals as goal

pub returns-clause-once : goal.returns-clause-once
returns-clause-once c =
    let old = c.args.self.now.types.items in
    let e : c.push.new.self.items ≡ old ++ c.in_ok-copy_type.field-0 ∷ [] = c.in_ok-push.ensures.items in
    let f : old ++ c.in_ok-copy_type.field-0 ∷ [] ≡ old ++ c.args.ty.now ∷ [] = ap (λ (x : Ty). old ++ x ∷ []) c.in_ok-copy_type.ensures in
    subst Once (sym (e ∙ f))
    (once-pushed old c.args.ty.now c.requires
    (λ k t l g. c.loop-place.invariant k t (omega (arith, l, c.loop-place-test.false, c.len-place-end.ensures)) g))
