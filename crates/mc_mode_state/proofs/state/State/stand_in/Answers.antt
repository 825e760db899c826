use Rattle.std.proofs.Common.{◌≡◌, ◌∙◌, ◌<◌, ◌+◌, length, ap, sym, subst, arith}
use Rattle.mc_mode_state.specs.Nodes.{type_in}
use Rattle.mc_mode_state.specs.code.Applying.{AlikeIn}
use Rattle.mc_mode_state.proofs.Found.{type-kept}
use Rattle.mc_mode_state.proofs.NewVariables.{alike-later, alike-pushed}
use Rattle.mc_mode_state.proofs.state.State.stand_in.Goals as goal

pub returns-clause-alike : goal.returns-clause-alike
returns-clause-alike c =
    let s = c.args.self.now in
    let t = c.new_variable.new.self in
    let x = c.args.x in
    let z = c.in_ok-z.z in
    let e = c.in_ok-z.ensures in
    let p : length s.types.items ≡ length s.insts.items = c.requires.even.types in
    let r : length t.types.items ≡ length t.insts.items = e.even.types in
    let k : z ≡ length s.insts.items = e.number in
    let n : length t.insts.items ≡ length s.insts.items + 1 = e.count in
    let l : x < length s.insts.items = c.requires.variable in
    subst (AlikeIn t.types.items) (sym c.in_ok-push.ensures.items)
    (alike-pushed t.types.items c.args.tests.now.items z x (omega (arith, k, n, r)) (omega (arith, l, n, r))
    (ap (type_in t.types.items) k ∙ (e.typed ∙ sym (type-kept s.types.items t.types.items x e.types (omega (arith, l, p)))))
    (alike-later s.types.items t.types.items c.args.tests.now.items e.types c.requires.alike))
