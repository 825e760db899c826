use Rattle.std.proofs.Common.{◌≡◌, ◌∙◌, [], ◌∷◌, length, sym, ap, arith}
use Rattle.mc_accepted.specs.Arranged.{with_change}
use Rattle.mc_mode_state.specs.States.{point_of}
use Rattle.mc_mode_state.proofs.ChangesTold.{changed-alone, other-same, other-else}
use Rattle.mc_mode_state.proofs.state.State.change_of.Goals as goal

pub returns-then-inst-was : goal.returns-then-inst-was
returns-then-inst-was c =
    let now = point_of c.args.self.now.insts.items in
    let x = c.args.x in
    let same : c.args.was ≡ now x = omega arith in
    c.new.ensures
    ∙ sym (changed-alone (length c.args.self.now.insts.items) x c.args.was now c.requires ∙ ap (λ o. with_change x o []) (other-same c.args.was (now x) same))

pub returns : goal.returns
returns c =
    let now = point_of c.args.self.now.insts.items in
    let x = c.args.x in
    let other : (c.args.was ≡ now x → ⊥) = λ e. omega arith in
    c.from_vec.ensures
    ∙ (c.in_ok-changes.ensures.items
    ∙ (ap (λ i. (x, i) ∷ []) c.inst-inst.ensures
    ∙ sym (changed-alone (length c.args.self.now.insts.items) x c.args.was now c.requires ∙ ap (λ o. with_change x o []) (other-else c.args.was (now x) other))))
