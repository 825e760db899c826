use Rattle.std.proofs.Common.{◌≡◌, ℕ, List, Vec, Global, length, get_or, take, ap, ap₂, sym, ◌∙◌, arith}
use Rattle.std.proofs.lemmas.List.{length-take}
use Rattle.mc_program.specs.declared.ty.Ty.{Ty}
use Rattle.mc_accepted.specs.Arranged.{Point}
use Rattle.mc_mode_state.specs.declared.state.Snapshot.{Snapshot}
use Rattle.mc_mode_state.proofs.Rewinds.{cut}
use Rattle.mc_mode_state.proofs.state.State.undo.Goals as goal

pub returns-clause-same : goal.returns-clause-same
returns-clause-same c = λ s later even e.
    let n : c.args.mark.variables ≡ length s.insts.items = ap (λ (m : Snapshot). m.variables) e in
    let l : length s.trail.items ≡ c.args.mark.trail = sym (ap (λ (m : Snapshot). m.trail) e) in
    let b = c.back.ensures.back s later.leads l in
    let i = c.back.new.self.insts.items in
    let o = c.back.new.self.outside.items in
    let k : length o ≡ length c.args.self.now.outside.items = ap (λ (v : Vec ℕ Global). length v.items) c.back.ensures.outside in
    record {
      point = λ j x. (ap (λ (is : List ℕ). get_or is x 0) c.truncate.ensures.items ∙ cut i s.insts.items c.args.mark.variables x n (ap (λ (p : Point ℕ). p x) b.0)) j;
      count = omega (arith, ap length c.truncate.ensures.items, length-take c.args.mark.variables i, c.back.ensures.count, later.more, n);
      trail = b.1;
      outside = λ x. ap (λ (os : List ℕ). get_or os x 0) c.truncate-2.ensures.items
          ∙ cut o s.outside.items c.args.mark.variables x (n ∙ sym even.outside) (ap (λ (v : Vec ℕ Global). get_or v.items x 0) c.back.ensures.outside ∙ later.outside x);
      outsides = omega (arith, ap length c.truncate-2.ensures.items, length-take c.args.mark.variables o, k, c.requires.even.outside, even.outside, later.more, n);
      types = c.truncate-3.ensures.items ∙ (ap₂ (λ (m : ℕ) (v : Vec Ty Global). take m v.items) (n ∙ sym even.types) c.back.ensures.types ∙ later.types);
    }
