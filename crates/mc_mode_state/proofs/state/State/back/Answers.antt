use Rattle.std.proofs.Common.{◌≡◌, ◌≤◌, ◌++◌, ◌∷◌, [], length, ap, sym, subst, arith, length-append}
use Rattle.mc_mode_state.specs.States.{TrailWithin}
use Rattle.mc_mode_state.proofs.Rewinds.{leads-popped, back-at, within-popped}
use Rattle.mc_mode_state.proofs.state.State.back.Goals as goal

pub put_back-requires : goal.put_back-requires
put_back-requires c =
    let f : c.loop-self.self.trail.items ≡ c.pop.new.self.items ++ (c.in-Some.x, c.in-Some.was) ∷ [] = cc c.in-Some.ensures.items in
    (within-popped (length c.loop-self.self.insts.items) c.pop.new.self.items (c.in-Some.x, c.in-Some.was) (subst (TrailWithin (length c.loop-self.self.insts.items)) f c.loop-self.invariant.within)).1

pub loop-self-preserved-in-Some : goal.loop-self-preserved-in-Some
loop-self-preserved-in-Some c =
    let f : c.loop-self.self.trail.items ≡ c.put_back.new.self.trail.items ++ (c.in-Some.x, c.in-Some.was) ∷ [] = cc (c.in-Some.ensures.items, c.put_back.ensures.trail) in
    let h : c.args.trail ≤ length c.put_back.new.self.trail.items = omega (arith, c.loop-self-test.true, c.len.ensures, ap length f, length-append c.put_back.new.self.trail.items ((c.in-Some.x, c.in-Some.was) ∷ [])) in
    let w = within-popped (length c.loop-self.self.insts.items) c.put_back.new.self.trail.items (c.in-Some.x, c.in-Some.was) (subst (TrailWithin (length c.loop-self.self.insts.items)) f c.loop-self.invariant.within) in
    record {
      within = subst (λ n. TrailWithin n c.put_back.new.self.trail.items) (sym c.put_back.ensures.count) w.0;
      count = cc (c.put_back.ensures.count, c.loop-self.invariant.count);
      outside = cc (c.put_back.ensures.outside, c.loop-self.invariant.outside);
      types = cc (c.put_back.ensures.types, c.loop-self.invariant.types);
      nodes = cc (c.put_back.ensures.nodes, c.loop-self.invariant.nodes);
      leads = λ s p e. leads-popped s c.loop-self.self c.put_back.new.self c.in-Some.x c.in-Some.was c.put_back.ensures.point f (omega (arith, h, e)) (c.loop-self.invariant.leads s p e);
      ends = λ s p e. h;
    }

pub returns-clause-back : goal.returns-clause-back
returns-clause-back c = λ s p e. back-at s c.loop-self.self (c.loop-self.invariant.leads s p e) (omega (arith, e, c.len.ensures, c.loop-self-test.false))
