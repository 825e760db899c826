use Rattle.std.proofs.Common.{◌∙◌, ◌<◌, ◌≤◌, ℕ, length, get_or, sym, arith}
use Rattle.mc_accepted.specs.Arranged.{Point}
use Rattle.mc_mode_state.specs.States.{point_of}
use Rattle.mc_mode_state.proofs.ChangesTold.{done-next, told-next, told-all}
use Rattle.mc_mode_state.proofs.state.State.changes_of.Goals as goal

pub loop-x-init : goal.loop-x-init
loop-x-init c = record {
  told = c.in_ok-changes.ensures.items;
  there = omega arith;
  done = record { done = λ j d h. absurd (omega arith) };
}

pub tell-requires : goal.tell-requires
tell-requires c = c.requires.within c.loop-x.x-index (0, 0) c.loop-x-test.true

pub loop-x-preserved : goal.loop-x-preserved
loop-x-preserved c =
    let t = c.args.self.now in
    let now : Point ℕ = point_of t.insts.items in
    let es = c.args.replaced.now in
    let k = c.loop-x.x-index in
    let i = c.loop-x.invariant in
    let up = c.requires.sorted in
    let below : (get_or es k (0, 0)).0 < length t.insts.items = c.requires.within k (0, 0) c.loop-x-test.true in
    let behind : c.loop-x.next ≤ (get_or es k (0, 0)).0 = c.if-x-next.false in
    record {
      told = told-next es up now c.loop-x.next k (0, 0) c.loop-x.changes.items c.tell.new.changes.items c.loop-x-test.true i.done behind i.told c.in_ok-tell.ensures;
      there = omega (arith, below);
      done = done-next es up now c.loop-x.next k (0, 0) c.loop-x-test.true i.done behind;
    }

pub returns : goal.returns
returns c =
    let t = c.args.self.now in
    let i = c.loop-x.invariant in
    c.in_ok-row.ensures.elements
    ∙ (i.told ∙ sym (told-all c.args.replaced.now c.requires.sorted (point_of t.insts.items) c.loop-x.next c.loop-x.x-index (length t.insts.items) c.loop-x-test.false i.done i.there))
