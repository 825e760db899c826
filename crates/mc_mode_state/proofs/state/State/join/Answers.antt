use Rattle.std.proofs.Common.{◌∙◌, ℕ, Option, IfNone, length, sym, subst}
use Rattle.mc_procs.specs.Named.{NumbersBelow}
use Rattle.mc_mode_state.specs.States.{is_outside}
use Rattle.mc_mode_state.specs.code.Columns.{FirstDiffering, JoinedSoFar}
use Rattle.mc_mode_state.proofs.Steps.{stepped-refl, stepped-trans}
use Rattle.mc_mode_state.proofs.EndColumns.{ascending-below}
use Rattle.mc_mode_state.proofs.EndsMerged.{leaves-none, leaves-differing, leaves-joined, no-rows, some-rows}
use Rattle.mc_mode_state.proofs.state.State.join.Goals as goal

pub join_seen-requires-clause-seen : goal.join_seen-requires-clause-seen
join_seen-requires-clause-seen c =
    let n = length c.args.self.now.insts.items in
    subst (NumbersBelow n) (sym c.requires.seen) (ascending-below n (is_outside c.args.self.now.outside.items) c.args.own.now c.requires.own)

pub join_seen-requires-clause-some : goal.join_seen-requires-clause-some
join_seen-requires-clause-some c = some-rows c.args.ends.now (sym c.is_empty.ensures ∙ c.if-is_empty.false)

pub free_inner-requires-clause-variables : goal.free_inner-requires-clause-variables
free_inner-requires-clause-variables c =
    subst (λ (n : ℕ). NumbersBelow n c.args.own.now) (sym c.in_ok-x.ensures.count) c.requires.own

pub free_inner-requires-clause-even : goal.free_inner-requires-clause-even
free_inner-requires-clause-even c = c.in_ok-x.ensures.stepped.moved.stands.even

pub returns-then-is_empty-clause-merged : goal.returns-then-is_empty-clause-merged
returns-then-is_empty-clause-merged c = (
  leaves-none c.args.own.now c.args.seen.now c.args.ends.now c.args.procs.now c.args.self.now (no-rows c.args.ends.now (sym c.is_empty.ensures ∙ c.if-is_empty.true)),
  stepped-refl c.args.procs.now c.args.self.now c.requires.stands,
)

pub returns-in-Some-clause-merged : goal.returns-in-Some-clause-merged
returns-in-Some-clause-merged c = (
  leaves-differing c.args.own.now c.args.seen.now c.args.ends.now c.args.procs.now c.join_seen.new.procs c.args.self.now c.join_seen.new.self c.in-Some.x c.requires.seen (subst (FirstDiffering c.args.seen.now c.args.ends.now) c.in-Some.is c.in_ok-x.ensures.differing),
  c.in_ok-x.ensures.stepped,
)

pub returns-in_ok-free_inner-in-None-clause-merged : goal.returns-in_ok-free_inner-in-None-clause-merged
returns-in_ok-free_inner-in-None-clause-merged c =
    let q = c.args.procs.now in
    let r = c.join_seen.new.procs in
    let s = c.args.self.now in
    let t = c.join_seen.new.self in
    let u = c.free_inner.new.self in
    let e = c.in_ok-x.ensures in
    let f = c.in_ok-free_inner-in-None.ensures in
    let m = f.stepped r e.stepped.moved.stands in (
      leaves-joined c.args.own.now c.args.seen.now c.args.ends.now q r s t u c.requires.seen (some-rows c.args.ends.now (sym c.is_empty.ensures ∙ c.if-is_empty.false)) (subst (FirstDiffering c.args.seen.now c.args.ends.now) c.in-None.is e.differing) (subst (λ (o : Option ℕ). IfNone o (JoinedSoFar c.args.seen.now c.args.seen.now c.args.ends.now r s t)) c.in-None.is e.joined) e.stepped m f.point,
      stepped-trans q r r s t u e.stepped m,
    )
