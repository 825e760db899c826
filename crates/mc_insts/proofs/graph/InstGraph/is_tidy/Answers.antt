use Rattle.std.proofs.Common.{◌≡◌, ℕ, length, refl, ap, subst, false, IsTrue, arith}
use Rattle.mc_accepted.specs.Tidy.{Tidy}
use Rattle.mc_insts.specs.declared.triples.Triple.{Triple}
use Rattle.mc_insts.specs.code.Lists.{Stands}
use Rattle.mc_insts.specs.code.Shown.{plain_graph}
use Rattle.mc_insts.specs.code.Steps.{same_of}
use Rattle.mc_insts.specs.code.Walks.{scene, Within}
use Rattle.mc_insts.proofs.Growth.{stands_on, stands_one, extends_length}
use Rattle.mc_insts.proofs.Walks.{within_more}
use Rattle.mc_insts.proofs.TidyWalks.{alone_more, looked_more, tidy_more, tidy_is_fair, all_tidy}
use Rattle.mc_insts.proofs.graph.InstGraph.is_tidy.Goals as goal

pub loop-t-init : goal.loop-t-init
loop-t-init c =
    let C = scene c.args.self.now c.args.shapes.now in
    let root = same_of c.args.i c.args.i c.args.r in
    let none : length c.new-seen.result ≡ 0 = ap length c.new-seen.ensures in
    let one : (n : ℕ) (u : Triple) → Stands c.insert.new.self n u → root ≡ u =
    λ n u s. stands_one c.insert.new.self n root u (c.in_ok-insert.ensures.last n (omega arith) s.within) s in
    record {
      there = (c.in_ok-insert.field-0, c.in_ok-insert.ensures.stands);
      within = λ n u s. subst (Within C) (one n u s) (record { low = c.requires.inst; high = c.requires.inst; row = c.requires.row });
      alone = λ n u s. subst (λ (t : Triple). t.low ≡ t.high) (one n u s) refl;
      sound = λ P type rows n u s tidy. subst (λ (t : Triple). Tidy P (plain_graph c.args.self.now.functors c.args.self.now.nodes) t.low (type t.row)) (one n u s) tidy;
      done = λ n u lt. absurd (omega arith);
      order = omega arith;
    }

pub returns-then-not-branch : goal.returns-then-not-branch
returns-then-not-branch c =
    λ P type rows.
    let C = scene c.args.self.now c.args.shapes.now in
    let s = c.in-Some.ensures.triple in
    let within = c.loop-t.invariant.within c.loop-t.next c.in-Some.t s in (
      λ x. let no : IsTrue false = x in cc,
      λ tidy.
          absurd
          (c.in_ok-look.ensures.unfair c.if-not-branch.true
          (tidy_is_fair P C type c.requires.proper c.requires.distinct rows c.in-Some.t within
          (c.loop-t.invariant.sound P type rows c.loop-t.next c.in-Some.t s tidy))),
    )

pub loop-t-preserved : goal.loop-t-preserved
loop-t-preserved c =
    let C = scene c.args.self.now c.args.shapes.now in
    let s = c.in-Some.ensures.triple in
    let l = extends_length _ _ c.look.ensures.extends in
    let w = s.within in
    let root = same_of c.args.i c.args.i c.args.r in
    let within = c.loop-t.invariant.within c.loop-t.next c.in-Some.t s in
    record {
      there = (c.loop-t.invariant.there.0, stands_on _ _ c.loop-t.invariant.there.0 root c.look.ensures.extends c.loop-t.invariant.there.1);
      within = within_more C c.requires.proper c.in-Some.t c.loop-t.next _ _ c.look.ensures.extends s c.loop-t.invariant.within c.in_ok-look.ensures.fresh;
      alone = alone_more C c.in-Some.t c.loop-t.next _ _ c.look.ensures.extends s c.loop-t.invariant.alone c.in_ok-look.ensures.fresh;
      sound = λ P type rows. tidy_more P C type c.requires.proper c.requires.distinct rows root c.in-Some.t c.loop-t.next _ _ c.look.ensures.extends s within (c.loop-t.invariant.sound P type rows) c.in_ok-look.ensures.fresh;
      done = looked_more C c.in-Some.t c.loop-t.next _ _ c.look.ensures.extends s c.loop-t.invariant.done (c.in_ok-look.ensures.looked c.if-not-branch.false);
      order = omega arith;
    }

pub returns : goal.returns
returns c =
    λ P type rows.
    let C = scene c.args.self.now c.args.shapes.now in
    let e = c.in_default.ensures.triple in (
      λ x.
          all_tidy P C type c.requires.proper c.requires.distinct rows c.loop-t.seen c.loop-t.invariant.within
          (λ m u s. let w = s.within in c.loop-t.invariant.done m u (omega arith) s)
          c.loop-t.invariant.there.0 (same_of c.args.i c.args.i c.args.r) c.loop-t.invariant.there.1,
      λ x. refl,
    )
