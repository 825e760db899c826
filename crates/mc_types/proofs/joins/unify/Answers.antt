use Rattle.std.proofs.Common.{◌≡◌, length, [], ◌∷◌, ◌++◌, sym, ◌∙◌, ap, arith, Some}
use Rattle.std.proofs.lemmas.List.Elements.{All-pop, All-push}
use Rattle.mc_types.specs.code.Joins.{PairWithin}
use Rattle.mc_types.proofs.Noted.{grown_more}
use Rattle.mc_types.proofs.Nothing.{nothing_more}
use Rattle.mc_types.proofs.Turns.{means, turn_same, turn_done, turn_parts, turn_clash, says_last}
use Rattle.mc_types.proofs.joins.unify.Goals as goal

pub returns-in_err-join-clause-grown : goal.returns-in_err-join-clause-grown
returns-in_err-join-clause-grown c = grown_more _ _ _ _ _ _ c.loop-pair.invariant.grown c.in_err-join.ensures.grown

pub loop-pair-preserved-in-Done : goal.loop-pair-preserved-in-Done
loop-pair-preserved-in-Done c =
    let s = rw c.in-Done.is at c.in_ok-join.ensures.says in
    record {
      in_order = c.join.ensures.in_order;
      len = c.join.ensures.len ∙ c.loop-pair.invariant.len;
      grown = grown_more _ _ _ _ _ _ c.loop-pair.invariant.grown c.join.ensures.grown;
      nothing_new = nothing_more _ _ _ c.loop-pair.invariant.nothing_new c.join.ensures.nothing_new;
      within = (All-pop (PairWithin (length c.args.g.now.cells.items)) _ _ (Some c.in-Some.pair) c.in-Some.ensures.items c.loop-pair.invariant.within).0;
      says = turn_done _ _ _ _ _ _ c.in-Some.pair c.in-Some.ensures.items c.loop-pair.invariant.says c.min-low.result c.max-high.result
          (means _ c.in-Some.pair c.root-a.result c.root-b.result _ _ c.min-low.ensures c.max-high.ensures c.root-a.ensures.same c.root-b.ensures.same) _ s.0;
    }

pub loop-pair-preserved-in-Continue-branch-5 : goal.loop-pair-preserved-in-Continue-branch-5
loop-pair-preserved-in-Continue-branch-5 c =
    let s = rw c.in-Parts.is at c.in_ok-join.ensures.says in
    let P = PairWithin (length c.args.g.now.cells.items) in
    let rest = (All-pop P _ _ (Some c.in-Some.pair) c.in-Some.ensures.items c.loop-pair.invariant.within).0 in
    let len = c.loop-pair.invariant.len in
    let items = c.in_ok-push-in-Parts-2.ensures.items ∙ ap (λ ps. ps ++ c.in-Parts.q ∷ []) c.in_ok-push-in-Parts.ensures.items in
    record {
      in_order = c.join.ensures.in_order;
      len = c.join.ensures.len ∙ c.loop-pair.invariant.len;
      grown = grown_more _ _ _ _ _ _ c.loop-pair.invariant.grown c.join.ensures.grown;
      nothing_new = nothing_more _ _ _ c.loop-pair.invariant.nothing_new c.join.ensures.nothing_new;
      within = rw items (All-push P _ c.in-Parts.q (All-push P _ c.in-Parts.p rest (rw len at s.2)) (rw len at s.3));
      says = rw items
          (turn_parts _ _ _ _ _ _ c.in-Some.pair c.in-Some.ensures.items c.loop-pair.invariant.says c.min-low.result c.max-high.result
          (means _ c.in-Some.pair c.root-a.result c.root-b.result _ _ c.min-low.ensures c.max-high.ensures c.root-a.ensures.same c.root-b.ensures.same) _ c.in-Parts.p c.in-Parts.q s.0);
    }

pub returns-in_err-push-in-Parts-2-clause-grown : goal.returns-in_err-push-in-Parts-2-clause-grown
returns-in_err-push-in-Parts-2-clause-grown c = grown_more _ _ _ _ _ _ c.loop-pair.invariant.grown c.join.ensures.grown

pub returns-in-Clash-clause-grown : goal.returns-in-Clash-clause-grown
returns-in-Clash-clause-grown c = grown_more _ _ _ _ _ _ c.loop-pair.invariant.grown c.join.ensures.grown

pub returns-in-Clash-clause-answer : goal.returns-in-Clash-clause-answer
returns-in-Clash-clause-answer c =
    let s = rw c.in-Clash.is at c.in_ok-join.ensures.says in
    turn_clash _ _ _ _ _ _ c.in-Some.pair c.in-Some.ensures.items c.loop-pair.invariant.says c.min-low.result c.max-high.result
    (means _ c.in-Some.pair c.root-a.result c.root-b.result _ _ c.min-low.ensures c.max-high.ensures c.root-a.ensures.same c.root-b.ensures.same) c.join.new.g.cells.items s

pub loop-pair-preserved : goal.loop-pair-preserved
loop-pair-preserved c = record {
  in_order = c.loop-pair.invariant.in_order;
  len = c.loop-pair.invariant.len;
  grown = c.loop-pair.invariant.grown;
  nothing_new = c.loop-pair.invariant.nothing_new;
  within = (All-pop (PairWithin (length c.args.g.now.cells.items)) _ _ (Some c.in-Some.pair) c.in-Some.ensures.items c.loop-pair.invariant.within).0;
  says = turn_same _ _ _ _ _ _ c.in-Some.pair c.in-Some.ensures.items c.loop-pair.invariant.says (λ ρ h. c.root-a.ensures.same ρ h ∙ ap ρ c.if-a-b.false ∙ sym (c.root-b.ensures.same ρ h));
}

pub returns-clause-answer : goal.returns-clause-answer
returns-clause-answer c = says_last _ _ _ _ _ c.loop-pair.invariant.says (let e : length c.loop-pair.work.items ≡ 0 = omega (arith, c.in_default.ensures.cases.0) in e)
