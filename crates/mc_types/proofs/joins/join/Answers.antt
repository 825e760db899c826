use Rattle.std.proofs.Common.{◌≡◌, ◌<◌, ℕ, List, length, slice_index_or, sym, ◌∙◌, ap, refl, subst, arith, length-set}
use Rattle.std.proofs.lemmas.List.{get_or_read}
use Rattle.mc_types.specs.Holds.{cell_at, IsRoot, CellInOrder}
use Rattle.mc_types.specs.declared.cells.Cell.{Cell}
use Rattle.mc_types.specs.declared.cells.Cell.TheVariants.{Free, Same, Named, Rigid, App}
use Rattle.mc_types.proofs.Noted.{grown_none, grown_put}
use Rattle.mc_types.proofs.Overwritten.{in_order-set, moved_in_order, moved_and_joined}
use Rattle.std.proofs.lemmas.Result.{IfOk-from_err}
use Rattle.mc_types.proofs.Joining.{says_free, says_equal, says_moved, says_parts}
use Rattle.mc_types.proofs.Nothing.{nothing_joined, nothing_moved, nothing_moved_and_joined}
use Rattle.mc_types.proofs.joins.join.Goals as goal

read : (cells : List Cell) (i : ℕ) (x : Cell) → i < length cells → x ≡ slice_index_or cells i x → cell_at cells i ≡ x
read cells i x lt e = sym (get_or_read cells i x lt e Free)

pub returns-in-Free-clause-grown : goal.returns-in-Free-clause-grown
returns-in-Free-clause-grown c = rw (c.in_ok-put.ensures.cells, c.in_ok-put.ensures.changes) (grown_put _ _ _ _ c.args.high (Same c.args.low) _ refl refl (grown_none _ _))

pub returns-in-Free-clause-says : goal.returns-in-Free-clause-says
returns-in-Free-clause-says c =
    rw c.in_ok-put.ensures.cells
    (says_free c.args.g.now.cells.items c.args.low c.args.high c.requires.below c.requires.place
    (read c.args.g.now.cells.items c.args.high c.index-high_cell.result.now c.requires.place c.index-high_cell.ensures ∙ c.in-Free.is))

pub returns-in_err-put-3 : goal.returns-in_err-put-3
returns-in_err-put-3 c =
    let highs = read _ c.args.high c.index-high_cell.result.now c.requires.place c.index-high_cell.ensures in
    record {
      grown = rw (c.in_err-put-3.ensures.cells_stay, c.in_err-put-3.ensures.changes_stay, c.in_ok-put-2.ensures.cells, c.in_ok-put-2.ensures.changes) (grown_put _ _ _ _ c.args.low _ _ refl refl (grown_none _ _));
      in_order = rw (c.in_err-put-3.ensures.cells_stay, c.in_ok-put-2.ensures.cells) (moved_in_order _ c.args.low c.args.high _ c.requires.below c.requires.place highs c.requires.high_root c.requires.in_order);
      len = rw (c.in_err-put-3.ensures.cells_stay, c.in_ok-put-2.ensures.cells) (length-set _ _ _);
      nothing_new = rw (c.in_err-put-3.ensures.cells_stay, c.in_ok-put-2.ensures.cells) (nothing_moved _ c.args.low c.args.high _ (omega arith) (read _ c.args.low c.index-low_cell.result.now (omega arith) c.index-low_cell.ensures ∙ c.in-Free-low_cell.is) highs);
      says = IfOk-from_err _ _ c.from_residual-in_err-put-3.ensures.0;
    }

pub returns-in-Free-low_cell : goal.returns-in-Free-low_cell
returns-in-Free-low_cell c =
    let place : c.args.low < length c.args.g.now.cells.items = omega arith in
    let highs = read _ c.args.high c.index-high_cell.result.now c.requires.place c.index-high_cell.ensures in
    record {
      grown = rw (c.in_ok-put-3.ensures.cells, c.in_ok-put-3.ensures.changes, c.in_ok-put-2.ensures.cells, c.in_ok-put-2.ensures.changes)
          (grown_put _ _ _ _ c.args.high (Same c.args.low) _ refl refl (grown_put _ _ _ _ c.args.low _ _ refl refl (grown_none _ _)));
      in_order = rw (c.in_ok-put-3.ensures.cells, c.in_ok-put-2.ensures.cells) (moved_and_joined _ c.args.low c.args.high _ c.requires.below c.requires.place highs c.requires.high_root c.requires.in_order);
      len = rw (c.in_ok-put-3.ensures.cells, c.in_ok-put-2.ensures.cells) (length-set _ _ _ ∙ length-set _ _ _);
      nothing_new = rw (c.in_ok-put-3.ensures.cells, c.in_ok-put-2.ensures.cells) (nothing_moved_and_joined _ c.args.low c.args.high _ place (omega (arith, length-set c.args.g.now.cells.items c.args.low c.index-high_cell.result.now)) (read _ c.args.low c.index-low_cell.result.now place c.index-low_cell.ensures ∙ c.in-Free-low_cell.is) highs);
      says = rw (c.in_ok-put-3.ensures.cells, c.in_ok-put-2.ensures.cells)
          (says_moved c.args.g.now.cells.items c.args.low c.args.high c.requires.below c.requires.place c.index-high_cell.result.now (let P : Cell → Type 0 = λ d. IsRoot d in subst P highs c.requires.high_root)
          (read _ c.args.low c.index-low_cell.result.now place c.index-low_cell.ensures ∙ c.in-Free-low_cell.is) highs);
    }

pub returns-in_ok-put-in-Named-Named : goal.returns-in_ok-put-in-Named-Named
returns-in_ok-put-in-Named-Named c =
    let cells = c.args.g.now.cells.items in
    let place : c.args.low < length cells = omega arith in
    let lows = read cells c.args.low c.index-low_cell.result.now place c.index-low_cell.ensures in
    let highs = read cells c.args.high c.index-high_cell.result.now c.requires.place c.index-high_cell.ensures in
    record {
      grown = rw (c.in_ok-put-in-Named-Named.ensures.cells, c.in_ok-put-in-Named-Named.ensures.changes) (grown_put _ _ _ _ c.args.high (Same c.args.low) _ refl refl (grown_none _ _));
      in_order = rw c.in_ok-put-in-Named-Named.ensures.cells (in_order-set cells c.args.high (Same c.args.low) c.requires.place c.requires.in_order c.requires.below);
      len = rw c.in_ok-put-in-Named-Named.ensures.cells (length-set _ _ _);
      nothing_new = rw c.in_ok-put-in-Named-Named.ensures.cells (nothing_joined cells c.args.low c.args.high c.requires.place);
      says = rw c.in_ok-put-in-Named-Named.ensures.cells (says_equal cells c.args.low c.args.high c.requires.below c.requires.place (Named c.in-Named-Named.m) tt (lows ∙ c.in-Named-Named.is-0) (highs ∙ c.in-Named-Named.is-1 ∙ ap Named (sym (c.is.ensures.0 c.if-is.true))));
    }

pub returns-in_ok-put-in-Rigid-Rigid : goal.returns-in_ok-put-in-Rigid-Rigid
returns-in_ok-put-in-Rigid-Rigid c =
    let cells = c.args.g.now.cells.items in
    let place : c.args.low < length cells = omega arith in
    let lows = read cells c.args.low c.index-low_cell.result.now place c.index-low_cell.ensures in
    let highs = read cells c.args.high c.index-high_cell.result.now c.requires.place c.index-high_cell.ensures in
    record {
      grown = rw (c.in_ok-put-in-Rigid-Rigid.ensures.cells, c.in_ok-put-in-Rigid-Rigid.ensures.changes) (grown_put _ _ _ _ c.args.high (Same c.args.low) _ refl refl (grown_none _ _));
      in_order = rw c.in_ok-put-in-Rigid-Rigid.ensures.cells (in_order-set cells c.args.high (Same c.args.low) c.requires.place c.requires.in_order c.requires.below);
      len = rw c.in_ok-put-in-Rigid-Rigid.ensures.cells (length-set _ _ _);
      nothing_new = rw c.in_ok-put-in-Rigid-Rigid.ensures.cells (nothing_joined cells c.args.low c.args.high c.requires.place);
      says = rw c.in_ok-put-in-Rigid-Rigid.ensures.cells (says_equal cells c.args.low c.args.high c.requires.below c.requires.place (Rigid c.in-Rigid-Rigid.m) tt (lows ∙ c.in-Rigid-Rigid.is-0) (highs ∙ c.in-Rigid-Rigid.is-1 ∙ ap Rigid (sym c.if-m-n.true)));
    }

pub returns-in_ok-put-in-App-App : goal.returns-in_ok-put-in-App-App
returns-in_ok-put-in-App-App c =
    let cells = c.args.g.now.cells.items in
    let place : c.args.low < length cells = omega arith in
    let lows = read cells c.args.low c.index-low_cell.result.now place c.index-low_cell.ensures in
    let highs = read cells c.args.high c.index-high_cell.result.now c.requires.place c.index-high_cell.ensures in
    let e : cell_at cells c.args.low ≡ App c.in-App-App.f c.in-App-App.x = lows ∙ c.in-App-App.is-0 in
    let g : cell_at cells c.args.high ≡ App c.in-App-App.h c.in-App-App.y = highs ∙ c.in-App-App.is-1 in
    let P : ℕ → Cell → Type 0 = λ i d. CellInOrder (length cells) i d in
    let low_parts : CellInOrder (length cells) c.args.low (App c.in-App-App.f c.in-App-App.x) = subst (P c.args.low) e (c.requires.in_order c.args.low) in
    let high_parts : CellInOrder (length cells) c.args.high (App c.in-App-App.h c.in-App-App.y) = subst (P c.args.high) g (c.requires.in_order c.args.high) in
    record {
      grown = rw (c.in_ok-put-in-App-App.ensures.cells, c.in_ok-put-in-App-App.ensures.changes) (grown_put _ _ _ _ c.args.high (Same c.args.low) _ refl refl (grown_none _ _));
      in_order = rw c.in_ok-put-in-App-App.ensures.cells (in_order-set cells c.args.high (Same c.args.low) c.requires.place c.requires.in_order c.requires.below);
      len = rw c.in_ok-put-in-App-App.ensures.cells (length-set _ _ _);
      nothing_new = rw c.in_ok-put-in-App-App.ensures.cells (nothing_joined cells c.args.low c.args.high c.requires.place);
      says = rw c.in_ok-put-in-App-App.ensures.cells (says_parts cells c.args.low c.args.high c.requires.below c.requires.place c.in-App-App.f c.in-App-App.x c.in-App-App.h c.in-App-App.y _ _ refl refl refl refl low_parts.0 low_parts.1 high_parts.0 high_parts.1 e g);
    }

pub returns-in-Free-clause-nothing_new : goal.returns-in-Free-clause-nothing_new
returns-in-Free-clause-nothing_new c = rw c.in_ok-put.ensures.cells (nothing_joined _ c.args.low c.args.high c.requires.place)
