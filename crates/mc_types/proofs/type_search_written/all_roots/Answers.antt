use Rattle.std.proofs.Common.{◌≡◌, ℕ, sym, ◌∙◌, subst, arith}
use Rattle.std.proofs.lemmas.List.{get_or_read}
use Rattle.mc_types.specs.Holds.{cell_at}
use Rattle.mc_types.specs.declared.cells.Cell.TheVariants.{Free, Same}
use Rattle.mc_types.specs.code.RootTable.{HasRoot}
use Rattle.mc_types.proofs.RootTable.{joined_below, lower_root, own_root, next_root}
use Rattle.mc_types.proofs.type_search_written.all_roots.Goals as goal
use Rattle.mc_types.proofs.type_search_written.all_roots.Goals.{in-Same, in_default}

pub loop-at-preserved : goal.loop-at-preserved
loop-at-preserved c =
    let cells = c.args.g.now.cells.items in
    let at = c.loop-at.at in
    let cell = c.index.result.now in
    let read : cell ≡ cell_at cells at = get_or_read cells at cell (omega arith) c.index.ensures Free in
    let P : ℕ → Type 0 = λ root. HasRoot cells at root in
    let has : HasRoot cells at c.match-index.root = elim c.match-index.branch [
      | in-Same w ↦
          let lower = w.in-Same.lower in
          let root = w.index-in-Same.result.now in
          let is : cell_at cells at ≡ Same lower = sym read ∙ w.in-Same.is in
          let Q : ℕ → Type 0 = λ k. HasRoot cells lower k in
          let of_lower = subst Q (sym w.index-in-Same.ensures) (c.loop-at.invariant.are lower root (joined_below cells at lower c.requires is)) in
          subst P (sym w.root-is) (lower_root cells at lower root c.requires is of_lower)
      | in_default w ↦ subst P (sym w.root-is) (own_root cells at (λ j e. w.in_default.not-Same j (read ∙ e)))
    ] in
    rw c.in_ok-push.ensures.items (next_root cells at c.loop-at.roots.items c.match-index.root c.loop-at.invariant has)
