use Rattle.std.proofs.Common.{◌≡◌, ap, ap₂, sym, ◌∙◌, subst, arith}
use Rattle.std.proofs.lemmas.List.{get_or_read}
use Rattle.mc_types.specs.Holds.{CellHolds, cell_at}
use Rattle.mc_types.specs.declared.cells.Cell.{Cell}
use Rattle.mc_types.specs.declared.cells.Cell.TheVariants.{Free, App}
use Rattle.mc_types.specs.Trees.{applied, type_of}
use Rattle.mc_types.proofs.written.+write_type.Goals as goal

pub returns-in_ok-with_argument-in-App : goal.returns-in_ok-with_argument-in-App
returns-in_ok-with_argument-in-App t c = λ ρ g.
    let cells = c.args.g.now.cells.items in
    let at = c.root-at.result in
    let cell : cell_at cells at ≡ App c.in-App.f c.in-App.x = sym (get_or_read cells at c.index.result.now (omega arith) c.index.ensures Free) ∙ c.in-App.is in
    let P : Cell → Type 0 = λ d. CellHolds ρ at d in
    c.in_ok-with_argument-in-App.ensures
    ∙ ap₂ applied (c.in_ok-left-in-App.ensures ρ g) (c.in_ok-right-in-App.ensures ρ g)
    ∙ sym (ap type_of (c.root-at.ensures.same ρ g.holds ∙ subst P cell (g.holds at)))
