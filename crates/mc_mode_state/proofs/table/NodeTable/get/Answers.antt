use Rattle.std.proofs.Common.{◌≡◌, ◌∙◌, ℕ, List, [], ◌∷◌, length, refl, sym, ap, arith}
use Rattle.mc_mode_state.specs.Tables.{Entry, node_in}
use Rattle.mc_mode_state.specs.declared.table.Key.{Key}
use Rattle.mc_mode_state.proofs.TableKeys.{looked_up, entries_of}
use Rattle.mc_mode_state.proofs.TableParts.{bare-in, in-second, no-insts}
use Rattle.mc_mode_state.proofs.table.NodeTable.get.Goals as goal

none-there : (es : List (Key × ℕ)) → length es ≡ 0 → es ≡ []
none-there [] h = refl
none-there (e ∷ es) h = absurd (omega arith)

pub returns-then-is_empty : goal.returns-then-is_empty
returns-then-is_empty c =
    let n = c.args.number in
    c.copied.ensures
    ∙ (c.get.ensures.value
    ∙ (sym (bare-in c.self.inside.bare.entries (entries_of c.self.inside.found.entries) n)
    ∙ (ap (λ (es : List Entry). node_in es n []) c.self.view_is
    ∙ ap (node_in c.args.self.now n) (sym (no-insts c.args.insts.now c.if-is_empty.ensures)))))

pub returns-then-is_empty-2 : goal.returns-then-is_empty-2
returns-then-is_empty-2 c =
    let n = c.args.number in
    let is = c.args.insts.now in
    let es = c.self.inside.found.entries in
    sym
    (ap (λ (es : List Entry). node_in es n is) (sym c.self.view_is)
    ∙ (in-second c.self.inside.bare.entries (entries_of es) n is c.if-is_empty.ensures
    ∙ ap (λ (es : List (Key × ℕ)). node_in (entries_of es) n is) (none-there es (c.is_empty-2.ensures.0 c.if-is_empty-2.true))))

pub returns : goal.returns
returns c =
    let n = c.args.number in
    let is = c.args.insts.now in
    let es = c.self.inside.found.entries in
    let k : Key = record { number = n; insts = c.in_ok-insts.insts } in
    c.copied-2.ensures
    ∙ (c.get-2.ensures.value
    ∙ (looked_up es k
    ∙ (ap (node_in (entries_of es) n) c.in_ok-insts.ensures.items
    ∙ (sym (in-second c.self.inside.bare.entries (entries_of es) n is c.if-is_empty.ensures)
    ∙ ap (λ (es : List Entry). node_in es n is) c.self.view_is))))
