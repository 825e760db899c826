use Rattle.std.proofs.Common.{◌≡◌, ◌∙◌, ℕ, List, Some, cond, nat_eq, ◌&&◌, sym, ap, ap₂}
use Rattle.std.specs.Str.{bytes_eq}
use Rattle.mc_mode_state.specs.Tables.{Entry, node_in}
use Rattle.mc_mode_state.specs.declared.table.Key.{Key}
use Rattle.mc_mode_state.proofs.TableKeys.{found_after, entries_of}
use Rattle.mc_mode_state.proofs.TableParts.{put-bare, put-some, no-insts}
use Rattle.mc_mode_state.proofs.table.NodeTable.put.Goals as goal

pub returns-then-is_empty-clause-ok : goal.returns-then-is_empty-clause-ok
returns-then-is_empty-clause-ok c = λ m js.
    let k = c.args.number in
    put-bare c.self.inside.bare.entries c.insert.new.self.entries (entries_of c.self.inside.found.entries) k c.args.node c.in_ok-insert.ensures.updates.0 m js
    ∙ ap₂ (λ (xs : List ℕ) (es : List Entry). cond (nat_eq m k && bytes_eq js xs) (Some c.args.node) (node_in es m js)) (sym (no-insts c.args.insts.now c.if-is_empty.ensures)) c.self.view_is

pub returns-clause-ok : goal.returns-clause-ok
returns-clause-ok c = λ m js.
    let es = c.self.inside.found.entries in
    let is = c.args.insts.now in
    let k : Key = record { number = c.args.number; insts = c.in_ok-insts.insts } in
    put-some c.self.inside.bare.entries (entries_of es) (entries_of c.insert-2.new.self.entries) c.args.number c.args.node is c.if-is_empty.ensures
    (λ n ks.
    ap (λ (gs : List (Key × ℕ)). node_in (entries_of gs) n ks) c.in_ok-insert-2.ensures.entries
    ∙ (found_after es k c.args.node n ks
    ∙ ap (λ (xs : List ℕ). cond (nat_eq n c.args.number && bytes_eq ks xs) (Some c.args.node) (node_in (entries_of es) n ks)) c.in_ok-insts.ensures.items)) m js
    ∙ ap (λ (gs : List Entry). cond (nat_eq m c.args.number && bytes_eq js is) (Some c.args.node) (node_in gs m js)) c.self.view_is
