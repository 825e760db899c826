use Rattle.std.proofs.Common.{◌+◌, ◌∷◌, drop, ap, sym, ◌∙◌, arith}
use Rattle.mc_decl_syntax.specs.Entries.{plain_files}
use Rattle.mc_modules.specs.Linked.{scopes_from}
use Rattle.mc_modules.proofs.Puts.{moved}
use Rattle.mc_modules.proofs.Places.{scopes_more}
use Rattle.mc_modules.proofs.scopes.scopes.Goals as goal

pub loop-own-preserved : goal.loop-own-preserved
loop-own-preserved c =
    let fs = c.args.linking.now in
    let n = c.loop-own.own in
    let rest = scopes_from (plain_files fs) (n + 1) (plain_files (drop (n + 1) fs)) in
    moved c.push.new.self.items c.loop-own.all.items c.in_ok-scope_of.field-0 _ rest _ ((c.in_ok-push.ensures {u = tt}).items)
    (scopes_more fs n (omega (arith, c.len-own-end.ensures)) ∙ ap (λ s. s ∷ rest) (sym (c.in_ok-scope_of.ensures {u = tt}))) c.loop-own.invariant
