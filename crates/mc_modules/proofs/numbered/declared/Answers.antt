use Rattle.std.proofs.Common.{◌+◌, ◌∷◌, drop, ap, sym, ◌∙◌, arith}
use Rattle.mc_decl_syntax.specs.Entries.{plain_files}
use Rattle.mc_modules.specs.Files.{definitions_of}
use Rattle.mc_modules.specs.Linked.{symbols_of, preds_of, before, numbered, declared_from}
use Rattle.mc_modules.proofs.Puts.{moved}
use Rattle.mc_modules.proofs.Places.{as_many, declared_more}
use Rattle.mc_modules.proofs.numbered.declared.Goals as goal

pub start-con-requires : goal.start-con-requires
start-con-requires c =
    omega (arith, as_many symbols_of c.args.columns.now.symbols.has.items c.args.linking.now c.requires.symbols_are, c.loop-own-test.true, c.len-own-end.ensures)

pub start-pred-requires : goal.start-pred-requires
start-pred-requires c =
    omega (arith, as_many preds_of c.args.columns.now.preds.has.items c.args.linking.now c.requires.preds_are, c.loop-own-test.true, c.len-own-end.ensures)

pub loop-own-preserved : goal.loop-own-preserved
loop-own-preserved c =
    let fs = c.args.linking.now in
    let k = c.loop-own.own in
    let p = c.start-con.result in
    let q = c.start-pred.result in
    let rest = declared_from (plain_files fs) (k + 1) (plain_files (drop (k + 1) fs)) in
    let made = (c.in_ok-numbered_in.ensures {u = tt}) ∙ ap (λ ss. numbered p q (definitions_of ss)) c.items.ensures in
    moved c.push.new.self.items c.loop-own.all.items c.in_ok-numbered_in.field-0 _ rest _ ((c.in_ok-push.ensures {u = tt}).items)
    (declared_more fs k p q (omega (arith, c.len-own-end.ensures)) (c.start-con.ensures ∙ ap (before k) c.requires.symbols_are) (c.start-pred.ensures ∙ ap (before k) c.requires.preds_are)
    ∙ ap (λ xs. xs ∷ rest) (sym made))
    c.loop-own.invariant
