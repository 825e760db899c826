use Rattle.std.proofs.Common.{◌+◌, drop, arith}
use Rattle.mc_decl_syntax.specs.Entries.{plain_files}
use Rattle.mc_modules.specs.Linked.{each, types_of, symbols_of, preds_of, insts_of, modes_defined}
use Rattle.mc_modules.proofs.Puts.{moved}
use Rattle.mc_modules.proofs.Places.{each_more}
use Rattle.mc_modules.proofs.columns.parts.Goals as goal

pub loop-own-preserved : goal.loop-own-preserved
loop-own-preserved c =
    let fs = c.args.linking.now in
    let k = c.loop-own.own in
    let rest = plain_files (drop (k + 1) fs) in
    record {
      types = moved _ _ _ _ (each types_of rest) _ (c.in_ok-put_part.ensures.types) (each_more types_of fs k (omega (arith, c.len-own-end.ensures))) c.loop-own.invariant.types;
      symbols = moved _ _ _ _ (each symbols_of rest) _ (c.in_ok-put_part.ensures.symbols) (each_more symbols_of fs k (omega (arith, c.len-own-end.ensures))) c.loop-own.invariant.symbols;
      preds = moved _ _ _ _ (each preds_of rest) _ (c.in_ok-put_part.ensures.preds) (each_more preds_of fs k (omega (arith, c.len-own-end.ensures))) c.loop-own.invariant.preds;
      insts = moved _ _ _ _ (each insts_of rest) _ (c.in_ok-put_part.ensures.insts) (each_more insts_of fs k (omega (arith, c.len-own-end.ensures))) c.loop-own.invariant.insts;
      modes = moved _ _ _ _ (each modes_defined rest) _ (c.in_ok-put_part.ensures.modes) (each_more modes_defined fs k (omega (arith, c.len-own-end.ensures))) c.loop-own.invariant.modes;
    }
