use Rattle.std.proofs.Common.{◌≡◌, ◌++◌, drop, map}
use Rattle.mc_decl_syntax.specs.Entries.{plain_files}
use Rattle.mc_modules.specs.Linked.{each, types_of, symbols_of, preds_of, insts_of, modes_defined}
use Rattle.mc_names.specs.Linked.{plain_named}
use Rattle.mc_modules.proofs.columns.parts.Given as goal

abbrev pub invariant-loop-own : goal.invariant-loop-own
invariant-loop-own l = record {
  types : map (map plain_named) l.parts.types.items ++ each types_of (plain_files (drop l.own l.linking)) ≡ each types_of (plain_files l.linking);
  symbols : map (map plain_named) l.parts.symbols.items ++ each symbols_of (plain_files (drop l.own l.linking)) ≡ each symbols_of (plain_files l.linking);
  preds : map (map plain_named) l.parts.preds.items ++ each preds_of (plain_files (drop l.own l.linking)) ≡ each preds_of (plain_files l.linking);
  insts : map (map plain_named) l.parts.insts.items ++ each insts_of (plain_files (drop l.own l.linking)) ≡ each insts_of (plain_files l.linking);
  modes : map (map plain_named) l.parts.modes.items ++ each modes_defined (plain_files (drop l.own l.linking)) ≡ each modes_defined (plain_files l.linking);
}
