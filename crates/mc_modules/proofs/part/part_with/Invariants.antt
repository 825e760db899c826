use Rattle.std.proofs.Common.{◌≡◌, ◌++◌, drop, map}
use Rattle.mc_modules.specs.Kept.{plain_item_in_file}
use Rattle.mc_modules.specs.Linked.{is_pred, is_inst, is_mode, symbols_in, sorted_in}
use Rattle.mc_names.specs.Linked.{plain_named}
use Rattle.mc_modules.specs.code.Passes.{types_pass}
use Rattle.mc_modules.proofs.part.part_with.Given as goal

abbrev pub invariant-loop-item : goal.invariant-loop-item
invariant-loop-item l = record {
  types : map plain_named l.part.types.items ++ types_pass l.«module» l.table (map plain_item_in_file (drop l.item-index l.items)) ≡ types_pass l.«module» l.table (map plain_item_in_file l.items);
  symbols : map plain_named l.part.symbols.items ++ symbols_in l.«module» (map plain_item_in_file (drop l.item-index l.items)) ≡ symbols_in l.«module» (map plain_item_in_file l.items);
  preds : map plain_named l.part.preds.items ++ sorted_in is_pred l.«module» (map plain_item_in_file (drop l.item-index l.items)) ≡ sorted_in is_pred l.«module» (map plain_item_in_file l.items);
  insts : map plain_named l.part.insts.items ++ sorted_in is_inst l.«module» (map plain_item_in_file (drop l.item-index l.items)) ≡ sorted_in is_inst l.«module» (map plain_item_in_file l.items);
  modes : map plain_named l.part.modes.items ++ sorted_in is_mode l.«module» (map plain_item_in_file (drop l.item-index l.items)) ≡ sorted_in is_mode l.«module» (map plain_item_in_file l.items);
}
