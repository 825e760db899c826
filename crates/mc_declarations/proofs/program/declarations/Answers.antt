use Rattle.std.proofs.Common.{refl}
use Rattle.mc_names.specs.Linked.{plain_names}
use Rattle.mc_type_table.specs.Held.{held}
use Rattle.mc_declarations.proofs.Whole.{declared_as}
use Rattle.mc_declarations.proofs.program.declarations.Goals as goal

pub returns : goal.returns
returns c D each =
    declared_as (plain_names c.args.names.now) D (held c.args.definitions.now)
    c.args.names.now.preds
    (record {
      types = c.in_ok-types.types;
      symbols = c.in_ok-symbols.symbols;
      preds = c.in_ok-preds.preds;
    })
    refl each c.in_ok-types.ensures c.in_ok-symbols.ensures c.in_ok-preds.ensures.preds
    c.in_ok-preds.ensures.names c.in_ok-preds.ensures.functions
