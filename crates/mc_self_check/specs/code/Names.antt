-- How many variables, symbols, procedures and insts there are, as the program counts them.
use Rattle.mc_procs.specs.Named.{Bounds}
use Rattle.mc_self_check.specs.declared.named.Counts.{Counts}

abbrev pub bounds : Counts → Bounds
bounds n =
    record {
      variables = n.variables;
      symbols = n.symbols;
      procedures = n.procedures;
      insts = n.insts;
    }
