use Rattle.std.proofs.Common.{◌∙◌, List, refl, ap}
use Rattle.std.specs.Prelude.{Option}
use Rattle.mc_program.specs.declared.ty.Ty.{Ty}
use Rattle.mc_names.specs.Linked.{plain_names}
use Rattle.mc_type_table.specs.Held.{held}
use Rattle.mc_type_table.specs.Visibility.{definitions_seen}
use Rattle.mc_type_phase.proofs.phase.checker_of.Goals as goal

pub returns-clause-checks : goal.returns-clause-checks
returns-clause-checks c = record {
  names = refl;
  declared =
      c.in_ok-program.ensures (definitions_seen (plain_names c.args.names.now) c.args.own)
      (λ u.
      ap (λ (os : List (Option Ty)). held os u) c.as_slice.ensures.value
      ∙ c.in_ok-definitions.ensures u);
  table = c.in_ok-signatures.ensures.is;
}
