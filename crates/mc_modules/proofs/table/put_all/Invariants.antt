use Rattle.std.proofs.Common.{◌≡◌, map, drop}
use Rattle.mc_names.specs.Plain.{plain_definition}
use Rattle.mc_defs_uses.specs.Sets.{put_all}
use Rattle.mc_modules.proofs.table.put_all.Given as goal

abbrev pub invariant-loop-definition : goal.invariant-loop-definition
invariant-loop-definition l = put_all l.set (map plain_definition (drop l.definition-index l.definitions)) ≡ put_all l.initial.set (map plain_definition l.definitions)
