use Rattle.std.proofs.Common.{◌≡◌, drop, map, length}
use Rattle.std.specs.Prelude.{slice_get}
use Rattle.mc_names.specs.Plain.{plain_name_arity}
use Rattle.mc_names.specs.Linked.{plain_named, plain_names}
use Rattle.mc_names.specs.Numbers.{numbers_where}
use Rattle.mc_names.specs.Candidates.{type_fits}
use Rattle.mc_inst_table.proofs.meaning.first_in.Given as goal

abbrev pub invariant-loop-named : goal.invariant-loop-named
invariant-loop-named l =
    let p = type_fits (plain_names l.names) l.own (plain_name_arity l.id) l.«module» in
    (l.number ≡ l.named-index)
    × (slice_get (numbers_where p l.number (map plain_named (drop l.named-index l.definitions))) 0
    ≡ slice_get (numbers_where p 0 (map plain_named l.definitions)) 0)
