use Rattle.mc_names.specs.Linked.{plain_names}
use Rattle.mc_inst_table.specs.Rules.{inst_bodies}
use Rattle.mc_insts.specs.Defining.{plain_definitions}
use Rattle.mc_signatures.specs.WrittenModes.{plain_written}
use Rattle.std.proofs.Common.{map}
use Rattle.mc_signatures.specs.Signatures.{builtin_of}
use Rattle.mc_signatures.specs.code.Keys.{terms}
use Rattle.mc_signatures.specs.code.Definitions.{GoesBetween}
use Rattle.mc_signatures.proofs.Kept.{bodies_are}
use Rattle.mc_signatures.proofs.Choosing.{rows_fit}
use Rattle.mc_signatures.proofs.Following.{between_later}
use Rattle.mc_signatures.proofs.Numbered.{signatures_on}
use Rattle.mc_signatures.proofs.Signing.{all_signed}
use Rattle.mc_signatures.proofs.signed.signatures.Goals as goal

pub returns-clause-signatures : goal.returns-clause-signatures
returns-clause-signatures c =
    let l = plain_names c.args.names.now in
    let d = c.in_ok-definitions.definitions in
    let are = c.in_ok-definitions.ensures in
    let ts = terms c.numbered.new.insts in
    let us = terms c.rows.new.insts in
    let ds = plain_definitions c.in_ok-defs.defs in
    let rows = map (map plain_written) c.args.modes.now in
    let op = builtin_of c.args.preds.now in
    let expanded = c.in_ok-defs.ensures.rows (inst_bodies l) (bodies_are l d are) in
    all_signed l us ds expanded op 0 0 rows c.in_ok-numbered.numbered.items c.in_ok-sigs.sigs.items
    (signatures_on (GoesBetween l ts) (GoesBetween l us) (λ m a b. between_later l ts us m a b c.rows.ensures.extends) op 0 0 rows c.in_ok-numbered.numbered.items
    (c.in_ok-numbered.ensures.sigs l are))
    c.in_ok-sigs.ensures

pub returns-clause-fit : goal.returns-clause-fit
returns-clause-fit c =
    let l = plain_names c.args.names.now in
    rows_fit (inst_bodies l) (terms c.rows.new.insts) (plain_definitions c.in_ok-defs.defs)
    (c.in_ok-defs.ensures.rows (inst_bodies l) (bodies_are l c.in_ok-definitions.definitions c.in_ok-definitions.ensures))
