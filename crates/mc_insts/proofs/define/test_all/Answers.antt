use Rattle.std.proofs.Common.{◌≡◌, ℕ, ◌<◌, List, length, sym, ◌∙◌, subst, arith}
use Rattle.std.proofs.lemmas.List.{length-map}
use Rattle.mc_accepted.specs.InstRules.{PlainInstDef}
use Rattle.mc_insts.specs.declared.define.InstDef.{InstDef}
use Rattle.mc_insts.specs.Defining.{plain_definition, plain_definitions, DefinitionFits, IsSound, IsFault}
use Rattle.mc_insts.specs.code.Chains.{ChainsAre}
use Rattle.mc_insts.proofs.Found.{by_order}
use Rattle.mc_insts.proofs.Definitions.{first_fault, definition_read, passed_fault}
use Rattle.mc_insts.proofs.define.test_all.Goals as goal

pub test-requires-clause-fits : goal.test-requires-clause-fits
test-requires-clause-fits c =
    let defs : List InstDef = c.args.defs.now in
    let n = c.requires.fit.0 in
    let l : length (plain_definitions defs) ≡ length defs = length-map defs plain_definition in
    let m : length (plain_definitions defs) ≡ length c.args.chains.now = l ∙ sym c.requires.count in (
      n,
      subst (λ k. DefinitionFits n k (plain_definition c.get.result.now)) m
          (subst (DefinitionFits n (length (plain_definitions defs))) (definition_read defs c.loop-k.k c.get.result.now (omega arith) c.get.ensures) (c.requires.fit.1 c.loop-k.k (omega arith))),
    )

pub returns-in_err-test-clause-fault : goal.returns-in_err-test-clause-fault
returns-in_err-test-clause-fault c =
    let defs : List InstDef = c.args.defs.now in
    let ds : List PlainInstDef = plain_definitions defs in
    let l : length ds ≡ length defs = length-map defs plain_definition in
    passed_fault (λ fault. (first : ℕ) → 0 < first → ChainsAre ds first c.args.chains.now → IsFault ds fault) c.in_err-test.field-0.0 c.from_residual.result c.from_residual.ensures.1
    (λ first some are.
    first_fault ds first c.loop-k.k c.in_err-test.field-0.0 (omega arith) (c.loop-k.invariant first some are)
    (c.in_err-test.ensures.fault ds first some are (definition_read defs c.loop-k.k c.get.result.now (omega arith) c.get.ensures)))

pub loop-k-preserved : goal.loop-k-preserved
loop-k-preserved c = λ first some are k lt.
    let defs : List InstDef = c.args.defs.now in
    let ds : List PlainInstDef = plain_definitions defs in
    by_order k c.loop-k.k
    (λ x. c.loop-k.invariant first some are k x)
    (λ x. subst (IsSound ds) (sym x) (c.in_ok-test.ensures.sound ds first some are (definition_read defs c.loop-k.k c.get.result.now (omega arith) c.get.ensures)))
    (λ x. absurd (omega arith))

pub returns-clause-sound : goal.returns-clause-sound
returns-clause-sound c = λ first some are k lt.
    let l : length (plain_definitions c.args.defs.now) ≡ length c.args.defs.now = length-map c.args.defs.now plain_definition in
    c.loop-k.invariant first some are k (omega arith)
