use Rattle.std.proofs.Common.{◌≡◌, ℕ, List, length, sym, ◌∙◌}
use Rattle.std.proofs.lemmas.List.{length-map}
use Rattle.mc_accepted.specs.InstRules.{PlainInstDef}
use Rattle.mc_insts.specs.declared.chains.Chain.{Chain}
use Rattle.mc_insts.specs.declared.define.InstDef.{InstDef}
use Rattle.mc_insts.specs.Defining.{plain_definition, plain_definitions, IsFault}
use Rattle.mc_insts.specs.code.Chains.{FirstChains, ChainsAre}
use Rattle.mc_insts.proofs.Definitions.{first_are, insts_are, passed_fault}
use Rattle.mc_insts.proofs.define.tested.Goals as goal

-- what the definitions show by themselves is so
shown : (defs : List InstDef) (first : ℕ) (cs : List Chain) → length cs ≡ length defs → FirstChains (plain_definitions defs) first cs → ChainsAre (plain_definitions defs) first cs
shown defs first cs count firsts = first_are (plain_definitions defs) first cs (count ∙ sym (length-map defs plain_definition)) firsts

pub returns-in_err-test_all-clause-fault : goal.returns-in_err-test_all-clause-fault
returns-in_err-test_all-clause-fault c =
    let ds : List PlainInstDef = plain_definitions c.args.defs.now in
    let are = c.in_ok-follow_all.ensures.are ds c.args.first (shown c.args.defs.now c.args.first c.in_ok-chains.chains c.in_ok-chains.ensures.count c.in_ok-chains.ensures.chains) in
    passed_fault (IsFault ds) c.in_err-test_all.field-0.0 c.from_residual-in_err-test_all.result c.from_residual-in_err-test_all.ensures.1
    (c.in_err-test_all.ensures.fault c.args.first c.requires.first are)

pub returns-clause-insts : goal.returns-clause-insts
returns-clause-insts c =
    let ds : List PlainInstDef = plain_definitions c.args.defs.now in
    let are = c.in_ok-follow_all.ensures.are ds c.args.first (shown c.args.defs.now c.args.first c.in_ok-chains.chains c.in_ok-chains.ensures.count c.in_ok-chains.ensures.chains) in
    insts_are ds c.args.first c.requires.first c.follow_all.new.chains are c.in_ok-insts.insts c.in_ok-insts.ensures

pub returns-clause-sound : goal.returns-clause-sound
returns-clause-sound c =
    let ds : List PlainInstDef = plain_definitions c.args.defs.now in
    c.in_ok-test_all.ensures.sound c.args.first c.requires.first
    (c.in_ok-follow_all.ensures.are ds c.args.first (shown c.args.defs.now c.args.first c.in_ok-chains.chains c.in_ok-chains.ensures.count c.in_ok-chains.ensures.chains))
