use Rattle.std.proofs.Common.{◌≡◌, ◌<◌, ◌≤◌, ap, inl, inr, length, map, arith, ℕ}
use Rattle.mc_model.specs.Scheduled.{Arms}
use Rattle.mc_model.specs.PlainGoals.{plain_arm, arms_of}
use Rattle.mc_flat_code.specs.code.Building.{IsChosen}
use Rattle.mc_flat_code.specs.declared.code.Instr.TheVariants as I
use Rattle.mc_flat_code.proofs.Growth.{grows_then, chain_grows, continues_length}
use Rattle.mc_flat_code.proofs.Building.{code_kept, ok_stands}
use Rattle.mc_flat_code.proofs.PlaceLists.{below_more}
use Rattle.mc_flat_code.proofs.Cases.{keyed_found, case_lower, case_chosen}
use Rattle.mc_flat_code.specs.Mentions.{Mention, ArmsMention}
use Rattle.mc_flat_code.specs.code.Mentioning.{Nothing}
use Rattle.mc_flat_code.proofs.Mentioning.{brings_then, on_brings}
use Rattle.mc_flat_code.proofs.code.Code.case.Goals as goal

pub add-requires-clause-is_code : goal.add-requires-clause-is_code
add-requires-clause-is_code c =
    code_kept c.choice.new.self c.branches_of.new.self c.in_ok-branches_of.ensures.grows c.in_ok-branches_of.ensures.goals c.in_ok-other.ensures.laid.is_code

pub add-requires-clause-lower : goal.add-requires-clause-lower
add-requires-clause-lower c =
    let n : ℕ = length c.branches_of.new.self.instrs.items in
    let same : n ≡ length c.choice.new.self.instrs.items = ap length c.in_ok-branches_of.ensures.goals in
    let more : length c.args.self.now.instrs.items ≤ length c.choice.new.self.instrs.items = continues_length c.args.self.now.instrs.items c.choice.new.self.instrs.items c.in_ok-other.ensures.laid.grows.instrs in
    let within : c.in_ok-other.other < length c.choice.new.self.instrs.items = c.in_ok-other.ensures.laid.within in
    let arms : Arms = arms_of (map plain_arm c.args.arms.now) in
    case_lower c.branches_of.new.self c.args.variable arms c.args.places.now c.in-Some.part c.in_ok-other.other n
    (keyed_found c.branches_of.new.self c.args.variable arms c.args.places.now c.in_ok-branches_of.field-0 c.in-Some.part c.in-Some.is c.in_ok-branches_of.ensures.keyed)
    (omega arith)
    (below_more (length c.args.self.now.instrs.items) n (omega arith) c.args.places.now c.requires.below)

pub returns-in-None-clause-laid : goal.returns-in-None-clause-laid
returns-in-None-clause-laid c =
    let same : length c.branches_of.new.self.instrs.items ≡ length c.choice.new.self.instrs.items = ap length c.in_ok-branches_of.ensures.goals in
    let within : c.in_ok-other.other < length c.choice.new.self.instrs.items = c.in_ok-other.ensures.laid.within in
    record {
      grows = grows_then c.args.self.now c.choice.new.self c.branches_of.new.self c.in_ok-other.ensures.laid.grows c.in_ok-branches_of.ensures.grows;
      is_code = code_kept c.choice.new.self c.branches_of.new.self c.in_ok-branches_of.ensures.grows c.in_ok-branches_of.ensures.goals c.in_ok-other.ensures.laid.is_code;
      within = omega arith;
    }

pub returns-in-None-clause-chosen : goal.returns-in-None-clause-chosen
returns-in-None-clause-chosen c =
    inl (chain_grows c.choice.new.self c.branches_of.new.self c.in_ok-branches_of.ensures.grows c.args.places.now c.in_ok-other.other c.in_ok-other.ensures.chain)

pub returns-in-Some-clause-chosen : goal.returns-in-Some-clause-chosen
returns-in-Some-clause-chosen c =
    let arms : Arms = arms_of (map plain_arm c.args.arms.now) in
    ok_stands c.args.self.now c.branches_of.new.self c.add.new.self c.add.result (I.Case c.args.variable c.in-Some.part c.in_ok-other.other) (λ place. IsChosen c.add.new.self c.args.variable arms c.args.places.now place) c.add.ensures.laid c.add.ensures.at
    (λ place g at.
    inr (case_chosen c.choice.new.self c.branches_of.new.self c.add.new.self c.args.variable arms c.args.places.now c.in-Some.part c.in_ok-other.other place c.in_ok-branches_of.ensures.grows g c.in_ok-other.ensures.chain
    (keyed_found c.branches_of.new.self c.args.variable arms c.args.places.now c.in_ok-branches_of.field-0 c.in-Some.part c.in-Some.is c.in_ok-branches_of.ensures.keyed) at))

pub returns-in-None-clause-brings : goal.returns-in-None-clause-brings
returns-in-None-clause-brings c =
    let all : Mention → Type 0 = ArmsMention (arms_of (map plain_arm c.args.arms.now)) in
    brings_then c.args.self.now c.choice.new.self c.branches_of.new.self Nothing all all c.in_ok-other.ensures.brings c.in_ok-branches_of.ensures.brings (λ m x. absurd x) (λ m x. x)

pub returns-in-Some-clause-brings : goal.returns-in-Some-clause-brings
returns-in-Some-clause-brings c =
    let all : Mention → Type 0 = ArmsMention (arms_of (map plain_arm c.args.arms.now)) in
    on_brings c.add.result c.args.self.now c.branches_of.new.self c.add.new.self all Nothing all
    (brings_then c.args.self.now c.choice.new.self c.branches_of.new.self Nothing all all c.in_ok-other.ensures.brings c.in_ok-branches_of.ensures.brings (λ m x. absurd x) (λ m x. x))
    c.add.ensures.brings (λ m x. x) (λ m x. absurd x)
