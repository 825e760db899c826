use Rattle.std.proofs.Common.{◌≡◌, List, ◌++◌, map, take}
use Rattle.mc_model.specs.PlainGoals.{plain_arm, arms_of}
use Rattle.mc_flat_code.specs.Standing.{Keyed}
use Rattle.mc_flat_code.specs.Mentions.{ArmsMention}
use Rattle.mc_flat_code.specs.code.Building.{Grows}
use Rattle.mc_flat_code.specs.code.Mentioning.{Brings}
use Rattle.mc_flat_code.specs.declared.code.Branch.{Branch}
use Rattle.mc_flat_code.proofs.code.Code.branches_of.Given as goal

abbrev pub invariant-loop-k : goal.invariant-loop-k
invariant-loop-k l =
    record {
      grows : Grows l.fn.self l.self;
      goals : l.self.instrs.items ≡ l.fn.self.instrs.items;
      keyed :
          (bs : List Branch)
          × ((l.self.branches.items ≡ l.fn.self.branches.items ++ bs)
          × Keyed l.self l.variable (arms_of (map plain_arm (take l.k l.arms))) bs (take l.k l.places));
      brings : Brings l.fn.self l.self (ArmsMention (arms_of (map plain_arm l.arms)));
    }
