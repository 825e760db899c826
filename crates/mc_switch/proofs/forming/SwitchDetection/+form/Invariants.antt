use Rattle.std.proofs.Common.{◌≡◌, map, take}
use Rattle.mc_model.specs.PlainGoals.{plain_node}
use Rattle.mc_det.specs.code.Points.{undone}
use Rattle.mc_switch.specs.Types.{inst_in}
use Rattle.mc_switch.specs.Kept.{OnlyGrew, Merges}
use Rattle.mc_switch.specs.code.Forms.{Stands, Returns, EachIs}
use Rattle.mc_switch.proofs.FormedParts.{RunSoFar, ArmsSoFar}
use Rattle.mc_switch.proofs.forming.SwitchDetection.+form.Given as goal

abbrev pub invariant-formed_conj-loop-goal : goal.invariant-formed_conj-loop-goal
invariant-formed_conj-loop-goal l =
    record {
      stands : Stands l.procs l.types l.self;
      merges : Merges l.procs l.types l.fn.self.merger.found l.self.merger.found;
      undone : undone l.found.items l.self.point ≡ l.fn.self.point;
      grew : OnlyGrew l.fn.procs l.procs;
      so_far : RunSoFar l.procs l.self.merger.found l.types (inst_in l.fn.self.point) (inst_in l.self.point) l.forms l.goals l.goal-index l.nodes.items l.never_end;
    }

abbrev pub invariant-formed_disj-loop-goal : goal.invariant-formed_disj-loop-goal
invariant-formed_disj-loop-goal l =
    record {
      returns : Returns l.procs l.types l.fn.self l.self;
      grew : OnlyGrew l.fn.procs l.procs;
      so_far : EachIs l.procs l.self.merger.found l.types (inst_in l.fn.self.point) l.forms (map plain_node (take l.goal-index l.goals)) l.parts.items;
    }

abbrev pub invariant-copied_arms-loop-arm : goal.invariant-copied_arms-loop-arm
invariant-copied_arms-loop-arm l =
    record {
      returns : Returns l.procs l.types l.fn.self l.self;
      grew : OnlyGrew l.fn.procs l.procs;
      so_far : ArmsSoFar l.procs l.self.merger.found l.types (inst_in l.fn.self.point) l.arms l.arm-index l.copies.items l.never_end;
    }
