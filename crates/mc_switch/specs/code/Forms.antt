-- What a walk over a body makes, while insts are found and the graph grows. Within the arms of a switch
-- that stands already goals stay as they are.
use Rattle.std.specs.Prelude.{◌≡◌, ℕ, ◌<◌, Bool, true, false, List, [], ◌∷◌, map, length}
use Rattle.mc_program.specs.Programs.{TypeTerm}
use Rattle.mc_program.specs.declared.ty.Ty.{Ty}
use Rattle.mc_model.specs.Good.{System}
use Rattle.mc_model.specs.Scheduled.{Node, Scheduled, Nodes, nodes, Arms}
use Rattle.mc_model.specs.PlainGoals.{plain_node, plain_sched, plain_arm, arms_of}
use Rattle.mc_accepted.specs.MergedArms.{never_ends, never_ends_in, one_never_ends, each_arm_never_ends}
use Rattle.mc_accepted.specs.Ordered.{Insts, change_at}
use Rattle.mc_accepted.specs.Switched.{Kept, formed, formed_in, formed_all}
use Rattle.mc_insts.specs.Graphs.{count_of}
use Rattle.mc_procs.specs.Procedures.{PlainProcs}
use Rattle.mc_procs.specs.VariableTypes.{type_in}
use Rattle.mc_mode_state.specs.Tables.{Entry}
use Rattle.mc_switch.specs.declared.formed.Formed.{Formed}
use Rattle.mc_switch.specs.declared.forming.SwitchDetection.{SwitchDetection}
use Rattle.mc_switch.specs.declared.parts.FormedGoal.{FormedGoal}
use Rattle.mc_switch.specs.declared.parts.FormedNodes.{FormedNodes}
use Rattle.mc_switch.specs.declared.parts.FormedArms.{FormedArms}
use Rattle.mc_switch.specs.Types.{InstsFit}
use Rattle.mc_switch.specs.Kept.{Suits, Extends, AreMerged, Merges, kept_by}

module _ (S : System) (T : ℕ → TypeTerm) (kept : (before after : Insts) → Kept) where
  abbrev pub node_if : (forms : Bool) → Insts → Node → Node
  node_if true b n = formed S T kept b n
  node_if false b n = n

  abbrev pub goal_if : (forms : Bool) → (before after : Insts) → Scheduled → Scheduled
  goal_if true b c s = formed_in S T kept b c s
  goal_if false b c s = s

  abbrev pub all_if : (forms : Bool) → Insts → Nodes → Nodes
  all_if true b ns = formed_all S T kept b ns
  all_if false b ns = ns

-- the walk stands at a point, and has found what it says
pub record Stands (q : PlainProcs) (types : List Ty) (w : SwitchDetection) : Type 0 where
  pub ready : InstsFit q types w.point
  pub merged : AreMerged q types w.merger.found

-- the walk is at the same point again, and found more
pub record Returns (q : PlainProcs) (types : List Ty) (v w : SwitchDetection) : Type 0 where
  pub point : w.point ≡ v.point
  pub merges : Merges q types v.merger.found w.merger.found

-- the walk came to another point, and found no more
pub record Enters (q : PlainProcs) (types : List Ty) (v w : SwitchDetection) : Type 0 where
  pub ready : InstsFit q types w.point
  pub found : w.merger ≡ v.merger

module _ (q : PlainProcs) (N : List Entry) (types : List Ty) (b : Insts) (forms : Bool) where
  -- in each system that suits, with what was found now or later
  abbrev pub InEach : (System → ((before after : Insts) → Kept) → Type 0) → Type 0
  InEach P =
      (S : System) (M : List Entry) → Suits q S → Extends N M
      → P S (kept_by S (type_in types) M (length types))

  pub record IsGoal (after : Insts) (s : Scheduled) (part : FormedGoal) : Type 0 where
    pub made :
        InEach
        (λ S kept. plain_sched part.goal ≡ goal_if S (type_in types) kept forms b after s)
    pub never :
        (S : System) → Suits q S → part.never_ends ≡ never_ends_in S (type_in types) b s

  pub record IsNode (n : Node) (part : Formed) : Type 0 where
    pub made :
        InEach (λ S kept. plain_node part.node ≡ node_if S (type_in types) kept forms b n)
    pub never :
        (S : System) → Suits q S → part.never_ends ≡ never_ends S (type_in types) b n
    pub there : (x : ℕ) → change_at x part.node.changes (b x) < count_of q.insts

  pub record AreRun (ns : Nodes) (parts : FormedNodes) : Type 0 where
    pub made :
        InEach
        (λ S kept.
        nodes (map plain_node parts.nodes) ≡ all_if S (type_in types) kept forms b ns)
    pub never :
        (S : System) → Suits q S → parts.never_end ≡ one_never_ends S (type_in types) b ns

  -- each of the goals, from the same point
  abbrev pub EachIs : List Node → List Formed → Type 0
  EachIs [] [] = Unit {0}
  EachIs (n ∷ ns) (f ∷ fs) = IsNode n f × EachIs ns fs
  EachIs ns fs = ⊥

-- the arms of a switch that stands already, and whether the points after all are unreachable
pub record AreArms
    (q : PlainProcs) (N : List Entry) (types : List Ty) (b : Insts) (arms : Arms)
    (parts : FormedArms)
    : Type 0 where
  pub made : InEach q N types b false (λ S kept. arms_of (map plain_arm parts.arms) ≡ arms)
  pub never :
      (S : System) → Suits q S
      → parts.never_end ≡ each_arm_never_ends S (type_in types) b arms
