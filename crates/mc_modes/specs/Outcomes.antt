-- What becomes of the goals of all declared modes. (Mercury Language Reference Manual: Modes; this
-- project's rules.)
use Rattle.std.specs.Prelude.{◌≡◌, ◌++◌, Bool, false, List, [], length, map, get_or, All}
use Rattle.std.specs.List.{AllZip}
use Rattle.mc_source.specs.Rules.{first_rules, by_place}
use Rattle.mc_source.specs.declared.rule.Broken.{Broken}
use Rattle.mc_model.specs.PlainGoals.{plain_flat}
use Rattle.mc_model.specs.declared.flat.Normal.{Normal}
use Rattle.mc_model.specs.declared.inst.Sig.{Sig}
use Rattle.mc_model.specs.declared.sched.Proc.{Proc}
use Rattle.mc_accepted.specs.Arranged.{Verdict}
use Rattle.mc_insts.specs.Growing.{Grown}
use Rattle.mc_procs.specs.Procedures.{PlainProcs, source_of}
use Rattle.mc_mode_state.specs.declared.state.State.{State}
use Rattle.mc_modes.specs.Signatures.{mode_in}
use Rattle.mc_modes.specs.Arrangements.{Becomes}
use Rattle.mc_modes.specs.Schedules.{IsScheduled}
use Rattle.mc_modes.specs.Numbering.{mode_ids}
use Rattle.mc_modes.specs.NormalGoals.{goal_at}
use Rattle.mc_modes.specs.ModeFaults.{rule_of}
use Rattle.mc_modes.specs.declared.modes.ModeId.{ModeId}
use Rattle.mc_modes.specs.declared.ordering.Orders.{Orders}
use Rattle.mc_modes.specs.declared.ordering.Orders.TheVariants as O

-- nothing changed but that procedures came and that the graph may have more nodes
pub record GrownFrom (q r : PlainProcs) : Type 0 where
  pub program : r.program ≡ q.program
  pub preds : r.preds ≡ q.preds
  pub grown : Grown (source_of q) q.insts r.insts

-- a mode whose goal was tried, and what becomes of the goal
pub record Tried : Type 0 where
  pub id : ModeId
  pub verdict : Verdict

module _ (sigs : List Sig) (goals : List Normal) where
  -- It was found somewhere in between, whatever came later.
  pub record IsTried (first last : PlainProcs) (t : Tried) : Type 0 where
    pub before : PlainProcs
    pub after : PlainProcs
    pub end : State
    pub begun : GrownFrom first before
    pub becomes :
        Becomes sigs (goal_at goals t.id.pred).var_types (goal_at goals t.id.pred).head
        (mode_in sigs t.id.pred t.id.mode).first (mode_in sigs t.id.pred t.id.mode).last
        (plain_flat (goal_at goals t.id.pred).body) before after end t.verdict
    pub ended : GrownFrom after last

  -- each mode breaks one rule at most, which is told at its place
  abbrev pub broken_rules : List Tried → List Broken
  broken_rules ts =
      first_rules (λ t. (mode_in sigs t.id.pred t.id.mode).at)
      (λ t.
      rule_of (length (goal_at goals t.id.pred).head) (goal_at goals t.id.pred).var_names t.verdict)
      ts

  -- the rules that the goals of these modes break, in their order
  pub record AreBroken (first last : PlainProcs) (ids : List ModeId)
      (faults : List Broken) : Type 0 where
    pub tried : List Tried
    pub ids_are : map (λ (t : Tried). t.id) tried ≡ ids
    pub each : All (IsTried first last) tried
    pub rules : faults ≡ broken_rules tried

  -- the rules that the goals of these modes break come behind others, and no procedure comes
  pub record ListsBehind (first last : PlainProcs) (ids : List ModeId) (before after : List Broken)
      : Type 0 where
    pub grown : GrownFrom first last
    pub none : last.added ≡ first.added
    pub rules : List Broken
    pub broken : AreBroken first last ids rules
    pub behind : after ≡ before ++ rules

module _ (sigs : List Sig) (goals : List Normal) (exported : List Bool) where
  -- the procedure of the mode, exported where its predicate is
  pub record IsOrdered (first last : PlainProcs) (id : ModeId) (p : Proc) : Type 0 where
    pub before : PlainProcs
    pub after : PlainProcs
    pub begun : GrownFrom first before
    pub scheduled :
        IsScheduled sigs (goal_at goals id.pred) id.mode (mode_in sigs id.pred id.mode) before after
        (record p { exported = false })
    pub is_exported : p.exported ≡ get_or exported id.pred false
    pub ended : GrownFrom after last

  abbrev pub ModesGive : (first last : PlainProcs) → Orders → Type 0
  -- each mode has its procedure, and no other came
  ModesGive first last O.All =
      AllZip (IsOrdered first last) (mode_ids first.program sigs) last.added
  ModesGive first last (O.Broken list) =
      (faults : List Broken)
      × AreBroken sigs goals first last (mode_ids first.program sigs) faults
      × (list.items ≡ by_place faults)
      × (list.items ≡ [] → ⊥)
