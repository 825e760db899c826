-- What is asked of a program before its goals are put in order.
-- (Mercury Language Reference Manual: Types; Modes; this project's certificates.)
use Rattle.std.specs.Prelude.{◌≡◌, ◌<◌, ◌≤◌, ◌+◌, ℕ, Bool, true, List, [], length, map, Some, None}
use Rattle.mc_source.specs.declared.det.Det.{Det}
use Rattle.mc_source.specs.declared.det.Most.TheVariants as M
use Rattle.mc_source.specs.declared.rule.Broken.{Broken}
use Rattle.mc_program.specs.PlainPrograms.{plain_program}
use Rattle.mc_program.specs.declared.program.Program.{Program}
use Rattle.mc_model.specs.Lists.{from}
use Rattle.mc_model.specs.declared.flat.Normal.{Normal}
use Rattle.mc_model.specs.declared.inst.Sig.{Sig}
use Rattle.mc_accepted.specs.InstRules.{PlainInstDef}
use Rattle.mc_insts.specs.declared.insts.Insts.{Insts}
use Rattle.mc_insts.specs.Defining.{Defined, bounds_of}
use Rattle.mc_insts.specs.Graphs.{graph_of, count_of}
use Rattle.mc_insts.specs.Kept.{AreOf}
use Rattle.mc_self_check.specs.HasLibrary.{HasLibrary}
use Rattle.mc_procs.specs.Procedures.{PlainProcs, source_of, insts_of}
use Rattle.mc_self_check.specs.TypedGoals.{IsTyped}
use Rattle.mc_modes.specs.Signatures.{modes_at, mode_in, SigsFit}
use Rattle.mc_modes.specs.Schedules.{NormalFits}
use Rattle.mc_modes.specs.Numbering.{mode_ids}
use Rattle.mc_modes.specs.NormalGoals.{goal_at}
use Rattle.mc_modes.specs.declared.modes.ModeId.{ModeId}
use Rattle.mc_analysis.specs.Untidy.{AreUntidy}

-- a program's insts are the builtin ones, and those that definitions define behind them
pub record HasInsts (P : Program) (ds : List PlainInstDef) (insts : Insts) : Type 0 where
  pub are_of : AreOf (plain_program P) insts
  pub nodes : List ℕ
  pub defined : Defined ds 4 (graph_of insts) nodes
  pub count : count_of insts ≡ 4 + bounds_of ds

-- where it begins: a program that has the library, with the insts of its modes, of which those that
-- are untidy are told, and with no procedure of them yet
pub record InitialProcedures (P : Program) (ds : List PlainInstDef) (sigs : List Sig)
    (untidy : List Broken)
    (q : PlainProcs) : Type 0 where
  pub program : q.program ≡ P
  pub library : HasLibrary P
  pub insts : HasInsts P ds q.insts
  pub told : AreUntidy (plain_program P) (insts_of q) sigs untidy
  pub preds : q.preds ≡ map (λ (m : ModeId). m.pred) (mode_ids P sigs)
  pub none : q.added ≡ []

-- each mode tells the number of its procedure
abbrev pub TellNumbers : PlainProcs → List Sig → Type 0
TellNumbers q sigs =
    map (λ (m : ModeId). (mode_in sigs m.pred m.mode).proc) (mode_ids q.program sigs)
    ≡ from 0 (length q.preds)

-- a goal names what is there, and has a head variable for each inst of each of its modes
abbrev pub GoalsFitModes : PlainProcs → List Sig → List Normal → Type 0
GoalsFitModes q sigs goals =
    (p : ℕ)
    → p < length q.program.preds → ((source_of q).preds p).builtin ≡ None
    → (k : ℕ) → k < length (modes_at sigs p) → NormalFits q (mode_in sigs p k) (goal_at goals p)

-- the goals of predicates that are no builtins are typed
abbrev pub GoalsAreTyped : Program → List Normal → Type 0
GoalsAreTyped P goals =
    (p : ℕ)
    → p < length P.preds → ((plain_program P).preds p).builtin ≡ None
    → IsTyped (plain_program P) p (goal_at goals p)

-- a declared determinism that is committed is `cc_multi` or `cc_nondet`: it has many answers
abbrev pub CommittedAreMany : List Sig → Type 0
CommittedAreMany sigs =
    (p k : ℕ) (d : Det) → (mode_in sigs p k).det ≡ Some d → d.committed ≡ true → d.most ≡ M.Many

-- what is asked of declared modes and goals: modes are those of predicates, their insts are there, they
-- tell the numbers of their procedures, and goals fit them and are typed
pub record Preconditions (q : PlainProcs) (sigs : List Sig) (goals : List Normal)
    (exported : List Bool)
    : Type 0 where
  pub as_many_exported : length exported ≡ length q.program.preds
  pub fewer : length sigs ≤ length q.program.preds
  pub committed_many : CommittedAreMany sigs
  pub insts_there : SigsFit (count_of q.insts) sigs
  pub numbers_told : TellNumbers q sigs
  pub goals_fit : GoalsFitModes q sigs goals
  pub goals_typed : GoalsAreTyped q.program goals
