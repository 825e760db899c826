-- What is asked where one mode's goal is tried, and what that leaves behind.
use Rattle.std.specs.Prelude.{◌≡◌, ◌<◌, ◌⊎◌, ℕ, Bool, List, [], ◌∷◌, ◌++◌, length, get_or, Some}
use Rattle.std.specs.List.{AllZip}
use Rattle.mc_source.specs.Rules.{Fault}
use Rattle.mc_source.specs.declared.rule.Broken.{Broken}
use Rattle.mc_model.specs.PlainGoals.{plain_flat}
use Rattle.mc_model.specs.declared.flat.Normal.{Normal}
use Rattle.mc_model.specs.declared.inst.Sig.{Sig}
use Rattle.mc_model.specs.declared.sched.Proc.{Proc}
use Rattle.mc_accepted.specs.Arranged.{Verdict, faulty, unmet}
use Rattle.mc_accepted.specs.Normal.{normal_goal}
use Rattle.mc_insts.specs.Graphs.{count_of}
use Rattle.mc_procs.specs.Procedures.{PlainProcs, source_of, insts_of, with_insts, with_proc}
use Rattle.mc_mode_state.specs.Answers.{plain_fault}
use Rattle.mc_mode_state.specs.declared.state.State.{State}
use Rattle.mc_modes.specs.Signatures.{modes_at, mode_in, SigsFit}
use Rattle.mc_modes.specs.Arrangements.{Becomes}
use Rattle.mc_modes.specs.Schedules.{NormalFits, IsScheduled}
use Rattle.mc_modes.specs.declared.arranging.Refusal.{Refusal}
use Rattle.mc_modes.specs.declared.arranging.Refusal.TheVariants as E
use Rattle.mc_modes.specs.ModeFaults.{rule_of}
use Rattle.mc_modes.specs.Outcomes.{GrownFrom, AreBroken, IsOrdered}
use Rattle.mc_modes.specs.declared.modes.ModeId.{ModeId}

-- the rule that is told of a refusal
abbrev pub Tells : Normal → Refusal → Fault → Type 0
Tells g (E.Fault f) told =
    Some told ≡ rule_of (length g.head) g.var_names (faulty (plain_fault f))
Tells g (E.Unmet k) told = Some told ≡ rule_of (length g.head) g.var_names (unmet k)
Tells g E.Memory told = ⊥

-- it is the normal goal of its predicate
abbrev pub IsBody : PlainProcs → Normal → Type 0
IsBody q g =
    plain_flat g.body
    ≡ (normal_goal (length ((source_of q).preds g.pred).types)
    ((source_of q).preds g.pred).clauses).body

-- the next procedure is of its predicate
abbrev pub IsNext : PlainProcs → Normal → Type 0
IsNext q g = (length q.added < length q.preds) × (g.pred ≡ get_or q.preds (length q.added) 0)

-- what a goal needs to be tried in a mode
pub record CanTry (sigs : List Sig) (k : ℕ) (q : PlainProcs) (g : Normal) : Type 0 where
  pub sigs_fit : SigsFit (count_of q.insts) sigs
  pub there : g.pred < length q.program.preds
  pub mode : k < length (modes_at sigs g.pred)
  pub fits : NormalFits q (mode_in sigs g.pred k) g
  pub body : IsBody q g

abbrev pub exported_as : Bool → Proc → Proc
exported_as b p = record p { exported = b }

-- the insts learned of types alone: the graph is as before
pub record SameGraph (q r : PlainProcs) : Type 0 where
  pub others : r ≡ with_insts q r.insts
  pub graph : insts_of r ≡ insts_of q
  pub count : count_of r.insts ≡ count_of q.insts

-- the procedure came
pub record Adds (exported : Bool) (p : Proc) (q r : PlainProcs) : Type 0 where
  pub tested : PlainProcs
  pub same : SameGraph q tested
  pub added : r ≡ with_proc tested (exported_as exported p)

module _ (sigs : List Sig) (g : Normal) (k : ℕ) (exported : Bool) (q r : PlainProcs)
    (old new : List Broken) where
  -- its procedure came, where no rule was listed before
  pub record Came : Type 0 where
    pub none_before : old ≡ []
    pub none : new ≡ []
    pub proc : Proc
    pub found : PlainProcs
    pub scheduled : IsScheduled sigs g k (mode_in sigs g.pred k) q found proc
    pub adds : Adds exported proc found r

  -- it has an order, and some rule was listed before
  pub record Passed : Type 0 where
    pub some_before : old ≡ [] → ⊥
    pub same : new ≡ old
    pub proc : Proc
    pub scheduled : IsScheduled sigs g k (mode_in sigs g.pred k) q r proc

  -- the rule that it breaks is listed
  pub record Listed : Type 0 where
    pub verdict : Verdict
    pub end : State
    pub becomes :
        Becomes sigs g.var_types g.head (mode_in sigs g.pred k).first (mode_in sigs g.pred k).last
        (plain_flat g.body) q r end verdict
    pub told : Fault
    pub rule : Some told ≡ rule_of (length g.head) g.var_names verdict
    pub one_more :
        new
        ≡ old
        ++ record { rule = told.0; at = (mode_in sigs g.pred k).at; what = told.1 }
        ∷ []

  abbrev pub Steps : Type 0
  Steps = Came ⊎ (Passed ⊎ Listed)

-- what is known where the goals of these modes were tried
pub record SoFar (sigs : List Sig) (goals : List Normal) (exported : List Bool)
    (first q : PlainProcs) (ids : List ModeId) (faults : List Broken) : Type 0 where
  pub grown : GrownFrom first q
  pub broken : AreBroken sigs goals first q ids faults
  pub ordered : faults ≡ [] → AllZip (IsOrdered sigs goals exported first q) ids q.added
