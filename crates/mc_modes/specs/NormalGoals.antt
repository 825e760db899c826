-- Predicates' normal goals, by the numbers of predicates. (Mercury Language Reference Manual:
-- Semantics; this project's certificates.)
use Rattle.std.specs.Prelude.{◌≡◌, ◌<◌, ℕ, List, [], length, get_or, None}
use Rattle.mc_model.specs.Lists.{from}
use Rattle.mc_model.specs.PlainGoals.{plain_flat}
use Rattle.mc_model.specs.declared.flat.Flat.TheVariants.{True}
use Rattle.mc_model.specs.declared.flat.Normal.{Normal}
use Rattle.mc_model.specs.declared.inst.Sig.{Sig}
use Rattle.mc_accepted.specs.Normal.{normal_goal}
use Rattle.mc_procs.specs.Procedures.{PlainProcs, source_of}
use Rattle.mc_modes.specs.Signatures.{modes_at, mode_in}
use Rattle.mc_modes.specs.Schedules.{NormalFits}

-- what stands at a number that no predicate has
abbrev pub no_goal : Normal
no_goal = record { pred = 0; head = []; var_types = []; var_names = []; body = True }

abbrev pub goal_at : List Normal → (predicate : ℕ) → Normal
goal_at goals p = get_or goals p no_goal

-- the predicate's one goal over its head variables 0, 1, .., which fits each of its modes
pub record IsNormal (q : PlainProcs) (sigs : List Sig) (p : ℕ) (g : Normal) : Type 0 where
  pub pred : g.pred ≡ p
  pub head : g.head ≡ from 0 (length ((source_of q).preds p).types)
  pub body :
      plain_flat g.body
      ≡ (normal_goal (length ((source_of q).preds p).types) ((source_of q).preds p).clauses).body
  pub fits : (k : ℕ) → k < length (modes_at sigs p) → NormalFits q (mode_in sigs p k) g

-- there is a goal for each predicate; what stands at one that is a builtin isn't asked
pub record AreNormal (q : PlainProcs) (sigs : List Sig) (goals : List Normal) : Type 0 where
  pub as_many : length goals ≡ length q.program.preds
  pub each :
      (p : ℕ) → p < length q.program.preds → ((source_of q).preds p).builtin ≡ None
      → IsNormal q sigs p (goal_at goals p)
