-- From a goal in its order to the procedure that is made of it.
use Rattle.std.proofs.Common.{◌≡◌, ◌∙◌, ℕ, zero, suc, ◌<◌, List, [], ◌∷◌, length, get_or, Ok, sym, subst, arith}
use Rattle.mc_program.specs.declared.ty.Ty.{Ty}
use Rattle.mc_model.specs.PlainGoals.{plain_flat, plain_node}
use Rattle.mc_model.specs.declared.flat.Normal.{Normal}
use Rattle.mc_model.specs.declared.inst.ModeDecl.{ModeDecl}
use Rattle.mc_model.specs.declared.inst.Sig.{Sig}
use Rattle.mc_model.specs.declared.sched.GoalNode.{GoalNode}
use Rattle.mc_model.specs.declared.sched.Proc.{Proc}
use Rattle.mc_accepted.specs.Arranged.{in_order}
use Rattle.mc_accepted.specs.FreshTests.{TestsAlike}
use Rattle.mc_procs.specs.Procedures.{PlainProcs}
use Rattle.mc_mode_state.specs.Modes.{ModeFits, ModesFit}
use Rattle.mc_mode_state.specs.Nodes.{type_in}
use Rattle.mc_modes.specs.Signatures.{modes_at, mode_in, no_mode, SigsFit}
use Rattle.mc_modes.specs.Arrangements.{Becomes, Numbers, Arranges}
use Rattle.mc_modes.specs.Schedules.{IsScheduled}
use Rattle.mc_modes.specs.code.Making.{IsMadeOf}
use Rattle.mc_modes.specs.declared.arranging.Arrangement.{Arrangement}

fits-at : (n : ℕ) (ms : List ModeDecl) (k : ℕ) → k < length ms → ModesFit n ms → ModeFits n (get_or ms k no_mode)
fits-at n [] k h w = absurd (omega arith)
fits-at n (m ∷ ms) zero h w = w.0
fits-at n (m ∷ ms) (suc k) h w = fits-at n ms k (omega arith) w.1

-- the insts of the mode are there
pub mode-fits : (n : ℕ) (sigs : List Sig) (p k : ℕ) (m : ModeDecl) → SigsFit n sigs → k < length (modes_at sigs p) → m ≡ mode_in sigs p k → ModeFits n m
mode-fits n sigs p k m fit h e = subst (ModeFits n) (sym e) (fits-at n (modes_at sigs p) k h (fit p))

scheduled-of : (sigs : List Sig) (g : Normal) (k : ℕ) (m : ModeDecl) (q r : PlainProcs) (a : Arrangement) (p : Proc)
    → Arranges sigs g.var_types g.head m.first m.last (plain_flat g.body) q r (Ok a) → IsMadeOf g k m a p → IsScheduled sigs g k m q r p
scheduled-of sigs g k m q r a p x made = record {
  end = x.0;
  becomes = subst (λ (b : GoalNode). Becomes sigs g.var_types g.head m.first m.last (plain_flat g.body) q r x.0 (in_order (plain_node b))) (sym made.body) x.1;
  numbered = subst (λ (ts : List Ty). Numbers sigs g.var_types g.head m.first (plain_flat g.body) q r x.0 (length ts)) (sym made.var_types) x.2;
  var_types = made.var_types ∙ x.3;
  alike =
      subst (λ (ts : List Ty). TestsAlike (type_in ts) (length g.var_types) (plain_node p.body)) (sym made.var_types)
      (subst (λ (b : GoalNode). TestsAlike (type_in a.types.items) (length g.var_types) (plain_node b)) (sym made.body) x.4);
  pred = made.pred;
  mode = made.mode;
  head = made.head;
  first = made.first;
  last = made.last;
  declared = made.declared;
  det = made.det;
  exported = made.exported;
  at = made.at;
}

-- by the mode and the types as they were found
pub scheduled : (sigs : List Sig) (g : Normal) (k : ℕ) (d m : ModeDecl) (types : List Ty) (q r : PlainProcs) (a : Arrangement) (p : Proc) → d ≡ m → types ≡ g.var_types
    → Arranges sigs types g.head d.first d.last (plain_flat g.body) q r (Ok a) → IsMadeOf g k d a p → IsScheduled sigs g k m q r p
scheduled sigs g k d m types q r a p e t x made =
    subst (λ (n : ModeDecl). IsScheduled sigs g k n q r p) e
    (scheduled-of sigs g k d q r a p (subst (λ (ts : List Ty). Arranges sigs ts g.head d.first d.last (plain_flat g.body) q r (Ok a)) t x) made)
