-- What fits at a state fits at every later one, and so do its parts.
use Rattle.std.proofs.Common.{◌≡◌, ℕ, zero, suc, ◌<◌, ◌≤◌, List, [], ◌∷◌, ◌++◌, map, length, get_or, refl, sym, ap, subst, arith}
use Rattle.mc_program.specs.declared.program.Program.{Program}
use Rattle.mc_model.specs.Flat.{Flat_goal, flats, variables_of, variables_of_all}
use Rattle.mc_model.specs.PlainGoals.{plain_flat}
use Rattle.mc_model.specs.declared.flat.Flat.{Flat}
use Rattle.mc_model.specs.declared.inst.ModeDecl.{ModeDecl}
use Rattle.mc_model.specs.declared.inst.Sig.{Sig}
use Rattle.mc_insts.specs.Graphs.{count_of}
use Rattle.mc_procs.specs.Named.{NumbersBelow}
use Rattle.mc_procs.specs.Procedures.{PlainProcs}
use Rattle.mc_mode_state.specs.Agreeing.{StateExtends}
use Rattle.mc_mode_state.specs.Modes.{ModesFit}
use Rattle.mc_mode_state.specs.declared.state.State.{State}
use Rattle.mc_mode_state.proofs.PickedModes.{mode-fits-later}
use Rattle.mc_modes.specs.Signatures.{modes_at, SigsFit}
use Rattle.mc_modes.specs.Fitting.{Known, AllKnown, GoalFits, GoalsFit}
use Rattle.mc_modes.specs.code.Waiting.{variables_of_each}
use Rattle.mc_modes.proofs.Counts.{below-first, below-second, below-more}

modes-later : (n m : ℕ) (ds : List ModeDecl) → n ≤ m → ModesFit n ds → ModesFit m ds
modes-later n m [] h w = tt
modes-later n m (d ∷ ds) h w = (mode-fits-later n m d h w.0, modes-later n m ds h w.1)

pub sigs-later : (n m : ℕ) (sigs : List Sig) → n ≤ m → SigsFit n sigs → SigsFit m sigs
sigs-later n m sigs h w = λ p. modes-later n m (modes_at sigs p) h (w p)

pub sigs-moved : (q r : PlainProcs) (s t : State) (sigs : List Sig) → StateExtends q r s t → SigsFit (count_of q.insts) sigs → SigsFit (count_of r.insts) sigs
sigs-moved q r s t sigs m w = sigs-later (count_of q.insts) (count_of r.insts) sigs m.nodes.grown.more w

pub same-program : (q r : PlainProcs) (s t : State) → StateExtends q r s t → r.program ≡ q.program
same-program q r s t m = ap (λ (z : PlainProcs). z.program) m.nodes.others

pub goal-later : (q r : PlainProcs) (s t : State) (g : Flat_goal) → length s.insts.items ≤ length t.insts.items → StateExtends q r s t → GoalFits q s g → GoalFits r t g
goal-later q r s t g h m f = record {
  variables = below-more (length s.insts.items) (length t.insts.items) (variables_of g) h f.variables;
  known = subst (λ (P : Program). Known P g) (sym (same-program q r s t m)) f.known;
}

-- the variables of several goals
pub each-variables : (gs : List Flat) → variables_of_all (flats (map plain_flat gs)) ≡ variables_of_each (map plain_flat gs)
each-variables [] = refl
each-variables (g ∷ gs) = ap (λ vs. variables_of (plain_flat g) ++ vs) (each-variables gs)

pub known-at : (P : Program) (gs : List Flat_goal) (k : ℕ) (d : Flat_goal) → AllKnown P (flats gs) → k < length gs → Known P (get_or gs k d)
known-at P [] k d w h = absurd (omega arith)
known-at P (g ∷ gs) zero d w h = w.0
known-at P (g ∷ gs) (suc k) d w h = known-at P gs k d w.1 (omega arith)

pub below-goal : (n : ℕ) (gs : List Flat_goal) (k : ℕ) (d : Flat_goal) → NumbersBelow n (variables_of_all (flats gs)) → k < length gs → NumbersBelow n (variables_of (get_or gs k d))
below-goal n [] k d w h = absurd (omega arith)
below-goal n (g ∷ gs) zero d w h = below-first n (variables_of g) (variables_of_all (flats gs)) w
below-goal n (g ∷ gs) (suc k) d w h = below-goal n gs k d (below-second n (variables_of g) (variables_of_all (flats gs)) w) (omega arith)

pub goal-at : (q : PlainProcs) (s : State) (gs : List Flat_goal) (k : ℕ) (d : Flat_goal) → GoalsFit q s (flats gs) → k < length gs → GoalFits q s (get_or gs k d)
goal-at q s gs k d f h = record { variables = below-goal (length s.insts.items) gs k d f.variables h; known = known-at q.program gs k d f.known h }
