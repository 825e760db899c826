-- An if-then-else by what is known of its parts.
use Rattle.std.proofs.Common.{◌≡◌, ℕ, List, [], length, Option, Some, None, Result, Ok, Err, OnOk, sym, subst}
use Rattle.mc_model.specs.Flat as F
use Rattle.mc_model.specs.Flat.{Flat_goal, variables_of}
use Rattle.mc_model.specs.Scheduled.{Scheduled, Ite}
use Rattle.mc_model.specs.PlainGoals.{plain_node}
use Rattle.mc_model.specs.declared.inst.Sig.{Sig}
use Rattle.mc_model.specs.declared.sched.GoalNode.{GoalNode}
use Rattle.mc_procs.specs.Procedures.{PlainProcs}
use Rattle.mc_mode_state.specs.Agreeing.{StateInvariant}
use Rattle.mc_mode_state.specs.declared.state.State.{State}
use Rattle.mc_mode_state.specs.declared.part.Part.{Part}
use Rattle.mc_mode_state.specs.declared.fault.Failed.{Failed}
use Rattle.mc_mode_state.specs.declared.fault.Failed.TheVariants as E
use Rattle.mc_modes.specs.Tries.{attempt_of, tells_outside, FailsWithTrail, AttemptPost}
use Rattle.mc_modes.specs.code.Parts.{trying_beside, IsBranch, IsBegun, ChosenAs, ForbiddenBy}
use Rattle.mc_modes.specs.declared.ending.Begun.{Begun}
use Rattle.mc_modes.proofs.Choosing.{choice-binds, choice-goes}

module _ (vs : List ℕ) (g h k : Flat_goal) (sigs : List Sig) (q : PlainProcs) (s : State) (seen : List ℕ) (r : PlainProcs) (t : State) (fs : List (List ℕ)) (b : Begun)
    (d : IsBegun vs g h sigs q s seen r t [] fs b) (st : StateInvariant r t) (p : PlainProcs) (u : State) (rows : List (List ℕ)) (node : GoalNode)
    (a : IsBranch (tells_outside (variables_of k) t) (trying_beside [] sigs k r t) seen r p t u fs rows node) (su : StateInvariant p u) where
  abbrev goal : Flat_goal
  goal = F.If vs g h k

  abbrev whole : Scheduled
  whole = Ite vs (plain_node b.condition) (plain_node b.then_part) (plain_node node)

  abbrev GoesTo : PlainProcs → State → Result Part Failed → Type 0
  GoesTo m v res = AttemptPost (tells_outside (variables_of goal) s) (attempt_of sigs goal q s) q m s v res

  -- the condition must not bind that variable
  forbidden : (x : ℕ) (m : PlainProcs) (v : State) (res : Result Part Failed) → b.bound ≡ Some x → ForbiddenBy x p m u v res → GoesTo m v res
  forbidden x m v (Ok part) e f = absurd f
  forbidden x m v (Err (E.Fault y)) e f =
      let here : FailsWithTrail (tells_outside (variables_of goal) s) (attempt_of sigs goal q s) q p s u y = choice-binds vs g h k sigs q s seen r t fs b d st p u rows node a su x y e f.0 in
      subst (λ (n : PlainProcs). GoesTo n v (Err (E.Fault y))) (sym f.1) (subst (λ (w : State). GoesTo p w (Err (E.Fault y))) (sym f.2) here)
  forbidden x m v (Err E.Memory) e f = tt

  pub chosen-goes : (bound : Option ℕ) (m : PlainProcs) (v : State) (res : Result Part Failed) → b.bound ≡ bound → OnOk res (length v.insts.items ≡ length u.insts.items)
      → ChosenAs bound whole (variables_of goal) seen rows p m u v res → GoesTo m v res
  chosen-goes None m v res e count x = choice-goes vs g h k sigs q s seen r t fs b d st p u rows node a su m v res e a.point count x
  chosen-goes (Some y) m v res e count x = forbidden y m v res e x
