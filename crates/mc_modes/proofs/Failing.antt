-- Where a part of a goal has no order, the goal has none.
use Rattle.std.proofs.Common.{◌≡◌, ℕ, true, List, [], ◌∷◌, ◌++◌, length, Option, Some, Err, refl, sym, subst}
use Rattle.mc_model.specs.Flat as F
use Rattle.mc_model.specs.Flat.{Flat_goal, flats, variables_of, variables_of_all, free_in, no_flat}
use Rattle.mc_model.specs.Scheduled.{Scheduled, Nodes, no_nodes, Conj}
use Rattle.mc_model.specs.declared.inst.Sig.{Sig}
use Rattle.mc_accepted.specs.Arranged.{Point, wrapped}
use Rattle.mc_accepted.specs.NodeOracle.{NodeOracle, of_nodes}
use Rattle.mc_procs.specs.Named.{NumbersBelow}
use Rattle.mc_procs.specs.Procedures.{PlainProcs}
use Rattle.mc_mode_state.specs.States.{point_of}
use Rattle.mc_mode_state.specs.Agreeing.{StateInvariant, LaterByTrail}
use Rattle.mc_mode_state.specs.declared.state.State.{State}
use Rattle.mc_mode_state.specs.declared.part.Part.{Part}
use Rattle.mc_mode_state.specs.declared.fault.Failed.{Failed}
use Rattle.mc_mode_state.specs.declared.fault.Failed.TheVariants as E
use Rattle.mc_mode_state.proofs.Steps.{stepped-refl}
use Rattle.mc_modes.specs.Tries.{Attempt, OutsideKnown, attempt_of, tells_outside, TryPost, AttemptPost, Succeeds}
use Rattle.mc_modes.specs.code.Parts.{IsOne, trying_beside, then_try, DoesBranch, DoesTest, DoesTestAndThen, IsCondition, IsBegun, outer_of}
use Rattle.mc_modes.specs.declared.ending.Condition.{Condition}
use Rattle.mc_modes.specs.declared.ending.Begun.{Begun}
use Rattle.mc_modes.proofs.Choosing.{test-breaks, then-breaks, choice-fails, else-fails}
use Rattle.mc_modes.proofs.Closing.{negation-fails}
use Rattle.mc_modes.proofs.Merging.{BranchesSoFar, branch-breaks, disjunction-fails}
use Rattle.mc_modes.proofs.Ways.{goes, fails-wrapped}
use Rattle.mc_mode_state.proofs.Steps.{stepped-trans}

pub failed-wrapped : (told : OutsideKnown) (a : Attempt) (b : Point ℕ) (f : NodeOracle → ℕ → Option (Point ℕ) → Nodes → Scheduled) (q r : PlainProcs) (s t : State) (e : Failed)
    → TryPost told a q r s t (Err e) → AttemptPost told (λ O C T. wrapped (of_nodes C) (f C) b (a O C T)) q r s t (Err e)
failed-wrapped told a b f q r s t (E.Fault m) d = fails-wrapped told a b f q r s t m (goes told a q r s t (Err (E.Fault m)) d)
failed-wrapped told a b f q r s t E.Memory d = tt

pub failed-negation : (sigs : List Sig) (g : Flat_goal) (q r : PlainProcs) (s t : State) (e : Failed)
    → TryPost (tells_outside (variables_of g) s) (trying_beside (free_in g) sigs g q s) q r s t (Err e) → AttemptPost (tells_outside (variables_of g) s) (attempt_of sigs (F.Not g) q s) q r s t (Err e)
failed-negation sigs g q r s t (E.Fault m) d =
    negation-fails sigs g q r s t m (goes (tells_outside (variables_of g) s) (trying_beside (free_in g) sigs g q s) q r s t (Err (E.Fault m)) d)
failed-negation sigs g q r s t E.Memory d = tt

pub failed-branch : (told : OutsideKnown) (a : Attempt) (seen : List ℕ) (q r : PlainProcs) (s t : State) (es fs : List (List ℕ)) (e : Failed) → TryPost told a q r s t (Err e) → DoesBranch told a seen q r s t es fs (Err e)
failed-branch told a seen q r s t es fs (E.Fault m) d = goes told a q r s t (Err (E.Fault m)) d
failed-branch told a seen q r s t es fs E.Memory d = tt

pub failed-test : (told : OutsideKnown) (a : Attempt) (xs : List ℕ) (q r : PlainProcs) (s t : State) (e : Failed) → TryPost told a q r s t (Err e) → DoesTest told a xs q r s t (Err e)
failed-test told a xs q r s t (E.Fault m) d = goes told a q r s t (Err (E.Fault m)) d
failed-test told a xs q r s t E.Memory d = tt

pub failed-disjunct : (sigs : List Sig) (all rest : List Flat_goal) (g : Flat_goal) (done : Nodes) (reached : List (Point ℕ)) (q p r : PlainProcs) (s u t : State) (seen : List ℕ) (es fs : List (List ℕ)) (e : Failed)
    → ((n : ℕ) → NumbersBelow n (variables_of_all (flats all)) → NumbersBelow n (variables_of g))
    → StateInvariant p u → LaterByTrail q p s u → point_of u.insts.items ≡ point_of s.insts.items
    → BranchesSoFar sigs (variables_of_all (flats all)) all (g ∷ rest) done reached q p s u
    → DoesBranch (tells_outside (variables_of g) u) (trying_beside [] sigs g p u) seen p r u t es fs (Err e)
    → AttemptPost (tells_outside (variables_of_all (flats all)) s) (attempt_of sigs (F.Or (flats all)) q s) q r s t (Err e)
failed-disjunct sigs all rest g done reached q p r s u t seen es fs (E.Fault m) below st step point so d =
    disjunction-fails sigs all q r s t m (stepped-trans q p r s u t step d.stepped)
    (branch-breaks sigs (variables_of_all (flats all)) all rest g done reached q p s u below st step point so r t m d)
failed-disjunct sigs all rest g done reached q p r s u t seen es fs E.Memory below st step point so d = tt

pub failed-condition : (vs : List ℕ) (g h : Flat_goal) (sigs : List Sig) (q r : PlainProcs) (s t : State) (seen : List ℕ) (es fs : List (List ℕ)) (e : Failed)
    → DoesTest (tells_outside (variables_of g) s) (trying_beside (outer_of vs g h sigs q s ++ variables_of h) sigs g q s) (outer_of vs g h sigs q s) q r s t (Err e)
    → DoesTestAndThen vs g h sigs q s seen r t es fs (Err e)
failed-condition vs g h sigs q r s t seen es fs (E.Fault m) d = test-breaks vs g h sigs q s r t m d
failed-condition vs g h sigs q r s t seen es fs E.Memory d = tt

pub failed-then : (vs : List ℕ) (g h : Flat_goal) (sigs : List Sig) (q p r : PlainProcs) (s u t : State) (seen : List ℕ) (es fs : List (List ℕ)) (c : Condition) (e : Failed)
    → IsCondition (tells_outside (variables_of g) s) (trying_beside (outer_of vs g h sigs q s ++ variables_of h) sigs g q s) (outer_of vs g h sigs q s) q p s u c → StateInvariant p u
    → DoesBranch (tells_outside (variables_of h) u) (then_try c.reachable (variables_of g) sigs h p u) seen p r u t es fs (Err e)
    → DoesTestAndThen vs g h sigs q s seen r t es fs (Err e)
failed-then vs g h sigs q p r s u t seen es fs c (E.Fault m) d st b = then-breaks vs g h sigs q s p u c d r t m st b
failed-then vs g h sigs q p r s u t seen es fs c E.Memory d st b = tt

pub failed-before : (vs : List ℕ) (g h k : Flat_goal) (sigs : List Sig) (q r : PlainProcs) (s t : State) (seen : List ℕ) (es fs : List (List ℕ)) (e : Failed)
    → DoesTestAndThen vs g h sigs q s seen r t es fs (Err e)
    → AttemptPost (tells_outside (variables_of (F.If vs g h k)) s) (attempt_of sigs (F.If vs g h k) q s) q r s t (Err e)
failed-before vs g h k sigs q r s t seen es fs (E.Fault m) d = choice-fails vs g h k sigs q s r t m d
failed-before vs g h k sigs q r s t seen es fs E.Memory d = tt

pub failed-else : (vs : List ℕ) (g h k : Flat_goal) (sigs : List Sig) (q r p : PlainProcs) (s t u : State) (seen : List ℕ) (fs rows : List (List ℕ)) (b : Begun) (e : Failed)
    → IsBegun vs g h sigs q s seen r t [] fs b → StateInvariant r t
    → DoesBranch (tells_outside (variables_of k) t) (trying_beside [] sigs k r t) seen r p t u fs rows (Err e)
    → AttemptPost (tells_outside (variables_of (F.If vs g h k)) s) (attempt_of sigs (F.If vs g h k) q s) q p s u (Err e)
failed-else vs g h k sigs q r p s t u seen fs rows b (E.Fault m) d st a = else-fails vs g h k sigs q s seen r t fs b d st p u m a
failed-else vs g h k sigs q r p s t u seen fs rows b E.Memory d st a = tt

-- the empty conjunction
pub true-runs : (sigs : List Sig) (q : PlainProcs) (s : State) (p : Part) → StateInvariant q s → IsOne (length s.insts.items) (point_of s.insts.items) (Some (point_of s.insts.items)) (Conj no_nodes) p → p.reachable ≡ true
    → Succeeds (tells_outside [] s) (attempt_of sigs (F.And no_flat) q s) q q s s p
true-runs sigs q s p st i e = record {
  outcome = λ first O C T k u.
      rw e (rw i.goals (rw i.freshened refl));
  fresh = subst (NumbersBelow (length s.insts.items)) (sym i.freshened) tt;
  stepped = stepped-refl q s st;
}
