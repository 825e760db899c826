-- A goal whose insts are taken back, and what is told of it.
use Rattle.std.proofs.Common.{◌≡◌, ◌∙◌, ℕ, Bool, true, false, List, length, not, Option, Result, Ok, sym, ap, subst}
use Rattle.mc_model.specs.Flat.{Flat_goal}
use Rattle.mc_model.specs.Scheduled.{Conj, no_nodes}
use Rattle.mc_model.specs.PlainGoals.{plain_node}
use Rattle.mc_model.specs.Stream.{is_bound}
use Rattle.mc_model.specs.declared.inst.Sig.{Sig}
use Rattle.mc_model.specs.declared.sched.GoalNode.{GoalNode}
use Rattle.mc_accepted.specs.Arranged.{Point, ascending}
use Rattle.mc_accepted.specs.Unmarked.{unmarked}
use Rattle.mc_procs.specs.Procedures.{PlainProcs}
use Rattle.mc_mode_state.specs.States.{point_of, snapshot_of, TrailRestores}
use Rattle.mc_mode_state.specs.Agreeing.{StateInvariant}
use Rattle.mc_mode_state.specs.declared.state.State.{State}
use Rattle.mc_mode_state.specs.declared.state.Snapshot.{Snapshot}
use Rattle.mc_mode_state.specs.declared.part.Part.{Part}
use Rattle.mc_mode_state.specs.declared.fault.Failed.{Failed}
use Rattle.mc_modes.specs.Tries.{OutsideKnown, Succeeds}
use Rattle.mc_modes.specs.code.Parts.{trying_beside, then_try, DoesBranch}
use Rattle.mc_modes.proofs.Choosing.{nothing-branch}
use Rattle.mc_modes.proofs.Closing.{Back, BindsIs}

pub backed : (s t u : State) (mark : Snapshot) → mark ≡ snapshot_of s → TrailRestores s t
    → ((v : State) → TrailRestores v t → length v.trail.items ≡ mark.trail → (point_of u.insts.items ≡ point_of v.insts.items) × (u.trail.items ≡ v.trail.items))
    → length u.insts.items ≡ length t.insts.items → u.outside ≡ t.outside → u.types ≡ t.types → u.nodes ≡ t.nodes → Back s t u
backed s t u mark e leads back count outside types nodes =
    let k = back s leads (sym (ap (λ (m : Snapshot). m.trail) e)) in
    record { point = k.0; trail = k.1; count = count; outside = outside; types = types; nodes = nodes }

pub trail-marked : (s : State) (mark : Snapshot) → mark ≡ snapshot_of s → length s.trail.items ≡ mark.trail
trail-marked s mark e = sym (ap (λ (m : Snapshot). m.trail) e)

-- the variables that a goal must not bind, from those of them that are free
pub bound-by : (s : State) (xs vs free : List ℕ) (o : Option (Point ℕ)) (x : Option ℕ) → vs ≡ xs → free ≡ ascending (λ y. not (is_bound (point_of s.insts.items y))) vs
    → ((b : Point ℕ) (ys : List ℕ) → free ≡ ascending (λ y. not (is_bound (b y))) ys → BindsIs ys b o x) → BindsIs xs (point_of s.insts.items) o x
bound-by s xs vs free o x e f h = h (point_of s.insts.items) xs (f ∙ ap (ascending (λ y. not (is_bound (point_of s.insts.items y)))) e)

-- beside the same variables
pub beside-same : (told : OutsideKnown) (us vs : List ℕ) (sigs : List Sig) (g : Flat_goal) (q r : PlainProcs) (s t : State) (p : Part) → us ≡ vs
    → Succeeds told (trying_beside us sigs g q s) q r s t p → Succeeds told (trying_beside vs sigs g q s) q r s t p
beside-same told us vs sigs g q r s t p e d = subst (λ ws. Succeeds told (trying_beside ws sigs g q s) q r s t p) e d

-- a then part behind an unreachable point
pub then-nothing : (reachable : Bool) (told : OutsideKnown) (vs : List ℕ) (sigs : List Sig) (h : Flat_goal) (seen : List ℕ) (q : PlainProcs) (s : State) (es : List (List ℕ)) (g : GoalNode) → reachable ≡ false → StateInvariant q s
    → plain_node g ≡ unmarked (Conj no_nodes) → DoesBranch told (then_try reachable vs sigs h q s) seen q q s s es es (Ok g)
then-nothing reachable told vs sigs h seen q s es g e st n =
    subst (λ b. DoesBranch told (then_try b vs sigs h q s) seen q q s s es es (Ok g)) (sym e) (nothing-branch told vs sigs h seen q s es g st n)

-- behind a reachable one
pub then-branch : (reachable : Bool) (told : OutsideKnown) (us vs : List ℕ) (sigs : List Sig) (h : Flat_goal) (seen : List ℕ) (q r : PlainProcs) (s t : State) (es fs : List (List ℕ)) (res : Result GoalNode Failed) → reachable ≡ true → us ≡ vs
    → DoesBranch told (trying_beside us sigs h q s) seen q r s t es fs res → DoesBranch told (then_try reachable vs sigs h q s) seen q r s t es fs res
then-branch reachable told us vs sigs h seen q r s t es fs res e i d =
    subst (λ b. DoesBranch told (then_try b vs sigs h q s) seen q r s t es fs res) (sym e)
    (subst (λ ws. DoesBranch told (trying_beside ws sigs h q s) seen q r s t es fs res) i d)
