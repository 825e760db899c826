-- One goal more of a conjunction runs.
use Rattle.std.proofs.Common.{◌≡◌, ◌∙◌, ℕ, zero, suc, ◌<◌, ◌≤◌, ◌+◌, Bool, true, false, if◌then◌else◌, List, [], ◌∷◌, ◌++◌, map, length, get_or, Option, Some, None, refl, sym, ap, ap₂, subst, arith, append_assoc}
use Rattle.std.specs.List.{remove}
use Rattle.mc_program.specs.Programs.{TypeTerm, Source}
use Rattle.mc_model.specs.Flat.{Flat_goal, flats, variables_of, variables_of_all}
use Rattle.mc_model.specs.Scheduled.{Nodes, nodes}
use Rattle.mc_model.specs.PlainGoals.{plain_flat, plain_node}
use Rattle.mc_model.specs.declared.flat.Flat.{Flat}
use Rattle.mc_model.specs.declared.inst.Sig.{Sig}
use Rattle.mc_model.specs.declared.sched.GoalNode.{GoalNode}
use Rattle.mc_accepted.specs.Arranged.{Point, breaks, runs, Arranged, with_fresh, nodes_before, Picked, takes, pick}
use Rattle.mc_accepted.specs.NodeOracle.{NodeOracle, of_nodes}
use Rattle.mc_accepted.specs.Ordered.{times_in}
use Rattle.mc_procs.specs.Named.{NumbersBelow}
use Rattle.mc_procs.specs.Procedures.{PlainProcs, source_of}
use Rattle.mc_mode_state.specs.States.{point_of}
use Rattle.mc_mode_state.specs.Agreeing.{StateInvariant, StateExtends, LaterByTrail}
use Rattle.mc_mode_state.specs.Answers.{plain_fault, end_of}
use Rattle.mc_mode_state.specs.declared.state.State.{State}
use Rattle.mc_mode_state.specs.declared.part.Part.{Part}
use Rattle.mc_mode_state.specs.declared.fault.ModeFault.{ModeFault}
use Rattle.mc_modes.specs.Signatures.{declared_in}
use Rattle.mc_modes.specs.Tries.{AgreesOnClause, OutsideKnown, Succeeds, FailsWithTrail}
use Rattle.mc_modes.specs.code.Waiting.{nothing, variables_of_each, goals_at, tells_around, Counted, all_waiting, picking, turns, IsStuck, IsReady, NoneIsReady}
use Rattle.mc_modes.proofs.Counts.{around-left, below-first, below-second, below-both, times-append, times-at}
use Rattle.mc_modes.specs.code.Frames.{Entered, Left}
use Rattle.mc_modes.proofs.Frames.{Onward, with_outside, frame-is, suits-out, end-out, onward-out, onward-step, onward-trans, stepped-onward}
use Rattle.mc_modes.proofs.Passing.{same-source}
use Rattle.mc_modes.proofs.Turns.{unfinished, turn, turned, turned-all, turned-none, turned-stuck, times-fresh}
use Rattle.mc_modes.proofs.Ways.{suits-before, count-same, point-same, stepped-same}

-- What is known of goals in turn: these are done, and what is left to do gives the whole.
abbrev pub TurnsSoFar : List Sig → (all : List Flat_goal) → (ran : List ℕ) → (reachable : Bool) → (done : Nodes) → (waiting : List Flat_goal) → (q r : PlainProcs) → (s t : State) → Type 0
TurnsSoFar sigs all ran reachable done waiting q r s t =
    (first : ℕ) (O : List ℕ) (C : NodeOracle) (T : ℕ → TypeTerm)
    → tells_around (variables_of_all (flats all)) s first O → AgreesOnClause first r t C T
    → unfinished reachable done
    (turn (of_nodes C) (source_of q) (declared_in sigs) T waiting (O ++ ran) (length t.insts.items) (point_of t.insts.items))
    (length t.insts.items)
    ≡ turns sigs all q s O C T

-- the counts of what occurs outside, and of the variables of goals that ran and of those that wait
pub record Tally (all : List Flat_goal) (ran fresh : List ℕ) (waiting : List Flat_goal) (s t : State) : Type 0 where
  pub counts : (x : ℕ) → get_or t.outside.items x 0 ≡ get_or s.outside.items x 0 + times_in x fresh
  pub total : (x : ℕ) → times_in x ran + times_in x (variables_of_each waiting) ≡ times_in x (variables_of_all (flats all)) + times_in x fresh

pub tally-counted : (all : List Flat_goal) (ran fresh : List ℕ) (waiting : List Flat_goal) (s t : State) → Tally all ran fresh waiting s t → Counted (variables_of_all (flats all)) s → Counted (variables_of_each waiting) t
tally-counted all ran fresh waiting s t y c x = omega (arith, y.counts x, y.total x, c x)

-- goals in places are among all
pub each-below : (n : ℕ) (gs : List Flat) (ks : List ℕ) → NumbersBelow (length gs) ks → NumbersBelow n (variables_of_all (flats (map plain_flat gs))) → NumbersBelow n (variables_of_each (goals_at gs ks))
each-below n gs [] w u = tt
each-below n gs (k ∷ ks) w u = below-both n (variables_of (get_or (map plain_flat gs) k nothing)) (variables_of_each (goals_at gs ks)) (one gs k w.0 u) (each-below n gs ks w.1 u)
  where
    one : (hs : List Flat) (j : ℕ) → j < length hs → NumbersBelow n (variables_of_all (flats (map plain_flat hs))) → NumbersBelow n (variables_of (get_or (map plain_flat hs) j nothing))
    one [] j h v = absurd (omega arith)
    one (g ∷ hs) zero h v = below-first n (variables_of (plain_flat g)) (variables_of_all (flats (map plain_flat hs))) v
    one (g ∷ hs) (suc j) h v = one hs j (omega arith) (below-second n (variables_of (plain_flat g)) (variables_of_all (flats (map plain_flat hs))) v)

end-if : (b : Bool) (t : State) → end_of b t ≡ (if b then Some (point_of t.insts.items) else None)
end-if true t = refl
end-if false t = refl

module _ (sigs : List Sig) (all : List Flat_goal) (ran fresh : List ℕ) (done : Nodes) (waiting : List Flat_goal) (q p : PlainProcs) (s u : State)
    (more : length s.insts.items ≤ length u.insts.items) (m : StateExtends q p s u) (st : StateInvariant p u)
    (tally : Tally all ran fresh waiting s u) (counted : Counted (variables_of_all (flats all)) s)
    (among : (n : ℕ) → NumbersBelow n (variables_of_all (flats all)) → NumbersBelow n (variables_of_each waiting))
    (so : TurnsSoFar sigs all ran true done waiting q p s u) where
  tells-left : (first : ℕ) (O : List ℕ) → tells_around (variables_of_all (flats all)) s first O → tells_around (variables_of_each waiting) u first (O ++ ran)
  tells-left first O w = (
    let a = w.0 in omega arith,
    among first w.1,
    λ x. around-left O ran x (get_or s.outside.items x 0) (get_or u.outside.items x 0) (times_in x (variables_of_all (flats all))) (times_in x fresh) (times_in x (variables_of_each waiting)) (tally.counts x) (tally.total x) (counted x) (w.2 x),
  )

  -- what a pass finds, over the procedures at the beginning
  found-is : (O : List ℕ) (C : NodeOracle) (T : ℕ → TypeTerm) → picking sigs waiting q u O C T ≡ picking sigs waiting p u O C T
  found-is O C T = ap (λ P. picked-over P) (sym (same-source q p s u m))
    where
      picked-over : Source → Picked ℕ
      picked-over P = pick [] (all_waiting (of_nodes C) P (declared_in sigs) T waiting) O (length u.insts.items) (point_of u.insts.items)

  pub turn-on : (r : PlainProcs) (t v : State) (k : ℕ) (part : Part) (after : Nodes) → IsReady sigs waiting p r u t k part → Entered part.freshened.items t v
      → after ≡ nodes_before done (nodes (map plain_node part.goals.items))
      → TurnsSoFar sigs all (ran ++ with_fresh (variables_of (get_or waiting k nothing)) part.freshened.items) part.reachable after (remove waiting k) q r s v
  turn-on r t v k part after d e f = λ first O C T w z.
      let vs = with_fresh (variables_of (get_or waiting k nothing)) part.freshened.items in
      let back : AgreesOnClause first r t C T = suits-out first r t v C T e.frame.types e.frame.nodes z in
      let found = found-is (O ++ ran) C T ∙ (d.outcome first (O ++ ran) C T (tells-left first O w) back ∙ ap₂ (takes-to C T) (same-source q p s u m) (end-if part.reachable t)) in
      ap (λ n. unfinished part.reachable after (turn (of_nodes C) (source_of q) (declared_in sigs) T (remove waiting k) (O ++ (ran ++ vs)) n (point_of v.insts.items)) n) (count-same t v e.frame)
      ∙ (ap (λ b. unfinished part.reachable after (turn (of_nodes C) (source_of q) (declared_in sigs) T (remove waiting k) (O ++ (ran ++ vs)) (length t.insts.items) b) (length t.insts.items)) (point-same t v e.frame)
      ∙ (ap (λ P. unfinished part.reachable after (turn (of_nodes C) (source_of q) (declared_in sigs) T (remove waiting k) P (length t.insts.items) (point_of t.insts.items)) (length t.insts.items)) (sym (append_assoc O ran vs))
      ∙ (turned (of_nodes C) (source_of q) (declared_in sigs) T waiting k (O ++ ran) vs (length u.insts.items) (length t.insts.items) (point_of u.insts.items) part.reachable (point_of t.insts.items) done (nodes (map plain_node part.goals.items)) after d.place found f
      ∙ so first O C T w (suits-before first C p r u t T st d.stepped.moved back))))
    where
      takes-to : NodeOracle → (ℕ → TypeTerm) → Source → Option (Point ℕ) → Picked ℕ
      takes-to C T P o =
          takes (with_fresh (variables_of (get_or waiting k nothing)) part.freshened.items)
          (all_waiting (of_nodes C) P (declared_in sigs) T (remove waiting k)) (nodes (map plain_node part.goals.items)) o (length t.insts.items)

  -- none is left
  pub turn-ended : waiting ≡ [] → (first : ℕ) (O : List ℕ) (C : NodeOracle) (T : ℕ → TypeTerm) → tells_around (variables_of_all (flats all)) s first O → AgreesOnClause first p u C T
      → turns sigs all q s O C T ≡ runs done (Some (point_of u.insts.items)) (length u.insts.items) []
  turn-ended none first O C T w z =
      sym (so first O C T w z) ∙ turned-all (of_nodes C) (source_of q) (declared_in sigs) T waiting (O ++ ran) (length u.insts.items) (point_of u.insts.items) done none

  -- none runs
  pub turn-breaks : (r : PlainProcs) (t : State) (found : Option ModeFault) (f : ModeFault) → 0 < length waiting → NoneIsReady sigs waiting p r u t found
      → IsStuck (point_of u.insts.items) waiting found f
      → (first : ℕ) (O : List ℕ) (C : NodeOracle) (T : ℕ → TypeTerm) → tells_around (variables_of_all (flats all)) s first O → AgreesOnClause first r t C T
      → turns sigs all q s O C T ≡ breaks (plain_fault f)
  turn-breaks r t (Some g) f some d is first O C T w z =
      sym (so first O C T w (suits-before first C p r u t T st d.moved z))
      ∙ (turned-none (of_nodes C) (source_of q) (declared_in sigs) T waiting (O ++ ran) (length u.insts.items) (point_of u.insts.items) done (plain_fault g) some
      (found-is (O ++ ran) C T ∙ d.outcome first (O ++ ran) C T (tells-left first O w) z)
      ∙ ap (λ e. let a : Arranged ℕ = breaks (plain_fault e) in a) (sym is))
  turn-breaks r t None f some d is first O C T w z =
      sym (so first O C T w (suits-before first C p r u t T st d.moved z))
      ∙ (turned-stuck (of_nodes C) (source_of q) (declared_in sigs) T waiting (O ++ ran) (length u.insts.items) (point_of u.insts.items) done some
      (found-is (O ++ ran) C T ∙ d.outcome first (O ++ ran) C T (tells-left first O w) z)
      ∙ ap (λ e. let a : Arranged ℕ = breaks e in a) (sym is))

-- the tally after a goal that ran
pub tally-on : (all : List Flat_goal) (ran fresh : List ℕ) (waiting : List Flat_goal) (s u t v : State) (k : ℕ) (zs : List ℕ) → k < length waiting → Tally all ran fresh waiting s u
    → ((x : ℕ) → get_or t.outside.items x 0 ≡ get_or u.outside.items x 0) → Entered zs t v
    → Tally all (ran ++ with_fresh (variables_of (get_or waiting k nothing)) zs) (fresh ++ zs) (remove waiting k) s v
tally-on all ran fresh waiting s u t v k zs h y same e = record {
  counts = λ x. omega (arith, e.counts x, same x, y.counts x, times-append x fresh zs);
  total = λ x.
      omega (arith, y.total x, times-at x waiting k h, times-append x fresh zs, times-append x ran (with_fresh (variables_of (get_or waiting k nothing)) zs), times-fresh x (variables_of (get_or waiting k nothing)) zs);
}

-- the end of goals in turn
module _ (sigs : List Sig) (all : List Flat_goal) (ran fresh : List ℕ) (done : List GoalNode) (waiting : List Flat_goal) (q p : PlainProcs) (s u : State)
    (on : Onward q p s u) (tally : Tally all ran fresh waiting s u) where
  abbrev around : OutsideKnown
  around = tells_around (variables_of_all (flats all)) s

  same-outside : (w : State) → Left fresh u w → (x : ℕ) → get_or w.outside.items x 0 ≡ get_or s.outside.items x 0
  same-outside w l x = omega (arith, l.counts x, tally.counts x)

  step-left : (w : State) → Left fresh u w → LaterByTrail q p s w
  step-left w l =
      subst (LaterByTrail q p s) (sym (frame-is u w l.frame))
      (stepped-onward q p s (with_outside u w.outside) (same-outside w l) (onward-out q p s u w.outside l.frame.len on))

  -- all goals ran, or the point after the last is unreachable
  pub turns-run : (w : State) (part : Part) (reachable : Bool) → Left fresh u w → part.goals.items ≡ done → part.reachable ≡ reachable → part.freshened.items ≡ []
      → (reachable ≡ true → waiting ≡ []) → TurnsSoFar sigs all ran reachable (nodes (map plain_node done)) waiting q p s u
      → Succeeds around (turns sigs all q s) q p s w part
  turns-run w part reachable l g e z last so = record {
    outcome = λ first O C T k v.
        at first O C T reachable refl last so k (suits-out first p u w C T l.frame.types l.frame.nodes v)
        ∙ (ap₂ (λ o n. runs (nodes (map plain_node done)) o n []) (sym (end-out reachable u w l.frame.insts)) (sym (count-same u w l.frame))
        ∙ (ap₂ (λ (gs : List GoalNode) (t : Bool). runs (nodes (map plain_node gs)) (end_of t w) (length w.insts.items) []) (sym g) (sym e)
        ∙ ap (runs (nodes (map plain_node part.goals.items)) (end_of part.reachable w) (length w.insts.items)) (sym z)));
    fresh = subst (NumbersBelow (length w.insts.items)) (sym z) tt;
    stepped = step-left w l;
  }
    where
      at : (first : ℕ) (O : List ℕ) (C : NodeOracle) (T : ℕ → TypeTerm) (t : Bool) → reachable ≡ t → (t ≡ true → waiting ≡ []) → TurnsSoFar sigs all ran t (nodes (map plain_node done)) waiting q p s u
          → around first O → AgreesOnClause first p u C T → turns sigs all q s O C T ≡ runs (nodes (map plain_node done)) (end_of t u) (length u.insts.items) []
      at first O C T true f h so k v =
          sym (so first O C T k v) ∙ turned-all (of_nodes C) (source_of q) (declared_in sigs) T waiting (O ++ ran) (length u.insts.items) (point_of u.insts.items) (nodes (map plain_node done)) (h refl)
      at first O C T false f h so k v = sym (so first O C T k v)

-- none of the waiting goals runs
pub turns-break : (sigs : List Sig) (all : List Flat_goal) (ran fresh : List ℕ) (done : Nodes) (waiting : List Flat_goal) (q p r : PlainProcs) (s u t w : State) (found : Option ModeFault) (f : ModeFault)
    → Onward q p s u → Tally all ran fresh waiting s u → StateInvariant p u → Counted (variables_of_all (flats all)) s
    → ((n : ℕ) → NumbersBelow n (variables_of_all (flats all)) → NumbersBelow n (variables_of_each waiting))
    → TurnsSoFar sigs all ran true done waiting q p s u → 0 < length waiting → NoneIsReady sigs waiting p r u t found
    → IsStuck (point_of t.insts.items) waiting found f → Left fresh t w
    → FailsWithTrail (tells_around (variables_of_all (flats all)) s) (turns sigs all q s) q r s w f
turns-break sigs all ran fresh done waiting q p r s u t w found f on tally st counted among so some d is l = record {
  outcome = λ first O C T k v.
      turn-breaks sigs all ran fresh done waiting q p s u on.more on.moved st tally counted among so r t found f some d
      (subst (λ (b : Point ℕ). IsStuck b waiting found f) d.same.point is) first O C T k (suits-out first r t w C T l.frame.types l.frame.nodes v);
  stepped =
      subst (LaterByTrail q r s) (sym (frame-is t w l.frame))
      (stepped-onward q r s (with_outside t w.outside) (λ x. omega (arith, l.counts x, d.same.outside x, tally.counts x))
      (onward-out q r s t w.outside l.frame.len (onward-trans q p r s u t on (onward-step p r u t (stepped-same p r u t d.same d.moved)))));
}
