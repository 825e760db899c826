-- A waiting goal that is tried, and what a pass finds by it.
use Rattle.std.proofs.Common.{◌≡◌, ◌∙◌, ℕ, suc, ◌<◌, ◌≤◌, ◌+◌, ◌-◌, not, nat_eq, zero, Bool, List, [], ◌∷◌, ◌++◌, map, length, get_or, take, drop, Option, refl, sym, ap, ap₂, subst, arith}
use Rattle.std.specs.List.{remove}
use Rattle.mc_program.specs.Programs.{TypeTerm}
use Rattle.mc_model.specs.Flat.{Flat_goal, variables_of}
use Rattle.mc_model.specs.Scheduled.{nodes}
use Rattle.mc_model.specs.PlainGoals.{plain_node}
use Rattle.mc_model.specs.declared.inst.Sig.{Sig}
use Rattle.mc_accepted.specs.Arranged.{Arranged, runs, breaks, Waiting, with_fresh, pick, picked, trial}
use Rattle.mc_accepted.specs.NodeOracle.{NodeOracle, of_nodes}
use Rattle.mc_accepted.specs.Ordered.{times_in}
use Rattle.mc_procs.specs.Procedures.{PlainProcs, source_of}
use Rattle.mc_mode_state.specs.States.{point_of, SameState}
use Rattle.mc_mode_state.specs.Agreeing.{StateInvariant, StateExtends}
use Rattle.mc_mode_state.specs.Answers.{plain_fault, end_of}
use Rattle.mc_mode_state.specs.declared.state.State.{State}
use Rattle.mc_mode_state.specs.declared.part.Part.{Part}
use Rattle.mc_mode_state.specs.declared.fault.ModeFault.{ModeFault}
use Rattle.mc_mode_state.proofs.Steps.{stepped-trans}
use Rattle.mc_modes.specs.Signatures.{declared_in}
use Rattle.mc_modes.specs.Tries.{AgreesOnClause, attempt_of, Succeeds, FailsUnchanged}
use Rattle.mc_modes.specs.code.Waiting.{nothing, variables_of_each, tells_around, Counted, all_waiting, waiting_at, picking, noted, IsReady, NoneIsReady}
use Rattle.mc_modes.specs.code.Sleeping.{Waits}
use Rattle.mc_modes.proofs.Counts.{around-one, below-at, times-at}
use Rattle.mc_modes.proofs.Picks.{scanned, scanned-on, scanned-waits, scanned-takes, scanned-none, pick-at}
use Rattle.mc_modes.proofs.Ways.{suits-before, stepped-same}

pub same-source : (q r : PlainProcs) (s t : State) → StateExtends q r s t → source_of r ≡ source_of q
same-source q r s t m = ap source_of m.nodes.others

-- What is known of a pass: what was found first, and what is found from a place on.
abbrev pub FoundSoFar : List Sig → List Flat_goal → (k : ℕ) → Option ModeFault → (q r : PlainProcs) → (s t : State) → Type 0
FoundSoFar sigs gs k found q r s t =
    (first : ℕ) (O : List ℕ) (C : NodeOracle) (T : ℕ → TypeTerm)
    → tells_around (variables_of_each gs) s first O → AgreesOnClause first r t C T
    → let W = all_waiting (of_nodes C) (source_of q) (declared_in sigs) T gs in
    scanned found (pick (take k W) (drop k W) O (length s.insts.items) (point_of s.insts.items))
    ≡ picking sigs gs q s O C T

module _ (sigs : List Sig) (gs : List Flat_goal) (k : ℕ) (h : k < length gs) (q p : PlainProcs) (s u : State) (same : SameState s u) (m : StateExtends q p s u)
    (counted : Counted (variables_of_each gs) s) where
  abbrev g : Flat_goal
  g = get_or gs k nothing

  abbrev others : List ℕ
  others = variables_of_each (remove gs k)

  tells-one : (first : ℕ) (O : List ℕ) → tells_around (variables_of_each gs) s first O → tells_around (variables_of g) u first (O ++ others)
  tells-one first O w = (
    subst (λ n. first ≤ n) (sym same.count) w.0,
    below-at first gs k h w.1,
    λ x.
        around-one O others x (get_or u.outside.items x 0) (times_in x (variables_of_each gs)) (times_in x (variables_of g))
        (times-at x gs k h) (subst (λ n. times_in x (variables_of_each gs) ≤ n) (sym (same.outside x)) (counted x))
        (w.2 x ∙ ap (λ n. not-left n x) (sym (same.outside x))),
  )
    where
      not-left : ℕ → ℕ → Bool
      not-left n x = not (nat_eq (n - times_in x (variables_of_each gs)) 0)

  -- the goal, tried beside the others
  tried-one : (first : ℕ) (O : List ℕ) (C : NodeOracle) (T : ℕ → TypeTerm) (x : Arranged ℕ) → tells_around (variables_of_each gs) s first O
      → ((P : List ℕ) → tells_around (variables_of g) u first P → attempt_of sigs g p u P C T ≡ x)
      → trial (of_nodes C) (source_of q) (declared_in sigs) T g (O ++ others) (length s.insts.items) (point_of s.insts.items) ≡ x
  tried-one first O C T x w f =
      ap (λ P. trial (of_nodes C) P (declared_in sigs) T g (O ++ others) (length s.insts.items) (point_of s.insts.items)) (sym (same-source q p s u m))
      ∙ (ap₂ (trial (of_nodes C) (source_of p) (declared_in sigs) T g (O ++ others)) (sym same.count) (sym same.point)
      ∙ f (O ++ others) (tells-one first O w))

  -- it doesn't run
  pub passed-on : (found : Option ModeFault) (r : PlainProcs) (t : State) (f : ModeFault) → StateInvariant p u → FoundSoFar sigs gs k found q p s u
      → FailsUnchanged (tells_around (variables_of g) u) (attempt_of sigs g p u) p r u t f → FoundSoFar sigs gs (k + 1) (noted found f) q r s t
  passed-on found r t f st so d = λ first O C T w v.
      let W = all_waiting (of_nodes C) (source_of q) (declared_in sigs) T gs in
      let n = length s.insts.items in
      let b = point_of s.insts.items in
      sym (scanned-on found f (waiting_at (of_nodes C) (source_of q) (declared_in sigs) T g) (all_waiting (of_nodes C) (source_of q) (declared_in sigs) T (remove gs k)) (pick (take (k + 1) W) (drop (k + 1) W) O n b))
      ∙ (ap (λ x. scanned found (picked (waiting_at (of_nodes C) (source_of q) (declared_in sigs) T g) (all_waiting (of_nodes C) (source_of q) (declared_in sigs) T (remove gs k)) x (pick (take (k + 1) W) (drop (k + 1) W) O n b)))
      (sym (tried-one first O C T (breaks (plain_fault f)) w (λ P z. d.outcome first P C T z v)))
      ∙ (ap (scanned found) (sym (pick-at (of_nodes C) (source_of q) (declared_in sigs) T gs k O n b h))
      ∙ so first O C T w (suits-before first C p r u t T st d.moved v)))

  -- it waits, whatever occurs outside it
  pub passed-asleep : (found : Option ModeFault) → FoundSoFar sigs gs k found q p s u
      → ((first : ℕ) (C : NodeOracle) (T : ℕ → TypeTerm) (O : List ℕ) → AgreesOnClause first p u C T → Waits (trial (of_nodes C) (source_of p) (declared_in sigs) T g O (length u.insts.items) (point_of u.insts.items)))
      → FoundSoFar sigs gs (k + 1) found q p s u
  passed-asleep found so asleep = λ first O C T w v.
      let W = all_waiting (of_nodes C) (source_of q) (declared_in sigs) T gs in
      let n = length s.insts.items in
      let b = point_of s.insts.items in
      let here = trial (of_nodes C) (source_of q) (declared_in sigs) T g (O ++ others) n b in
      let same_try : trial (of_nodes C) (source_of p) (declared_in sigs) T g (O ++ others) (length u.insts.items) (point_of u.insts.items) ≡ here =
      ap₂ (trial (of_nodes C) (source_of p) (declared_in sigs) T g (O ++ others)) same.count same.point
      ∙ ap (λ P. trial (of_nodes C) P (declared_in sigs) T g (O ++ others) n b) (same-source q p s u m) in
      sym (scanned-waits found (waiting_at (of_nodes C) (source_of q) (declared_in sigs) T g) (all_waiting (of_nodes C) (source_of q) (declared_in sigs) T (remove gs k)) here (pick (take (k + 1) W) (drop (k + 1) W) O n b) (subst Waits same_try (asleep first C T (O ++ others) v)))
      ∙ (ap (scanned found) (sym (pick-at (of_nodes C) (source_of q) (declared_in sigs) T gs k O n b h)) ∙ so first O C T w v)

  -- it runs
  pub passed-by : (found : Option ModeFault) (r : PlainProcs) (t : State) (part : Part) → StateInvariant q s → StateInvariant p u → FoundSoFar sigs gs k found q p s u
      → Succeeds (tells_around (variables_of g) u) (attempt_of sigs g p u) p r u t part → IsReady sigs gs q r s t k part
  passed-by found r t part sq st so d = record {
    place = h;
    outcome = λ first O C T w v.
        let W = all_waiting (of_nodes C) (source_of q) (declared_in sigs) T gs in
        let n = length s.insts.items in
        let b = point_of s.insts.items in
        let rest = all_waiting (of_nodes C) (source_of q) (declared_in sigs) T (remove gs k) in
        sym (so first O C T w (suits-before first C p r u t T st d.stepped.moved v))
        ∙ (ap (scanned found) (pick-at (of_nodes C) (source_of q) (declared_in sigs) T gs k O n b h)
        ∙ (ap (λ x. scanned found (picked (waiting_at (of_nodes C) (source_of q) (declared_in sigs) T g) rest x (pick (take (k + 1) W) (drop (k + 1) W) O n b)))
        (tried-one first O C T (runs (nodes (map plain_node part.goals.items)) (end_of part.reachable t) (length t.insts.items) part.freshened.items) w (λ P z. d.outcome first P C T z v))
        ∙ scanned-takes found (with_fresh (variables_of g) part.freshened.items) rest (nodes (map plain_node part.goals.items)) (end_of part.reachable t) (length t.insts.items)));
    fresh = d.fresh;
    stepped = stepped-trans q p r s u t (stepped-same q p s u same m) d.stepped;
  }

-- no goal is left to be tried
pub passed-all : (sigs : List Sig) (gs : List Flat_goal) (k : ℕ) (found : Option ModeFault) (q r : PlainProcs) (s t : State) → length gs ≤ k
    → FoundSoFar sigs gs k found q r s t → SameState s t → StateExtends q r s t → NoneIsReady sigs gs q r s t found
passed-all sigs gs k found q r s t h so same m = record {
  outcome = λ first O C T w v.
      let W = all_waiting (of_nodes C) (source_of q) (declared_in sigs) T gs in
      sym (so first O C T w v)
      ∙ (ap (λ (us : List (Waiting ℕ)). scanned found (pick (take k W) us O (length s.insts.items) (point_of s.insts.items))) (past gs k h C T)
      ∙ scanned-none found);
  same = same;
  moved = m;
}
  where
    past : (hs : List Flat_goal) (j : ℕ) → length hs ≤ j → (C : NodeOracle) (T : ℕ → TypeTerm) → drop j (all_waiting (of_nodes C) (source_of q) (declared_in sigs) T hs) ≡ []
    past [] zero l C T = refl
    past [] (suc j) l C T = refl
    past (f ∷ hs) zero l C T = absurd (omega arith)
    past (f ∷ hs) (suc j) l C T = past hs j (omega arith) C T
