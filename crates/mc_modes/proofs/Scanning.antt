-- A pass over the waiting goals of a conjunction, by their places.
use Rattle.std.proofs.Common.{◌≡◌, ◌∙◌, ℕ, ◌<◌, ◌+◌, true, List, [], length, get_or, Option, Some, None, refl, sym, ap, subst, arith}
use Rattle.mc_model.specs.Flat.{Flat_goal, variables_of}
use Rattle.mc_model.specs.PlainGoals.{plain_flat}
use Rattle.mc_model.specs.declared.flat.Flat.{Flat}
use Rattle.mc_model.specs.declared.inst.Sig.{Sig}
use Rattle.mc_procs.specs.Named.{NumbersBelow}
use Rattle.mc_accepted.specs.Arranged.{trial, is_there}
use Rattle.mc_accepted.specs.NodeOracle.{NodeOracle, of_nodes}
use Rattle.mc_procs.specs.Procedures.{PlainProcs, source_of}
use Rattle.mc_mode_state.specs.States.{point_of, SameState}
use Rattle.mc_mode_state.specs.Tables.{node_in}
use Rattle.mc_program.specs.Programs.{TypeTerm}
use Rattle.mc_mode_state.specs.Agreeing.{StateInvariant, StateExtends}
use Rattle.mc_mode_state.specs.Answers.{FreshAlike}
use Rattle.mc_mode_state.specs.declared.state.State.{State}
use Rattle.mc_mode_state.specs.declared.part.Part.{Part}
use Rattle.mc_mode_state.specs.declared.fault.ModeFault.{ModeFault}
use Rattle.mc_modes.specs.Signatures.{declared_in}
use Rattle.mc_modes.specs.Tries.{AgreesOnClause, attempt_of, Succeeds, FailsUnchanged}
use Rattle.mc_modes.specs.code.Waiting.{nothing, goals_at, variables_of_each, tells_around, Counted, noted, IsReady}
use Rattle.mc_modes.specs.code.Sleeping.{Waits, Asleep, was_found}
use Rattle.mc_modes.proofs.Asleep.{asleep-waits}
use Rattle.mc_modes.proofs.Passing.{FoundSoFar, passed-on, passed-asleep, passed-by}
use Rattle.mc_modes.proofs.Placing.{goal-in, goals-long, place-below}

pub same-trans : (s t u : State) → SameState s t → SameState t u → SameState s u
same-trans s t u a b = record {
  point = b.point ∙ a.point;
  count = b.count ∙ a.count;
  trail = b.trail ∙ a.trail;
  outside = λ x. b.outside x ∙ a.outside x;
  outsides = b.outsides ∙ a.outsides;
  types = b.types ∙ a.types;
}

-- what a pass keeps, by other names
abbrev pub PassedSo : List Sig → List Flat_goal → (k : ℕ) → Option ModeFault → (q r : PlainProcs) → (s t : State) → Type 0
PassedSo sigs gs k found q r s t = record { same : SameState s t; moved : StateExtends q r s t; so : FoundSoFar sigs gs k found q r s t }

pub passed-with : (sigs : List Sig) (gs : List Flat_goal) (k : ℕ) (q : PlainProcs) (s : State) (r p : PlainProcs) (t u : State) (found more : Option ModeFault) → p ≡ r → u ≡ t → more ≡ found
    → PassedSo sigs gs k found q r s t → PassedSo sigs gs k more q p s u
passed-with sigs gs k q s r p t u found more e f g h =
    subst (λ (y : PlainProcs). PassedSo sigs gs k more q y s u) (sym e)
    (subst (λ (v : State). PassedSo sigs gs k more q r s v) (sym f) (subst (λ (o : Option ModeFault). PassedSo sigs gs k o q r s t) (sym g) h))

module _ (sigs : List Sig) (gs : List Flat) (ks : List ℕ) (k : ℕ) (x : Flat) (q p r : PlainProcs) (s u t : State) (h : k < length ks) (w : NumbersBelow (length gs) ks)
    (is : x ≡ get_or gs (get_or ks k 0) x) (same : SameState s u) (m : StateExtends q p s u) (counted : Counted (variables_of_each (goals_at gs ks)) s)
    (found : Option ModeFault) (so : FoundSoFar sigs (goals_at gs ks) k found q p s u) where
  abbrev waiting : List Flat_goal
  waiting = goals_at gs ks

  placed : get_or waiting k nothing ≡ plain_flat x
  placed = goal-in gs ks k x h (place-below (length gs) ks k w h) ∙ ap plain_flat (sym is)

  short : k < length waiting
  short = omega (arith, h, goals-long gs ks)

  -- the goal in a place doesn't run
  pub found-on : (more : Option ModeFault) (f : ModeFault) → FailsUnchanged (tells_around (variables_of (plain_flat x)) u) (attempt_of sigs (plain_flat x) p u) p r u t f → more ≡ noted found f
      → FoundSoFar sigs waiting (k + 1) more q r s t
  found-on more f b e =
      subst (λ (o : Option ModeFault). FoundSoFar sigs waiting (k + 1) o q r s t) (sym e)
      (passed-on sigs waiting k short q p s u same m counted found r t f m.stands so
      (subst (λ (g : Flat_goal). FailsUnchanged (tells_around (variables_of g) u) (attempt_of sigs g p u) p r u t f) (sym placed) b))

  -- a node that was found is one for whatever suits
  found-over : (first : ℕ) (C : NodeOracle) (T : ℕ → TypeTerm) → AgreesOnClause first p u C T → (f : ℕ) (is : List ℕ) → was_found u f is ≡ true → (k : ℕ) × (C.over f is ≡ Some k)
  found-over first C T v f is e = at (node_in u.nodes.overs f is) (λ k h. v.agrees.over f k is h) e
    where
      at : (o : Option ℕ) → ((k : ℕ) → o ≡ Some k → C.over f is ≡ Some k) → is_there o ≡ true → (k : ℕ) × (C.over f is ≡ Some k)
      at None h e = absurd (cc e)
      at (Some k) h e = (k, h k refl)

  -- it is seen to wait
  pub found-asleep : Asleep (source_of p) (declared_in sigs) u [] (plain_flat x) → FoundSoFar sigs waiting (k + 1) found q p s u
  found-asleep a =
      passed-asleep sigs waiting k short q p s u same m counted found so
      (λ first C T O v.
      subst (λ (g : Flat_goal). Waits (trial (of_nodes C) (source_of p) (declared_in sigs) T g O (length u.insts.items) (point_of u.insts.items))) (sym placed)
      (asleep-waits C (source_of p) (declared_in sigs) T (length u.insts.items) u (found-over first C T v) [] (plain_flat x) a (omega arith) O (length u.insts.items) (point_of u.insts.items) (omega arith) (λ y e. refl)))

  -- it runs
  pub found-ready : (part : Part) → StateInvariant q s → Succeeds (tells_around (variables_of (plain_flat x)) u) (attempt_of sigs (plain_flat x) p u) p r u t part → IsReady sigs waiting q r s t k part
  found-ready part st b =
      passed-by sigs waiting k short q p s u same m counted found r t part st m.stands so
      (subst (λ (g : Flat_goal). Succeeds (tells_around (variables_of g) u) (attempt_of sigs g p u) p r u t part) (sym placed) b)

  pub found-alike : (part : Part) → FreshAlike (plain_flat x) t part → FreshAlike (get_or waiting k nothing) t part
  found-alike part a = subst (λ (g : Flat_goal). FreshAlike g t part) (sym placed) a
