-- What is known of goals in turn while they run.
use Rattle.std.proofs.Common.{◌≡◌, ℕ, ◌<◌, ◌≤◌, Bool, true, List, [], ◌∷◌, ◌++◌, map, length, get_or, Option, refl, sym, ap, subst, arith}
use Rattle.std.specs.List.{remove}
use Rattle.std.proofs.lemmas.List.Edits.{length-remove}
use Rattle.mc_program.specs.Programs.{TypeTerm}
use Rattle.mc_model.specs.Flat as F
use Rattle.mc_model.specs.Flat.{Flat_goal, flats, variables_of, variables_of_all}
use Rattle.mc_model.specs.Lists.{from}
use Rattle.mc_model.specs.Scheduled.{nodes}
use Rattle.mc_model.specs.PlainGoals.{plain_flat, plain_node}
use Rattle.mc_model.specs.declared.flat.Flat.{Flat}
use Rattle.mc_model.specs.declared.inst.Sig.{Sig}
use Rattle.mc_model.specs.declared.sched.GoalNode.{GoalNode}
use Rattle.mc_accepted.specs.Arranged.{with_fresh}
use Rattle.mc_accepted.specs.FreshTests.{AllAlike}
use Rattle.mc_accepted.specs.Ordered.{times_in}
use Rattle.mc_procs.specs.Named.{NumbersBelow}
use Rattle.mc_procs.specs.Procedures.{PlainProcs}
use Rattle.mc_mode_state.specs.States.{point_of}
use Rattle.mc_mode_state.specs.Agreeing.{StateInvariant, TypedAs}
use Rattle.mc_mode_state.specs.Answers.{FreshAlike}
use Rattle.mc_mode_state.specs.declared.state.State.{State}
use Rattle.mc_mode_state.specs.declared.part.Part.{Part}
use Rattle.mc_mode_state.specs.declared.fault.ModeFault.{ModeFault}
use Rattle.mc_mode_state.proofs.Steps.{stepped-refl}
use Rattle.mc_modes.specs.Tries.{Succeeds, FailsWithTrail}
use Rattle.mc_modes.specs.code.Frames.{Entered, Left}
use Rattle.mc_modes.specs.code.Waiting.{nothing, goals_at, variables_of_each, tells_around, Counted, turns, IsReady, NoneIsReady, IsStuck}
use Rattle.mc_modes.proofs.Alike.{keeps-taken, keeps-same, more-alike}
use Rattle.mc_modes.proofs.Counts.{below-at, below-both, below-more, remove-below}
use Rattle.mc_modes.proofs.Frames.{Onward, frame-is, onward-out, onward-step, onward-trans}
use Rattle.mc_modes.proofs.Placing.{numbers-from, goals-all, goals-long, goals-removed, turns-begin, tally-begin}
use Rattle.mc_modes.proofs.Turning.{TurnsSoFar, Tally, tally-counted, tally-on, each-below, turn-on, turns-run, turns-break}
use Rattle.mc_modes.proofs.Turns.{done-more}
use Rattle.mc_modes.proofs.WaitingPlaces.{length-from}
use Rattle.mc_modes.proofs.Ways.{count-same}

pub some-wait : (ks : List ℕ) → (ks ≡ [] → ⊥) → 0 < length ks
some-wait [] h = absurd (h refl)
some-wait (k ∷ ks) h = omega arith

pub record Turned (sigs : List Sig) (gs : List Flat) (ks : List ℕ) (reachable : Bool) (done : List GoalNode) (fresh : List ℕ) (q p : PlainProcs) (s u : State) : Type 0 where
  pub onward : Onward q p s u
  pub fresh_below : NumbersBelow (length u.insts.items) fresh
  pub places : NumbersBelow (length gs) ks
  pub few : length ks ≤ length gs
  pub ran : List ℕ
  pub tally : Tally (map plain_flat gs) ran fresh (goals_at gs ks) s u
  pub alike :
      (T : ℕ → TypeTerm) (next : ℕ) → TypedAs u T → NumbersBelow next (variables_of_all (flats (map plain_flat gs)))
      → AllAlike T next (nodes (map plain_node done))
  pub so : TurnsSoFar sigs (map plain_flat gs) ran reachable (nodes (map plain_node done)) (goals_at gs ks) q p s u

pub turned-begins : (sigs : List Sig) (gs : List Flat) (ks : List ℕ) (q : PlainProcs) (s : State) → ks ≡ from 0 (length gs) → StateInvariant q s → Turned sigs gs ks true [] [] q q s s
turned-begins sigs gs ks q s e st = record {
  onward = onward-step q q s s (stepped-refl q s st);
  fresh_below = tt;
  places = subst (NumbersBelow (length gs)) (sym e) (numbers-from 0 (length gs) (length gs) (omega arith));
  few = omega (arith, ap length e, length-from 0 (length gs));
  ran = [];
  tally = tally-begin gs (goals_at gs ks) s (goals-all gs ks e);
  alike = λ T next h w. tt;
  so = turns-begin sigs (map plain_flat gs) (goals_at gs ks) q s (goals-all gs ks e);
}

-- the fresh variables may be taken from what occurs outside
pub turned-enough : (sigs : List Sig) (gs : List Flat) (ks : List ℕ) (reachable : Bool) (done : List GoalNode) (fresh : List ℕ) (q p : PlainProcs) (s u : State) → Turned sigs gs ks reachable done fresh q p s u
    → (x : ℕ) → times_in x fresh ≤ get_or u.outside.items x 0
turned-enough sigs gs ks reachable done fresh q p s u i x = omega (arith, i.tally.counts x)

-- those that are left
pub turned-counted : (sigs : List Sig) (gs : List Flat) (ks : List ℕ) (reachable : Bool) (done : List GoalNode) (fresh : List ℕ) (q p : PlainProcs) (s u : State) → Turned sigs gs ks reachable done fresh q p s u
    → Counted (variables_of_all (flats (map plain_flat gs))) s → Counted (variables_of_each (goals_at gs ks)) u
turned-counted sigs gs ks reachable done fresh q p s u i c = tally-counted (map plain_flat gs) i.ran fresh (goals_at gs ks) s u i.tally c

module _ (sigs : List Sig) (gs : List Flat) (ks : List ℕ) (done : List GoalNode) (fresh : List ℕ) (q p : PlainProcs) (s u : State) (i : Turned sigs gs ks true done fresh q p s u) where
  abbrev all : List Flat_goal
  all = map plain_flat gs

  abbrev waiting : List Flat_goal
  waiting = goals_at gs ks

  among : (n : ℕ) → NumbersBelow n (variables_of_all (flats all)) → NumbersBelow n (variables_of_each waiting)
  among n w = each-below n gs ks i.places w

  -- the variables of a goal that waits are among those of all
  one-among : (k n : ℕ) → k < length waiting → NumbersBelow n (variables_of_all (flats all)) → NumbersBelow n (variables_of (get_or waiting k nothing))
  one-among k n h w = below-at n waiting k h (among n w)

  taken-so : (r : PlainProcs) (t v : State) (k : ℕ) (part : Part) → Counted (variables_of_all (flats all)) s → IsReady sigs waiting p r u t k part → FreshAlike (get_or waiting k nothing) t part
      → Entered part.freshened.items t v → Turned sigs gs (remove ks k) part.reachable (done ++ part.goals.items) (fresh ++ part.freshened.items) q r s v
  taken-so r t v k part counted d a e =
      let count : length v.insts.items ≡ length t.insts.items = count-same t v e.frame in
      let more : length u.insts.items ≤ length t.insts.items = d.stepped.later.more in
      let zs = part.freshened.items in
      let short : k < length ks = omega (arith, d.place, goals-long gs ks) in
      let left : goals_at gs (remove ks k) ≡ remove waiting k = goals-removed gs ks k in
      let vs = with_fresh (variables_of (get_or waiting k nothing)) zs in
      record {
        onward =
            subst (Onward q r s) (sym (frame-is t v e.frame))
            (onward-out q r s t v.outside e.frame.len (onward-trans q p r s u t i.onward (onward-step p r u t d.stepped)));
        fresh_below =
            below-both (length v.insts.items) fresh zs
            (below-more (length u.insts.items) (length v.insts.items) fresh (omega (arith, count, more)) i.fresh_below)
            (subst (λ n. NumbersBelow n zs) (sym count) d.fresh);
        places = remove-below (length gs) ks k i.places;
        few = omega (arith, length-remove ks k short, i.few);
        ran = i.ran ++ vs;
        tally =
            subst (λ ws. Tally all (i.ran ++ vs) (fresh ++ zs) ws s v) (sym left)
            (tally-on all i.ran fresh waiting s u t v k zs d.place i.tally d.stepped.later.outside e);
        alike = λ T next h w.
            let back : TypedAs t T = keeps-same t v e.frame.types T h in
            more-alike T next done part.goals.items (done ++ part.goals.items) refl
            (i.alike T next (keeps-taken u t d.stepped.moved.types T back) w) (a T next back (one-among k next d.place w));
        so =
            subst (λ ws. TurnsSoFar sigs all (i.ran ++ vs) part.reachable (nodes (map plain_node (done ++ part.goals.items))) ws q r s v) (sym left)
            (turn-on sigs all i.ran fresh (nodes (map plain_node done)) waiting q p s u i.onward.more i.onward.moved i.onward.moved.stands i.tally counted among i.so r t v k part
            (nodes (map plain_node (done ++ part.goals.items))) d e (done-more done part.goals.items (done ++ part.goals.items) refl));
      }

  -- one goal more runs
  pub turned-on : (r : PlainProcs) (t v : State) (k : ℕ) (part : Part) (left : List ℕ) (more : List GoalNode) (zs : List ℕ) (reachable : Bool)
      → Counted (variables_of_all (flats all)) s → IsReady sigs waiting p r u t k part → FreshAlike (get_or waiting k nothing) t part → Entered part.freshened.items t v
      → left ≡ remove ks k → more ≡ done ++ part.goals.items → zs ≡ fresh ++ part.freshened.items → reachable ≡ part.reachable
      → Turned sigs gs left reachable more zs q r s v
  turned-on r t v k part left more zs reachable counted d a e e₁ e₂ e₃ e₄ =
      subst (λ l. Turned sigs gs l reachable more zs q r s v) (sym e₁)
      (subst (λ (m : List GoalNode). Turned sigs gs (remove ks k) reachable m zs q r s v) (sym e₂)
      (subst (λ z. Turned sigs gs (remove ks k) reachable (done ++ part.goals.items) z q r s v) (sym e₃)
      (subst (λ b. Turned sigs gs (remove ks k) b (done ++ part.goals.items) (fresh ++ part.freshened.items) q r s v) (sym e₄) (taken-so r t v k part counted d a e))))

  -- none runs
  pub turned-breaks : (r : PlainProcs) (t w : State) (found : Option ModeFault) (f : ModeFault) → Counted (variables_of_all (flats all)) s → 0 < length ks → NoneIsReady sigs waiting p r u t found
      → IsStuck (point_of t.insts.items) waiting found f → Left fresh t w → FailsWithTrail (tells_around (variables_of_all (flats all)) s) (turns sigs all q s) q r s w f
  turned-breaks r t w found f counted some d is l =
      turns-break sigs all i.ran fresh (nodes (map plain_node done)) waiting q p r s u t w found f i.onward i.tally i.onward.moved.stands counted among i.so (omega (arith, some, goals-long gs ks)) d is l

-- all ran, or the point is unreachable
pub turned-runs : (sigs : List Sig) (gs : List Flat) (ks : List ℕ) (reachable : Bool) (done : List GoalNode) (fresh : List ℕ) (q p : PlainProcs) (s u w : State) (part : Part)
    → Turned sigs gs ks reachable done fresh q p s u → Left fresh u w → part.goals.items ≡ done → part.reachable ≡ reachable → part.freshened.items ≡ [] → (reachable ≡ true → ks ≡ [])
    → Succeeds (tells_around (variables_of_all (flats (map plain_flat gs))) s) (turns sigs (map plain_flat gs) q s) q p s w part
turned-runs sigs gs ks reachable done fresh q p s u w part i l g e z last =
    turns-run sigs (map plain_flat gs) i.ran fresh done (goals_at gs ks) q p s u i.onward i.tally w part reachable l g e z (λ h. ap (goals_at gs) (last h)) i.so

pub turned-alike : (sigs : List Sig) (gs : List Flat) (ks : List ℕ) (reachable : Bool) (done : List GoalNode) (fresh : List ℕ) (q p : PlainProcs) (s u w : State) (part : Part)
    → Turned sigs gs ks reachable done fresh q p s u → w.types ≡ u.types → part.goals.items ≡ done → FreshAlike (F.And (flats (map plain_flat gs))) w part
turned-alike sigs gs ks reachable done fresh q p s u w part i y g T next h b =
    subst (λ (l : List GoalNode). AllAlike T next (nodes (map plain_node l))) (sym g) (i.alike T next (keeps-same u w y T h) b)
