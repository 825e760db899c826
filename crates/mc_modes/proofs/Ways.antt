-- From what one try does to what another does.
use Rattle.std.proofs.Common.{◌≡◌, ◌∙◌, ℕ, Vec, Global, ◌<◌, ◌≤◌, Bool, true, false, nat_lt, if◌then◌else◌, List, [], ◌++◌, map, length, get_or, take, Option, Result, Ok, Err, refl, sym, ap, ap₂, subst, arith}
use Rattle.std.proofs.lemmas.Bool.Decides.{nat_tests}
use Rattle.mc_program.specs.Programs.{TypeTerm}
use Rattle.mc_program.specs.declared.ty.Ty.{Ty}
use Rattle.mc_model.specs.Flat as F
use Rattle.mc_model.specs.Flat.{Flat_goal, flats, variables_of, variables_of_all}
use Rattle.mc_model.specs.Scheduled.{Scheduled, Conj, Nodes, nodes}
use Rattle.mc_model.specs.PlainGoals.{plain_node}
use Rattle.mc_model.specs.declared.inst.Sig.{Sig}
use Rattle.mc_accepted.specs.Arranged.{Point, Arranged, runs, wrapped, trial, trials, count_flat, in_turn, Waiting}
use Rattle.mc_accepted.specs.NodeOracle.{NodeOracle, of_nodes}
use Rattle.mc_accepted.specs.Ordered.{times_in}
use Rattle.mc_procs.specs.Named.{NumbersBelow}
use Rattle.mc_procs.specs.Procedures.{PlainProcs, source_of}
use Rattle.mc_mode_state.specs.Nodes.{type_in}
use Rattle.mc_mode_state.specs.States.{point_of, SameState}
use Rattle.mc_mode_state.specs.Agreeing.{OracleAgrees, StateInvariant, StateExtends, LaterByTrail}
use Rattle.mc_mode_state.specs.Answers.{tried, end_of, Answers}
use Rattle.mc_mode_state.specs.declared.state.State.{State}
use Rattle.mc_mode_state.specs.declared.part.Part.{Part}
use Rattle.mc_mode_state.specs.declared.fault.ModeFault.{ModeFault}
use Rattle.mc_mode_state.specs.declared.fault.Failed.{Failed}
use Rattle.mc_mode_state.specs.declared.fault.Failed.TheVariants as E
use Rattle.mc_mode_state.proofs.Found.{type-kept}
use Rattle.mc_mode_state.proofs.Rewinds.{leads-same}
use Rattle.mc_mode_state.proofs.Ahead.{agrees-before}
use Rattle.mc_modes.specs.Signatures.{declared_in}
use Rattle.mc_modes.specs.Tries.{with_types, AgreesOnClause, Attempt, attempt_of, OutsideKnown, tells_outside, Succeeds, FailsUnchanged, FailsWithTrail, TryPost, AttemptPost}
use Rattle.mc_modes.specs.code.Parts.{IsOne, trying_beside}
use Rattle.mc_modes.specs.code.Waiting.{tells_around, all_waiting, turns}
use Rattle.mc_modes.proofs.Alike.{none_chosen}
use Rattle.mc_modes.proofs.Counts.{entered-around, left-around, entered-beside}
use Rattle.mc_modes.specs.code.Frames.{Frame, Entered, Left}
use Rattle.mc_modes.proofs.Frames.{with_outside, stepped-out, moved-out, same-out, suits-out, end-out, frame-is, in-and-out}
use Rattle.mc_modes.proofs.Turns.{trials-are, count-is}

-- where a rule is broken, a state that is the same is a later one
pub stepped-same : (q r : PlainProcs) (s t : State) → SameState s t → StateExtends q r s t → LaterByTrail q r s t
stepped-same q r s t h m = record {
  later = record {
    leads = leads-same s t h.point h.trail;
    more = omega (arith, h.count);
    outside = h.outside;
    types = m.types;
  };
  moved = m;
}

pub goes : (told : OutsideKnown) (a : Attempt) (q r : PlainProcs) (s t : State) (res : Result Part Failed) → TryPost told a q r s t res → AttemptPost told a q r s t res
goes told a q r s t (Ok p) d = d
goes told a q r s t (Err (E.Fault f)) d = record { outcome = d.outcome; stepped = stepped-same q r s t d.same d.moved }
goes told a q r s t (Err E.Memory) d = tt

-- A try is another, by another list and beside other counts of what occurs outside.
abbrev pub IsBy : (told other : OutsideKnown) → (a b : Attempt) → Type 0
IsBy told other a b =
    (first : ℕ) (O : List ℕ) → told first O
    → (P : List ℕ) × other first P × ((C : NodeOracle) (T : ℕ → TypeTerm) → a O C T ≡ b P C T)

module _ (told other : OutsideKnown) (a b : Attempt) (by : IsBy told other a b) (q r : PlainProcs) (s t : State) (o p : Vec ℕ Global)
    (len : length p.items ≡ length t.outside.items) (same : (x : ℕ) → get_or p.items x 0 ≡ get_or s.outside.items x 0) where
  outcome-by : (first : ℕ) (O : List ℕ) (C : NodeOracle) (T : ℕ → TypeTerm) (x : Arranged ℕ)
      → ((P : List ℕ) → other first P → AgreesOnClause first r t C T → b P C T ≡ x) → told first O → AgreesOnClause first r (with_outside t p) C T → a O C T ≡ x
  outcome-by first O C T x f k u =
      let y = by first O k in
      y.2 C T ∙ f y.0 y.1 (suits-out first r t (with_outside t p) C T refl refl u)

  pub runs-by : (part : Part) → Succeeds other b q r (with_outside s o) t part → Succeeds told a q r s (with_outside t p) part
  runs-by part d = record {
    outcome = λ first O C T k u.
        outcome-by first O C T _ (λ P w v. d.outcome first P C T w v) k u
        ∙ ap (λ e. runs (nodes (map plain_node part.goals.items)) e (length t.insts.items) part.freshened.items) (sym (end-out part.reachable t (with_outside t p) refl));
    fresh = d.fresh;
    stepped = stepped-out q r s t o p len same d.stepped;
  }

  pub breaks-by : (f : ModeFault) → length p.items ≡ length s.outside.items → FailsUnchanged other b q r (with_outside s o) t f → FailsUnchanged told a q r s (with_outside t p) f
  breaks-by f l d = record {
    outcome = λ first O C T k u. outcome-by first O C T _ (λ P w v. d.outcome first P C T w v) k u;
    same = same-out s t o p l same d.same;
    moved = moved-out q r s t o p len d.moved;
  }

  pub fails-by : (f : ModeFault) → FailsWithTrail other b q r (with_outside s o) t f → FailsWithTrail told a q r s (with_outside t p) f
  fails-by f d = record {
    outcome = λ first O C T k u. outcome-by first O C T _ (λ P w v. d.outcome first P C T w v) k u;
    stepped = stepped-out q r s t o p len same d.stepped;
  }

-- a goal around what runs
module _ (told : OutsideKnown) (a : Attempt) (b : Point ℕ) (f : NodeOracle → ℕ → Option (Point ℕ) → Nodes → Scheduled) where
  abbrev around : Attempt
  around O C T = wrapped (of_nodes C) (f C) b (a O C T)

  pub runs-wrapped : (q r : PlainProcs) (s t : State) (p w : Part) → Succeeds told a q r s t p
      → ((C : NodeOracle) → IsOne (length t.insts.items) b (end_of p.reachable t) (f C (length t.insts.items) (end_of p.reachable t) (nodes (map plain_node p.goals.items))) w)
      → w.reachable ≡ p.reachable → Succeeds told around q r s t w
  runs-wrapped q r s t p w d i e = record {
    outcome = λ first O C T k u.
        ap (wrapped (of_nodes C) (f C) b) (d.outcome first O C T k u)
        ∙ (ap (λ gs. runs gs (end_of p.reachable t) (length t.insts.items) []) (sym (i C).goals)
        ∙ ap₂ (λ v zs. runs (nodes (map plain_node w.goals.items)) (end_of v t) (length t.insts.items) zs) (sym e) (sym (i C).freshened));
    fresh = subst (NumbersBelow (length t.insts.items)) (sym (i none_chosen).freshened) tt;
    stepped = d.stepped;
  }

  pub fails-wrapped : (q r : PlainProcs) (s t : State) (e : ModeFault) → FailsWithTrail told a q r s t e → FailsWithTrail told around q r s t e
  fails-wrapped q r s t e d = record { outcome = λ first O C T k u. ap (wrapped (of_nodes C) (f C) b) (d.outcome first O C T k u); stepped = d.stepped }

-- what suits a later state suits an earlier one
module _ (first : ℕ) (C : NodeOracle) where
  agrees-with : (q : PlainProcs) (s : State) (T U : ℕ → TypeTerm) → ((x : ℕ) → x < length s.types.items → U x ≡ T x) → OracleAgrees q s C T → OracleAgrees q s C U
  agrees-with q s T U e a = record {
    dies = a.dies;
    constants = a.constants;
    narrowed = a.narrowed;
    fits = a.fits;
    over = a.over;
    joined = a.joined;
    types = λ x l. e x l ∙ a.types x l;
  }

  pub suits-before : (q r : PlainProcs) (s t : State) (T : ℕ → TypeTerm) → StateInvariant q s → StateExtends q r s t → AgreesOnClause first r t C T → AgreesOnClause first q s C T
  suits-before q r s t T st m u = record {
    agrees = agrees-with q s (with_types first t T) (with_types first s T)
        (λ x l. ap (λ y. if nat_lt x first then T x else y) (sym (type-kept s.types.items t.types.items x m.types l)))
        (agrees-before q r s t C (with_types first t T) st m u.agrees);
  }

  -- where fresh variables were given up
  pub suits-undone : (q : PlainProcs) (s t : State) (T : ℕ → TypeTerm) → t.nodes ≡ s.nodes → first ≤ length s.types.items
      → take (length s.types.items) t.types.items ≡ s.types.items → AgreesOnClause first q s C T → AgreesOnClause first q t C T
  suits-undone q s t T n h k u = record {
    agrees = record {
      dies = u.agrees.dies;
      constants = u.agrees.constants;
      narrowed = u.agrees.narrowed;
      fits = u.agrees.fits;
      over = rw n u.agrees.over;
      joined = rw n u.agrees.joined;
      types = λ x l. at x l (nat_lt x first) refl;
    };
  }
    where
      lower : (x : ℕ) → nat_lt x first ≡ true → x < length s.types.items
      lower x e = grind (arith, nat_tests)

      at : (x : ℕ) → x < length t.types.items → (c : Bool) → nat_lt x first ≡ c → (if nat_lt x first then T x else type_in t.types.items x) ≡ type_in t.types.items x
      at x l true e =
          ap (λ c. if c then T x else type_in t.types.items x) e
          ∙ (sym (ap (λ c. if c then T x else type_in s.types.items x) e)
          ∙ (u.agrees.types x (lower x e) ∙ sym (type-kept s.types.items t.types.items x k (lower x e))))
      at x l false e = ap (λ c. if c then T x else type_in t.types.items x) e

  -- types of the first variables
  pub first-types : (s : State) (T : ℕ → TypeTerm) (x : ℕ) → x < first → T x ≡ with_types first s T x
  first-types s T x l = sym (ap (λ c. if c then T x else type_in s.types.items x) (let e : nat_lt x first ≡ true = grind (arith, nat_tests) in e))

-- a rule that was broken, back at the moment before
pub breaks-undone : (told : OutsideKnown) (a : Attempt) (q r : PlainProcs) (s t u : State) (f : ModeFault)
    → ((first : ℕ) (O : List ℕ) → told first O → first ≤ length s.types.items)
    → FailsWithTrail told a q r s t f → SameState s u → StateExtends q r s u → u.nodes ≡ t.nodes → u.types.items ≡ s.types.items → FailsUnchanged told a q r s u f
breaks-undone told a q r s t u f own d h m n y = record {
  outcome = λ first O C T k v.
      d.outcome first O C T k
      (suits-undone first C r u t T (sym n) (subst (λ (ts : List Ty). first ≤ length ts) (sym y) (own first O k))
      (subst (λ (ts : List Ty). take (length ts) t.types.items ≡ ts) (sym y) d.stepped.later.types) v);
  same = h;
  moved = m;
}

-- an atom that is tried
pub atom-does : (sigs : List Sig) (told : OutsideKnown) (g : Flat_goal) (q r : PlainProcs) (s t : State) (res : Result Part Failed) → ((first : ℕ) (O : List ℕ) → told first O → NumbersBelow first (variables_of g))
    → ((C : NodeOracle) (T U : ℕ → TypeTerm) (first : ℕ) → ((x : ℕ) → x < first → T x ≡ U x) → (O : List ℕ) (n : ℕ) (b : Point ℕ) → NumbersBelow first (variables_of g)
    → trial (of_nodes C) (source_of q) (declared_in sigs) T g O n b ≡ trial (of_nodes C) (source_of q) (declared_in sigs) U g O n b)
    → ((p : Part) → res ≡ Ok p → NumbersBelow (length t.insts.items) p.freshened.items)
    → ((O : List ℕ) → Answers (tried (declared_in sigs) g O q s) q r s t res)
    → TryPost told (attempt_of sigs g q s) q r s t res
atom-does sigs told g q r s t (Ok p) own local fresh d = record {
  outcome = λ first O C T k u.
      local C T (with_types first t T) first (first-types first C t T) O (length s.insts.items) (point_of s.insts.items) (own first O k)
      ∙ (d O).outcome C (with_types first t T) u.agrees;
  fresh = fresh p refl;
  stepped = (d []).stepped;
}
atom-does sigs told g q r s t (Err (E.Fault f)) own local fresh d = record {
  outcome = λ first O C T k u.
      local C T (with_types first t T) first (first-types first C t T) O (length s.insts.items) (point_of s.insts.items) (own first O k)
      ∙ (d O).outcome C (with_types first t T) u.agrees;
  same = (d []).same;
  moved = (d []).moved;
}
atom-does sigs told g q r s t (Err E.Memory) own local fresh d = tt

-- between two changes of what occurs outside, of which the second takes the first back
module _ (told other : OutsideKnown) (a b : Attempt) (by : IsBy told other a b) (q r : PlainProcs) (s s₁ t₁ t : State) (f : Frame s s₁) (g : Frame t₁ t)
    (same : (x : ℕ) → get_or t.outside.items x 0 ≡ get_or s.outside.items x 0) where
  pub runs-between : (part : Part) → Succeeds other b q r s₁ t₁ part → Succeeds told a q r s t part
  runs-between part d =
      subst (λ (v : State). Succeeds told a q r s v part) (sym (frame-is t₁ t g))
      (runs-by told other a b by q r s t₁ s₁.outside t.outside g.len same part
      (subst (λ (v : State). Succeeds other b q r v t₁ part) (frame-is s s₁ f) d))

  pub breaks-between : (e : ModeFault) → length t.outside.items ≡ length s.outside.items → FailsUnchanged other b q r s₁ t₁ e → FailsUnchanged told a q r s t e
  breaks-between e l d =
      subst (λ (v : State). FailsUnchanged told a q r s v e) (sym (frame-is t₁ t g))
      (breaks-by told other a b by q r s t₁ s₁.outside t.outside g.len same e l
      (subst (λ (v : State). FailsUnchanged other b q r v t₁ e) (frame-is s s₁ f) d))

  pub fails-between : (e : ModeFault) → FailsWithTrail other b q r s₁ t₁ e → FailsWithTrail told a q r s t e
  fails-between e d =
      subst (λ (v : State). FailsWithTrail told a q r s v e) (sym (frame-is t₁ t g))
      (fails-by told other a b by q r s t₁ s₁.outside t.outside g.len same e
      (subst (λ (v : State). FailsWithTrail other b q r v t₁ e) (frame-is s s₁ f) d))

pub count-same : (s t : State) → Frame s t → length t.insts.items ≡ length s.insts.items
count-same s t f = ap (λ (v : Vec ℕ Global). length v.items) f.insts

pub point-same : (s t : State) → Frame s t → point_of t.insts.items ≡ point_of s.insts.items
point-same s t f = ap (λ (v : Vec ℕ Global). point_of v.items) f.insts

tries-same : (sigs : List Sig) (g : Flat_goal) (q : PlainProcs) (s t : State) → Frame s t → (O : List ℕ) (C : NodeOracle) (T : ℕ → TypeTerm) → attempt_of sigs g q s O C T ≡ attempt_of sigs g q t O C T
tries-same sigs g q s t f O C T = ap₂ (trial (of_nodes C) (source_of q) (declared_in sigs) T g O) (sym (count-same s t f)) (sym (point-same s t f))

-- a conjunction's goals count among what occurs outside
pub by-turns : (sigs : List Sig) (gs : List Flat_goal) (vs : List ℕ) (q : PlainProcs) (s t : State) → Entered vs s t
    → IsBy (tells_outside vs s) (tells_around vs t)
    (λ O C T. in_turn (of_nodes C) (source_of q) (declared_in sigs) T (count_flat (flats gs)) (trials (of_nodes C) (source_of q) (declared_in sigs) T (flats gs)) O (length s.insts.items) (point_of s.insts.items))
    (turns sigs gs q t)
by-turns sigs gs vs q s t e = λ first O k. (
  O,
  (
    subst (λ n. first ≤ n) (sym (count-same s t e.frame)) k.0,
    k.1,
    λ x. k.2 x ∙ sym (entered-around (get_or s.outside.items x 0) (get_or t.outside.items x 0) (times_in x vs) (e.counts x)),
  ),
  λ C T.
      ap₂ (λ n (ws : List (Waiting ℕ)). in_turn (of_nodes C) (source_of q) (declared_in sigs) T n ws O (length s.insts.items) (point_of s.insts.items))
      (count-is (of_nodes C) (source_of q) (declared_in sigs) T gs) (trials-are (of_nodes C) (source_of q) (declared_in sigs) T gs)
      ∙ ap₂ (in_turn (of_nodes C) (source_of q) (declared_in sigs) T (length gs) (all_waiting (of_nodes C) (source_of q) (declared_in sigs) T gs) O)
      (sym (count-same s t e.frame)) (sym (point-same s t e.frame)),
)

-- a goal that counted among what occurs outside
pub by-leaving : (sigs : List Sig) (g : Flat_goal) (vs : List ℕ) (q : PlainProcs) (s t : State) → Left vs s t
    → IsBy (tells_around vs s) (tells_outside vs t) (attempt_of sigs g q s) (attempt_of sigs g q t)
by-leaving sigs g vs q s t l = λ first O k. (
  O,
  (
    subst (λ n. first ≤ n) (sym (count-same s t l.frame)) k.0,
    k.1,
    λ x. k.2 x ∙ left-around (get_or s.outside.items x 0) (get_or t.outside.items x 0) (times_in x vs) (l.counts x),
  ),
  λ C T. tries-same sigs g q s t l.frame O C T,
)

-- a goal beside other variables
pub by-entering : (sigs : List Sig) (g : Flat_goal) (us vs : List ℕ) (q : PlainProcs) (s t : State) → Entered vs s t
    → IsBy (tells_outside us s) (tells_outside us t) (trying_beside vs sigs g q s) (attempt_of sigs g q t)
by-entering sigs g us vs q s t e = λ first O k. (
  O ++ vs,
  (
    subst (λ n. first ≤ n) (sym (count-same s t e.frame)) k.0,
    k.1,
    λ x. entered-beside O vs x (get_or s.outside.items x 0) (get_or t.outside.items x 0) (e.counts x) (k.2 x),
  ),
  λ C T. tries-same sigs g q s t e.frame (O ++ vs) C T,
)

-- a conjunction, from its goals in turn
module _ (sigs : List Sig) (gs : List Flat_goal) (q r : PlainProcs) (s u v w : State) where
  abbrev vars_of : List ℕ
  vars_of = variables_of_all (flats gs)

  abbrev turns_of : Attempt
  turns_of O C T = in_turn (of_nodes C) (source_of q) (declared_in sigs) T (count_flat (flats gs)) (trials (of_nodes C) (source_of q) (declared_in sigs) T (flats gs)) O (length s.insts.items) (point_of s.insts.items)

  abbrev conjoined : NodeOracle → ℕ → Option (Point ℕ) → Nodes → Scheduled
  conjoined C n o hs = Conj hs

  pub conjunction-between : (part : Part) → Entered vars_of s u → Left vars_of v w → Succeeds (tells_around vars_of u) (turns sigs gs q u) q r u v part
      → Succeeds (tells_outside vars_of s) turns_of q r s w part
  conjunction-between part i j d =
      runs-between (tells_outside vars_of s) (tells_around vars_of u) turns_of (turns sigs gs q u) (by-turns sigs gs vars_of q s u i) q r s u v w i.frame j.frame
      (in-and-out vars_of s u v w i d.stepped.later.outside j) part d

  pub conjunction-runs : (part whole : Part) → Succeeds (tells_outside vars_of s) turns_of q r s w part
      → IsOne (length w.insts.items) (point_of s.insts.items) (end_of part.reachable w) (Conj (nodes (map plain_node part.goals.items))) whole → whole.reachable ≡ part.reachable
      → Succeeds (tells_outside vars_of s) (attempt_of sigs (F.And (flats gs)) q s) q r s w whole
  conjunction-runs part whole d one e = runs-wrapped (tells_outside vars_of s) turns_of (point_of s.insts.items) conjoined q r s w part whole d (λ C. one) e

  pub conjunction-fails : (f : ModeFault) → Entered vars_of s u → Left vars_of v w → FailsWithTrail (tells_around vars_of u) (turns sigs gs q u) q r u v f
      → FailsWithTrail (tells_outside vars_of s) (attempt_of sigs (F.And (flats gs)) q s) q r s w f
  conjunction-fails f i j d =
      fails-wrapped (tells_outside vars_of s) turns_of (point_of s.insts.items) conjoined q r s w f
      (fails-between (tells_outside vars_of s) (tells_around vars_of u) turns_of (turns sigs gs q u) (by-turns sigs gs vars_of q s u i) q r s u v w i.frame j.frame
      (in-and-out vars_of s u v w i d.stepped.later.outside j) f d)
