-- From what a clause's goal does to what is told of it.
use Rattle.std.proofs.Common.{◌≡◌, ◌∙◌, ℕ, Vec, Global, suc, ◌<◌, ◌≤◌, Bool, true, false, if◌then◌else◌, List, [], ◌∷◌, map, length, take, Option, Some, None, Result, Ok, Err, IfOk, refl, sym, ap, ap₂, subst, arith}
use Rattle.mc_program.specs.Programs.{TypeTerm, Source}
use Rattle.mc_program.specs.declared.ty.Ty.{Ty}
use Rattle.mc_model.specs.Flat.{Flat_goal, variables_of}
use Rattle.mc_model.specs.Lists.{is_in}
use Rattle.mc_model.specs.Scheduled.{Node, Nodes, nodes}
use Rattle.mc_model.specs.PlainGoals.{plain_node}
use Rattle.mc_model.specs.declared.inst.Sig.{Sig}
use Rattle.mc_accepted.specs.Arranged.{Point, Declared, Arranged, runs, Verdict, faulty, unless_unmet, alone, first_unmet, judged, entry, arrange, trial}
use Rattle.mc_accepted.specs.NodeOracle.{NodeOracle, of_nodes}
use Rattle.mc_accepted.specs.FreshTests.{TestsAlike}
use Rattle.mc_insts.specs.declared.insts.Insts.{Insts}
use Rattle.mc_insts.specs.Graphs.{count_of}
use Rattle.mc_procs.specs.Fitting.{AllFit}
use Rattle.mc_procs.specs.Named.{NumbersBelow}
use Rattle.mc_procs.specs.Procedures.{PlainProcs, source_of}
use Rattle.mc_mode_state.specs.Tables.{Entry, node_in}
use Rattle.mc_mode_state.specs.Nodes.{type_in, NodesAre}
use Rattle.mc_mode_state.specs.States.{point_of, is_outside}
use Rattle.mc_mode_state.specs.Agreeing.{OracleAgrees, StateInvariant, LaterByTrail}
use Rattle.mc_mode_state.specs.Answers.{plain_fault, end_of, FreshAlike}
use Rattle.mc_mode_state.specs.declared.nodes.Nodes as N
use Rattle.mc_mode_state.specs.declared.state.State.{State}
use Rattle.mc_mode_state.specs.declared.part.Part.{Part}
use Rattle.mc_mode_state.specs.declared.fault.ModeFault.{ModeFault}
use Rattle.mc_mode_state.proofs.Growths.{stepped_then_grown}
use Rattle.mc_mode_state.proofs.Steps.{moved-trans}
use Rattle.mc_modes.specs.Signatures.{declared_in}
use Rattle.mc_modes.specs.Fitting.{Known, GoalFits}
use Rattle.mc_modes.specs.Tries.{with_types, attempt_of, tells_outside, Succeeds, FailsUnchanged}
use Rattle.mc_modes.specs.Arrangements.{Becomes, NumbersTo, Numbers, Arranges}
use Rattle.mc_modes.specs.code.Parts.{alone_at}
use Rattle.mc_modes.specs.code.Judging.{IsBeginning, unmet_at, IsUnmet, Judges, JudgesGoal}
use Rattle.mc_modes.specs.declared.arranging.Arrangement.{Arrangement}
use Rattle.mc_modes.specs.declared.arranging.Refusal.{Refusal}
use Rattle.mc_modes.specs.declared.arranging.Refusal.TheVariants as R
use Rattle.mc_modes.proofs.Alike.{none_chosen, alone-alike}
use Rattle.mc_modes.proofs.Counts.{below-more}
use Rattle.mc_modes.proofs.Passing.{same-source}
use Rattle.mc_modes.proofs.Ways.{suits-before, first-types}

-- no nodes were found at the beginning
pub none-found : (P : Source) (I : Insts) (N : N.Nodes) → N.overs ≡ [] → N.joins ≡ [] → N.types.items ≡ [] → NodesAre P I N
none-found P I N o j y = record {
  overs = λ s k is e. absurd (none N.overs s k is o e);
  joins = λ r k is e. absurd (none N.joins r k is j e);
  once = λ r u t h k e. omega (arith, k, ap length y);
}
  where
    none : (es : List Entry) (s k : ℕ) (is : List ℕ) → es ≡ [] → node_in es s is ≡ Some k → ⊥
    none [] s k is n e = absurd (cc e)
    none (e ∷ es) s k is n f = absurd (cc n)

pub beginning-is : (types : Vec Ty Global) (head first heads firsts : List ℕ) (q : PlainProcs) (s : State) (N : N.Nodes) → heads ≡ head → firsts ≡ first → s.types ≡ types
    → ((P : Source) (declared : ℕ → List Declared) (C : NodeOracle) (T : ℕ → TypeTerm) → entry (of_nodes C) P declared T heads firsts ≡ point_of s.insts.items)
    → ((x : ℕ) → is_outside s.outside.items x ≡ is_in x heads)
    → ((p : PlainProcs) → AllFit p → NumbersBelow (count_of p.insts) firsts → NodesAre (source_of p) p.insts N → StateInvariant p s)
    → AllFit q → NumbersBelow (count_of q.insts) first → N.overs ≡ [] → N.joins ≡ [] → N.types.items ≡ [] → IsBeginning types.items head first q s
beginning-is types head first heads firsts q s N eh ef y p o st fit below ov jo ty = record {
  typed = ap (λ (ts : Vec Ty Global). ts.items) y;
  point = λ P declared C T. ap₂ (entry (of_nodes C) P declared T) (sym eh) (sym ef) ∙ p P declared C T;
  outside = λ x. o x ∙ ap (is_in x) eh;
  stands = st q fit (subst (NumbersBelow (count_of q.insts)) (sym ef) below) (none-found (source_of q) q.insts N ov jo ty);
}

pub beginning-told : {E : Type 0} (types : Vec Ty Global) (head first heads firsts : List ℕ) (q : PlainProcs) (res : Result State E) (N : N.Nodes) → heads ≡ head → firsts ≡ first
    → IfOk res (λ s. s.types ≡ types)
    → IfOk res (λ s. (P : Source) (declared : ℕ → List Declared) (C : NodeOracle) (T : ℕ → TypeTerm) → entry (of_nodes C) P declared T heads firsts ≡ point_of s.insts.items)
    → IfOk res (λ s. (x : ℕ) → is_outside s.outside.items x ≡ is_in x heads)
    → IfOk res (λ s. (p : PlainProcs) → AllFit p → NumbersBelow (count_of p.insts) firsts → NodesAre (source_of p) p.insts N → StateInvariant p s)
    → AllFit q → NumbersBelow (count_of q.insts) first → N.overs ≡ [] → N.joins ≡ [] → N.types.items ≡ [] → IfOk res (IsBeginning types.items head first q)
beginning-told types head first heads firsts q (Ok s) N eh ef y p o st fit below ov jo ty = beginning-is types head first heads firsts q s N eh ef y p o st fit below ov jo ty
beginning-told types head first heads firsts q (Err m) N eh ef y p o st fit below ov jo ty = tt

-- where the end is reachable
pub unmet-told : {E : Type 0} (head last : List ℕ) (reachable : Bool) (q r : PlainProcs) (s : State) (res : Result (Option ℕ) E) → reachable ≡ true
    → IfOk res (λ place. (declared : ℕ → List Declared) (C : NodeOracle) (T : ℕ → TypeTerm) → OracleAgrees r s C T
    → first_unmet (of_nodes C) (source_of q) declared T 0 head last (point_of s.insts.items) ≡ place)
    → IfOk res (λ place. LaterByTrail q r s s) → IfOk res (IsUnmet head last reachable q r s)
unmet-told head last true q r s (Ok place) e f g = record { unmet = f; stepped = g }
unmet-told head last true q r s (Err m) e f g = tt
unmet-told head last false q r s res e f g = absurd (cc e)

-- a goal that has no order leaves its clause without one
pub judges-refused : (head last : List ℕ) (p : Part) (trail : ℕ) (q r : PlainProcs) (s : State) (e : Refusal) → JudgesGoal head last p trail q r s (Err e) → Judges head last p trail q r s (Err e)
judges-refused head last p trail q r s (R.Fault f) j = j
judges-refused head last p trail q r s (R.Unmet k) j = j
judges-refused head last p trail q r s R.Memory j = j

-- at the end types of the head's variables alone count
module _ (C : NodeOracle) (P : Source) (declared : ℕ → List Declared) (T U : ℕ → TypeTerm) (first : ℕ) (h : (x : ℕ) → x < first → T x ≡ U x) where
  unmet-locally : (k : ℕ) (xs ls : List ℕ) (c : Point ℕ) → NumbersBelow first xs → first_unmet (of_nodes C) P declared T k xs ls c ≡ first_unmet (of_nodes C) P declared U k xs ls c
  unmet-locally k [] ls c w = refl
  unmet-locally k (x ∷ xs) [] c w = refl
  unmet-locally k (x ∷ xs) (l ∷ ls) c w = ap₂ (λ (t : TypeTerm) (r : Option ℕ). if C.fits (c x) l t then r else Some k) (h x w.0) (unmet-locally (suc k) xs ls c w.1)

  unmet-by : (head last : List ℕ) (o : Option (Point ℕ)) → NumbersBelow first head → unmet_at C P declared T head last o ≡ unmet_at C P declared U head last o
  unmet-by head last None w = refl
  unmet-by head last (Some c) w = unmet-locally 0 head last c w

judged-is : (C : NodeOracle) (P : Source) (declared : ℕ → List Declared) (T : ℕ → TypeTerm) (head last : List ℕ) (b : Point ℕ) (gs : Nodes) (o : Option (Point ℕ)) (n : ℕ) (zs : List ℕ)
    → judged (of_nodes C) P declared T head last b (runs gs o n zs) ≡ unless_unmet (alone (of_nodes C) n b o gs) (unmet_at C P declared T head last o)
judged-is C P declared T head last b gs None n zs = refl
judged-is C P declared T head last b gs (Some c) n zs = refl

-- a goal that is tried from the beginning of its clause
module _ (sigs : List Sig) (types : List Ty) (head first last : List ℕ) (g : Flat_goal) (q : PlainProcs) (s : State)
    (begun : IsBeginning types head first q s)
    (heads : NumbersBelow (length types) head) (within : NumbersBelow (length types) (variables_of g)) where
  count-begun : length s.insts.items ≡ length types
  count-begun = sym begun.stands.even.types ∙ ap (λ (ts : List Ty). length ts) begun.typed

  pub fits-begun : Known q.program g → GoalFits q s g
  fits-begun known = record { variables = subst (λ n. NumbersBelow n (variables_of g)) (sym count-begun) within; known = known }

  pub heads-later : (t : State) → length s.insts.items ≤ length t.insts.items → NumbersBelow (length t.insts.items) head
  heads-later t h = below-more (length types) (length t.insts.items) head (omega (arith, count-begun)) heads

  told : tells_outside (variables_of g) s (length types) head
  told = (omega (arith, count-begun), within, λ x. sym (begun.outside x))

  arranged-is : (C : NodeOracle) (T : ℕ → TypeTerm) (a : Arranged ℕ) → attempt_of sigs g q s head C T ≡ a
      → arrange (of_nodes C) (source_of q) (declared_in sigs) T (length types) head first last g ≡ judged (of_nodes C) (source_of q) (declared_in sigs) T head last (point_of s.insts.items) a
  arranged-is C T a e =
      ap₂ (λ (n : ℕ) (b : Point ℕ). judged (of_nodes C) (source_of q) (declared_in sigs) T head last b (trial (of_nodes C) (source_of q) (declared_in sigs) T g head n b))
      (sym count-begun) (begun.point (source_of q) (declared_in sigs) C T)
      ∙ ap (judged (of_nodes C) (source_of q) (declared_in sigs) T head last (point_of s.insts.items)) e

  types-kept : (t : State) → take (length s.types.items) t.types.items ≡ s.types.items → take (length types) t.types.items ≡ types
  types-kept t k = subst (λ (ts : List Ty). take (length ts) t.types.items ≡ ts) begun.typed k

  becomes-ran : (r u : PlainProcs) (t : State) (p : Part) (place : Option ℕ) (v : Verdict)
      → Succeeds (tells_outside (variables_of g) s) (attempt_of sigs g q s) q r s t p → IsUnmet head last p.reachable r u t place
      → ((C : NodeOracle) → unless_unmet (alone_at C t p (point_of s.insts.items)) place ≡ v) → Becomes sigs types head first last g q u t v
  becomes-ran r u t p place v d j e = record {
    verdict = λ C T z.
        let gs = nodes (map plain_node p.goals.items) in
        let o = end_of p.reachable t in
        let U = with_types (length types) t T in
        arranged-is C T (runs gs o (length t.insts.items) p.freshened.items)
        (d.outcome (length types) head C T told (suits-before (length types) C r u t t T d.stepped.moved.stands j.stepped.moved z))
        ∙ (judged-is C (source_of q) (declared_in sigs) T head last (point_of s.insts.items) gs o (length t.insts.items) p.freshened.items
        ∙ (ap (unless_unmet (alone_at C t p (point_of s.insts.items)))
        (unmet-by C (source_of q) (declared_in sigs) T U (length types) (first-types (length types) C t T) head last o heads
        ∙ (ap (λ (P : Source). unmet_at C P (declared_in sigs) U head last o) (sym (same-source q r s t d.stepped.moved))
        ∙ j.unmet (declared_in sigs) C U z.agrees))
        ∙ e C));
    kept = types-kept t d.stepped.later.types;
    stands = j.stepped.moved.stands;
    others = (moved-trans q r u s t t d.stepped.moved j.stepped.moved).nodes.others;
    grown = (moved-trans q r u s t t d.stepped.moved j.stepped.moved).nodes.grown;
  }

  -- the state at the end has as many variables as the order numbers
  numbers-ran : (r u : PlainProcs) (t : State) (p : Part) (place : Option ℕ) (count : ℕ)
      → Succeeds (tells_outside (variables_of g) s) (attempt_of sigs g q s) q r s t p → IsUnmet head last p.reachable r u t place
      → length t.insts.items ≡ count → Numbers sigs types head first g q u t count
  numbers-ran r u t p place count d j e C T z =
      subst (NumbersTo count)
      (sym
      (ap₂ (λ (n : ℕ) (b : Point ℕ). trial (of_nodes C) (source_of q) (declared_in sigs) T g head n b) (sym count-begun) (begun.point (source_of q) (declared_in sigs) C T)
      ∙ d.outcome (length types) head C T told (suits-before (length types) C r u t t T d.stepped.moved.stands j.stepped.moved z)))
      e

  -- it runs, and its end is judged
  pub arranges-judged : (r u : PlainProcs) (t : State) (p : Part) (res : Result Arrangement Refusal)
      → Succeeds (tells_outside (variables_of g) s) (attempt_of sigs g q s) q r s t p → FreshAlike g t p → Judges head last p (length s.trail.items) r u t res → Arranges sigs types head first last g q u res
  arranges-judged r u t p (Ok a) d f j = (
    t,
    becomes-ran r u t p None _ d j.0 (λ C. ap unless-none (sym (body C))),
    numbers-ran r u t p None (length a.types.items) d j.0 (sym t-even ∙ ap (λ (ts : Vec Ty Global). length ts.items) (sym j.1)),
    ap (λ (ts : Vec Ty Global). ts.items) j.1,
    subst (TestsAlike (type_in a.types.items) (length types)) (sym (body none_chosen))
        (alone-alike (type_in a.types.items) (length types) none_chosen (length t.insts.items) (point_of s.insts.items) (end_of p.reachable t) (nodes (map plain_node p.goals.items))
        (f (type_in a.types.items) (length types) (λ x l. ap (λ (ts : Vec Ty Global). type_in ts.items x) j.1) within)),
  )
    where
      body : (C : NodeOracle) → plain_node a.body ≡ alone_at C t p (point_of s.insts.items)
      body = j.2 s d.stepped.later.leads refl

      t-even : length t.types.items ≡ length t.insts.items
      t-even = d.stepped.moved.stands.even.types

      unless-none : Node → Verdict
      unless-none n = unless_unmet n None
  arranges-judged r u t p (Err (R.Fault e)) d f j = absurd j
  arranges-judged r u t p (Err (R.Unmet k)) d f j = (t, becomes-ran r u t p (Some k) _ d j (λ C. refl))
  arranges-judged r u t p (Err R.Memory) d f j = stepped_then_grown q r u s t d.stepped j

  -- it breaks a rule
  pub arranges-fault : (r : PlainProcs) (t : State) (f : ModeFault) → FailsUnchanged (tells_outside (variables_of g) s) (attempt_of sigs g q s) q r s t f
      → Becomes sigs types head first last g q r t (faulty (plain_fault f))
  arranges-fault r t f d = record {
    verdict = λ C T z. arranged-is C T _ (d.outcome (length types) head C T told z);
    kept = types-kept t d.moved.types;
    stands = d.moved.stands;
    others = d.moved.nodes.others;
    grown = d.moved.nodes.grown;
  }
