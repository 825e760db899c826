-- What becomes of atoms.
use Rattle.std.proofs.Common.{◌≡◌, ℕ, zero, suc, ◌<◌, Bool, true, false, not, ◌&&◌, List, [], ◌∷◌, length, map, Option, Some, None, Ok, Err, nat_eq, nat_lt, if◌then◌else◌, refl, sym, ap, ◌∙◌, subst, arith}
use Rattle.std.specs.List.{list_any}
use Rattle.std.proofs.lemmas.Bool.Decides.{nat_tests}
use Rattle.mc_program.specs.Programs.{TypeTerm, Source}
use Rattle.mc_program.specs.Values.{Val, plain_value}
use Rattle.mc_program.specs.declared.value.Value.{Value}
use Rattle.mc_model.specs.Flat as F
use Rattle.mc_model.specs.declared.sched.Sched as D
use Rattle.mc_procs.proofs.Views.{plain_sched-Test, plain_sched-Assign, plain_sched-Const, plain_sched-TestConst}
use Rattle.mc_model.specs.Insts.{Graph}
use Rattle.mc_model.specs.Stream.{is_bound}
use Rattle.mc_model.specs.Scheduled.{Scheduled, Assign, Test, Const, TestConst, Nodes, node_then, no_nodes, nodes}
use Rattle.mc_model.specs.PlainGoals.{plain_node, plain_sched}
use Rattle.mc_accepted.specs.Fits.{FitsInsts}
use Rattle.mc_accepted.specs.FreshTests.{AlikeIn, AllAlike}
use Rattle.mc_accepted.specs.Forms.{node_takes_constants}
use Rattle.mc_accepted.specs.Ordered.{is_state}
use Rattle.mc_accepted.specs.Arranged.{Operations, Declared, Point, with_inst, Arranged, runs, breaks, one, changing, atom, wait, same, assigned, constant}
use Rattle.mc_accepted.specs.NodeOracle.{NodeOracle, of_nodes, other_node}
use Rattle.mc_procs.specs.Named.{NumbersBelow}
use Rattle.mc_procs.specs.Procedures.{PlainProcs, source_of, insts_of}
use Rattle.mc_mode_state.specs.Nodes.{type_in}
use Rattle.mc_mode_state.specs.States.{point_of}
use Rattle.mc_mode_state.specs.Agreeing.{OracleAgrees, StateInvariant, LaterByTrail}
use Rattle.mc_mode_state.specs.Answers.{Outcome, tried, end_of, IsWaiting, Answers}
use Rattle.mc_mode_state.specs.declared.state.State.{State}
use Rattle.mc_mode_state.specs.declared.part.Part.{Part}
use Rattle.mc_mode_state.specs.declared.fault.Failed.{Failed}
use Rattle.mc_mode_state.specs.declared.fault.Failed.TheVariants as E
use Rattle.mc_mode_state.proofs.Ahead.{dead-is-three, agrees-before}
use Rattle.mc_mode_state.proofs.Steps.{moved-refl, same-refl, stepped-refl}

-- one goal that was tried from the first state and left the second
abbrev pub one_goal : (s t : State) → (reachable : Bool) → Scheduled → Nodes
one_goal s t reachable g = node_then (changing other_node (length t.insts.items) (point_of s.insts.items) (end_of reachable t) g) no_nodes

-- one goal, in the form of an answer
pub runs-one : (C : NodeOracle) (p : Part) (s t : State) (g : Scheduled) (o : Option (Point ℕ)) (n : ℕ) (reachable : Bool)
    → nodes (map plain_node p.goals.items) ≡ one_goal s t reachable g → p.reachable ≡ reachable → p.freshened.items ≡ [] → o ≡ end_of reachable t → n ≡ length t.insts.items
    → one (of_nodes C) (point_of s.insts.items) g o n ≡ runs (nodes (map plain_node p.goals.items)) (end_of p.reachable t) (length t.insts.items) p.freshened.items
runs-one C p s t g o n reachable h r f e c =
    ap (λ x. one (of_nodes C) (point_of s.insts.items) g x n) e
    ∙ (ap (one (of_nodes C) (point_of s.insts.items) g (end_of reachable t)) c
    ∙ (ap (λ x. runs x (end_of reachable t) (length t.insts.items) []) (sym h)
    ∙ (ap (λ x. runs (nodes (map plain_node p.goals.items)) (end_of x t) (length t.insts.items) []) (sym r)
    ∙ ap (runs (nodes (map plain_node p.goals.items)) (end_of p.reachable t) (length t.insts.items)) (sym f))))

-- the tests of one goal
pub alike-one : (T : ℕ → TypeTerm) (next : ℕ) (p : Part) (s t : State) (reachable : Bool) (g : Scheduled) → nodes (map plain_node p.goals.items) ≡ one_goal s t reachable g → AlikeIn T next g → AllAlike T next (nodes (map plain_node p.goals.items))
alike-one T next p s t reachable g e h = subst (AllAlike T next) (sym e) (h, tt)

-- no fresh variables stand among its arguments
pub none-fresh : (n : ℕ) (zs : List ℕ) → zs ≡ [] → NumbersBelow n zs
none-fresh n zs e = subst (NumbersBelow n) (sym e) tt

pub takes-by-number : (P : Source) (G : Graph) → FitsInsts G → (i : ℕ) → node_takes_constants P G (G i) ≡ (not (nat_eq i 0) && nat_lt i 4)
takes-by-number P G h zero = ap (node_takes_constants P G) h.is_free
takes-by-number P G h (suc zero) = ap (node_takes_constants P G) h.is_ground
takes-by-number P G h (suc (suc zero)) = ap (node_takes_constants P G) h.is_unique
takes-by-number P G h (suc (suc (suc zero))) = ap (node_takes_constants P G) h.is_dead
takes-by-number P G h (suc (suc (suc (suc i)))) = let b = h.are_bound i in ap (node_takes_constants P G) b.1 ∙ (grind (arith, nat_tests))

end-by : (r : Bool) (t : State) → (if r then Some (point_of t.insts.items) else None) ≡ end_of r t
end-by true t = refl
end-by false t = refl

module _ (q : PlainProcs) (s : State) (declared : ℕ → List Declared) (st : StateInvariant q s) where
  abbrev b : Point ℕ
  b = point_of s.insts.items

  module _ (C : NodeOracle) (T : ℕ → TypeTerm) (a : OracleAgrees q s C T) where
    abbrev Op : Operations ℕ
    Op = of_nodes C

    pub dead-at : (x : ℕ) → C.is_dead (b x) ≡ nat_eq (b x) 3
    dead-at x = a.dies (b x) (st.insts x) ∙ dead-is-three (insts_of q) st.fit.program.insts_are.insts (b x)

    pub any-dead : (xs : List ℕ) → list_any (λ x. C.is_dead (b x)) xs ≡ list_any (λ x. nat_eq (b x) 3) xs
    any-dead xs = ap (λ (f : ℕ → Bool). list_any f xs) (λ i x. dead-at x i)

    pub atom-waits : (xs : List ℕ) (r : Arranged ℕ) → list_any (λ x. nat_eq (b x) 3) xs ≡ true → atom Op (source_of q) declared T xs b r ≡ wait Op (source_of q) declared T xs b
    atom-waits xs r h = ap (λ t. if t then wait Op (source_of q) declared T xs b else r) (any-dead xs ∙ h)

    pub atom-runs : (xs : List ℕ) (r : Arranged ℕ) → list_any (λ x. nat_eq (b x) 3) xs ≡ false → atom Op (source_of q) declared T xs b r ≡ r
    atom-runs xs r h = ap (λ t. if t then wait Op (source_of q) declared T xs b else r) (any-dead xs ∙ h)

    pub state-at : (x : ℕ) → x < length s.insts.items → is_state (T x) ≡ is_state (type_in s.types.items x)
    state-at x h = ap is_state (a.types x (subst (λ n. x < n) (sym st.even.types) h))

    abbrev same_of : ℕ → ℕ → ℕ → Arranged ℕ
    same_of x y n = same Op (source_of q) declared T x y n b

    pub same-waits : (x y n : ℕ) → x < length s.insts.items → is_bound (b x) ≡ true → is_bound (b y) ≡ true → is_state (type_in s.types.items x) ≡ true → same_of x y n ≡ wait Op (source_of q) declared T (x ∷ y ∷ []) b
    same-waits x y n l h g k = chosen (is_bound (b x)) (is_bound (b y)) (is_state (T x)) _ _ _ _ _ h g (state-at x l ∙ k)
      where
        chosen : (t u v : Bool) (w e f g m : Arranged ℕ) → t ≡ true → u ≡ true → v ≡ true → (if t then (if u then (if v then w else e) else f) else (if u then g else m)) ≡ w
        chosen true true true w e f g m p r i = refl
        chosen true true false w e f g m p r i = cc
        chosen true false v w e f g m p r i = cc
        chosen false u v w e f g m p r i = cc

    pub same-tests : (x y n : ℕ) → x < length s.insts.items → is_bound (b x) ≡ true → is_bound (b y) ≡ true → is_state (type_in s.types.items x) ≡ false → same_of x y n ≡ one Op b (Test x y) (Some b) n
    same-tests x y n l h g k = chosen (is_bound (b x)) (is_bound (b y)) (is_state (T x)) _ _ _ _ _ h g (state-at x l ∙ k)
      where
        chosen : (t u v : Bool) (w e f g m : Arranged ℕ) → t ≡ true → u ≡ true → v ≡ false → (if t then (if u then (if v then w else e) else f) else (if u then g else m)) ≡ e
        chosen true true true w e f g m p r i = cc
        chosen true true false w e f g m p r i = refl
        chosen true false v w e f g m p r i = cc
        chosen false u v w e f g m p r i = cc

    pub assigned-is : (x y : ℕ) → y < length s.insts.items → (d : Point ℕ) → d ≡ with_inst ℕ x (b y) (if is_state (type_in s.types.items y) then with_inst ℕ y 3 b else b) → assigned Op (source_of q) declared T x y b ≡ d
    assigned-is x y l d h = ap (λ t. with_inst ℕ x (b y) (if t then with_inst ℕ y 3 b else b)) (state-at y l) ∙ sym h

    pub same-back : (x y n : ℕ) → is_bound (b x) ≡ true → is_bound (b y) ≡ false → same_of x y n ≡ one Op b (Assign y x) (Some (assigned Op (source_of q) declared T y x b)) n
    same-back x y n h g = chosen (is_bound (b x)) (is_bound (b y)) (is_state (T x)) _ _ _ _ _ h g
      where
        chosen : (t u v : Bool) (w e f g m : Arranged ℕ) → t ≡ true → u ≡ false → (if t then (if u then (if v then w else e) else f) else (if u then g else m)) ≡ f
        chosen true true v w e f g m p r = cc
        chosen true false v w e f g m p r = refl
        chosen false u v w e f g m p r = cc

    pub same-on : (x y n : ℕ) → is_bound (b x) ≡ false → is_bound (b y) ≡ true → same_of x y n ≡ one Op b (Assign x y) (Some (assigned Op (source_of q) declared T x y b)) n
    same-on x y n h g = chosen (is_bound (b x)) (is_bound (b y)) (is_state (T x)) _ _ _ _ _ h g
      where
        chosen : (t u v : Bool) (w e f g m : Arranged ℕ) → t ≡ false → u ≡ true → (if t then (if u then (if v then w else e) else f) else (if u then g else m)) ≡ g
        chosen true u v w e f g m p r = cc
        chosen false true v w e f g m p r = refl
        chosen false false v w e f g m p r = cc

    pub same-free : (x y n : ℕ) → is_bound (b x) ≡ false → is_bound (b y) ≡ false → same_of x y n ≡ wait Op (source_of q) declared T (x ∷ y ∷ []) b
    same-free x y n h g = chosen (is_bound (b x)) (is_bound (b y)) (is_state (T x)) _ _ _ _ _ h g
      where
        chosen : (t u v : Bool) (w e f g m : Arranged ℕ) → t ≡ false → u ≡ false → (if t then (if u then (if v then w else e) else f) else (if u then g else m)) ≡ m
        chosen true u v w e f g m p r = cc
        chosen false true v w e f g m p r = cc
        chosen false false v w e f g m p r = refl

    pub constant-tests : (x : ℕ) (v : Val) (n : ℕ) → is_bound (b x) ≡ true → constant Op (source_of q) declared T x v n b ≡ one Op b (TestConst x v) (end_of (not (nat_eq (b x) 0) && nat_lt (b x) 4) s) n
    constant-tests x v n h =
        ap (λ t. if t then one Op b (TestConst x v) (if C.takes_constants (b x) then Some b else None) n else one Op b (Const x v) (Some (with_inst ℕ x 1 b)) n) h
        ∙ (ap (λ t. one Op b (TestConst x v) (if t then Some b else None) n) (a.constants (b x) (st.insts x) ∙ takes-by-number (source_of q) (insts_of q) st.fit.program.insts_are.insts (b x))
        ∙ ap (λ o. one Op b (TestConst x v) o n) (end-by (not (nat_eq (b x) 0) && nat_lt (b x) 4) s))

    pub constant-set : (x : ℕ) (v : Val) (n : ℕ) → is_bound (b x) ≡ false → constant Op (source_of q) declared T x v n b ≡ one Op b (Const x v) (Some (with_inst ℕ x 1 b)) n
    constant-set x v n h = ap (λ t. if t then one Op b (TestConst x v) (if C.takes_constants (b x) then Some b else None) n else one Op b (Const x v) (Some (with_inst ℕ x 1 b)) n) h

  -- an atom that waits
  pub waits-broke : (o : Outcome) (xs : List ℕ) (f : Failed) → IsWaiting xs b f
      → ((C : NodeOracle) (T : ℕ → TypeTerm) → OracleAgrees q s C T → o C T ≡ wait (of_nodes C) (source_of q) declared T xs b) → Answers o q q s s (Err f)
  waits-broke o xs (E.Fault f) h e = record {
    outcome = λ C T a. e C T a ∙ ap breaks (sym h);
    same = same-refl s;
    moved = moved-refl q s st;
  }
  waits-broke o xs E.Memory h e = tt

-- equations of two variables, by what was found of them
module _ (q : PlainProcs) (s : State) (declared : ℕ → List Declared) (O : List ℕ) (st : StateInvariant q s) (x y : ℕ) (hx : x < length s.insts.items) (hy : y < length s.insts.items) where
  abbrev here : Point ℕ
  here = point_of s.insts.items

  abbrev count : ℕ
  count = length s.insts.items

  abbrev No_dead : Bool → Type 0
  No_dead t = list_any (λ z. nat_eq (here z) 3) (x ∷ y ∷ []) ≡ t

  pub same-dead : (f : Failed) → IsWaiting (x ∷ y ∷ []) here f → No_dead true → Answers (tried declared (F.Same x y) O q s) q q s s (Err f)
  same-dead f w h =
      waits-broke q s declared st (tried declared (F.Same x y) O q s) (x ∷ y ∷ []) f w
      (λ C T a. atom-waits q s declared st C T a (x ∷ y ∷ []) (same (of_nodes C) (source_of q) declared T x y count here) h)

  pub same-states : (f : Failed) → IsWaiting (x ∷ y ∷ []) here f → No_dead false → is_bound (here x) ≡ true → is_bound (here y) ≡ true → is_state (type_in s.types.items x) ≡ true → Answers (tried declared (F.Same x y) O q s) q q s s (Err f)
  same-states f w h g k l =
      waits-broke q s declared st (tried declared (F.Same x y) O q s) (x ∷ y ∷ []) f w
      (λ C T a. atom-runs q s declared st C T a (x ∷ y ∷ []) (same (of_nodes C) (source_of q) declared T x y count here) h ∙ same-waits q s declared st C T a x y count hx g k l)

  pub same-both-free : (f : Failed) → IsWaiting (x ∷ y ∷ []) here f → No_dead false → is_bound (here x) ≡ false → is_bound (here y) ≡ false → Answers (tried declared (F.Same x y) O q s) q q s s (Err f)
  same-both-free f w h g k =
      waits-broke q s declared st (tried declared (F.Same x y) O q s) (x ∷ y ∷ []) f w
      (λ C T a. atom-runs q s declared st C T a (x ∷ y ∷ []) (same (of_nodes C) (source_of q) declared T x y count here) h ∙ same-free q s declared st C T a x y count g k)

  pub same-tested : (p : Part) → No_dead false → is_bound (here x) ≡ true → is_bound (here y) ≡ true → is_state (type_in s.types.items x) ≡ false
      → nodes (map plain_node p.goals.items) ≡ one_goal s s true (plain_sched (D.Test x y)) → p.reachable ≡ true → p.freshened.items ≡ [] → Answers (tried declared (F.Same x y) O q s) q q s s (Ok p)
  same-tested p h g k l e r f = record {
    outcome = λ C T a.
        atom-runs q s declared st C T a (x ∷ y ∷ []) (same (of_nodes C) (source_of q) declared T x y count here) h
        ∙ (same-tests q s declared st C T a x y count hx g k l
        ∙ runs-one C p s s (Test x y) (Some here) count true (e ∙ ap (one_goal s s true) (plain_sched-Test x y)) r f refl refl);
    fresh = none-fresh (length s.insts.items) p.freshened.items f;
    stepped = stepped-refl q s st;
  }

  pub same-assigned-back : (t : State) (p : Part) → No_dead false → is_bound (here x) ≡ true → is_bound (here y) ≡ false
      → point_of t.insts.items ≡ with_inst ℕ y (here x) (if is_state (type_in s.types.items x) then with_inst ℕ x 3 here else here) → length t.insts.items ≡ length s.insts.items → LaterByTrail q q s t
      → nodes (map plain_node p.goals.items) ≡ one_goal s t true (plain_sched (D.Assign y x)) → p.reachable ≡ true → p.freshened.items ≡ [] → Answers (tried declared (F.Same x y) O q s) q q s t (Ok p)
  same-assigned-back t p h g k point n step e r f = record {
    outcome = λ C T a.
        let b = agrees-before q q s t C T st step.moved a in
        atom-runs q s declared st C T b (x ∷ y ∷ []) (same (of_nodes C) (source_of q) declared T x y count here) h
        ∙ (same-back q s declared st C T b x y count g k
        ∙ (ap (λ (d : Point ℕ). one (of_nodes C) here (Assign y x) (Some d) count) (assigned-is q s declared st C T b y x hx (point_of t.insts.items) point)
        ∙ runs-one C p s t (Assign y x) (Some (point_of t.insts.items)) count true (e ∙ ap (one_goal s t true) (plain_sched-Assign y x)) r f refl (sym n)));
    fresh = none-fresh (length t.insts.items) p.freshened.items f;
    stepped = step;
  }

  pub same-assigned-on : (t : State) (p : Part) → No_dead false → is_bound (here x) ≡ false → is_bound (here y) ≡ true
      → point_of t.insts.items ≡ with_inst ℕ x (here y) (if is_state (type_in s.types.items y) then with_inst ℕ y 3 here else here) → length t.insts.items ≡ length s.insts.items → LaterByTrail q q s t
      → nodes (map plain_node p.goals.items) ≡ one_goal s t true (plain_sched (D.Assign x y)) → p.reachable ≡ true → p.freshened.items ≡ [] → Answers (tried declared (F.Same x y) O q s) q q s t (Ok p)
  same-assigned-on t p h g k point n step e r f = record {
    outcome = λ C T a.
        let b = agrees-before q q s t C T st step.moved a in
        atom-runs q s declared st C T b (x ∷ y ∷ []) (same (of_nodes C) (source_of q) declared T x y count here) h
        ∙ (same-on q s declared st C T b x y count g k
        ∙ (ap (λ (d : Point ℕ). one (of_nodes C) here (Assign x y) (Some d) count) (assigned-is q s declared st C T b x y hy (point_of t.insts.items) point)
        ∙ runs-one C p s t (Assign x y) (Some (point_of t.insts.items)) count true (e ∙ ap (one_goal s t true) (plain_sched-Assign x y)) r f refl (sym n)));
    fresh = none-fresh (length t.insts.items) p.freshened.items f;
    stepped = step;
  }

-- equations of a variable and a constant
module _ (q : PlainProcs) (s : State) (declared : ℕ → List Declared) (O : List ℕ) (st : StateInvariant q s) (x : ℕ) (v : Value) where
  abbrev there : Point ℕ
  there = point_of s.insts.items

  abbrev many : ℕ
  many = length s.insts.items

  abbrev Dies : Bool → Type 0
  Dies t = list_any (λ z. nat_eq (there z) 3) (x ∷ []) ≡ t

  pub constant-dead : (f : Failed) → IsWaiting (x ∷ []) there f → Dies true → Answers (tried declared (F.Is x (plain_value v)) O q s) q q s s (Err f)
  constant-dead f w h =
      waits-broke q s declared st (tried declared (F.Is x (plain_value v)) O q s) (x ∷ []) f w
      (λ C T a. atom-waits q s declared st C T a (x ∷ []) (constant (of_nodes C) (source_of q) declared T x (plain_value v) many there) h)

  pub constant-tested : (p : Part) → Dies false → is_bound (there x) ≡ true
      → nodes (map plain_node p.goals.items) ≡ one_goal s s (not (nat_eq (there x) 0) && nat_lt (there x) 4) (plain_sched (D.TestConst x v)) → p.reachable ≡ (not (nat_eq (there x) 0) && nat_lt (there x) 4) → p.freshened.items ≡ []
      → Answers (tried declared (F.Is x (plain_value v)) O q s) q q s s (Ok p)
  constant-tested p h g e r f = record {
    outcome = λ C T a.
        atom-runs q s declared st C T a (x ∷ []) (constant (of_nodes C) (source_of q) declared T x (plain_value v) many there) h
        ∙ (constant-tests q s declared st C T a x (plain_value v) many g
        ∙ runs-one C p s s (TestConst x (plain_value v)) (end_of (not (nat_eq (there x) 0) && nat_lt (there x) 4) s) many (not (nat_eq (there x) 0) && nat_lt (there x) 4)
        (e ∙ ap (one_goal s s (not (nat_eq (there x) 0) && nat_lt (there x) 4)) (plain_sched-TestConst x v)) r f refl refl);
    fresh = none-fresh (length s.insts.items) p.freshened.items f;
    stepped = stepped-refl q s st;
  }

  pub constant-put : (t : State) (p : Part) → Dies false → is_bound (there x) ≡ false
      → point_of t.insts.items ≡ with_inst ℕ x 1 there → length t.insts.items ≡ length s.insts.items → LaterByTrail q q s t
      → nodes (map plain_node p.goals.items) ≡ one_goal s t true (plain_sched (D.Const x v)) → p.reachable ≡ true → p.freshened.items ≡ []
      → Answers (tried declared (F.Is x (plain_value v)) O q s) q q s t (Ok p)
  constant-put t p h g point n step e r f = record {
    outcome = λ C T a.
        let b = agrees-before q q s t C T st step.moved a in
        atom-runs q s declared st C T b (x ∷ []) (constant (of_nodes C) (source_of q) declared T x (plain_value v) many there) h
        ∙ (constant-set q s declared st C T b x (plain_value v) many g
        ∙ runs-one C p s t (Const x (plain_value v)) (Some (with_inst ℕ x 1 there)) many true
        (e ∙ ap (one_goal s t true) (plain_sched-Const x v)) r f (ap Some (sym point)) (sym n));
    fresh = none-fresh (length t.insts.items) p.freshened.items f;
    stepped = step;
  }
