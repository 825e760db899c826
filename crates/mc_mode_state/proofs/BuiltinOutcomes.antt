-- What becomes of builtins.
use Rattle.std.proofs.Common.{◌≡◌, ℕ, ◌+◌, Bool, true, false, not, List, [], ◌∷◌, length, map, Some, None, Ok, Err, nat_eq, if◌then◌else◌, refl, sym, ap, ◌∙◌, subst}
use Rattle.std.specs.List.{list_any}
use Rattle.mc_source.specs.Determinism.{is_zero}
use Rattle.mc_program.specs.Programs.{TypeTerm}
use Rattle.mc_program.specs.declared.builtin.Builtin.{Builtin}
use Rattle.mc_model.specs.Flat as F
use Rattle.mc_model.specs.Outcomes.{inputs_of}
use Rattle.mc_model.specs.PlainGoals.{plain_node}
use Rattle.mc_model.specs.Scheduled.{Scheduled, Apply, Nodes, node_then, nodes}
use Rattle.mc_model.specs.Stream.{is_bound}
use Rattle.mc_accepted.specs.Arranged.{Declared, Point, Arranged, runs, breaks, changing, wait, call_of, usable, after, applied, applied_to, applied_freshly, applied_with, fresh_at, tests_at, test_nodes}
use Rattle.mc_accepted.specs.NodeOracle.{NodeOracle, of_nodes, other_node}
use Rattle.mc_accepted.specs.Ordered.{Mode, builtin_most, modes_of, implied_places, at_inputs, at_outputs}
use Rattle.mc_procs.specs.Named.{NumbersBelow}
use Rattle.mc_procs.specs.Procedures.{PlainProcs, source_of}
use Rattle.mc_mode_state.specs.States.{point_of}
use Rattle.mc_mode_state.specs.Agreeing.{OracleAgrees, StateInvariant, LaterByTrail}
use Rattle.mc_mode_state.specs.Answers.{Outcome, tried, end_of, IsWaiting, Ran, Answers}
use Rattle.mc_mode_state.specs.declared.state.State.{State}
use Rattle.mc_mode_state.specs.declared.part.Part.{Part}
use Rattle.mc_mode_state.specs.declared.fault.Failed.{Failed}
use Rattle.mc_mode_state.specs.declared.fault.Failed.TheVariants as E
use Rattle.mc_mode_state.proofs.Ahead.{agrees-before}
use Rattle.mc_mode_state.proofs.AtomOutcomes.{one_goal, runs-one, none-fresh, waits-broke, atom-waits, atom-runs}
use Rattle.mc_mode_state.proofs.Steps.{same-refl, stepped-trans}

-- a builtin that was tried from the first state and left the second, and then tests
abbrev pub freshly_goals : (s t : State) → Scheduled → List (ℕ × ℕ) → Nodes
freshly_goals s t g ts = node_then (changing other_node (length t.insts.items) (point_of s.insts.items) (end_of true t) g) (test_nodes ts)

-- in the form of an answer
runs-freshly : (p : Part) (s t : State) (g : Scheduled) (ts : List (ℕ × ℕ)) (c : Point ℕ) (n : ℕ) (zs : List ℕ)
    → nodes (map plain_node p.goals.items) ≡ freshly_goals s t g ts → p.reachable ≡ true → p.freshened.items ≡ zs → c ≡ point_of t.insts.items → n ≡ length t.insts.items
    → runs (node_then (changing other_node n (point_of s.insts.items) (Some c) g) (test_nodes ts)) (Some c) n zs
    ≡ runs (nodes (map plain_node p.goals.items)) (end_of p.reachable t) (length t.insts.items) p.freshened.items
runs-freshly p s t g ts c n zs h r f e k =
    ap (λ (d : Point ℕ). runs (node_then (changing other_node n (point_of s.insts.items) (Some d) g) (test_nodes ts)) (Some d) n zs) e
    ∙ (ap (λ m. runs (node_then (changing other_node m (point_of s.insts.items) (end_of true t) g) (test_nodes ts)) (end_of true t) m zs) k
    ∙ (ap (λ x. runs x (end_of true t) (length t.insts.items) zs) (sym h)
    ∙ (ap (λ x. runs (nodes (map plain_node p.goals.items)) (end_of x t) (length t.insts.items) zs) (sym r)
    ∙ ap (runs (nodes (map plain_node p.goals.items)) (end_of p.reachable t) (length t.insts.items)) (sym f))))

ended : (n : Bool) (b : Point ℕ) (t : State) → b ≡ point_of t.insts.items → (if n then None else Some b) ≡ end_of (not n) t
ended true b t e = refl
ended false b t e = ap Some e

abbrev pub apply_of : Builtin → List ℕ → Scheduled
apply_of op zs = Apply op (at_inputs (inputs_of op) zs) (at_outputs (inputs_of op) zs)

-- what a call in a builtin's mode leaves of its arguments
abbrev pub Leaves : (q r : PlainProcs) → List Mode → List ℕ → Point ℕ → State → Type 0
Leaves q r ms zs b t = (declared : ℕ → List Declared) (C : NodeOracle) (T : ℕ → TypeTerm) → OracleAgrees r t C T → after (of_nodes C) (source_of q) declared T ms zs b ≡ point_of t.insts.items

pub ran-plainly : (q r : PlainProcs) (s t : State) (declared : ℕ → List Declared) (op : Builtin) (xs : List ℕ) (part : Part)
    → LaterByTrail q r s t → Leaves q r (modes_of op) xs (point_of s.insts.items) t → length t.insts.items ≡ length s.insts.items
    → nodes (map plain_node part.goals.items) ≡ one_goal s t (not (is_zero (builtin_most op))) (apply_of op xs) → part.reachable ≡ not (is_zero (builtin_most op)) → part.freshened.items ≡ []
    → Ran (λ C T. applied_to (of_nodes C) (source_of q) declared T op xs (length s.insts.items) (point_of s.insts.items)) q r s t part
ran-plainly q r s t declared op xs part step left count g e f = record {
  outcome = λ C T a.
      runs-one C part s t (apply_of op xs)
      (if is_zero (builtin_most op) then None else Some (after (of_nodes C) (source_of q) declared T (modes_of op) xs (point_of s.insts.items)))
      (length s.insts.items) (not (is_zero (builtin_most op))) g e f
      (ended (is_zero (builtin_most op)) (after (of_nodes C) (source_of q) declared T (modes_of op) xs (point_of s.insts.items)) t (left declared C T a))
      (sym count);
  fresh = none-fresh (length t.insts.items) part.freshened.items f;
  stepped = step;
}

pub ran-freshly : (q r : PlainProcs) (s u t : State) (declared : ℕ → List Declared) (op : Builtin) (zs : List ℕ) (ts : List (ℕ × ℕ)) (part : Part)
    → LaterByTrail q q s u → LaterByTrail q r u t → Leaves q r (modes_of op) zs (point_of s.insts.items) t → length t.insts.items ≡ length s.insts.items + length ts
    → nodes (map plain_node part.goals.items) ≡ freshly_goals s t (apply_of op zs) ts → part.reachable ≡ true → part.freshened.items ≡ zs → NumbersBelow (length t.insts.items) zs
    → Ran (λ C T. applied_freshly (of_nodes C) (source_of q) declared T op zs ts (length s.insts.items) (point_of s.insts.items)) q r s t part
ran-freshly q r s u t declared op zs ts part first step left count g e f there = record {
  outcome = λ C T a.
      runs-freshly part s t (apply_of op zs) ts
      (after (of_nodes C) (source_of q) declared T (modes_of op) zs (point_of s.insts.items))
      (length s.insts.items + length ts) zs g e f (left declared C T a) (sym count);
  fresh = subst (NumbersBelow (length t.insts.items)) (sym f) there;
  stepped = stepped-trans q q r s u t first step;
}

module _ (q : PlainProcs) (s : State) (declared : ℕ → List Declared) (O : List ℕ) (st : StateInvariant q s) (p : ℕ) (op : Builtin) (xs : List ℕ)
    (is : ((source_of q).preds p).builtin ≡ Some op) where
  abbrev here : Point ℕ
  here = point_of s.insts.items

  abbrev count : ℕ
  count = length s.insts.items

  abbrev Dies : Bool → Type 0
  Dies t = list_any (λ z. nat_eq (here z) 3) xs ≡ t

  abbrev implied : List ℕ
  implied = implied_places 0 (modes_of op) xs (λ x. is_bound (here x))

  abbrev by_usable : (C : NodeOracle) (T : ℕ → TypeTerm) → Bool → Arranged ℕ
  by_usable C T t =
      if t then applied_with (of_nodes C) (source_of q) declared T implied op xs count here
      else wait (of_nodes C) (source_of q) declared T xs here

  applied-is : (C : NodeOracle) (T : ℕ → TypeTerm) → OracleAgrees q s C T → Dies false → tried declared (F.Call p xs) O q s C T ≡ applied (of_nodes C) (source_of q) declared T op xs count here
  applied-is C T a h =
      atom-runs q s declared st C T a xs (call_of (of_nodes C) (source_of q) declared T ((source_of q).preds p).builtin p xs count here) h
      ∙ ap (λ o. call_of (of_nodes C) (source_of q) declared T o p xs count here) is

  pub builtin-dead : (f : Failed) → IsWaiting xs here f → Dies true → Answers (tried declared (F.Call p xs) O q s) q q s s (Err f)
  builtin-dead f w h =
      waits-broke q s declared st (tried declared (F.Call p xs) O q s) xs f w
      (λ C T a. atom-waits q s declared st C T a xs (call_of (of_nodes C) (source_of q) declared T ((source_of q).preds p).builtin p xs count here) h)

  waits-later : (r : PlainProcs) (f : Failed) → IsWaiting xs here f → LaterByTrail q r s s
      → ((C : NodeOracle) (T : ℕ → TypeTerm) → OracleAgrees r s C T → tried declared (F.Call p xs) O q s C T ≡ wait (of_nodes C) (source_of q) declared T xs here)
      → Answers (tried declared (F.Call p xs) O q s) q r s s (Err f)
  waits-later r (E.Fault f) w step e = record {
    outcome = λ C T a. e C T a ∙ ap breaks (sym w);
    same = same-refl s;
    moved = step.moved;
  }
  waits-later r E.Memory w step e = tt

  abbrev Usable : PlainProcs → Bool → Type 0
  Usable r t = (C : NodeOracle) (T : ℕ → TypeTerm) → OracleAgrees r s C T → usable (of_nodes C) (source_of q) declared T xs (modes_of op) xs here ≡ t

  pub builtin-waits : (r : PlainProcs) (f : Failed) → IsWaiting xs here f → Dies false → LaterByTrail q r s s → Usable r false → Answers (tried declared (F.Call p xs) O q s) q r s s (Err f)
  builtin-waits r f w h step u =
      waits-later r f w step
      (λ C T a. applied-is C T (agrees-before q r s s C T st step.moved a) h ∙ ap (by_usable C T) (u C T a))

  pub builtin-runs : (r v : PlainProcs) (t : State) (part : Part) → Dies false → LaterByTrail q r s s → Usable r true
      → Ran (λ C T. applied_with (of_nodes C) (source_of r) declared T implied op xs count here) r v s t part
      → Answers (tried declared (F.Call p xs) O q s) q v s t (Ok part)
  builtin-runs r v t part h step u ran = record {
    outcome = λ C T a.
        let b = agrees-before r v s t C T step.moved.stands ran.stepped.moved a in
        applied-is C T (agrees-before q r s s C T st step.moved b) h
        ∙ (ap (by_usable C T) (u C T b)
        ∙ (ap (λ P. applied_with (of_nodes C) P declared T implied op xs count here) (sym (ap source_of step.moved.nodes.others)) ∙ ran.outcome C T a));
    fresh = ran.fresh;
    stepped = stepped-trans q r v s s t step ran.stepped;
  }

-- by whether outputs are implied
module _ (q r : PlainProcs) (s t : State) (declared : ℕ → List Declared) (op : Builtin) (xs : List ℕ) (part : Part) where
  abbrev before : Point ℕ
  before = point_of s.insts.items

  abbrev next : ℕ
  next = length s.insts.items

  abbrev with_implied : List ℕ → Outcome
  with_implied js = λ C T. applied_with (of_nodes C) (source_of q) declared T js op xs next before

  pub ran-none : (js : List ℕ) → js ≡ [] → Ran (λ C T. applied_to (of_nodes C) (source_of q) declared T op xs next before) q r s t part → Ran (with_implied js) q r s t part
  ran-none js e ran = record {
    outcome = λ C T a. ap (λ ks. with_implied ks C T) e ∙ ran.outcome C T a;
    fresh = ran.fresh;
    stepped = ran.stepped;
  }

  some-is : (C : NodeOracle) (T : ℕ → TypeTerm) (js : List ℕ) → (js ≡ [] → ⊥)
      → with_implied js C T ≡ applied_freshly (of_nodes C) (source_of q) declared T op (fresh_at 0 js xs next) (tests_at 0 js xs next) next before
  some-is C T [] h = absurd (h refl)
  some-is C T (j ∷ js) h = refl

  pub ran-some : (js is : List ℕ) → js ≡ is → (js ≡ [] → ⊥)
      → Ran (λ C T. applied_freshly (of_nodes C) (source_of q) declared T op (fresh_at 0 js xs next) (tests_at 0 js xs next) next before) q r s t part
      → Ran (with_implied is) q r s t part
  ran-some js is e h ran = record {
    outcome = λ C T a. ap (λ ks. with_implied ks C T) (sym e) ∙ (some-is C T js h ∙ ran.outcome C T a);
    fresh = ran.fresh;
    stepped = ran.stepped;
  }
