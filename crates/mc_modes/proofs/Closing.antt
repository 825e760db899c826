-- Negations, branches and conditions, from what their goals do.
use Rattle.std.proofs.Common.{◌≡◌, ◌∙◌, ℕ, suc, ◌<◌, Bool, true, false, if◌then◌else◌, List, [], ◌∷◌, ◌++◌, map, length, get_or, Option, Some, None, refl, sym, ap, ap₂, subst, append-nil}
use Rattle.mc_program.specs.Programs.{TypeTerm, Source}
use Rattle.mc_model.specs.Flat as F
use Rattle.mc_model.specs.Flat.{Flat_goal, variables_of, free_in}
use Rattle.mc_model.specs.Scheduled.{Scheduled, Node, Not, nodes}
use Rattle.mc_model.specs.PlainGoals.{plain_node}
use Rattle.mc_model.specs.declared.inst.Sig.{Sig}
use Rattle.mc_model.specs.declared.sched.GoalNode.{GoalNode}
use Rattle.mc_accepted.specs.Arranged.{Point, Declared, Arranged, runs, negated_binds, one, alone, negation, unless, binds, with_end}
use Rattle.mc_accepted.specs.NodeOracle.{NodeOracle, of_nodes}
use Rattle.mc_insts.specs.Graphs.{count_of}
use Rattle.mc_procs.specs.Named.{NumbersBelow}
use Rattle.mc_procs.specs.Procedures.{PlainProcs, source_of}
use Rattle.mc_mode_state.specs.States.{point_of}
use Rattle.mc_mode_state.specs.Agreeing.{StateInvariant, LaterByTrail}
use Rattle.mc_mode_state.specs.Answers.{end_of}
use Rattle.mc_mode_state.specs.declared.state.State.{State}
use Rattle.mc_mode_state.specs.declared.part.Part.{Part}
use Rattle.mc_mode_state.specs.declared.fault.ModeFault.{ModeFault}
use Rattle.mc_mode_state.specs.declared.fault.ModeFault.TheVariants as M
use Rattle.mc_mode_state.proofs.Returns.{stepped-back}
use Rattle.mc_modes.specs.Signatures.{declared_in}
use Rattle.mc_modes.specs.Tries.{AgreesOnClause, Attempt, OutsideKnown, attempt_of, tells_outside, Succeeds, FailsWithTrail}
use Rattle.mc_modes.specs.code.Parts.{IsOne, alone_at, trying_beside, Ends, IsBranch, IsCondition}
use Rattle.mc_modes.specs.declared.ending.Condition.{Condition}
use Rattle.mc_modes.proofs.Alike.{none_chosen}
use Rattle.mc_modes.proofs.Frames.{suits-out}

-- variables got back the insts of an earlier moment, and new variables stayed
pub record Back (s t u : State) : Type 0 where
  pub point : point_of u.insts.items ≡ point_of s.insts.items
  pub trail : u.trail.items ≡ s.trail.items
  pub count : length u.insts.items ≡ length t.insts.items
  pub outside : u.outside ≡ t.outside
  pub types : u.types ≡ t.types
  pub nodes : u.nodes ≡ t.nodes

pub back-step : (q r : PlainProcs) (s t u : State) → StateInvariant q s → LaterByTrail q r s t → Back s t u → LaterByTrail q r s u
back-step q r s t u st p b = stepped-back q r s t u st p b.point b.trail b.count b.outside b.types b.nodes

pub back-suits : (first : ℕ) (r : PlainProcs) (s t u : State) (C : NodeOracle) (T : ℕ → TypeTerm) → Back s t u → AgreesOnClause first r u C T → AgreesOnClause first r t C T
back-suits first r s t u C T b v = suits-out first r t u C T b.types b.nodes v

-- what a condition binds, over operations on nodes
abbrev pub BindsIs : List ℕ → Point ℕ → Option (Point ℕ) → Option ℕ → Type 0
BindsIs xs b o x = (C : NodeOracle) (P : Source) (declared : ℕ → List Declared) (T : ℕ → TypeTerm) → binds (of_nodes C) P declared T xs b o ≡ x

module _ (sigs : List Sig) (g : Flat_goal) (q r : PlainProcs) (s t : State) (p : Part)
    (d : Succeeds (tells_outside (variables_of g) s) (trying_beside (free_in g) sigs g q s) q r s t p) where
  -- the negation after it
  abbrev negated : NodeOracle → Arranged ℕ
  negated C = one (of_nodes C) (point_of s.insts.items) (Not (alone_at C t p (point_of s.insts.items))) (Some (point_of s.insts.items)) (length t.insts.items)

  -- the negated goal binds nothing
  pub negation-runs : (u : State) (w : Part) → StateInvariant q s → BindsIs (free_in g) (point_of s.insts.items) (end_of p.reachable t) None → Back s t u
      → ((C : NodeOracle) → IsOne (length u.insts.items) (point_of s.insts.items) (end_of true u) (Not (alone_at C t p (point_of s.insts.items))) w) → w.reachable ≡ true
      → Succeeds (tells_outside (variables_of g) s) (attempt_of sigs (F.Not g) q s) q r s u w
  negation-runs u w st none b i e = record {
    outcome = λ first O C T k v.
        let P = source_of q in
        ap (negation (of_nodes C) P (declared_in sigs) T (free_in g) (point_of s.insts.items)) (d.outcome first O C T k (back-suits first r s t u C T b v))
        ∙ (ap (λ x. unless x negated_binds (negated C)) (none C P (declared_in sigs) T)
        ∙ (ap₂ (λ c n. one (of_nodes C) (point_of s.insts.items) (Not (alone_at C t p (point_of s.insts.items))) (Some c) n) (sym b.point) (sym b.count)
        ∙ (ap (λ ns. runs ns (end_of true u) (length u.insts.items) []) (sym (i C).goals)
        ∙ ap₂ (λ t zs. runs (nodes (map plain_node w.goals.items)) (end_of t u) (length u.insts.items) zs) (sym e) (sym (i C).freshened))));
    fresh = subst (NumbersBelow (length u.insts.items)) (sym (i none_chosen).freshened) tt;
    stepped = back-step q r s t u st d.stepped b;
  }

  -- it binds a variable
  pub negation-binds : (x : ℕ) → BindsIs (free_in g) (point_of s.insts.items) (end_of p.reachable t) (Some x)
      → FailsWithTrail (tells_outside (variables_of g) s) (attempt_of sigs (F.Not g) q s) q r s t (M.NegatedBinds x)
  negation-binds x some = record {
    outcome = λ first O C T k v.
        let P = source_of q in
        ap (negation (of_nodes C) P (declared_in sigs) T (free_in g) (point_of s.insts.items)) (d.outcome first O C T k v)
        ∙ ap (λ x. unless x negated_binds (negated C)) (some C P (declared_in sigs) T);
    stepped = d.stepped;
  }

-- a part's goals as one, and a goal around it
pub around-as : (f : Node → Scheduled) (s v w : State) (o : Option (Point ℕ)) (C : NodeOracle) (p whole : Part) (goal : GoalNode) → plain_node goal ≡ alone_at C v p (point_of s.insts.items)
    → IsOne (length w.insts.items) (point_of s.insts.items) o (f (plain_node goal)) whole → IsOne (length w.insts.items) (point_of s.insts.items) o (f (alone_at C v p (point_of s.insts.items))) whole
around-as f s v w o C p whole goal e i = subst (λ (n : Node). IsOne (length w.insts.items) (point_of s.insts.items) o (f n) whole) e i

pub negation-fails : (sigs : List Sig) (g : Flat_goal) (q r : PlainProcs) (s t : State) (f : ModeFault)
    → FailsWithTrail (tells_outside (variables_of g) s) (trying_beside (free_in g) sigs g q s) q r s t f → FailsWithTrail (tells_outside (variables_of g) s) (attempt_of sigs (F.Not g) q s) q r s t f
negation-fails sigs g q r s t f d = record {
  outcome = λ first O C T k v. ap (negation (of_nodes C) (source_of q) (declared_in sigs) T (free_in g) (point_of s.insts.items)) (d.outcome first O C T k v);
  stepped = d.stepped;
}

-- insts at a reachable end
ends-at : (seen : List ℕ) (r : PlainProcs) (t : State) (reachable : Bool) (es fs : List (List ℕ)) → NumbersBelow (length t.insts.items) seen
    → ((x : ℕ) → get_or t.insts.items x 0 < count_of r.insts)
    → fs ≡ (if reachable then es ++ map (point_of t.insts.items) seen ∷ [] else es) → Ends seen r (with_end (end_of reachable t) []) es fs
ends-at seen r t true es fs w h e = record { rows = e; fit = (map-long seen, all-there seen, tt) }
  where
    map-long : (xs : List ℕ) → length (map (point_of t.insts.items) xs) ≡ length xs
    map-long [] = refl
    map-long (x ∷ xs) = ap (λ n. suc n) (map-long xs)

    all-there : (xs : List ℕ) → NumbersBelow (count_of r.insts) (map (point_of t.insts.items) xs)
    all-there [] = tt
    all-there (x ∷ xs) = (h x, all-there xs)
ends-at seen r t false es fs w h e = record { rows = e ∙ sym (append-nil es); fit = tt }

-- a branch that runs
pub branch-runs : (told : OutsideKnown) (a : Attempt) (seen : List ℕ) (q r : PlainProcs) (s t u : State) (es fs : List (List ℕ)) (p : Part) (g : GoalNode) → StateInvariant q s
    → NumbersBelow (length t.insts.items) seen → Succeeds told a q r s t p → Back s t u
    → ((C : NodeOracle) → plain_node g ≡ alone_at C t p (point_of s.insts.items))
    → fs ≡ (if p.reachable then es ++ map (point_of t.insts.items) seen ∷ [] else es)
    → IsBranch told a seen q r s u es fs g
branch-runs told a seen q r s t u es fs p g st w d b e f = record {
  goals = nodes (map plain_node p.goals.items);
  fresh = p.freshened.items;
  end = end_of p.reachable t;
  outcome = λ first O C T k v.
      d.outcome first O C T k (back-suits first r s t u C T b v)
      ∙ ap (λ n. runs (nodes (map plain_node p.goals.items)) (end_of p.reachable t) n p.freshened.items) (sym b.count);
  goal = λ C. e C ∙ ap (λ n. alone (of_nodes C) n (point_of s.insts.items) (end_of p.reachable t) (nodes (map plain_node p.goals.items))) (sym b.count);
  ends = ends-at seen r t p.reachable es fs w d.stepped.moved.stands.insts f;
  point = b.point;
  stepped = back-step q r s t u st d.stepped b;
}

-- a condition that runs
pub condition-runs : (told : OutsideKnown) (a : Attempt) (xs : List ℕ) (q r : PlainProcs) (s t : State) (p : Part) (c : Condition) → Succeeds told a q r s t p
    → ((C : NodeOracle) → plain_node c.goal ≡ alone_at C t p (point_of s.insts.items)) → c.reachable ≡ p.reachable
    → BindsIs xs (point_of s.insts.items) (end_of p.reachable t) c.bound → IsCondition told a xs q r s t c
condition-runs told a xs q r s t p c d g e b = record {
  goals = nodes (map plain_node p.goals.items);
  fresh = p.freshened.items;
  outcome = λ first O C T k v.
      d.outcome first O C T k v
      ∙ ap (λ t. runs (nodes (map plain_node p.goals.items)) (t-end t) (length-of t) p.freshened.items) (sym e);
  goal = λ C. g C ∙ ap (λ v. alone (of_nodes C) (length t.insts.items) (point_of s.insts.items) (end_of v t) (nodes (map plain_node p.goals.items))) (sym e);
  bound = λ C P declared T. ap (λ v. binds (of_nodes C) P declared T xs (point_of s.insts.items) (end_of v t)) e ∙ b C P declared T;
  stepped = d.stepped;
}
  where
    t-end : Bool → Option (Point ℕ)
    t-end v = end_of v t

    length-of : Bool → ℕ
    length-of v = length t.insts.items
