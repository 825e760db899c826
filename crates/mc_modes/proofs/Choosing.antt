-- Parts of an if-then-else, and the whole.
use Rattle.std.proofs.Common.{◌≡◌, ◌∙◌, ℕ, Bool, true, false, not, nat_eq, List, [], ◌∷◌, ◌++◌, length, Option, Some, None, Result, Ok, Err, OnOk, refl, sym, ap, ap₂, subst, arith, append-nil}
use Rattle.mc_program.specs.Programs.{TypeTerm, Source}
use Rattle.mc_model.specs.Flat as F
use Rattle.mc_model.specs.Flat.{Flat_goal, variables_of}
use Rattle.mc_model.specs.Scheduled.{Scheduled, Node, Conj, Ite, Nodes, no_nodes, node_then}
use Rattle.mc_model.specs.PlainGoals.{plain_node}
use Rattle.mc_model.specs.declared.inst.Sig.{Sig}
use Rattle.mc_model.specs.declared.sched.GoalNode.{GoalNode}
use Rattle.mc_accepted.specs.Arranged.{Point, Declared, Arranged, runs, breaks, negated_binds, all_run, no_branch, one, alone, two_goals, binds, branched, and_branches, with_branch, with_end, conditional, trial}
use Rattle.mc_accepted.specs.NodeOracle.{NodeOracle, of_nodes}
use Rattle.mc_accepted.specs.Unmarked.{unmarked}
use Rattle.mc_procs.specs.Named.{NumbersBelow}
use Rattle.mc_procs.specs.Procedures.{PlainProcs, source_of}
use Rattle.mc_mode_state.specs.States.{point_of}
use Rattle.mc_mode_state.specs.Agreeing.{StateInvariant, LaterByTrail}
use Rattle.mc_mode_state.specs.Answers.{plain_fault, end_of}
use Rattle.mc_mode_state.specs.Merged.{rows_at}
use Rattle.mc_mode_state.specs.declared.state.State.{State}
use Rattle.mc_mode_state.specs.declared.part.Part.{Part}
use Rattle.mc_mode_state.specs.declared.fault.ModeFault.{ModeFault}
use Rattle.mc_mode_state.specs.declared.fault.Failed.{Failed}
use Rattle.mc_mode_state.specs.declared.fault.Failed.TheVariants as E
use Rattle.mc_mode_state.proofs.Steps.{stepped-refl, stepped-trans}
use Rattle.mc_modes.specs.Signatures.{declared_in}
use Rattle.mc_modes.specs.Tries.{AgreesOnClause, OutsideKnown, attempt_of, tells_outside, FailsWithTrail, AttemptPost}
use Rattle.mc_modes.specs.code.Parts.{GoesFrom, trying_beside, then_try, then_at, IsBranch, IsCondition, IsBegun, BreaksBefore, MergedAs, outer_of, condition_does, then_does}
use Rattle.mc_modes.specs.declared.ending.Condition.{Condition}
use Rattle.mc_modes.specs.declared.ending.Begun.{Begun}
use Rattle.mc_modes.proofs.Closing.{Back, back-step, back-suits}
use Rattle.mc_modes.proofs.Counts.{below-first, below-second}
use Rattle.mc_modes.proofs.Merging.{leaves}
use Rattle.mc_modes.proofs.Passing.{same-source}
use Rattle.mc_modes.proofs.Ways.{suits-before}

-- a then part that is never run
pub nothing-branch : (told : OutsideKnown) (vs : List ℕ) (sigs : List Sig) (h : Flat_goal) (seen : List ℕ) (q : PlainProcs) (s : State) (es : List (List ℕ)) (g : GoalNode) → StateInvariant q s
    → plain_node g ≡ unmarked (Conj no_nodes) → IsBranch told (then_try false vs sigs h q s) seen q q s s es es g
nothing-branch told vs sigs h seen q s es g st e = record {
  goals = node_then (unmarked (Conj no_nodes)) no_nodes;
  fresh = [];
  end = None;
  outcome = λ first O C T k v. refl;
  goal = λ C. e;
  ends = record { rows = sym (append-nil es); fit = tt };
  point = refl;
  stepped = stepped-refl q s st;
}

conditional-runs : (C : NodeOracle) (P : Source) (declared : ℕ → List Declared) (T : ℕ → TypeTerm) (ws xs own O : List ℕ) (b from : Point ℕ) (gs : Nodes) (o : Option (Point ℕ)) (n : ℕ) (zs : List ℕ) (t : ℕ → Point ℕ → Arranged ℕ) (e : ℕ → Arranged ℕ)
    → GoesFrom o from
    → conditional (of_nodes C) P declared T ws xs own O b (runs gs o n zs) t e
    ≡ branched (of_nodes C) P declared T (binds (of_nodes C) P declared T xs b o) (two_goals (Ite ws (alone (of_nodes C) n b o gs))) own O b
    (and_branches (of_nodes C) from (then_at o n t) (λ m. and_branches (of_nodes C) b (e m) no_branch))
conditional-runs C P declared T ws xs own O b from gs None n zs t e f = refl
conditional-runs C P declared T ws xs own O b from gs (Some c) n zs t e f =
    ap (λ k. branched (of_nodes C) P declared T (binds (of_nodes C) P declared T xs b (Some c)) (two_goals (Ite ws (alone (of_nodes C) n b (Some c) gs))) own O b
    (and_branches (of_nodes C) k (t n c) (λ m. and_branches (of_nodes C) b (e m) no_branch))) f

goes-from : (reachable : Bool) (u : State) → GoesFrom (end_of reachable u) (point_of u.insts.items)
goes-from true u = refl
goes-from false u = tt

module _ (vs : List ℕ) (g h : Flat_goal) (sigs : List Sig) (q : PlainProcs) (s : State) where
  abbrev both : OutsideKnown
  both = tells_outside (variables_of g ++ variables_of h) s

  of-condition : (first : ℕ) (O : List ℕ) → both first O → tells_outside (variables_of g) s first O
  of-condition first O w = (w.0, below-first first (variables_of g) (variables_of h) w.1, w.2)

  of-then : (p : PlainProcs) (u : State) → LaterByTrail q p s u → (first : ℕ) (O : List ℕ) → both first O → tells_outside (variables_of h) u first O
  of-then p u step first O w = (
    let a = w.0 in let b = step.later.more in omega arith,
    below-second first (variables_of g) (variables_of h) w.1,
    λ x. w.2 x ∙ ap not-zero (sym (step.later.outside x)),
  )
    where
      not-zero : ℕ → Bool
      not-zero k = not (nat_eq k 0)

  -- the condition breaks a rule
  pub test-breaks : (r : PlainProcs) (t : State) (f : ModeFault) → FailsWithTrail (tells_outside (variables_of g) s) (trying_beside (outer_of vs g h sigs q s ++ variables_of h) sigs g q s) q r s t f
      → BreaksBefore vs g h sigs q s r t f
  test-breaks r t f d = record {
    outcome = λ first O C T w z own e.
        ap (λ a. conditional (of_nodes C) (source_of q) (declared_in sigs) T vs (outer_of vs g h sigs q s) own O (point_of s.insts.items) a (then_does vs g h sigs q s O C T) e)
        (d.outcome first O C T (of-condition first O w) z);
    stepped = d.stepped;
  }

  module _ (p : PlainProcs) (u : State) (c : Condition)
      (d : IsCondition (tells_outside (variables_of g) s) (trying_beside (outer_of vs g h sigs q s ++ variables_of h) sigs g q s) (outer_of vs g h sigs q s) q p s u c) where
    then-is : (O : List ℕ) (C : NodeOracle) (T : ℕ → TypeTerm)
        → then_at (end_of c.reachable u) (length u.insts.items) (then_does vs g h sigs q s O C T) ≡ then_try c.reachable (variables_of g) sigs h p u O C T
    then-is O C T = ap (λ P. then_at (end_of c.reachable u) (length u.insts.items) (λ n b. trial (of_nodes C) P (declared_in sigs) T h (O ++ variables_of g) n b)) (sym (same-source q p s u d.stepped.moved))

    condition-later : (r : PlainProcs) (t : State) → StateInvariant p u → LaterByTrail p r u t → (first : ℕ) (O : List ℕ) (C : NodeOracle) (T : ℕ → TypeTerm) → both first O → AgreesOnClause first r t C T
        → condition_does vs g h sigs q s O C T ≡ runs d.goals (end_of c.reachable u) (length u.insts.items) d.fresh
    condition-later r t st step first O C T w z = d.outcome first O C T (of-condition first O w) (suits-before first C p r u t T st step.moved z)

    -- the then part breaks one
    pub then-breaks : (r : PlainProcs) (t : State) (f : ModeFault) → StateInvariant p u → FailsWithTrail (tells_outside (variables_of h) u) (then_try c.reachable (variables_of g) sigs h p u) p r u t f
        → BreaksBefore vs g h sigs q s r t f
    then-breaks r t f st b = record {
      outcome = λ first O C T w z own e.
          ap (λ a. conditional (of_nodes C) (source_of q) (declared_in sigs) T vs (outer_of vs g h sigs q s) own O (point_of s.insts.items) a (then_does vs g h sigs q s O C T) e)
          (condition-later r t st b.stepped first O C T w z)
          ∙ (conditional-runs C (source_of q) (declared_in sigs) T vs (outer_of vs g h sigs q s) own O (point_of s.insts.items) (point_of u.insts.items) d.goals (end_of c.reachable u) (length u.insts.items) d.fresh (then_does vs g h sigs q s O C T) e
          (goes-from c.reachable u)
          ∙ ap (λ a. branched (of_nodes C) (source_of q) (declared_in sigs) T (binds (of_nodes C) (source_of q) (declared_in sigs) T (outer_of vs g h sigs q s) (point_of s.insts.items) (end_of c.reachable u))
          (two_goals (Ite vs (alone (of_nodes C) (length u.insts.items) (point_of s.insts.items) (end_of c.reachable u) d.goals))) own O (point_of s.insts.items)
          (and_branches (of_nodes C) (point_of u.insts.items) a (λ m. and_branches (of_nodes C) (point_of s.insts.items) (e m) no_branch)))
          (then-is O C T ∙ b.outcome first O C T (of-then p u d.stepped first O w) z));
      stepped = stepped-trans q p r s u t d.stepped b.stepped;
    }

    -- both run
    pub begins : (seen : List ℕ) (r : PlainProcs) (t v : State) (es fs : List (List ℕ)) (node : GoalNode) (b : Begun) → StateInvariant q s → StateInvariant p u
        → (k : IsBranch (tells_outside (variables_of h) u) (then_try c.reachable (variables_of g) sigs h p u) seen p r u t es fs node) → Back s t v
        → b.condition ≡ c.goal → b.bound ≡ c.bound → b.then_part ≡ node → IsBegun vs g h sigs q s seen r v es fs b
    begins seen r t v es fs node b sq st k back e₁ e₂ e₃ = record {
      goals = d.goals;
      fresh = d.fresh;
      middle = end_of c.reachable u;
      from = point_of u.insts.items;
      next = length u.insts.items;
      then_goals = k.goals;
      then_fresh = k.fresh;
      end = k.end;
      condition = λ first O C T w z. condition-later r t st k.stepped first O C T w (back-suits first r s t v C T back z);
      then_part = λ first O C T w z.
          then-is O C T
          ∙ (k.outcome first O C T (of-then p u d.stepped first O w) (back-suits first r s t v C T back z)
          ∙ ap (λ n. runs k.goals k.end n k.fresh) (sym back.count));
      goes_from = goes-from c.reachable u;
      condition_goal = λ C. ap plain_node e₁ ∙ d.goal C;
      then_goal = λ C.
          ap plain_node e₃
          ∙ (k.goal C ∙ ap (λ n. alone (of_nodes C) n (point_of u.insts.items) k.end k.goals) (sym back.count));
      bound = λ C P declared T. d.bound C P declared T ∙ sym e₂;
      ends = k.ends;
      point = back.point;
      stepped = back-step q r s t v sq (stepped-trans q p r s u t d.stepped k.stepped) back;
    }

module _ (vs : List ℕ) (g h k : Flat_goal) (sigs : List Sig) (q : PlainProcs) (s : State) where
  abbrev goal : Flat_goal
  goal = F.If vs g h k

  abbrev own : List ℕ
  own = variables_of goal

  abbrev outer : List ℕ
  outer = outer_of vs g h sigs q s

  of-parts : (first : ℕ) (O : List ℕ) → tells_outside own s first O → tells_outside (variables_of g ++ variables_of h) s first O
  of-parts first O w = (w.0, joined (variables_of g) (below-second first vs (variables_of g ++ (variables_of h ++ variables_of k)) w.1), w.2)
    where
      joined : (xs : List ℕ) → NumbersBelow first (xs ++ (variables_of h ++ variables_of k)) → NumbersBelow first (xs ++ variables_of h)
      joined [] w = below-first first (variables_of h) (variables_of k) w
      joined (x ∷ xs) w = (w.0, joined xs w.1)

  of-else : (r : PlainProcs) (t : State) → LaterByTrail q r s t → (first : ℕ) (O : List ℕ) → tells_outside own s first O → tells_outside (variables_of k) t first O
  of-else r t step first O w = (
    let a = w.0 in let b = step.later.more in omega arith,
    below-second first (variables_of h) (variables_of k) (below-second first (variables_of g) (variables_of h ++ variables_of k) (below-second first vs (variables_of g ++ (variables_of h ++ variables_of k)) w.1)),
    λ x. w.2 x ∙ ap not-zero (sym (step.later.outside x)),
  )
    where
      not-zero : ℕ → Bool
      not-zero j = not (nat_eq j 0)

  -- the condition or the then part breaks a rule
  pub choice-fails : (r : PlainProcs) (t : State) (f : ModeFault) → BreaksBefore vs g h sigs q s r t f → FailsWithTrail (tells_outside own s) (attempt_of sigs goal q s) q r s t f
  choice-fails r t f d = record {
    outcome = λ first O C T w z. d.outcome first O C T (of-parts first O w) z own (λ m. trial (of_nodes C) (source_of q) (declared_in sigs) T k O m (point_of s.insts.items));
    stepped = d.stepped;
  }

  module _ (seen : List ℕ) (r : PlainProcs) (t : State) (fs : List (List ℕ)) (b : Begun) (d : IsBegun vs g h sigs q s seen r t [] fs b) (st : StateInvariant r t) where
    else-is : (O : List ℕ) (C : NodeOracle) (T : ℕ → TypeTerm) → trial (of_nodes C) (source_of q) (declared_in sigs) T k O (length t.insts.items) (point_of s.insts.items) ≡ trying_beside [] sigs k r t O C T
    else-is O C T =
        ap₂ (λ (P : Source) (c : Point ℕ). trial (of_nodes C) P (declared_in sigs) T k O (length t.insts.items) c) (sym (same-source q r s t d.stepped.moved)) (sym d.point)
        ∙ ap (λ V. trial (of_nodes C) (source_of r) (declared_in sigs) T k V (length t.insts.items) (point_of t.insts.items)) (sym (append-nil O))

    abbrev condition_node : NodeOracle → Node
    condition_node C = alone (of_nodes C) d.next (point_of s.insts.items) d.middle d.goals

    abbrev then_node : NodeOracle → Node
    then_node C = alone (of_nodes C) (length t.insts.items) d.from d.end d.then_goals

    -- the whole, by what the else part does
    choice-is : (first : ℕ) (O : List ℕ) (C : NodeOracle) (T : ℕ → TypeTerm) (x : Arranged ℕ) → tells_outside own s first O → AgreesOnClause first r t C T → trying_beside [] sigs k r t O C T ≡ x
        → attempt_of sigs goal q s O C T
        ≡ branched (of_nodes C) (source_of q) (declared_in sigs) T b.bound (two_goals (Ite vs (condition_node C))) own O (point_of s.insts.items)
        (with_branch (then_node C) d.end (and_branches (of_nodes C) (point_of s.insts.items) x no_branch))
    choice-is first O C T x w z e =
        let P = source_of q in
        let D = declared_in sigs in
        let here = point_of s.insts.items in
        let else_part : ℕ → Arranged ℕ = λ m. trial (of_nodes C) P D T k O m here in
        ap (λ a. conditional (of_nodes C) P D T vs outer own O here a (then_does vs g h sigs q s O C T) else_part) (d.condition first O C T (of-parts first O w) z)
        ∙ (conditional-runs C P D T vs outer own O here d.from d.goals d.middle d.next d.fresh (then_does vs g h sigs q s O C T) else_part d.goes_from
        ∙ (ap₂ (λ v a. branched (of_nodes C) P D T v (two_goals (Ite vs (condition_node C))) own O here (and_branches (of_nodes C) d.from a (λ m. and_branches (of_nodes C) here (else_part m) no_branch)))
        (d.bound C P D T) (d.then_part first O C T (of-parts first O w) z)
        ∙ ap (λ a. branched (of_nodes C) P D T b.bound (two_goals (Ite vs (condition_node C))) own O here (with_branch (then_node C) d.end (and_branches (of_nodes C) here a no_branch))) (else-is O C T ∙ e)))

    -- the else part breaks a rule
    pub else-fails : (p : PlainProcs) (u : State) (f : ModeFault) → FailsWithTrail (tells_outside (variables_of k) t) (trying_beside [] sigs k r t) r p t u f → FailsWithTrail (tells_outside own s) (attempt_of sigs goal q s) q p s u f
    else-fails p u f a = record {
      outcome = λ first O C T w z. choice-is first O C T (breaks (plain_fault f)) w (suits-before first C r p t u T st a.stepped.moved z) (a.outcome first O C T (of-else r t d.stepped first O w) z);
      stepped = stepped-trans q r p s t u d.stepped a.stepped;
    }

    module _ (p : PlainProcs) (u : State) (rows : List (List ℕ)) (node : GoalNode) (a : IsBranch (tells_outside (variables_of k) t) (trying_beside [] sigs k r t) seen r p t u fs rows node) (su : StateInvariant p u) where
      abbrev reached : List (Point ℕ)
      reached = with_end d.end (with_end a.end [])

      rows-are : rows ≡ rows_at seen reached
      rows-are = a.ends.rows ∙ (ap (λ es. es ++ rows_at seen (with_end a.end [])) d.ends.rows ∙ at d.end)
        where
          at : (o : Option (Point ℕ)) → rows_at seen (with_end o []) ++ rows_at seen (with_end a.end []) ≡ rows_at seen (with_end o (with_end a.end []))
          at None = refl
          at (Some c) = refl

      abbrev whole : Scheduled
      whole = Ite vs (plain_node b.condition) (plain_node b.then_part) (plain_node node)

      -- the else part goes from where the whole does
      abbrev else_node : NodeOracle → Node
      else_node C = alone (of_nodes C) (length u.insts.items) (point_of s.insts.items) a.end a.goals

      else-node-is : (C : NodeOracle) → else_node C ≡ plain_node node
      else-node-is C = ap (λ c. alone (of_nodes C) (length u.insts.items) c a.end a.goals) (sym d.point) ∙ sym (a.goal C)

      whole-is : (C : NodeOracle) → Ite vs (condition_node C) (then_node C) (else_node C) ≡ whole
      whole-is C =
          ap (λ n. Ite vs n (then_node C) (else_node C)) (sym (d.condition_goal C))
          ∙ ap₂ (Ite vs (plain_node b.condition)) (sym (d.then_goal C)) (else-node-is C)

      abbrev both_nodes : NodeOracle → Nodes
      both_nodes C = node_then (then_node C) (node_then (else_node C) no_nodes)

      chosen-is : (first : ℕ) (O : List ℕ) (C : NodeOracle) (T : ℕ → TypeTerm) → tells_outside own s first O → AgreesOnClause first p u C T
          → attempt_of sigs goal q s O C T
          ≡ branched (of_nodes C) (source_of q) (declared_in sigs) T b.bound (two_goals (Ite vs (condition_node C))) own O (point_of s.insts.items)
          (all_run (both_nodes C) reached (length u.insts.items))
      chosen-is first O C T w z =
          choice-is first O C T (runs a.goals a.end (length u.insts.items) a.fresh) w (suits-before first C r p t u T st a.stepped.moved z) (a.outcome first O C T (of-else r t d.stepped first O w) z)

      step : LaterByTrail q p s u
      step = stepped-trans q r p s t u d.stepped a.stepped

      -- the condition binds a variable
      pub choice-binds : (x : ℕ) (f : ModeFault) → b.bound ≡ Some x → plain_fault f ≡ negated_binds x → FailsWithTrail (tells_outside own s) (attempt_of sigs goal q s) q p s u f
      choice-binds x f e i = record {
        outcome = λ first O C T w z.
            chosen-is first O C T w z
            ∙ (ap (λ o. branched (of_nodes C) (source_of q) (declared_in sigs) T o (two_goals (Ite vs (condition_node C))) own O (point_of s.insts.items)
            (all_run (both_nodes C) reached (length u.insts.items))) e
            ∙ ap (λ m. let y : Arranged ℕ = breaks m in y) (sym i));
        stepped = step;
      }

      -- the ends are merged
      pub choice-goes : (m : PlainProcs) (v : State) (res : Result Part Failed) → b.bound ≡ None → point_of u.insts.items ≡ point_of t.insts.items → OnOk res (length v.insts.items ≡ length u.insts.items)
          → MergedAs whole own seen rows p m u v res → AttemptPost (tells_outside own s) (attempt_of sigs goal q s) q m s v res
      choice-goes m v (Ok part) e point count x = record {
        outcome = λ first O C T w z.
            chosen-is first O C T w (suits-before first C p m u v T su x.0.1.moved z)
            ∙ (ap (λ o. branched (of_nodes C) (source_of q) (declared_in sigs) T o (two_goals (Ite vs (condition_node C))) own O (point_of s.insts.items)
            (all_run (both_nodes C) reached (length u.insts.items))) e
            ∙ (leaves sigs (two_goals (Ite vs (condition_node C))) own seen rows q p m s u v (λ D f gs n. one (of_nodes D) (point_of u.insts.items) (f gs) (end_of part.reachable v) n) step.moved (point ∙ d.point) step.later.outside x.0.0 reached rows-are
            (both_nodes C) (length u.insts.items) first O C T w z
            ∙ (ap₂ (λ i n. one (of_nodes C) (point_of u.insts.items) i (end_of part.reachable v) n) (whole-is C) (sym count)
            ∙ ap₂ (λ gs zs. runs gs (end_of part.reachable v) (length v.insts.items) zs) (sym x.1.goals) (sym x.1.freshened))));
        fresh = subst (NumbersBelow (length v.insts.items)) (sym x.1.freshened) tt;
        stepped = stepped-trans q p m s u v step x.0.1;
      }
      choice-goes m v (Err (E.Fault f)) e point count x = record {
        outcome = λ first O C T w z.
            chosen-is first O C T w (suits-before first C p m u v T su x.1.moved z)
            ∙ (ap (λ o. branched (of_nodes C) (source_of q) (declared_in sigs) T o (two_goals (Ite vs (condition_node C))) own O (point_of s.insts.items)
            (all_run (both_nodes C) reached (length u.insts.items))) e
            ∙ leaves sigs (two_goals (Ite vs (condition_node C))) own seen rows q p m s u v (λ D wrap gs n. breaks (plain_fault f)) step.moved (point ∙ d.point) step.later.outside x.0 reached rows-are
            (both_nodes C) (length u.insts.items) first O C T w z);
        stepped = stepped-trans q p m s u v step x.1;
      }
      choice-goes m v (Err E.Memory) e point count x = tt
