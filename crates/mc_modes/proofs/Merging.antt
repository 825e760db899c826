-- Goals whose branches are merged.
use Rattle.std.proofs.Common.{◌≡◌, ◌∙◌, ℕ, Bool, not, nat_eq, List, [], ◌∷◌, ◌++◌, map, length, get_or, None, Result, Ok, Err, OnOk, sym, ap, ap₂, subst, arith, append-nil}
use Rattle.mc_program.specs.Programs.{TypeTerm, Source}
use Rattle.mc_model.specs.Flat as F
use Rattle.mc_model.specs.Flat.{Flat_goal, flats, variables_of, variables_of_all}
use Rattle.mc_model.specs.Scheduled.{Scheduled, Disj, Node, Nodes, no_nodes, nodes, node_then}
use Rattle.mc_model.specs.PlainGoals.{plain_node}
use Rattle.mc_model.specs.declared.inst.Sig.{Sig}
use Rattle.mc_model.specs.declared.sched.GoalNode.{GoalNode}
use Rattle.mc_accepted.specs.Arranged.{Point, Arranged, runs, breaks, Branches, all_run, one_breaks, one, alone, branched, each_branch, and_branches, with_end, nodes_before, trial}
use Rattle.mc_accepted.specs.NodeOracle.{NodeOracle, of_nodes}
use Rattle.mc_procs.specs.Named.{NumbersBelow}
use Rattle.mc_procs.specs.Procedures.{PlainProcs, source_of}
use Rattle.mc_mode_state.specs.States.{point_of}
use Rattle.mc_mode_state.specs.Agreeing.{StateInvariant, StateExtends, LaterByTrail}
use Rattle.mc_mode_state.specs.Answers.{plain_fault, end_of}
use Rattle.mc_mode_state.specs.Merged.{rows_at, Leave}
use Rattle.mc_mode_state.specs.declared.state.State.{State}
use Rattle.mc_mode_state.specs.declared.part.Part.{Part}
use Rattle.mc_mode_state.specs.declared.fault.ModeFault.{ModeFault}
use Rattle.mc_mode_state.specs.declared.fault.Failed.{Failed}
use Rattle.mc_mode_state.specs.declared.fault.Failed.TheVariants as E
use Rattle.mc_mode_state.proofs.Steps.{stepped-trans}
use Rattle.mc_modes.specs.Signatures.{declared_in}
use Rattle.mc_modes.specs.Tries.{with_types, AgreesOnClause, attempt_of, tells_outside, FailsWithTrail, AttemptPost}
use Rattle.mc_modes.specs.code.Waiting.{all_waiting}
use Rattle.mc_modes.specs.code.Parts.{trying_beside, IsBranch, MergedAs}
use Rattle.mc_modes.proofs.Branching.{onto_branches, onto-one, before-none}
use Rattle.mc_modes.proofs.Locally.{branched-locally}
use Rattle.mc_modes.proofs.Passing.{same-source}
use Rattle.mc_modes.proofs.Turns.{trials-are}
use Rattle.mc_modes.proofs.Ways.{suits-before, first-types}

-- what branches leave, told from the beginning
pub leaves : (sigs : List Sig) (f : Nodes → Scheduled) (own seen : List ℕ) (rows : List (List ℕ)) (q r p : PlainProcs) (s t v : State) (left : NodeOracle → (Nodes → Scheduled) → Nodes → ℕ → Arranged ℕ)
    → StateExtends q r s t → point_of t.insts.items ≡ point_of s.insts.items → ((x : ℕ) → get_or t.outside.items x 0 ≡ get_or s.outside.items x 0)
    → Leave own seen rows r p t v left
    → (reached : List (Point ℕ)) → rows ≡ rows_at seen reached → (gs : Nodes) (n first : ℕ) (O : List ℕ) (C : NodeOracle) (T : ℕ → TypeTerm)
    → tells_outside own s first O → AgreesOnClause first p v C T
    → branched (of_nodes C) (source_of q) (declared_in sigs) T None f own O (point_of s.insts.items) (all_run gs reached n) ≡ left C f gs n
leaves sigs f own seen rows q r p s t v left m point outside l reached e gs n first O C T w z =
    branched-locally C (source_of q) (declared_in sigs) T (with_types first v T) first (first-types first C v T) None f own O (point_of s.insts.items) (all_run gs reached n) w.1
    ∙ (ap₂ (λ (P : Source) (b : Point ℕ). branched (of_nodes C) P (declared_in sigs) (with_types first v T) None f own O b (all_run gs reached n)) (sym (same-source q r s t m)) (sym point)
    ∙ l reached O (declared_in sigs) f gs n C (with_types first v T) e (λ x. w.2 x ∙ ap (λ k. outside-of k) (sym (outside x))) z.agrees)
  where
    outside-of : ℕ → Bool
    outside-of k = not (nat_eq k 0)

-- What is known of branches in order: these ran, to these reachable ends, and the others give the whole.
abbrev pub BranchesSoFar : List Sig → (own : List ℕ) → (all rest : List Flat_goal) → (done : Nodes) → (reached : List (Point ℕ)) → (q r : PlainProcs) → (s t : State) → Type 0
BranchesSoFar sigs own all rest done reached q r s t =
    (first : ℕ) (O : List ℕ) (C : NodeOracle) (T : ℕ → TypeTerm) → tells_outside own s first O → AgreesOnClause first r t C T
    → onto_branches done reached
    (each_branch (of_nodes C) (all_waiting (of_nodes C) (source_of q) (declared_in sigs) T rest) O (length t.insts.items) (point_of s.insts.items))
    ≡ each_branch (of_nodes C) (all_waiting (of_nodes C) (source_of q) (declared_in sigs) T all) O (length s.insts.items) (point_of s.insts.items)

module _ (sigs : List Sig) (own : List ℕ) (all rest : List Flat_goal) (g : Flat_goal) (done : Nodes) (reached : List (Point ℕ)) (q p : PlainProcs) (s u : State)
    (below : (n : ℕ) → NumbersBelow n own → NumbersBelow n (variables_of g))
    (st : StateInvariant p u) (step : LaterByTrail q p s u) (point : point_of u.insts.items ≡ point_of s.insts.items)
    (so : BranchesSoFar sigs own all (g ∷ rest) done reached q p s u) where
  tells-branch : (first : ℕ) (O : List ℕ) → tells_outside own s first O → tells_outside (variables_of g) u first O
  tells-branch first O w = (
    let a = w.0 in let b = step.later.more in omega arith,
    below first w.1,
    λ x. w.2 x ∙ ap (λ k. outside-of k) (sym (step.later.outside x)),
  )
    where
      outside-of : ℕ → Bool
      outside-of k = not (nat_eq k 0)

  branch-is : (O : List ℕ) (C : NodeOracle) (T : ℕ → TypeTerm) → trial (of_nodes C) (source_of q) (declared_in sigs) T g O (length u.insts.items) (point_of s.insts.items) ≡ trying_beside [] sigs g p u O C T
  branch-is O C T =
      ap₂ (λ (P : Source) (b : Point ℕ). trial (of_nodes C) P (declared_in sigs) T g O (length u.insts.items) b) (sym (same-source q p s u step.moved)) (sym point)
      ∙ ap (λ V. trial (of_nodes C) (source_of p) (declared_in sigs) T g V (length u.insts.items) (point_of u.insts.items)) (sym (append-nil O))

  -- one branch more runs
  pub branched-on : (seen : List ℕ) (r : PlainProcs) (t : State) (es fs : List (List ℕ)) (node : GoalNode)
      → (b : IsBranch (tells_outside (variables_of g) u) (trying_beside [] sigs g p u) seen p r u t es fs node)
      → BranchesSoFar sigs own all rest (nodes_before done (node_then (plain_node node) no_nodes)) (reached ++ with_end b.end []) q r s t
  branched-on seen r t es fs node b = λ first O C T w z.
      let W = all_waiting (of_nodes C) (source_of q) (declared_in sigs) T rest in
      let then_rest : ℕ → Branches ℕ = λ m. each_branch (of_nodes C) W O m (point_of s.insts.items) in
      let ran = branch-is O C T ∙ b.outcome first O C T (tells-branch first O w) z in
      let from : Point ℕ → Node = λ c. alone (of_nodes C) (length t.insts.items) c b.end b.goals in
      ap (λ k. onto_branches (nodes_before done (node_then k no_nodes)) (reached ++ with_end b.end []) (then_rest (length t.insts.items))) (b.goal C ∙ ap from point)
      ∙ (sym (onto-one done (from (point_of s.insts.items)) reached b.end (then_rest (length t.insts.items)))
      ∙ (ap (λ a. onto_branches done reached (and_branches (of_nodes C) (point_of s.insts.items) a then_rest)) (sym ran)
      ∙ so first O C T w (suits-before first C p r u t T st b.stepped.moved z)))

  -- it breaks a rule
  pub branch-breaks : (r : PlainProcs) (t : State) (f : ModeFault) → FailsWithTrail (tells_outside (variables_of g) u) (trying_beside [] sigs g p u) p r u t f
      → (first : ℕ) (O : List ℕ) (C : NodeOracle) (T : ℕ → TypeTerm) → tells_outside own s first O → AgreesOnClause first r t C T
      → each_branch (of_nodes C) (all_waiting (of_nodes C) (source_of q) (declared_in sigs) T all) O (length s.insts.items) (point_of s.insts.items) ≡ one_breaks (plain_fault f)
  branch-breaks r t f d first O C T w z =
      sym (so first O C T w (suits-before first C p r u t T st d.stepped.moved z))
      ∙ ap (λ a. onto_branches done reached (and_branches (of_nodes C) (point_of s.insts.items) a (λ m. each_branch (of_nodes C) (all_waiting (of_nodes C) (source_of q) (declared_in sigs) T rest) O m (point_of s.insts.items))))
      (branch-is O C T ∙ d.outcome first O C T (tells-branch first O w) z)

module _ (sigs : List Sig) (all : List Flat_goal) (q r : PlainProcs) (s t : State) where
  abbrev own_of : List ℕ
  own_of = variables_of_all (flats all)

  disjunction-is : (first : ℕ) (O : List ℕ) (C : NodeOracle) (T : ℕ → TypeTerm) (x : Branches ℕ)
      → each_branch (of_nodes C) (all_waiting (of_nodes C) (source_of q) (declared_in sigs) T all) O (length s.insts.items) (point_of s.insts.items) ≡ x
      → attempt_of sigs (F.Or (flats all)) q s O C T ≡ branched (of_nodes C) (source_of q) (declared_in sigs) T None Disj own_of O (point_of s.insts.items) x
  disjunction-is first O C T x e =
      ap (branched (of_nodes C) (source_of q) (declared_in sigs) T None Disj own_of O (point_of s.insts.items))
      (ap (λ ws. each_branch (of_nodes C) ws O (length s.insts.items) (point_of s.insts.items)) (trials-are (of_nodes C) (source_of q) (declared_in sigs) T all) ∙ e)

  -- a disjunct breaks a rule
  pub disjunction-fails : (f : ModeFault) → LaterByTrail q r s t
      → ((first : ℕ) (O : List ℕ) (C : NodeOracle) (T : ℕ → TypeTerm) → tells_outside own_of s first O → AgreesOnClause first r t C T
      → each_branch (of_nodes C) (all_waiting (of_nodes C) (source_of q) (declared_in sigs) T all) O (length s.insts.items) (point_of s.insts.items) ≡ one_breaks (plain_fault f))
      → FailsWithTrail (tells_outside own_of s) (attempt_of sigs (F.Or (flats all)) q s) q r s t f
  disjunction-fails f step e = record { outcome = λ first O C T w z. disjunction-is first O C T (one_breaks (plain_fault f)) (e first O C T w z); stepped = step }

  -- all disjuncts run
  pub disjunction-goes : (branches : List GoalNode) (reached : List (Point ℕ)) (seen : List ℕ) (rows : List (List ℕ)) (p : PlainProcs) (v : State) (res : Result Part Failed) → StateInvariant r t → LaterByTrail q r s t
      → point_of t.insts.items ≡ point_of s.insts.items → rows ≡ rows_at seen reached
      → OnOk res (length v.insts.items ≡ length t.insts.items)
      → BranchesSoFar sigs own_of all [] (nodes (map plain_node branches)) reached q r s t
      → MergedAs (Disj (nodes (map plain_node branches))) own_of seen rows r p t v res
      → AttemptPost (tells_outside own_of s) (attempt_of sigs (F.Or (flats all)) q s) q p s v res
  disjunction-goes branches reached seen rows p v (Ok part) st step point e count so d = record {
    outcome = λ first O C T w z.
        disjunction-is first O C T (all_run (nodes (map plain_node branches)) reached (length t.insts.items)) (ended first O C T w (suits-before first C r p t v T st d.0.1.moved z))
        ∙ (leaves sigs Disj own_of seen rows q r p s t v (λ D f gs n. one (of_nodes D) (point_of t.insts.items) (f gs) (end_of part.reachable v) n) step.moved point step.later.outside d.0.0 reached e (nodes (map plain_node branches)) (length t.insts.items) first O C T w z
        ∙ (ap (one (of_nodes C) (point_of t.insts.items) (Disj (nodes (map plain_node branches))) (end_of part.reachable v)) (sym count)
        ∙ ap₂ (λ gs zs. runs gs (end_of part.reachable v) (length v.insts.items) zs) (sym d.1.goals) (sym d.1.freshened)));
    fresh = subst (NumbersBelow (length v.insts.items)) (sym d.1.freshened) tt;
    stepped = stepped-trans q r p s t v step d.0.1;
  }
    where
      ended : (first : ℕ) (O : List ℕ) (C : NodeOracle) (T : ℕ → TypeTerm) → tells_outside own_of s first O → AgreesOnClause first r t C T
          → each_branch (of_nodes C) (all_waiting (of_nodes C) (source_of q) (declared_in sigs) T all) O (length s.insts.items) (point_of s.insts.items) ≡ all_run (nodes (map plain_node branches)) reached (length t.insts.items)
      ended first O C T w z =
          sym (so first O C T w z)
          ∙ ap₂ (λ gs (es : List (Point ℕ)). all_run gs es (length t.insts.items)) (before-none (nodes (map plain_node branches))) (append-nil reached)
  disjunction-goes branches reached seen rows p v (Err (E.Fault f)) st step point e count so d = record {
    outcome = λ first O C T w z.
        disjunction-is first O C T (all_run (nodes (map plain_node branches)) reached (length t.insts.items))
        (sym (so first O C T w (suits-before first C r p t v T st d.1.moved z)) ∙ ap₂ (λ gs (es : List (Point ℕ)). all_run gs es (length t.insts.items)) (before-none (nodes (map plain_node branches))) (append-nil reached))
        ∙ leaves sigs Disj own_of seen rows q r p s t v (λ D wrap gs n. breaks (plain_fault f)) step.moved point step.later.outside d.0 reached e (nodes (map plain_node branches)) (length t.insts.items) first O C T w z;
    stepped = stepped-trans q r p s t v step d.1;
  }
  disjunction-goes branches reached seen rows p v (Err E.Memory) st step point e count so d = tt
