-- What an if-then-else's parts ask and give.
use Rattle.std.proofs.Common.{◌≡◌, ◌∙◌, ℕ, Bool, not, nat_eq, List, [], ◌∷◌, ◌++◌, length, get_or, Option, Result, Err, IfOk, sym, ap, subst}
use Rattle.mc_program.specs.Programs.{TypeTerm}
use Rattle.mc_model.specs.Flat as F
use Rattle.mc_model.specs.Flat.{Flat_goal, variables_of}
use Rattle.mc_model.specs.Scheduled.{Scheduled, Ite}
use Rattle.mc_model.specs.PlainGoals.{plain_node}
use Rattle.mc_model.specs.declared.inst.Sig.{Sig}
use Rattle.mc_model.specs.declared.sched.GoalNode.{GoalNode}
use Rattle.mc_accepted.specs.Arranged.{with_end, ascending}
use Rattle.mc_accepted.specs.FreshTests.{TestsAlike}
use Rattle.mc_insts.specs.Graphs.{count_of}
use Rattle.mc_procs.specs.Named.{NumbersBelow}
use Rattle.mc_procs.specs.Procedures.{PlainProcs}
use Rattle.mc_mode_state.specs.States.{is_outside}
use Rattle.mc_mode_state.specs.Agreeing.{TypedAs}
use Rattle.mc_mode_state.specs.Answers.{FreshAlike}
use Rattle.mc_mode_state.specs.Merged.{RowsFit}
use Rattle.mc_mode_state.specs.declared.state.State.{State}
use Rattle.mc_mode_state.specs.declared.part.Part.{Part}
use Rattle.mc_mode_state.specs.declared.fault.Failed.{Failed}
use Rattle.mc_mode_state.proofs.EndColumns.{ascending-below}
use Rattle.mc_modes.specs.Fitting.{GoalFits}
use Rattle.mc_modes.specs.Tries.{OutsideKnown, Attempt, attempt_of, tells_outside, TryPost, AttemptPost}
use Rattle.mc_modes.specs.code.Alike.{NodeAlike}
use Rattle.mc_modes.specs.code.Parts.{trying_beside, DoesTest, IsBranch, IsBegun, ChosenAs}
use Rattle.mc_modes.specs.declared.ending.Begun.{Begun}
use Rattle.mc_modes.proofs.Alike.{Keeps, chosen-alike}
use Rattle.mc_modes.proofs.Branches.{ends-rows, ends-fit}
use Rattle.mc_modes.proofs.Counts.{below-first, below-second}
use Rattle.mc_modes.proofs.Failing.{failed-test}
use Rattle.mc_modes.proofs.Settling.{goes-told}

-- what fits the whole fits its parts
module _ (q : PlainProcs) (s : State) (vs : List ℕ) (g h k : Flat_goal) (f : GoalFits q s (F.If vs g h k)) where
  abbrev many : ℕ
  many = length s.insts.items

  parts : NumbersBelow many (variables_of g ++ (variables_of h ++ variables_of k))
  parts = below-second many vs (variables_of g ++ (variables_of h ++ variables_of k)) f.variables

  later : NumbersBelow many (variables_of h ++ variables_of k)
  later = below-second many (variables_of g) (variables_of h ++ variables_of k) parts

  pub condition-fits : GoalFits q s g
  condition-fits = record { variables = below-first many (variables_of g) (variables_of h ++ variables_of k) parts; known = f.known.0 }

  pub then-fits : GoalFits q s h
  then-fits = record { variables = below-first many (variables_of h) (variables_of k) later; known = f.known.1 }

  pub else-fits : GoalFits q s k
  else-fits = record { variables = below-second many (variables_of h) (variables_of k) later; known = f.known.2 }

-- the seen variables are there
pub seen-below : (n : ℕ) (s : State) (own vs seen : List ℕ) → own ≡ vs → NumbersBelow n vs → seen ≡ ascending (is_outside s.outside.items) own → NumbersBelow n seen
seen-below n s own vs seen e w d = subst (NumbersBelow n) (sym d) (ascending-below n (is_outside s.outside.items) own (subst (NumbersBelow n) (sym e) w))

-- they are the same where the same occurs outside
pub seen-same : (s u : State) (own vs seen : List ℕ) → own ≡ vs → ((x : ℕ) → get_or u.outside.items x 0 ≡ get_or s.outside.items x 0) → seen ≡ ascending (is_outside s.outside.items) own → seen ≡ ascending (is_outside u.outside.items) vs
seen-same s u own vs seen e same d =
    d
    ∙ (ap (ascending (is_outside s.outside.items)) e
    ∙ ap (λ (f : ℕ → Bool). ascending f vs) (λ i x. not (nat_eq (sym (same x) i) 0)))

-- tests in a condition and a then part
pub begun-alike : (g h : Flat_goal) (u t v : State) (c n : GoalNode) → Keeps u t → Keeps t v → NodeAlike (variables_of g) u c → NodeAlike (variables_of h) t n
    → (T : ℕ → TypeTerm) (next : ℕ) → TypedAs v T → NumbersBelow next (variables_of g ++ variables_of h) → TestsAlike T next (plain_node c) × TestsAlike T next (plain_node n)
begun-alike g h u t v c n k l a b T next y w =
    (a T next (k T (l T y)) (below-first next (variables_of g) (variables_of h) w), b T next (l T y) (below-second next (variables_of g) (variables_of h) w))

module _ (vs : List ℕ) (g h k : Flat_goal) (sigs : List Sig) (q : PlainProcs) (s : State) (seen : List ℕ) (r : PlainProcs) (t : State) (fs : List (List ℕ)) (b : Begun)
    (d : IsBegun vs g h sigs q s seen r t [] fs b) (told : OutsideKnown) (a : Attempt) (p : PlainProcs) (u : State) (rows : List (List ℕ)) (node : GoalNode)
    (e : IsBranch told a seen r p t u fs rows node) where
  -- the insts at the ends fit
  pub chosen-rows : RowsFit (length seen) (count_of p.insts) rows
  chosen-rows =
      subst (RowsFit (length seen) (count_of p.insts)) (sym (ends-rows seen r p (with_end d.end []) e.end fs rows d.ends.rows e.ends))
      (ends-fit seen r p (with_end d.end []) e.end fs rows d.ends.rows e.ends e.stepped.moved.nodes.grown.more d.ends.fit)

-- the same by other names
pub chosen-as : (v : Option ℕ) (g : Scheduled) (own vs seen : List ℕ) (rows es : List (List ℕ)) (q r : PlainProcs) (s t : State) (res : Result Part Failed) → own ≡ vs → rows ≡ es
    → ChosenAs v g own seen rows q r s t res → ChosenAs v g vs seen es q r s t res
chosen-as v g own vs seen rows es q r s t res e f d =
    subst (λ (l : List (List ℕ)). ChosenAs v g vs seen l q r s t res) f (subst (λ (l : List ℕ). ChosenAs v g l seen rows q r s t res) e d)

-- tests in the whole
pub ite-alike : (vs : List ℕ) (g h k : Flat_goal) (t u v : State) (b : Begun) (node : GoalNode) (own seen : List ℕ) (rows : List (List ℕ)) (q r : PlainProcs) (res : Result Part Failed)
    → ((T : ℕ → TypeTerm) (next : ℕ) → TypedAs t T → NumbersBelow next (variables_of g ++ variables_of h) → TestsAlike T next (plain_node b.condition) × TestsAlike T next (plain_node b.then_part))
    → NodeAlike (variables_of k) u node → Keeps t u
    → ChosenAs b.bound (Ite vs (plain_node b.condition) (plain_node b.then_part) (plain_node node)) own seen rows q r u v res → IfOk res (FreshAlike (F.If vs g h k) v)
ite-alike vs g h k t u v b node own seen rows q r res a n keeps d =
    chosen-alike b.bound (F.If vs g h k) (Ite vs (plain_node b.condition) (plain_node b.then_part) (plain_node node)) own seen rows q r u v res d
    (λ T next y w.
    let rest = below-second next vs (variables_of g ++ (variables_of h ++ variables_of k)) w in
    let both = a T next (keeps T y) (first-two next rest) in
    (both.0, both.1, n T next y (below-second next (variables_of h) (variables_of k) (below-second next (variables_of g) (variables_of h ++ variables_of k) rest))))
  where
    first-two : (next : ℕ) → NumbersBelow next (variables_of g ++ (variables_of h ++ variables_of k)) → NumbersBelow next (variables_of g ++ variables_of h)
    first-two next w = joined (variables_of g) w
      where
        joined : (xs : List ℕ) → NumbersBelow next (xs ++ (variables_of h ++ variables_of k)) → NumbersBelow next (xs ++ variables_of h)
        joined [] u = below-first next (variables_of h) (variables_of k) u
        joined (x ∷ xs) u = (u.0, joined xs u.1)

-- a condition that has no order, beside the same variables
pub failed-beside : (told : OutsideKnown) (us vs : List ℕ) (sigs : List Sig) (g : Flat_goal) (xs : List ℕ) (q r : PlainProcs) (s t : State) (e : Failed) → us ≡ vs
    → TryPost told (trying_beside us sigs g q s) q r s t (Err e) → DoesTest told (trying_beside vs sigs g q s) xs q r s t (Err e)
failed-beside told us vs sigs g xs q r s t e i d =
    failed-test told (trying_beside vs sigs g q s) xs q r s t e (subst (λ (ws : List ℕ). TryPost told (trying_beside ws sigs g q s) q r s t (Err e)) i d)

-- a quantified goal
pub quantified-fits : (q : PlainProcs) (s : State) (vs : List ℕ) (g : Flat_goal) → GoalFits q s (F.Exists vs g) → GoalFits q s g
quantified-fits q s vs g f = record { variables = below-second (length s.insts.items) vs (variables_of g) f.variables; known = f.known }

pub goes-quantified : (sigs : List Sig) (vs : List ℕ) (g : Flat_goal) (q r : PlainProcs) (s t : State) (res : Result Part Failed)
    → AttemptPost (tells_outside (variables_of g) s) (attempt_of sigs (F.Exists vs g) q s) q r s t res → AttemptPost (tells_outside (variables_of (F.Exists vs g)) s) (attempt_of sigs (F.Exists vs g) q s) q r s t res
goes-quantified sigs vs g q r s t res d =
    goes-told (tells_outside (variables_of g) s) (tells_outside (variables_of (F.Exists vs g)) s) (attempt_of sigs (F.Exists vs g) q s) q r s t res
    (λ first O w. (w.0, below-second first vs (variables_of g) w.1, w.2)) d
