-- What is known of a disjunction while its branches run.
use Rattle.std.proofs.Common.{◌≡◌, ◌∙◌, ℕ, List, [], ◌∷◌, ◌++◌, map, length, Result, Err, OnOk, IfOk, refl, sym, subst}
use Rattle.mc_program.specs.Programs.{TypeTerm}
use Rattle.mc_model.specs.Flat as F
use Rattle.mc_model.specs.Flat.{Flat_goal, flats, variables_of, variables_of_all}
use Rattle.mc_model.specs.Scheduled.{Disj, nodes}
use Rattle.mc_model.specs.PlainGoals.{plain_flat, plain_node}
use Rattle.mc_model.specs.declared.flat.Flat.{Flat}
use Rattle.mc_model.specs.declared.inst.Sig.{Sig}
use Rattle.mc_model.specs.declared.sched.GoalNode.{GoalNode}
use Rattle.mc_accepted.specs.Arranged.{Point, with_end}
use Rattle.mc_accepted.specs.FreshTests.{AllAlike}
use Rattle.mc_insts.specs.Graphs.{count_of}
use Rattle.mc_procs.specs.Named.{NumbersBelow}
use Rattle.mc_procs.specs.Procedures.{PlainProcs}
use Rattle.mc_mode_state.specs.States.{point_of}
use Rattle.mc_mode_state.specs.Agreeing.{StateInvariant, LaterByTrail, TypedAs}
use Rattle.mc_mode_state.specs.Answers.{FreshAlike}
use Rattle.mc_mode_state.specs.Merged.{rows_at, RowsFit}
use Rattle.mc_mode_state.specs.declared.state.State.{State}
use Rattle.mc_mode_state.specs.declared.part.Part.{Part}
use Rattle.mc_mode_state.specs.declared.fault.Failed.{Failed}
use Rattle.mc_mode_state.proofs.Steps.{stepped-refl, stepped-trans}
use Rattle.mc_modes.specs.Tries.{attempt_of, tells_outside, AttemptPost}
use Rattle.mc_modes.specs.code.Alike.{NodeAlike}
use Rattle.mc_modes.specs.code.Parts.{trying_beside, IsBranch, DoesBranch, MergedAs}
use Rattle.mc_modes.proofs.Alike.{keeps-taken, more-alike, merged-alike}
use Rattle.mc_modes.proofs.Branches.{ends-rows, ends-fit}
use Rattle.mc_modes.proofs.Branching.{onto-none}
use Rattle.mc_modes.proofs.Failing.{failed-disjunct}
use Rattle.mc_modes.proofs.Merging.{BranchesSoFar, branched-on, disjunction-goes}
use Rattle.mc_modes.proofs.Turns.{done-more}

pub record Forked (sigs : List Sig) (gs rest : List Flat) (seen : List ℕ) (branches : List GoalNode) (ends : List (List ℕ)) (q p : PlainProcs) (s u : State) : Type 0 where
  pub stepped : LaterByTrail q p s u
  pub point : point_of u.insts.items ≡ point_of s.insts.items
  pub reached : List (Point ℕ)
  pub rows : ends ≡ rows_at seen reached
  pub fit : RowsFit (length seen) (count_of p.insts) (rows_at seen reached)
  pub alike :
      (T : ℕ → TypeTerm) (next : ℕ) → TypedAs u T → NumbersBelow next (variables_of_all (flats (map plain_flat gs)))
      → AllAlike T next (nodes (map plain_node branches))
  pub so : BranchesSoFar sigs (variables_of_all (flats (map plain_flat gs))) (map plain_flat gs) (map plain_flat rest) (nodes (map plain_node branches)) reached q p s u

pub forked-begins : (sigs : List Sig) (gs : List Flat) (seen : List ℕ) (q : PlainProcs) (s : State) → StateInvariant q s → Forked sigs gs gs seen [] [] q q s s
forked-begins sigs gs seen q s st = record {
  stepped = stepped-refl q s st;
  point = refl;
  reached = [];
  rows = refl;
  fit = tt;
  alike = λ T next h w. tt;
  so = λ first O C T w z. onto-none _;
}

module _ (sigs : List Sig) (gs : List Flat) (x : Flat) (left : List Flat) (seen : List ℕ) (branches : List GoalNode) (es : List (List ℕ)) (q p : PlainProcs) (s u : State)
    (i : Forked sigs gs (x ∷ left) seen branches es q p s u)
    (below : (n : ℕ) → NumbersBelow n (variables_of_all (flats (map plain_flat gs))) → NumbersBelow n (variables_of (plain_flat x))) where
  abbrev all : List Flat_goal
  all = map plain_flat gs

  abbrev own : List ℕ
  own = variables_of_all (flats all)

  -- one branch more runs
  pub forked-on : (r : PlainProcs) (t : State) (fs : List (List ℕ)) (node : GoalNode) (more : List GoalNode)
      → IsBranch (tells_outside (variables_of (plain_flat x)) u) (trying_beside [] sigs (plain_flat x) p u) seen p r u t es fs node → NodeAlike (variables_of (plain_flat x)) t node
      → more ≡ branches ++ node ∷ [] → Forked sigs gs left seen more fs q r s t
  forked-on r t fs node more b a e = record {
    stepped = stepped-trans q p r s u t i.stepped b.stepped;
    point = b.point ∙ i.point;
    reached = i.reached ++ with_end b.end [];
    rows = ends-rows seen p r i.reached b.end es fs i.rows b.ends;
    fit = ends-fit seen p r i.reached b.end es fs i.rows b.ends b.stepped.moved.nodes.grown.more i.fit;
    alike = λ T next h w. more-alike T next branches (node ∷ []) more e (i.alike T next (keeps-taken u t b.stepped.moved.types T h) w) (a T next h (below next w), tt);
    so =
        subst (λ done. BranchesSoFar sigs own all (map plain_flat left) done (i.reached ++ with_end b.end []) q r s t) (sym (done-more branches (node ∷ []) more e))
        (branched-on sigs own all (map plain_flat left) (plain_flat x) (nodes (map plain_node branches)) i.reached q p s u below i.stepped.moved.stands i.stepped i.point i.so seen r t es fs node b);
  }

  -- it has no order
  pub forked-fails : (r : PlainProcs) (t : State) (fs : List (List ℕ)) (e : Failed)
      → DoesBranch (tells_outside (variables_of (plain_flat x)) u) (trying_beside [] sigs (plain_flat x) p u) seen p r u t es fs (Err e)
      → AttemptPost (tells_outside own s) (attempt_of sigs (F.Or (flats all)) q s) q r s t (Err e)
  forked-fails r t fs e d =
      failed-disjunct sigs all (map plain_flat left) (plain_flat x) (nodes (map plain_node branches)) i.reached q p r s u t seen es fs e below i.stepped.moved.stands i.stepped i.point i.so d

-- all branches ran
module _ (sigs : List Sig) (gs : List Flat) (seen : List ℕ) (branches : List GoalNode) (rows : List (List ℕ)) (q r : PlainProcs) (s t : State)
    (i : Forked sigs gs [] seen branches rows q r s t) (p : PlainProcs) (v : State) (res : Result Part Failed)
    (d : MergedAs (Disj (nodes (map plain_node branches))) (variables_of_all (flats (map plain_flat gs))) seen rows r p t v res) where
  pub forked-goes : OnOk res (length v.insts.items ≡ length t.insts.items)
      → AttemptPost (tells_outside (variables_of_all (flats (map plain_flat gs))) s) (attempt_of sigs (F.Or (flats (map plain_flat gs))) q s) q p s v res
  forked-goes count =
      disjunction-goes sigs (map plain_flat gs) q r s t branches i.reached seen rows p v res i.stepped.moved.stands i.stepped i.point i.rows count i.so d

  pub forked-alike : IfOk res (FreshAlike (F.Or (flats (map plain_flat gs))) v)
  forked-alike = merged-alike (F.Or (flats (map plain_flat gs))) (Disj (nodes (map plain_node branches))) (variables_of_all (flats (map plain_flat gs))) seen rows r p t v res d i.alike
