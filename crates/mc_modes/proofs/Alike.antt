-- Tests of fresh variables are typed alike in a goal, by those of its parts.
use Rattle.std.proofs.Common.{◌≡◌, ◌∙◌, ℕ, ◌≤◌, List, [], ◌∷◌, ◌++◌, map, length, take, false, Option, Some, None, Result, Ok, Err, OnOk, IfOk, sym, ap, subst, arith}
use Rattle.std.proofs.lemmas.List.{length-take, map-append}
use Rattle.mc_program.specs.Programs.{TypeTerm}
use Rattle.mc_model.specs.Flat.{Flat_goal, variables_of}
use Rattle.mc_model.specs.Scheduled.{Scheduled, Node, Nodes, no_nodes, node_then, nodes}
use Rattle.mc_model.specs.PlainGoals.{plain_node}
use Rattle.mc_model.specs.declared.sched.GoalNode.{GoalNode}
use Rattle.mc_accepted.specs.Arranged.{Point, alone}
use Rattle.mc_accepted.specs.NodeOracle.{NodeOracle, of_nodes}
use Rattle.mc_accepted.specs.FreshTests.{TestsAlike, AlikeIn, AllAlike}
use Rattle.mc_procs.specs.Named.{NumbersBelow}
use Rattle.mc_procs.specs.Procedures.{PlainProcs}
use Rattle.mc_mode_state.specs.States.{point_of, TrailRestores}
use Rattle.mc_mode_state.specs.Agreeing.{TypedAs}
use Rattle.mc_mode_state.specs.Answers.{FreshAlike, end_of}
use Rattle.mc_mode_state.specs.declared.state.State.{State}
use Rattle.mc_mode_state.specs.declared.part.Part.{Part}
use Rattle.mc_mode_state.specs.declared.fault.Failed.{Failed}
use Rattle.mc_mode_state.proofs.Found.{type-kept}
use Rattle.mc_modes.specs.code.Parts.{IsOne, AloneSince, MergedAs, ChosenAs}
use Rattle.mc_modes.specs.code.Alike.{NodeAlike}

-- the types that are there later are those that are there before
abbrev pub Keeps : (s t : State) → Type 0
Keeps s t = (T : ℕ → TypeTerm) → TypedAs t T → TypedAs s T

pub keeps-taken : (s t : State) → take (length s.types.items) t.types.items ≡ s.types.items → Keeps s t
keeps-taken s t k T h x l =
    let longer : length s.types.items ≤ length t.types.items = omega (arith, length-take (length s.types.items) t.types.items, ap length k) in
    h x (omega (arith, l, longer)) ∙ type-kept s.types.items t.types.items x k l

pub keeps-same : (s t : State) → t.types ≡ s.types → Keeps s t
keeps-same s t e T h = rw e at h

pub fresh-kept : (g : Flat_goal) (s t : State) (p : Part) → Keeps s t → FreshAlike g s p → FreshAlike g t p
fresh-kept g s t p k a T next h w = a T next (k T h) w

pub node-kept : (vs : List ℕ) (s t : State) (node : GoalNode) → Keeps s t → NodeAlike vs s node → NodeAlike vs t node
node-kept vs s t node k a T next h w = a T next (k T h) w

-- the same goal by another name
pub alike-as : (g h : Flat_goal) (t : State) (res : Result Part Failed) → h ≡ g → IfOk res (FreshAlike g t) → IfOk res (FreshAlike h t)
alike-as g h t res e a = subst (λ (k : Flat_goal). IfOk res (FreshAlike k t)) (sym e) a

-- after a fault the state goes back
pub settled-alike : (g : Flat_goal) (t u : State) (tried res : Result Part Failed) → res ≡ tried → OnOk res (u ≡ t) → IfOk tried (FreshAlike g t) → IfOk res (FreshAlike g u)
settled-alike g t u tried (Ok p) e k a =
    let b : FreshAlike g t p = subst (λ (r : Result Part Failed). IfOk r (FreshAlike g t)) (sym e) a in
    subst (λ (v : State). FreshAlike g v p) (sym k) b
settled-alike g t u tried (Err x) e k a = tt

pub alone-alike : (T : ℕ → TypeTerm) (next : ℕ) (C : NodeOracle) (n : ℕ) (b : Point ℕ) (o : Option (Point ℕ)) (gs : Nodes) → AllAlike T next gs → TestsAlike T next (alone (of_nodes C) n b o gs)
alone-alike T next C n b o no_nodes w = tt
alone-alike T next C n b o (node_then g no_nodes) w = w.0
alone-alike T next C n b o (node_then g (node_then h gs)) w = w

-- A part's goals as one. Whatever functions look for nodes, its tests are the same, so here are some.
pub none_chosen : NodeOracle
none_chosen = record {
  is_dead = λ i. false;
  over = λ s is. None;
  joined = λ t is. None;
  narrowed = λ i s. None;
  takes_constants = λ i. false;
  fits = λ i j t. false;
}

pub node-alone : (g : Flat_goal) (s t u : State) (trail : ℕ) (p : Part) (node : GoalNode) → Keeps t u → TrailRestores s t → length s.trail.items ≡ trail → AloneSince trail t p node → FreshAlike g t p
    → NodeAlike (variables_of g) u node
node-alone g s t u trail p node k l m e a T next h w =
    subst (TestsAlike T next) (sym (e s l m none_chosen))
    (alone-alike T next none_chosen (length t.insts.items) (point_of s.insts.items) (end_of p.reachable t) (nodes (map plain_node p.goals.items)) (a T next (k T h) w))

-- one goal
pub one-alike : (g : Flat_goal) (t : State) (n : ℕ) (b : Point ℕ) (o : Option (Point ℕ)) (s : Scheduled) (p : Part) → IsOne n b o s p
    → ((T : ℕ → TypeTerm) (next : ℕ) → TypedAs t T → NumbersBelow next (variables_of g) → AlikeIn T next s) → FreshAlike g t p
one-alike g t n b o s p e a T next h w = subst (AllAlike T next) (sym e.goals) (a T next h w, tt)

-- a goal around what runs
pub fresh-around : (g h : Flat_goal) (f : Node → Scheduled) (s t : State) (n : ℕ) (b : Point ℕ) (o : Option (Point ℕ)) (p w : Part) (m : Node)
    → ((next : ℕ) → NumbersBelow next (variables_of h) → NumbersBelow next (variables_of g))
    → ((T : ℕ → TypeTerm) (next : ℕ) (k : Node) → TestsAlike T next k → AlikeIn T next (f k))
    → Keeps s t → IsOne n b o (f m) w
    → ((T : ℕ → TypeTerm) (next : ℕ) → AllAlike T next (nodes (map plain_node p.goals.items)) → TestsAlike T next m)
    → FreshAlike g s p → FreshAlike h t w
fresh-around g h f s t n b o p w m below wrap k i alike a =
    one-alike h t n b o (f m) w i (λ T next y v. wrap T next m (alike T next (a T next (k T y) (below next v))))

-- goals behind others
nodes-alike : (T : ℕ → TypeTerm) (next : ℕ) (ms ns : List Node) → AllAlike T next (nodes ms) → AllAlike T next (nodes ns) → AllAlike T next (nodes (ms ++ ns))
nodes-alike T next [] ns v w = w
nodes-alike T next (m ∷ ms) ns v w = (v.0, nodes-alike T next ms ns v.1 w)

pub more-alike : (T : ℕ → TypeTerm) (next : ℕ) (done part all : List GoalNode) → all ≡ done ++ part
    → AllAlike T next (nodes (map plain_node done)) → AllAlike T next (nodes (map plain_node part)) → AllAlike T next (nodes (map plain_node all))
more-alike T next done part all e v w =
    subst (λ (gs : List GoalNode). AllAlike T next (nodes (map plain_node gs))) (sym e)
    (subst (λ (ns : List Node). AllAlike T next (nodes ns)) (sym (map-append plain_node done part)) (nodes-alike T next (map plain_node done) (map plain_node part) v w))

-- a goal whose branches are merged
pub merged-alike : (h : Flat_goal) (g : Scheduled) (own seen : List ℕ) (rows : List (List ℕ)) (q r : PlainProcs) (s t : State) (res : Result Part Failed) → MergedAs g own seen rows q r s t res
    → ((T : ℕ → TypeTerm) (next : ℕ) → TypedAs s T → NumbersBelow next (variables_of h) → AlikeIn T next g) → IfOk res (FreshAlike h t)
merged-alike h g own seen rows q r s t (Ok p) d a = one-alike h t (length t.insts.items) (point_of s.insts.items) (end_of p.reachable t) g p d.1 (λ T next y w. a T next (keeps-taken s t d.0.1.moved.types T y) w)
merged-alike h g own seen rows q r s t (Err e) d a = tt

pub chosen-alike : (v : Option ℕ) (h : Flat_goal) (g : Scheduled) (own seen : List ℕ) (rows : List (List ℕ)) (q r : PlainProcs) (s t : State) (res : Result Part Failed) → ChosenAs v g own seen rows q r s t res
    → ((T : ℕ → TypeTerm) (next : ℕ) → TypedAs s T → NumbersBelow next (variables_of h) → AlikeIn T next g) → IfOk res (FreshAlike h t)
chosen-alike None h g own seen rows q r s t res d a = merged-alike h g own seen rows q r s t res d a
chosen-alike (Some x) h g own seen rows q r s t (Ok p) d a = absurd d
chosen-alike (Some x) h g own seen rows q r s t (Err e) d a = tt
