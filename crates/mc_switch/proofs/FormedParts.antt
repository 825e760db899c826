-- Goals in switch form, told from their parts.
use Rattle.std.proofs.Math.Seq.{drop-cons, drop-length}
use Rattle.std.specs.List.{list_all}
use Rattle.std.proofs.lemmas.List.{map-append}
use Rattle.std.proofs.lemmas.List.Elements.{All-nil, All-cons}
use Rattle.std.proofs.Common.{◌≡◌, ℕ, suc, ◌+◌, ◌<◌, List, [], ◌∷◌, ◌++◌, length, get_or, drop, map, add-one, Bool, true, false, not, ◌||◌, ◌&&◌, All, Result, Ok, Err, OnOk, refl, sym, ap, ap₂, ◌∙◌, subst, arith}
use Rattle.mc_program.specs.Values.{Val}
use Rattle.mc_program.specs.Programs.{TypeTerm, Source}
use Rattle.mc_program.specs.declared.ty.Ty.{Ty}
use Rattle.mc_model.specs.Insts.{InstNode}
use Rattle.mc_model.specs.Scheduled.{Node, node, nodes, Scheduled, Conj, Disj, Switch, Ite, Not, Exists, Take, TestConst, Call, Nodes, no_nodes, node_then, Label, Arms, no_arms, arm_then}
use Rattle.mc_model.specs.PlainGoals.{plain_node, plain_sched, plain_arm, plain_label, arms_of}
use Rattle.mc_model.specs.Good.{System}
use Rattle.mc_model.specs.declared.sched.GoalNode.{GoalNode}
use Rattle.mc_model.specs.declared.sched.Arm.{Arm}
use Rattle.mc_accepted.specs.Ordered.{Insts, change_at}
use Rattle.mc_accepted.specs.Determined.{insts_after, allows_name, excludes}
use Rattle.mc_accepted.specs.MergedArms.{takes_constants, never_ends, never_ends_in, one_never_ends, each_never_ends, each_arm_never_ends}
use Rattle.mc_accepted.specs.Switched.{Kept, Disjunct, openings, grouped, openings_of, formed_in, disjuncts}
use Rattle.mc_insts.specs.Graphs.{count_of}
use Rattle.mc_procs.specs.Procedures.{PlainProcs, source_of, insts_of}
use Rattle.mc_procs.specs.VariableTypes.{type_in}
use Rattle.mc_procs.proofs.Views.{plain_node-open, plain_arm-open}
use Rattle.mc_mode_state.specs.Tables.{Entry}
use Rattle.mc_det.proofs.Telling.{before, one_before, none_after}
use Rattle.mc_det.proofs.MarkedParts.{arms_before, one_arm_before, no_arm_after}
use Rattle.mc_switch.specs.declared.context.VariableContext.{VariableContext}
use Rattle.mc_switch.specs.declared.formed.Formed.{Formed}
use Rattle.mc_switch.specs.declared.parts.FormedGoal.{FormedGoal}
use Rattle.mc_switch.specs.declared.parts.FormedNodes.{FormedNodes}
use Rattle.mc_switch.specs.declared.parts.FormedArms.{FormedArms}
use Rattle.mc_switch.specs.Types.{inst_in}
use Rattle.mc_switch.specs.Kept.{Suits, Extends, OnlyGrew, kept_by, never_answers}
use Rattle.mc_switch.specs.code.Grouping.{FormedEnds, IsGrouped, disjuncts_of, nodes_of}
use Rattle.mc_switch.specs.code.Choices.{allows_one}
use Rattle.mc_switch.specs.code.Forms.{node_if, goal_if, all_if, InEach, IsGoal, IsNode, AreRun, EachIs, AreArms}
use Rattle.mc_switch.proofs.Growing.{suits_before}
use Rattle.mc_switch.proofs.NeverEnds.{never_formed}

-- ---- what is so stays so while the graph grows and more is found
module _ (q r : PlainProcs) (N M : List Entry) (types : List Ty) (b : Insts) (forms : Bool) (grew : OnlyGrew q r) (more : Extends N M) where
  pub in_each_later : (P : System → ((before after : Insts) → Kept) → Type 0) → InEach q N types b forms P → InEach r M types b forms P
  in_each_later P h = λ S L suits later. h S L (suits_before q r S grew suits) (λ x k is e. later x k is (more x k is e))

  pub node_later : (n : Node) (f : Formed) → IsNode q N types b forms n f → IsNode r M types b forms n f
  node_later n f h = record {
    made = λ S L suits later. h.made S L (suits_before q r S grew suits) (λ x k is e. later x k is (more x k is e));
    never = λ S suits. h.never S (suits_before q r S grew suits);
    there = λ x. let g = grew.grown in let m = g.more in let t = h.there x in omega (arith, m, t);
  }

  pub each_later : (ns : List Node) (fs : List Formed) → EachIs q N types b forms ns fs → EachIs r M types b forms ns fs
  each_later [] [] h = tt
  each_later (n ∷ ns) (f ∷ fs) h = (node_later n f h.0, each_later ns fs h.1)
  each_later [] (f ∷ fs) h = absurd h
  each_later (n ∷ ns) [] h = absurd h

-- ---- where a goal ends, its form does
if_never : (S : System) (T : ℕ → TypeTerm) (kept : (before after : Insts) → Kept) (forms : Bool) (b : Insts) (n : Node) → never_ends S T b (node_if S T kept forms b n) ≡ never_ends S T b n
if_never S T kept true b n = never_formed S T kept b n
if_never S T kept false b n = refl

if_after : (S : System) (T : ℕ → TypeTerm) (kept : (before after : Insts) → Kept) (forms : Bool) (b : Insts) (n : Node) (ns : Nodes) → all_if S T kept forms b (node_then n ns) ≡ node_then (node_if S T kept forms b n) (all_if S T kept forms (insts_after n b) ns)
if_after S T kept true b n ns = refl
if_after S T kept false b n ns = refl

if_none : (S : System) (T : ℕ → TypeTerm) (kept : (before after : Insts) → Kept) (forms : Bool) (b : Insts) → all_if S T kept forms b no_nodes ≡ no_nodes
if_none S T kept true b = refl
if_none S T kept false b = refl

module _ (q : PlainProcs) (N : List Entry) (types : List Ty) where
  abbrev T : ℕ → TypeTerm
  T = type_in types

  abbrev kept_at : System → List Entry → (before after : Insts) → Kept
  kept_at S M = kept_by S T M (length types)

  pub node_ends : (insts : List ℕ) (forms : Bool) (n : Node) (f : Formed) → IsNode q N types (inst_in insts) forms n f → FormedEnds q types insts f
  node_ends insts forms n f h = record {
    told = λ S suits.
        h.never S suits
        ∙ sym (if_never S T (kept_at S N) forms (inst_in insts) n)
        ∙ ap (never_ends S T (inst_in insts)) (sym (h.made S N suits (λ x k is e. e)));
    there = h.there;
  }

  pub each_ends : (insts : List ℕ) (ns : List Node) (fs : List Formed) → EachIs q N types (inst_in insts) true ns fs → All (FormedEnds q types insts) fs
  each_ends insts [] [] h = All-nil (FormedEnds q types insts)
  each_ends insts (n ∷ ns) (f ∷ fs) h = All-cons (FormedEnds q types insts) f fs (node_ends insts true n f h.0) (each_ends insts ns fs h.1)
  each_ends insts [] (f ∷ fs) h = absurd h
  each_ends insts (n ∷ ns) [] h = absurd h

  module _ (b : Insts) where
    pub each_many : (forms : Bool) (ns : List Node) (fs : List Formed) → EachIs q N types b forms ns fs → length fs ≡ length ns
    each_many forms [] [] h = refl
    each_many forms (n ∷ ns) (f ∷ fs) h = ap suc (each_many forms ns fs h.1)
    each_many forms [] (f ∷ fs) h = absurd h
    each_many forms (n ∷ ns) [] h = absurd h

    pub each_nevers : (forms : Bool) (ns : List Node) (fs : List Formed) → EachIs q N types b forms ns fs → (S : System) → Suits q S → list_all (λ (f : Formed). f.never_ends) fs ≡ each_never_ends S T b (nodes ns)
    each_nevers forms [] [] h S suits = refl
    each_nevers forms (n ∷ ns) (f ∷ fs) h S suits = let k = h.0 in ap₂ (λ t u. t && u) (k.never S suits) (each_nevers forms ns fs h.1 S suits)
    each_nevers forms [] (f ∷ fs) h S suits = absurd h
    each_nevers forms (n ∷ ns) [] h S suits = absurd h

    pub each_same : (ns : List Node) (fs : List Formed) → EachIs q N types b false ns fs → (S : System) (M : List Entry) → Suits q S → Extends N M → nodes (nodes_of fs) ≡ nodes ns
    each_same [] [] h S M suits later = refl
    each_same (n ∷ ns) (f ∷ fs) h S M suits later = let k = h.0 in ap₂ node_then (k.made S M suits later) (each_same ns fs h.1 S M suits later)
    each_same [] (f ∷ fs) h S M suits later = absurd h
    each_same (n ∷ ns) [] h S M suits later = absurd h

    pub each_formed : (ns : List Node) (fs : List Formed) → EachIs q N types b true ns fs → (S : System) (M : List Entry) → Suits q S → Extends N M → disjuncts_of ns (nodes_of fs) ≡ disjuncts S T (kept_at S M) b (nodes ns)
    each_formed [] [] h S M suits later = refl
    each_formed (n ∷ ns) (f ∷ fs) h S M suits later = let k = h.0 in ap₂ (λ (m : Node) (ds : List Disjunct). record { opens = openings n; goal = m } ∷ ds) (k.made S M suits later) (each_formed ns fs h.1 S M suits later)
    each_formed [] (f ∷ fs) h S M suits later = absurd h
    each_formed (n ∷ ns) [] h S M suits later = absurd h

    pub each_one_more : (forms : Bool) (ns : List Node) (n : Node) (fs : List Formed) (f : Formed) → EachIs q N types b forms ns fs → IsNode q N types b forms n f → EachIs q N types b forms (ns ++ n ∷ []) (fs ++ f ∷ [])
    each_one_more forms [] n [] f h k = (k, tt)
    each_one_more forms (m ∷ ns) n (g ∷ fs) f h k = (h.0, each_one_more forms ns n fs f h.1 k)
    each_one_more forms [] n (g ∷ fs) f h k = absurd h
    each_one_more forms (m ∷ ns) n [] f h k = absurd h

    -- a disjunction as it is
    pub plain_disj_is : (after : Insts) (gs : List GoalNode) (fs : List Formed) (goal : Scheduled) (part : FormedGoal) → goal ≡ Disj (nodes (map plain_node gs)) → EachIs q N types b false (map plain_node gs) fs → plain_sched part.goal ≡ Disj (nodes (nodes_of fs)) → part.never_ends ≡ list_all (λ (f : Formed). f.never_ends) fs → IsGoal q N types b false after goal part
    plain_disj_is after gs fs goal part is each made never = record {
      made = λ S M suits later. made ∙ ap Disj (each_same (map plain_node gs) fs each S M suits later) ∙ sym is;
      never = λ S suits. never ∙ each_nevers false (map plain_node gs) fs each S suits ∙ ap (never_ends_in S T b) (sym is);
    }

    -- a goal with what is kept of it
    pub with_kept : (forms : Bool) (g : GoalNode) (part : FormedGoal) (f : Formed) → plain_node f.node ≡ node (plain_sched part.goal) g.changes g.det g.pruned → f.node.changes ≡ g.changes → f.never_ends ≡ part.never_ends → ((x : ℕ) → change_at x g.changes (b x) < count_of q.insts) → IsGoal q N types b forms (λ x. change_at x g.changes (b x)) (plain_sched g.goal) part → IsNode q N types b forms (plain_node g) f
    with_kept forms g part f made changes never there is = record {
      made = λ S M suits later.
          made
          ∙ ap (λ (s : Scheduled). node s g.changes g.det g.pruned) (is.made S M suits later)
          ∙ closed forms S (kept_at S M)
          ∙ ap (node_if S T (kept_at S M) forms b) (sym (plain_node-open g));
      never = λ S suits. never ∙ is.never S suits ∙ ap (never_ends S T b) (sym (plain_node-open g));
      there = λ x. subst (λ (cs : List (ℕ × ℕ)). change_at x cs (b x) < count_of q.insts) (sym changes) (there x);
    }
      where
        closed : (forms : Bool) (S : System) (kept : (before after : Insts) → Kept) → node (goal_if S T kept forms b (λ x. change_at x g.changes (b x)) (plain_sched g.goal)) g.changes g.det g.pruned ≡ node_if S T kept forms b (node (plain_sched g.goal) g.changes g.det g.pruned)
        closed true S kept = refl
        closed false S kept = refl

    -- a conjunction, and a switch that stands already
    pub conj_is : (forms : Bool) (after : Insts) (gs : List GoalNode) (goal : Scheduled) (parts : FormedNodes) (part : FormedGoal) → goal ≡ Conj (nodes (map plain_node gs)) → AreRun q N types b forms (nodes (map plain_node gs)) parts → plain_sched part.goal ≡ Conj (nodes (map plain_node parts.nodes)) → part.never_ends ≡ parts.never_end → IsGoal q N types b forms after goal part
    conj_is forms after gs goal parts part is run made never = record {
      made = λ S M suits later.
          made ∙ ap Conj (run.made S M suits later) ∙ closed forms S (kept_at S M) ∙ ap (goal_if S T (kept_at S M) forms b after) (sym is);
      never = λ S suits. never ∙ run.never S suits ∙ ap (never_ends_in S T b) (sym is);
    }
      where
        closed : (forms : Bool) (S : System) (kept : (before after : Insts) → Kept) → Conj (all_if S T kept forms b (nodes (map plain_node gs))) ≡ goal_if S T kept forms b after (Conj (nodes (map plain_node gs)))
        closed true S kept = refl
        closed false S kept = refl

    pub switch_stays : (forms : Bool) (after : Insts) (x : ℕ) (arms : Arms) (goal : Scheduled) (parts : FormedArms) (part : FormedGoal) → goal ≡ Switch x arms → AreArms q N types b arms parts → plain_sched part.goal ≡ Switch x (arms_of (map plain_arm parts.arms)) → part.never_ends ≡ parts.never_end → IsGoal q N types b forms after goal part
    switch_stays forms after x arms goal parts part is came made never = record {
      made = λ S M suits later.
          made ∙ ap (Switch x) (came.made S M suits later) ∙ closed forms S (kept_at S M) ∙ ap (goal_if S T (kept_at S M) forms b after) (sym is);
      never = λ S suits. never ∙ came.never S suits ∙ ap (never_ends_in S T b) (sym is);
    }
      where
        closed : (forms : Bool) (S : System) (kept : (before after : Insts) → Kept) → Switch x arms ≡ goal_if S T kept forms b after (Switch x arms)
        closed true S kept = refl
        closed false S kept = refl

    -- an if-then-else, a negation and a quantifier
    pub ite_is : (forms : Bool) (after : Insts) (vs : List ℕ) (n t e : Node) (goal : Scheduled) (f g h : Formed) (part : FormedGoal) → goal ≡ Ite vs n t e → IsNode q N types b forms n f → IsNode q N types (insts_after n b) forms t g → IsNode q N types b forms e h → plain_sched part.goal ≡ Ite vs (plain_node f.node) (plain_node g.node) (plain_node h.node) → part.never_ends ≡ ((f.never_ends || g.never_ends) && h.never_ends) → IsGoal q N types b forms after goal part
    ite_is forms after vs n t e goal f g h part is first second third made never = record {
      made = λ S M suits later.
          made
          ∙ ap (λ (m : Node). Ite vs m (plain_node g.node) (plain_node h.node)) (first.made S M suits later)
          ∙ ap₂ (λ (l m : Node). Ite vs (node_if S T (kept_at S M) forms b n) l m) (second.made S M suits later) (third.made S M suits later)
          ∙ closed forms S (kept_at S M)
          ∙ ap (goal_if S T (kept_at S M) forms b after) (sym is);
      never = λ S suits.
          never
          ∙ ap₂ (λ u v. u && v) (ap₂ (λ u v. u || v) (first.never S suits) (second.never S suits)) (third.never S suits)
          ∙ ap (never_ends_in S T b) (sym is);
    }
      where
        closed : (forms : Bool) (S : System) (kept : (before after : Insts) → Kept) → Ite vs (node_if S T kept forms b n) (node_if S T kept forms (insts_after n b) t) (node_if S T kept forms b e) ≡ goal_if S T kept forms b after (Ite vs n t e)
        closed true S kept = refl
        closed false S kept = refl

    pub not_is : (forms : Bool) (after : Insts) (n : Node) (goal : Scheduled) (f : Formed) (part : FormedGoal) → goal ≡ Not n → IsNode q N types b forms n f → plain_sched part.goal ≡ Not (plain_node f.node) → part.never_ends ≡ false → IsGoal q N types b forms after goal part
    not_is forms after n goal f part is inner made never = record {
      made = λ S M suits later.
          made ∙ ap Not (inner.made S M suits later) ∙ closed forms S (kept_at S M) ∙ ap (goal_if S T (kept_at S M) forms b after) (sym is);
      never = λ S suits. never ∙ ap (never_ends_in S T b) (sym is);
    }
      where
        closed : (forms : Bool) (S : System) (kept : (before after : Insts) → Kept) → Not (node_if S T kept forms b n) ≡ goal_if S T kept forms b after (Not n)
        closed true S kept = refl
        closed false S kept = refl

    pub some_is : (forms : Bool) (after : Insts) (vs : List ℕ) (n : Node) (goal : Scheduled) (f : Formed) (part : FormedGoal) → goal ≡ Exists vs n → IsNode q N types b forms n f → plain_sched part.goal ≡ Exists vs (plain_node f.node) → part.never_ends ≡ f.never_ends → IsGoal q N types b forms after goal part
    some_is forms after vs n goal f part is inner made never = record {
      made = λ S M suits later.
          made ∙ ap (Exists vs) (inner.made S M suits later) ∙ closed forms S (kept_at S M) ∙ ap (goal_if S T (kept_at S M) forms b after) (sym is);
      never = λ S suits. never ∙ inner.never S suits ∙ ap (never_ends_in S T b) (sym is);
    }
      where
        closed : (forms : Bool) (S : System) (kept : (before after : Insts) → Kept) → Exists vs (node_if S T kept forms b n) ≡ goal_if S T kept forms b after (Exists vs n)
        closed true S kept = refl
        closed false S kept = refl

    -- atoms, which are their own form
    pub atom_is : (forms : Bool) (after : Insts) (goal s : Scheduled) (part : FormedGoal) → goal ≡ s → plain_sched part.goal ≡ s → ((S : System) (kept : (before after : Insts) → Kept) → formed_in S T kept b after s ≡ s) → ((S : System) → Suits q S → part.never_ends ≡ never_ends_in S T b s) → IsGoal q N types b forms after goal part
    atom_is forms after goal s part is made stays never = record {
      made = λ S M suits later. made ∙ sym (stay forms S (kept_at S M)) ∙ ap (goal_if S T (kept_at S M) forms b after) (sym is);
      never = λ S suits. never S suits ∙ ap (never_ends_in S T b) (sym is);
    }
      where
        stay : (forms : Bool) (S : System) (kept : (before after : Insts) → Kept) → goal_if S T kept forms b after s ≡ s
        stay true S kept = stays S kept
        stay false S kept = refl

    pub take_never : (i x s : ℕ) (ys : List ℕ) (t : Bool) → i ≡ b x → i < count_of q.insts → t ≡ not (allows_one q i s) → (S : System) → Suits q S → t ≡ never_ends_in S T b (Take x s ys)
    take_never i x s ys t e lt is S suits =
        is
        ∙ ap (λ (N : InstNode). not (allows_name N ((source_of q).symbols s).name)) (sym (suits.insts i lt))
        ∙ ap (λ (P : Source). not (allows_name (S.insts i) (P.symbols s).name)) (sym suits.source)
        ∙ ap (λ j. excludes S T j s) e

    pub test_never : (i x : ℕ) (v : Val) (t : Bool) → i ≡ b x → i < count_of q.insts → t ≡ not (takes_constants (insts_of q i)) → (S : System) → Suits q S → t ≡ never_ends_in S T b (TestConst x v)
    test_never i x v t e lt is S suits =
        is
        ∙ ap (λ (N : InstNode). not (takes_constants N)) (sym (suits.insts i lt))
        ∙ ap (λ j. not (takes_constants (S.insts j))) e

    pub call_never : (k : ℕ) (xs is : List ℕ) (last t : Bool) → t ≡ never_answers q.added k → (S : System) → Suits q S → t ≡ never_ends_in S T b (Call k xs is last)
    call_never k xs is last t e S suits = e ∙ sym (suits.never k)

-- ---- a disjunction that is switched
pub disjunction_is : (q r : PlainProcs) (N M : List Entry) (types : List Ty) (at : VariableContext) (gs : List GoalNode) (fs : List Formed) (changes : List (ℕ × ℕ)) (part : FormedGoal) → OnlyGrew q r → Extends N M → at.types.now ≡ types → inst_in at.after.now ≡ (λ x. change_at x changes (inst_in at.before.now x)) → EachIs q N types (inst_in at.before.now) true (map plain_node gs) fs → IsGrouped r M at (map plain_node gs) (nodes_of fs) (plain_sched part.goal) → part.never_ends ≡ list_all (λ (f : Formed). f.never_ends) fs → IsGoal r M types (inst_in at.before.now) true (λ x. change_at x changes (inst_in at.before.now x)) (Disj (nodes (map plain_node gs))) part
disjunction_is q r N M types at gs fs changes part grew more of after each is never = record {
  made = λ S L suits later.
      let b = inst_in at.before.now in
      let ns = map plain_node gs in
      let kept = kept_by S (type_in types) L (length types) in
      let same = each_formed q N types b ns fs each S L (suits_before q r S grew suits) (λ x k is e. later x k is (more x k is e)) in
      is S L suits later
      ∙ ap (λ (ts : List Ty). grouped S (type_in ts) (kept_by S (type_in ts) L (length ts) b (inst_in at.after.now)) (openings_of (disjuncts_of ns (nodes_of fs))) b [] (disjuncts_of ns (nodes_of fs))) of
      ∙ ap (λ (c : Insts). grouped S (type_in types) (kept b c) (openings_of (disjuncts_of ns (nodes_of fs))) b [] (disjuncts_of ns (nodes_of fs))) after
      ∙ ap (λ (ds : List Disjunct). grouped S (type_in types) (kept b (λ x. change_at x changes (b x))) (openings_of ds) b [] ds) same;
  never = λ S suits. never ∙ each_nevers q N types (inst_in at.before.now) true (map plain_node gs) fs each S (suits_before q r S grew suits);
}

-- ---- the goals of a conjunction, one after another
pub record RunSoFar
    (q : PlainProcs) (N : List Entry) (types : List Ty) (b l : Insts) (forms : Bool)
    (gs : List GoalNode) (k : ℕ) (copies : List GoalNode) (so_never : Bool)
    : Type 0 where
  pub made :
      InEach q N types b forms
      (λ S kept.
      before (map plain_node copies)
      (all_if S (type_in types) kept forms l (nodes (map plain_node (drop k gs))))
      ≡ all_if S (type_in types) kept forms b (nodes (map plain_node gs)))
  pub never :
      (S : System) → Suits q S
      → (so_never || one_never_ends S (type_in types) l (nodes (map plain_node (drop k gs))))
      ≡ one_never_ends S (type_in types) b (nodes (map plain_node gs))

or_apart : (x y z : Bool) → ((x || y) || z) ≡ (x || (y || z))
or_apart true y z = refl
or_apart false y z = refl

or_none : (v : Bool) → (v || false) ≡ v
or_none true = refl
or_none false = refl

and_apart : (x y z : Bool) → ((x && y) && z) ≡ (x && (y && z))
and_apart true y z = refl
and_apart false y z = refl

and_all : (v : Bool) → (v && true) ≡ v
and_all true = refl
and_all false = refl

module _ (types : List Ty) (b : Insts) (forms : Bool) (gs : List GoalNode) where
  abbrev left_from : ℕ → Nodes
  left_from k = nodes (map plain_node (drop k gs))

  next_left : (k : ℕ) (g : GoalNode) → k < length gs → g ≡ get_or gs k g → left_from k ≡ node_then (plain_node g) (left_from (k + 1))
  next_left k g lt is =
      ap (λ (l : List GoalNode). nodes (map plain_node l)) (drop-cons gs k g lt)
      ∙ ap (λ (h : GoalNode). node_then (plain_node h) (left_from (suc k))) (sym is)
      ∙ ap (λ m. node_then (plain_node g) (left_from m)) (sym (add-one k))

  pub run_begun : (q : PlainProcs) (N : List Entry) → RunSoFar q N types b b forms gs 0 [] false
  run_begun q N = record { made = λ S M suits later. refl; never = λ S suits. refl }

  pub run_more : (q r : PlainProcs) (N M : List Entry) (l m : Insts) (k : ℕ) (g : GoalNode) (part : Formed) (xs ys : List GoalNode) (never more : Bool) → OnlyGrew q r → Extends N M → k < length gs → g ≡ get_or gs k g → IsNode r M types l forms (plain_node g) part → m ≡ insts_after (plain_node g) l → ys ≡ xs ++ part.node ∷ [] → more ≡ (never || part.never_ends) → RunSoFar q N types b l forms gs k xs never → RunSoFar r M types b m forms gs (k + 1) ys more
  run_more q r N M l m k g part xs ys never more grew found lt is here after put also so_far = record {
    made = λ S L suits later.
        let kept = kept_by S (type_in types) L (length types) in
        let rest : Insts → Nodes = λ i. all_if S (type_in types) kept forms i (left_from (k + 1)) in
        ap₂ (λ (zs : List GoalNode) (i : Insts). before (map plain_node zs) (rest i)) put after
        ∙ ap (λ (ms : List Node). before ms (rest (insts_after (plain_node g) l))) (map-append plain_node xs (part.node ∷ []))
        ∙ one_before (map plain_node xs) (plain_node part.node) (rest (insts_after (plain_node g) l))
        ∙ ap (λ (n : Node). before (map plain_node xs) (node_then n (rest (insts_after (plain_node g) l)))) (here.made S L suits later)
        ∙ ap (before (map plain_node xs)) (sym (if_after S (type_in types) kept forms l (plain_node g) (left_from (k + 1))))
        ∙ ap (λ (ns : Nodes). before (map plain_node xs) (all_if S (type_in types) kept forms l ns)) (sym (next_left k g lt is))
        ∙ so_far.made S L (suits_before q r S grew suits) (λ x j is e. later x j is (found x j is e));
    never = λ S suits.
        ap₂ (λ (v : Bool) (i : Insts). v || one_never_ends S (type_in types) i (left_from (k + 1))) (also ∙ ap (λ (v : Bool). never || v) (here.never S suits)) after
        ∙ or_apart never (never_ends S (type_in types) l (plain_node g)) (one_never_ends S (type_in types) (insts_after (plain_node g) l) (left_from (k + 1)))
        ∙ ap (λ (ns : Nodes). never || one_never_ends S (type_in types) l ns) (sym (next_left k g lt is))
        ∙ so_far.never S (suits_before q r S grew suits);
  }

  none_left : (k : ℕ) → k ≡ length gs → left_from k ≡ no_nodes
  none_left k at = ap left_from at ∙ ap (λ (l : List GoalNode). nodes (map plain_node l)) (drop-length gs)

  pub run_done : (q : PlainProcs) (N : List Entry) (l : Insts) (k : ℕ) (xs : List GoalNode) (never : Bool) (parts : FormedNodes) → k ≡ length gs → parts.nodes ≡ xs → parts.never_end ≡ never → RunSoFar q N types b l forms gs k xs never → AreRun q N types b forms (nodes (map plain_node gs)) parts
  run_done q N l k xs never parts at of also so_far = record {
    made = λ S M suits later.
        let kept = kept_by S (type_in types) M (length types) in
        ap (λ (l : List GoalNode). nodes (map plain_node l)) of
        ∙ sym (none_after (map plain_node xs))
        ∙ ap (before (map plain_node xs)) (sym (if_none S (type_in types) kept forms l))
        ∙ ap (λ (ns : Nodes). before (map plain_node xs) (all_if S (type_in types) kept forms l ns)) (sym (none_left k at))
        ∙ so_far.made S M suits later;
    never = λ S suits.
        also
        ∙ sym (or_none never)
        ∙ ap (λ (ns : Nodes). never || one_never_ends S (type_in types) l ns) (sym (none_left k at))
        ∙ so_far.never S suits;
  }

-- ---- arms that stay
pub record ArmsSoFar
    (q : PlainProcs) (N : List Entry) (types : List Ty) (b : Insts) (arms : List Arm) (k : ℕ)
    (copies : List Arm) (so_never : Bool)
    : Type 0 where
  pub made :
      InEach q N types b false
      (λ S kept. arms_before (map plain_arm copies) (arms_of (map plain_arm (drop k arms))) ≡ arms_of (map plain_arm arms))
  pub never :
      (S : System) → Suits q S
      → (so_never && each_arm_never_ends S (type_in types) b (arms_of (map plain_arm (drop k arms))))
      ≡ each_arm_never_ends S (type_in types) b (arms_of (map plain_arm arms))

module _ (types : List Ty) (b : Insts) (arms : List Arm) where
  abbrev arms_left : ℕ → Arms
  arms_left k = arms_of (map plain_arm (drop k arms))

  next_arm : (k : ℕ) (r : Arm) → k < length arms → r ≡ get_or arms k r → arms_left k ≡ arm_then (plain_label r.on) (plain_node r.body) (arms_left (k + 1))
  next_arm k r lt is =
      ap (λ (l : List Arm). arms_of (map plain_arm l)) (drop-cons arms k r lt)
      ∙ ap (λ (d : Arm). arm_then (plain_arm d).0 (plain_arm d).1 (arms_left (suc k))) (sym is)
      ∙ ap (λ (p : Label × Node). arm_then p.0 p.1 (arms_left (suc k))) (plain_arm-open r)
      ∙ ap (λ m. arm_then (plain_label r.on) (plain_node r.body) (arms_left m)) (sym (add-one k))

  pub arms_begun : (q : PlainProcs) (N : List Entry) → ArmsSoFar q N types b arms 0 [] true
  arms_begun q N = record { made = λ S M suits later. refl; never = λ S suits. refl }

  pub arms_more : (q s : PlainProcs) (N M : List Entry) (k : ℕ) (r copy : Arm) (part : Formed) (xs ys : List Arm) (never more : Bool) → OnlyGrew q s → Extends N M → k < length arms → r ≡ get_or arms k r → IsNode s M types b false (plain_node r.body) part → copy.on ≡ r.on → copy.body ≡ part.node → ys ≡ xs ++ copy ∷ [] → more ≡ (never && part.never_ends) → ArmsSoFar q N types b arms k xs never → ArmsSoFar s M types b arms (k + 1) ys more
  arms_more q s N M k r copy part xs ys never more grew found lt is here on body put also so_far = record {
    made = λ S L suits later.
        let rest : Arms = arms_left (k + 1) in
        ap (λ (l : List Arm). arms_before (map plain_arm l) rest) put
        ∙ ap (λ (l : List (Label × Node)). arms_before l rest) (map-append plain_arm xs (copy ∷ []))
        ∙ one_arm_before (map plain_arm xs) (plain_arm copy) rest
        ∙ ap (λ (p : Label × Node). arms_before (map plain_arm xs) (arm_then p.0 p.1 rest)) (plain_arm-open copy)
        ∙ ap (λ o. arms_before (map plain_arm xs) (arm_then (plain_label o) (plain_node copy.body) rest)) on
        ∙ ap (λ (n : Node). arms_before (map plain_arm xs) (arm_then (plain_label r.on) n rest)) (ap plain_node body ∙ here.made S L suits later)
        ∙ ap (arms_before (map plain_arm xs)) (sym (next_arm k r lt is))
        ∙ so_far.made S L (suits_before q s S grew suits) (λ x j is e. later x j is (found x j is e));
    never = λ S suits.
        ap (λ (v : Bool). v && each_arm_never_ends S (type_in types) b (arms_left (k + 1))) (also ∙ ap (λ (v : Bool). never && v) (here.never S suits))
        ∙ and_apart never (never_ends S (type_in types) b (plain_node r.body)) (each_arm_never_ends S (type_in types) b (arms_left (k + 1)))
        ∙ ap (λ (ns : Arms). never && each_arm_never_ends S (type_in types) b ns) (sym (next_arm k r lt is))
        ∙ so_far.never S (suits_before q s S grew suits);
  }

  no_arm_left : (k : ℕ) → k ≡ length arms → arms_left k ≡ no_arms
  no_arm_left k at = ap arms_left at ∙ ap (λ (l : List Arm). arms_of (map plain_arm l)) (drop-length arms)

  pub arms_done : (q : PlainProcs) (N : List Entry) (k : ℕ) (xs : List Arm) (never : Bool) (parts : FormedArms) → k ≡ length arms → parts.arms ≡ xs → parts.never_end ≡ never → ArmsSoFar q N types b arms k xs never → AreArms q N types b (arms_of (map plain_arm arms)) parts
  arms_done q N k xs never parts at of also so_far = record {
    made = λ S M suits later.
        ap (λ (l : List Arm). arms_of (map plain_arm l)) of
        ∙ sym (no_arm_after (map plain_arm xs))
        ∙ ap (arms_before (map plain_arm xs)) (sym (no_arm_left k at))
        ∙ so_far.made S M suits later;
    never = λ S suits.
        also
        ∙ sym (and_all never)
        ∙ ap (λ (ns : Arms). never && each_arm_never_ends S (type_in types) b ns) (sym (no_arm_left k at))
        ∙ so_far.never S suits;
  }

-- what holds anyway holds where an answer is Ok
pub when_ok : {X E : Type 0} (a : Result X E) (P : Type 0) → P → OnOk a P
when_ok (Ok x) P p = p
when_ok (Err e) P p = tt
