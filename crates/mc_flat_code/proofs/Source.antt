-- The code does what the goals do that it stands for.
use Rattle.std.proofs.Common.{◌≡◌, ◌⊎◌, inl, inr, ℕ, zero, suc, refl, sym, ap, ◌∙◌, map, List, [], ◌∷◌, Option, Some, None, Bool, true, false, if◌then◌else◌}
use Rattle.std.proofs.Math.Path.{fun_ext}
use Rattle.mc_program.specs.Values.{Val}
use Rattle.mc_program.specs.declared.builtin.Builtin.{Builtin}
use Rattle.mc_model.specs.EventList as L
use Rattle.mc_model.specs.EventList.{Items, of_option}
use Rattle.mc_model.specs.Outcomes.{Outcome}
use Rattle.mc_model.specs.Scheduled.{Label, Node, node, Scheduled, Conj, Disj, Switch, Ite, Not, Exists, Assign, Test, Build, Take, Const, TestConst, Call, Apply, Nodes, no_nodes, node_then, Arms, no_arms, arm_then, Procedure}
use Rattle.mc_model.specs.Stream as S
use Rattle.mc_model.specs.Stream.{Bindings, Calls, meet, unify, gather, same_items, made_items, apply_items, pruned_to, stream, stream_of, stream_all, stream_any, stream_arms, ready, enter, leave, body_items, calls}
use Rattle.mc_flat_code.specs.Ticked.{Ticked, End, Stuck, Answer, events, bind, first, negate, follow}
use Rattle.mc_flat_code.specs.Running.{TickedCalls, variables_at, value_at, fits, label_of, fits_label, fitting, branch_items, case_items, constant_items, list_of, place_list, body_list, body_at, call_list, IsCode}
use Rattle.mc_flat_code.specs.Standing.{At, Holds, Chain, Opens, Keyed, Cased, Stands, StandsOf, StandsAll, StandsEach, StandsArms, whole_body, StandsFor, StandsForAll}
use Rattle.mc_flat_code.specs.SourceRuns.{GoalsRunAsSource, BodiesRunAsSource, CallsRunAsSource}
use Rattle.mc_flat_code.specs.declared.code.Span.{Span}
use Rattle.mc_flat_code.specs.declared.code.Instr.{Instr}
use Rattle.mc_flat_code.specs.declared.code.Instr.TheVariants as I
use Rattle.mc_flat_code.specs.declared.code.Branch.{Branch}
use Rattle.mc_flat_code.specs.declared.code.Code.{Code}
use Rattle.mc_flat_code.specs.declared.code.Body.{Body}
use Rattle.mc_flat_code.specs.declared.code.FlatProgram.{FlatProgram}
use Rattle.mc_flat_code.proofs.EventLaws.{append_end, bind_one, bind_append, bind_bind, bind_choose, first_bind_one}
use Rattle.mc_flat_code.proofs.TickLaws.{events_append, events_first, events_negate, events_bind, events_choose, events_follow, events_at_height, bind_at_height}
use Rattle.mc_flat_code.proofs.Places.{at_goal}
use Rattle.mc_flat_code.proofs.Alternatives.{joined, opened_ends}

module _ (outcome : Builtin → List Val → Outcome) (code : Code) (o : IsCode code) (call : TickedCalls) (C : Calls) (same : (h p : ℕ) (vs : List (Option Val)) → events (call h p vs) ≡ C h p vs) (h : ℕ) where
  abbrev go : ℕ → Bindings → Ticked Bindings
  go = place_list outcome code call h

  -- what a place does, without ticks
  abbrev done : ℕ → Bindings → Items Bindings
  done q a = events (go q a)

  abbrev each_done : Bindings → List ℕ → Items Bindings
  each_done e ps = joined (map (λ p. done p e) ps)

  at_events : (pc : ℕ) (i : Instr) → At code pc i → (e : Bindings) → done pc e ≡ events (list_of outcome code call h go i e)
  at_events pc i q e = ap (λ l. events l) (at_goal outcome code call h o pc i q e)

  ended : ◌≡◌ {A = Bindings → Items Bindings} (done 0) (λ a. L.Answer a L.End)
  ended = fun_ext (λ a. at_events 0 I.Done o.done a)

  ends : (xs ys : Items Bindings) → ys ≡ L.bind xs (done 0) → ys ≡ xs
  ends xs ys x = x ∙ ap (λ (k : Bindings → Items Bindings). L.bind xs k) ended ∙ bind_one xs

  -- alternatives one after another
  chain_done : (ps : List ℕ) (pc : ℕ) → Chain code ps pc → (e : Bindings) → done pc e ≡ each_done e ps
  chain_done [] pc x e = at_events pc I.Fail x e
  chain_done (p ∷ ps) pc (inl x) e =
      ap (λ k. done k e) x.0 ∙ sym (append_end (done p e))
      ∙ ap (λ qs. L.append (done p e) (each_done e qs)) (sym x.1)
  chain_done (p ∷ ps) pc (inr x) e =
      at_events pc (I.Or p x.0) x.1.0 e ∙ events_append (go p e) (go x.0 e)
      ∙ ap (λ l. L.append (done p e) l) (chain_done ps x.0 x.1.1 e)

  -- each arm's place does the arm
  abbrev ArmsDone : Arms → ℕ → List ℕ → Bindings → Type 0
  ArmsDone no_arms q [] e = Unit {0}
  ArmsDone no_arms q (p ∷ ps) e = ⊥
  ArmsDone (arm_then l n arms) q [] e = ⊥
  ArmsDone (arm_then l n arms) q (p ∷ ps) e =
      (done p e ≡ L.bind (stream outcome C h n e) (done q)) × ArmsDone arms q ps e

  arms_joined : (arms : Arms) (q : ℕ) (ps : List ℕ) (e : Bindings) → ArmsDone arms q ps e → each_done e ps ≡ L.bind (stream_arms outcome C h arms e) (done q)
  arms_joined no_arms q [] e x = refl
  arms_joined no_arms q (p ∷ ps) e x = absurd x
  arms_joined (arm_then l n arms) q [] e x = absurd x
  arms_joined (arm_then l n arms) q (p ∷ ps) e x =
      (λ i. L.append (x.0 i) (arms_joined arms q ps e x.1 i))
      ∙ sym (bind_append (stream outcome C h n e) (stream_arms outcome C h arms e) (done q))

  module _ (v q : ℕ) (e : Bindings) (w : Val) (b : e v ≡ Some w) where
    pick : (t : Label) (n : Node) (p : ℕ) (branch : Branch) (rest : List ℕ) (all : Items Bindings) → Opens t v n → label_of code branch.key ≡ Some t → branch.place ≡ p → done p e ≡ L.bind (stream outcome C h n e) (done q) → all ≡ each_done e rest → (x : Bool) → fits t w ≡ x → L.append (done p e) all ≡ each_done e (if fits_label w (label_of code branch.key) then branch.place ∷ rest else rest)
    pick t n p branch rest all op key place d r true f =
        (λ i. L.append (done (sym place i) e) (r i))
        ∙ ap (λ y. each_done e (if y then branch.place ∷ rest else rest)) (sym (ap (fits_label w) key ∙ f))
    pick t n p branch rest all op key place d r false f =
        ap (λ l. L.append l all) (d ∙ ap (λ l. L.bind l (done q)) (opened_ends outcome C h v e w b t f n op))
        ∙ r ∙ ap (λ y. each_done e (if y then branch.place ∷ rest else rest)) (sym (ap (fits_label w) key ∙ f))

    -- an arm whose test fails has no answer
    fitting_done : (arms : Arms) (bs : List Branch) (ps : List ℕ) → Keyed code v arms bs ps → ArmsDone arms q ps e → each_done e ps ≡ each_done e (fitting code w bs)
    fitting_done no_arms [] [] k x = refl
    fitting_done no_arms [] (p ∷ ps) k x = absurd k
    fitting_done no_arms (c ∷ bs) ps k x = absurd k
    fitting_done (arm_then l n arms) [] ps k x = absurd k
    fitting_done (arm_then l n arms) (c ∷ bs) [] k x = absurd k
    fitting_done (arm_then l n arms) (c ∷ bs) (p ∷ ps) k x =
        pick l n p c (fitting code w bs) (each_done e ps) k.0.0 k.0.1 k.0.2 x.0 (fitting_done arms bs ps k.1 x.1) (fits l w) refl

  branch_done : (other : ℕ) (e : Bindings) (ps : List ℕ) (all : Items Bindings) → all ≡ each_done e ps → done other e ≡ all → events (branch_items go other e ps) ≡ all
  branch_done other e [] all x y = sym x
  branch_done other e (p ∷ []) all x y = sym (append_end (done p e)) ∙ sym x
  branch_done other e (p ∷ r ∷ ps) all x y = y

  case_done : (v q : ℕ) (arms : Arms) (ps : List ℕ) (pc : ℕ) (e : Bindings) (c : Cased code v arms ps pc) → ArmsDone arms q ps e → (w : Option Val) → e v ≡ w → events (case_items code go c.other e c.branches w) ≡ each_done e ps
  case_done v q arms ps pc e c x None b = chain_done ps c.other c.chain e
  case_done v q arms ps pc e c x (Some w) b =
      branch_done c.other e (fitting code w c.branches) (each_done e ps) (fitting_done v q e w b arms c.branches ps c.keyed x) (chain_done ps c.other c.chain e)

  switch_done : (v q : ℕ) (arms : Arms) (ps : List ℕ) (pc : ℕ) (e : Bindings) → ArmsDone arms q ps e → Chain code ps pc ⊎ Cased code v arms ps pc → done pc e ≡ L.bind (stream_arms outcome C h arms e) (done q)
  switch_done v q arms ps pc e x (inl c) = chain_done ps pc c e ∙ arms_joined arms q ps e x
  switch_done v q arms ps pc e x (inr c) =
      at_events pc (I.Case v c.part c.other) c.at e
      ∙ ap (λ bs. events (case_items code go c.other e bs (e v))) c.held.elements
      ∙ case_done v q arms ps pc e c x (e v) refl ∙ arms_joined arms q ps e x

  made_done : (x f q pc : ℕ) (ys : List ℕ) (e : Bindings) → (p : Span) × (At code pc (I.Made x f p q) × Holds code.variables.items p ys) → done pc e ≡ L.bind (made_items x f ys e (e x)) (done q)
  made_done x f q pc ys e s =
      at_events pc (I.Made x f s.0 q) s.1.0 e
      ∙ events_follow (made_items x f (variables_at code s.0) e (e x)) (go q)
      ∙ ap (λ zs. L.bind (made_items x f zs e (e x)) (done q)) s.1.1.elements

  constant_done : (x q pc : ℕ) (v : Val) (e : Bindings) → (k : ℕ) × (At code pc (I.Constant x k q) × (value_at code k ≡ Some v)) → done pc e ≡ L.bind (of_option (meet x v e (e x))) (done q)
  constant_done x q pc v e s =
      at_events pc (I.Constant x s.0 q) s.1.0 e
      ∙ events_follow (constant_items x e (value_at code s.0)) (go q)
      ∙ ap (λ c. L.bind (constant_items x e c) (done q)) s.1.1

  same_done : (x y q pc : ℕ) (e : Bindings) → At code pc (I.Same x y q) → done pc e ≡ L.bind (same_items x y e (e x) (e y)) (done q)
  same_done x y q pc e s =
      at_events pc (I.Same x y q) s e ∙ events_follow (same_items x y e (e x) (e y)) (go q)

  apply_done : (op : Builtin) (xs ys : List ℕ) (q pc : ℕ) (e : Bindings) → (a b : Span) × (At code pc (I.Apply op a b q) × Holds code.variables.items a xs × Holds code.variables.items b ys) → done pc e ≡ L.bind (apply_items (outcome op) ys e (gather xs e)) (done q)
  apply_done op xs ys q pc e s =
      at_events pc (I.Apply op s.0 s.1 q) s.2.0 e
      ∙ events_follow (apply_items (outcome op) (variables_at code s.1) e (gather (variables_at code s.0) e)) (go q)
      ∙ (λ i. L.bind (apply_items (outcome op) (s.2.2.elements i) e (gather (s.2.1.elements i) e)) (done q))

  abbrev after : List ℕ → Bindings → List (Option Val) → Items Bindings
  after xs e vs = of_option (unify xs vs e)

  called_done : (p q : ℕ) (xs : List ℕ) (e : Bindings) (k : ℕ) → events (bind (call k p (map e xs)) (λ vs. follow (after xs e vs) (go q))) ≡ L.bind (L.bind (C k p (map e xs)) (after xs e)) (done q)
  called_done p q xs e k =
      events_bind (call k p (map e xs)) (λ vs. follow (after xs e vs) (go q))
      ∙ ap (λ l. L.bind l (λ vs. events (follow (after xs e vs) (go q)))) (same k p (map e xs))
      ∙ ap (λ (f : List (Option Val) → Items Bindings). L.bind (C k p (map e xs)) f) (fun_ext (λ vs. events_follow (after xs e vs) (go q)))
      ∙ sym (bind_bind (C k p (map e xs)) (after xs e) (done q))

  call_done : (p : ℕ) (xs implied : List ℕ) (last : Bool) (q pc : ℕ) (e : Bindings) → (a : Span) × (At code pc (I.Call p a last q) × Holds code.variables.items a xs) → done pc e ≡ L.bind (stream_of outcome C h (Call p xs implied last) e) (done q)
  call_done p xs implied last q pc e s =
      let ys : List ℕ = variables_at code s.0 in
      at_events pc (I.Call p s.0 last q) s.1.0 e
      ∙ events_at_height last h (λ k. bind (call k p (map e ys)) (λ vs. follow (after ys e vs) (go q)))
      ∙ ap (λ (f : ℕ → Items Bindings). S.at_height last h f) (fun_ext (called_done p q ys e))
      ∙ sym (bind_at_height last h (λ k. L.bind (C k p (map e ys)) (after ys e)) (done q))
      ∙ ap (λ zs. L.bind (stream_of outcome C h (Call p zs implied last) e) (done q)) s.1.1.elements

  mutual
    pub goes : (n : Node) (q pc : ℕ) → Stands code n q pc → (e : Bindings) → done pc e ≡ L.bind (stream outcome C h n e) (done q)
    goes (node s changes d false) q pc x e = goes_of s q pc x e
    goes (node s changes d true) q pc (inl x) e =
        at_events pc (I.Once x.0 q) x.1.0 e ∙ events_bind (first (go x.0 e)) (go q)
        ∙ ap (λ l. L.bind l (done q)) (events_first (go x.0 e))
        ∙ ap (λ l. L.bind (L.first l) (done q)) (ends (stream_of outcome C h s e) (done x.0 e) (goes_of s 0 x.0 x.1.1 e))
    goes (node s changes d true) q pc (inr x) e =
        goes_of s q pc x.1 e
        ∙ ap (λ l. L.bind l (done q)) (sym (x.0 outcome C h e))

    goes_of : (s : Scheduled) (q pc : ℕ) → StandsOf code s q pc → (e : Bindings) → done pc e ≡ L.bind (stream_of outcome C h s e) (done q)
    goes_of (Conj ns) q pc x e = goes_all ns q pc x e
    goes_of (Disj ns) q pc x e = chain_done x.0 pc x.1.1 e ∙ goes_each ns q x.0 x.1.0 e
    goes_of (Switch v arms) q pc x e = switch_done v q arms x.0 pc e (goes_arms arms q x.0 x.1.0 e) x.1.1
    goes_of (Ite vs c t f) q pc x e =
        at_events pc (I.If x.0 x.1 x.2) x.3.0 e ∙ events_choose (go x.0 e) (go x.1) (go x.2 e)
        ∙ (λ i. L.choose (ends (stream outcome C h c e) (done x.0 e) (goes c 0 x.0 x.3.1 e) i) (λ a. goes t q x.1 x.3.2 a i) (goes f q x.2 x.3.3 e i))
        ∙ sym (bind_choose (stream outcome C h c e) (λ a. stream outcome C h t a) (stream outcome C h f e) (done q))
    goes_of (Not n) q pc x e =
        at_events pc (I.Not x.0 q) x.1.0 e ∙ events_bind (negate e (go x.0 e)) (go q)
        ∙ ap (λ l. L.bind l (done q)) (events_negate e (go x.0 e))
        ∙ ap (λ l. L.bind (L.negate e l) (done q)) (ends (stream outcome C h n e) (done x.0 e) (goes n 0 x.0 x.1.1 e))
    goes_of (Exists vs n) q pc x e = goes n q pc x e
    goes_of (Assign y z) q pc x e = same_done y z q pc e x
    goes_of (Test y z) q pc x e = same_done y z q pc e x
    goes_of (Build y f ys) q pc x e = made_done y f q pc ys e x
    goes_of (Take y f ys) q pc x e = made_done y f q pc ys e x
    goes_of (Const y v) q pc x e = constant_done y q pc v e x
    goes_of (TestConst y v) q pc x e = constant_done y q pc v e x
    goes_of (Call p xs implied last) q pc x e = call_done p xs implied last q pc e x
    goes_of (Apply op xs ys) q pc x e = apply_done op xs ys q pc e x

    goes_all : (ns : Nodes) (q pc : ℕ) → StandsAll code ns q pc → (e : Bindings) → done pc e ≡ L.bind (stream_all outcome C h ns e) (done q)
    goes_all no_nodes q pc x e = ap (λ k. done k e) x ∙ sym (append_end (done q e))
    goes_all (node_then n ns) q pc x e =
        goes n x.0 pc x.1.0 e
        ∙ ap (λ (f : Bindings → Items Bindings). L.bind (stream outcome C h n e) f) (fun_ext (λ a. goes_all ns q x.0 x.1.1 a))
        ∙ sym (bind_bind (stream outcome C h n e) (λ a. stream_all outcome C h ns a) (done q))

    goes_each : (ns : Nodes) (q : ℕ) (ps : List ℕ) → StandsEach code ns q ps → (e : Bindings) → each_done e ps ≡ L.bind (stream_any outcome C h ns e) (done q)
    goes_each no_nodes q [] x e = refl
    goes_each no_nodes q (p ∷ ps) x e = absurd x
    goes_each (node_then n ns) q [] x e = absurd x
    goes_each (node_then n ns) q (p ∷ ps) x e =
        (λ i. L.append (goes n q p x.0 e i) (goes_each ns q ps x.1 e i))
        ∙ sym (bind_append (stream outcome C h n e) (stream_any outcome C h ns e) (done q))

    goes_arms : (arms : Arms) (q : ℕ) (ps : List ℕ) → StandsArms code arms q ps → (e : Bindings) → ArmsDone arms q ps e
    goes_arms no_arms q [] x e = tt
    goes_arms no_arms q (p ∷ ps) x e = absurd x
    goes_arms (arm_then l n arms) q [] x e = absurd x
    goes_arms (arm_then l n arms) q (p ∷ ps) x e = (goes n q p x.0 e, goes_arms arms q ps x.1 e)

  -- a committed body's first answer gives the outputs
  pruned_left : (committed : Bool) (xs : Items Bindings) (f : Bindings → List (Option Val)) → L.bind (pruned_to committed xs) (λ a. L.Answer (f a) L.End) ≡ pruned_to committed (L.bind xs (λ a. L.Answer (f a) L.End))
  pruned_left false xs f = refl
  pruned_left true xs f = sym (first_bind_one xs f)

  body_done : (b : Body) (p : Procedure) (s : StandsFor code b p) (first last head : List ℕ) (vs : List (Option Val)) (r : Bool) → events (if r then bind (go b.entry (enter head first vs)) (λ a. Answer (leave head last a) End) else Stuck) ≡ (if r then pruned_to p.det.committed (L.bind (stream outcome C h p.body (enter head first vs)) (λ a. L.Answer (leave head last a) L.End)) else L.Stuck)
  body_done b p s first last head vs false = refl
  body_done b p s first last head vs true =
      let e : Bindings = enter head first vs in
      events_bind (go b.entry e) (λ a. Answer (leave head last a) End)
      ∙ ap (λ l. L.bind l (λ a. L.Answer (leave head last a) L.End)) (ends (stream outcome C h (whole_body p) e) (done b.entry e) (goes (whole_body p) 0 b.entry s.body e))
      ∙ pruned_left p.det.committed (stream outcome C h p.body e) (leave head last)

  pub body_runs : (b : Body) (p : Procedure) → StandsFor code b p → (vs : List (Option Val)) → events (body_list outcome code call h b vs) ≡ body_items outcome C h p vs
  body_runs b p s vs =
      body_done b p s (variables_at code b.first) (variables_at code b.last) (variables_at code b.head) vs (ready (variables_at code b.first) vs)
      ∙ (λ i. if ready (s.first.elements i) vs then pruned_to p.det.committed (L.bind (stream outcome C h p.body (enter (s.head.elements i) (s.first.elements i) vs)) (λ a. L.Answer (leave (s.head.elements i) (s.last.elements i) a) L.End)) else L.Stuck)

module _ (outcome : Builtin → List Val → Outcome) (f : FlatProgram) (procs : ℕ → Procedure) (o : IsCode f.code) (s : StandsForAll f procs) where
  calls_same : (m h p : ℕ) (vs : List (Option Val)) → events (call_list outcome f m h p vs) ≡ calls outcome procs m h p vs
  calls_same zero h p vs = refl
  calls_same (suc m) h p vs =
      ap (λ l. L.Called (record { proc = p; args = vs }) l)
      (body_runs outcome f.code o (call_list outcome f m) (calls outcome procs m) (calls_same m) h (body_at f p) (procs p) (s p) vs)

pub goals_run_as_source : GoalsRunAsSource
goals_run_as_source outcome f procs o s m h n q pc x e =
    goes outcome f.code o (call_list outcome f m) (calls outcome procs m) (calls_same outcome f procs o s m) h n q pc x e

pub bodies_run_as_source : BodiesRunAsSource
bodies_run_as_source outcome f procs o s m h b p x vs =
    body_runs outcome f.code o (call_list outcome f m) (calls outcome procs m) (calls_same outcome f procs o s m) h b p x vs

pub calls_run_as_source : CallsRunAsSource
calls_run_as_source outcome f procs o s m h k vs = calls_same outcome f procs o s m h k vs
