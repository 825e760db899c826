-- Procedures run as their bare forms do: the event list looks at no inst but whether it is `free`.
use Rattle.std.proofs.Common.{if◌then◌else◌, nat_eq, ◌≡◌, ℕ, zero, suc, List, [], ◌∷◌, map, Bool, true, false, Option, Some, None, refl, ap, ◌∙◌}
use Rattle.std.proofs.Math.Path.{fun_ext}
use Rattle.mc_program.specs.Values.{Val}
use Rattle.mc_model.specs.EventList.{Items, Stuck, Answer, End, Called, append, bind, choose, negate, cut}
use Rattle.mc_model.specs.Scheduled.{Node, node, Scheduled, Conj, Disj, Switch, Ite, Not, Exists, Assign, Test, Build, Take, Const, TestConst, Call, Apply, Nodes, no_nodes, node_then, Arms, no_arms, arm_then, Procedure}
use Rattle.mc_model.specs.Outcomes.{Outcome}
use Rattle.mc_model.specs.Stream.{Bindings, Calls, below, pruned_to, stream, stream_of, stream_all, stream_any, stream_arms, is_bound, ready, enter, leave, body_items, calls}
use Rattle.mc_model.specs.Bare.{bare_node, bare_scheduled, bare_nodes, bare_arms, bare_inst, bare_procedure}
use Rattle.mc_program.specs.declared.builtin.Builtin.{Builtin}
use Rattle.laws_language.specs.BareLaws.{each_bare, GoalsRunBare, CallsRunBare, QueriesRunBare}

module _ (outcome : Builtin → List Val → Outcome) (C : Calls) (h : ℕ) where
  mutual
    bare_stream : (n : Node) (e : Bindings) → stream outcome C h (bare_node n) e ≡ stream outcome C h n e
    bare_stream (node s changes d pruned) e = ap (pruned_to pruned) (bare_stream_of s e)

    bare_stream_of : (s : Scheduled) (e : Bindings) → stream_of outcome C h (bare_scheduled s) e ≡ stream_of outcome C h s e
    bare_stream_of (Conj ns) e = bare_stream_all ns e
    bare_stream_of (Disj ns) e = bare_stream_any ns e
    bare_stream_of (Switch v arms) e = bare_stream_arms arms e
    bare_stream_of (Ite vs c t f) e =
        ap (λ xs. choose xs (λ a. stream outcome C h (bare_node t) a) (stream outcome C h (bare_node f) e)) (bare_stream c e)
        ∙ (ap (λ (k : Bindings → Items Bindings). choose (stream outcome C h c e) k (stream outcome C h (bare_node f) e)) (fun_ext (λ a. bare_stream t a))
        ∙ ap (λ ys. choose (stream outcome C h c e) (λ a. stream outcome C h t a) ys) (bare_stream f e))
    bare_stream_of (Not n) e = ap (negate e) (bare_stream n e)
    bare_stream_of (Exists vs n) e = bare_stream n e
    bare_stream_of (Assign x y) e = refl
    bare_stream_of (Test x y) e = refl
    bare_stream_of (Build x f ys) e = refl
    bare_stream_of (Take x f ys) e = refl
    bare_stream_of (Const x v) e = refl
    bare_stream_of (TestConst x v) e = refl
    bare_stream_of (Call p xs implied last) e = refl
    bare_stream_of (Apply op xs ys) e = refl

    bare_stream_all : (ns : Nodes) (e : Bindings) → stream_all outcome C h (bare_nodes ns) e ≡ stream_all outcome C h ns e
    bare_stream_all no_nodes e = refl
    bare_stream_all (node_then n ns) e =
        ap (λ xs. bind xs (λ a. stream_all outcome C h (bare_nodes ns) a)) (bare_stream n e)
        ∙ ap (λ (k : Bindings → Items Bindings). bind (stream outcome C h n e) k) (fun_ext (λ a. bare_stream_all ns a))

    bare_stream_any : (ns : Nodes) (e : Bindings) → stream_any outcome C h (bare_nodes ns) e ≡ stream_any outcome C h ns e
    bare_stream_any no_nodes e = refl
    bare_stream_any (node_then n ns) e =
        ap (λ xs. append xs (stream_any outcome C h (bare_nodes ns) e)) (bare_stream n e)
        ∙ ap (append (stream outcome C h n e)) (bare_stream_any ns e)

    bare_stream_arms : (arms : Arms) (e : Bindings) → stream_arms outcome C h (bare_arms arms) e ≡ stream_arms outcome C h arms e
    bare_stream_arms no_arms e = refl
    bare_stream_arms (arm_then l n arms) e =
        ap (λ xs. append xs (stream_arms outcome C h (bare_arms arms) e)) (bare_stream n e)
        ∙ ap (append (stream outcome C h n e)) (bare_stream_arms arms e)

bare_bool : (t : Bool) → is_bound (if t then 1 else 0) ≡ t
bare_bool true = refl
bare_bool false = refl

bare_bound : (i : ℕ) → is_bound (bare_inst i) ≡ is_bound i
bare_bound i = bare_bool (is_bound i)

bare_ready : (is : List ℕ) (vs : List (Option Val)) → ready (map bare_inst is) vs ≡ ready is vs
bare_ready [] [] = refl
bare_ready [] (v ∷ vs) = refl
bare_ready (i ∷ is) [] = refl
bare_ready (i ∷ is) (None ∷ vs) =
    ap (λ t. if t then false else ready (map bare_inst is) vs) (bare_bound i)
    ∙ ap (λ r. if is_bound i then false else r) (bare_ready is vs)
bare_ready (i ∷ is) (Some v ∷ vs) = bare_ready is vs

bare_enter : (ys is : List ℕ) (vs : List (Option Val)) (x : ℕ) → enter ys (map bare_inst is) vs x ≡ enter ys is vs x
bare_enter [] is vs x = refl
bare_enter (y ∷ ys) [] vs x = refl
bare_enter (y ∷ ys) (i ∷ is) [] x = refl
bare_enter (y ∷ ys) (i ∷ is) (v ∷ vs) x =
    ap (λ t. if nat_eq x y then (if t then v else None) else enter ys (map bare_inst is) vs x) (bare_bound i)
    ∙ ap (λ o. if nat_eq x y then (if is_bound i then v else None) else o) (bare_enter ys is vs x)

bare_leave : (ys is : List ℕ) (e : Bindings) → leave ys (map bare_inst is) e ≡ leave ys is e
bare_leave [] is e = refl
bare_leave (y ∷ ys) [] e = refl
bare_leave (y ∷ ys) (i ∷ is) e =
    ap (λ t. (if t then e y else None) ∷ leave ys (map bare_inst is) e) (bare_bound i)
    ∙ ap (λ os. (if is_bound i then e y else None) ∷ os) (bare_leave ys is e)

module _ (outcome : Builtin → List Val → Outcome) where
  bare_body : (C : Calls) (h : ℕ) (p : Procedure) (vs : List (Option Val)) → body_items outcome C h (bare_procedure p) vs ≡ body_items outcome C h p vs
  bare_body C h p vs =
      ap (λ t. if t then pruned_to p.det.committed (bind (stream outcome C h (bare_node p.body) (enter p.head (map bare_inst p.first) vs)) (λ a. Answer (leave p.head (map bare_inst p.last) a) End)) else Stuck) (bare_ready p.first vs)
      ∙ ap (λ (xs : Items (List (Option Val))). if ready p.first vs then pruned_to p.det.committed xs else Stuck) (
      ap (λ (xs : Items Bindings). bind xs (λ a. Answer (leave p.head (map bare_inst p.last) a) End)) (bare_stream outcome C h p.body (enter p.head (map bare_inst p.first) vs) ∙ ap (stream outcome C h p.body) (fun_ext (bare_enter p.head p.first vs)))
      ∙ ap (λ (k : Bindings → Items (List (Option Val))). bind (stream outcome C h p.body (enter p.head p.first vs)) k) (fun_ext (λ a. ap (λ os. Answer os End) (bare_leave p.head p.last a))))

  module _ (procs : ℕ → Procedure) where
    bare_calls : (m h p : ℕ) (vs : List (Option Val)) → calls outcome (each_bare procs) m h p vs ≡ calls outcome procs m h p vs
    bare_calls zero h p vs = refl
    bare_calls (suc m) h p vs =
        ap (Called (record { proc = p; args = vs }))
        (bare_body (calls outcome (each_bare procs) m) h (procs p) vs
        ∙ ap (λ (C : Calls). body_items outcome C h (procs p) vs)
        (fun_ext (λ k. fun_ext (λ q. fun_ext (λ ws. bare_calls m k q ws)))))

    same_calls : (m : ℕ) → calls outcome (each_bare procs) m ≡ calls outcome procs m
    same_calls m = fun_ext (λ h. fun_ext (λ p. fun_ext (λ vs. bare_calls m h p vs)))

pub goals_run_bare : GoalsRunBare
goals_run_bare outcome procs n h g e =
    ap (cut n) (bare_stream outcome (calls outcome (each_bare procs) (suc n)) h g e ∙ ap (λ (C : Calls). stream outcome C h g e) (same_calls outcome procs (suc n)))

pub calls_run_bare : CallsRunBare
calls_run_bare outcome procs n h k vs = ap (λ (C : Calls). cut n (below h (λ j. C j k vs))) (same_calls outcome procs (suc n))

pub queries_run_bare : QueriesRunBare
queries_run_bare outcome procs n h q =
    ap (cut n) (bare_body outcome (calls outcome (each_bare procs) (suc n)) h q (map (λ x. None) q.head) ∙ ap (λ (C : Calls). body_items outcome C h q (map (λ x. None) q.head)) (same_calls outcome procs (suc n)))
