-- Goals that are told alike: a goal is told as itself, two that one goal is told as are told as each
-- other, and such goals leave the same points unreachable and open the same variables.
use Rattle.std.proofs.Common.{◌≡◌, ℕ, false, [], ◌++◌, if◌then◌else◌, ◌&&◌, ◌||◌, refl, ap, ap₂, sym, ◌∙◌, subst}
use Rattle.mc_program.specs.Programs.{TypeTerm}
use Rattle.mc_source.specs.Determinism.{inferred, det}
use Rattle.mc_model.specs.Scheduled.{Node, node, Scheduled, Conj, Disj, Switch, Ite, Not, Exists, Assign, Test, Build, Take, Const, TestConst, Call, Apply, Nodes, no_nodes, node_then, Arms, no_arms, arm_then}
use Rattle.mc_model.specs.Good.{System}
use Rattle.mc_accepted.specs.Ordered.{Insts, change_at}
use Rattle.mc_accepted.specs.Determined.{insts_after}
use Rattle.mc_accepted.specs.Unmarked.{all_kept, changed_node, changed_nodes, untold_scheduled, untold_arms}
use Rattle.mc_accepted.specs.Switched.{is_equation, openings, openings_in, openings_all}
use Rattle.mc_accepted.specs.MergedArms.{never_ends, never_ends_in, one_never_ends, each_never_ends, each_arm_never_ends}
use Rattle.laws_accepted.specs.Told as W
use Rattle.laws_accepted.specs.Told.{Retold, RetoldIn, RetoldAll, RetoldArms, retold, ChangedIsRetold}

mutual
  pub self : (n : Node) → Retold n n
  self (node s changes d m) = retold (self_in s)

  pub self_in : (s : Scheduled) → RetoldIn s s
  self_in (Conj ns) = W.conj (self_all ns)
  self_in (Disj ns) = W.disj (self_all ns)
  self_in (Switch x arms) = W.switch (self_arms arms)
  self_in (Ite vs c t e) = W.ite (self c) (self t) (self e)
  self_in (Not n) = W.neg (self n)
  self_in (Exists vs n) = W.some (self n)
  self_in (Assign x y) = W.assign
  self_in (Test x y) = W.test
  self_in (Build x s ys) = W.build
  self_in (Take x s ys) = W.take
  self_in (Const x v) = W.put
  self_in (TestConst x v) = W.test_constant
  self_in (Call p xs implied last) = W.call
  self_in (Apply op xs ys) = W.apply

  self_all : (ns : Nodes) → RetoldAll ns ns
  self_all no_nodes = W.done
  self_all (node_then n ns) = W.next (self n) (self_all ns)

  self_arms : (arms : Arms) → RetoldArms arms arms
  self_arms no_arms = W.no_arm
  self_arms (arm_then l n arms) = W.arm (self n) (self_arms arms)

mutual
  pub both_told : {n m k : Node} → Retold n m → Retold n k → Retold m k
  both_told (retold r) (retold q) = retold (both_in r q)

  pub both_in : {s t u : Scheduled} → RetoldIn s t → RetoldIn s u → RetoldIn t u
  both_in (W.conj r) (W.conj q) = W.conj (both_all r q)
  both_in (W.disj r) (W.disj q) = W.disj (both_all r q)
  both_in (W.switch r) (W.switch q) = W.switch (both_arms r q)
  both_in (W.ite c t e) (W.ite k u f) = W.ite (both_told c k) (both_told t u) (both_told e f)
  both_in (W.neg r) (W.neg q) = W.neg (both_told r q)
  both_in (W.some r) (W.some q) = W.some (both_told r q)
  both_in W.assign W.assign = W.assign
  both_in W.test W.test = W.test
  both_in W.build W.build = W.build
  both_in W.take W.take = W.take
  both_in W.put W.put = W.put
  both_in W.test_constant W.test_constant = W.test_constant
  both_in W.call W.call = W.call
  both_in W.apply W.apply = W.apply

  both_all : {ns ms ks : Nodes} → RetoldAll ns ms → RetoldAll ns ks → RetoldAll ms ks
  both_all W.done W.done = W.done
  both_all (W.next r rs) (W.next q qs) = W.next (both_told r q) (both_all rs qs)

  both_arms : {ns ms ks : Arms} → RetoldArms ns ms → RetoldArms ns ks → RetoldArms ms ks
  both_arms W.no_arm W.no_arm = W.no_arm
  both_arms (W.arm r rs) (W.arm q qs) = W.arm (both_told r q) (both_arms rs qs)

-- ---- a goal is told as its order, with what it changes
mutual
  changed_told : (n : Node) → Retold (changed_node n) n
  changed_told (node s changes d m) = retold (changed_told_in s)

  changed_told_in : (s : Scheduled) → RetoldIn (untold_scheduled all_kept s) s
  changed_told_in (Conj ns) = W.conj (changed_told_all ns)
  changed_told_in (Disj ns) = W.disj (changed_told_all ns)
  changed_told_in (Switch x arms) = W.switch (changed_told_arms arms)
  changed_told_in (Ite vs c t e) = W.ite (changed_told c) (changed_told t) (changed_told e)
  changed_told_in (Not n) = W.neg (changed_told n)
  changed_told_in (Exists vs n) = W.some (changed_told n)
  changed_told_in (Assign x y) = W.assign
  changed_told_in (Test x y) = W.test
  changed_told_in (Build x s ys) = W.build
  changed_told_in (Take x s ys) = W.take
  changed_told_in (Const x v) = W.put
  changed_told_in (TestConst x v) = W.test_constant
  changed_told_in (Call p xs implied last) = W.call
  changed_told_in (Apply op xs ys) = W.apply

  changed_told_all : (ns : Nodes) → RetoldAll (changed_nodes ns) ns
  changed_told_all no_nodes = W.done
  changed_told_all (node_then n ns) = W.next (changed_told n) (changed_told_all ns)

  changed_told_arms : (arms : Arms) → RetoldArms (untold_arms all_kept arms) arms
  changed_told_arms no_arms = W.no_arm
  changed_told_arms (arm_then l n arms) = W.arm (changed_told n) (changed_told_arms arms)

mutual
  told_changed : {n m : Node} → Retold n m → changed_node n ≡ changed_node m
  told_changed (retold {changes = changes} r) = ap (λ s. node s changes (inferred det) false) (told_changed_in r)

  told_changed_in : {s t : Scheduled} → RetoldIn s t → untold_scheduled all_kept s ≡ untold_scheduled all_kept t
  told_changed_in (W.conj r) = ap Conj (told_changed_all r)
  told_changed_in (W.disj r) = ap Disj (told_changed_all r)
  told_changed_in (W.switch {x = x} r) = ap (Switch x) (told_changed_arms r)
  told_changed_in (W.ite {vs = vs} {t = t} {e = e} {k = k} {u = u} p q r) =
      ap (λ x. Ite vs x (changed_node t) (changed_node e)) (told_changed p) ∙ ap (λ x. Ite vs (changed_node k) x (changed_node e)) (told_changed q) ∙ ap (λ x. Ite vs (changed_node k) (changed_node u) x) (told_changed r)
  told_changed_in (W.neg r) = ap Not (told_changed r)
  told_changed_in (W.some {vs = vs} r) = ap (Exists vs) (told_changed r)
  told_changed_in W.assign = refl
  told_changed_in W.test = refl
  told_changed_in W.build = refl
  told_changed_in W.take = refl
  told_changed_in W.put = refl
  told_changed_in W.test_constant = refl
  told_changed_in W.call = refl
  told_changed_in W.apply = refl

  told_changed_all : {ns ms : Nodes} → RetoldAll ns ms → changed_nodes ns ≡ changed_nodes ms
  told_changed_all W.done = refl
  told_changed_all (W.next r rs) = ap₂ node_then (told_changed r) (told_changed_all rs)

  told_changed_arms : {ks ls : Arms} → RetoldArms ks ls → untold_arms all_kept ks ≡ untold_arms all_kept ls
  told_changed_arms W.no_arm = refl
  told_changed_arms (W.arm {l = l} r rs) = ap₂ (arm_then l) (told_changed r) (told_changed_arms rs)

pub changed_is_retold : ChangedIsRetold
changed_is_retold n m = ((λ e. both_told (changed_told n) (subst (λ k. Retold k m) (sym e) (changed_told m))), (λ r. told_changed r))

module _ (S : System) (T : ℕ → TypeTerm) where
  mutual
    pub never_told : {n m : Node} → Retold n m → (b : Insts) → never_ends S T b n ≡ never_ends S T b m
    never_told (retold r) b = never_told_in r b

    never_told_in : {s t : Scheduled} → RetoldIn s t → (b : Insts) → never_ends_in S T b s ≡ never_ends_in S T b t
    never_told_in (W.conj r) b = one_told r b
    never_told_in (W.disj r) b = each_told r b
    never_told_in (W.switch r) b = arms_told r b
    never_told_in (W.ite (retold {changes = changes} c) t e) b = ap₂ (λ u v. u && v) (ap₂ (λ u v. u || v) (never_told_in c b) (never_told t (λ x. change_at x changes (b x)))) (never_told e b)
    never_told_in (W.neg r) b = refl
    never_told_in (W.some r) b = never_told r b
    never_told_in W.assign b = refl
    never_told_in W.test b = refl
    never_told_in W.build b = refl
    never_told_in W.take b = refl
    never_told_in W.put b = refl
    never_told_in W.test_constant b = refl
    never_told_in W.call b = refl
    never_told_in W.apply b = refl

    one_told : {ns ms : Nodes} → RetoldAll ns ms → (b : Insts) → one_never_ends S T b ns ≡ one_never_ends S T b ms
    one_told W.done b = refl
    one_told (W.next (retold {changes = changes} r) rs) b = ap₂ (λ u v. u || v) (never_told_in r b) (one_told rs (λ x. change_at x changes (b x)))

    each_told : {ns ms : Nodes} → RetoldAll ns ms → (b : Insts) → each_never_ends S T b ns ≡ each_never_ends S T b ms
    each_told W.done b = refl
    each_told (W.next r rs) b = ap₂ (λ u v. u && v) (never_told r b) (each_told rs b)

    arms_told : {ns ms : Arms} → RetoldArms ns ms → (b : Insts) → each_arm_never_ends S T b ns ≡ each_arm_never_ends S T b ms
    arms_told W.no_arm b = refl
    arms_told (W.arm r rs) b = ap₂ (λ u v. u && v) (never_told r b) (arms_told rs b)

-- ---- what a goal opens
told_is_equation : {n m : Node} → Retold n m → is_equation m ≡ is_equation n
told_is_equation (retold (W.conj r)) = refl
told_is_equation (retold (W.disj r)) = refl
told_is_equation (retold (W.switch r)) = refl
told_is_equation (retold (W.ite c t e)) = refl
told_is_equation (retold (W.neg r)) = refl
told_is_equation (retold (W.some r)) = refl
told_is_equation (retold W.assign) = refl
told_is_equation (retold W.test) = refl
told_is_equation (retold W.build) = refl
told_is_equation (retold W.take) = refl
told_is_equation (retold W.put) = refl
told_is_equation (retold W.test_constant) = refl
told_is_equation (retold W.call) = refl
told_is_equation (retold W.apply) = refl

mutual
  pub told_openings : {n m : Node} → Retold n m → openings m ≡ openings n
  told_openings (retold r) = told_openings_in r

  told_openings_in : {s t : Scheduled} → RetoldIn s t → openings_in t ≡ openings_in s
  told_openings_in (W.conj r) = told_openings_all r
  told_openings_in (W.disj r) = refl
  told_openings_in (W.switch r) = refl
  told_openings_in (W.ite c t e) = refl
  told_openings_in (W.neg r) = refl
  told_openings_in (W.some r) = told_openings r
  told_openings_in W.assign = refl
  told_openings_in W.test = refl
  told_openings_in W.build = refl
  told_openings_in W.take = refl
  told_openings_in W.put = refl
  told_openings_in W.test_constant = refl
  told_openings_in W.call = refl
  told_openings_in W.apply = refl

  told_openings_all : {ns ms : Nodes} → RetoldAll ns ms → openings_all ms ≡ openings_all ns
  told_openings_all W.done = refl
  told_openings_all (W.next {n = n} {m = m} {ns = ns} {ms = ms} r rs) =
      ap (λ t. if t then openings m ++ openings_all ms else []) (told_is_equation r) ∙ ap₂ (λ os us. if is_equation n then os ++ us else []) (told_openings r) (told_openings_all rs)

pub told_after : {n m : Node} → Retold n m → (b : Insts) → insts_after m b ≡ insts_after n b
told_after (retold r) b = refl
