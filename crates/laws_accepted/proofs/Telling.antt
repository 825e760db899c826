-- An ordered goal stays ordered where its determinisms and marks are told.
use Rattle.std.proofs.Common.{◌≡◌, inl, inr, ℕ, List, [], ◌∷◌, ◌++◌, Bool, true, false, not, ◌||◌, Option, Some, None, refl, sym, ap, ap₂, ◌∙◌, subst, ⊎_elim}
use Rattle.std.proofs.Math.Path.{fun_ext}
use Rattle.std.proofs.lemmas.List.{append-nil, append_assoc}
use Rattle.mc_program.specs.Programs.{TypeTerm}
use Rattle.mc_source.specs.Determinism.{inferred, semidet, is_zero}
use Rattle.mc_source.specs.declared.det.Det.{Det}
use Rattle.mc_model.specs.Outcomes.{inputs_of}
use Rattle.mc_model.specs.Flat.{Flat_goal, Flat_goals, variables_of, variables_of_all, free_in}
use Rattle.mc_model.specs.Lists.{without}
use Rattle.mc_model.specs.Scheduled.{Label, Node, node, Scheduled, Test, Apply, Nodes, no_nodes, node_then, Arms, Procedure}
use Rattle.mc_model.specs.Stream.{is_bound}
use Rattle.mc_model.specs.Good.{System}
use Rattle.mc_accepted.specs.Ordered as R
use Rattle.mc_accepted.specs.Ordered.{Insts, Mode, plain_modes, modes_of, Freshened, FreshenedHere, at_inputs, at_outputs, tested_by, binds_one, is_pruned, IsEmpty, Opens, OpensScheduled, OneOpens, EachOpens, EachArmOpens, IsEquation, AbsentFrom, UsableAt, KeepsChanges, Ordered, OrderedNode, OrderedAll, OrderedAny, OrderedArms, kept, variables_of_node, variables_of_scheduled, variables_of_nodes, variables_of_arms}
use Rattle.mc_accepted.specs.Determined.{Known, learned, insts_after}
use Rattle.mc_accepted.specs.MergedArms.{never_ends_in}
use Rattle.mc_accepted.specs.Fits.{type_of}
use Rattle.mc_accepted.specs.Accepted.{KeepsDeterminism, KeepsInside, AllKeep, EachKeeps, ArmsKeep}
use Rattle.laws_accepted.specs.Told as W
use Rattle.mc_accepted.specs.PrunedMarks.{is_marked, mark_of, KeepsMarks, MarksInside, AllKeepMarks, EachKeepsMarks, ArmsKeepMarks}
use Rattle.laws_accepted.specs.Told.{Retold, RetoldIn, RetoldAll, RetoldArms, retold}
use Rattle.laws_accepted.specs.AcceptedLaws.{ToldStaysOrdered}
use Rattle.laws_accepted.proofs.Ends.{is_none, after_kept, ends_in, ends_node}
use Rattle.laws_accepted.proofs.Outside.{Same, same_self, same_append, same_binds, same_onto, pairs, binds_nothing, fresh_same}

-- ---- a goal that is told has the variables of the goal
mutual
  pub told_variables : {n m : Node} → Retold n m → variables_of_node m ≡ variables_of_node n
  told_variables (retold r) = told_variables_in r

  told_variables_in : {s t : Scheduled} → RetoldIn s t → variables_of_scheduled t ≡ variables_of_scheduled s
  told_variables_in (W.conj r) = told_variables_all r
  told_variables_in (W.disj r) = told_variables_all r
  told_variables_in (W.switch {x = x} r) = ap (λ xs. x ∷ xs) (told_variables_arms r)
  told_variables_in (W.ite {vs = vs} c t e) = ap (λ xs. vs ++ xs) (ap₂ (λ xs ys. xs ++ ys) (told_variables c) (ap₂ (λ xs ys. xs ++ ys) (told_variables t) (told_variables e)))
  told_variables_in (W.neg r) = told_variables r
  told_variables_in (W.some {vs = vs} r) = ap (λ xs. vs ++ xs) (told_variables r)
  told_variables_in W.assign = refl
  told_variables_in W.test = refl
  told_variables_in W.build = refl
  told_variables_in W.take = refl
  told_variables_in W.put = refl
  told_variables_in W.test_constant = refl
  told_variables_in W.call = refl
  told_variables_in W.apply = refl

  pub told_variables_all : {ns ms : Nodes} → RetoldAll ns ms → variables_of_nodes ms ≡ variables_of_nodes ns
  told_variables_all W.done = refl
  told_variables_all (W.next r rs) = ap₂ (λ xs ys. xs ++ ys) (told_variables r) (told_variables_all rs)

  told_variables_arms : {ks ls : Arms} → RetoldArms ks ls → variables_of_arms ls ≡ variables_of_arms ks
  told_variables_arms W.no_arm = refl
  told_variables_arms (W.arm r rs) = ap₂ (λ xs ys. xs ++ ys) (told_variables r) (told_variables_arms rs)

-- ---- it opens what the goal opens
told_equation : {n m : Node} → Retold n m → IsEquation n → IsEquation m
told_equation (retold (W.conj r)) e = absurd e
told_equation (retold (W.disj r)) e = absurd e
told_equation (retold (W.switch r)) e = absurd e
told_equation (retold (W.ite c t f)) e = absurd e
told_equation (retold (W.neg r)) e = absurd e
told_equation (retold (W.some r)) e = absurd e
told_equation (retold W.assign) e = tt
told_equation (retold W.test) e = tt
told_equation (retold W.build) e = tt
told_equation (retold W.take) e = tt
told_equation (retold W.put) e = tt
told_equation (retold W.test_constant) e = tt
told_equation (retold W.call) e = absurd e
told_equation (retold W.apply) e = absurd e

module _ (x : ℕ) (l : Label) where
  mutual
    pub told_opens : {n m : Node} → Retold n m → Opens x l n → Opens x l m
    told_opens (retold r) h = told_opens_in r h

    told_opens_in : {s t : Scheduled} → RetoldIn s t → OpensScheduled x l s → OpensScheduled x l t
    told_opens_in (W.conj r) h = one_opens r h
    told_opens_in (W.disj r) h = each_opens r h
    told_opens_in (W.switch r) h = arms_open r h
    told_opens_in (W.ite c t f) h = absurd h
    told_opens_in (W.neg r) h = absurd h
    told_opens_in (W.some r) h = told_opens r h
    told_opens_in W.assign h = absurd h
    told_opens_in W.test h = absurd h
    told_opens_in W.build h = absurd h
    told_opens_in W.take h = h
    told_opens_in W.put h = absurd h
    told_opens_in W.test_constant h = h
    told_opens_in W.call h = absurd h
    told_opens_in W.apply h = absurd h

    one_opens : {ns ms : Nodes} → RetoldAll ns ms → OneOpens x l ns → OneOpens x l ms
    one_opens W.done h = absurd h
    one_opens (W.next r rs) h = (told_equation r h.0, ⊎_elim (λ a. inl (told_opens r a)) (λ a. inr (one_opens rs a)) h.1)

    each_opens : {ns ms : Nodes} → RetoldAll ns ms → EachOpens x l ns → EachOpens x l ms
    each_opens W.done h = tt
    each_opens (W.next r rs) h = (told_opens r h.0, each_opens rs h.1)

    arms_open : {ks ls : Arms} → RetoldArms ks ls → EachArmOpens x l ks → EachArmOpens x l ls
    arms_open W.no_arm h = tt
    arms_open (W.arm r rs) h = (told_opens r h.0, arms_open rs h.1)

told_absent : (l : Label) {ks ls : Arms} → RetoldArms ks ls → AbsentFrom l ks → AbsentFrom l ls
told_absent l W.no_arm h = tt
told_absent l (W.arm r rs) h = (h.0, told_absent l rs h.1)

-- an empty conjunction has no variables, and stays one where it isn't marked
empty_variables : {t u : Node} → IsEmpty t → Retold t u → variables_of_node u ≡ []
empty_variables e (retold (W.conj W.done)) = refl
empty_variables e (retold (W.conj (W.next r rs))) = absurd e
empty_variables e (retold (W.disj r)) = absurd e
empty_variables e (retold (W.switch r)) = absurd e
empty_variables e (retold (W.ite c t f)) = absurd e
empty_variables e (retold (W.neg r)) = absurd e
empty_variables e (retold (W.some r)) = absurd e
empty_variables e (retold W.assign) = absurd e
empty_variables e (retold W.test) = absurd e
empty_variables e (retold W.build) = absurd e
empty_variables e (retold W.take) = absurd e
empty_variables e (retold W.put) = absurd e
empty_variables e (retold W.test_constant) = absurd e
empty_variables e (retold W.call) = absurd e
empty_variables e (retold W.apply) = absurd e

empty_told : {t u : Node} → IsEmpty t → Retold t u → is_marked u ≡ false → IsEmpty u
empty_told e (retold (W.conj W.done)) q = (e.0, q)
empty_told e (retold (W.conj (W.next r rs))) q = absurd e
empty_told e (retold (W.disj r)) q = absurd e
empty_told e (retold (W.switch r)) q = absurd e
empty_told e (retold (W.ite c t f)) q = absurd e
empty_told e (retold (W.neg r)) q = absurd e
empty_told e (retold (W.some r)) q = absurd e
empty_told e (retold W.assign) q = absurd e
empty_told e (retold W.test) q = absurd e
empty_told e (retold W.build) q = absurd e
empty_told e (retold W.take) q = absurd e
empty_told e (retold W.put) q = absurd e
empty_told e (retold W.test_constant) q = absurd e
empty_told e (retold W.call) q = absurd e
empty_told e (retold W.apply) q = absurd e

module _ (S : System) (p : Procedure) where
  abbrev T : ℕ → TypeTerm
  T = type_of S p

  -- a mark by the relation is a mark by what is told
  mark_told : (Q Z : List ℕ) (b : Insts) (t : Scheduled) (changes : List (ℕ × ℕ)) (d : Det) (m : Bool) (o : Option Insts) → Same Q Z → never_ends_in S T b t ≡ is_none o → KeepsChanges b o changes → is_pruned Q b o ≡ mark_of S T Z b (node t changes d m)
  mark_told Q Z b t changes d m None same e k = sym (ap (λ u. not (u || binds_one Z b (insts_after (node t changes d m) b))) e)
  mark_told Q Z b t changes d m (Some c) same e k =
      ap not (same_binds Q Z b c same ∙ ap (λ e. binds_one Z b e) (fun_ext k.0)) ∙ sym (ap (λ u. not (u || binds_one Z b (insts_after (node t changes d m) b))) e)

  -- the tests behind a builtin with implied outputs stay as they are
  record TestsTold (known : Known) (Z : List ℕ) (c : Insts) (tests : List (ℕ × ℕ)) (ns ms : Nodes) : Type 0 where
    rest : Nodes
    outside : List ℕ
    same : Same (Z ++ pairs tests) outside
    are : ms ≡ tested_by tests rest
    retold_rest : RetoldAll ns rest
    marks : AllKeepMarks S T outside c rest
    dets : AllKeep S p c known rest

  test_det : (known : Known) (c : Insts) (x y : ℕ) (d : Det) (m : Bool) → m ≡ true → KeepsDeterminism S p c known (node (Test x y) [] d m) → d ≡ inferred semidet
  test_det known c x y d true e k = k.0
  test_det known c x y d false e k = cc

  tests_told : (known : Known) (Z : List ℕ) (c : Insts) (tests : List (ℕ × ℕ)) (ns ms : Nodes) → RetoldAll (tested_by tests ns) ms → AllKeepMarks S T Z c ms → AllKeep S p c known ms → TestsTold known Z c tests ns ms
  tests_told known Z c [] ns ms r marks dets = record { rest = ms; outside = Z; same = subst (λ xs. Same xs Z) (sym (append-nil Z)) (same_self Z); are = refl; retold_rest = r; marks = marks; dets = dets }
  tests_told known Z c (t ∷ ts) ns no_nodes r marks dets = elim r [ ]
  tests_told known Z c (t ∷ ts) ns (node_then _ _) (W.next (retold {e = d} {l = m} W.test) rs) marks dets =
      let later = tests_told known (Z ++ (t.0 ∷ t.1 ∷ [])) c ts ns _ rs marks.1 dets.1 in
      let is_true : m ≡ true = marks.0.0 ∙ ap not (binds_nothing _ c) in
      record {
        rest = later.rest;
        outside = later.outside;
        same = subst (λ xs. Same xs later.outside) (append_assoc Z (t.0 ∷ t.1 ∷ []) (pairs ts)) later.same;
        are = ap₂ node_then (ap₂ (λ e l. node (Test t.0 t.1) [] e l) (test_det known c t.0 t.1 d m is_true dets.0) is_true) later.are;
        retold_rest = later.retold_rest;
        marks = later.marks;
        dets = later.dets;
      }

  mutual
    told_in : {O Q : List ℕ} {b : Insts} {g : Flat_goal} {s t : Scheduled} {o : Option Insts} → Ordered S T O Q b g s o → RetoldIn s t → (Z : List ℕ) → Same Q Z → (known : Known) → MarksInside S T Z b t → KeepsInside S p b known t → Ordered S T O Q b g t o
    told_in (R.assign bx by nd) W.assign Z same known marks dets = R.assign bx by nd
    told_in (R.assign_back bx by nd) W.assign Z same known marks dets = R.assign_back bx by nd
    told_in (R.test bx by st nd) W.test Z same known marks dets = R.test bx by st nd
    told_in (R.build bx ab ns nd over) W.build Z same known marks dets = R.build bx ab ns nd over
    told_in (R.take bx nd a over) W.take Z same known marks dets = R.take bx nd a over
    told_in (R.take_never bx nd never) W.take Z same known marks dets = R.take_never bx nd never
    told_in (R.put bx) W.put Z same known marks dets = R.put bx
    told_in (R.test_constant bx nd a) W.test_constant Z same known marks dets = R.test_constant bx nd a
    told_in (R.test_never bx nd never) W.test_constant Z same known marks dets = R.test_never bx nd never
    told_in (R.call lt u nd a) W.call Z same known marks dets = R.call lt u nd a
    told_in (R.apply e u nd i a) W.apply Z same known marks dets = R.apply e u nd i a
    told_in (R.implied_alone h) (W.conj (W.next r1 (W.next r2 rs))) Z same known marks dets = R.implied_alone (told_all h (W.next r1 (W.next r2 rs)) Z same known marks dets)
    told_in (R.conj h) (W.conj r) Z same known marks dets = R.conj (told_all h r Z same known marks dets)
    told_in (R.disj h j) (W.disj r) Z same known marks dets = R.disj (told_any h r Z same known marks dets) j
    told_in (R.switch bx i h j) (W.switch r) Z same known marks dets = R.switch bx i (told_arms h r Z same known marks dets) j
    told_in (R.ite {O = O} {Q = Q} {b = b} {c = c} {vs = vs} {g = g} {h = h} {k = k} {n = n} {t = t} {o = o} out x none y z j) (W.ite {k = n'} {u = t'} rc rt re) Z same known marks dets =
        (let x' = told_node x rc (Z ++ variables_of_node t') (subst (λ ws. Same (Q ++ ws) (Z ++ variables_of_node t')) (told_variables rt) (same_append Q Z (variables_of_node t') same)) known marks.0 dets.0 in
        let at : insts_after n' b ≡ c = sym (after_kept S T x') in
        let y' = told_node y rt (Z ++ variables_of_node n') (subst (λ ws. Same (Q ++ ws) (Z ++ variables_of_node n')) (told_variables rc) (same_append Q Z (variables_of_node n') same)) known
        (subst (λ e. KeepsMarks S T (Z ++ variables_of_node n') e t') at (marks.1 (ends_node S T x'))) (subst (λ e. KeepsDeterminism S p e known t') at dets.1) in
        R.ite out (subst (λ ws. OrderedNode S T (O ++ (without (free_in g) vs ++ variables_of h)) (Q ++ ws) b g n' (Some c)) (sym (told_variables rt)) x') none
        (subst (λ ws. OrderedNode S T (O ++ variables_of g) (Q ++ ws) c h t' o) (sym (told_variables rc)) y') (told_node z re Z same known marks.3 dets.2) j)
    told_in (R.ite_never {Q = Q} {b = b} out x e z j) (W.ite {u = t'} rc rt re) Z same known marks dets =
        (let x' = told_node x rc (Z ++ variables_of_node t')
        (subst (λ ws. Same Q (Z ++ ws)) (sym (empty_variables e rt)) (subst (Same Q) (sym (append-nil Z)) same)) known marks.0 dets.0 in
        R.ite_never out x' (empty_told e rt (marks.2 (ends_node S T x'))) (told_node z re Z same known marks.3 dets.2) j)
    told_in (R.neg x none) (W.neg r) Z same known marks dets = R.neg (told_node x r Z same known marks dets) none
    told_in (R.some out x) (W.some r) Z same known marks dets = R.some out (told_node x r Z same known marks dets)

    told_node : {O Q : List ℕ} {b : Insts} {g : Flat_goal} {n m : Node} {o : Option Insts} → OrderedNode S T O Q b g n o → Retold n m → (Z : List ℕ) → Same Q Z → (known : Known) → KeepsMarks S T Z b m → KeepsDeterminism S p b known m → OrderedNode S T O Q b g m o
    told_node (kept {O = O} {Q = Q} {b = b} {g = g} {o = o} r k) (retold {t = t} {changes = changes} {e = d} {l = m} rs) Z same known marks dets =
        (let r' = told_in r rs Z same known marks.1 dets.1 in
        subst (λ l. OrderedNode S T O Q b g (node t changes d l) o) (mark_told Q Z b t changes d m o same (ends_in S T r') k ∙ sym marks.0) (kept r' k))

    told_all : {O Q : List ℕ} {b : Insts} {gs : Flat_goals} {ns ms : Nodes} {o : Option Insts} → OrderedAll S T O Q b gs ns o → RetoldAll ns ms → (Z : List ℕ) → Same Q Z → (known : Known) → AllKeepMarks S T Z b ms → AllKeep S p b known ms → OrderedAll S T O Q b gs ms o
    told_all R.done W.done Z same known marks dets = R.done
    told_all (R.dropped {Q = Q} pk h) (W.next r W.done) Z same known marks dets = R.dropped pk (told_node h r (Z ++ []) (subst (Same Q) (sym (append-nil Z)) same) known marks.0 dets.0)
    told_all (R.next {O = O} {Q = Q} {b = b} {c = c} {g = g} {rest = rest} {n = n} {ns = ns} {o = o} pk h hs) (W.next {m = n'} {ms = ns'} r rs) Z same known marks dets =
        (let h' = told_node h r (Z ++ variables_of_nodes ns') (subst (λ ws. Same (Q ++ ws) (Z ++ variables_of_nodes ns')) (told_variables_all rs) (same_append Q Z (variables_of_nodes ns') same)) known marks.0 dets.0 in
        let at : insts_after n' b ≡ c = sym (after_kept S T h') in
        let hs' = told_all hs rs (Z ++ variables_of_node n') (subst (λ ws. Same (Q ++ ws) (Z ++ variables_of_node n')) (told_variables r) (same_append Q Z (variables_of_node n') same)) known
        (subst (λ e. AllKeepMarks S T (Z ++ variables_of_node n') e ns') at marks.1) (subst (λ e. AllKeep S p e known ns') at dets.1) in
        R.next pk (subst (λ ws. OrderedNode S T (O ++ variables_of_all rest) (Q ++ ws) b g n' (Some c)) (sym (told_variables_all rs)) h')
        (subst (λ ws. OrderedAll S T (O ++ variables_of g) (Q ++ ws) c rest ns' o) (sym (told_variables r)) hs'))
    told_all (R.implied_outputs {O = O} {Q = Q} {b = b} {c = c} {op = op} {xs = xs} {zs = zs} {gs = gs} {rest = rest} {changes = changes} {ns = ns} {o = o} tests pk e most f nd di ap1 ts u i a k r) (W.next {ms = ms} (retold {e = d} {l = m} W.apply) rs) Z same known marks dets =
        (let args : List ℕ = at_inputs (inputs_of op) zs ++ at_outputs (inputs_of op) zs in
        let told = tests_told known (Z ++ args) c tests ns ms rs (subst (λ e. AllKeepMarks S T (Z ++ args) e ms) (sym (fun_ext k.0)) marks.1) (subst (λ e. AllKeep S p e known ms) (sym (fun_ext k.0)) dets.1) in
        let same_rest : Same (Q ++ (xs ++ zs)) told.outside = same_onto (Q ++ (xs ++ zs)) (Z ++ (xs ++ zs)) told.outside (same_append Q Z (xs ++ zs) same)
        (same_onto (Z ++ (xs ++ zs)) (Z ++ (args ++ pairs tests)) told.outside (fresh_same S T Z op xs zs tests 0 (R.implied_places 0 (modes_of op) xs (λ x. is_bound (b x))) f b u) (subst (λ ws. Same ws told.outside) (append_assoc Z args (pairs tests)) told.same)) in
        let rest' = told_all r told.retold_rest told.outside same_rest known told.marks told.dets in
        subst (λ l. OrderedAll S T O Q b gs (node_then (node (Apply op (at_inputs (inputs_of op) zs) (at_outputs (inputs_of op) zs)) changes d l) ms) o)
        (mark_told (Q ++ variables_of_nodes ms) (Z ++ variables_of_nodes ms) b (Apply op (at_inputs (inputs_of op) zs) (at_outputs (inputs_of op) zs)) changes d m (Some c) (same_append Q Z (variables_of_nodes ms) same) (ap is_zero most) k ∙ sym marks.0.0)
        (subst (λ ms. OrderedAll S T O Q b gs (node_then (node (Apply op (at_inputs (inputs_of op) zs) (at_outputs (inputs_of op) zs)) changes d (is_pruned (Q ++ variables_of_nodes ms) b (Some c))) ms) o) (sym told.are)
        (R.implied_outputs tests pk e most f nd di ap1 ts u i a k rest')))

    told_any : {O Q : List ℕ} {b : Insts} {gs : Flat_goals} {ns ms : Nodes} {os : List (Option Insts)} → OrderedAny S T O Q b gs ns os → RetoldAll ns ms → (Z : List ℕ) → Same Q Z → (known : Known) → EachKeepsMarks S T Z b ms → EachKeeps S p b known ms → OrderedAny S T O Q b gs ms os
    told_any R.no_other W.done Z same known marks dets = R.no_other
    told_any (R.either h hs) (W.next r rs) Z same known marks dets = R.either (told_node h r Z same known marks.0 dets.0) (told_any hs rs Z same known marks.1 dets.1)

    told_arms : {O Q : List ℕ} {b : Insts} {x : ℕ} {gs : Flat_goals} {ks ls : Arms} {os : List (Option Insts)} → OrderedArms S T O Q b x gs ks os → RetoldArms ks ls → (Z : List ℕ) → Same Q Z → (known : Known) → ArmsKeepMarks S T Z b ls → ArmsKeep S p b known x ls → OrderedArms S T O Q b x gs ls os
    told_arms R.no_arm W.no_arm Z same known marks dets = R.no_arm
    told_arms (R.arm {x = x} {l = l} pt il opens absent h hs) (W.arm r rs) Z same known marks dets =
        R.arm pt il (told_opens x l r opens) (told_absent l rs absent) (told_node h r Z same (learned x l known) marks.0 dets.0) (told_arms hs rs Z same known marks.1 dets.1)

pub told_stays_ordered : ToldStaysOrdered
told_stays_ordered S p O Q b known g n m o h r marks dets = told_node S p h r Q (same_self Q) known marks dets
