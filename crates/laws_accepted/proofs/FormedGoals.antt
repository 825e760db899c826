-- An ordered goal is ordered in its switch form.
use Rattle.std.proofs.Common.{◌≡◌, ◌⊎◌, inl, inr, ℕ, List, [], ◌∷◌, ◌++◌, true, false, if◌then◌else◌, Option, Some, None, refl, sym, ap, ap₂, ◌∙◌, subst, ⊎_elim}
use Rattle.std.proofs.Math.Path.{fun_ext}
use Rattle.mc_program.specs.Programs.{TypeTerm}
use Rattle.mc_model.specs.Outcomes.{inputs_of}
use Rattle.mc_model.specs.Flat as F
use Rattle.mc_model.specs.Flat.{Flat_goal, Flat_goals, no_flat, flat_then, variables_of, variables_of_all, free_in}
use Rattle.mc_model.specs.Lists.{In, without}
use Rattle.mc_model.specs.Stream.{is_bound}
use Rattle.mc_model.specs.Scheduled.{Node, node, Scheduled, Conj, Switch, Ite, Not, Exists, Assign, Test, Build, Take, Const, TestConst, Call, Apply, Nodes, no_nodes, node_then}
use Rattle.mc_model.specs.Good.{System}
use Rattle.mc_accepted.specs.Fits.{FitsInsts}
use Rattle.mc_accepted.specs.Inclusion.{AllFree}
use Rattle.mc_accepted.specs.Ordered as R
use Rattle.mc_accepted.specs.Ordered.{Insts, change_at, at_inputs, at_outputs, tested_by, firsts, reachable, is_pruned, IsEmpty, KeepsChanges, Joined, Ordered, OrderedNode, OrderedAll, OrderedAny, kept, variables_of_node, variables_of_scheduled, variables_of_nodes}
use Rattle.mc_accepted.specs.Determined.{insts_after}
use Rattle.mc_accepted.specs.MergedArms.{ArmsMerge, ArmsMergeIn, ArmsMergeInAll, ArmsMergeInEach}
use Rattle.mc_accepted.specs.Switched.{Disjunct, openings, goals_of, label_in, is_told, openings_of, Kept, formed, formed_in, formed_all, disjuncts}
use Rattle.laws_language.proofs.FlatWhole.{in_or_not}
use Rattle.laws_accepted.proofs.Forms.{openings_kept, told}
use Rattle.laws_order.proofs.StandingFacts.{picks-goal, picks-rest, after-off}
use Rattle.laws_accepted.specs.Told as W
use Rattle.laws_accepted.specs.Told.{Retold, RetoldIn, RetoldAll, retold}
use Rattle.laws_accepted.specs.FormLaws.{BoundAreOutside, FormsStayOrdered}
use Rattle.laws_accepted.proofs.Ends.{after_kept, ends_node}
use Rattle.laws_accepted.proofs.Outside.{Same, same_self, same_append}
use Rattle.laws_accepted.proofs.FormVariables.{same_both, opened, form_alike, form_alike_all}
use Rattle.laws_accepted.proofs.Telling.{told_variables, told_variables_all}
use Rattle.laws_accepted.proofs.Retelling.{self_in, both_in, never_told, told_openings, told_after}
use Rattle.laws_accepted.proofs.Staying.{insts_at, merged_free, behind_tests, stays_node}
use Rattle.laws_accepted.proofs.Moving.{moved_in, same_apart, free_opened}
use Rattle.laws_accepted.proofs.Switching.{end_of, ends_of, FreeEnd, FineEnd, Each, none, more, each_merges, grouped_stands}
use Rattle.laws_language.proofs.FlatGoals.{in_either, in_left, in_right}

module _ (S : System) (T : ℕ → TypeTerm) (fits : FitsInsts S.insts) (keep : (before after : Insts) → Kept) where
  abbrev form : Insts → Node → Node
  form b n = formed S T keep b n

  abbrev forms : Insts → Nodes → Nodes
  forms b ns = formed_all S T keep b ns

  form_after : (b : Insts) (n : Node) (e : Insts) → insts_after (form b n) e ≡ insts_after n e
  form_after b (node s changes d m) e = refl

  -- an empty conjunction, however it is told
  empty_form : (b : Insts) {t u : Node} → IsEmpty t → Retold t u → Retold (form b u) t
  empty_form b e (retold (W.conj W.done)) = retold (W.conj W.done)
  empty_form b e (retold (W.conj (W.next r rs))) = absurd e
  empty_form b e (retold (W.disj r)) = absurd e
  empty_form b e (retold (W.switch r)) = absurd e
  empty_form b e (retold (W.ite c t f)) = absurd e
  empty_form b e (retold (W.neg r)) = absurd e
  empty_form b e (retold (W.some r)) = absurd e
  empty_form b e (retold W.assign) = absurd e
  empty_form b e (retold W.test) = absurd e
  empty_form b e (retold W.build) = absurd e
  empty_form b e (retold W.take) = absurd e
  empty_form b e (retold W.put) = absurd e
  empty_form b e (retold W.test_constant) = absurd e
  empty_form b e (retold W.call) = absurd e
  empty_form b e (retold W.apply) = absurd e

  -- the variables of the form of what is told
  form_same : (b : Insts) {n m : Node} → Retold n m → Same (variables_of_node n) (variables_of_node (form b m))
  form_same b {n = n} {m = m} w = let v = form_alike S T keep b m in subst (λ ws. Same ws (variables_of_node (form b m))) (told_variables w) (v.1, v.0)

  forms_same : (b : Insts) {ns ms : Nodes} → RetoldAll ns ms → Same (variables_of_nodes ns) (variables_of_nodes (forms b ms))
  forms_same b {ns = ns} {ms = ms} w = let v = form_alike_all S T keep b ms in subst (λ ws. Same ws (variables_of_nodes (forms b ms))) (told_variables_all w) (v.1, v.0)

  -- ---- the tests behind a builtin
  record TestsFormed (ts : List (ℕ × ℕ)) (ns ms : Nodes) : Type 0 where
    rest : Nodes
    same : RetoldAll ns rest
    told : (b : Insts) (ks : Nodes) → RetoldAll (forms b rest) ks → RetoldAll (forms b ms) (tested_by ts ks)
    merge : (b : Insts) → ArmsMergeInAll S T b (forms b ms) → ArmsMergeInAll S T b (forms b rest)

  tests_formed : (ts : List (ℕ × ℕ)) {ns ms : Nodes} → RetoldAll (tested_by ts ns) ms → TestsFormed ts ns ms
  tests_formed [] {ms = ms} r = record { rest = ms; same = r; told = λ b ks w. w; merge = λ b h. h }
  tests_formed (t ∷ ts) (W.next (retold W.test) rs) =
      let f = tests_formed ts rs in
      record { rest = f.rest; same = f.same; told = λ b ks w. W.next (retold W.test) (f.told b ks w); merge = λ b h. f.merge b h.1 }

  -- ---- what is bound
  part_outside : (O us : List ℕ) (b : Insts) (own part : List ℕ) → BoundAreOutside O b own → ((x : ℕ) → In x part → In x own) → BoundAreOutside (O ++ us) b part
  part_outside O us b own part h k x q i = in_left x O us (h x q (k x i))

  within : (O : List ℕ) (b : Insts) (own part : List ℕ) → BoundAreOutside O b own → ((x : ℕ) → In x part → In x own) → BoundAreOutside O b part
  within O b own part h k x q i = h x q (k x i)

  -- behind a goal what it binds is its own, or occurs nowhere else
  next_outside : (O Q us vs : List ℕ) {b c : Insts} {g : Flat_goal} {n : Node} → OrderedNode S T (O ++ us) (Q ++ vs) b g n (Some c) → (own part : List ℕ) → BoundAreOutside O b own → ((x : ℕ) → In x part → In x own) → ((x : ℕ) → In x part → In x us ⊎ In x vs) → BoundAreOutside (O ++ variables_of g) c part
  next_outside O Q us vs {b = b} {c = c} {g = g} {n = n} r own part h k l x q i = at (in_or_not x (variables_of g))
    where
      at : In x (variables_of g) ⊎ (In x (variables_of g) → ⊥) → In x (O ++ variables_of g)
      at (inl j) = in_right x O (variables_of g) j
      at (inr off) =
          let before : is_bound (b x) ≡ true = stays_node S T fits x r true off (⊎_elim (λ j. inl (in_right x O us j)) (λ j. inr (in_right x Q vs j)) (l x i)) q in
          in_left x O (variables_of g) (h x before (k x i))

  either_own : (x : ℕ) (gs ns hs ms : List ℕ) → ((x : ℕ) → In x hs → In x gs) → ((x : ℕ) → In x ms → In x ns) → In x (hs ++ ms) → In x (gs ++ ns)
  either_own x gs ns hs ms f k i = ⊎_elim (λ j. in_left x gs ns (f x j)) (λ j. in_right x gs ns (k x j)) (in_either x hs ms i)

  -- behind a builtin with fresh outputs
  builtin_outside : (O : List ℕ) (b c : Insts) (own_g own_n xs zs rest_g rest_n : List ℕ) → BoundAreOutside O b (own_g ++ own_n) → ((x : ℕ) → In x rest_g → In x own_g) → ((x : ℕ) → In x rest_n → In x own_n) → ((x : ℕ) → (In x zs → ⊥) → c x ≡ b x) → BoundAreOutside (O ++ (xs ++ zs)) c (rest_g ++ rest_n)
  builtin_outside O b c own_g own_n xs zs rest_g rest_n h f k off x q i = at (in_or_not x zs)
    where
      at : In x zs ⊎ (In x zs → ⊥) → In x (O ++ (xs ++ zs))
      at (inl j) = in_right x O (xs ++ zs) (in_right x xs zs j)
      at (inr n) = in_left x O (xs ++ zs) (h x (subst (λ j. is_bound j ≡ true) (off x n) q) (either_own x own_g own_n rest_g rest_n f k i))

  -- ---- the ends of disjuncts
  free_ends : (O : List ℕ) (b c : Insts) (os : List (Option Insts)) (o : Option Insts) → ((e : Insts) → o ≡ Some e → (y : ℕ) → e y ≡ c y) → Joined S T O b (reachable os) o → (y : ℕ) → In y O → is_bound (c y) ≡ false → AllFree S.insts (insts_at y (reachable os))
  free_ends O b c os o is j y i u = at (reachable os) o is j
    where
      at : (es : List Insts) (o : Option Insts) → ((e : Insts) → o ≡ Some e → (y : ℕ) → e y ≡ c y) → Joined S T O b es o → AllFree S.insts (insts_at y es)
      at [] o is j = tt
      at (d ∷ es) None is j = absurd j
      at (d ∷ es) (Some e) is j = merged_free S fits (insts_at y (d ∷ es)) (e y) (T y) ((j y).0 i) (ap is_bound (is e refl y) ∙ u)

  abbrev EachFree : (O : List ℕ) (c : Insts) → List (Option Insts) → Type 0
  EachFree O c [] = Unit {0}
  EachFree O c (o ∷ os) = FreeEnd S O c o × EachFree O c os

  each_free : (O : List ℕ) (c : Insts) (os : List (Option Insts)) → ((y : ℕ) → In y O → is_bound (c y) ≡ false → AllFree S.insts (insts_at y (reachable os))) → EachFree O c os
  each_free O c [] h = tt
  each_free O c (None ∷ os) h = (tt, each_free O c os h)
  each_free O c (Some e ∷ os) h = ((λ y i u. (h y i u).0), each_free O c os (λ y i u. (h y i u).1))

  fine_end : {O Q : List ℕ} {b : Insts} {g : Flat_goal} {n : Node} {o : Option Insts} → OrderedNode S T O Q b g n o → BoundAreOutside O b (variables_of g ++ variables_of_node n) → FineEnd O b o
  fine_end {o = None} r h = tt
  fine_end {O = O} {g = g} {n = n} {o = Some e} r h =
      λ y out q. stays_node S T fits y r false (λ i. out (h y q (in_left y (variables_of g) (variables_of_node n) i))) (out, (λ i. out (h y q (in_right y (variables_of g) (variables_of_node n) i))))

  formed_end : (b : Insts) (n m : Node) → Retold (form b n) m → {O Q : List ℕ} {g : Flat_goal} {o : Option Insts} → OrderedNode S T O Q b g m o → o ≡ end_of S T b (form b n)
  formed_end b n m w {o = o} r = at o r
    where
      same : insts_after m b ≡ insts_after (form b n) b
      same = after_told w
        where
          after_told : {n m : Node} → Retold n m → insts_after m b ≡ insts_after n b
          after_told (retold q) = refl

      at : {O Q : List ℕ} {g : Flat_goal} (o : Option Insts) → OrderedNode S T O Q b g m o → o ≡ end_of S T b (form b n)
      at None r = sym (ap (λ t. if t then None else Some (insts_after (form b n) b)) (never_told S T w b ∙ ends_node S T r))
      at (Some c) r = ap Some (after_kept S T r ∙ same) ∙ sym (ap (λ t. if t then None else Some (insts_after (form b n) b)) (never_told S T w b ∙ ends_node S T r))

  -- ---- goals
  abbrev FormIs : (O Q : List ℕ) → Insts → Flat_goal → Node → Option Insts → Type 0
  FormIs O Q b g n o = (m : Node) × Retold n m × OrderedNode S T O Q b g m o

  abbrev FormIsIn : (O Q : List ℕ) → Insts → Flat_goal → Scheduled → Option Insts → Type 0
  FormIsIn O Q b g s o = (t : Scheduled) × RetoldIn s t × Ordered S T O Q b g t o

  abbrev FormsAre : (O Q : List ℕ) → Insts → Flat_goals → Nodes → Option Insts → Type 0
  FormsAre O Q b gs ns o = (ms : Nodes) × RetoldAll ns ms × OrderedAll S T O Q b gs ms o

  alone_formed : {O Q : List ℕ} {b : Insts} {p : ℕ} {xs : List ℕ} {n m : Node} {ns ms : Nodes} {o : Option Insts} → RetoldAll (node_then n (node_then m ns)) ms → OrderedAll S T O Q b (flat_then (F.Call p xs) no_flat) ms o → FormIsIn O Q b (F.Call p xs) (Conj (node_then n (node_then m ns))) o
  alone_formed (W.next {m = n'} r (W.next {m = m'} {ms = ms'} q rs)) h = (Conj (node_then n' (node_then m' ms')), W.conj (W.next r (W.next q rs)), R.implied_alone h)

  disjuncts_alike : (O : List ℕ) (b c : Insts) (changes : List (ℕ × ℕ)) (o : Option Insts) → KeepsChanges b o changes → c ≡ (λ x. change_at x changes (b x)) → (os : List (Option Insts)) → Joined S T O b (reachable os) o → ((y : ℕ) → (In y O → ⊥) → is_bound (b y) ≡ false → is_bound (c y) ≡ false) × EachFree O c os
  disjuncts_alike O b c changes None k e os j = ((λ y n u. ap (λ (d : Insts). is_bound (d y)) (e ∙ ap (λ ch x. change_at x ch (b x)) k) ∙ u), each_free O c os (free_ends O b c os None (λ e q. cc) j))
  disjuncts_alike O b c changes (Some d) k e os j = (
    (λ y n u. ap (λ (f : Insts). is_bound (f y)) e ∙ (ap is_bound (sym (k.0 y)) ∙ unbound (reachable os) j y n u)),
    each_free O c os (free_ends O b c os (Some d) (λ f q y. let r : f ≡ d = cc in ap (λ (a : Insts). a y) r ∙ (k.0 y ∙ ap (λ (a : Insts). a y) (sym e))) j),
  )
    where
      unbound : (es : List Insts) → Joined S T O b es (Some d) → (y : ℕ) → (In y O → ⊥) → is_bound (b y) ≡ false → is_bound (d y) ≡ false
      unbound [] j y n u = cc
      unbound (f ∷ es) j y n u = ⊎_elim (λ z. ap is_bound z) (λ z. ap is_bound z ∙ u) ((j y).1 n)

  mutual
    form_in : {O Q : List ℕ} {b : Insts} {g : Flat_goal} {s u : Scheduled} {o : Option Insts} → Ordered S T O Q b g s o → RetoldIn s u → (Z : List ℕ) → Same Q Z → BoundAreOutside O b (variables_of g ++ variables_of_scheduled s) → (changes : List (ℕ × ℕ)) → KeepsChanges b o changes → ArmsMergeIn S T b (λ x. change_at x changes (b x)) (formed_in S T keep b (λ x. change_at x changes (b x)) u) → FormIsIn O Z b g (formed_in S T keep b (λ x. change_at x changes (b x)) u) o
    form_in (R.assign {x = x} {y = y} bx by nd) W.assign Z same inv changes k merges = (Assign x y, W.assign, R.assign bx by nd)
    form_in (R.assign_back {x = x} {y = y} bx by nd) W.assign Z same inv changes k merges = (Assign x y, W.assign, R.assign_back bx by nd)
    form_in (R.test {x = x} {y = y} bx by st nd) W.test Z same inv changes k merges = (Test x y, W.test, R.test bx by st nd)
    form_in (R.build {x = x} {s = s} {ys = ys} bx ab ns nd over) W.build Z same inv changes k merges = (Build x s ys, W.build, R.build bx ab ns nd over)
    form_in (R.take {x = x} {s = s} {ys = ys} bx nd a over) W.take Z same inv changes k merges = (Take x s ys, W.take, R.take bx nd a over)
    form_in (R.take_never {x = x} {s = s} {ys = ys} bx nd never) W.take Z same inv changes k merges = (Take x s ys, W.take, R.take_never bx nd never)
    form_in (R.put {x = x} {v = v} bx) W.put Z same inv changes k merges = (Const x v, W.put, R.put bx)
    form_in (R.test_constant {x = x} {v = v} bx nd a) W.test_constant Z same inv changes k merges = (TestConst x v, W.test_constant, R.test_constant bx nd a)
    form_in (R.test_never {x = x} {v = v} bx nd never) W.test_constant Z same inv changes k merges = (TestConst x v, W.test_constant, R.test_never bx nd never)
    form_in (R.call {b = b} {p = p} {xs = xs} {last = last} lt u nd a) W.call Z same inv changes k merges = (Call p xs _ last, W.call, R.call lt u nd a)
    form_in (R.apply {op = op} {xs = xs} e u nd i a) W.apply Z same inv changes k merges = (Apply op _ _, W.apply, R.apply e u nd i a)
    form_in (R.implied_alone {xs = xs} {n = n} {m = m} {ns = ns} h) (W.conj (W.next w (W.next w' ws))) Z same inv changes k merges =
        (let r = form_all h (W.next w (W.next w' ws)) Z same (λ x q i. inv x q (either_own x xs (variables_of_nodes (node_then n (node_then m ns))) (xs ++ []) (variables_of_nodes (node_then n (node_then m ns))) (λ y j. ⊎_elim (λ l. l) (λ l. absurd l) (in_either y xs [] j)) (λ y j. j) i)) merges in
        alone_formed r.1 r.2)
    form_in (R.conj h) (W.conj w) Z same inv changes k merges = (let r = form_all h w Z same inv merges in (Conj r.0, W.conj r.1, R.conj r.2))
    form_in (R.disj {O = O} {b = b} {gs = gs} {ns = ns} {os = os} {o = o} h j) (W.disj {ms = ms} w) Z same inv changes k merges =
        (let c : Insts = λ x. change_at x changes (b x) in
        let ds : List Disjunct = disjuncts S T keep b ms in
        let a = disjuncts_alike O b c changes o k refl os j in
        let e = form_each h w Z same inv c a.0 a.1 (each_merges S T b c (keep b c) (openings_of ds) [] ds (told S T keep b ms) merges) in
        let r = grouped_stands S T fits O Z b c (keep b c) a.0 (openings_of ds) [] gs ds e.0 merges in
        (r.form, r.same, r.ordered o (subst (λ os. Joined S T O b (reachable os) o) e.1 j)))
    form_in (R.switch {x = x} {arms = arms} bx i h j) (W.switch w) Z same inv changes k merges = (Switch x arms, both_in (W.switch w) (self_in (Switch x arms)), moved_in S T (R.switch bx i h j) Z same)
    form_in (R.ite {O = O} {Q = Q} {b = b} {c = c} {vs = vs} {g = g} {h = h} {k = f} {n = n} {t = t} {u = u} {o = o} out gn nb ht fu j) (W.ite {k = n'} {u = t'} {f = u'} wc wt we) Z same inv changes k merges =
        (let own : List ℕ = variables_of (F.If vs g h f) ++ (vs ++ (variables_of_node n ++ (variables_of_node t ++ variables_of_node u))) in
        let at_n : insts_after n' b ≡ c = told_after wc b ∙ sym (after_kept S T gn) in
        let at : insts_after (form b n') b ≡ c = form_after b n' b ∙ at_n in
        let tn : Node = form (insts_after n' b) t' in
        let us : List ℕ = without (free_in g) vs ++ variables_of h in
        let x = form_node gn wc (Z ++ variables_of_node tn) (same_both Q (variables_of_node t) Z (variables_of_node tn) same (form_same (insts_after n' b) wt))
        (part_outside O us b own (variables_of g ++ variables_of_node n) inv (λ y i. either_own y (variables_of (F.If vs g h f)) (vs ++ (variables_of_node n ++ (variables_of_node t ++ variables_of_node u))) (variables_of g) (variables_of_node n) (λ z l. in_right z vs (variables_of g ++ (variables_of h ++ variables_of f)) (in_left z (variables_of g) (variables_of h ++ variables_of f) l)) (λ z l. in_right z vs (variables_of_node n ++ (variables_of_node t ++ variables_of_node u)) (in_left z (variables_of_node n) (variables_of_node t ++ variables_of_node u) l)) i)) merges.0 in
        let merges_t : ArmsMerge S T c (form c t') = subst (λ e. ArmsMerge S T e (form c t')) at (subst (λ e. ArmsMerge S T (insts_after (form b n') b) (form e t')) at_n merges.1) in
        let y = form_node ht wt (Z ++ variables_of_node x.0) (same_both Q (variables_of_node n) Z (variables_of_node x.0) same (subst (λ ws. Same (variables_of_node n) ws) (sym (told_variables x.1)) (form_same b wc)))
        (next_outside O Q us (variables_of_node t) gn own (variables_of h ++ variables_of_node t) inv (λ y i. either_own y (variables_of (F.If vs g h f)) (vs ++ (variables_of_node n ++ (variables_of_node t ++ variables_of_node u))) (variables_of h) (variables_of_node t) (λ z l. in_right z vs (variables_of g ++ (variables_of h ++ variables_of f)) (in_right z (variables_of g) (variables_of h ++ variables_of f) (in_left z (variables_of h) (variables_of f) l))) (λ z l. in_right z vs (variables_of_node n ++ (variables_of_node t ++ variables_of_node u)) (in_right z (variables_of_node n) (variables_of_node t ++ variables_of_node u) (in_left z (variables_of_node t) (variables_of_node u) l))) i)
        (λ y i. ⊎_elim (λ l. inl (in_right y (without (free_in g) vs) (variables_of h) l)) (λ l. inr l) (in_either y (variables_of h) (variables_of_node t) i))) merges_t in
        let z = form_node fu we Z same (within O b own (variables_of f ++ variables_of_node u) inv (λ y i. either_own y (variables_of (F.If vs g h f)) (vs ++ (variables_of_node n ++ (variables_of_node t ++ variables_of_node u))) (variables_of f) (variables_of_node u) (λ z l. in_right z vs (variables_of g ++ (variables_of h ++ variables_of f)) (in_right z (variables_of g) (variables_of h ++ variables_of f) (in_right z (variables_of h) (variables_of f) l))) (λ z l. in_right z vs (variables_of_node n ++ (variables_of_node t ++ variables_of_node u)) (in_right z (variables_of_node n) (variables_of_node t ++ variables_of_node u) (in_right z (variables_of_node t) (variables_of_node u) l))) i)) merges.2 in
        let wy : Retold tn y.0 = subst (λ e. Retold (form e t') y.0) (sym at_n) y.1 in (
          Ite vs x.0 y.0 z.0,
          W.ite x.1 wy z.1,
          R.ite out (subst (λ ws. OrderedNode S T (O ++ us) (Z ++ ws) b g x.0 (Some c)) (sym (told_variables wy)) x.2) nb y.2 z.2 j,
        ))
    form_in (R.ite_never {O = O} {Q = Q} {b = b} {vs = vs} {g = g} {h = h} {k = f} {n = n} {t = t} {u = u} out gn e fu j) (W.ite {k = n'} {u = t'} {f = u'} wc wt we) Z same inv changes k merges =
        (let own : List ℕ = variables_of (F.If vs g h f) ++ (vs ++ (variables_of_node n ++ (variables_of_node t ++ variables_of_node u))) in
        let us : List ℕ = without (free_in g) vs ++ variables_of h in
        let x = form_node gn wc Z same
        (part_outside O us b own (variables_of g ++ variables_of_node n) inv (λ y i. either_own y (variables_of (F.If vs g h f)) (vs ++ (variables_of_node n ++ (variables_of_node t ++ variables_of_node u))) (variables_of g) (variables_of_node n) (λ z l. in_right z vs (variables_of g ++ (variables_of h ++ variables_of f)) (in_left z (variables_of g) (variables_of h ++ variables_of f) l)) (λ z l. in_right z vs (variables_of_node n ++ (variables_of_node t ++ variables_of_node u)) (in_left z (variables_of_node n) (variables_of_node t ++ variables_of_node u) l)) i)) merges.0 in
        let z = form_node fu we Z same (within O b own (variables_of f ++ variables_of_node u) inv (λ y i. either_own y (variables_of (F.If vs g h f)) (vs ++ (variables_of_node n ++ (variables_of_node t ++ variables_of_node u))) (variables_of f) (variables_of_node u) (λ z l. in_right z vs (variables_of g ++ (variables_of h ++ variables_of f)) (in_right z (variables_of g) (variables_of h ++ variables_of f) (in_right z (variables_of h) (variables_of f) l))) (λ z l. in_right z vs (variables_of_node n ++ (variables_of_node t ++ variables_of_node u)) (in_right z (variables_of_node n) (variables_of_node t ++ variables_of_node u) (in_right z (variables_of_node t) (variables_of_node u) l))) i)) merges.2 in (
          Ite vs x.0 t z.0,
          W.ite x.1 (empty_form (insts_after n' b) e wt) z.1,
          R.ite_never out x.2 e z.2 j,
        ))
    form_in (R.neg {O = O} {b = b} {g = g} {n = n} h nb) (W.neg w) Z same inv changes k merges =
        (let r = form_node h w Z same (part_outside O (free_in g) b (variables_of g ++ variables_of_node n) (variables_of g ++ variables_of_node n) inv (λ y i. i)) merges in (Not r.0, W.neg r.1, R.neg r.2 nb))
    form_in (R.some {O = O} {b = b} {vs = vs} {g = g} {n = n} out h) (W.some w) Z same inv changes k merges =
        (let r = form_node h w Z same (within O b ((vs ++ variables_of g) ++ (vs ++ variables_of_node n)) (variables_of g ++ variables_of_node n) inv (λ y i. either_own y (vs ++ variables_of g) (vs ++ variables_of_node n) (variables_of g) (variables_of_node n) (λ z l. in_right z vs (variables_of g) l) (λ z l. in_right z vs (variables_of_node n) l) i)) merges in (Exists vs r.0, W.some r.1, R.some out r.2))

    pub form_node : {O Q : List ℕ} {b : Insts} {g : Flat_goal} {n m : Node} {o : Option Insts} → OrderedNode S T O Q b g n o → Retold n m → (Z : List ℕ) → Same Q Z → BoundAreOutside O b (variables_of g ++ variables_of_node n) → ArmsMerge S T b (form b m) → FormIs O Z b g (form b m) o
    form_node (kept {b = b} {changes = changes} {det = d} {o = o} r k) (retold w) Z same inv merges =
        (let q = form_in r w Z same inv changes k merges in (node q.0 changes d (is_pruned Z b o), retold q.1, kept q.2 k))

    form_all : {O Q : List ℕ} {b : Insts} {gs : Flat_goals} {ns ms : Nodes} {o : Option Insts} → OrderedAll S T O Q b gs ns o → RetoldAll ns ms → (Z : List ℕ) → Same Q Z → BoundAreOutside O b (variables_of_all gs ++ variables_of_nodes ns) → ArmsMergeInAll S T b (forms b ms) → FormsAre O Z b gs (forms b ms) o
    form_all R.done W.done Z same inv merges = (no_nodes, W.done, R.done)
    form_all (R.dropped {O = O} {b = b} {g = g} {gs = gs} {rest = rest} {n = n} pk h) (W.next w W.done) Z same inv merges =
        (let r = form_node h w Z same (part_outside O (variables_of_all rest) b (variables_of_all gs ++ (variables_of_node n ++ [])) (variables_of g ++ variables_of_node n) inv (λ y i. either_own y (variables_of_all gs) (variables_of_node n ++ []) (variables_of g) (variables_of_node n) (λ z l. picks-goal pk z l) (λ z l. in_left z (variables_of_node n) [] l) i)) merges.0 in
        (node_then r.0 no_nodes, W.next r.1 W.done, R.dropped pk r.2))
    form_all (R.next {O = O} {Q = Q} {b = b} {c = c} {g = g} {gs = gs} {rest = rest} {n = n} {ns = ns} {o = o} pk h hs) (W.next {m = n'} {ms = ms} w ws) Z same inv merges =
        (let own : List ℕ = variables_of_all gs ++ (variables_of_node n ++ variables_of_nodes ns) in
        let at_n : insts_after n' b ≡ c = told_after w b ∙ sym (after_kept S T h) in
        let at : insts_after (form b n') b ≡ c = form_after b n' b ∙ at_n in
        let fs : Nodes = forms (insts_after n' b) ms in
        let x = form_node h w (Z ++ variables_of_nodes fs) (same_both Q (variables_of_nodes ns) Z (variables_of_nodes fs) same (forms_same (insts_after n' b) ws))
        (part_outside O (variables_of_all rest) b own (variables_of g ++ variables_of_node n) inv (λ y i. either_own y (variables_of_all gs) (variables_of_node n ++ variables_of_nodes ns) (variables_of g) (variables_of_node n) (λ z l. picks-goal pk z l) (λ z l. in_left z (variables_of_node n) (variables_of_nodes ns) l) i)) merges.0 in
        let merges_r : ArmsMergeInAll S T c (forms c ms) = subst (λ e. ArmsMergeInAll S T e (forms c ms)) at (subst (λ e. ArmsMergeInAll S T (insts_after (form b n') b) (forms e ms)) at_n merges.1) in
        let y = form_all hs ws (Z ++ variables_of_node x.0) (same_both Q (variables_of_node n) Z (variables_of_node x.0) same (subst (λ ws. Same (variables_of_node n) ws) (sym (told_variables x.1)) (form_same b w)))
        (next_outside O Q (variables_of_all rest) (variables_of_nodes ns) h own (variables_of_all rest ++ variables_of_nodes ns) inv (λ y i. either_own y (variables_of_all gs) (variables_of_node n ++ variables_of_nodes ns) (variables_of_all rest) (variables_of_nodes ns) (λ z l. picks-rest pk z l) (λ z l. in_right z (variables_of_node n) (variables_of_nodes ns) l) i)
        (λ y i. in_either y (variables_of_all rest) (variables_of_nodes ns) i)) merges_r in
        let wr : RetoldAll fs y.0 = subst (λ e. RetoldAll (forms e ms) y.0) (sym at_n) y.1 in (
          node_then x.0 y.0,
          W.next x.1 wr,
          R.next pk (subst (λ ws. OrderedNode S T (O ++ variables_of_all rest) (Z ++ ws) b g x.0 (Some c)) (sym (told_variables_all wr)) x.2) y.2,
        ))
    form_all (R.implied_outputs {O = O} {Q = Q} {b = b} {c = c} {op = op} {xs = xs} {zs = zs} {gs = gs} {rest = rest} {changes = changes} {d = d} {ns = ns} {o = o} tests pk e most f nd di ap1 ts u i a k r) (W.next {ms = ms} (retold {e = d'} {l = m'} W.apply) ws) Z same inv merges =
        (let args : List ℕ = at_inputs (inputs_of op) zs ++ at_outputs (inputs_of op) zs in
        let later : List ℕ = variables_of_nodes (tested_by tests ns) in
        let own : List ℕ = variables_of_all gs ++ (args ++ later) in
        let c1 : Insts = λ x. change_at x changes (b x) in
        let at : c1 ≡ c = sym (fun_ext k.0) in
        let behind = tests_formed tests ws in
        let merges_r : ArmsMergeInAll S T c (forms c behind.rest) = behind.merge c (subst (λ e. ArmsMergeInAll S T e (forms e ms)) at merges.1) in
        let y = form_all r behind.same (Z ++ (xs ++ zs)) (same_append Q Z (xs ++ zs) same) (builtin_outside O b c (variables_of_all gs) (args ++ later) xs zs (variables_of_all rest) (variables_of_nodes ns) inv
        (λ z j. picks-rest pk z j) (λ z j. in_right z args later (behind_tests z tests ns j)) (λ z n. after-off S T a z n)) merges_r in
        let told_rest : RetoldAll (forms c1 ms) (tested_by tests y.0) = subst (λ e. RetoldAll (forms e ms) (tested_by tests y.0)) (sym at) (behind.told c y.0 y.1) in (
          node_then (node (Apply op (at_inputs (inputs_of op) zs) (at_outputs (inputs_of op) zs)) changes d (is_pruned (Z ++ variables_of_nodes (tested_by tests y.0)) b (Some c))) (tested_by tests y.0),
          W.next (retold W.apply) told_rest,
          R.implied_outputs tests pk e most f nd di (same_apart (firsts tests) O Q Z (variables_of_all gs) same ap1) ts u i a k y.2,
        ))

    form_each : {O Q : List ℕ} {b : Insts} {gs : Flat_goals} {ns ms : Nodes} {os : List (Option Insts)} → OrderedAny S T O Q b gs ns os → RetoldAll ns ms → (Z : List ℕ) → Same Q Z → BoundAreOutside O b (variables_of_all gs ++ variables_of_nodes ns) → (c : Insts) (unbinds : (y : ℕ) → (In y O → ⊥) → is_bound (b y) ≡ false → is_bound (c y) ≡ false) → EachFree O c os → ArmsMergeInEach S T b (goals_of (disjuncts S T keep b ms)) → Each S T fits O Z b c (keep b c) unbinds gs (disjuncts S T keep b ms) × (os ≡ ends_of S T b (disjuncts S T keep b ms))
    form_each R.no_other W.done Z same inv c unbinds fr merges = (none, refl)
    form_each (R.either {O = O} {Q = Q} {b = b} {g = g} {gs = gs} {n = n} {ns = ns} {o = o} {os = os} h hs) (W.next {m = n'} w ws) Z same inv c unbinds fr merges =
        (let inv_n : BoundAreOutside O b (variables_of g ++ variables_of_node n) = within O b (variables_of_all (flat_then g gs) ++ (variables_of_node n ++ variables_of_nodes ns)) (variables_of g ++ variables_of_node n) inv (λ y i. either_own y (variables_of g ++ variables_of_all gs) (variables_of_node n ++ variables_of_nodes ns) (variables_of g) (variables_of_node n) (λ z l. in_left z (variables_of g) (variables_of_all gs) l) (λ z l. in_left z (variables_of_node n) (variables_of_nodes ns) l) i) in
        let inv_r : BoundAreOutside O b (variables_of_all gs ++ variables_of_nodes ns) = within O b (variables_of_all (flat_then g gs) ++ (variables_of_node n ++ variables_of_nodes ns)) (variables_of_all gs ++ variables_of_nodes ns) inv (λ y i. either_own y (variables_of g ++ variables_of_all gs) (variables_of_node n ++ variables_of_nodes ns) (variables_of_all gs) (variables_of_nodes ns) (λ z l. in_right z (variables_of g) (variables_of_all gs) l) (λ z l. in_right z (variables_of_node n) (variables_of_nodes ns) l) i) in
        let x = form_node h w Z same inv_n merges.0 in
        let rest = form_each hs ws Z same inv_r c unbinds fr.1 merges.1 in
        let end : o ≡ end_of S T b (form b n') = formed_end b n' x.0 x.1 x.2 in (
          more x.1 (subst (λ o. OrderedNode S T O Z b g x.0 o) end x.2) (sym (openings_kept S T keep b n')) (λ y q t. let t' : is_told (label_in y (openings n)) ≡ true = subst (λ os. is_told (label_in y os) ≡ true) (told_openings w) t in free_opened S T y h t' (inv_n y q (in_right y (variables_of g) (variables_of_node n) (opened y n t'))))
              (subst (FineEnd O b) end (fine_end h inv_n)) (subst (FreeEnd S O c) end fr.0) rest.0,
          ap₂ (λ o os. o ∷ os) end rest.1,
        ))

pub forms_stay_ordered : FormsStayOrdered
forms_stay_ordered S T O Q b g n m o keep fits r w inv merges = form_node S T fits keep r w Q (same_self Q) inv merges
