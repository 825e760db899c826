-- At the ends of disjuncts that share an arm what the whole disjunction binds is free at all or at none,
-- and tidy.
use Rattle.std.proofs.Common.{◌≡◌, ◌≢◌, ◌⊎◌, inl, inr, ℕ, zero, suc, ◌+◌, ◌<◌, ◌≤◌, List, [], ◌∷◌, ◌++◌, map, length, Option, Some, None, Bool, true, false, cond, not, nat_eq, ◌&&◌, ◌||◌, if◌then◌else◌, refl, sym, ap, ap₂, ◌∙◌, subst, ⊎_elim, arith}
use Rattle.std.proofs.Math.Path.{fun_ext}
use Rattle.std.proofs.Math.Nat.{le_trans, le_refl, lt_of_lt_of_le, not-le_of_lt}
use Rattle.std.proofs.lemmas.Bool.{eqb-true}
use Rattle.mc_program.specs.Programs.{TypeTerm, Source}
use Rattle.mc_source.specs.Determinism.{inferred, det, is_zero}
use Rattle.mc_model.specs.Insts.{InstNode, free, ground, unique, dead, bound, Graph}
use Rattle.mc_model.specs.Flat as F
use Rattle.mc_model.specs.Flat.{Flat_goal, Flat_goals, no_flat, flat_then, variables_of, variables_of_all, free_in}
use Rattle.mc_model.specs.Lists.{In, without}
use Rattle.mc_model.specs.Stream.{is_bound}
use Rattle.mc_model.specs.Scheduled.{Label, Node, node, Scheduled, Conj, Disj, Apply, Nodes, no_nodes, node_then}
use Rattle.mc_model.specs.Outcomes.{inputs_of}
use Rattle.mc_model.specs.Good.{System}
use Rattle.mc_accepted.specs.Arranged.{changes, test_nodes, nodes_before}
use Rattle.mc_accepted.specs.NodeOracle.{other_node}
use Rattle.mc_accepted.specs.Determined.{insts_after, allows_name}
use Rattle.mc_accepted.specs.Fits.{FitsInsts}
use Rattle.mc_accepted.specs.Inclusion.{AllFree, NoneIs, LeastAbove, MergedNodes, Merged}
use Rattle.mc_accepted.specs.MergedArms.{never_ends, never_ends_in, one_never_ends, each_never_ends, with_end, ends}
use Rattle.mc_accepted.specs.Ordered.{Insts, reachable, change_at, at_inputs, at_outputs, builtin_most}
use Rattle.mc_accepted.specs.Switched.{Disjunct, goals_of, labels_of, opens_with, those, Kept, openings_of, chosen, formed, disjuncts}
use Rattle.mc_accepted.specs.Tidy.{Tidy, EachIsTidy}
use Rattle.mc_accepted.specs.code.Standing as R
use Rattle.mc_accepted.specs.code.Standing.{freshened, fresh_tests, Freshly, keeping, fresh_nodes, JoinedOwn, Standing, StandingAll, StandingAny}
use Rattle.mc_program.specs.declared.builtin.Builtin.{Builtin}
use Rattle.mc_source.specs.declared.det.Most.TheVariants.{One}
use Rattle.laws_sound.proofs.Takes.{allows_named}
use Rattle.laws_language.proofs.FlatGoals.{in_either, in_left, in_right}
use Rattle.laws_language.proofs.FlatWhole.{in_or_not}
use Rattle.laws_order.specs.OrderLaws.{Below}
use Rattle.laws_order.specs.Tidying.{TidyPoint, EachChangeTidy, ChangesTidy, AllChangeTidy}
use Rattle.laws_order.proofs.Arranging.{is-unset, below-more, below-left, below-right}
use Rattle.laws_order.proofs.FreshOutputs.{has-one}
use Rattle.laws_order.proofs.MarkedGoals.{FreeFrom, keeps-changes, end-from, free-later}
use Rattle.laws_order.proofs.OthersStay.{in-condition, in-then, in-else}
use Rattle.laws_order.proofs.StandingFacts.{Stays, EachStays, EndStays, picks-goal, picks-rest, widened, chained, with-each, stays, any-stays, all-stays, freshly-stays}
use Rattle.laws_accepted.specs.FormLaws.{BoundAreOutside}
use Rattle.laws_accepted.specs.KeptLaws.{OfGroup, OfArm, OfArms, OfChosen, OfGroups, OfEachGroup, OfEachInAll, OfEachInEach, even_group, GroupsAreEven}
use Rattle.laws_accepted.proofs.Ends.{is_none, all_none, name_allows, excluded, constants_taken, constants_left, never_answers, last_none}
use Rattle.laws_accepted.proofs.FormEnds.{node_never, after_form}
use Rattle.laws_accepted.proofs.Staying.{insts_at}

abbrev scheduled_of : Node → Scheduled
scheduled_of (node s changes d m) = s

-- ---- one inst, or what another is
abbrev is_set_node : InstNode → Bool
is_set_node free = false
is_set_node ground = true
is_set_node unique = true
is_set_node dead = true
is_set_node (bound ls) = true

module _ (S : System) (T : ℕ → TypeTerm) where
  abbrev P : Source
  P = S.world.source

  abbrev IsEven : Bool → ℕ → Type 0
  IsEven true i = S.insts i ≢ free
  IsEven false i = S.insts i ≡ free

  abbrev AllEven : Bool → List ℕ → Type 0
  AllEven t [] = Unit {0}
  AllEven t (i ∷ is) = IsEven t i × AllEven t is

  all_free : (is : List ℕ) → AllEven false is → AllFree S.insts is
  all_free [] h = tt
  all_free (i ∷ is) h = (h.0, all_free is h.1)

  none_free : (is : List ℕ) → AllEven true is → NoneIs free S.insts is
  none_free [] h = tt
  none_free (i ∷ is) h = (h.0, none_free is h.1)

  from_free : (is : List ℕ) → AllFree S.insts is → AllEven false is
  from_free [] h = tt
  from_free (i ∷ is) h = (h.0, from_free is h.1)

  from_none : (is : List ℕ) → NoneIs free S.insts is → AllEven true is
  from_none [] h = tt
  from_none (i ∷ is) h = (h.0, from_none is h.1)

  either_even : (t : Bool) (is : List ℕ) → AllEven t is → AllFree S.insts is ⊎ NoneIs free S.insts is
  either_even true is h = inr (none_free is h)
  either_even false is h = inl (all_free is h)

  itself_even : (N : InstNode) (i : ℕ) → S.insts i ≡ N → IsEven (is_set_node N) i
  itself_even free i e = e
  itself_even ground i e = λ f. (let q : ground ≡ free = sym e ∙ f in cc)
  itself_even unique i e = λ f. (let q : unique ≡ free = sym e ∙ f in cc)
  itself_even dead i e = λ f. (let q : dead ≡ free = sym e ∙ f in cc)
  itself_even (bound ls) i e = λ f. (let q : bound ls ≡ free = sym e ∙ f in cc)

  merged_even : (N : InstNode) (is : List ℕ) (Q : Type 0) → MergedNodes S.insts is N Q → AllEven (is_set_node N) is
  merged_even free is Q h = from_free is h
  merged_even ground is Q h = from_none is h.0
  merged_even unique is Q h = from_none is h.0
  merged_even dead is Q h = from_none is h.0
  merged_even (bound ls) is Q h = from_none is h.0

  -- ---- the end of a goal in an order, by what it changes
  is_keeping : {O : List ℕ} {n : ℕ} {b : Insts} {g : Flat_goal} {x : Node} {o : Option Insts} {m : ℕ} → Standing S T O n b g x o m → x ≡ keeping S T m b o (scheduled_of x)
  is_keeping (R.assign p q r) = refl
  is_keeping (R.assign_back p q r) = refl
  is_keeping (R.test p q r a) = refl
  is_keeping (R.build p q r a h) = refl
  is_keeping (R.take p q r a) = refl
  is_keeping (R.take_never p q r) = refl
  is_keeping (R.put p) = refl
  is_keeping (R.test_constant p q r) = refl
  is_keeping (R.test_never p q r) = refl
  is_keeping (R.call lt u a h) = refl
  is_keeping (R.apply e u a i h) = refl
  is_keeping (R.apply_freshly f) = refl
  is_keeping (R.conj s) = refl
  is_keeping (R.disj s j) = refl
  is_keeping (R.ite s p t u j) = refl
  is_keeping (R.ite_never s u j) = refl
  is_keeping (R.neg s p) = refl
  is_keeping (R.some s) = refl

  kept_after : (m : ℕ) (b c : Insts) (s : Scheduled) → ((y : ℕ) → m ≤ y → c y ≡ b y) → insts_after (keeping S T m b (Some c) s) b ≡ c
  kept_after m b c s h = fun_ext (λ y. sym ((keeps-changes m b c h).0 y))

  after_standing : {O : List ℕ} {n m : ℕ} {b c : Insts} {g : Flat_goal} {x : Node} → Standing S T O n b g x (Some c) m → Below n (variables_of g) → insts_after x b ≡ c
  after_standing {n = n} {m = m} {b = b} {c = c} {g = g} {x = x} h bg =
      let r = stays S T h in
      subst (λ k. insts_after k b ≡ c) (sym (is_keeping h)) (kept_after m b c (scheduled_of x) (end-from (variables_of g) n m b (Some c) bg r.0 r.1))

  ends_at : {O : List ℕ} {n m : ℕ} {b : Insts} {g : Flat_goal} {x : Node} {o : Option Insts} → Standing S T O n b g x o m → Below n (variables_of g) → (e : Insts) → o ≡ Some e → insts_after x b ≡ e
  ends_at {o = None} h bg e q = cc
  ends_at {b = b} {x = x} {o = Some c} h bg e q = after_standing h bg ∙ (let r : c ≡ e = cc in r)

  none_after : {O : List ℕ} {n m : ℕ} {b : Insts} {g : Flat_goal} {x : Node} {o : Option Insts} → Standing S T O n b g x o m → Below n (variables_of g) → o ≡ None → (v : ℕ) → insts_after x b v ≡ b v
  none_after {m = m} {b = b} {x = x} {o = None} h bg q v = ap (λ k. insts_after k b v) (is_keeping h)
  none_after {o = Some c} h bg q v = cc

  fresh_after : (n : ℕ) (b c : Insts) {p : ℕ} (op : Builtin) (xs : List ℕ) → Freshly S T n b c p op xs → Below n xs → (s : Scheduled) → insts_after (keeping S T (n + length (fresh_tests S T n b op xs)) b (Some c) s) b ≡ c
  fresh_after n b c op xs f bx s = kept_after (n + length (fresh_tests S T n b op xs)) b c s (end-from xs n (n + length (fresh_tests S T n b op xs)) b (Some c) bx (omega arith) (freshly-stays S T n b c op xs f))

  -- ---- whether it is reachable
  own_none : (own O : List ℕ) (b : Insts) (os : List (Option Insts)) (o : Option Insts) → JoinedOwn S T own O b (reachable os) o → all_none os ≡ is_none o
  own_none own O b [] o j = sym (ap is_none j)
  own_none own O b (None ∷ os) o j = own_none own O b os o j
  own_none own O b (Some c ∷ os) None j = absurd j
  own_none own O b (Some c ∷ os) (Some e) j = refl

  tests_never : (ts : List (ℕ × ℕ)) (b : Insts) (ns : Nodes) → one_never_ends S T b (nodes_before (test_nodes ts) ns) ≡ one_never_ends S T b ns
  tests_never [] b ns = refl
  tests_never (t ∷ ts) b ns = tests_never ts b ns

  only_tests_never : (ts : List (ℕ × ℕ)) (b : Insts) → one_never_ends S T b (test_nodes ts) ≡ false
  only_tests_never [] b = refl
  only_tests_never (t ∷ ts) b = only_tests_never ts b

  answers : (n : ℕ) (b c : Insts) {p : ℕ} (op : Builtin) (xs : List ℕ) → Freshly S T n b c p op xs → is_zero (builtin_most op) ≡ false
  answers n b c op xs f = ap is_zero (has-one op xs (λ y. is_bound (b y)) f.implies)

  mutual
    never_node : {O : List ℕ} {n m : ℕ} {b : Insts} {g : Flat_goal} {x : Node} {o : Option Insts} → Standing S T O n b g x o m → Below n (variables_of g) → never_ends S T b x ≡ is_none o
    never_node (R.assign p q r) bg = refl
    never_node (R.assign_back p q r) bg = refl
    never_node (R.test p q r a) bg = refl
    never_node (R.build p q r a h) bg = refl
    never_node (R.take {b = b} {x = x} {s = s} {is = is} bx nd a over) bg = ap not (allows_named P (S.insts (b x)) (b x) s (λ js. js ≡ is) a)
    never_node (R.take_never {b = b} {x = x} {s = s} bx nd never) bg = excluded (allows_name (S.insts (b x)) (P.symbols s).name) (λ e. never (name_allows P (S.insts (b x)) (b x) s e))
    never_node (R.put p) bg = refl
    never_node (R.test_constant {b = b} {x = x} bx nd a) bg = constants_taken (S.insts (b x)) a
    never_node (R.test_never {b = b} {x = x} bx nd never) bg = constants_left (S.insts (b x)) never
    never_node (R.call {c = c} {p = p} lt u a h) bg = never_answers (S.procs p).det.most c
    never_node (R.apply {c = c} {op = op} e u a i h) bg = never_answers (builtin_most op) c
    never_node (R.apply_freshly {n = n} {b = b} {c = c} {op = op} {xs = xs} f) bg = ap₂ (λ t u. t || u) (answers n b c op xs f) (only_tests_never (fresh_tests S T n b op xs) _)
    never_node (R.conj s) bg = never_all s bg
    never_node (R.disj {O = O} {b = b} {gs = gs} {os = os} {o = o} s j) bg = never_any s bg ∙ own_none (variables_of_all gs) O b os o j
    never_node (R.ite {O = O} {n = n} {n1 = n1} {b = b} {c = c} {vs = vs} {g = g} {h = h} {k = k} {x = x} {y = y} {z = z} {o = o} {o' = o'} {o'' = o''} s p t u j) bg =
        let sg = stays S T s in
        let st = stays S T t in
        let below_g : Below n (variables_of g) = λ v i. bg v (in-condition vs g h k v i) in
        ap₂ (λ v w. (v || w) && never_ends S T b z) (never_node s below_g)
        (subst (λ e. never_ends S T e y ≡ is_none o) (sym (after_standing s below_g)) (never_node t (below-more n n1 (variables_of h) sg.0 (λ v i. bg v (in-then vs g h k v i)))))
        ∙ ap (λ w. is_none o && w) (never_node u (below-more n _ (variables_of k) (le_trans sg.0 st.0) (λ v i. bg v (in-else vs g h k v i))) ∙ sym (last_none S T (is_none o')))
        ∙ own_none (variables_of (F.If vs g h k)) O b (o ∷ o' ∷ []) o'' j
    never_node (R.ite_never {O = O} {n = n} {b = b} {vs = vs} {g = g} {h = h} {k = k} {x = x} {z = z} {o = o} {o'' = o''} s u j) bg =
        ap (λ v. (v || false) && never_ends S T b z) (never_node s (λ v i. bg v (in-condition vs g h k v i)))
        ∙ never_node u (below-more n _ (variables_of k) (stays S T s).0 (λ v i. bg v (in-else vs g h k v i))) ∙ sym (last_none S T (is_none o)) ∙ own_none (variables_of (F.If vs g h k)) O b (o ∷ []) o'' j
    never_node (R.neg s p) bg = refl
    never_node (R.some {n = n} {vs = vs} {g = g} s) bg = never_node s (below-right n vs (variables_of g) bg)

    never_all : {O : List ℕ} {n m : ℕ} {b : Insts} {gs : Flat_goals} {ns : Nodes} {o : Option Insts} → StandingAll S T O n b gs ns o m → Below n (variables_of_all gs) → one_never_ends S T b ns ≡ is_none o
    never_all R.done bg = refl
    never_all (R.dropped {b = b} {x = x} p s) bg = ap (λ t. t || false) (never_node s (λ v i. bg v (picks-goal p v i)))
    never_all (R.next {n = n} {n1 = n1} {b = b} {g = g} {rest = rest} {x = x} {ns = ns} {o = o} p s r) bg =
        let below_g : Below n (variables_of g) = λ v i. bg v (picks-goal p v i) in
        ap (λ t. t || one_never_ends S T (insts_after x b) ns) (never_node s below_g)
        ∙ subst (λ e. one_never_ends S T e ns ≡ is_none o) (sym (after_standing s below_g)) (never_all r (below-more n n1 (variables_of_all rest) (stays S T s).0 (λ v i. bg v (picks-rest p v i))))
    never_all (R.implied_outputs {n = n} {b = b} {c = c} {op = op} {xs = xs} {rest = rest} {ns = ns} {o = o} p f r) bg =
        ap₂ (λ t u. t || u) (answers n b c op xs f)
        (subst (λ e. one_never_ends S T e (nodes_before (test_nodes (fresh_tests S T n b op xs)) ns) ≡ is_none o) (sym (fresh_after n b c op xs f (λ v i. bg v (picks-goal p v i)) (Apply op (at_inputs (inputs_of op) (freshened S T n b op xs)) (at_outputs (inputs_of op) (freshened S T n b op xs)))))
        (tests_never (fresh_tests S T n b op xs) c ns ∙ never_all r (below-more n (n + length (fresh_tests S T n b op xs)) (variables_of_all rest) (omega arith) (λ v i. bg v (picks-rest p v i)))))

    never_any : {O : List ℕ} {n m : ℕ} {b : Insts} {gs : Flat_goals} {ns : Nodes} {os : List (Option Insts)} → StandingAny S T O n b gs ns os m → Below n (variables_of_all gs) → each_never_ends S T b ns ≡ all_none os
    never_any R.no_other bg = refl
    never_any (R.either {n = n} {n1 = n1} {g = g} {gs = gs} s r) bg =
        ap₂ (λ t u. t && u) (never_node s (below-left n (variables_of g) (variables_of_all gs) bg)) (never_any r (below-more n n1 (variables_of_all gs) (stays S T s).0 (below-right n (variables_of g) (variables_of_all gs) bg)))

  -- ---- tidy insts after a goal
  changed_tidy : (b : Insts) (changes : List (ℕ × ℕ)) → EachChangeTidy S T changes → TidyPoint S T b → (v : ℕ) → Tidy P S.insts (change_at v changes (b v)) (T v)
  changed_tidy b [] h q v = q v
  changed_tidy b (change ∷ changes) h q v = at (nat_eq v change.0) (eqb-true v change.0) (changed_tidy b changes h.1 q v)
    where
      at : (t : Bool) → (t ≡ true → v ≡ change.0) → Tidy P S.insts (change_at v changes (b v)) (T v) → Tidy P S.insts (if t then change.1 else change_at v changes (b v)) (T v)
      at true e r = subst (λ w. Tidy P S.insts change.1 (T w)) (sym (e refl)) h.0
      at false e r = r

  after_tidy : (b : Insts) (n : Node) → ChangesTidy S T n → TidyPoint S T b → TidyPoint S T (insts_after n b)
  after_tidy b (node s changes d m) h q v = changed_tidy b changes h.0 q v

  before_tidy : (ns ms : Nodes) → AllChangeTidy S T (nodes_before ns ms) → AllChangeTidy S T ms
  before_tidy no_nodes ms h = h
  before_tidy (node_then n ns) ms h = before_tidy ns ms h.1

  -- ---- groups of disjuncts whose ends are good
  module _ (top : ℕ) (b c : Insts) where
    abbrev IsBound : ℕ → Type 0
    IsBound v = (is_bound (b v) || is_bound (c v)) ≡ true

    -- what is said of a disjunct's end: so is each variable that the whole has bound
    abbrev Good : (ℕ → Bool) → Node → Type 0
    Good t n = never_ends S T b n ≡ false → (v : ℕ) → IsBound v → IsEven (t v) (insts_after n b v) × Tidy P S.insts (insts_after n b v) (T v)

    abbrev AllGood : (ℕ → Bool) → List Disjunct → Type 0
    AllGood t [] = Unit {0}
    AllGood t (d ∷ ds) = Good t d.goal × AllGood t ds

    good_list : (t : ℕ → Bool) (ds : List Disjunct) → AllGood t ds → (v : ℕ) → IsBound v → AllEven (t v) (insts_at v (ends S T b (goals_of ds))) × EachIsTidy P S.insts (insts_at v (ends S T b (goals_of ds))) (T v)
    good_list t [] h v q = (tt, tt)
    good_list t (d ∷ ds) h v q = at (never_ends S T b d.goal) refl (good_list t ds h.1 v q)
      where
        at : (u : Bool) → never_ends S T b d.goal ≡ u → AllEven (t v) (insts_at v (ends S T b (goals_of ds))) × EachIsTidy P S.insts (insts_at v (ends S T b (goals_of ds))) (T v) →
            AllEven (t v) (insts_at v (if u then ends S T b (goals_of ds) else insts_after d.goal b ∷ ends S T b (goals_of ds))) × EachIsTidy P S.insts (insts_at v (if u then ends S T b (goals_of ds) else insts_after d.goal b ∷ ends S T b (goals_of ds))) (T v)
        at true e r = r
        at false e r = (let one = h.0 e v q in ((one.0, r.0), (one.1, r.1)))

    those_good : (t : ℕ → Bool) (f : Disjunct → Bool) (ds : List Disjunct) → AllGood t ds → AllGood t (those f ds)
    those_good t f [] h = tt
    those_good t f (d ∷ ds) h = at (f d) (those_good t f ds h.1)
      where
        at : (u : Bool) → AllGood t (those f ds) → AllGood t (if u then d ∷ those f ds else those f ds)
        at true r = (h.0, r)
        at false r = r

    -- variables that are bound are so many
    abbrev FewBound : Type 0
    FewBound = (v : ℕ) → IsBound v → v < top

    good_even : FewBound → (t : ℕ → Bool) (ds : List Disjunct) → AllGood t ds → even_group S T top b c ds
    good_even few t ds h v q = (let r = good_list t ds h v q in (few v q, either_even (t v) (insts_at v (ends S T b (goals_of ds))) r.0, r.1))

    module _ (few : FewBound) (kept : (before after : Insts) → Kept) (t : ℕ → Bool) where
      groups_good : (k : ℕ) (out : List ℕ) (ds : List Disjunct) → AllGood t ds → OfGroups S T kept (even_group S T top) k b c out ds
      groups_good zero out ds h = tt
      groups_good (suc k) out ds h = at (chosen S T out b ds) (λ out us. groups_good k out us)
        where
          arm : ((out : List ℕ) (us : List Disjunct) → AllGood t us → OfGroups S T kept (even_group S T top) k b c out us) → (out : List ℕ) (us : List Disjunct) → AllGood t us → OfArm S T kept (even_group S T top) (OfGroups S T kept (even_group S T top) k b c out) b c us
          arm rec out [] h = (good_even few t [] h, rec out [] h)
          arm rec out (d ∷ []) h = tt
          arm rec out (d ∷ e ∷ us) h = (good_even few t (d ∷ e ∷ us) h, rec out (d ∷ e ∷ us) h)

          arms : ((out : List ℕ) (us : List Disjunct) → AllGood t us → OfGroups S T kept (even_group S T top) k b c out us) → (out : List ℕ) (x : ℕ) (ls : List Label) → OfArms S T kept (even_group S T top) (OfArm S T kept (even_group S T top) (OfGroups S T kept (even_group S T top) k b c out) b c) x ds ls
          arms rec out x [] = tt
          arms rec out x (l ∷ ls) = (arm rec out (those (opens_with x l) ds) (those_good t (opens_with x l) ds h), arms rec out x ls)

          at : (o : Option ℕ) → ((out : List ℕ) (us : List Disjunct) → AllGood t us → OfGroups S T kept (even_group S T top) k b c out us) → OfChosen S T kept (even_group S T top) (λ out. OfArm S T kept (even_group S T top) (OfGroups S T kept (even_group S T top) k b c out) b c) out ds o
          at None rec = tt
          at (Some x) rec = arms rec (x ∷ out) x (labels_of x ds)

  -- ---- what the ends of a disjunction have in common
  module _ (fits : FitsInsts S.insts) (top : ℕ) where
    abbrev EvenEnds : (b c : Insts) → (ℕ → Bool) → List Insts → Type 0
    EvenEnds b c t [] = Unit {0}
    EvenEnds b c t (d ∷ ds) = ((v : ℕ) → IsBound top b c v → IsEven (t v) (d v)) × EvenEnds b c t ds

    even_heads : (b c : Insts) (t : ℕ → Bool) (ds : List Insts) → ((v : ℕ) → IsBound top b c v → AllEven (t v) (insts_at v ds)) → EvenEnds b c t ds
    even_heads b c t [] h = tt
    even_heads b c t (d ∷ ds) h = ((λ v q. (h v q).0), even_heads b c t ds (λ v q. (h v q).1))

    first_bound : (t u : Bool) → (t || u) ≡ true → u ≡ false → t ≡ true
    first_bound true u e f = refl
    first_bound false true e f = cc
    first_bound false false e f = cc

    neither_bound : (i j : ℕ) → i ≡ 0 → j ≡ 0 → (is_bound i || is_bound j) ≡ true → ⊥
    neither_bound i j e f q = (let r : (is_bound 0 || is_bound 0) ≡ true = ap₂ (λ a c. is_bound a || is_bound c) (sym e) (sym f) ∙ q in cc)

    each_stayed : (own : List ℕ) (n m : ℕ) (b : Insts) (ds : List Insts) (v : ℕ) → EachStays own n m b ds → (In v own → ⊥) → (v < n) ⊎ (m ≤ v) → AllEven (is_set_node (S.insts (b v))) (insts_at v ds)
    each_stayed own n m b [] v h off r = tt
    each_stayed own n m b (d ∷ ds) v h off r =
        (subst (λ i. IsEven (is_set_node (S.insts (b v))) i) (sym (h.0 v off r)) (itself_even (S.insts (b v)) (b v) refl), each_stayed own n m b ds v h.1 off r)

    le_or : (a v : ℕ) → (v < a) ⊎ (a ≤ v)
    le_or zero v = inr (omega arith)
    le_or (suc a) zero = inl (omega arith)
    le_or (suc a) (suc v) = ⊎_elim (λ l. inl (omega (arith, l))) (λ l. inr (omega (arith, l))) (le_or a v)

    range : (n m v : ℕ) → ((v < n) ⊎ (m ≤ v)) ⊎ ((n ≤ v) × (v < m))
    range n m v = at (le_or n v) (le_or m v)
      where
        at : (v < n) ⊎ (n ≤ v) → (v < m) ⊎ (m ≤ v) → ((v < n) ⊎ (m ≤ v)) ⊎ ((n ≤ v) × (v < m))
        at (inl l) r = inl (inl l)
        at (inr l) (inl r) = inr (l, r)
        at (inr l) (inr r) = inl (inr r)

    -- the common kind of a variable's insts
    abbrev kind_of : Option Insts → ℕ → Bool
    kind_of None v = true
    kind_of (Some e) v = is_set_node (S.insts (e v))

    few_bound : (own O : List ℕ) (n m : ℕ) (b c : Insts) (ds : List Insts) (o : Option Insts) → ((e : Insts) → o ≡ Some e → (v : ℕ) → c v ≡ e v) → (o ≡ None → (v : ℕ) → c v ≡ b v) → JoinedOwn S T own O b ds o → n ≤ m → FreeFrom n b → Below n own → m ≤ top → FewBound top b c
    few_bound own O n m b c ds o is none j nm fr bg le v q = at (range v)
      where
        free_b : m ≤ v → b v ≡ 0
        free_b l = fr v (le_trans nm l)

        free_c : (o' : Option Insts) → o ≡ o' → (ds : List Insts) → JoinedOwn S T own O b ds o' → m ≤ v → c v ≡ 0
        free_c None r ds j l = none r v ∙ free_b l
        free_c (Some e) r [] j l = cc
        free_c (Some e) r (d ∷ ds) j l = is e r v ∙ ((j v).2 (λ i. not-le_of_lt (lt_of_lt_of_le (bg v i) nm) l) ∙ free_b l)

        range : (v : ℕ) → (v < m) ⊎ (m ≤ v)
        range v = le_or m v

        at : (v < m) ⊎ (m ≤ v) → v < top
        at (inl l) = lt_of_lt_of_le l le
        at (inr l) = absurd (neither_bound (b v) (c v) (free_b l) (free_c o refl ds j l) q)

    joined_even : (own O : List ℕ) (n m : ℕ) (b c : Insts) (ds : List Insts) (o : Option Insts) → ((e : Insts) → o ≡ Some e → (v : ℕ) → c v ≡ e v) → JoinedOwn S T own O b ds o → EachStays own n m b ds → FreeFrom n b → BoundAreOutside O b own → EvenEnds b c (kind_of o) ds
    joined_even own O n m b c [] o is j st fr inv = tt
    joined_even own O n m b c (d ∷ ds) None is j st fr inv = absurd j
    joined_even own O n m b c (d ∷ ds) (Some e) is j st fr inv = even_heads b c (λ v. is_set_node (S.insts (e v))) (d ∷ ds) (λ v q. at v q (in_or_not v own) (in_or_not v O))
      where
        at : (v : ℕ) → IsBound top b c v → In v own ⊎ (In v own → ⊥) → In v O ⊎ (In v O → ⊥) → AllEven (is_set_node (S.insts (e v))) (insts_at v (d ∷ ds))
        at v q (inl i) (inl k) = merged_even (S.insts (e v)) (insts_at v (d ∷ ds)) _ ((j v).0 i k)
        at v q (inl i) (inr off) =
            let zero_c : c v ≡ 0 = is e refl v ∙ (j v).1 i off in
            let first : is_bound (b v) ≡ true = first_bound (is_bound (b v)) (is_bound (c v)) q (ap is_bound zero_c) in
            absurd (off (inv v first i))
        at v q (inr off) k = by (range n m v)
          where
            by : ((v < n) ⊎ (m ≤ v)) ⊎ ((n ≤ v) × (v < m)) → AllEven (is_set_node (S.insts (e v))) (insts_at v (d ∷ ds))
            by (inl r) = subst (λ i. AllEven (is_set_node (S.insts i)) (insts_at v (d ∷ ds))) (sym ((j v).2 off)) (each_stayed own n m b (d ∷ ds) v st off r)
            by (inr r) =
                let zero_b : b v ≡ 0 = fr v r.0 in
                absurd (neither_bound (b v) (c v) zero_b (is e refl v ∙ (j v).2 off ∙ zero_b) q)

    -- ---- the walk
    module _ (kept : (before after : Insts) → Kept) where
      abbrev Evenly : Insts → Node → Type 0
      Evenly b x = OfEachGroup S T kept (even_group S T top) b x

      tests_even : (ts : List (ℕ × ℕ)) (b : Insts) (ns : Nodes) → OfEachInAll S T kept (even_group S T top) b ns → OfEachInAll S T kept (even_group S T top) b (nodes_before (test_nodes ts) ns)
      tests_even [] b ns h = h
      tests_even (t ∷ ts) b ns h = (tt, tests_even ts b ns h)

      only_tests_even : (ts : List (ℕ × ℕ)) (b : Insts) → OfEachInAll S T kept (even_group S T top) b (test_nodes ts)
      only_tests_even [] b = tt
      only_tests_even (t ∷ ts) b = (tt, only_tests_even ts b)

      part_outside : (O us : List ℕ) (b : Insts) (own part : List ℕ) → BoundAreOutside O b own → ((v : ℕ) → In v part → In v own) → BoundAreOutside (O ++ us) b part
      part_outside O us b own part inv w v q i = in_left v O us (inv v q (w v i))

      next_outside : (O own vs part : List ℕ) (n m : ℕ) (b c : Insts) → BoundAreOutside O b own → ((v : ℕ) → In v part → In v own) → Below n part → Stays vs n m b c → BoundAreOutside (O ++ vs) c part
      next_outside O own vs part n m b c inv w bp st v q i = at (in_or_not v vs)
        where
          at : In v vs ⊎ (In v vs → ⊥) → In v (O ++ vs)
          at (inl j) = in_right v O vs j
          at (inr off) = in_left v O vs (inv v (subst (λ k. is_bound k ≡ true) (st v off (inl (bp v i))) q) (w v i))

      good_end : {O : List ℕ} {n m : ℕ} {b : Insts} {g : Flat_goal} {x : Node} {o : Option Insts} (c : Insts) (t : ℕ → Bool) → Standing S T O n b g x o m → Below n (variables_of g) → ChangesTidy S T x → TidyPoint S T b → EvenEnds b c t (reachable (o ∷ [])) → Good top b c t (formed S T kept b x)
      good_end {b = b} {x = x} {o = None} c t s bg ct tp ev e = (let f : true ≡ false = sym (node_never S T kept b x ∙ never_node s bg) ∙ e in cc)
      good_end {b = b} {x = x} {o = Some d} c t s bg ct tp ev e = λ v q.
          let same : insts_after (formed S T kept b x) b ≡ d = after_form S T kept b b x ∙ after_standing s bg in (
            subst (λ i. IsEven (t v) i) (sym (ap (λ (k : Insts). k v) same)) (ev.0 v q),
            subst (λ (k : Insts). Tidy P S.insts (k v) (T v)) (sym (after_form S T kept b b x)) (after_tidy b x ct tp v),
          )

      first_end : (b c : Insts) (t : ℕ → Bool) (o : Option Insts) (os : List (Option Insts)) → EvenEnds b c t (reachable (o ∷ os)) → EvenEnds b c t (reachable (o ∷ [])) × EvenEnds b c t (reachable os)
      first_end b c t None os h = (tt, h)
      first_end b c t (Some d) os h = ((h.0, tt), h.1)

      mutual
        even_node : {O : List ℕ} {n m : ℕ} {b : Insts} {g : Flat_goal} {x : Node} {o : Option Insts} → Standing S T O n b g x o m → m ≤ top → Below n (variables_of g) → FreeFrom n b → BoundAreOutside O b (variables_of g) → ChangesTidy S T x → TidyPoint S T b → Evenly b x
        even_node (R.assign p q r) le bg fr inv ct tp = tt
        even_node (R.assign_back p q r) le bg fr inv ct tp = tt
        even_node (R.test p q r a) le bg fr inv ct tp = tt
        even_node (R.build p q r a h) le bg fr inv ct tp = tt
        even_node (R.take p q r a) le bg fr inv ct tp = tt
        even_node (R.take_never p q r) le bg fr inv ct tp = tt
        even_node (R.put p) le bg fr inv ct tp = tt
        even_node (R.test_constant p q r) le bg fr inv ct tp = tt
        even_node (R.test_never p q r) le bg fr inv ct tp = tt
        even_node (R.call lt u a h) le bg fr inv ct tp = tt
        even_node (R.apply e u a i h) le bg fr inv ct tp = tt
        even_node (R.apply_freshly {n = n} {b = b} {op = op} {xs = xs} f) le bg fr inv ct tp = (tt, only_tests_even (fresh_tests S T n b op xs) _)
        even_node (R.conj s) le bg fr inv ct tp = even_all s le bg fr inv ct.1 tp
        even_node (R.disj {O = O} {n = n} {m = m} {b = b} {gs = gs} {ns = ns} {os = os} {o = o} s j) le bg fr inv ct tp =
            let st = any-stays S T s in
            let c : Insts = insts_after (keeping S T m b o (Disj ns)) b in
            let is : (e : Insts) → o ≡ Some e → (v : ℕ) → c v ≡ e v = (λ e q v. ap (λ (k : Insts). k v) (ends_at (R.disj s j) bg e q)) in
            let few = few_bound (variables_of_all gs) O n m b c (reachable os) o is (λ q. none_after (R.disj s j) bg q) j st.0 fr bg le in
            let ev = joined_even (variables_of_all gs) O n m b c (reachable os) o is j st.1 fr inv in
            let r = even_any s le bg fr inv ct.1 tp c (kind_of o) ev in
            (groups_good top b c few kept (kind_of o) (openings_of (disjuncts S T kept b ns)) [] (disjuncts S T kept b ns) r.0, r.1)
        even_node (R.ite {O = O} {n = n} {n1 = n1} {n2 = n2} {b = b} {c = c} {vs = vs} {g = g} {h = h} {k = k} {x = x} {y = y} {z = z} s p t u j) le bg fr inv ct tp =
            let sg = stays S T s in
            let st = stays S T t in
            let own : List ℕ = variables_of (F.If vs g h k) in
            let below_g : Below n (variables_of g) = λ v i. bg v (in-condition vs g h k v i) in
            let below_h : Below n (variables_of h) = λ v i. bg v (in-then vs g h k v i) in
            let below_k : Below n (variables_of k) = λ v i. bg v (in-else vs g h k v i) in
            let at_c : insts_after x b ≡ c = after_standing s below_g in
            let tidy_c : TidyPoint S T c = subst (λ e. TidyPoint S T e) at_c (after_tidy b x ct.1.0 tp) in (
              even_node s (le_trans st.0 (le_trans (stays S T u).0 le)) below_g fr (part_outside O (without (free_in g) vs ++ variables_of h) b own (variables_of g) inv (in-condition vs g h k)) ct.1.0 tp,
              subst (λ e. Evenly e y) (sym at_c)
                  (even_node t (le_trans (stays S T u).0 le) (below-more n n1 (variables_of h) sg.0 below_h) (free-later (variables_of g) n n1 b c below_g sg.0 sg.1 fr) (next_outside O own (variables_of g) (variables_of h) n n1 b c inv (in-then vs g h k) below_h sg.1) ct.1.1 tidy_c),
              even_node u le (below-more n n2 (variables_of k) (le_trans sg.0 st.0) below_k) (λ w lw. fr w (le_trans (le_trans sg.0 st.0) lw)) (λ v q i. inv v q (in-else vs g h k v i)) ct.1.2 tp,
            )
        even_node (R.ite_never {O = O} {n = n} {n1 = n1} {b = b} {vs = vs} {g = g} {h = h} {k = k} {x = x} {z = z} s u j) le bg fr inv ct tp =
            let sg = stays S T s in
            let own : List ℕ = variables_of (F.If vs g h k) in (
              even_node s (le_trans (stays S T u).0 le) (λ v i. bg v (in-condition vs g h k v i)) fr (part_outside O (without (free_in g) vs ++ variables_of h) b own (variables_of g) inv (in-condition vs g h k)) ct.1.0 tp,
              tt,
              even_node u le (below-more n n1 (variables_of k) sg.0 (λ v i. bg v (in-else vs g h k v i))) (λ w lw. fr w (le_trans sg.0 lw)) (λ v q i. inv v q (in-else vs g h k v i)) ct.1.2 tp,
            )
        even_node (R.neg {O = O} {b = b} {g = g} s p) le bg fr inv ct tp = even_node s le bg fr (part_outside O (free_in g) b (variables_of g) (variables_of g) inv (λ v i. i)) ct.1 tp
        even_node (R.some {n = n} {vs = vs} {g = g} s) le bg fr inv ct tp = even_node s le (below-right n vs (variables_of g) bg) fr (λ v q i. inv v q (in_right v vs (variables_of g) i)) ct.1 tp

        even_all : {O : List ℕ} {n m : ℕ} {b : Insts} {gs : Flat_goals} {ns : Nodes} {o : Option Insts} → StandingAll S T O n b gs ns o m → m ≤ top → Below n (variables_of_all gs) → FreeFrom n b → BoundAreOutside O b (variables_of_all gs) → AllChangeTidy S T ns → TidyPoint S T b → OfEachInAll S T kept (even_group S T top) b ns
        even_all R.done le bg fr inv ct tp = tt
        even_all (R.dropped {O = O} {b = b} {g = g} {gs = gs} {rest = rest} p s) le bg fr inv ct tp = (even_node s le (λ v i. bg v (picks-goal p v i)) fr (part_outside O (variables_of_all rest) b (variables_of_all gs) (variables_of g) inv (picks-goal p)) ct.0 tp, tt)
        even_all (R.next {O = O} {n = n} {n1 = n1} {b = b} {c = c} {g = g} {gs = gs} {rest = rest} {x = x} {ns = ns} p s r) le bg fr inv ct tp =
            let sg = stays S T s in
            let below_g : Below n (variables_of g) = λ v i. bg v (picks-goal p v i) in
            let below_rest : Below n (variables_of_all rest) = λ v i. bg v (picks-rest p v i) in
            let at_c : insts_after x b ≡ c = after_standing s below_g in
            let tidy_c : TidyPoint S T c = subst (λ e. TidyPoint S T e) at_c (after_tidy b x ct.0 tp) in (
              even_node s (le_trans (all-stays S T r).0 le) below_g fr (part_outside O (variables_of_all rest) b (variables_of_all gs) (variables_of g) inv (picks-goal p)) ct.0 tp,
              subst (λ e. OfEachInAll S T kept (even_group S T top) e ns) (sym at_c)
                  (even_all r le (below-more n n1 (variables_of_all rest) sg.0 below_rest) (free-later (variables_of g) n n1 b c below_g sg.0 sg.1 fr) (next_outside O (variables_of_all gs) (variables_of g) (variables_of_all rest) n n1 b c inv (picks-rest p) below_rest sg.1) ct.1 tidy_c),
            )
        even_all (R.implied_outputs {O = O} {n = n} {b = b} {c = c} {op = op} {xs = xs} {gs = gs} {rest = rest} {ns = ns} p f r) le bg fr inv ct tp =
            let end : ℕ = n + length (fresh_tests S T n b op xs) in
            let zs : List ℕ = freshened S T n b op xs in
            let one : Node = keeping S T end b (Some c) (Apply op (at_inputs (inputs_of op) zs) (at_outputs (inputs_of op) zs)) in
            let below_xs : Below n xs = λ v i. bg v (picks-goal p v i) in
            let below_rest : Below n (variables_of_all rest) = λ v i. bg v (picks-rest p v i) in
            let sf = freshly-stays S T n b c op xs f in
            let at_c : insts_after one b ≡ c = fresh_after n b c op xs f below_xs (Apply op (at_inputs (inputs_of op) zs) (at_outputs (inputs_of op) zs)) in
            let tidy_c : TidyPoint S T c = subst (λ e. TidyPoint S T e) at_c (after_tidy b one ct.0 tp) in
            let inv_c = next_outside O (variables_of_all gs) xs (variables_of_all rest) n end b c inv (picks-rest p) below_rest sf in (
              tt,
              subst (λ e. OfEachInAll S T kept (even_group S T top) e (nodes_before (test_nodes (fresh_tests S T n b op xs)) ns)) (sym at_c)
                  (tests_even (fresh_tests S T n b op xs) c ns
                  (even_all r le (below-more n end (variables_of_all rest) (omega arith) below_rest) (free-later xs n end b c below_xs (omega arith) sf fr)
                  (λ v q i. ⊎_elim (λ k. in_left v O (xs ++ zs) k) (λ k. in_right v O (xs ++ zs) (in_left v xs zs k)) (in_either v O xs (inv_c v q i)))
                  (before_tidy (test_nodes (fresh_tests S T n b op xs)) ns ct.1) tidy_c)),
            )

        even_any : {O : List ℕ} {n m : ℕ} {b : Insts} {gs : Flat_goals} {ns : Nodes} {os : List (Option Insts)} → StandingAny S T O n b gs ns os m → m ≤ top → Below n (variables_of_all gs) → FreeFrom n b → BoundAreOutside O b (variables_of_all gs) → AllChangeTidy S T ns → TidyPoint S T b → (c : Insts) (t : ℕ → Bool) → EvenEnds b c t (reachable os) →
            AllGood top b c t (disjuncts S T kept b ns) × OfEachInEach S T kept (even_group S T top) b ns
        even_any R.no_other le bg fr inv ct tp c t ev = (tt, tt)
        even_any (R.either {O = O} {n = n} {n1 = n1} {b = b} {g = g} {gs = gs} {o = o} {os = os} s r) le bg fr inv ct tp c t ev =
            let sg = stays S T s in
            let below_g : Below n (variables_of g) = below-left n (variables_of g) (variables_of_all gs) bg in
            let e = first_end b c t o os ev in
            let rest = even_any r le (below-more n n1 (variables_of_all gs) sg.0 (below-right n (variables_of g) (variables_of_all gs) bg)) (λ w lw. fr w (le_trans sg.0 lw)) (λ v q i. inv v q (in_right v (variables_of g) (variables_of_all gs) i)) ct.1 tp c t e.1 in (
              (good_end c t s below_g ct.0 tp e.0, rest.0),
              (even_node s (le_trans (any-stays S T r).0 le) below_g fr (λ v q i. inv v q (in_left v (variables_of g) (variables_of_all gs) i)) ct.0 tp, rest.1),
            )

pub groups_are_even : GroupsAreEven
groups_are_even S T kept O n b g x o m top fits s le bg fr inv ct tp = even_node S T fits top kept s le bg fr inv ct tp
