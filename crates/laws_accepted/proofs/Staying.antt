-- What becomes of a variable that isn't the goal's own: it is bound after the goal only where it was
-- bound before, and one that doesn't occur outside either keeps its inst or is free.
use Rattle.std.proofs.Common.{◌≡◌, ◌≢◌, ◌⊎◌, inl, inr, ℕ, zero, suc, List, [], ◌∷◌, ◌++◌, map, Bool, true, false, if◌then◌else◌, Option, Some, None, refl, sym, ap, ◌∙◌, subst, ⊎_elim}
use Rattle.mc_program.specs.Programs.{TypeTerm}
use Rattle.mc_source.specs.declared.det.Most.{Most}
use Rattle.mc_source.specs.declared.det.Most.TheVariants.{Zero, One, Many}
use Rattle.mc_model.specs.Insts.{free, ground, unique, dead, bound}
use Rattle.mc_model.specs.Outcomes.{inputs_of}
use Rattle.mc_model.specs.Flat.{Flat_goal, Flat_goals, variables_of, variables_of_all, free_in}
use Rattle.mc_model.specs.Lists.{In, is_in, without}
use Rattle.mc_model.specs.Stream.{is_bound}
use Rattle.mc_model.specs.Scheduled.{Node, Scheduled, Nodes, Arms}
use Rattle.mc_model.specs.Good.{System}
use Rattle.mc_accepted.specs.Fits.{FitsInsts}
use Rattle.mc_accepted.specs.Inclusion.{AllFree, NoneIs, LeastAbove, MergedNodes, Merged}
use Rattle.mc_accepted.specs.Ordered as R
use Rattle.mc_accepted.specs.Ordered.{Insts, also, is_state, take_all, unless_never, builtin_most, modes_of, at_inputs, at_outputs, tested_by, firsts, reachable, Freshened, FreshenedHere, Joined, Ordered, OrderedNode, OrderedAll, OrderedAny, OrderedArms, kept, variables_of_node, variables_of_scheduled, variables_of_nodes, variables_of_arms}
use Rattle.laws_order.proofs.Arranging.{is-unset, free-is-own}
use Rattle.laws_order.proofs.StandingFacts.{picks-goal, picks-rest, also-off, state-off, take-off, after-off}
use Rattle.laws_accepted.proofs.Groups.{kinds}
use Rattle.laws_accepted.proofs.Outside.{place_stands, usable_length}
use Rattle.laws_language.proofs.BuiltinModes.{modes_length}
use Rattle.laws_language.proofs.FlatWhole.{in_or_not}
use Rattle.laws_language.proofs.FlatGoals.{in_either, in_left, in_right}
use Rattle.laws_language.proofs.ClauseNumbers.{from_without}
use Rattle.laws_sound.proofs.Sound.{arm_variables, parts_others, parts_some}

-- ---- merged insts where node 0 alone is free
abbrev pub insts_at : ℕ → List Insts → List ℕ
insts_at y cs = map (λ (c : Insts). c y) cs

module _ (S : System) (fits : FitsInsts S.insts) where
  pub set_not_free : (i : ℕ) → is_bound i ≡ true → S.insts i ≢ free
  set_not_free zero e f = cc
  set_not_free (suc zero) e f = let g : ground ≡ free = sym fits.is_ground ∙ f in cc
  set_not_free (suc (suc zero)) e f = let g : unique ≡ free = sym fits.is_unique ∙ f in cc
  set_not_free (suc (suc (suc zero))) e f = let g : dead ≡ free = sym fits.is_dead ∙ f in cc
  set_not_free (suc (suc (suc (suc i)))) e f = let q = fits.are_bound i in let g : bound q.0 ≡ free = sym q.1 ∙ f in cc

  pub free_at_zero : (i : ℕ) → is_bound i ≡ false → S.insts i ≡ free
  free_at_zero i e = ap S.insts (is-unset i e) ∙ fits.is_free

  pub not_free_set : (i : ℕ) → S.insts i ≢ free → is_bound i ≡ true
  not_free_set i n = at (is_bound i) refl
    where
      at : (t : Bool) → is_bound i ≡ t → is_bound i ≡ true
      at true e = e
      at false e = absurd (n (free_at_zero i e))

  pub merged_free : (is : List ℕ) (k : ℕ) (t : TypeTerm) → Merged S.world.source S.insts is k t → is_bound k ≡ false → AllFree S.insts is
  merged_free is k t m e = subst (λ N. MergedNodes S.insts is N (LeastAbove S.world.source S.insts is k t)) (free_at_zero k e) m

  pub free_merged : (is : List ℕ) (k : ℕ) (t : TypeTerm) → AllFree S.insts is → k ≡ 0 → Merged S.world.source S.insts is k t
  free_merged is k t f e = subst (λ N. MergedNodes S.insts is N (LeastAbove S.world.source S.insts is k t)) (sym (ap S.insts e ∙ fits.is_free)) f

  pub merged_set : (is : List ℕ) (k : ℕ) (t : TypeTerm) → Merged S.world.source S.insts is k t → is_bound k ≡ true → NoneIs free S.insts is
  merged_set is k t m e =
      ⊎_elim (λ a. absurd (set_not_free k e a.0)) (λ r. ⊎_elim (λ d. d.1) (λ q. q.2) r)
      (kinds S.insts is (S.insts k) (LeastAbove S.world.source S.insts is k t) m)

-- ---- lists of variables
pub fresh_stands : (w k : ℕ) (is xs zs : List ℕ) (ts : List (ℕ × ℕ)) → Freshened k is xs zs ts → In w zs → In w xs ⊎ In w (firsts ts)
fresh_stands w k is [] [] ts h i = absurd i
fresh_stands w k is [] (z ∷ zs) ts h i = absurd h
fresh_stands w k is (x ∷ xs) [] ts h i = absurd i
fresh_stands w k is (x ∷ xs) (z ∷ zs) ts h i = at (is_in k is) ts h (λ us g j. fresh_stands w (suc k) is xs zs us g j) i
  where
    at : (t : Bool) (us : List (ℕ × ℕ)) → FreshenedHere t x z us (Freshened (suc k) is xs zs) → ((us : List (ℕ × ℕ)) → Freshened (suc k) is xs zs us → In w zs → In w xs ⊎ In w (firsts us)) → (w ≡ z) ⊎ In w zs → ((w ≡ x) ⊎ In w xs) ⊎ In w (firsts us)
    at false us h again (inl e) = inl (inl (e ∙ h.0))
    at false us h again (inr j) = ⊎_elim (λ a. inl (inr a)) (λ a. inr a) (again us h.1 j)
    at true [] h again i = absurd h
    at true (t ∷ us) h again (inl e) = inr (inl (e ∙ sym (ap (λ (q : ℕ × ℕ). q.0) h.0)))
    at true (t ∷ us) h again (inr j) = ⊎_elim (λ a. inl (inr a)) (λ a. inr (inr a)) (again us h.1 j)

pub behind_tests : (x : ℕ) (ts : List (ℕ × ℕ)) (ns : Nodes) → In x (variables_of_nodes ns) → In x (variables_of_nodes (tested_by ts ns))
behind_tests x [] ns i = i
behind_tests x (t ∷ ts) ns i = inr (inr (behind_tests x ts ns i))

-- ---- one variable; what is shown of one that occurs outside, and of one that doesn't
module _ (S : System) (T : ℕ → TypeTerm) (fits : FitsInsts S.insts) (x : ℕ) where
  abbrev pub Keep : (outside : Bool) → Insts → Insts → Type 0
  Keep true b c = is_bound (c x) ≡ true → is_bound (b x) ≡ true
  Keep false b c = (c x ≡ b x) ⊎ (c x ≡ 0)

  abbrev pub Keeps : (outside : Bool) → Insts → Option Insts → Type 0
  Keeps w b None = Unit {0}
  Keeps w b (Some c) = Keep w b c

  abbrev EachKeep : (outside : Bool) → Insts → List Insts → Type 0
  EachKeep w b [] = Unit {0}
  EachKeep w b (c ∷ cs) = Keep w b c × EachKeep w b cs

  abbrev pub Away : (outside : Bool) → (O Q own : List ℕ) → Type 0
  Away true O Q own = In x O ⊎ In x Q
  Away false O Q own = (In x O → ⊥) × (In x own → ⊥)

  wide : (w : Bool) (O us Q vs own part : List ℕ) → Away w O Q own → (In x us → ⊥) → (In x part → In x own) → Away w (O ++ us) (Q ++ vs) part
  wide true O us Q vs own part p off k = ⊎_elim (λ i. inl (in_left x O us i)) (λ i. inr (in_left x Q vs i)) p
  wide false O us Q vs own part p off k = ((λ i. ⊎_elim (λ j. p.0 j) (λ j. off j) (in_either x O us i)), (λ i. p.1 (k i)))

  within : (w : Bool) (O Q own part : List ℕ) → Away w O Q own → (In x part → In x own) → Away w O Q part
  within true O Q own part p k = p
  within false O Q own part p k = (p.0, (λ i. p.1 (k i)))

  same_keeps : (w : Bool) (b c : Insts) → c x ≡ b x → Keep w b c
  same_keeps true b c e = λ q. subst (λ i. is_bound i ≡ true) e q
  same_keeps false b c e = inl e

  chained : (w : Bool) (b c : Insts) (o : Option Insts) → Keep w b c → Keeps w c o → Keeps w b o
  chained w b c None k l = tt
  chained true b c (Some d) k l = λ q. k (l q)
  chained false b c (Some d) k l = ⊎_elim (λ e. ⊎_elim (λ f. inl (e ∙ f)) (λ f. inr (e ∙ f)) k) (λ e. inr e) l

  never_keeps : (w : Bool) (b c : Insts) (m : Most) → Keep w b c → Keeps w b (unless_never m c)
  never_keeps w b c Zero k = tt
  never_keeps w b c One k = k
  never_keeps w b c Many k = k

  each_keep : (w : Bool) (b : Insts) (o : Option Insts) (os : List (Option Insts)) → Keeps w b o → EachKeep w b (reachable os) → EachKeep w b (reachable (o ∷ os))
  each_keep w b None os k ks = ks
  each_keep w b (Some c) os k ks = (k, ks)

  joined_keeps : (w : Bool) (O Q own : List ℕ) (b : Insts) (ends : List Insts) (o : Option Insts) → Away w O Q own → EachKeep w b ends → Joined S T O b ends o → Keeps w b o
  joined_keeps w O Q own b [] o p ks j = subst (λ o. Keeps w b o) (sym j) tt
  joined_keeps w O Q own b (c ∷ cs) None p ks j = tt
  joined_keeps false O Q own b (c ∷ cs) (Some e) p ks j = ⊎_elim (λ z. inr z) (λ q. inl q) ((j x).1 p.0)
  joined_keeps true O Q own b (c ∷ cs) (Some e) p ks j = λ q. at q (in_or_not x O)
    where
      at : is_bound (e x) ≡ true → In x O ⊎ (In x O → ⊥) → is_bound (b x) ≡ true
      at q (inl i) = ks.0 (not_free_set S fits (c x) (merged_set S fits (insts_at x (c ∷ cs)) (e x) (T x) ((j x).0 i) q).0)
      at q (inr n) = ⊎_elim (λ z. let f : is_bound (e x) ≡ false = ap is_bound z in cc) (λ f. subst (λ i. is_bound i ≡ true) f q) ((j x).1 n)

  mutual
    stays_in : {O Q : List ℕ} {b : Insts} {g : Flat_goal} {s : Scheduled} {o : Option Insts} → Ordered S T O Q b g s o → (w : Bool) → (In x (variables_of g) → ⊥) → Away w O Q (variables_of_scheduled s) → Keeps w b o
    stays_in (R.assign {b = b} {x = u} {y = v} bx by nd) w off p = same_keeps w b (also u (b v) (if is_state (T v) then also v 3 b else b)) (also-off u (b v) (if is_state (T v) then also v 3 b else b) x (λ e. off (inl e)) ∙ state-off (is_state (T v)) b (also v 3 b) x (also-off v 3 b x (λ e. off (inr (inl e)))))
    stays_in (R.assign_back {b = b} {x = u} {y = v} bx by nd) w off p = same_keeps w b (also u (b v) (if is_state (T v) then also v 3 b else b)) (also-off u (b v) (if is_state (T v) then also v 3 b else b) x (λ e. off (inr (inl e))) ∙ state-off (is_state (T v)) b (also v 3 b) x (also-off v 3 b x (λ e. off (inl e))))
    stays_in (R.test {b = b} bx by st nd) w off p = same_keeps w b b refl
    stays_in (R.build {b = b} {x = u} {i = i} bx ab ns nd over) w off p = same_keeps w b (also u i b) (also-off u i b x (λ e. off (inl e)))
    stays_in (R.take {b = b} {x = u} {i = i} {ys = ys} {is = is} bx nd a over) w off p = same_keeps w b (take_all ys is (also u i b)) (take-off ys is (also u i b) x (λ j. off (inr j)) ∙ also-off u i b x (λ e. off (inl e)))
    stays_in (R.take_never bx nd never) w off p = tt
    stays_in (R.put {b = b} {x = u} bx) w off p = same_keeps w b (also u 1 b) (also-off u 1 b x (λ e. off (inl e)))
    stays_in (R.test_constant {b = b} bx nd a) w off p = same_keeps w b b refl
    stays_in (R.test_never bx nd never) w off p = tt
    stays_in (R.call {b = b} {c = c} {p = q} lt u nd a) w off p = never_keeps w b c (S.procs q).det.most (same_keeps w b c (after-off S T a x off))
    stays_in (R.apply {b = b} {c = c} {op = op} e u nd i a) w off p = never_keeps w b c (builtin_most op) (same_keeps w b c (after-off S T a x off))
    stays_in (R.implied_alone {xs = xs} h) w off p = stays_all h w (λ i. ⊎_elim (λ j. off j) (λ j. j) (in_either x xs [] i)) p
    stays_in (R.conj h) w off p = stays_all h w off p
    stays_in (R.disj {O = O} {Q = Q} {b = b} {ns = ns} {os = os} {o = o} h j) w off p = joined_keeps w O Q (variables_of_nodes ns) b (reachable os) o p (stays_any h w off p) j
    stays_in (R.switch {O = O} {Q = Q} {b = b} {x = v} {arms = arms} {os = os} {o = o} bx i h j) w off p =
        joined_keeps w O Q (v ∷ variables_of_arms arms) b (reachable os) o p (stays_arms h w off (within w O Q (v ∷ variables_of_arms arms) (variables_of_arms arms) p (λ k. inr k))) j
    stays_in (R.ite {O = O} {Q = Q} {b = b} {c = c} {vs = vs} {g = g} {h = h} {k = k} {n = n} {t = t} {u = u} {o = o} {o' = o'} {o'' = o''} out gn none ht ku j) w off p =
        (let own : List ℕ = vs ++ (variables_of_node n ++ (variables_of_node t ++ variables_of_node u)) in
        let off_g : In x (variables_of g) → ⊥ = λ i. off (in_right x vs (variables_of g ++ (variables_of h ++ variables_of k)) (in_left x (variables_of g) (variables_of h ++ variables_of k) i)) in
        let off_h : In x (variables_of h) → ⊥ = λ i. off (in_right x vs (variables_of g ++ (variables_of h ++ variables_of k)) (in_right x (variables_of g) (variables_of h ++ variables_of k) (in_left x (variables_of h) (variables_of k) i))) in
        let off_k : In x (variables_of k) → ⊥ = λ i. off (in_right x vs (variables_of g ++ (variables_of h ++ variables_of k)) (in_right x (variables_of g) (variables_of h ++ variables_of k) (in_right x (variables_of h) (variables_of k) i))) in
        let off_c : In x (without (free_in g) vs ++ variables_of h) → ⊥ = λ i. ⊎_elim (λ q. off_g (free-is-own g x (from_without x (free_in g) vs q))) (λ q. off_h q) (in_either x (without (free_in g) vs) (variables_of h) i) in
        let first = stays_node gn w off_g (wide w O (without (free_in g) vs ++ variables_of h) Q (variables_of_node t) own (variables_of_node n) p off_c (λ i. in_right x vs (variables_of_node n ++ (variables_of_node t ++ variables_of_node u)) (in_left x (variables_of_node n) (variables_of_node t ++ variables_of_node u) i))) in
        let behind = stays_node ht w off_h (wide w O (variables_of g) Q (variables_of_node n) own (variables_of_node t) p off_g (λ i. in_right x vs (variables_of_node n ++ (variables_of_node t ++ variables_of_node u)) (in_right x (variables_of_node n) (variables_of_node t ++ variables_of_node u) (in_left x (variables_of_node t) (variables_of_node u) i)))) in
        let other = stays_node ku w off_k (within w O Q own (variables_of_node u) p (λ i. in_right x vs (variables_of_node n ++ (variables_of_node t ++ variables_of_node u)) (in_right x (variables_of_node n) (variables_of_node t ++ variables_of_node u) (in_right x (variables_of_node t) (variables_of_node u) i)))) in
        joined_keeps w O Q own b (reachable (o ∷ o' ∷ [])) o'' p (each_keep w b o (o' ∷ []) (chained w b c o first behind) (each_keep w b o' [] other tt)) j)
    stays_in (R.ite_never {O = O} {Q = Q} {b = b} {vs = vs} {g = g} {h = h} {k = k} {n = n} {t = t} {u = u} {o = o} {o'' = o''} out gn e ku j) w off p =
        (let own : List ℕ = vs ++ (variables_of_node n ++ (variables_of_node t ++ variables_of_node u)) in
        let off_k : In x (variables_of k) → ⊥ = λ i. off (in_right x vs (variables_of g ++ (variables_of h ++ variables_of k)) (in_right x (variables_of g) (variables_of h ++ variables_of k) (in_right x (variables_of h) (variables_of k) i))) in
        let other = stays_node ku w off_k (within w O Q own (variables_of_node u) p (λ i. in_right x vs (variables_of_node n ++ (variables_of_node t ++ variables_of_node u)) (in_right x (variables_of_node n) (variables_of_node t ++ variables_of_node u) (in_right x (variables_of_node t) (variables_of_node u) i)))) in
        joined_keeps w O Q own b (reachable (o ∷ [])) o'' p (each_keep w b o [] other tt) j)
    stays_in (R.neg {b = b} h none) w off p = same_keeps w b b refl
    stays_in (R.some {O = O} {Q = Q} {vs = vs} {g = g} {n = n} out h) w off p = stays_node h w (λ i. off (in_right x vs (variables_of g) i)) (within w O Q (vs ++ variables_of_node n) (variables_of_node n) p (λ i. in_right x vs (variables_of_node n) i))

    pub stays_node : {O Q : List ℕ} {b : Insts} {g : Flat_goal} {n : Node} {o : Option Insts} → OrderedNode S T O Q b g n o → (w : Bool) → (In x (variables_of g) → ⊥) → Away w O Q (variables_of_node n) → Keeps w b o
    stays_node (kept r k) w off p = stays_in r w off p

    stays_all : {O Q : List ℕ} {b : Insts} {gs : Flat_goals} {ns : Nodes} {o : Option Insts} → OrderedAll S T O Q b gs ns o → (w : Bool) → (In x (variables_of_all gs) → ⊥) → Away w O Q (variables_of_nodes ns) → Keeps w b o
    stays_all (R.done {b = b}) w off p = same_keeps w b b refl
    stays_all (R.dropped pk h) w off p = tt
    stays_all (R.next {O = O} {Q = Q} {b = b} {c = c} {g = g} {rest = rest} {n = n} {ns = ns} {o = o} pk h hs) w off p =
        (let own : List ℕ = variables_of_node n ++ variables_of_nodes ns in
        let off_g : In x (variables_of g) → ⊥ = λ i. off (picks-goal pk x i) in
        let off_r : In x (variables_of_all rest) → ⊥ = λ i. off (picks-rest pk x i) in
        chained w b c o
        (stays_node h w off_g (wide w O (variables_of_all rest) Q (variables_of_nodes ns) own (variables_of_node n) p off_r (λ i. in_left x (variables_of_node n) (variables_of_nodes ns) i)))
        (stays_all hs w off_r (wide w O (variables_of g) Q (variables_of_node n) own (variables_of_nodes ns) p off_g (λ i. in_right x (variables_of_node n) (variables_of_nodes ns) i))))
    stays_all (R.implied_outputs {O = O} {Q = Q} {b = b} {c = c} {op = op} {xs = xs} {zs = zs} {gs = gs} {rest = rest} {ns = ns} {o = o} tests pk e most f nd di ap1 ts u i a k r) w off p =
        (let args : List ℕ = at_inputs (inputs_of op) zs ++ at_outputs (inputs_of op) zs in
        let later : List ℕ = variables_of_nodes (tested_by tests ns) in
        let off_x : In x xs → ⊥ = λ i. off (picks-goal pk x i) in
        let off_z : In x zs → ⊥ = off_fresh w O Q gs tests args later zs xs p off (λ i. ap1 x i) (λ i. fresh_stands x 0 _ xs zs tests f i) off_x
        (λ i. ⊎_elim (λ j. in_left x (at_inputs (inputs_of op) zs) (at_outputs (inputs_of op) zs) j) (λ j. in_right x (at_inputs (inputs_of op) zs) (at_outputs (inputs_of op) zs) j) (place_stands x (inputs_of op) zs (modes_length op ∙ usable_length S T zs (modes_of op) zs b u) i)) in
        chained w b c o (same_keeps w b c (after-off S T a x off_z))
        (stays_all r w (λ i. off (picks-rest pk x i)) (wide w O (xs ++ zs) Q (xs ++ zs) (args ++ later) (variables_of_nodes ns) p (λ i. ⊎_elim (λ j. off_x j) (λ j. off_z j) (in_either x xs zs i)) (λ i. in_right x args later (behind_tests x tests ns i)))))
      where
        off_fresh : (w : Bool) (O Q : List ℕ) (gs : Flat_goals) (tests : List (ℕ × ℕ)) (args later zs xs : List ℕ) → Away w O Q (args ++ later) → (In x (variables_of_all gs) → ⊥) → (In x (firsts tests) → In x (O ++ (Q ++ variables_of_all gs)) → ⊥) → (In x zs → In x xs ⊎ In x (firsts tests)) → (In x xs → ⊥) → (In x zs → In x args) → In x zs → ⊥
        off_fresh true O Q gs tests args later zs xs p off new stands off_x placed i = ⊎_elim (λ j. off_x j) (λ j. new j (⊎_elim (λ q. in_left x O (Q ++ variables_of_all gs) q) (λ q. in_right x O (Q ++ variables_of_all gs) (in_left x Q (variables_of_all gs) q)) p)) (stands i)
        off_fresh false O Q gs tests args later zs xs p off new stands off_x placed i = p.1 (in_left x args later (placed i))

    stays_any : {O Q : List ℕ} {b : Insts} {gs : Flat_goals} {ns : Nodes} {os : List (Option Insts)} → OrderedAny S T O Q b gs ns os → (w : Bool) → (In x (variables_of_all gs) → ⊥) → Away w O Q (variables_of_nodes ns) → EachKeep w b (reachable os)
    stays_any R.no_other w off p = tt
    stays_any (R.either {O = O} {Q = Q} {b = b} {g = g} {gs = gs} {n = n} {ns = ns} {o = o} {os = os} h hs) w off p =
        (let own : List ℕ = variables_of_node n ++ variables_of_nodes ns in
        each_keep w b o os (stays_node h w (λ i. off (in_left x (variables_of g) (variables_of_all gs) i)) (within w O Q own (variables_of_node n) p (λ i. in_left x (variables_of_node n) (variables_of_nodes ns) i)))
        (stays_any hs w (λ i. off (in_right x (variables_of g) (variables_of_all gs) i)) (within w O Q own (variables_of_nodes ns) p (λ i. in_right x (variables_of_node n) (variables_of_nodes ns) i))))

    stays_arms : {O Q : List ℕ} {b : Insts} {v : ℕ} {gs : Flat_goals} {arms : Arms} {os : List (Option Insts)} → OrderedArms S T O Q b v gs arms os → (w : Bool) → (In x (variables_of_all gs) → ⊥) → Away w O Q (variables_of_arms arms) → EachKeep w b (reachable os)
    stays_arms R.no_arm w off p = tt
    stays_arms (R.arm {O = O} {Q = Q} {b = b} {hs = hs} {n = n} {arms = arms} {o = o} {os = os} pt il op ab h r) w off p =
        (let own : List ℕ = variables_of_node n ++ variables_of_arms arms in
        each_keep w b o os (stays_node h w (λ i. off (parts_some pt x (arm_variables hs x i))) (within w O Q own (variables_of_node n) p (λ i. in_left x (variables_of_node n) (variables_of_arms arms) i)))
        (stays_arms r w (λ i. off (parts_others pt x i)) (within w O Q own (variables_of_arms arms) p (λ i. in_right x (variables_of_node n) (variables_of_arms arms) i))))
