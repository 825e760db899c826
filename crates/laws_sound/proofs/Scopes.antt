-- Scopes: which variables of a scheduled goal are free in its normal goal; what stays unbound.
use Rattle.std.proofs.Common.{◌≡◌, ◌⊎◌, inl, inr, ℕ, List, [], ◌∷◌, ◌++◌, Bool, true, false, cond, not, ◌&&◌, Option, Some, None, refl, sym, ap, ◌∙◌, subst, ⊎_elim}
use Rattle.std.proofs.lemmas.Bool.{cases_Bool, and_cases, not-false}
use Rattle.mc_program.specs.Values.{Val}
use Rattle.mc_program.specs.Programs.{TypeTerm}
use Rattle.mc_model.specs.Flat.{Flat_goal, Flat_goals, no_flat, flat_then, variables_of, variables_of_all, free_in, free_in_all}
use Rattle.mc_model.specs.Lists.{is_in, without, In, Apart}
use Rattle.mc_model.specs.Stream.{Bindings, is_bound}
use Rattle.mc_model.specs.Outcomes.{inputs_of}
use Rattle.mc_model.specs.Scheduled.{Node, node, Scheduled, Nodes, no_nodes, node_then, Arms}
use Rattle.mc_accepted.specs.Ordered.{Insts, Picks, here, there, Parts, no_part, to_part, to_rest, arm_goal, binds_one, tested_by, at_inputs, at_outputs, implied_places, modes_of, Ordered, OrderedNode, OrderedAll, OrderedAny, OrderedArms, variables_of_node, variables_of_scheduled, variables_of_nodes, variables_of_arms}
use Rattle.mc_model.specs.Good.{System, TypeChoice, BoundAs}
use Rattle.laws_sound.specs.code.Passes.{Closed, Scoped}
use Rattle.mc_model.specs.Scheduled as C
use Rattle.mc_accepted.specs.Ordered as O
use Rattle.laws_sound.proofs.Binds
use Rattle.laws_sound.proofs.TellLists.{is_in_false}
use Rattle.laws_sound.proofs.Sound.{in_inputs, in_outputs, fresh_pairs, fresh_split, PairsIn}
use Rattle.laws_sound.proofs.Typed.{free_is, is_free_of}
use Rattle.laws_language.proofs.FlatGoals.{in_either, in_left, in_right}
use Rattle.laws_language.proofs.FlatWhole.{is_in_true}
use Rattle.laws_language.proofs.ClauseNumbers.{in_without}
use Rattle.laws_sound.proofs.Binds.{true_not_false}

-- free variables of goals that are picked or share an arm
pub picks_free : {gs rest : Flat_goals} {g : Flat_goal} → Picks gs g rest → (x : ℕ) → In x (free_in g) → In x (free_in_all gs)
picks_free (here {g = g} {gs = gs}) x i = in_left x (free_in g) (free_in_all gs) i
picks_free (there {k = k} {gs = gs} p) x i = in_right x (free_in k) (free_in_all gs) (picks_free p x i)

pub rest_free : {gs rest : Flat_goals} {g : Flat_goal} → Picks gs g rest → (x : ℕ) → In x (free_in_all rest) → In x (free_in_all gs)
rest_free (here {g = g} {gs = gs}) x i = in_right x (free_in g) (free_in_all gs) i
rest_free (there {k = k} {gs = gs} {rest = rest} p) x i = ⊎_elim (λ j. in_left x (free_in k) (free_in_all gs) j) (λ j. in_right x (free_in k) (free_in_all gs) (rest_free p x j)) (in_either x (free_in k) (free_in_all rest) i)

pub some_free : {gs hs ks : Flat_goals} → Parts gs hs ks → (x : ℕ) → In x (free_in_all hs) → In x (free_in_all gs)
some_free no_part x i = i
some_free (to_part {g = g} {gs = gs} {hs = hs} p) x i = ⊎_elim (λ j. in_left x (free_in g) (free_in_all gs) j) (λ j. in_right x (free_in g) (free_in_all gs) (some_free p x j)) (in_either x (free_in g) (free_in_all hs) i)
some_free (to_rest {g = g} {gs = gs} p) x i = in_right x (free_in g) (free_in_all gs) (some_free p x i)

pub others_free : {gs hs ks : Flat_goals} → Parts gs hs ks → (x : ℕ) → In x (free_in_all ks) → In x (free_in_all gs)
others_free no_part x i = i
others_free (to_part {g = g} {gs = gs} p) x i = in_right x (free_in g) (free_in_all gs) (others_free p x i)
others_free (to_rest {g = g} {gs = gs} {ks = ks} p) x i = ⊎_elim (λ j. in_left x (free_in g) (free_in_all gs) j) (λ j. in_right x (free_in g) (free_in_all gs) (others_free p x j)) (in_either x (free_in g) (free_in_all ks) i)

pub arm_free : (hs : Flat_goals) (x : ℕ) → In x (free_in (arm_goal hs)) → In x (free_in_all hs)
arm_free no_flat x i = i
arm_free (flat_then g no_flat) x i = in_left x (free_in g) [] i
arm_free (flat_then g (flat_then k hs)) x i = i

-- a variable of the tests after a builtin
pub tested_split : (M : List ℕ) (tests : List (ℕ × ℕ)) (ns : Nodes) → PairsIn M tests → (x : ℕ) → In x (variables_of_nodes (tested_by tests ns)) → In x M ⊎ In x (variables_of_nodes ns)
tested_split M [] ns p x i = inr i
tested_split M (t ∷ tests) ns p x i = ⊎_elim (λ q. inl (subst (λ z. In z M) (sym q) p.0)) (λ j. ⊎_elim (λ q. inl (subst (λ z. In z M) (sym q) p.1)) (λ k. tested_split M tests ns p.2 x k) j) i

pub empty_none : (t : Node) → O.IsEmpty t → (x : ℕ) → In x (variables_of_node t) → ⊥
empty_none (node (C.Conj no_nodes) ch d p) h x i = i
empty_none (node (C.Conj (node_then n ns)) ch d p) h x i = h
empty_none (node (C.Disj ns) ch d p) h x i = h
empty_none (node (C.Switch v arms) ch d p) h x i = h
empty_none (node (C.Ite vs a b c) ch d p) h x i = h
empty_none (node (C.Not n) ch d p) h x i = h
empty_none (node (C.Exists vs n) ch d p) h x i = h
empty_none (node (C.Assign y z) ch d p) h x i = h
empty_none (node (C.Test y z) ch d p) h x i = h
empty_none (node (C.Build y s ys) ch d p) h x i = h
empty_none (node (C.Take y s ys) ch d p) h x i = h
empty_none (node (C.Const y v) ch d p) h x i = h
empty_none (node (C.TestConst y v) ch d p) h x i = h
empty_none (node (C.Call q ys is l) ch d p) h x i = h
empty_none (node (C.Apply op ys zs) ch d p) h x i = h

module _ (S : System) (T : ℕ → TypeTerm) where
  -- a variable of a scheduled goal that occurs outside is free in its normal goal
  mutual
    pub outside_free : {O Q : List ℕ} {b : Insts} {g : Flat_goal} {s : Scheduled} {o : Option Insts} → Ordered S T O Q b g s o → (x : ℕ) → In x (variables_of_scheduled s) → In x O → In x (free_in g)
    outside_free (O.assign n m a) x i w = i
    outside_free (O.assign_back n m a) x i w = ⊎_elim (λ q. inr (inl q)) (λ j. ⊎_elim (λ q. inl q) (λ k. absurd k) j) i
    outside_free (O.test n m s a) x i w = i
    outside_free (O.build n a m d k) x i w = i
    outside_free (O.take n d a k) x i w = i
    outside_free (O.take_never n d a) x i w = i
    outside_free (O.put n) x i w = i
    outside_free (O.test_constant n d a) x i w = i
    outside_free (O.test_never n d a) x i w = i
    outside_free (O.call l u d a) x i w = i
    outside_free (O.apply {op = op} {xs = xs} q u d n a) x i w = ⊎_elim (λ j. in_inputs (inputs_of op) xs x j) (λ j. in_outputs (inputs_of op) xs x j) (in_either x (at_inputs (inputs_of op) xs) (at_outputs (inputs_of op) xs) i)
    outside_free (O.implied_alone {xs = xs} r) x i w = ⊎_elim (λ j. j) (λ j. absurd j) (in_either x xs [] (all_free r x i w))
    outside_free (O.conj r) x i w = all_free r x i w
    outside_free (O.disj r jn) x i w = any_free r x i w
    outside_free (O.switch {x = y} {gs = gs} n j r jn) x i w = ⊎_elim (λ q. subst (λ z. In z (free_in_all gs)) (sym q) j) (λ k. arms_free r x k w) i
    outside_free (O.ite {O = O} {vs = vs} {g = g} {h = h} {k = k} {n = n} {t = t} {u = u} a rc bn rt re jn) x i w =
        ⊎_elim (λ j. absurd (a x j w))
        (λ j. ⊎_elim
        (λ y. in_left x (without (free_in g ++ free_in h) vs) (free_in k) (in_without x (free_in g ++ free_in h) vs (in_left x (free_in g) (free_in h) (node_free rc x y (in_left x O (without (free_in g) vs ++ variables_of h) w))) (λ z. a x z w)))
        (λ y. ⊎_elim
        (λ z. in_left x (without (free_in g ++ free_in h) vs) (free_in k) (in_without x (free_in g ++ free_in h) vs (in_right x (free_in g) (free_in h) (node_free rt x z (in_left x O (variables_of g) w))) (λ z. a x z w)))
        (λ z. in_right x (without (free_in g ++ free_in h) vs) (free_in k) (node_free re x z w)) (in_either x (variables_of_node t) (variables_of_node u) y))
        (in_either x (variables_of_node n) (variables_of_node t ++ variables_of_node u) j))
        (in_either x vs (variables_of_node n ++ (variables_of_node t ++ variables_of_node u)) i)
    outside_free (O.ite_never {O = O} {vs = vs} {g = g} {h = h} {k = k} {n = n} {t = t} {u = u} a rc m re jn) x i w =
        ⊎_elim (λ j. absurd (a x j w))
        (λ j. ⊎_elim
        (λ y. in_left x (without (free_in g ++ free_in h) vs) (free_in k) (in_without x (free_in g ++ free_in h) vs (in_left x (free_in g) (free_in h) (node_free rc x y (in_left x O (without (free_in g) vs ++ variables_of h) w))) (λ z. a x z w)))
        (λ y. ⊎_elim (λ z. absurd (empty_none t m x z)) (λ z. in_right x (without (free_in g ++ free_in h) vs) (free_in k) (node_free re x z w)) (in_either x (variables_of_node t) (variables_of_node u) y))
        (in_either x (variables_of_node n) (variables_of_node t ++ variables_of_node u) j))
        (in_either x vs (variables_of_node n ++ (variables_of_node t ++ variables_of_node u)) i)
    outside_free (O.neg {O = O} {g = g} r m) x i w = node_free r x i (in_left x O (free_in g) w)
    outside_free (O.some {vs = vs} {g = g} {n = n} a r) x i w = ⊎_elim (λ j. absurd (a x j w)) (λ j. in_without x (free_in g) vs (node_free r x j w) (λ z. a x z w)) (in_either x vs (variables_of_node n) i)

    pub node_free : {O Q : List ℕ} {b : Insts} {g : Flat_goal} {n : Node} {o : Option Insts} → OrderedNode S T O Q b g n o → (x : ℕ) → In x (variables_of_node n) → In x O → In x (free_in g)
    node_free (O.kept r k) x i w = outside_free r x i w

    pub all_free : {O Q : List ℕ} {b : Insts} {gs : Flat_goals} {ns : Nodes} {o : Option Insts} → OrderedAll S T O Q b gs ns o → (x : ℕ) → In x (variables_of_nodes ns) → In x O → In x (free_in_all gs)
    all_free O.done x i w = absurd i
    all_free (O.dropped {O = O} {rest = rest} {n = n} p r) x i w = ⊎_elim (λ j. picks_free p x (node_free r x j (in_left x O (variables_of_all rest) w))) (λ j. absurd j) (in_either x (variables_of_node n) [] i)
    all_free (O.next {O = O} {g = g} {rest = rest} {n = n} {ns = ns} p r t) x i w =
        ⊎_elim (λ j. picks_free p x (node_free r x j (in_left x O (variables_of_all rest) w))) (λ j. rest_free p x (all_free t x j (in_left x O (variables_of g) w))) (in_either x (variables_of_node n) (variables_of_nodes ns) i)
    all_free (O.implied_outputs {O = O} {Q = Q} {b = b} {op = op} {xs = xs} {zs = zs} {gs = gs} {ns = ns} tests p q m f d e a y u k af kc t) x i w =
        let given : In x (xs ++ zs) → In x (free_in_all gs) = λ z. ⊎_elim (λ j. picks_free p x j) (λ j. ⊎_elim (λ l. picks_free p x l) (λ n. absurd (a x n (in_left x O (Q ++ variables_of_all gs) w))) (fresh_split S T 0 (implied_places 0 (modes_of op) xs (λ x. is_bound (b x))) xs zs tests f x j)) (in_either x xs zs z) in
        ⊎_elim
        (λ j. given (in_right x xs zs (⊎_elim (λ l. in_inputs (inputs_of op) zs x l) (λ l. in_outputs (inputs_of op) zs x l) (in_either x (at_inputs (inputs_of op) zs) (at_outputs (inputs_of op) zs) j))))
        (λ j. ⊎_elim given (λ l. rest_free p x (all_free t x l (in_left x O (xs ++ zs) w)))
        (tested_split (xs ++ zs) tests ns (fresh_pairs S T (xs ++ zs) 0 (implied_places 0 (modes_of op) xs (λ x. is_bound (b x))) xs zs tests (λ z l. in_left z xs zs l) (λ z l. in_right z xs zs l) f) x j))
        (in_either x (at_inputs (inputs_of op) zs ++ at_outputs (inputs_of op) zs) (variables_of_nodes (tested_by tests ns)) i)

    pub any_free : {O Q : List ℕ} {b : Insts} {gs : Flat_goals} {ns : Nodes} {os : List (Option Insts)} → OrderedAny S T O Q b gs ns os → (x : ℕ) → In x (variables_of_nodes ns) → In x O → In x (free_in_all gs)
    any_free O.no_other x i w = absurd i
    any_free (O.either {g = g} {gs = gs} {n = n} {ns = ns} r t) x i w = ⊎_elim (λ k. in_left x (free_in g) (free_in_all gs) (node_free r x k w)) (λ k. in_right x (free_in g) (free_in_all gs) (any_free t x k w)) (in_either x (variables_of_node n) (variables_of_nodes ns) i)

    pub arms_free : {O Q : List ℕ} {b : Insts} {y : ℕ} {gs : Flat_goals} {arms : Arms} {os : List (Option Insts)} → OrderedArms S T O Q b y gs arms os → (x : ℕ) → In x (variables_of_arms arms) → In x O → In x (free_in_all gs)
    arms_free O.no_arm x i w = absurd i
    arms_free (O.arm {hs = hs} {n = n} {arms = arms} p il op ab r t) x i w = ⊎_elim (λ k. some_free p x (arm_free hs x (node_free r x k w))) (λ k. others_free p x (arms_free t x k w)) (in_either x (variables_of_node n) (variables_of_arms arms) i)

-- nothing that is told apart is newly bound
pub binds_stay : (xs : List ℕ) (b c : Insts) (x : ℕ) → binds_one xs b c ≡ false → In x xs → b x ≡ 0 → c x ≡ 0
binds_stay [] b c x e i z = absurd i
binds_stay (y ∷ ys) b c x e i z = on (not (is_bound (b y)) && is_bound (c y)) refl e i (λ f j. binds_stay ys b c x f j z)
  where
    on : (t : Bool) → (not (is_bound (b y)) && is_bound (c y)) ≡ t → cond t true (binds_one ys b c) ≡ false → (x ≡ y) ⊎ In x ys → (binds_one ys b c ≡ false → In x ys → c x ≡ 0) → c x ≡ 0
    on true q f i k = absurd (true_not_false f)
    on false q f i k = ⊎_elim (λ p. free_is (c x) (⊎_elim (λ u. absurd (true_not_false (sym (not-false (is_bound (b y)) u) ∙ (ap (λ w. is_bound (b w)) (sym p) ∙ is_free_of (b x) z)))) (λ u. ap (λ w. is_bound (c w)) p ∙ u) (and_cases (not (is_bound (b y))) (is_bound (c y)) q))) (λ j. k f j) i

pub not_new : (S : System) (θ : TypeChoice) (i j : ℕ) (t : TypeTerm) (o p : Option Val) (v : Val) → BoundAs S θ i t o → BoundAs S θ j t p → (i ≡ 0 → j ≡ 0) → p ≡ Some v → o ≡ None → ⊥
not_new S θ i j t None None v h k f e n = Binds.none_some None v refl e
not_new S θ i j t None (Some w) v h k f e n = k.0 (f h)
not_new S θ i j t (Some u) p v h k f e n = Binds.none_some (Some u) u n refl

-- unbound at the entry of a scope
pub scope_none : (O Q vars vs : List ℕ) (b : Insts) (e : Bindings) → Apart vs O → Scoped O Q vars → ((x : ℕ) → In x vs → In x vars) → Closed O Q b e → (x : ℕ) → In x vs → e x ≡ None
scope_none O Q vars vs b e a s f c x i = ⊎_elim (λ z. absurd (a x i (⊎_elim (λ y. y) (λ y. s x (f x i) y) z))) (λ z. z.1) (c x)

-- the numbers of one list that are in another
abbrev pub within : List ℕ → List ℕ → List ℕ
within [] ys = []
within (x ∷ xs) ys = cond (is_in x ys) (x ∷ within xs ys) (within xs ys)

within_here : (x z : ℕ) (t : Bool) (ys ws : List ℕ) → is_in z ys ≡ t → In x (cond t (z ∷ ws) ws) → (x ≡ z → In z ys → In x ys) → (In x ws → In x ys) → In x ys
within_here x z true ys ws q i f g = ⊎_elim (λ e. f e (is_in_true z ys q)) g i
within_here x z false ys ws q i f g = g i

pub within_second : (xs ys : List ℕ) (x : ℕ) → In x (within xs ys) → In x ys
within_second [] ys x i = absurd i
within_second (z ∷ xs) ys x i = within_here x z (is_in z ys) ys (within xs ys) refl i (λ e j. subst (λ w. In w ys) (sym e) j) (λ j. within_second xs ys x j)

within_first_on : (x z : ℕ) (t : Bool) (xs ws : List ℕ) → In x (cond t (z ∷ ws) ws) → (In x ws → In x xs) → In x (z ∷ xs)
within_first_on x z true xs ws i g = ⊎_elim (λ e. inl e) (λ j. inr (g j)) i
within_first_on x z false xs ws i g = inr (g i)

pub within_first : (xs ys : List ℕ) (x : ℕ) → In x (within xs ys) → In x xs
within_first [] ys x i = i
within_first (z ∷ xs) ys x i = within_first_on x z (is_in z ys) xs (within xs ys) i (λ j. within_first xs ys x j)

within_keeps : (x z : ℕ) (t : Bool) (ws : List ℕ) → (x ≡ z → t ≡ true) → (x ≡ z) ⊎ In x ws → In x (cond t (z ∷ ws) ws)
within_keeps x z true ws f i = i
within_keeps x z false ws f i = ⊎_elim (λ e. absurd (true_not_false (sym (f e)))) (λ j. j) i

pub within_both : (xs ys : List ℕ) (x : ℕ) → In x xs → In x ys → In x (within xs ys)
within_both [] ys x i j = i
within_both (z ∷ xs) ys x i j = within_keeps x z (is_in z ys) (within xs ys) (λ e. ⊎_elim (λ t. t) (λ f. absurd (is_in_false z ys f (subst (λ w. In w ys) e j))) (cases_Bool (is_in z ys))) (⊎_elim (λ e. inl e) (λ k. inr (within_both xs ys x k j)) i)

out_here : (x z : ℕ) (t : Bool) (vs ws : List ℕ) → is_in z vs ≡ t → In x (cond t ws (z ∷ ws)) → (In x ws → In x vs → ⊥) → In x vs → ⊥
out_here x z true vs ws q i f j = f i j
out_here x z false vs ws q i f j = ⊎_elim (λ e. is_in_false z vs q (subst (λ y. In y vs) e j)) (λ k. f k j) i

pub without_out : (x : ℕ) (xs vs : List ℕ) → In x (without xs vs) → In x vs → ⊥
without_out x [] vs i j = i
without_out x (z ∷ xs) vs i j = out_here x z (is_in z vs) vs (without xs vs) refl i (without_out x xs vs) j
