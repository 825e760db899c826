-- Which variables a goal binds, by the insts.
use Rattle.std.proofs.Common.{◌≡◌, ◌⊎◌, inl, inr, ℕ, zero, suc, List, [], ◌∷◌, ◌++◌, map, length, Bool, true, false, cond, nat_eq, Option, Some, None, refl, sym, ap, ◌∙◌, subst, ⊎_elim}
use Rattle.std.proofs.Math.Path.{fun_ext}
use Rattle.std.proofs.lemmas.Bool.{ne_eqb}
use Rattle.mc_program.specs.Values.{Val}
use Rattle.mc_program.specs.Programs.{TypeTerm}
use Rattle.mc_model.specs.Flat.{Flat_goal, Flat_goals}
use Rattle.mc_model.specs.Lists.{In}
use Rattle.mc_model.specs.Stream.{Bindings, is_bound}
use Rattle.mc_model.specs.Outcomes.{inputs_of}
use Rattle.mc_model.specs.Scheduled.{Node, Scheduled, Nodes, Arms}
use Rattle.mc_accepted.specs.Ordered.{Insts, Mode, also, take_all, is_state, modes_of, at_inputs, at_outputs, AfterArguments, After, no_more, not_passed, output, implied, dies, keeps, becomes, unless_never, reachable, Joined, Ordered, OrderedNode, OrderedAll, OrderedAny, OrderedArms, variables_of_node, variables_of_scheduled, variables_of_nodes, variables_of_arms, tested_by}
use Rattle.mc_accepted.specs.Determined.{insts_after}
use Rattle.mc_model.specs.Good.{System}
use Rattle.mc_accepted.specs.ProperTypes.{Parameters}
use Rattle.mc_accepted.specs.Fits.{Fits}
use Rattle.laws_sound.specs.code.Passes.{BindsOnly, Closed}
use Rattle.mc_accepted.specs.Ordered as O
use Rattle.mc_program.specs.declared.builtin.Builtin.{Builtin}
use Rattle.mc_source.specs.declared.det.Most.{Most}
use Rattle.mc_source.specs.declared.det.Most.TheVariants.{Zero, One, Many}
use Rattle.laws_language.proofs.BuiltinModes.{modes_length}
use Rattle.laws_sound.proofs.Typed
use Rattle.laws_sound.proofs.Typed.{View, all_free, one_dead, more}
use Rattle.laws_language.proofs.FlatGoals.{in_left, in_right}
use Rattle.laws_language.proofs.FlatWhole.{in_or_not}
use Rattle.laws_sound.proofs.Binds.{none_some, true_not_false}

-- what is free before and is none of these is free after
abbrev pub From : List ℕ → Insts → Insts → Type 0
From vs b c = (x : ℕ) → (In x vs → ⊥) → b x ≡ 0 → c x ≡ 0

abbrev pub FromAfter : List ℕ → Insts → Option Insts → Type 0
FromAfter vs b None = Unit {0}
FromAfter vs b (Some c) = From vs b c

from_more : (vs ws : List ℕ) (b : Insts) (o : Option Insts) → ((x : ℕ) → In x vs → In x ws) → FromAfter vs b o → FromAfter ws b o
from_more vs ws b None f h = tt
from_more vs ws b (Some c) f h = λ x n q. h x (λ i. n (f x i)) q

then_from : (w : List ℕ) (b c : Insts) (o : Option Insts) → From w b c → FromAfter w c o → FromAfter w b o
then_from w b c None h k = tt
then_from w b c (Some d) h k = λ z n q. k z n (h z n q)

also_on : (t : Bool) (i k : ℕ) → t ≡ false → k ≡ 0 → cond t i k ≡ 0
also_on true i k e h = absurd (true_not_false e)
also_on false i k e h = h

also_off : (x i : ℕ) (b : Insts) (z : ℕ) → (z ≡ x → ⊥) → b z ≡ 0 → also x i b z ≡ 0
also_off x i b z n h = also_on (nat_eq z x) i (b z) (ne_eqb z x n) h

after_from : (S : System) (T : ℕ → TypeTerm) {there : ℕ → Bool} {ms : List Mode} {xs : List ℕ} {b c : Insts} → AfterArguments S T there ms xs b c → (z : ℕ) → (In z xs → ⊥) → b z ≡ 0 → c z ≡ 0
after_from S T no_more z n h = h
after_from S T (not_passed r) z n h = after_from S T r z (λ i. n (inr i)) h
after_from S T (output {b = b} {x = x} {l = l} a q r) z n h = after_from S T r z (λ i. n (inr i)) (also_off x l b z (λ e. n (inl e)) h)
after_from S T (implied a q r) z n h = after_from S T r z (λ i. n (inr i)) h
after_from S T (dies {b = b} {x = x} {l = l} a q r) z n h = after_from S T r z (λ i. n (inr i)) (also_off x l b z (λ e. n (inl e)) h)
after_from S T (keeps a q i r) z n h = after_from S T r z (λ i. n (inr i)) h
after_from S T (becomes {b = b} {x = x} {l = l} a q i r) z n h = after_from S T r z (λ i. n (inr i)) (also_off x l b z (λ e. n (inl e)) h)

after_length : (S : System) (T : ℕ → TypeTerm) {there : ℕ → Bool} {ms : List Mode} {xs : List ℕ} {b c : Insts} → AfterArguments S T there ms xs b c → length ms ≡ length xs
after_length S T no_more = refl
after_length S T (not_passed r) = ap suc (after_length S T r)
after_length S T (output a q r) = ap suc (after_length S T r)
after_length S T (implied a q r) = ap suc (after_length S T r)
after_length S T (dies a q r) = ap suc (after_length S T r)
after_length S T (keeps a q i r) = ap suc (after_length S T r)
after_length S T (becomes a q i r) = ap suc (after_length S T r)

pub covered : (bs : List Bool) (xs : List ℕ) (z : ℕ) → length bs ≡ length xs → In z xs → In z (at_inputs bs xs) ⊎ In z (at_outputs bs xs)
covered [] [] z e i = absurd i
covered [] (x ∷ xs) z e i = absurd (no (length xs) e)
  where
    no : (n : ℕ) → zero ≡ suc n → ⊥
    no n e = cc
covered (b ∷ bs) [] z e i = absurd i
covered (true ∷ bs) (x ∷ xs) z e i = ⊎_elim (λ q. inl (inl q)) (λ j. ⊎_elim (λ k. inl (inr k)) (λ k. inr k) (covered bs xs z (less (length bs) (length xs) e) j)) i
  where
    less : (m n : ℕ) → suc m ≡ suc n → m ≡ n
    less m n e = cc
covered (false ∷ bs) (x ∷ xs) z e i = ⊎_elim (λ q. inr (inl q)) (λ j. ⊎_elim (λ k. inl k) (λ k. inr (inr k)) (covered bs xs z (less (length bs) (length xs) e) j)) i
  where
    less : (m n : ℕ) → suc m ≡ suc n → m ≡ n
    less m n e = cc

take_from : (ys is : List ℕ) (b : Insts) (z : ℕ) → (In z ys → ⊥) → b z ≡ 0 → take_all ys is b z ≡ 0
take_from [] is b z n h = h
take_from (y ∷ ys) [] b z n h = h
take_from (y ∷ ys) (i ∷ is) b z n h = take_from ys is (cond (is_bound (b y)) b (also y i b)) z (λ j. n (inr j)) (on (is_bound (b y)))
  where
    on : (t : Bool) → cond t b (also y i b) z ≡ 0
    on true = h
    on false = also_off y i b z (λ e. n (inl e)) h

never_from : (vs : List ℕ) (b c : Insts) (m : Most) → From vs b c → FromAfter vs b (unless_never m c)
never_from vs b c Zero h = tt
never_from vs b c One h = h
never_from vs b c Many h = h

state_from : (t : Bool) (y : ℕ) (b : Insts) (z : ℕ) → (z ≡ y → ⊥) → b z ≡ 0 → cond t (also y 3 b) b z ≡ 0
state_from true y b z n h = also_off y 3 b z n h
state_from false y b z n h = h

pub tests_in : (tests : List (ℕ × ℕ)) (ns : Nodes) (x : ℕ) → In x (variables_of_nodes ns) → In x (variables_of_nodes (tested_by tests ns))
tests_in [] ns x i = i
tests_in (t ∷ tests) ns x i = inr (inr (tests_in tests ns x i))

pub node_after : {S : System} {T : ℕ → TypeTerm} {O Q : List ℕ} {b c : Insts} {g : Flat_goal} {n : Node} → OrderedNode S T O Q b g n (Some c) → insts_after n b ≡ c
node_after (O.kept r k) = fun_ext (λ x. sym (k.0 x))

module _ (S : System) (D : Parameters) (F : Fits S D) (T : ℕ → TypeTerm) where
  merged_first : (i k : ℕ) (Q : Type 0) → View (S.insts i) (S.insts k) Q → i ≡ 0 → k ≡ 0
  merged_first i k Q (all_free a c) h = Typed.only_free S D F k c
  merged_first i k Q (one_dead a c) h = absurd (a (Typed.zero_free S D F i h))
  merged_first i k Q (more a c d q) h = absurd (a (Typed.zero_free S D F i h))

  -- at each end of branches
  abbrev pub FromEach : List ℕ → Insts → List (Option Insts) → Type 0
  FromEach vs b [] = Unit {0}
  FromEach vs b (o ∷ os) = FromAfter vs b o × FromEach vs b os

  each_more : (vs ws : List ℕ) (b : Insts) (os : List (Option Insts)) → ((x : ℕ) → In x vs → In x ws) → FromEach vs b os → FromEach ws b os
  each_more vs ws b [] f h = tt
  each_more vs ws b (o ∷ os) f h = (from_more vs ws b o f h.0, each_more vs ws b os f h.1)

  joined_from : (O vs : List ℕ) (b : Insts) (os : List (Option Insts)) (w : Option Insts) → Joined S T O b (reachable os) w → FromEach vs b os → FromAfter vs b w
  joined_from O vs b [] w j h = subst (λ z. FromAfter vs b z) (sym j) tt
  joined_from O vs b (None ∷ os) w j h = joined_from O vs b os w j h.1
  joined_from O vs b (Some c ∷ os) None j h = absurd j
  joined_from O vs b (Some c ∷ os) (Some e) j h =
      λ x n q. ⊎_elim
      (λ i. merged_first (c x) (e x) _ (Typed.merged_view S.world.source S.insts (map (λ (f : Insts). f x) (c ∷ reachable os)) (c x) (e x) (T x) (inl refl) ((j x).0 i)) (h.0 x n q))
      (λ m. ⊎_elim (λ z. z) (λ z. z ∙ q) ((j x).1 m)) (in_or_not x O)

  pub apply_from : (op : Builtin) (xs : List ℕ) (b c : Insts) → After S T (modes_of op) xs b c → From (at_inputs (inputs_of op) xs ++ at_outputs (inputs_of op) xs) b c
  apply_from op xs b c a z n h =
      after_from S T a z (λ j. n (⊎_elim (λ k. in_left z (at_inputs (inputs_of op) xs) (at_outputs (inputs_of op) xs) k) (λ k. in_right z (at_inputs (inputs_of op) xs) (at_outputs (inputs_of op) xs) k) (covered (inputs_of op) xs z (modes_length op ∙ after_length S T a) j))) h

  pub apply_variables : (op : Builtin) (xs : List ℕ) (b c : Insts) → After S T (modes_of op) xs b c → (z : ℕ) → In z xs → In z (at_inputs (inputs_of op) xs ++ at_outputs (inputs_of op) xs)
  apply_variables op xs b c a z j =
      ⊎_elim (λ k. in_left z (at_inputs (inputs_of op) xs) (at_outputs (inputs_of op) xs) k) (λ k. in_right z (at_inputs (inputs_of op) xs) (at_outputs (inputs_of op) xs) k) (covered (inputs_of op) xs z (modes_length op ∙ after_length S T a) j)

  mutual
    pub ordered_from : {O Q : List ℕ} {b : Insts} {g : Flat_goal} {s : Scheduled} {o : Option Insts} → Ordered S T O Q b g s o → FromAfter (variables_of_scheduled s) b o
    ordered_from (O.assign {b = b} {x = x} {y = y} n m a) = λ z i q. also_off x (b y) (cond (is_state (T y)) (also y 3 b) b) z (λ e. i (inl e)) (state_from (is_state (T y)) y b z (λ e. i (inr (inl e))) q)
    ordered_from (O.assign_back {b = b} {x = x} {y = y} n m a) = λ z i q. also_off x (b y) (cond (is_state (T y)) (also y 3 b) b) z (λ e. i (inl e)) (state_from (is_state (T y)) y b z (λ e. i (inr (inl e))) q)
    ordered_from (O.test n m s a) = λ z i q. q
    ordered_from (O.build {b = b} {x = x} {i = k} n a m d w) = λ z i q. also_off x k b z (λ e. i (inl e)) q
    ordered_from (O.take {b = b} {x = x} {i = k} {ys = ys} {is = is} n d a w) = λ z i q. take_from ys is (also x k b) z (λ j. i (inr j)) (also_off x k b z (λ e. i (inl e)) q)
    ordered_from (O.take_never n d a) = tt
    ordered_from (O.put {b = b} {x = x} n) = λ z i q. also_off x 1 b z (λ e. i (inl e)) q
    ordered_from (O.test_constant n d a) = λ z i q. q
    ordered_from (O.test_never n d a) = tt
    ordered_from (O.call {b = b} {c = c} {p = p} {xs = xs} l u d a) = never_from xs b c (S.procs p).det.most (after_from S T a)
    ordered_from (O.apply {b = b} {c = c} {op = op} {xs = xs} q u d i a) =
        never_from (at_inputs (inputs_of op) xs ++ at_outputs (inputs_of op) xs) b c (O.builtin_most op) (apply_from op xs b c a)
    ordered_from (O.implied_alone r) = all_from r
    ordered_from (O.conj r) = all_from r
    ordered_from (O.disj {O = O} {b = b} {ns = ns} {os = os} {o = o} r j) = joined_from O (variables_of_nodes ns) b os o j (any_from r)
    ordered_from (O.switch {O = O} {b = b} {x = x} {arms = arms} {os = os} {o = o} n i r j) = joined_from O (x ∷ variables_of_arms arms) b os o j (each_more (variables_of_arms arms) (x ∷ variables_of_arms arms) b os (λ z i. inr i) (arms_from r))
    ordered_from (O.ite {O = O} {b = b} {c = c} {vs = vs} {n = n} {t = t} {u = u} {o = o} {o' = o'} {o'' = o''} a rc bn rt re j) =
        let w = vs ++ (variables_of_node n ++ (variables_of_node t ++ variables_of_node u)) in
        let iv : (x : ℕ) → In x (variables_of_node n ++ (variables_of_node t ++ variables_of_node u)) → In x w = λ x i. in_right x vs (variables_of_node n ++ (variables_of_node t ++ variables_of_node u)) i in
        let ic : (x : ℕ) → In x (variables_of_node n) → In x w = λ x i. iv x (in_left x (variables_of_node n) (variables_of_node t ++ variables_of_node u) i) in
        let ir : (x : ℕ) → In x (variables_of_node t ++ variables_of_node u) → In x w = λ x i. iv x (in_right x (variables_of_node n) (variables_of_node t ++ variables_of_node u) i) in
        joined_from O w b (o ∷ o' ∷ []) o'' j (
          then_from w b c o (from_more (variables_of_node n) w b (Some c) ic (node_from rc)) (from_more (variables_of_node t) w c o (λ x i. ir x (in_left x (variables_of_node t) (variables_of_node u) i)) (node_from rt)),
          (from_more (variables_of_node u) w b o' (λ x i. ir x (in_right x (variables_of_node t) (variables_of_node u) i)) (node_from re), tt),
        )
    ordered_from (O.ite_never {O = O} {b = b} {vs = vs} {n = n} {t = t} {u = u} {o = o} {o'' = o''} a rc m re j) =
        let w = vs ++ (variables_of_node n ++ (variables_of_node t ++ variables_of_node u)) in
        joined_from O w b (o ∷ []) o'' j
        (from_more (variables_of_node u) w b o (λ x i. in_right x vs (variables_of_node n ++ (variables_of_node t ++ variables_of_node u)) (in_right x (variables_of_node n) (variables_of_node t ++ variables_of_node u) (in_right x (variables_of_node t) (variables_of_node u) i))) (node_from re), tt)
    ordered_from (O.neg r m) = λ z i q. q
    ordered_from (O.some {b = b} {vs = vs} {n = n} {o = o} a r) = from_more (variables_of_node n) (vs ++ variables_of_node n) b o (λ z i. in_right z vs (variables_of_node n) i) (node_from r)

    pub node_from : {O Q : List ℕ} {b : Insts} {g : Flat_goal} {n : Node} {o : Option Insts} → OrderedNode S T O Q b g n o → FromAfter (variables_of_node n) b o
    node_from (O.kept r k) = ordered_from r

    pub all_from : {O Q : List ℕ} {b : Insts} {gs : Flat_goals} {ns : Nodes} {o : Option Insts} → OrderedAll S T O Q b gs ns o → FromAfter (variables_of_nodes ns) b o
    all_from O.done = λ z n q. q
    all_from (O.dropped p r) = tt
    all_from (O.next {b = b} {c = c} {n = n} {ns = ns} {o = o} p r t) =
        then_from (variables_of_node n ++ variables_of_nodes ns) b c o (from_more (variables_of_node n) (variables_of_node n ++ variables_of_nodes ns) b (Some c) (λ z i. in_left z (variables_of_node n) (variables_of_nodes ns) i) (node_from r))
        (from_more (variables_of_nodes ns) (variables_of_node n ++ variables_of_nodes ns) c o (λ z i. in_right z (variables_of_node n) (variables_of_nodes ns) i) (all_from t))
    all_from (O.implied_outputs {b = b} {c = c} {op = op} {zs = zs} {ns = ns} {o = o} tests p q m f d e a y u i r k t) =
        let vs = at_inputs (inputs_of op) zs ++ at_outputs (inputs_of op) zs in
        let w = vs ++ variables_of_nodes (tested_by tests ns) in
        then_from w b c o (from_more vs w b (Some c) (λ z i. in_left z vs (variables_of_nodes (tested_by tests ns)) i) (apply_from op zs b c r))
        (from_more (variables_of_nodes ns) w c o (λ z i. in_right z vs (variables_of_nodes (tested_by tests ns)) (tests_in tests ns z i)) (all_from t))

    pub any_from : {O Q : List ℕ} {b : Insts} {gs : Flat_goals} {ns : Nodes} {os : List (Option Insts)} → OrderedAny S T O Q b gs ns os → FromEach (variables_of_nodes ns) b os
    any_from O.no_other = tt
    any_from (O.either {b = b} {n = n} {ns = ns} {o = o} {os = os} r t) = (
      from_more (variables_of_node n) (variables_of_node n ++ variables_of_nodes ns) b o (λ z i. in_left z (variables_of_node n) (variables_of_nodes ns) i) (node_from r),
      each_more (variables_of_nodes ns) (variables_of_node n ++ variables_of_nodes ns) b os (λ z i. in_right z (variables_of_node n) (variables_of_nodes ns) i) (any_from t),
    )

    pub arms_from : {O Q : List ℕ} {b : Insts} {x : ℕ} {gs : Flat_goals} {arms : Arms} {os : List (Option Insts)} → OrderedArms S T O Q b x gs arms os → FromEach (variables_of_arms arms) b os
    arms_from O.no_arm = tt
    arms_from (O.arm {b = b} {n = n} {arms = arms} {o = o} {os = os} p il op ab r t) = (
      from_more (variables_of_node n) (variables_of_node n ++ variables_of_arms arms) b o (λ z i. in_left z (variables_of_node n) (variables_of_arms arms) i) (node_from r),
      each_more (variables_of_arms arms) (variables_of_node n ++ variables_of_arms arms) b os (λ z i. in_right z (variables_of_node n) (variables_of_arms arms) i) (arms_from t),
    )

-- outside a goal's variables nothing is bound by it
pub none_on : (o : Option Val) (X : Type 0) → ((v : Val) → o ≡ Some v → ⊥) → o ≡ None
none_on None X f = refl
none_on (Some v) X f = absurd (f v refl)

pub closed_after : (O Q V vs : List ℕ) (b c : Insts) (e a : Bindings) → From vs b c → BindsOnly vs e a → Closed O Q b e → Closed (O ++ V) (Q ++ vs) c a
closed_after O Q V vs b c e a f g h x =
    ⊎_elim (λ i. inl (⊎_elim (λ j. inl (in_left x O V j)) (λ j. inr (in_left x Q vs j)) i))
    (λ n. ⊎_elim (λ i. inl (inr (in_right x Q vs i))) (λ m. inr (f x m n.0, none_on (a x) (Unit {0}) (λ v q. ⊎_elim (λ z. none_some (e x) v n.1 z) m (g x v q)))) (in_or_not x vs))
    (h x)

pub closed_more : (O Q V W : List ℕ) (b : Insts) (e : Bindings) → Closed O Q b e → Closed (O ++ V) (Q ++ W) b e
closed_more O Q V W b e h x = ⊎_elim (λ i. inl (⊎_elim (λ j. inl (in_left x O V j)) (λ j. inr (in_left x Q W j)) i)) (λ n. inr n) (h x)
