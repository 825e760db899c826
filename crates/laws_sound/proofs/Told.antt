-- The second pass: what is answered is true, and what is not answered is false.
use Rattle.std.proofs.Common.{◌≡◌, ◌≢◌, ◌⊎◌, inl, inr, ℕ, ◌<◌, List, [], ◌∷◌, ◌++◌, map, length, is_some, Bool, true, false, not, ◌||◌, ◌&&◌, Option, Some, None, refl, sym, ap, ◌∙◌, subst, ⊎_elim}
use Rattle.std.proofs.Math.Path.{fun_ext}
use Rattle.std.proofs.lemmas.Bool.{and_parts, not-true, or_right}
use Rattle.mc_program.specs.Values.{Val, con, vals}
use Rattle.mc_program.specs.Programs.{TypeTerm}
use Rattle.mc_model.specs.Flat.{Flat_goal, Flat_goals, no_flat, flat_then, variables_of, variables_of_all, free_in, free_in_all, FlatYes, FlatNo, FlatAllYes, FlatOneYes, FlatAllNo, FlatOneNo}
use Rattle.mc_model.specs.Lists.{without, In, Among}
use Rattle.mc_model.specs.Truth.{Assignment, Facts, SameOff}
use Rattle.mc_model.specs.EventList.{Items, End, Answer, append, bind, Each, Succeeds, Covers, of_option}
use Rattle.mc_model.specs.Stream.{Bindings, Calls, is_bound, gather, made_items, unify, pruned_to, stream, stream_of, stream_all, stream_any, stream_arms}
use Rattle.mc_model.specs.Outcomes.{inputs_of}
use Rattle.mc_model.specs.Scheduled.{Label, Node, node, Scheduled, Assign, Test, Apply, Nodes, no_nodes, node_then, Arms}
use Rattle.mc_source.specs.Determinism.{Determinism}
use Rattle.mc_accepted.specs.Ordered.{Insts, Opens, OpensScheduled, OneOpens, EachOpens, EachArmOpens, Picks, here, there, Parts, no_part, to_part, to_rest, arm_goal, modes_of, modes_of_procedure, implied_places, at_inputs, at_outputs, firsts, tested_by, unless_never, Ordered, OrderedNode, OrderedAll, OrderedAny, OrderedArms, variables_of_node, variables_of_scheduled, variables_of_nodes, variables_of_arms, binds_one, BindsNone}
use Rattle.mc_accepted.specs.Determined.{Known, learned, insts_after, determined, determined_all, determined_in, none_fails, Placed, PlacedIn, AllPlaced, EachPlaced, ArmsPlaced}
use Rattle.mc_accepted.specs.Typing.{TypedGoal, TypedGoals}
use Rattle.mc_model.specs.Good.{System, TypeChoice, types_of}
use Rattle.mc_accepted.specs.ProperTypes.{Parameters, ProperType}
use Rattle.mc_accepted.specs.Fits.{Fits}
use Rattle.laws_sound.specs.code.Passes.{Grows, BindsOnly, Closed, Scoped, Shared, HasLabel, Knows, TypedAt, Reached, Sound, Agrees, AgreesFor, Hit, Tells, CallsSound, CallsTell, SaysBuiltins}
use Rattle.mc_accepted.specs.Ordered as O
use Rattle.laws_sound.proofs.Arguments
use Rattle.laws_sound.proofs.Atoms
use Rattle.laws_sound.proofs.Binds
use Rattle.laws_sound.proofs.Binds.{true_not_false}
use Rattle.laws_sound.proofs.Callings
use Rattle.laws_sound.proofs.Changes.{node_after, closed_after, closed_more, node_from, apply_from, apply_variables, tests_in}
use Rattle.laws_sound.proofs.Combine
use Rattle.laws_sound.proofs.Combine.{among_both, among_left, among_two, knows_more}
use Rattle.laws_sound.proofs.Lists
use Rattle.laws_sound.proofs.Opens.{opens_none}
use Rattle.laws_sound.proofs.Scopes
use Rattle.laws_sound.proofs.Scopes.{within, within_first, within_second, within_both, not_new, binds_stay, scope_none, node_free, all_free}
use Rattle.laws_sound.proofs.Sound
use Rattle.laws_sound.proofs.Sound.{map_types, picks_goal, picks_rest, picks_typed, parts_typed, arm_typed, arm_variables, free_in_goal, frees_in, label_cases, knows_learned}
use Rattle.laws_sound.proofs.TellAtoms
use Rattle.laws_sound.proofs.TellAtoms.{atom_tells}
use Rattle.laws_sound.proofs.TellCalls
use Rattle.laws_sound.proofs.TellFresh
use Rattle.laws_sound.proofs.TellLists
use Rattle.laws_sound.proofs.TellLists.{agrees_stay, agrees_off, with_bound, with_bound_off, with_bound_agrees, hit_more, hit_any, scope_no}
use Rattle.laws_sound.proofs.TypeInstances.{also_instance}
use Rattle.laws_sound.proofs.Typed
use Rattle.laws_language.proofs.FlatGoals.{in_either, in_left, in_right}
use Rattle.laws_language.proofs.FlatWhole.{in_or_not}
use Rattle.laws_language.proofs.ClauseNumbers.{from_without, in_without}

or_false : (p : Bool) → (p || false) ≡ p
or_false true = refl
or_false false = refl

or_true : (p : Bool) → (p || true) ≡ true
or_true true = refl
or_true false = refl

-- the goals from the one that is picked and the rest
picks_yes : (C : Facts) {gs rest : Flat_goals} {g : Flat_goal} → Picks gs g rest → (s : Assignment) → FlatYes C g s → FlatAllYes C rest s → FlatAllYes C gs s
picks_yes C here s y r = (y, r)
picks_yes C (there p) s y r = (r.0, picks_yes C p s y r.1)

picks_no : (C : Facts) {gs rest : Flat_goals} {g : Flat_goal} → Picks gs g rest → (s : Assignment) → FlatNo C g s → FlatOneNo C gs s
picks_no C here s n = inl n
picks_no C (there p) s n = inr (picks_no C p s n)

rest_no : (C : Facts) {gs rest : Flat_goals} {g : Flat_goal} → Picks gs g rest → (s : Assignment) → FlatOneNo C rest s → FlatOneNo C gs s
rest_no C here s n = inr n
rest_no C (there p) s n = ⊎_elim (λ m. inl m) (λ m. inr (rest_no C p s m)) n

arm_yes : (C : Facts) (hs : Flat_goals) (s : Assignment) → FlatYes C (arm_goal hs) s → FlatOneYes C hs s
arm_yes C no_flat s y = y
arm_yes C (flat_then g no_flat) s y = inl y
arm_yes C (flat_then g (flat_then h hs)) s y = y

arm_no : (C : Facts) (hs : Flat_goals) (s : Assignment) → FlatNo C (arm_goal hs) s → FlatAllNo C hs s
arm_no C no_flat s n = tt
arm_no C (flat_then g no_flat) s n = (n, tt)
arm_no C (flat_then g (flat_then h hs)) s n = n

part_yes : (C : Facts) {gs hs ks : Flat_goals} → Parts gs hs ks → (s : Assignment) → FlatOneYes C hs s → FlatOneYes C gs s
part_yes C no_part s y = y
part_yes C (to_part p) s y = ⊎_elim (λ z. inl z) (λ z. inr (part_yes C p s z)) y
part_yes C (to_rest p) s y = inr (part_yes C p s y)

other_yes : (C : Facts) {gs hs ks : Flat_goals} → Parts gs hs ks → (s : Assignment) → FlatOneYes C ks s → FlatOneYes C gs s
other_yes C no_part s y = y
other_yes C (to_part p) s y = inr (other_yes C p s y)
other_yes C (to_rest p) s y = ⊎_elim (λ z. inl z) (λ z. inr (other_yes C p s z)) y

parts_no : (C : Facts) {gs hs ks : Flat_goals} → Parts gs hs ks → (s : Assignment) → FlatAllNo C hs s → FlatAllNo C ks s → FlatAllNo C gs s
parts_no C no_part s n k = n
parts_no C (to_part p) s n k = (n.0, parts_no C p s n.1 k)
parts_no C (to_rest p) s n k = (k.0, parts_no C p s n k.1)

build_made : (x f : ℕ) (ys : List ℕ) (e : Bindings) (o : Option Val) → e x ≡ o → o ≡ None → (vs : List Val) × (gather ys e ≡ Some vs) → Each (λ a. (s : Assignment) → Agrees (x ∷ ys) a s → s x ≡ con f (vals (map s ys))) (made_items x f ys e o)
build_made x f ys e None h n g = TellAtoms.build_yes x f ys e (gather ys e) refl (ap is_some g.1) h
build_made x f ys e (Some v) h n g = absurd (Binds.none_some (Some v) v n refl)

-- where a goal opens with a deconstruction and the label is another, it is false
module _ (S : System) (T : ℕ → TypeTerm) (C : Facts) where
  mutual
    opens_no : {O Q : List ℕ} {b : Insts} {g : Flat_goal} {s : Scheduled} {o : Option Insts} → Ordered S T O Q b g s o → (x : ℕ) (l : Label) → OpensScheduled x l s → In x O → (v : Val) → (HasLabel l v → ⊥) → (s : Assignment) → s x ≡ v → FlatNo C g s
    opens_no (O.assign n m a) x l p io v f s q = absurd p
    opens_no (O.assign_back n m a) x l p io v f s q = absurd p
    opens_no (O.test n m k a) x l p io v f s q = absurd p
    opens_no (O.build n a m d k) x l p io v f s q = absurd p
    opens_no (O.take {x = y} {s = j} {ys = ys} n d a k) x l p io v f s q = λ r. f (subst (λ k. HasLabel k v) (sym p.1) (vals (map s ys), sym q ∙ (ap s (sym p.0) ∙ r)))
    opens_no (O.take_never {x = y} {s = j} {ys = ys} n d a) x l p io v f s q = λ r. f (subst (λ k. HasLabel k v) (sym p.1) (vals (map s ys), sym q ∙ (ap s (sym p.0) ∙ r)))
    opens_no (O.put n) x l p io v f s q = absurd p
    opens_no (O.test_constant n d a) x l p io v f s q = λ r. f (subst (λ k. HasLabel k v) (sym p.1) (sym q ∙ (ap s (sym p.0) ∙ r)))
    opens_no (O.test_never n d a) x l p io v f s q = λ r. f (subst (λ k. HasLabel k v) (sym p.1) (sym q ∙ (ap s (sym p.0) ∙ r)))
    opens_no (O.call c u d a) x l p io v f s q = absurd p
    opens_no (O.apply b u d n a) x l p io v f s q = absurd p
    opens_no (O.implied_alone r) x l p io v f s q = ⊎_elim (λ z. z) (λ z. absurd z) (one_no r x l p io v f s q)
    opens_no (O.conj r) x l p io v f s q = one_no r x l p io v f s q
    opens_no (O.disj r j) x l p io v f s q = each_no r x l p io v f s q
    opens_no (O.switch n i r j) x l p io v f s q = arms_no r x l p io v f s q
    opens_no (O.ite a rc bn rt re j) x l p io v f s q = absurd p
    opens_no (O.ite_never a rc m re j) x l p io v f s q = absurd p
    opens_no (O.neg r m) x l p io v f s q = absurd p
    opens_no (O.some a r) x l p io v f s q = λ u o. node_no r x l p io v f u (o x (λ i. a x i io) ∙ q)

    node_no : {O Q : List ℕ} {b : Insts} {g : Flat_goal} {n : Node} {o : Option Insts} → OrderedNode S T O Q b g n o → (x : ℕ) (l : Label) → Opens x l n → In x O → (v : Val) → (HasLabel l v → ⊥) → (s : Assignment) → s x ≡ v → FlatNo C g s
    node_no (O.kept r k) x l p io v f s q = opens_no r x l p io v f s q

    one_no : {O Q : List ℕ} {b : Insts} {gs : Flat_goals} {ns : Nodes} {o : Option Insts} → OrderedAll S T O Q b gs ns o → (x : ℕ) (l : Label) → OneOpens x l ns → In x O → (v : Val) → (HasLabel l v → ⊥) → (s : Assignment) → s x ≡ v → FlatOneNo C gs s
    one_no O.done x l p io v f s q = absurd p
    one_no (O.dropped {O = O} {rest = rest} k r) x l p io v f s q = ⊎_elim (λ z. picks_no C k s (node_no r x l z (in_left x O (variables_of_all rest) io) v f s q)) (λ z. absurd z) p.1
    one_no (O.next {O = O} {g = g} {rest = rest} k r t) x l p io v f s q =
        ⊎_elim (λ z. picks_no C k s (node_no r x l z (in_left x O (variables_of_all rest) io) v f s q)) (λ z. rest_no C k s (one_no t x l z (in_left x O (variables_of g) io) v f s q)) p.1
    one_no (O.implied_outputs tests k b m fr d e a y u i af kc t) x l p io v f s q = absurd p.0

    each_no : {O Q : List ℕ} {b : Insts} {gs : Flat_goals} {ns : Nodes} {os : List (Option Insts)} → OrderedAny S T O Q b gs ns os → (x : ℕ) (l : Label) → EachOpens x l ns → In x O → (v : Val) → (HasLabel l v → ⊥) → (s : Assignment) → s x ≡ v → FlatAllNo C gs s
    each_no O.no_other x l p io v f s q = tt
    each_no (O.either r t) x l p io v f s q = (node_no r x l p.0 io v f s q, each_no t x l p.1 io v f s q)

    arms_no : {O Q : List ℕ} {b : Insts} {y : ℕ} {gs : Flat_goals} {arms : Arms} {os : List (Option Insts)} → OrderedArms S T O Q b y gs arms os → (x : ℕ) (l : Label) → EachArmOpens x l arms → In x O → (v : Val) → (HasLabel l v → ⊥) → (s : Assignment) → s x ≡ v → FlatAllNo C gs s
    arms_no O.no_arm x l p io v f s q = tt
    arms_no (O.arm {hs = hs} k il op ab r t) x l p io v f s q = parts_no C k s (arm_no C hs s (node_no r x l p.0 io v f s q)) (arms_no t x l p.1 io v f s q)

-- the arms of a switch
pub record ArmsTell (P : ℕ → Type 0) (Y N : Assignment → Type 0) (one : Bool) (L : List ℕ) (e : Bindings) (x : ℕ) (v : Val) (xs : Items Bindings) : Type 0 where
  pub yes : Each (λ a. (s : Assignment) → AgreesFor P a s → Y s) xs
  pub no : (s : Assignment) → s x ≡ v → AgreesFor P e s → Agrees L e s → Covers (Hit one L s) (N s) xs

arms_tell : (C : Facts) (P Q R : ℕ → Type 0) (one : Bool) (L : List ℕ) (e : Bindings) (x : ℕ) (v : Val) {gs hs ks : Flat_goals} → Parts gs hs ks → ((x : ℕ) → P x → R x) → ((x : ℕ) → Q x → R x) → (xs ys : Items Bindings) → ArmsTell P (FlatYes C (arm_goal hs)) (FlatNo C (arm_goal hs)) one L e x v xs → ArmsTell Q (FlatOneYes C ks) (FlatAllNo C ks) one L e x v ys → ArmsTell R (FlatOneYes C gs) (FlatAllNo C gs) one L e x v (append xs ys)
arms_tell C P Q R one L e x v {gs = gs} {hs = hs} {ks = ks} p f g xs ys a b =
    record {
      yes = Lists.each_append (λ a. (s : Assignment) → AgreesFor R a s → FlatOneYes C gs s) (λ a. Unit {0}) xs ys
          (Lists.each_map (λ a. (s : Assignment) → AgreesFor P a s → FlatYes C (arm_goal hs) s) (λ a. (s : Assignment) → AgreesFor R a s → FlatOneYes C gs s) (λ a h s q. part_yes C p s (arm_yes C hs s (h s (λ z i. q z (f z i))))) xs a.yes)
          (Lists.each_map (λ a. (s : Assignment) → AgreesFor Q a s → FlatOneYes C ks s) (λ a. (s : Assignment) → AgreesFor R a s → FlatOneYes C gs s) (λ a h s q. other_yes C p s (h s (λ z i. q z (g z i)))) ys b.yes);
      no = λ s y q r.
          Lists.covers_map (Hit one L s) (Hit one L s) (FlatNo C (arm_goal hs) s × FlatAllNo C ks s) (FlatAllNo C gs s) (λ a h. h) (λ n. parts_no C p s (arm_no C hs s n.0) n.1) (append xs ys)
          (Lists.covers_append (Hit one L s) (FlatNo C (arm_goal hs) s) (FlatAllNo C ks s) xs ys (a.no s y (λ z i. q z (f z i)) r) (b.no s y (λ z i. q z (g z i)) r));
    }

-- no part can fail, so the whole cannot
none_all : (S : System) (T : ℕ → TypeTerm) (b : Insts) (known : Known) (ns : Nodes) → none_fails S T b known ns ≡ true → (determined_all S T b known ns).can_fail ≡ false
none_all S T b known no_nodes e = refl
none_all S T b known (node_then n ns) e =
    let p = and_parts (not (determined S T b known n).can_fail) (none_fails S T (insts_after n b) known ns) e in
    on (determined S T b known n).can_fail (not (Rattle.mc_source.specs.Determinism.is_zero (determined S T b known n).most)) (determined_all S T (insts_after n b) known ns).can_fail (not-true (determined S T b known n).can_fail p.0) (none_all S T (insts_after n b) known ns p.1)
  where
    on : (f z g : Bool) → f ≡ false → g ≡ false → (f || z && g) ≡ false
    on true z g e h = absurd (true_not_false e)
    on false true g e h = h
    on false false g e h = refl

-- tests change no insts, so what stands after them is placed as it is before them
tests_placed : (S : System) (T : ℕ → TypeTerm) (c : Insts) (known : Known) (one : Bool) (tests : List (ℕ × ℕ)) (ns : Nodes) → AllPlaced S T c known one (tested_by tests ns) → AllPlaced S T c known one ns
tests_placed S T c known one [] ns h = h
tests_placed S T c known one (t ∷ tests) ns h = tests_placed S T c known one tests ns h.1

-- twice the first part of a pair
flat_each : (P Q R : Bindings → Type 0) (xs : Items Bindings) → Each (λ a. P a × (Q a × R a)) xs → Each (λ a. P a) xs
flat_each P Q R xs h = Lists.each_map (λ a. P a × (Q a × R a)) P (λ a z. z.0) xs h

-- where one answer is asked for, or an answer agrees
hit_or : (one nf : Bool) (K : List ℕ) (s : Assignment) (a : Bindings) (X : Type 0) → ((nf ≡ true) → X) → Hit (one && nf) K s a → Agrees K a s ⊎ ((one ≡ true) × X)
hit_or false nf K s a X f h = inl h
hit_or true false K s a X f h = inl h
hit_or true true K s a X f h = inr (refl, f refl)

hit_either : (none_new one can : Bool) (K : List ℕ) (s : Assignment) (a : Bindings) (X : Type 0) → (none_new ≡ true → Agrees K a s) → (can ≡ false → X) → Hit (none_new || (one && not can)) K s a → Agrees K a s ⊎ ((one ≡ true) × X)
hit_either true one can K s a X f g z = inl (f refl)
hit_either false false can K s a X f g z = inl z
hit_either false true true K s a X f g z = inl z
hit_either false true false K s a X f g z = inr (refl, g refl)

-- a goal that is pruned where it binds nothing that occurs outside it
module _ (S : System) (θ : TypeChoice) (T : ℕ → TypeTerm) where
  stay_new : (L : List ℕ) (b c : Insts) (e a : Bindings) → TypedAt S θ T L b e → TypedAt S θ T L c a → ((x : ℕ) → In x L → b x ≡ 0 → c x ≡ 0) → (x : ℕ) → In x L → (v : Val) → a x ≡ Some v → e x ≡ None → ⊥
  stay_new L b c e a tb tc f x i v p n = not_new S θ (b x) (c x) (T x) (e x) (a x) v (tb x i) (tc x i) (f x i) p n

  prune_tells : (P : ℕ → Type 0) (Y N : Assignment → Type 0) (one : Bool) (L Q : List ℕ) (b : Insts) (o : Option Insts) (m : Bool) (e : Bindings) (xs : Items Bindings) → O.is_pruned Q b o ≡ m → Among L Q → TypedAt S θ T L b e → Each (λ a. Grows e a × Reached S θ T L o a) xs →
      ((f : Bool) → f ≡ (one || m) → Tells P Y N f L e xs) → Tells P Y N one L e (pruned_to m xs)
  prune_tells P Y N one L Q b o false e xs q u l sd t = t one (sym (or_false one))
  prune_tells P Y N one L Q b None true e xs q u l sd t = absurd (true_not_false (sym q))
  prune_tells P Y N one L Q b (Some c) true e xs q u l sd t =
      let td = t true (sym (or_true one)) in
      record {
        yes = Lists.each_first (λ a. (s : Assignment) → AgreesFor P a s → Y s) (λ a. Unit {0}) xs td.yes;
        no = λ s g k.
            Lists.covers_first (λ a. Unit {0}) (Hit one L s) (N s) (N s) (λ a. Grows e a × TypedAt S θ T L c a)
            (λ a r. hit_more one L s a (agrees_stay (λ x. In x L) e a s (stay_new L b c e a l r.1 (λ x i. binds_stay Q b c x (not-true (binds_one Q b c) q) (u x i))) r.0 k)) (λ f. f) xs sd (td.no s g k);
      }

module _ (S : System) (D : Parameters) (F : Fits S D) (R : Calls) (called : CallsSound S R) (lined : (k : ℕ) → k < S.count → length (S.procs k).first ≡ length (S.procs k).last) (T : ℕ → TypeTerm) (proper : (x : ℕ) → ProperType D (T x)) (θ : TypeChoice) (X : Facts) (says : SaysBuiltins S X) (told : CallsTell S R X) where
  -- an answer of a goal that binds nothing of its free variables
  still_yes : (fs vs : List ℕ) (Y : Assignment → Type 0) (b : Insts) (o : Option Insts) (e : Bindings) (xs : Items Bindings) (s : Assignment) → BindsNone fs b o → TypedAt S θ T fs b e → Each (λ a. Grows e a × (BindsOnly vs e a × Reached S θ T fs o a)) xs → Each (λ a. (s : Assignment) → AgreesFor (Shared fs vs) a s → Y s) xs → AgreesFor (Shared fs vs) e s → Each (λ a. Y s) xs
  still_yes fs vs Y b None e xs s n m h k g = Lists.each_map (λ a. Grows e a × (BindsOnly vs e a × ⊥)) (λ a. Y s) (λ a r. absurd r.1.1) xs h
  still_yes fs vs Y b (Some c) e xs s n m h k g =
      Lists.each_map (λ a. (Grows e a × (BindsOnly vs e a × TypedAt S θ T fs c a)) × ((s : Assignment) → AgreesFor (Shared fs vs) a s → Y s)) (λ a. Y s)
      (λ a r. r.1 s (agrees_stay (Shared fs vs) e a s (λ x i. stay_new S θ T fs b c e a m r.0.1.1 (λ y j. binds_stay fs b c y n j) x i.0) r.0.0 g)) xs
      (Lists.each_both (λ a. Grows e a × (BindsOnly vs e a × TypedAt S θ T fs c a)) (λ a. (s : Assignment) → AgreesFor (Shared fs vs) a s → Y s) xs h k)

  typed_free : (g : Flat_goal) (b : Insts) (e : Bindings) → TypedAt S θ T (variables_of g) b e → TypedAt S θ T (free_in g) b e
  typed_free g b e h x i = h x (free_in_goal g x i)

  mutual
    pub tells : {O Q : List ℕ} {b : Insts} {g : Flat_goal} {s : Scheduled} {o : Option Insts} → Ordered S T O Q b g s o → TypedGoal S.world.source T g → Scoped O Q (variables_of g) → (known : Known) (h : ℕ) (one : Bool) → PlacedIn S T b known one s →
        (L : List ℕ) → Among L O → Among L Q → (e : Bindings) → Closed O Q b e → TypedAt S θ T (variables_of g) b e → TypedAt S θ T L b e → Knows known e →
        Tells (Shared (free_in g) (variables_of_scheduled s)) (FlatYes X g) (FlatNo X g) one L e (stream_of S.world.outcome R h s e)
    tells (O.assign {b = b} {x = x} {y = y} n m a) tg sc known h one pl L u w e cl ty li kk =
        atom_tells (x ∷ y ∷ []) (Shared (x ∷ y ∷ []) (x ∷ y ∷ [])) (λ s. s x ≡ s y) (λ s. s x ≢ s y) one L e (stream_of S.world.outcome R h (Assign x y) e) (λ z i. (i, i))
        (TellAtoms.same_yes x y e (e x) (e y) refl refl (or_right (is_some (e x)) (is_some (e y)) (ap is_some (Typed.bound_at S D F θ (b y) (T y) (e y) m (ty y (inr (inl refl)))).1)))
        (λ s g k. TellAtoms.same_no x y e one L s g k)
    tells (O.assign_back {b = b} {x = x} {y = y} n m a) tg sc known h one pl L u w e cl ty li kk =
        let xs = stream_of S.world.outcome R h (Assign x y) e in
        atom_tells (x ∷ y ∷ []) (Shared (y ∷ x ∷ []) (x ∷ y ∷ [])) (λ s. s y ≡ s x) (λ s. s y ≢ s x) one L e xs (λ z i. (⊎_elim (λ q. inr (inl q)) (λ j. ⊎_elim (λ q. inl q) (λ k. absurd k) j) i, i))
        (Lists.each_map (λ a. (s : Assignment) → Agrees (x ∷ y ∷ []) a s → s x ≡ s y) (λ a. (s : Assignment) → Agrees (x ∷ y ∷ []) a s → s y ≡ s x) (λ a f s g. sym (f s g)) xs
        (TellAtoms.same_yes x y e (e x) (e y) refl refl (or_right (is_some (e x)) (is_some (e y)) (ap is_some (Typed.bound_at S D F θ (b y) (T y) (e y) m (ty y (inl refl))).1))))
        (λ s g k. Lists.covers_map (Hit one L s) (Hit one L s) (s x ≢ s y) (s y ≢ s x) (λ a h. h) (λ f q. f (sym q)) xs (TellAtoms.same_no x y e one L s g k))
    tells (O.test {b = b} {x = x} {y = y} n m t a) tg sc known h one pl L u w e cl ty li kk =
        atom_tells (x ∷ y ∷ []) (Shared (x ∷ y ∷ []) (x ∷ y ∷ [])) (λ s. s x ≡ s y) (λ s. s x ≢ s y) one L e (stream_of S.world.outcome R h (Test x y) e) (λ z i. (i, i))
        (TellAtoms.same_yes x y e (e x) (e y) refl refl (or_right (is_some (e x)) (is_some (e y)) (ap is_some (Typed.bound_at S D F θ (b y) (T y) (e y) m (ty y (inr (inl refl)))).1)))
        (λ s g k. TellAtoms.same_no x y e one L s g k)
    tells (O.build {b = b} {x = x} {s = f} {ys = ys} n a m d k) tg sc known h one pl L u w e cl ty li kk =
        let r = Atoms.gather_typed S D F θ T proper known L ys b e a (λ z i. ty z (inr i)) in
        atom_tells (x ∷ ys) (Shared (x ∷ ys) (x ∷ ys)) (λ s. s x ≡ con f (vals (map s ys))) (λ s. s x ≢ con f (vals (map s ys))) one L e (made_items x f ys e (e x)) (λ z i. (i, i))
        (build_made x f ys e (e x) refl (Typed.free_at S D F θ (b x) (T x) (e x) n (ty x (inl refl))) (r.0, r.1))
        (λ s g k. TellAtoms.made_no x f ys e one L s g k)
    tells (O.take {b = b} {x = x} {s = f} {ys = ys} n d a k) tg sc known h one pl L u w e cl ty li kk =
        atom_tells (x ∷ ys) (Shared (x ∷ ys) (x ∷ ys)) (λ s. s x ≡ con f (vals (map s ys))) (λ s. s x ≢ con f (vals (map s ys))) one L e (made_items x f ys e (e x)) (λ z i. (i, i))
        (TellAtoms.take_yes x f ys e (e x) refl (ap is_some (Typed.bound_at S D F θ (b x) (T x) (e x) n (ty x (inl refl))).1))
        (λ s g k. TellAtoms.made_no x f ys e one L s g k)
    tells (O.take_never {b = b} {x = x} {s = f} {ys = ys} n d a) tg sc known h one pl L u w e cl ty li kk =
        atom_tells (x ∷ ys) (Shared (x ∷ ys) (x ∷ ys)) (λ s. s x ≡ con f (vals (map s ys))) (λ s. s x ≢ con f (vals (map s ys))) one L e (made_items x f ys e (e x)) (λ z i. (i, i))
        (TellAtoms.take_yes x f ys e (e x) refl (ap is_some (Typed.bound_at S D F θ (b x) (T x) (e x) n (ty x (inl refl))).1))
        (λ s g k. TellAtoms.made_no x f ys e one L s g k)
    tells (O.put {x = x} {v = v} n) tg sc known h one pl L u w e cl ty li kk =
        atom_tells (x ∷ []) (Shared (x ∷ []) (x ∷ [])) (λ s. s x ≡ v) (λ s. s x ≢ v) one L e _ (λ z i. (i, i)) (TellAtoms.const_yes x v e) (λ s g k. TellAtoms.meet_no x v e one L s (s x ≢ v) (λ f. f) (g x (inl refl)) k)
    tells (O.test_constant {x = x} {v = v} n d a) tg sc known h one pl L u w e cl ty li kk =
        atom_tells (x ∷ []) (Shared (x ∷ []) (x ∷ [])) (λ s. s x ≡ v) (λ s. s x ≢ v) one L e _ (λ z i. (i, i)) (TellAtoms.const_yes x v e) (λ s g k. TellAtoms.meet_no x v e one L s (s x ≢ v) (λ f. f) (g x (inl refl)) k)
    tells (O.test_never {x = x} {v = v} n d a) tg sc known h one pl L u w e cl ty li kk =
        atom_tells (x ∷ []) (Shared (x ∷ []) (x ∷ [])) (λ s. s x ≡ v) (λ s. s x ≢ v) one L e _ (λ z i. (i, i)) (TellAtoms.const_yes x v e) (λ s g k. TellAtoms.meet_no x v e one L s (s x ≢ v) (λ f. f) (g x (inl refl)) k)
    tells (O.call {b = b} {c = c} {p = p} {xs = xs} {last = last} l us d a) tg sc known h one pl L u w e cl ty li kk =
        let q = S.procs p in
        let types = map_types S T D F θ proper tg.0 xs (types_of S q) tg.1 in
        let given = Arguments.usable_given S D F θ T proper tg.0 xs q.first q.last xs (types_of S q) b e (lined p l) us types ty in
        let θ' = also_instance θ tg.0 in
        TellLists.height_tells (Shared xs xs) (λ s. X.yes q.pred (map s xs)) (λ s. X.no q.pred (map s xs)) one L e last h _
        (λ k.
        let cs = called θ' k p (map e xs) l given in
        let ct = told θ' k p (map e xs) l given in
        atom_tells xs (Shared xs xs) (λ s. X.yes q.pred (map s xs)) (λ s. X.no q.pred (map s xs)) one L e (bind (R k p (map e xs)) (λ os. of_option (unify xs os e))) (λ z i. (i, i))
        (TellCalls.call_yes X e q xs (R k p (map e xs)) ct.yes)
        (λ s g r.
        TellCalls.call_no one L (X.no q.pred (map s xs)) s e xs (R k p (map e xs)) _ q.det.committed
        (λ t. let z = pl t in (z.0, (λ os j. Arguments.answers_succeed S D F θ T proper (modes_of_procedure q) xs 0 (λ x. is_bound (b x)) os e e z.1 (Arguments.shape_answers S D F θ T proper tg.0 q.first q.last xs (types_of S q) e os types j.0 j.1 given) (Typed.typed_flat S D F θ T proper xs b e ty) (Binds.extends_refl e))))
        cs.each g r (ct.no (map s xs) (TellAtoms.fills_map xs e s g))))
    tells (O.apply {b = b} {c = c} {p = p} {op = op} {xs = xs} q us d i a) tg sc known h one pl L u w e cl ty li kk =
        let r = Callings.inputs_there S D F θ T proper known L (inputs_of op) (modes_of op) xs xs (S.world.source.preds p).types tg.0 b e (Callings.modes_fit S D F θ T proper known L op) us (map_types S T D F θ proper tg.0 xs (S.world.source.preds p).types tg.1) ty in
        atom_tells xs (Shared xs (at_inputs (inputs_of op) xs ++ at_outputs (inputs_of op) xs)) (λ s. X.yes p (map s xs)) (λ s. X.no p (map s xs)) one L e _ (λ z j. (j, apply_variables S D F T op xs b c a z j))
        (TellCalls.apply_yes S X says p op xs e q r.0 r.1) (λ s g k. TellCalls.apply_no S X says p op xs e q r.0 r.1 one L s g k)
    tells (O.implied_alone {O = O} {Q = Q} {p = p} {xs = xs} {n = n} {m = m} {ns = ns} r) tg sc known h one pl L u w e cl ty li kk =
        let back : (x : ℕ) → In x (xs ++ []) → In x xs = λ x i. ⊎_elim (λ j. j) (λ j. absurd j) (in_either x xs [] i) in
        let t = tells_all r (tg, tt) (λ x i j. sc x (back x i) j) known h one pl L u w e cl (λ x i. ty x (back x i)) li kk in
        let ys = stream_all S.world.outcome R h (node_then n (node_then m ns)) e in
        record {
          yes = Lists.each_map (λ a. (s : Assignment) → AgreesFor (Shared (xs ++ []) (variables_of_nodes (node_then n (node_then m ns)))) a s → X.yes p (map s xs) × Unit {0}) (λ a. (s : Assignment) → AgreesFor (Shared xs (variables_of_nodes (node_then n (node_then m ns)))) a s → X.yes p (map s xs))
              (λ a f s g. (f s (λ x i. g x (back x i.0, i.1))).0) ys t.yes;
          no = λ s g k. Lists.covers_map (Hit one L s) (Hit one L s) (X.no p (map s xs) ⊎ ⊥) (X.no p (map s xs)) (λ a z. z) (λ f. ⊎_elim (λ z. z) (λ z. absurd z) f) ys (t.no s (λ x i. g x (back x i.0, i.1)) k);
        }
    tells (O.conj r) tg sc known h one pl L u w e cl ty li kk = tells_all r tg sc known h one pl L u w e cl ty li kk
    tells (O.disj r jn) tg sc known h one pl L u w e cl ty li kk = tells_any r tg sc known h one pl L u w e cl ty li kk
    tells (O.switch {O = O} {Q = Q} {b = b} {x = x} {gs = gs} {arms = arms} n i r jn) tg sc known h one pl L u w e cl ty li kk =
        let v = Typed.bound_at S D F θ (b x) (T x) (e x) n (ty x (frees_in gs x i)) in
        let io : In x O = ⊎_elim (λ z. ⊎_elim (λ y. y) (λ y. sc x (frees_in gs x i) y) z) (λ z. absurd (n z.0)) (cl x) in
        let t = tells_arms r tg sc known h one pl L u w e cl ty li kk io v.0 v.1 in
        record {
          yes = Lists.each_map (λ a. (s : Assignment) → AgreesFor (Shared (free_in_all gs) (variables_of_arms arms)) a s → FlatOneYes X gs s) (λ a. (s : Assignment) → AgreesFor (Shared (free_in_all gs) (x ∷ variables_of_arms arms)) a s → FlatOneYes X gs s)
              (λ a f s g. f s (λ z j. g z (j.0, inr j.1))) (stream_arms S.world.outcome R h arms e) t.yes;
          no = λ s g k. t.no s (g x (i, inl refl) v.0 v.1) (λ z j. g z (j.0, inr j.1)) k;
        }
    tells (O.neg {O = O} {Q = Q} {b = b} {g = g} {n = n} {o = o} r m) tg sc known h one pl L u w e cl ty li kk =
        let fs = free_in g in
        let xs = stream S.world.outcome R h n e in
        let cl' : Closed (O ++ fs) Q b e = λ x. ⊎_elim (λ z. inl (⊎_elim (λ y. inl (in_left x O fs y)) (λ y. inr y) z)) (λ z. inr z) (cl x) in
        let sd = Sound.sound_node S D F R called lined T proper θ r tg known h fs (λ x i. in_right x O fs i) e cl' ty (typed_free g b e ty) in
        let td = tells_node r tg (λ x i j. in_left x O fs (sc x i j)) known h true pl [] (λ x i. absurd i) (λ x i. absurd i) e cl' ty (λ x i. absurd i) kk in
        record {
          yes = TellLists.negate_yes (Shared fs (variables_of_node n)) (FlatNo X g) e xs (Lists.each_map (λ a. Grows e a × (BindsOnly (variables_of_node n) e a × Reached S θ T fs o a)) (λ a. Unit {0}) (λ a z. tt) xs sd.each) (λ s q. td.no s q (λ x i. absurd i));
          no = λ s q k. TellLists.negate_no (Hit one L s) (FlatYes X g s) e xs
              (still_yes fs (variables_of_node n) (FlatYes X g) b o e xs s m (typed_free g b e ty) sd.each td.yes q) (hit_more one L s e k);
        }
    tells (O.some {O = O} {Q = Q} {b = b} {vs = vs} {g = g} {n = n} a r) tg sc known h one pl L u w e cl ty li kk =
        let fs = free_in g in
        let none = scope_none O Q (vs ++ variables_of g) vs b e a sc (λ x i. in_left x vs (variables_of g) i) cl in
        let xs = stream S.world.outcome R h n e in
        let td = tells_node r tg (λ x i j. sc x (in_right x vs (variables_of g) i) j) known h one pl L u w e cl (λ x i. ty x (in_right x vs (variables_of g) i)) li kk in
        let to : (x : ℕ) → Shared fs (variables_of_node n) x → (In x vs → ⊥) → Shared (without fs vs) (vs ++ variables_of_node n) x = λ x i z. (in_without x fs vs i.0 z, in_right x vs (variables_of_node n) i.1) in
        record {
          yes = Lists.each_map (λ a. (s : Assignment) → AgreesFor (Shared fs (variables_of_node n)) a s → FlatYes X g s) (λ a. (s : Assignment) → AgreesFor (Shared (without fs vs) (vs ++ variables_of_node n)) a s → (z : Assignment) × SameOff vs s z × FlatYes X g z)
              (λ a f s q. (with_bound vs a s, with_bound_off vs a s, f (with_bound vs a s) (with_bound_agrees (Shared fs (variables_of_node n)) vs a s (λ x i z. q x (to x i z))))) xs td.yes;
          no = λ s q k. scope_no one L vs s (FlatNo X g) xs (λ x i j. a x i (u x j))
              (λ z o. td.no z (agrees_off (Shared fs (variables_of_node n)) vs e s z none o (λ x i y. q x (to x i y))) (agrees_off (λ x. In x L) vs e s z none o (λ x i y. k x i)));
        }
    tells (O.ite {O = O} {Q = Q} {b = b} {c = c} {vs = vs} {g = g} {h = i} {k = j} {n = n} {t = t} {u = f} {o = o} {o' = o'} {o'' = o''} a rc bn rt re jn) tg sc known h one pl L u w e cl ty li kk =
        let vn = variables_of_node n in
        let vt = variables_of_node t in
        let vf = variables_of_node f in
        let xs = stream S.world.outcome R h n e in
        let ys = stream S.world.outcome R h f e in
        let W = vs ++ (vn ++ (vt ++ vf)) in
        let V = vs ++ (variables_of g ++ (variables_of i ++ variables_of j)) in
        let wn : (x : ℕ) → In x vn → In x W = λ x z. in_right x vs (vn ++ (vt ++ vf)) (in_left x vn (vt ++ vf) z) in
        let wt : (x : ℕ) → In x vt → In x W = λ x z. in_right x vs (vn ++ (vt ++ vf)) (in_right x vn (vt ++ vf) (in_left x vt vf z)) in
        let wf : (x : ℕ) → In x vf → In x W = λ x z. in_right x vs (vn ++ (vt ++ vf)) (in_right x vn (vt ++ vf) (in_right x vt vf z)) in
        let vg : (x : ℕ) → In x (variables_of g) → In x V = λ x z. in_right x vs (variables_of g ++ (variables_of i ++ variables_of j)) (in_left x (variables_of g) (variables_of i ++ variables_of j) z) in
        let vi : (x : ℕ) → In x (variables_of i) → In x V = λ x z. in_right x vs (variables_of g ++ (variables_of i ++ variables_of j)) (in_right x (variables_of g) (variables_of i ++ variables_of j) (in_left x (variables_of i) (variables_of j) z)) in
        let vj : (x : ℕ) → In x (variables_of j) → In x V = λ x z. in_right x vs (variables_of g ++ (variables_of i ++ variables_of j)) (in_right x (variables_of g) (variables_of i ++ variables_of j) (in_right x (variables_of i) (variables_of j) z)) in
        let tc : TypedAt S θ T (variables_of g) b e = λ x z. ty x (vg x z) in
        let ti : TypedAt S θ T (variables_of i) b e = λ x z. ty x (vi x z) in
        let te : TypedAt S θ T (variables_of j) b e = λ x z. ty x (vj x z) in
        let Oc = O ++ (without (free_in g) vs ++ variables_of i) in
        let Qc = Q ++ vt in
        let oc : (x : ℕ) → In x O → In x Oc = λ x z. in_left x O (without (free_in g) vs ++ variables_of i) z in
        let clc : Closed Oc Qc b e = closed_more O Q (without (free_in g) vs ++ variables_of i) vt b e cl in
        let clt : (d : Bindings) → BindsOnly vn e d → Closed (O ++ variables_of g) (Q ++ vn) c d = λ d bo. closed_after O Q (variables_of g) vn b c e d (node_from S D F T rc) bo cl in
        let scc : Scoped Oc Qc (variables_of g) = λ x z y. ⊎_elim (λ q. oc x (sc x (vg x z) q)) (λ q. in_right x O (without (free_in g) vs ++ variables_of i) (in_right x (without (free_in g) vs) (variables_of i) (free_in_goal i x (node_free S T rt x q (in_right x O (variables_of g) z))))) (in_either x Q vt y) in
        let sct : Scoped (O ++ variables_of g) (Q ++ vn) (variables_of i) = λ x z y. ⊎_elim (λ q. in_left x O (variables_of g) (sc x (vi x z) q)) (λ q. in_right x O (variables_of g) (free_in_goal g x (node_free S T rc x q (in_right x O (without (free_in g) vs ++ variables_of i) (in_right x (without (free_in g) vs) (variables_of i) z))))) (in_either x Q vn y) in
        let scf : Scoped O Q (variables_of j) = λ x z y. sc x (vj x z) y in
        let K = L ++ within (free_in i) vt in
        let ko : Among K Oc = λ x z. ⊎_elim (λ y. oc x (u x y)) (λ y. in_right x O (without (free_in g) vs ++ variables_of i) (in_right x (without (free_in g) vs) (variables_of i) (free_in_goal i x (within_first (free_in i) vt x y)))) (in_either x L (within (free_in i) vt) z) in
        let kq : Among K Qc = λ x z. ⊎_elim (λ y. in_left x Q vt (w x y)) (λ y. in_right x Q vt (within_second (free_in i) vt x y)) (in_either x L (within (free_in i) vt) z) in
        let Lv = L ++ variables_of i in
        let klv : (x : ℕ) → In x K → In x Lv = λ x z. ⊎_elim (λ y. in_left x L (variables_of i) y) (λ y. in_right x L (variables_of i) (free_in_goal i x (within_first (free_in i) vt x y))) (in_either x L (within (free_in i) vt) z) in
        let lb : TypedAt S θ T Lv b e = λ x z. ⊎_elim (λ y. li x y) (λ y. ti x y) (in_either x L (variables_of i) z) in
        let kb : TypedAt S θ T K b e = λ x z. lb x (klv x z) in
        let eqc : insts_after n b ≡ c = node_after rc in
        let can = (determined S T (insts_after n b) known t).can_fail in
        let none_new = not (binds_one vt b (insts_after n b)) in
        let go = none_new || (one && not can) in
        let Rr : Bindings → Type 0 = λ d. BindsOnly vn e d × TypedAt S θ T Lv c d in
        let sd : Sound S θ T known Lv vn e (Some c) (determined S T b known n) xs = Sound.sound_node S D F R called lined T proper θ rc tg.0 known h Lv (among_two L O (without (free_in g) vs) (variables_of i) u) e clc tc lb in
        let wo = without (free_in g) vs in
        let twb : TypedAt S θ T wo b e = λ x z. tc x (free_in_goal g x (from_without x (free_in g) vs z)) in
        let sf : Sound S θ T known wo vn e (Some c) (determined S T b known n) xs = Sound.sound_node S D F R called lined T proper θ rc tg.0 known h wo (λ x z. in_right x O (wo ++ variables_of i) (in_left x wo (variables_of i) z)) e clc tc twb in
        let t0 : Tells (Shared (free_in g) vn) (FlatYes X g) (FlatNo X g) go [] e xs = tells_node rc tg.0 scc known h go pl.0 [] (λ x z. absurd z) (λ x z. absurd z) e clc tc (λ x z. absurd z) kk in
        let t1 : Tells (Shared (free_in g) vn) (FlatYes X g) (FlatNo X g) go K e xs = tells_node rc tg.0 scc known h go pl.0 K ko kq e clc tc kb kk in
        let st : (d : Bindings) → BindsOnly vn e d → TypedAt S θ T Lv c d → Sound S θ T known L vt d o (determined S T c known t) (stream S.world.outcome R h t d) = λ d bo m. Sound.sound_node S D F R called lined T proper θ rt tg.1 known h L (among_left L O (variables_of g) u) d (clt d bo) (λ x z. m x (in_right x L (variables_of i) z)) (λ x z. m x (in_left x L (variables_of i) z)) in
        let plt : Placed S T c known one t = subst (λ z. Placed S T z known one t) eqc pl.1 in
        let tt' : (d : Bindings) → Grows e d → Rr d → Tells (Shared (free_in i) vt) (FlatYes X i) (FlatNo X i) one L d (stream S.world.outcome R h t d) = λ d gr m. tells_node rt tg.1 sct known h one plt L (among_left L O (variables_of g) u) (λ x z. in_left x Q vn (w x z)) d (clt d m.0) (λ x z. m.1 x (in_right x L (variables_of i) z)) (λ x z. m.1 x (in_left x L (variables_of i) z)) (knows_more known e d gr kk) in
        let tf : Tells (Shared (free_in j) vf) (FlatYes X j) (FlatNo X j) one L e ys = tells_node re tg.2 scf known h one pl.2 L u w e cl te li kk in
        let sk = Sound.sound_node S D F R called lined T proper θ re tg.2 known h L u e cl te li in
        let none = scope_none O Q V vs b e a sc (λ x z. in_left x vs (variables_of g ++ (variables_of i ++ variables_of j)) z) cl in
        let fa = without (free_in g ++ free_in i) vs ++ free_in j in
        let Fa = Shared fa W in
        let fg : (x : ℕ) → Shared (free_in g) vn x → (In x vs → ⊥) → Fa x = λ x z y. (in_left x (without (free_in g ++ free_in i) vs) (free_in j) (in_without x (free_in g ++ free_in i) vs (in_left x (free_in g) (free_in i) z.0) y), wn x z.1) in
        let ft : (x : ℕ) → Shared (free_in i) vt x → (In x vs → ⊥) → Fa x = λ x z y. (in_left x (without (free_in g ++ free_in i) vs) (free_in j) (in_without x (free_in g ++ free_in i) vs (in_right x (free_in g) (free_in i) z.0) y), wt x z.1) in
        let ff : (x : ℕ) → Shared (free_in j) vf x → Fa x = λ x z. (in_right x (without (free_in g ++ free_in i) vs) (free_in j) z.0, wf x z.1) in
        let apart : (x : ℕ) → In x vs → In x L → ⊥ = λ x z y. a x z (u x y) in
        let grown : (d : Bindings) → Rr d → Each (λ k. Grows d k) (stream S.world.outcome R h t d) = λ d m. flat_each (λ k. Grows d k) (λ k. BindsOnly vt d k) (λ k. Reached S θ T L o k) (stream S.world.outcome R h t d) (st d m.0 m.1).each in
        let bn' : (x : ℕ) → In x wo → b x ≡ 0 → c x ≡ 0 = λ x z y. binds_stay wo b c x bn z y in
        let same_out : (x : ℕ) → In x O → b x ≡ 0 → c x ≡ 0 = λ x z y. ⊎_elim (λ q. bn' x (in_without x (free_in g) vs (node_free S T rc x q (oc x z)) (λ v. a x v z)) y) (λ q. node_from S D F T rc x q y) (in_or_not x vn) in
        let stays : none_new ≡ true → (x : ℕ) → In x K → b x ≡ 0 → c x ≡ 0 = λ q x z y. ⊎_elim (λ v. same_out x (u x v) y) (λ v. binds_stay vt b c x (subst (λ d. binds_one vt b d ≡ false) eqc (not-true (binds_one vt b (insts_after n b)) q)) (within_second (free_in i) vt x v) y) (in_either x L (within (free_in i) vt) z) in
        let sure : (d : Bindings) → Grows e d → Rr d → can ≡ false → Succeeds (stream S.world.outcome R h t d) = λ d gr m q. (st d m.0 m.1).sure (knows_more known e d gr kk) (subst (λ z. (determined S T z known t).can_fail ≡ false) eqc q) in
        let hit : (v : Assignment) (d : Bindings) → Agrees K e v → Grows e d → Rr d → Hit go K v d → Agrees K d v ⊎ ((one ≡ true) × Succeeds (stream S.world.outcome R h t d)) = λ v d ku gr m z.
        hit_either none_new one can K v d (Succeeds (stream S.world.outcome R h t d)) (λ q. agrees_stay (λ x. In x K) e d v (stay_new S θ T K b c e d kb (λ x y. m.1 x (klv x y)) (stays q)) gr ku) (λ q. sure d gr m q) z in
        record {
          yes = TellLists.ite_yes (Shared (free_in g) vn) (Shared (free_in i) vt) (Shared (free_in j) vf) Fa vs (FlatYes X g) (FlatNo X g) (FlatYes X i) (FlatNo X i) (FlatYes X j) (FlatNo X j) one K L e Rr xs ys (λ d. stream S.world.outcome R h t d) fg ft ff none apart
              sd.each t0.yes (λ v q. hit_any go [] v (FlatNo X g v) xs (t0.no v q (λ x z. absurd z))) (λ d gr m. grown d m) (λ d gr m. (tt' d gr m).yes)
              (flat_each (λ k. Grows e k) (λ k. BindsOnly vf e k) (λ k. Reached S θ T L o' k) ys sk.each) tf.yes;
          no = λ s q r.
              TellLists.ite_no (Shared (free_in g) vn) (Shared (free_in i) vt) (Shared (free_in j) vf) Fa vs (FlatYes X g) (FlatNo X g) (FlatYes X i) (FlatNo X i) (FlatYes X j) (FlatNo X j) one K L e Rr xs ys (λ d. stream S.world.outcome R h t d) fg ft ff none apart
              go (λ x z. in_left x L (within (free_in i) vt) z) (λ x z. in_right x L (within (free_in i) vt) (within_both (free_in i) vt x z.0 z.1)) (λ x z. ⊎_elim (λ y. inl y) (λ y. inr (within_first (free_in i) vt x y, within_second (free_in i) vt x y)) (in_either x L (within (free_in i) vt) z))
              s q r sd.each (λ v p y. t1.no v p y)
              (Lists.each_map (λ d. (Grows e d × (BindsOnly vn e d × TypedAt S θ T wo c d)) × ((v : Assignment) → AgreesFor (Shared (free_in g) vn) d v → FlatYes X g v)) (λ d. FlatYes X g (with_bound vs d s))
              (λ d z. z.1 (with_bound vs d s) (with_bound_agrees (Shared (free_in g) vn) vs d s (λ x p y v l. agrees_stay (λ x. In x wo × In x vn) e d s (λ x i. stay_new S θ T wo b c e d twb z.0.1.1 bn' x i.0) z.0.0 (λ x i. q x (fg x (from_without x (free_in g) vs i.0, i.1) (Scopes.without_out x (free_in g) vs i.0))) x (in_without x (free_in g) vs p.0 y, p.1) v l)))
              xs (Lists.each_both (λ d. Grows e d × (BindsOnly vn e d × TypedAt S θ T wo c d)) (λ d. (v : Assignment) → AgreesFor (Shared (free_in g) vn) d v → FlatYes X g v) xs sf.each t0.yes))
              hit (λ d gr m v y z. (tt' d gr m).no v y z)
              (tf.no s (λ x z. q x (ff x z)) r);
        }
    tells (O.ite_never {O = O} {Q = Q} {b = b} {vs = vs} {g = g} {h = i} {k = j} {n = n} {t = t} {u = f} {o = o} {o'' = o''} a rc em re jn) tg sc known h one pl L u w e cl ty li kk =
        let vn = variables_of_node n in
        let vt = variables_of_node t in
        let vf = variables_of_node f in
        let xs = stream S.world.outcome R h n e in
        let ys = stream S.world.outcome R h f e in
        let W = vs ++ (vn ++ (vt ++ vf)) in
        let V = vs ++ (variables_of g ++ (variables_of i ++ variables_of j)) in
        let wn : (x : ℕ) → In x vn → In x W = λ x z. in_right x vs (vn ++ (vt ++ vf)) (in_left x vn (vt ++ vf) z) in
        let wf : (x : ℕ) → In x vf → In x W = λ x z. in_right x vs (vn ++ (vt ++ vf)) (in_right x vn (vt ++ vf) (in_right x vt vf z)) in
        let vg : (x : ℕ) → In x (variables_of g) → In x V = λ x z. in_right x vs (variables_of g ++ (variables_of i ++ variables_of j)) (in_left x (variables_of g) (variables_of i ++ variables_of j) z) in
        let vj : (x : ℕ) → In x (variables_of j) → In x V = λ x z. in_right x vs (variables_of g ++ (variables_of i ++ variables_of j)) (in_right x (variables_of g) (variables_of i ++ variables_of j) (in_right x (variables_of i) (variables_of j) z)) in
        let tc : TypedAt S θ T (variables_of g) b e = λ x z. ty x (vg x z) in
        let te : TypedAt S θ T (variables_of j) b e = λ x z. ty x (vj x z) in
        let wo = without (free_in g) vs in
        let Oc = O ++ (wo ++ variables_of i) in
        let oc : (x : ℕ) → In x O → In x Oc = λ x z. in_left x O (wo ++ variables_of i) z in
        let clc : Closed Oc Q b e = λ x. ⊎_elim (λ z. inl (⊎_elim (λ y. inl (oc x y)) (λ y. inr y) z)) (λ z. inr z) (cl x) in
        let go = not (binds_one vt b (insts_after n b)) || (one && not (determined S T (insts_after n b) known t).can_fail) in
        let scc : Scoped Oc Q (variables_of g) = λ x z y. oc x (sc x (vg x z) y) in
        let sd : Sound S θ T known L vn e None (determined S T b known n) xs = Sound.sound_node S D F R called lined T proper θ rc tg.0 known h L (λ x z. oc x (u x z)) e clc tc li in
        let t0 : Tells (Shared (free_in g) vn) (FlatYes X g) (FlatNo X g) go [] e xs = tells_node rc tg.0 scc known h go pl.0 [] (λ x z. absurd z) (λ x z. absurd z) e clc tc (λ x z. absurd z) kk in
        let t1 : Tells (Shared (free_in g) vn) (FlatYes X g) (FlatNo X g) go L e xs = tells_node rc tg.0 scc known h go pl.0 L (λ x z. oc x (u x z)) w e clc tc li kk in
        let tf : Tells (Shared (free_in j) vf) (FlatYes X j) (FlatNo X j) one L e ys = tells_node re tg.2 (λ x z y. sc x (vj x z) y) known h one pl.2 L u w e cl te li kk in
        let sk = Sound.sound_node S D F R called lined T proper θ re tg.2 known h L u e cl te li in
        let none = scope_none O Q V vs b e a sc (λ x z. in_left x vs (variables_of g ++ (variables_of i ++ variables_of j)) z) cl in
        let Fa = Shared (without (free_in g ++ free_in i) vs ++ free_in j) W in
        let empty : (x : ℕ) → Shared (free_in i) vt x → ⊥ = λ x z. Scopes.empty_none t em x z.1 in
        let fg : (x : ℕ) → Shared (free_in g) vn x → (In x vs → ⊥) → Fa x = λ x z y. (in_left x (without (free_in g ++ free_in i) vs) (free_in j) (in_without x (free_in g ++ free_in i) vs (in_left x (free_in g) (free_in i) z.0) y), wn x z.1) in
        let ft : (x : ℕ) → Shared (free_in i) vt x → (In x vs → ⊥) → Fa x = λ x z y. absurd (empty x z) in
        let ff : (x : ℕ) → Shared (free_in j) vf x → Fa x = λ x z. (in_right x (without (free_in g ++ free_in i) vs) (free_in j) z.0, wf x z.1) in
        let apart : (x : ℕ) → In x vs → In x L → ⊥ = λ x z y. a x z (u x y) in
        let Rr : Bindings → Type 0 = λ d. BindsOnly vn e d × ⊥ in
        record {
          yes = TellLists.ite_yes (Shared (free_in g) vn) (Shared (free_in i) vt) (Shared (free_in j) vf) Fa vs (FlatYes X g) (FlatNo X g) (FlatYes X i) (FlatNo X i) (FlatYes X j) (FlatNo X j) one L L e Rr xs ys (λ d. stream S.world.outcome R h t d) fg ft ff none apart
              sd.each t0.yes (λ v q. hit_any go [] v (FlatNo X g v) xs (t0.no v q (λ x z. absurd z))) (λ d gr m. absurd m.1) (λ d gr m. absurd m.1)
              (flat_each (λ k. Grows e k) (λ k. BindsOnly vf e k) (λ k. Reached S θ T L o k) ys sk.each) tf.yes;
          no = λ s q r.
              TellLists.ite_no (Shared (free_in g) vn) (Shared (free_in i) vt) (Shared (free_in j) vf) Fa vs (FlatYes X g) (FlatNo X g) (FlatYes X i) (FlatNo X i) (FlatYes X j) (FlatNo X j) one L L e Rr xs ys (λ d. stream S.world.outcome R h t d) fg ft ff none apart
              go (λ x z. z) (λ x z. absurd (empty x z)) (λ x z. inl z)
              s q r sd.each (λ v p y. t1.no v p y)
              (Lists.each_map (λ d. Grows e d × (BindsOnly vn e d × ⊥)) (λ d. FlatYes X g (with_bound vs d s)) (λ d z. absurd z.1.1) xs sd.each)
              (λ v d ku gr m z. absurd m.1) (λ d gr m v y z. absurd m.1)
              (tf.no s (λ x z. q x (ff x z)) r);
        }

    pub tells_node : {O Q : List ℕ} {b : Insts} {g : Flat_goal} {n : Node} {o : Option Insts} → OrderedNode S T O Q b g n o → TypedGoal S.world.source T g → Scoped O Q (variables_of g) → (known : Known) (h : ℕ) (one : Bool) → Placed S T b known one n →
        (L : List ℕ) → Among L O → Among L Q → (e : Bindings) → Closed O Q b e → TypedAt S θ T (variables_of g) b e → TypedAt S θ T L b e → Knows known e →
        Tells (Shared (free_in g) (variables_of_node n)) (FlatYes X g) (FlatNo X g) one L e (stream S.world.outcome R h n e)
    tells_node (O.kept {Q = Q} {b = b} {g = g} {s = s} {o = o} r k) tg sc known h one pl L u w e cl ty li kk =
        let sd = Sound.sound S D F R called lined T proper θ r tg known h L u e cl ty li in
        prune_tells S θ T (Shared (free_in g) (variables_of_scheduled s)) (FlatYes X g) (FlatNo X g) one L Q b o (Rattle.mc_accepted.specs.Ordered.is_pruned Q b o) e (stream_of S.world.outcome R h s e) refl w li
        (Lists.each_map (λ a. Grows e a × (BindsOnly (variables_of_scheduled s) e a × Reached S θ T L o a)) (λ a. Grows e a × Reached S θ T L o a) (λ a z. (z.0, z.1.1)) (stream_of S.world.outcome R h s e) sd.each)
        (λ f q. tells r tg sc known h f (subst (λ z. PlacedIn S T b known z s) (sym q) pl) L u w e cl ty li kk)

    pub tells_all : {O Q : List ℕ} {b : Insts} {gs : Flat_goals} {ns : Nodes} {o : Option Insts} → OrderedAll S T O Q b gs ns o → TypedGoals S.world.source T gs → Scoped O Q (variables_of_all gs) → (known : Known) (h : ℕ) (one : Bool) → AllPlaced S T b known one ns →
        (L : List ℕ) → Among L O → Among L Q → (e : Bindings) → Closed O Q b e → TypedAt S θ T (variables_of_all gs) b e → TypedAt S θ T L b e → Knows known e →
        Tells (Shared (free_in_all gs) (variables_of_nodes ns)) (FlatAllYes X gs) (FlatOneNo X gs) one L e (stream_all S.world.outcome R h ns e)
    tells_all O.done tg sc known h one pl L u w e cl ty li kk = record { yes = (λ s g. tt, tt); no = λ s g k. inl (hit_more one L s e k) }
    tells_all (O.dropped {O = O} {Q = Q} {b = b} {g = g} {gs = gs} {rest = rest} {n = n} p r) tg sc known h one pl L u w e cl ty li kk =
        let q = picks_typed S.world.source T p tg in
        let vn = variables_of_node n in
        let xs = stream S.world.outcome R h n e in
        let Oc = O ++ variables_of_all rest in
        let clc : Closed Oc Q b e = λ x. ⊎_elim (λ z. inl (⊎_elim (λ y. inl (in_left x O (variables_of_all rest) y)) (λ y. inr y) z)) (λ z. inr z) (cl x) in
        let tc : TypedAt S θ T (variables_of g) b e = λ x i. ty x (picks_goal p x i) in
        let sd = Sound.sound_node S D F R called lined T proper θ r q.0 known h L (among_left L O (variables_of_all rest) u) e clc tc li in
        let td = tells_node r q.0 (λ x i j. in_left x O (variables_of_all rest) (sc x (picks_goal p x i) j)) known h (one && true) pl.0 L (among_left L O (variables_of_all rest) u) w e clc tc li kk in
        let H = Shared (free_in_all gs) (vn ++ []) in
        record {
          yes = Lists.each_bind (λ a. Grows e a × (BindsOnly vn e a × ⊥)) (λ a. (s : Assignment) → AgreesFor H a s → FlatAllYes X gs s) (λ a. Answer a End) xs sd.each (λ a z. absurd z.1.1);
          no = λ s gr k.
              TellLists.bind_no (FlatNo X g s) ⊥ (FlatOneNo X gs s) L L s one (Hit (one && true) L s) (λ a. Grows e a × (BindsOnly vn e a × ⊥)) xs End (λ a. Answer a End) sd.each
              (td.no s (λ x i. gr x (Scopes.picks_free p x i.0, in_left x vn [] i.1)) k) (λ a z y. absurd z.1.1) (λ a z y. absurd z.1.1) (λ f. picks_no X p s f) (λ f. absurd f);
        }
    tells_all (O.next {O = O} {Q = Q} {b = b} {c = c} {g = g} {gs = gs} {rest = rest} {n = n} {ns = ns} {o = o} p r t) tg sc known h one pl L u w e cl ty li kk =
        let q = picks_typed S.world.source T p tg in
        let vn = variables_of_node n in
        let vr = variables_of_nodes ns in
        let Vr = variables_of_all rest in
        let xs = stream S.world.outcome R h n e in
        let tc : TypedAt S θ T (variables_of g) b e = λ x i. ty x (picks_goal p x i) in
        let lb : TypedAt S θ T (L ++ Vr) b e = λ x i. ⊎_elim (λ j. li x j) (λ j. ty x (picks_rest p x j)) (in_either x L Vr i) in
        let clc = closed_more O Q Vr vr b e cl in
        let clr : (a : Bindings) → BindsOnly vn e a → Closed (O ++ variables_of g) (Q ++ vn) c a = λ a bo. closed_after O Q (variables_of g) vn b c e a (node_from S D F T r) bo cl in
        let sd = Sound.sound_node S D F R called lined T proper θ r q.0 known h (L ++ Vr) (among_both L O Vr u) e clc tc lb in
        let sr : (a : Bindings) → BindsOnly vn e a → TypedAt S θ T (L ++ Vr) c a → Sound S θ T known L vr a o (determined_all S T c known ns) (stream_all S.world.outcome R h ns a) = λ a bo m. Sound.sound_all S D F R called lined T proper θ t q.1 known h L (among_left L O (variables_of g) u) a (clr a bo) (λ x i. m x (in_right x L Vr i)) (λ x i. m x (in_left x L Vr i)) in
        let eqc : insts_after n b ≡ c = node_after r in
        let nf = none_fails S T (insts_after n b) known ns in
        let K = L ++ within (free_in_all rest) vr in
        let klv : (x : ℕ) → In x K → In x (L ++ Vr) = λ x z. ⊎_elim (λ y. in_left x L Vr y) (λ y. in_right x L Vr (frees_in rest x (within_first (free_in_all rest) vr x y))) (in_either x L (within (free_in_all rest) vr) z) in
        let ko : Among K (O ++ Vr) = λ x z. ⊎_elim (λ y. in_left x O Vr (u x y)) (λ y. in_right x O Vr y) (in_either x L Vr (klv x z)) in
        let kq : Among K (Q ++ vr) = λ x z. ⊎_elim (λ y. in_left x Q vr (w x y)) (λ y. in_right x Q vr (within_second (free_in_all rest) vr x y)) (in_either x L (within (free_in_all rest) vr) z) in
        let scn : Scoped (O ++ Vr) (Q ++ vr) (variables_of g) = λ x z y. ⊎_elim (λ k. in_left x O Vr (sc x (picks_goal p x z) k)) (λ k. in_right x O Vr (frees_in rest x (all_free S T t x k (in_right x O (variables_of g) z)))) (in_either x Q vr y) in
        let scr : Scoped (O ++ variables_of g) (Q ++ vn) Vr = λ x z y. ⊎_elim (λ k. in_left x O (variables_of g) (sc x (picks_rest p x z) k)) (λ k. in_right x O (variables_of g) (free_in_goal g x (node_free S T r x k (in_right x O Vr z)))) (in_either x Q vn y) in
        let plr : AllPlaced S T c known one ns = subst (λ z. AllPlaced S T z known one ns) eqc pl.1 in
        TellLists.next_tells (Shared (free_in g) vn) (Shared (free_in_all rest) vr) (Shared (free_in_all gs) (vn ++ vr)) (FlatYes X g) (FlatNo X g) (FlatAllYes X rest) (FlatOneNo X rest) (FlatAllYes X gs) (FlatOneNo X gs) one (one && nf) K L e (λ a. BindsOnly vn e a × TypedAt S θ T (L ++ Vr) c a) xs (λ a. stream_all S.world.outcome R h ns a)
        (λ x i. (Scopes.picks_free p x i.0, in_left x vn vr i.1)) (λ x i. (Scopes.rest_free p x i.0, in_right x vn vr i.1))
        (λ x i. in_left x L (within (free_in_all rest) vr) i) (λ x i. in_right x L (within (free_in_all rest) vr) (within_both (free_in_all rest) vr x i.0 i.1))
        (λ x z. ⊎_elim (λ y. inl y) (λ y. inr (Scopes.rest_free p x (within_first (free_in_all rest) vr x y), in_right x vn vr (within_second (free_in_all rest) vr x y))) (in_either x L (within (free_in_all rest) vr) z))
        (λ s y z. picks_yes X p s y z) (λ s f. picks_no X p s f) (λ s f. rest_no X p s f)
        sd.each
        (tells_node r q.0 scn known h (one && nf) pl.0 K ko kq e clc tc (λ x z. lb x (klv x z)) kk)
        (λ a gr m. flat_each (λ k. Grows a k) (λ k. BindsOnly vr a k) (λ k. Reached S θ T L o k) (stream_all S.world.outcome R h ns a) (sr a m.0 m.1).each)
        (λ s a ke gr m z. hit_or one nf K s a (Succeeds (stream_all S.world.outcome R h ns a)) (λ y. (sr a m.0 m.1).sure (knows_more known e a gr kk) (subst (λ d. (determined_all S T d known ns).can_fail ≡ false) eqc (none_all S T (insts_after n b) known ns y))) z)
        (λ a gr m. tells_all t q.1 scr known h one plr L (among_left L O (variables_of g) u) (λ x i. in_left x Q vn (w x i)) a (clr a m.0) (λ x i. m.1 x (in_right x L Vr i)) (λ x i. m.1 x (in_left x L Vr i)) (knows_more known e a gr kk))
    tells_all (O.implied_outputs {O = O} {Q = Q} {b = b} {c = c} {p = p} {op = op} {xs = xs} {zs = zs} {gs = gs} {rest = rest} {changes = changes} {d = d} {ns = ns} {o = o} tests pk bq mo fr nd di apt ts us i af kc t) tg sc known h one pl L u w e cl ty li kk =
        let q = picks_typed S.world.source T pk tg in
        let is = implied_places 0 (modes_of op) xs (λ x. is_bound (b x)) in
        let Vr = variables_of_all rest in
        let vr = variables_of_nodes ns in
        let vt = variables_of_nodes (tested_by tests ns) in
        let vs = at_inputs (inputs_of op) zs ++ at_outputs (inputs_of op) zs in
        let M = L ++ (Vr ++ (xs ++ zs)) in
        let mark = Rattle.mc_accepted.specs.Ordered.is_pruned (Q ++ vt) b (Some c) in
        let n = node (Apply op (at_inputs (inputs_of op) zs) (at_outputs (inputs_of op) zs)) changes d mark in
        let A = stream_of S.world.outcome R h (Apply op (at_inputs (inputs_of op) zs) (at_outputs (inputs_of op) zs)) e in
        let xa = pruned_to mark A in
        let tx : TypedAt S θ T xs b e = λ x z. ty x (picks_goal pk x z) in
        let tz = Sound.typed_fresh S D F R called lined T proper θ O Q xs zs (firsts tests) gs b e cl apt (Sound.fresh_split S T 0 is xs zs tests fr) tx in
        let lm : TypedAt S θ T M b e = λ x z. ⊎_elim (λ y. li x y) (λ y. ⊎_elim (λ k. ty x (picks_rest pk x k)) (λ k. ⊎_elim (λ l. tx x l) (λ l. tz x l) (in_either x xs zs k)) (in_either x Vr (xs ++ zs) y)) (in_either x L (Vr ++ (xs ++ zs)) z) in
        let pairs = Sound.fresh_pairs S T M 0 is xs zs tests (λ y z. in_right y L (Vr ++ (xs ++ zs)) (in_right y Vr (xs ++ zs) (in_left y xs zs z))) (λ y z. in_right y L (Vr ++ (xs ++ zs)) (in_right y Vr (xs ++ zs) (in_right y xs zs z))) fr in
        let types = Sound.fresh_types S T D F θ proper c q.0.0 0 is xs zs tests (S.world.source.preds p).types (map_types S T D F θ proper q.0.0 xs (S.world.source.preds p).types q.0.1) ts fr in
        let inp = Callings.inputs_there S D F θ T proper known L (inputs_of op) (modes_of op) zs zs (S.world.source.preds p).types q.0.0 b e (Callings.modes_fit S D F θ T proper known L op) us types tz in
        let sa : Sound S θ T known M vs e (Some c) (determined_in S T b known (Apply op (at_inputs (inputs_of op) zs) (at_outputs (inputs_of op) zs))) A =
        subst (λ k. Sound S θ T known M vs e (unless_never k c) (determined_in S T b known (Apply op (at_inputs (inputs_of op) zs) (at_outputs (inputs_of op) zs))) A) mo (Callings.apply_sound S D F θ T proper known M p op q.0.0 zs b c e bq types us i af tz lm) in
        let sp = Combine.pruned_sound S θ T known M vs e (Some c) (determined_in S T b known (Apply op (at_inputs (inputs_of op) zs) (at_outputs (inputs_of op) zs))) mark A sa in
        let K = L ++ within (free_in_all rest) vr in
        let Kp = K ++ TellFresh.pair_list tests in
        let klv : (x : ℕ) → In x K → In x L ⊎ In x Vr = λ x z. ⊎_elim (λ y. inl y) (λ y. inr (frees_in rest x (within_first (free_in_all rest) vr x y))) (in_either x L (within (free_in_all rest) vr) z) in
        let km : (x : ℕ) → In x K → In x M = λ x z. ⊎_elim (λ y. in_left x L (Vr ++ (xs ++ zs)) y) (λ y. in_right x L (Vr ++ (xs ++ zs)) (in_left x Vr (xs ++ zs) y)) (klv x z) in
        let kpm : (x : ℕ) → In x Kp → In x M = λ x z. ⊎_elim (λ y. km x y) (λ y. TellFresh.pairs_among M tests pairs x y) (in_either x K (TellFresh.pair_list tests) z) in
        let kpq : Among Kp (Q ++ vt) = λ x z. ⊎_elim (λ y. ⊎_elim (λ k. in_left x Q vt (w x k)) (λ k. in_right x Q vt (tests_in tests ns x (within_second (free_in_all rest) vr x k))) (in_either x L (within (free_in_all rest) vr) y)) (λ y. in_right x Q vt (TellFresh.pairs_tested tests ns x y)) (in_either x K (TellFresh.pair_list tests) z) in
        let away : (x : ℕ) → In x (firsts tests) → In x (O ++ (Q ++ variables_of_all gs)) → ⊥ = apt in
        let off : (x : ℕ) → In x K → In x (firsts tests) → ⊥ = λ x z y. away x y (⊎_elim (λ k. in_left x O (Q ++ variables_of_all gs) (u x k)) (λ k. in_right x O (Q ++ variables_of_all gs) (in_right x Q (variables_of_all gs) (picks_rest pk x k))) (klv x z)) in
        let none : (x : ℕ) → In x (firsts tests) → e x ≡ None = λ x z. ⊎_elim (λ y. absurd (away x z (⊎_elim (λ k. in_left x O (Q ++ variables_of_all gs) k) (λ k. in_right x O (Q ++ variables_of_all gs) (in_left x Q (variables_of_all gs) k)) y))) (λ y. y.1) (cl x) in
        let apart : (x : ℕ) → In x xs → In x (firsts tests) → ⊥ = λ x z y. away x y (in_right x O (Q ++ variables_of_all gs) (in_right x Q (variables_of_all gs) (picks_goal pk x z))) in
        let ta : Tells (λ x. In x zs) (λ s. X.yes p (map s zs)) (λ s. X.no p (map s zs)) false Kp e xa =
        prune_tells S θ T (λ x. In x zs) (λ s. X.yes p (map s zs)) (λ s. X.no p (map s zs)) false Kp (Q ++ vt) b (Some c) mark e A refl kpq (λ x z. lm x (kpm x z))
        (Lists.each_map (λ a. Grows e a × (BindsOnly vs e a × TypedAt S θ T M c a)) (λ a. Grows e a × TypedAt S θ T Kp c a) (λ a z. (z.0, λ x y. z.1.1 x (kpm x y))) A sa.each)
        (λ f k. record { yes = TellCalls.apply_yes S X says p op zs e bq inp.0 inp.1; no = λ s g l. TellCalls.apply_no S X says p op zs e bq inp.0 inp.1 f Kp s g l }) in
        let rest_of : Bindings → Items Bindings = λ a. stream_all S.world.outcome R h ns a in
        let tests_of : Bindings → Items Bindings = λ a. stream_all S.world.outcome R h (tested_by tests no_nodes) a in
        let U = bind xa tests_of in
        let tu : Tells (λ x. In x xs) (λ s. X.yes p (map s xs)) (λ s. X.no p (map s xs)) false K e U =
        TellFresh.fresh_tells S D F R called lined T proper θ h M c (λ ws. X.yes p ws) (λ ws. X.no p ws) 0 is xs zs tests fr di apart ts pairs e none vs xa sp.each K off ta in
        let su : Each (λ a. Grows e a × (BindsOnly vs e a × TypedAt S θ T M c a)) U =
        Lists.each_bind (λ a. Grows e a × (BindsOnly vs e a × TypedAt S θ T M c a)) (λ a. Grows e a × (BindsOnly vs e a × TypedAt S θ T M c a)) tests_of xa sp.each
        (λ a z. Lists.each_map (λ a'. Grows a a' × (BindsOnly [] a a' × TypedAt S θ T M c a')) (λ a'. Grows e a' × (BindsOnly vs e a' × TypedAt S θ T M c a'))
        (λ a' y. (Binds.extends_trans e a a' z.0 y.0, (Atoms.binds_then vs e a a' z.1.0 (Atoms.binds_more [] vs a a' (λ x k. absurd k) y.1.0), y.1.1))) (tests_of a) (TellFresh.tests_each S D F R called lined T proper θ h M c tests a ts pairs z.1.1)) in
        let vsz : (x : ℕ) → In x vs → In x zs = λ x y. ⊎_elim (λ k. Sound.in_inputs (inputs_of op) zs x k) (λ k. Sound.in_outputs (inputs_of op) zs x k) (in_either x (at_inputs (inputs_of op) zs) (at_outputs (inputs_of op) zs) y) in
        let Or = O ++ (xs ++ zs) in
        let Qr = Q ++ (xs ++ zs) in
        let clr : (a : Bindings) → BindsOnly vs e a → Closed Or Qr c a = λ a bo. Sound.closed_within Or (Q ++ vs) Qr c a (λ x z. ⊎_elim (λ y. in_left x Q (xs ++ zs) y) (λ y. in_right x Q (xs ++ zs) (in_right x xs zs (vsz x y))) (in_either x Q vs z)) (closed_after O Q (xs ++ zs) vs b c e a (apply_from S D F T op zs b c af) bo cl) in
        let ur : Among L Or = among_left L O (xs ++ zs) u in
        let tr : (a : Bindings) → TypedAt S θ T M c a → TypedAt S θ T Vr c a = λ a m x z. m x (in_right x L (Vr ++ (xs ++ zs)) (in_left x Vr (xs ++ zs) z)) in
        let tl : (a : Bindings) → TypedAt S θ T M c a → TypedAt S θ T L c a = λ a m x z. m x (in_left x L (Vr ++ (xs ++ zs)) z) in
        let sr : (a : Bindings) → BindsOnly vs e a → TypedAt S θ T M c a → Sound S θ T known L vr a o (determined_all S T c known ns) (rest_of a) = λ a bo m. Sound.sound_all S D F R called lined T proper θ t q.1 known h L ur a (clr a bo) (tr a m) (tl a m) in
        let after : insts_after n b ≡ c = fun_ext (λ x. sym (kc.0 x)) in
        let plr : AllPlaced S T c known one ns = tests_placed S T c known one tests ns (subst (λ z. AllPlaced S T z known one (tested_by tests ns)) after pl.1) in
        let scr : Scoped Or Qr Vr = λ x z y. ⊎_elim (λ k. in_left x O (xs ++ zs) (sc x (picks_rest pk x z) k)) (λ k. in_right x O (xs ++ zs) k) (in_either x Q (xs ++ zs) y) in
        let H = Shared (free_in_all gs) (vs ++ vt) in
        let whole = bind U rest_of in
        let same : whole ≡ stream_all S.world.outcome R h (node_then n (tested_by tests ns)) e =
        TellFresh.bind_bind xa tests_of rest_of ∙ ap (λ f. bind xa f) (fun_ext (λ a. sym (TellFresh.tests_assoc S.world.outcome R h tests ns a))) in
        subst (λ z. Tells H (FlatAllYes X gs) (FlatOneNo X gs) one L e z) same
        (TellLists.next_tells (λ x. In x xs) (Shared (free_in_all rest) vr) H (λ s. X.yes p (map s xs)) (λ s. X.no p (map s xs)) (FlatAllYes X rest) (FlatOneNo X rest) (FlatAllYes X gs) (FlatOneNo X gs) one false K L e (λ a. BindsOnly vs e a × TypedAt S θ T M c a) U rest_of
        (λ x z. (Scopes.picks_free pk x z, ⊎_elim (λ y. in_left x vs vt (apply_variables S D F T op zs b c af x y)) (λ y. in_right x vs vt (TellFresh.pairs_tested tests ns x (TellFresh.second_pair tests x y))) (TellFresh.given_split 0 is xs zs tests fr x z)))
        (λ x z. (Scopes.rest_free pk x z.0, in_right x vs vt (tests_in tests ns x z.1)))
        (λ x z. in_left x L (within (free_in_all rest) vr) z) (λ x z. in_right x L (within (free_in_all rest) vr) (within_both (free_in_all rest) vr x z.0 z.1))
        (λ x z. ⊎_elim (λ y. inl y) (λ y. inr (Scopes.rest_free pk x (within_first (free_in_all rest) vr x y), in_right x vs vt (tests_in tests ns x (within_second (free_in_all rest) vr x y)))) (in_either x L (within (free_in_all rest) vr) z))
        (λ s y z. picks_yes X pk s y z) (λ s f. picks_no X pk s f) (λ s f. rest_no X pk s f)
        su tu
        (λ a gr m. flat_each (λ k. Grows a k) (λ k. BindsOnly vr a k) (λ k. Reached S θ T L o k) (rest_of a) (sr a m.0 m.1).each)
        (λ s a ke gr m z. inl z)
        (λ a gr m. tells_all t q.1 scr known h one plr L ur (λ x z. in_left x Q (xs ++ zs) (w x z)) a (clr a m.0) (tr a m.1) (tl a m.1) (knows_more known e a gr kk)))

    pub tells_any : {O Q : List ℕ} {b : Insts} {gs : Flat_goals} {ns : Nodes} {os : List (Option Insts)} → OrderedAny S T O Q b gs ns os → TypedGoals S.world.source T gs → Scoped O Q (variables_of_all gs) → (known : Known) (h : ℕ) (one : Bool) → EachPlaced S T b known one ns →
        (L : List ℕ) → Among L O → Among L Q → (e : Bindings) → Closed O Q b e → TypedAt S θ T (variables_of_all gs) b e → TypedAt S θ T L b e → Knows known e →
        Tells (Shared (free_in_all gs) (variables_of_nodes ns)) (FlatOneYes X gs) (FlatAllNo X gs) one L e (stream_any S.world.outcome R h ns e)
    tells_any O.no_other tg sc known h one pl L u w e cl ty li kk = record { yes = tt; no = λ s g k. tt }
    tells_any (O.either {b = b} {g = g} {gs = gs} {n = n} {ns = ns} r t) tg sc known h one pl L u w e cl ty li kk =
        let vn = variables_of_node n in
        let vr = variables_of_nodes ns in
        let xs = stream S.world.outcome R h n e in
        let ys = stream_any S.world.outcome R h ns e in
        let H = Shared (free_in g ++ free_in_all gs) (vn ++ vr) in
        let f1 : (x : ℕ) → Shared (free_in g) vn x → H x = λ x i. (in_left x (free_in g) (free_in_all gs) i.0, in_left x vn vr i.1) in
        let f2 : (x : ℕ) → Shared (free_in_all gs) vr x → H x = λ x i. (in_right x (free_in g) (free_in_all gs) i.0, in_right x vn vr i.1) in
        let td = tells_node r tg.0 (λ x i k. sc x (in_left x (variables_of g) (variables_of_all gs) i) k) known h one pl.0 L u w e cl (λ x i. ty x (in_left x (variables_of g) (variables_of_all gs) i)) li kk in
        let tr = tells_any t tg.1 (λ x i k. sc x (in_right x (variables_of g) (variables_of_all gs) i) k) known h one pl.1 L u w e cl (λ x i. ty x (in_right x (variables_of g) (variables_of_all gs) i)) li kk in
        record {
          yes = Lists.each_append (λ a. (s : Assignment) → AgreesFor H a s → FlatYes X g s ⊎ FlatOneYes X gs s) (λ a. Unit {0}) xs ys
              (Lists.each_map (λ a. (s : Assignment) → AgreesFor (Shared (free_in g) vn) a s → FlatYes X g s) (λ a. (s : Assignment) → AgreesFor H a s → FlatYes X g s ⊎ FlatOneYes X gs s) (λ a f s q. inl (f s (λ x i. q x (f1 x i)))) xs td.yes)
              (Lists.each_map (λ a. (s : Assignment) → AgreesFor (Shared (free_in_all gs) vr) a s → FlatOneYes X gs s) (λ a. (s : Assignment) → AgreesFor H a s → FlatYes X g s ⊎ FlatOneYes X gs s) (λ a f s q. inr (f s (λ x i. q x (f2 x i)))) ys tr.yes);
          no = λ s q k. Lists.covers_append (Hit one L s) (FlatNo X g s) (FlatAllNo X gs s) xs ys (td.no s (λ x i. q x (f1 x i)) k) (tr.no s (λ x i. q x (f2 x i)) k);
        }

    pub tells_arms : {O Q : List ℕ} {b : Insts} {x : ℕ} {gs : Flat_goals} {arms : Arms} {os : List (Option Insts)} → OrderedArms S T O Q b x gs arms os → TypedGoals S.world.source T gs → Scoped O Q (variables_of_all gs) → (known : Known) (h : ℕ) (one : Bool) → ArmsPlaced S T b known one x arms →
        (L : List ℕ) → Among L O → Among L Q → (e : Bindings) → Closed O Q b e → TypedAt S θ T (variables_of_all gs) b e → TypedAt S θ T L b e → Knows known e → In x O → (v : Val) → e x ≡ Some v →
        ArmsTell (Shared (free_in_all gs) (variables_of_arms arms)) (FlatOneYes X gs) (FlatAllNo X gs) one L e x v (stream_arms S.world.outcome R h arms e)
    tells_arms O.no_arm tg sc known h one pl L u w e cl ty li kk io v q = record { yes = tt; no = λ s z g k. tt }
    tells_arms (O.arm {b = b} {x = x} {gs = gs} {hs = hs} {ks = ks} {l = l} {n = n} {arms = arms} {o = o} p il op ab r t) tg sc known h one pl L u w e cl ty li kk io v q =
        let z = parts_typed S.world.source T p tg in
        let vn = variables_of_node n in
        let va = variables_of_arms arms in
        let xs = stream S.world.outcome R h n e in
        let ys = stream_arms S.world.outcome R h arms e in
        let g = arm_goal hs in
        let into : (y : ℕ) → In y (variables_of g) → In y (variables_of_all gs) = λ y i. Sound.parts_some p y (arm_variables hs y i) in
        let tg' = arm_typed S.world.source T hs z.0 in
        let ty' : TypedAt S θ T (variables_of g) b e = λ y i. ty y (into y i) in
        let ar = tells_arms t z.1 (λ y i k. sc y (Sound.parts_others p y i) k) known h one pl.1 L u w e cl (λ y i. ty y (Sound.parts_others p y i)) li kk io v q in
        arms_tell X (Shared (free_in g) vn) (Shared (free_in_all ks) va) (Shared (free_in_all gs) (vn ++ va)) one L e x v p
        (λ y i. (Scopes.some_free p y (Scopes.arm_free hs y i.0), in_left y vn va i.1)) (λ y i. (Scopes.others_free p y i.0, in_right y vn va i.1)) xs ys
        (⊎_elim
        (λ f. let k = tells_node r tg' (λ y i k. sc y (into y i) k) (learned x l known) h one pl.0 L u w e cl ty' li (knows_learned known e x l v q f kk) in record { yes = k.yes; no = λ s y g a. k.no s g a })
        (λ f. record {
          yes = Lists.each_map (λ a. ⊥) (λ a. (s : Assignment) → AgreesFor (Shared (free_in g) vn) a s → FlatYes X g s) (λ a y. absurd y) xs
              (Lists.each_none (λ a. Grows e a × (BindsOnly vn e a × Reached S θ T L o a)) xs (opens_none S.world.outcome R h n x l op e v q f) (Sound.sound_node S D F R called lined T proper θ r tg' (learned x l known) h L u e cl ty' li).each);
          no = λ s y g a. Lists.covers_sure (Hit one L s) (FlatNo X (arm_goal hs) s) (node_no S T X r x l op io v f s y) xs;
        })
        (label_cases l v))
        ar
