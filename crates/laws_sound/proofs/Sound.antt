-- The first pass: no run is stuck, bindings are those of the insts, answers obey determinism, calls have their inputs.
use Rattle.std.proofs.Common.{◌≡◌, ◌⊎◌, inl, inr, ℕ, suc, ◌<◌, ◌≤◌, List, [], ◌∷◌, ◌++◌, map, length, Bool, true, false, cond, nat_eq, ◌||◌, Option, Some, None, refl, sym, ap, ◌∙◌, subst, arith, ⊎_elim}
use Rattle.std.specs.List.{list_all}
use Rattle.std.proofs.lemmas.Bool.{eqb-true, or_parts, cases_eq, cases_Bool, not-false}
use Rattle.mc_program.specs.Values.{Val, int, char, str, con, state, Vals, same_value}
use Rattle.mc_program.specs.Programs.{TypeTerm, int_type, char_type, string_type, state_type, variable_type, union_type, Source}
use Rattle.mc_model.specs.Types.{instance_of}
use Rattle.mc_model.specs.Flat.{Flat_goal, Flat_goals, no_flat, flat_then, variables_of, variables_of_all, free_in, free_in_all}
use Rattle.mc_model.specs.Lists.{is_in, without, In, Among, Apart}
use Rattle.mc_model.specs.EventList.{Items, End, Answer, append, Each, EachCall, AtMost, answers, Succeeds}
use Rattle.mc_model.specs.Stream.{Bindings, Calls, is_bound, stream, stream_of, stream_all, stream_any, stream_arms}
use Rattle.mc_model.specs.Outcomes.{inputs_of}
use Rattle.mc_model.specs.Scheduled.{Label, for_symbol, for_constant, Node, node, Scheduled, Switch, Test, Apply, Nodes, Arms, no_arms, arm_then}
use Rattle.mc_source.specs.Determinism.{Determinism, det, greater, inferred, semidet}
use Rattle.mc_accepted.specs.Ordered.{Insts, IsLabel, AbsentFrom, Picks, here, there, Parts, no_part, to_part, to_rest, arm_goal, modes_of, implied_places, at_inputs, at_outputs, Freshened, FreshenedHere, TestsInOrder, firsts, tested_by, unless_never, Ordered, OrderedNode, OrderedAll, OrderedAny, OrderedArms, variables_of_node, variables_of_scheduled, variables_of_nodes, variables_of_arms}
use Rattle.mc_accepted.specs.Determined.{Known, learned, insts_after, allowed_of, allowed_in, has_arm, misses, determined, determined_in, determined_all, determined_any, determined_arms}
use Rattle.mc_accepted.specs.Typing.{TypedGoal, TypedGoals}
use Rattle.mc_model.specs.Good.{System, TypeChoice, BoundAs, GivenCall, types_of}
use Rattle.mc_accepted.specs.ProperTypes.{Parameters, ProperType}
use Rattle.mc_accepted.specs.Fits.{Fits}
use Rattle.laws_sound.specs.code.Passes.{Grows, BindsOnly, Closed, HasLabel, Knows, TypedAt, Reached, Sound, CallsSound}
use Rattle.mc_model.specs.Flat as G
use Rattle.mc_accepted.specs.Ordered as O
use Rattle.mc_source.specs.declared.det.Most.{Most}
use Rattle.mc_source.specs.declared.det.Most.TheVariants.{Zero, One, Many}
use Rattle.laws_sound.proofs.Arguments
use Rattle.laws_sound.proofs.Atoms
use Rattle.laws_sound.proofs.Binds
use Rattle.laws_sound.proofs.Binds.{none_some, true_not_false}
use Rattle.laws_sound.proofs.CallLists
use Rattle.laws_sound.proofs.Callings
use Rattle.laws_sound.proofs.Changes
use Rattle.laws_sound.proofs.Changes.{node_after, closed_after, closed_more, tests_in, node_from, apply_from}
use Rattle.laws_sound.proofs.Combine
use Rattle.laws_sound.proofs.Combine.{among_both, among_left, among_two, greater_either}
use Rattle.laws_language.proofs.Equality.{value_same, same_of}
use Rattle.laws_sound.proofs.Lists
use Rattle.laws_sound.proofs.Opens.{opens_none}
use Rattle.laws_sound.proofs.Takes
use Rattle.laws_sound.proofs.TypeInstances.{also_instance}
use Rattle.laws_sound.proofs.Typed
use Rattle.laws_sound.proofs.Typed.{Is}
use Rattle.laws_language.proofs.FlatGoals.{in_either, in_left, in_right}
use Rattle.laws_language.proofs.ClauseNumbers.{from_without}
use Rattle.laws_sound.proofs.Takes.{con_symbol}

-- parts of goals
pub picks_goal : {gs rest : Flat_goals} {g : Flat_goal} → Picks gs g rest → (x : ℕ) → In x (variables_of g) → In x (variables_of_all gs)
picks_goal (here {g = g} {gs = gs}) x i = in_left x (variables_of g) (variables_of_all gs) i
picks_goal (there {k = k} {gs = gs} p) x i = in_right x (variables_of k) (variables_of_all gs) (picks_goal p x i)

pub picks_rest : {gs rest : Flat_goals} {g : Flat_goal} → Picks gs g rest → (x : ℕ) → In x (variables_of_all rest) → In x (variables_of_all gs)
picks_rest (here {g = g} {gs = gs}) x i = in_right x (variables_of g) (variables_of_all gs) i
picks_rest (there {k = k} {gs = gs} {rest = rest} p) x i = ⊎_elim (λ j. in_left x (variables_of k) (variables_of_all gs) j) (λ j. in_right x (variables_of k) (variables_of_all gs) (picks_rest p x j)) (in_either x (variables_of k) (variables_of_all rest) i)

pub parts_some : {gs hs ks : Flat_goals} → Parts gs hs ks → (x : ℕ) → In x (variables_of_all hs) → In x (variables_of_all gs)
parts_some no_part x i = i
parts_some (to_part {g = g} {gs = gs} {hs = hs} p) x i = ⊎_elim (λ j. in_left x (variables_of g) (variables_of_all gs) j) (λ j. in_right x (variables_of g) (variables_of_all gs) (parts_some p x j)) (in_either x (variables_of g) (variables_of_all hs) i)
parts_some (to_rest {g = g} {gs = gs} p) x i = in_right x (variables_of g) (variables_of_all gs) (parts_some p x i)

pub parts_others : {gs hs ks : Flat_goals} → Parts gs hs ks → (x : ℕ) → In x (variables_of_all ks) → In x (variables_of_all gs)
parts_others no_part x i = i
parts_others (to_part {g = g} {gs = gs} p) x i = in_right x (variables_of g) (variables_of_all gs) (parts_others p x i)
parts_others (to_rest {g = g} {gs = gs} {ks = ks} p) x i = ⊎_elim (λ j. in_left x (variables_of g) (variables_of_all gs) j) (λ j. in_right x (variables_of g) (variables_of_all gs) (parts_others p x j)) (in_either x (variables_of g) (variables_of_all ks) i)

pub arm_variables : (hs : Flat_goals) (x : ℕ) → In x (variables_of (arm_goal hs)) → In x (variables_of_all hs)
arm_variables no_flat x i = i
arm_variables (flat_then g no_flat) x i = in_left x (variables_of g) [] i
arm_variables (flat_then g (flat_then k hs)) x i = i

-- free variables are variables
mutual
  pub free_in_goal : (g : Flat_goal) (x : ℕ) → In x (free_in g) → In x (variables_of g)
  free_in_goal (G.Same y z) x i = i
  free_in_goal (G.Made y s ys) x i = i
  free_in_goal (G.Is y v) x i = i
  free_in_goal (G.Call p ys) x i = i
  free_in_goal (G.And gs) x i = frees_in gs x i
  free_in_goal (G.Or gs) x i = frees_in gs x i
  free_in_goal (G.If vs c t e) x i =
      in_right x vs (variables_of c ++ (variables_of t ++ variables_of e))
      (⊎_elim
      (λ j. ⊎_elim (λ k. in_left x (variables_of c) (variables_of t ++ variables_of e) (free_in_goal c x k)) (λ k. in_right x (variables_of c) (variables_of t ++ variables_of e) (in_left x (variables_of t) (variables_of e) (free_in_goal t x k))) (in_either x (free_in c) (free_in t) (from_without x (free_in c ++ free_in t) vs j)))
      (λ j. in_right x (variables_of c) (variables_of t ++ variables_of e) (in_right x (variables_of t) (variables_of e) (free_in_goal e x j)))
      (in_either x (without (free_in c ++ free_in t) vs) (free_in e) i))
  free_in_goal (G.Not g) x i = free_in_goal g x i
  free_in_goal (G.Exists vs g) x i = in_right x vs (variables_of g) (free_in_goal g x (from_without x (free_in g) vs i))

  pub frees_in : (gs : Flat_goals) (x : ℕ) → In x (free_in_all gs) → In x (variables_of_all gs)
  frees_in no_flat x i = i
  frees_in (flat_then g gs) x i = ⊎_elim (λ j. in_left x (variables_of g) (variables_of_all gs) (free_in_goal g x j)) (λ j. in_right x (variables_of g) (variables_of_all gs) (frees_in gs x j)) (in_either x (free_in g) (free_in_all gs) i)

module _ (P : Source) (T : ℕ → TypeTerm) where
  pub picks_typed : {gs rest : Flat_goals} {g : Flat_goal} → Picks gs g rest → TypedGoals P T gs → TypedGoal P T g × TypedGoals P T rest
  picks_typed here h = (h.0, h.1)
  picks_typed (there p) h = let r = picks_typed p h.1 in (r.0, (h.0, r.1))

  pub parts_typed : {gs hs ks : Flat_goals} → Parts gs hs ks → TypedGoals P T gs → TypedGoals P T hs × TypedGoals P T ks
  parts_typed no_part h = (tt, tt)
  parts_typed (to_part p) h = let r = parts_typed p h.1 in ((h.0, r.0), r.1)
  parts_typed (to_rest p) h = let r = parts_typed p h.1 in (r.0, (h.0, r.1))

  pub arm_typed : (hs : Flat_goals) → TypedGoals P T hs → TypedGoal P T (arm_goal hs)
  arm_typed no_flat h = h
  arm_typed (flat_then g no_flat) h = h.0
  arm_typed (flat_then g (flat_then k hs)) h = h

-- known labels
learn_on : (t : Bool) (l j : Label) (k : Option Label) (X : Type 0) → (t ≡ true → l ≡ j → X) → (k ≡ Some j → X) → cond t (Some l) k ≡ Some j → X
learn_on true l j k X f g e = f refl (some_label l j e)
  where
    some_label : (l j : Label) → Some l ≡ Some j → l ≡ j
    some_label l j e = cc
learn_on false l j k X f g e = g e

pub knows_learned : (known : Known) (e : Bindings) (x : ℕ) (l : Label) (v : Val) → e x ≡ Some v → HasLabel l v → Knows known e → Knows (learned x l known) e
knows_learned known e x l v q h k y j r =
    learn_on (nat_eq y x) l j (known y) ((w : Val) × (e y ≡ Some w) × HasLabel j w) (λ t p. (v, ap e (eqb-true y x t) ∙ q, subst (λ z. HasLabel z v) p h)) (λ p. k y j p) r

pub label_cases : (l : Label) (v : Val) → HasLabel l v ⊎ (HasLabel l v → ⊥)
label_cases (for_symbol s) (int n) = inr (λ h. no n s h.0 h.1)
  where
    no : (n : Rattle.std.specs.Prelude.ℤ) (s : ℕ) (vs : Vals) → int n ≡ con s vs → ⊥
    no n s vs e = cc
label_cases (for_symbol s) (char n) = inr (λ h. no n s h.0 h.1)
  where
    no : (n s : ℕ) (vs : Vals) → char n ≡ con s vs → ⊥
    no n s vs e = cc
label_cases (for_symbol s) (str n) = inr (λ h. no n s h.0 h.1)
  where
    no : (n : List ℕ) (s : ℕ) (vs : Vals) → str n ≡ con s vs → ⊥
    no n s vs e = cc
label_cases (for_symbol s) (state n k) = inr (λ h. no n k s h.0 h.1)
  where
    no : (n : List ℕ) (k s : ℕ) (vs : Vals) → state n k ≡ con s vs → ⊥
    no n k s vs e = cc
label_cases (for_symbol s) (con g vs) = ⊎_elim (λ e. inl (vs, ap (λ k. con k vs) e)) (λ n. inr (λ h. n (con_symbol g s vs h.0 h.1))) (cases_eq g s)
label_cases (for_constant w) v = ⊎_elim (λ e. inl (value_same v w e)) (λ e. inr (λ q. true_not_false (sym (same_of v w q) ∙ e))) (cases_Bool (same_value v w))

not_label : (w : Val) (s : ℕ) (vs : Vals) → IsLabel (for_constant w) → w ≡ con s vs → ⊥
not_label w s vs i q = subst (λ k. IsLabel (for_constant k)) q i

pub label_unique : (l k : Label) (v : Val) → IsLabel l → IsLabel k → HasLabel l v → HasLabel k v → l ≡ k
label_unique (for_symbol s) (for_symbol t) v i j h g = ap for_symbol (con_symbol s t h.0 g.0 (sym h.1 ∙ g.1))
label_unique (for_symbol s) (for_constant w) v i j h g = absurd (not_label w s h.0 j (sym g ∙ h.1))
label_unique (for_constant w) (for_symbol t) v i j h g = absurd (not_label w t g.0 i (sym h ∙ g.1))
label_unique (for_constant w) (for_constant u) v i j h g = ap for_constant (sym h ∙ g)

-- an arm has the value's label
abbrev pub Armed : Val → Arms → Type 0
Armed v no_arms = ⊥
Armed v (arm_then l n arms) = HasLabel l v ⊎ Armed v arms

-- arms of a switch, at bindings where its variable has the value v
pub record ArmsSound (S : System) (θ : TypeChoice) (T : ℕ → TypeTerm) (known : Known) (L vs : List ℕ) (e : Bindings) (o : Option Insts) (d : Determinism) (arms : Arms) (v : Val) (xs : Items Bindings) : Type 0 where
  pub each : Each (λ a. Grows e a × (BindsOnly vs e a × Reached S θ T L o a)) xs
  pub calls : EachCall (GivenCall S) xs
  pub count : Knows known e → AtMost d.most xs
  pub sure : Knows known e → d.can_fail ≡ false → Armed v arms → Succeeds xs

fewer : (m : Most) (xs ys : Items Bindings) → answers ys ≤ answers xs → AtMost m xs → AtMost m ys
fewer Zero xs ys l h = omega arith
fewer One xs ys l h = omega arith
fewer Many xs ys l h = tt

arm_sound : (S : System) (θ : TypeChoice) (T : ℕ → TypeTerm) (known : Known) (L vs : List ℕ) (e : Bindings) (o : Option Insts) (x : ℕ) (l : Label) (d d' : Determinism) (n : Node) (arms : Arms) (v : Val) (xs ys : Items Bindings) → e x ≡ Some v → ((HasLabel l v → ⊥) → answers xs ≡ 0) → (HasLabel l v → answers ys ≡ 0) →
    Sound S θ T (learned x l known) L vs e o d xs → ArmsSound S θ T known L vs e o d' arms v ys → ArmsSound S θ T known L vs e o (record { can_fail = d.can_fail || d'.can_fail; most = greater d.most d'.most }) (arm_then l n arms) v (append xs ys)
arm_sound S θ T known L vs e o x l d d' n arms v xs ys q none rest a b =
    record {
      each = Lists.each_append (λ a. Grows e a × (BindsOnly vs e a × Reached S θ T L o a)) (λ a. Grows e a × (BindsOnly vs e a × Reached S θ T L o a)) xs ys a.each b.each;
      calls = CallLists.calls_append (GivenCall S) xs ys a.calls b.calls;
      count = λ k. subst (λ m. AtMost m (append xs ys)) (sym (greater_either d.most d'.most)) (⊎_elim
          (λ z. Lists.at_most_left d.most d'.most (append xs ys) (fewer d.most xs (append xs ys) (omega (arith, Lists.answers-append xs ys, rest z)) (a.count (knows_learned known e x l v q z k))))
          (λ z. Lists.at_most_right d.most d'.most (append xs ys) (fewer d'.most ys (append xs ys) (omega (arith, Lists.answers-append xs ys, none z)) (b.count k)))
          (label_cases l v));
      sure = λ k z i.
          let p = or_parts d.can_fail d'.can_fail z in
          ⊎_elim (λ t. Lists.succeeds_append_left xs ys (a.sure (knows_learned known e x l v q t k) p.0)) (λ t. Lists.succeeds_append_right xs ys (b.sure k p.1 t)) i;
    }

pub cons_front : (t u : TypeTerm) (ts us : List TypeTerm) → t ∷ ts ≡ u ∷ us → t ≡ u
cons_front t u ts us e = cc

pub cons_rest : (t u : TypeTerm) (ts us : List TypeTerm) → t ∷ ts ≡ u ∷ us → ts ≡ us
cons_rest t u ts us e = cc

pub in_inputs : (bs : List Bool) (xs : List ℕ) (z : ℕ) → In z (at_inputs bs xs) → In z xs
in_inputs [] xs z i = absurd i
in_inputs (b ∷ bs) [] z i = absurd i
in_inputs (true ∷ bs) (x ∷ xs) z i = ⊎_elim (λ q. inl q) (λ j. inr (in_inputs bs xs z j)) i
in_inputs (false ∷ bs) (x ∷ xs) z i = inr (in_inputs bs xs z i)

pub in_outputs : (bs : List Bool) (xs : List ℕ) (z : ℕ) → In z (at_outputs bs xs) → In z xs
in_outputs [] xs z i = absurd i
in_outputs (b ∷ bs) [] z i = absurd i
in_outputs (true ∷ bs) (x ∷ xs) z i = inr (in_outputs bs xs z i)
in_outputs (false ∷ bs) (x ∷ xs) z i = ⊎_elim (λ q. inl q) (λ j. inr (in_outputs bs xs z j)) i

-- fresh variables and their tests
abbrev pub PairsIn : List ℕ → List (ℕ × ℕ) → Type 0
PairsIn M [] = Unit {0}
PairsIn M (t ∷ ts) = In t.0 M × In t.1 M × PairsIn M ts

module _ (S : System) (T : ℕ → TypeTerm) where
  fresh_here : (M : List ℕ) (b : Bool) (x z : ℕ) (tests : List (ℕ × ℕ)) (Q : List (ℕ × ℕ) → Type 0) → In x M → In z M → ((ts : List (ℕ × ℕ)) → Q ts → PairsIn M ts) → FreshenedHere b x z tests Q → PairsIn M tests
  fresh_here M false x z tests Q i j f h = f tests h.1
  fresh_here M true x z [] Q i j f h = absurd h
  fresh_here M true x z (t ∷ ts) Q i j f h = (subst (λ k. In k.0 M) (sym h.0) j, subst (λ k. In k.1 M) (sym h.0) i, f ts h.1)

  pub fresh_pairs : (M : List ℕ) (k : ℕ) (is xs zs : List ℕ) (tests : List (ℕ × ℕ)) → ((y : ℕ) → In y xs → In y M) → ((y : ℕ) → In y zs → In y M) → Freshened k is xs zs tests → PairsIn M tests
  fresh_pairs M k is [] [] tests f g h = subst (λ ts. PairsIn M ts) (sym h) tt
  fresh_pairs M k is [] (z ∷ zs) tests f g h = absurd h
  fresh_pairs M k is (x ∷ xs) [] tests f g h = absurd h
  fresh_pairs M k is (x ∷ xs) (z ∷ zs) tests f g h =
      fresh_here M (is_in k is) x z tests (Freshened (suc k) is xs zs) (f x (inl refl)) (g z (inl refl)) (λ ts q. fresh_pairs M (suc k) is xs zs ts (λ y i. f y (inr i)) (λ y i. g y (inr i)) q) h

  split_here : (X : Type 0) (b : Bool) (x z : ℕ) (tests : List (ℕ × ℕ)) (Q : List (ℕ × ℕ) → Type 0) (xs zs : List ℕ) (y : ℕ) → ((ts : List (ℕ × ℕ)) → Q ts → In y zs → In y xs ⊎ In y (firsts ts)) → FreshenedHere b x z tests Q → In y (z ∷ zs) → In y (x ∷ xs) ⊎ In y (firsts tests)
  split_here X false x z tests Q xs zs y f h i = ⊎_elim (λ q. inl (inl (q ∙ h.0))) (λ j. ⊎_elim (λ k. inl (inr k)) (λ k. inr k) (f tests h.1 j)) i
  split_here X true x z [] Q xs zs y f h i = absurd h
  split_here X true x z (t ∷ ts) Q xs zs y f h i = ⊎_elim (λ q. inr (inl (q ∙ sym (ap (λ u. u.0) h.0)))) (λ j. ⊎_elim (λ k. inl (inr k)) (λ k. inr (inr k)) (f ts h.1 j)) i

  -- a variable of the freshened arguments is an argument, or fresh
  pub fresh_split : (k : ℕ) (is xs zs : List ℕ) (tests : List (ℕ × ℕ)) → Freshened k is xs zs tests → (y : ℕ) → In y zs → In y xs ⊎ In y (firsts tests)
  fresh_split k is [] [] tests h y i = absurd i
  fresh_split k is [] (z ∷ zs) tests h y i = absurd h
  fresh_split k is (x ∷ xs) [] tests h y i = absurd h
  fresh_split k is (x ∷ xs) (z ∷ zs) tests h y i = split_here (Unit {0}) (is_in k is) x z tests (Freshened (suc k) is xs zs) xs zs y (λ ts q j. fresh_split (suc k) is xs zs ts q y j) h i

  type_here : (c : Insts) (b : Bool) (x z : ℕ) (tests : List (ℕ × ℕ)) (Q : List (ℕ × ℕ) → Type 0) (X : Type 0) → TestsInOrder S T tests c → ((ts : List (ℕ × ℕ)) → TestsInOrder S T ts c → T z ≡ T x → Q ts → X) → FreshenedHere b x z tests Q → X
  type_here c false x z tests Q X o f h = f tests o (ap T h.0) h.1
  type_here c true x z [] Q X o f h = absurd h
  type_here c true x z (t ∷ ts) Q X o f h = f ts o.3 (subst (λ k. T k.0 ≡ T k.1) h.0 o.0) h.1

  module _ (D : Parameters) (F : Fits S D) (θ : TypeChoice) (proper : (x : ℕ) → ProperType D (T x)) where
    pub fresh_types : (c : Insts) (σ : ℕ → TypeTerm) (k : ℕ) (is xs zs : List ℕ) (tests : List (ℕ × ℕ)) (ts : List TypeTerm) → Arguments.TypesAt S D F θ T proper σ xs ts → TestsInOrder S T tests c → Freshened k is xs zs tests → Arguments.TypesAt S D F θ T proper σ zs ts
    fresh_types c σ k is [] [] tests [] y o h = tt
    fresh_types c σ k is [] [] tests (u ∷ ts) y o h = absurd y
    fresh_types c σ k is [] (z ∷ zs) tests ts y o h = absurd h
    fresh_types c σ k is (x ∷ xs) [] tests ts y o h = absurd h
    fresh_types c σ k is (x ∷ xs) (z ∷ zs) tests [] y o h = absurd y
    fresh_types c σ k is (x ∷ xs) (z ∷ zs) tests (u ∷ ts) y o h =
        type_here c (is_in k is) x z tests (Freshened (suc k) is xs zs) (Arguments.TypesAt S D F θ T proper σ (z ∷ zs) (u ∷ ts)) o (λ js p e q. (e ∙ y.0, fresh_types c σ (suc k) is xs zs js ts y.1 p q)) h

    pub map_types : (σ : ℕ → TypeTerm) (xs : List ℕ) (ts : List TypeTerm) → map T xs ≡ map (instance_of σ) ts → Arguments.TypesAt S D F θ T proper σ xs ts
    map_types σ [] [] e = tt
    map_types σ [] (t ∷ ts) e = absurd (no (instance_of σ t) (map (instance_of σ) ts) e)
      where
        no : (t : TypeTerm) (ts : List TypeTerm) → [] ≡ t ∷ ts → ⊥
        no t ts e = cc
    map_types σ (x ∷ xs) [] e = absurd (no (T x) (map T xs) e)
      where
        no : (t : TypeTerm) (ts : List TypeTerm) → t ∷ ts ≡ [] → ⊥
        no t ts e = cc
    map_types σ (x ∷ xs) (t ∷ ts) e = (cons_front (T x) (instance_of σ t) (map T xs) (map (instance_of σ) ts) e, map_types σ xs ts (cons_rest (T x) (instance_of σ t) (map T xs) (map (instance_of σ) ts) e))

    -- a switch that misses no symbol has an arm for the value
    has_armed : (g : ℕ) (vs : Vals) (arms : Arms) → has_arm S T g arms ≡ true → Armed (con g vs) arms
    has_armed g vs no_arms h = absurd (true_not_false (sym h))
    has_armed g vs (arm_then (for_symbol f) n arms) h = on (nat_eq f g) refl h (λ z. has_armed g vs arms z)
      where
        on : (t : Bool) → nat_eq f g ≡ t → (t || has_arm S T g arms) ≡ true → (has_arm S T g arms ≡ true → Armed (con g vs) arms) → HasLabel (for_symbol f) (con g vs) ⊎ Armed (con g vs) arms
        on true e h k = inl (vs, ap (λ k. con k vs) (sym (eqb-true f g e)))
        on false e h k = inr (k h)
    has_armed g vs (arm_then (for_constant w) n arms) h = inr (has_armed g vs arms h)

    none_missed : (t : TypeTerm) (i : ℕ) (arms : Arms) (v : Val) → ProperType D t → BoundAs S θ i t (Some v) → misses S T (allowed_in S T t i) arms ≡ false → Armed v arms
    none_missed int_type i arms v p h m = absurd (true_not_false m)
    none_missed char_type i arms v p h m = absurd (true_not_false m)
    none_missed string_type i arms v p h m = absurd (true_not_false m)
    none_missed state_type i arms v p h m = absurd (true_not_false m)
    none_missed (variable_type w) i arms v p h m = absurd (true_not_false m)
    none_missed (union_type u ts) i arms v p h m =
        let r = Takes.allowed_con S D F θ T proper u ts i v p h.1 h.2 in
        subst (λ k. Armed k arms) (sym r.2) (has_armed r.0 r.1 arms (Takes.all_pass (λ s. has_arm S T s arms) (allowed_of S T i (S.world.source.symbols_of u)) r.0 (not-false (list_all (λ s. has_arm S T s arms) (allowed_of S T i (S.world.source.symbols_of u))) m) r.3))

-- bindings that are the same where nothing was bound
pub closed_same : (O Q : List ℕ) (c : Insts) (a a' : Bindings) → BindsOnly [] a a' → Closed O Q c a → Closed O Q c a'
closed_same O Q c a a' f h x = ⊎_elim (λ i. inl i) (λ n. inr (n.0, Changes.none_on (a' x) (Unit {0}) (λ v q. ⊎_elim (λ z. none_some (a x) v n.1 z) (λ z. absurd z) (f x v q)))) (h x)

pub closed_within : (O Q R : List ℕ) (c : Insts) (a : Bindings) → ((x : ℕ) → In x Q → In x R) → Closed O Q c a → Closed O R c a
closed_within O Q R c a f h x = ⊎_elim (λ i. inl (⊎_elim (λ j. inl j) (λ j. inr (f x j)) i)) (λ n. inr n) (h x)

free_bound : (S : System) (θ : TypeChoice) (i : ℕ) (t : TypeTerm) (o : Option Val) → i ≡ 0 → o ≡ None → BoundAs S θ i t o
free_bound S θ i t o e n = subst (λ k. BoundAs S θ i t k) (sym n) e

module _ (S : System) (D : Parameters) (F : Fits S D) (C : Calls) (called : CallsSound S C) (lined : (k : ℕ) → k < S.count → length (S.procs k).first ≡ length (S.procs k).last) (T : ℕ → TypeTerm) (proper : (x : ℕ) → ProperType D (T x)) (θ : TypeChoice) where
  pub typed_in : (xs ys : List ℕ) (b : Insts) (e : Bindings) → ((x : ℕ) → In x xs → In x ys) → TypedAt S θ T ys b e → TypedAt S θ T xs b e
  typed_in xs ys b e f h x i = h x (f x i)

  pub typed_both : (xs ys : List ℕ) (b : Insts) (e : Bindings) → TypedAt S θ T xs b e → TypedAt S θ T ys b e → TypedAt S θ T (xs ++ ys) b e
  typed_both xs ys b e h k x i = ⊎_elim (λ j. h x j) (λ j. k x j) (in_either x xs ys i)

  pub typed_fresh : (O Q xs zs fr : List ℕ) (gs : Flat_goals) (b : Insts) (e : Bindings) → Closed O Q b e → Apart fr (O ++ (Q ++ variables_of_all gs)) → ((z : ℕ) → In z zs → In z xs ⊎ In z fr) → TypedAt S θ T xs b e → TypedAt S θ T zs b e
  typed_fresh O Q xs zs fr gs b e c ap f h z i =
      ⊎_elim (λ j. h z j)
      (λ n. ⊎_elim
      (λ j. absurd (ap z n (⊎_elim (λ k. in_left z O (Q ++ variables_of_all gs) k) (λ k. in_right z O (Q ++ variables_of_all gs) (in_left z Q (variables_of_all gs) k)) j)))
      (λ j. free_bound S θ (b z) (T z) (e z) j.0 j.1) (c z)) (f z i)

  -- tests directly after a builtin
  pub tests_sound : (known : Known) (h : ℕ) (M L W : List ℕ) (c : Insts) (o : Option Insts) (ns : Nodes) (tests : List (ℕ × ℕ)) → ((x : ℕ) → In x L → In x M) → TestsInOrder S T tests c → PairsIn M tests → (a : Bindings) → TypedAt S θ T M c a →
      ((a' : Bindings) → BindsOnly [] a a' → TypedAt S θ T M c a' → Sound S θ T known L W a' o (determined_all S T c known ns) (stream_all S.world.outcome C h ns a')) →
      Sound S θ T known L W a o (determined_all S T c known (tested_by tests ns)) (stream_all S.world.outcome C h (tested_by tests ns) a)
  tests_sound known h M L W c o ns [] u q p a m k = k a (Atoms.binds_none [] a) m
  tests_sound known h M L W c o ns (t ∷ ts) u q p a m k =
      Combine.bind_sound S θ T known M L [] W (λ x i. absurd i) a (Some c) o (determined S T c known (node (Test t.0 t.1) [] (inferred semidet) true)) (determined_all S T c known (tested_by ts ns))
      (stream S.world.outcome C h (node (Test t.0 t.1) [] (inferred semidet) true) a) (λ a'. stream_all S.world.outcome C h (tested_by ts ns) a')
      (Combine.pruned_sound S θ T known M [] a (Some c) semidet true (stream_of S.world.outcome C h (Test t.0 t.1) a)
      (Atoms.test_sound S D F θ T proper known M [] c a t.0 t.1 q.1 q.2 (λ x i. ⊎_elim (λ e. subst (λ z. BoundAs S θ (c z) (T z) (a z)) (sym e) (m t.0 p.0)) (λ j. ⊎_elim (λ e. subst (λ z. BoundAs S θ (c z) (T z) (a z)) (sym e) (m t.1 p.1)) (λ z. absurd z) j) i) m))
      (λ a' g b r. tests_sound known h M L W c o ns ts u q.3 p.2 a' r (λ a'' b' m'. k a'' (Atoms.binds_then [] a a' a'' b b') m'))

  mutual
    pub sound : {O Q : List ℕ} {b : Insts} {g : Flat_goal} {s : Scheduled} {o : Option Insts} → Ordered S T O Q b g s o → TypedGoal S.world.source T g → (known : Known) (h : ℕ) (L : List ℕ) → Among L O → (e : Bindings) → Closed O Q b e → TypedAt S θ T (variables_of g) b e → TypedAt S θ T L b e →
        Sound S θ T known L (variables_of_scheduled s) e o (determined_in S T b known s) (stream_of S.world.outcome C h s e)
    sound (O.assign {b = b} {x = x} {y = y} n m a) tg known h L u e cl ty li = Atoms.assign_sound S D F θ T proper known L b e x y n m tg ty li
    sound (O.assign_back {b = b} {x = x} {y = y} n m a) tg known h L u e cl ty li =
        Atoms.assign_sound S D F θ T proper known L b e x y n m (sym tg) (typed_in (x ∷ y ∷ []) (y ∷ x ∷ []) b e (λ z i. ⊎_elim (λ q. inr (inl q)) (λ j. ⊎_elim (λ q. inl q) (λ k. absurd k) j) i) ty) li
    sound (O.test {b = b} {x = x} {y = y} n m s a) tg known h L u e cl ty li = Atoms.test_sound S D F θ T proper known L (x ∷ y ∷ []) b e x y n m ty li
    sound (O.build {b = b} {x = x} {s = s} {i = i} {ys = ys} n a m d w) tg known h L u e cl ty li = Atoms.build_sound S D F θ T proper known L b e x s i ys n a w tg ty li
    sound (O.take {b = b} {x = x} {s = s} {i = i} {ys = ys} {is = is} n d a w) tg known h L u e cl ty li = Takes.take_sound S D F θ T proper known L b e x s i ys is n a w tg ty li
    sound (O.take_never {b = b} {x = x} {s = s} {ys = ys} n d a) tg known h L u e cl ty li = Takes.take_never_sound S D F θ T proper known L b e x s ys n a tg ty
    sound (O.put {b = b} {x = x} {v = v} n) tg known h L u e cl ty li = Atoms.const_sound S D F θ T proper known L b e x v n tg.0 tg.1 ty li
    sound (O.test_constant {b = b} {x = x} {v = v} n d a) tg known h L u e cl ty li = Atoms.test_constant_sound S D F θ T proper known L b e x v n ty li
    sound (O.test_never {b = b} {x = x} {v = v} n d a) tg known h L u e cl ty li = Atoms.test_never_sound S D F θ T proper known L b e x v n tg.1 a ty
    sound (O.call {b = b} {c = c} {p = p} {xs = xs} {last = last} l us d a) tg known h L u e cl ty li =
        let types = map_types S T D F θ proper tg.0 xs (types_of S (S.procs p)) tg.1 in
        let given = Arguments.usable_given S D F θ T proper tg.0 xs (S.procs p).first (S.procs p).last xs (types_of S (S.procs p)) b e (lined p l) us types ty in
        Callings.height_sound S θ T known L xs e _ _ last h _
        (λ k. Callings.call_sound S D F θ T proper known L (S.procs p) tg.0 xs b c e (C k p (map e xs)) types a given ty li (called (also_instance θ tg.0) k p (map e xs) l given))
    sound (O.apply {b = b} {c = c} {p = p} {op = op} {xs = xs} q us d i a) tg known h L u e cl ty li =
        Callings.apply_sound S D F θ T proper known L p op tg.0 xs b c e q (map_types S T D F θ proper tg.0 xs (S.world.source.preds p).types tg.1) us i a ty li
    sound (O.implied_alone {xs = xs} r) tg known h L u e cl ty li =
        sound_all r (tg, tt) known h L u e cl (λ x i. ty x (⊎_elim (λ j. j) (λ j. absurd j) (in_either x xs [] i))) li
    sound (O.conj r) tg known h L u e cl ty li = sound_all r tg known h L u e cl ty li
    sound (O.disj {O = O} {b = b} {os = os} {o = o} r jn) tg known h L u e cl ty li = sound_any r tg known h L u e cl ty li o (Typed.joined_reached S D F θ T proper L O b os o u jn)
    sound (O.switch {O = O} {b = b} {x = x} {gs = gs} {arms = arms} {os = os} {o = o} n i r jn) tg known h L u e cl ty li =
        let w = Typed.bound_at S D F θ (b x) (T x) (e x) n (ty x (frees_in gs x i)) in
        let s = sound_arms r tg known h L u e cl ty li w.0 w.1 o (Typed.joined_reached S D F θ T proper L O b os o u jn) in
        Combine.sound_more S θ T known L (variables_of_arms arms) (x ∷ variables_of_arms arms) e o (determined_in S T b known (Switch x arms)) (stream_arms S.world.outcome C h arms e) (λ z j. inr j)
        (record {
          each = s.each;
          calls = s.calls;
          count = s.count;
          sure = λ k q. let p = or_parts (misses S T (allowed_in S T (T x) (b x)) arms) (determined_arms S T b known x arms).can_fail q in s.sure k p.1 (none_missed S T D F θ proper (T x) (b x) arms w.0 (proper x) w.2 p.0);
        })
    sound (O.ite {O = O} {Q = Q} {b = b} {c = c} {vs = vs} {g = g} {h = i} {k = j} {n = n} {t = t} {u = f} {o = o} {o' = o'} {o'' = o''} a rc bn rt re jn) tg known h L u e cl ty li =
        let W = vs ++ (variables_of_node n ++ (variables_of_node t ++ variables_of_node f)) in
        let wn : (x : ℕ) → In x (variables_of_node n) → In x W = λ x z. in_right x vs (variables_of_node n ++ (variables_of_node t ++ variables_of_node f)) (in_left x (variables_of_node n) (variables_of_node t ++ variables_of_node f) z) in
        let wt : (x : ℕ) → In x (variables_of_node t) → In x W = λ x z. in_right x vs (variables_of_node n ++ (variables_of_node t ++ variables_of_node f)) (in_right x (variables_of_node n) (variables_of_node t ++ variables_of_node f) (in_left x (variables_of_node t) (variables_of_node f) z)) in
        let wf : (x : ℕ) → In x (variables_of_node f) → In x W = λ x z. in_right x vs (variables_of_node n ++ (variables_of_node t ++ variables_of_node f)) (in_right x (variables_of_node n) (variables_of_node t ++ variables_of_node f) (in_right x (variables_of_node t) (variables_of_node f) z)) in
        let tc : TypedAt S θ T (variables_of g) b e = λ x z. ty x (in_right x vs (variables_of g ++ (variables_of i ++ variables_of j)) (in_left x (variables_of g) (variables_of i ++ variables_of j) z)) in
        let tt' : TypedAt S θ T (variables_of i) b e = λ x z. ty x (in_right x vs (variables_of g ++ (variables_of i ++ variables_of j)) (in_right x (variables_of g) (variables_of i ++ variables_of j) (in_left x (variables_of i) (variables_of j) z))) in
        let te : TypedAt S θ T (variables_of j) b e = λ x z. ty x (in_right x vs (variables_of g ++ (variables_of i ++ variables_of j)) (in_right x (variables_of g) (variables_of i ++ variables_of j) (in_right x (variables_of i) (variables_of j) z))) in
        Combine.choose_sound S θ T known (L ++ variables_of i) L (variables_of_node n) W wn e (Some c) o'' (determined S T b known n) (determined S T (insts_after n b) known t) (stream S.world.outcome C h n e) (λ a. stream S.world.outcome C h t a)
        (sound_node rc tg.0 known h (L ++ variables_of i) (among_two L O (without (free_in g) vs) (variables_of i) u) e (closed_more O Q (without (free_in g) vs ++ variables_of i) (variables_of_node t) b e cl) tc (typed_both L (variables_of i) b e li tt'))
        (λ a gr bo m.
        Combine.sound_more S θ T known L (variables_of_node t) W a o'' (determined S T (insts_after n b) known t) (stream S.world.outcome C h t a) wt
        (subst (λ z. Sound S θ T known L (variables_of_node t) a o'' (determined S T z known t) (stream S.world.outcome C h t a)) (sym (node_after rc))
        (Combine.reached_sound S θ T known L (variables_of_node t) a o o'' (determined S T c known t) (stream S.world.outcome C h t a) (Typed.joined_reached S D F θ T proper L O b (o ∷ o' ∷ []) o'' u jn o (inl refl))
        (sound_node rt tg.1 known h L (among_left L O (variables_of g) u) a (closed_after O Q (variables_of g) (variables_of_node n) b c e a (node_from S D F T rc) bo cl) (λ x z. m x (in_right x L (variables_of i) z)) (λ x z. m x (in_left x L (variables_of i) z))))))
        (determined S T b known f) (stream S.world.outcome C h f e)
        (Combine.sound_more S θ T known L (variables_of_node f) W e o'' (determined S T b known f) (stream S.world.outcome C h f e) wf
        (Combine.reached_sound S θ T known L (variables_of_node f) e o' o'' (determined S T b known f) (stream S.world.outcome C h f e) (Typed.joined_reached S D F θ T proper L O b (o ∷ o' ∷ []) o'' u jn o' (inr (inl refl))) (sound_node re tg.2 known h L u e cl te li)))
    sound (O.ite_never {O = O} {Q = Q} {b = b} {vs = vs} {g = g} {h = i} {k = j} {n = n} {t = t} {u = f} {o = o} {o'' = o''} a rc m re jn) tg known h L u e cl ty li =
        let W = vs ++ (variables_of_node n ++ (variables_of_node t ++ variables_of_node f)) in
        let wn : (x : ℕ) → In x (variables_of_node n) → In x W = λ x z. in_right x vs (variables_of_node n ++ (variables_of_node t ++ variables_of_node f)) (in_left x (variables_of_node n) (variables_of_node t ++ variables_of_node f) z) in
        let wf : (x : ℕ) → In x (variables_of_node f) → In x W = λ x z. in_right x vs (variables_of_node n ++ (variables_of_node t ++ variables_of_node f)) (in_right x (variables_of_node n) (variables_of_node t ++ variables_of_node f) (in_right x (variables_of_node t) (variables_of_node f) z)) in
        let tc : TypedAt S θ T (variables_of g) b e = λ x z. ty x (in_right x vs (variables_of g ++ (variables_of i ++ variables_of j)) (in_left x (variables_of g) (variables_of i ++ variables_of j) z)) in
        let te : TypedAt S θ T (variables_of j) b e = λ x z. ty x (in_right x vs (variables_of g ++ (variables_of i ++ variables_of j)) (in_right x (variables_of g) (variables_of i ++ variables_of j) (in_right x (variables_of i) (variables_of j) z))) in
        Combine.choose_sound S θ T known L L (variables_of_node n) W wn e None o'' (determined S T b known n) (determined S T (insts_after n b) known t) (stream S.world.outcome C h n e) (λ a. stream S.world.outcome C h t a)
        (sound_node rc tg.0 known h L (among_left L O (without (free_in g) vs ++ variables_of i) u) e (λ x. ⊎_elim (λ z. inl (⊎_elim (λ y. inl (in_left x O (without (free_in g) vs ++ variables_of i) y)) (λ y. inr y) z)) (λ z. inr z) (cl x)) tc li)
        (λ a gr bo m. absurd m)
        (determined S T b known f) (stream S.world.outcome C h f e)
        (Combine.sound_more S θ T known L (variables_of_node f) W e o'' (determined S T b known f) (stream S.world.outcome C h f e) wf
        (Combine.reached_sound S θ T known L (variables_of_node f) e o o'' (determined S T b known f) (stream S.world.outcome C h f e) (Typed.joined_reached S D F θ T proper L O b (o ∷ []) o'' u jn o (inl refl)) (sound_node re tg.2 known h L u e cl te li)))
    sound (O.neg {O = O} {Q = Q} {b = b} {g = g} {n = n} {o = o} r m) tg known h L u e cl ty li =
        Combine.negate_sound S θ T known [] L (variables_of_node n) (variables_of_node n) b e o (determined S T b known n) (stream S.world.outcome C h n e) li
        (sound_node r tg known h [] (λ x i. absurd i) e (λ x. ⊎_elim (λ z. inl (⊎_elim (λ y. inl (in_left x O (free_in g) y)) (λ y. inr y) z)) (λ z. inr z) (cl x)) ty (λ x i. absurd i))
    sound (O.some {b = b} {vs = vs} {g = g} {n = n} {o = o} a r) tg known h L u e cl ty li =
        Combine.sound_more S θ T known L (variables_of_node n) (vs ++ variables_of_node n) e o (determined S T b known n) (stream S.world.outcome C h n e) (λ x i. in_right x vs (variables_of_node n) i)
        (sound_node r tg known h L u e cl (λ x i. ty x (in_right x vs (variables_of g) i)) li)

    pub sound_node : {O Q : List ℕ} {b : Insts} {g : Flat_goal} {n : Node} {o : Option Insts} → OrderedNode S T O Q b g n o → TypedGoal S.world.source T g → (known : Known) (h : ℕ) (L : List ℕ) → Among L O → (e : Bindings) → Closed O Q b e → TypedAt S θ T (variables_of g) b e → TypedAt S θ T L b e →
        Sound S θ T known L (variables_of_node n) e o (determined S T b known n) (stream S.world.outcome C h n e)
    sound_node (O.kept {Q = Q} {b = b} {s = s} {o = o} r k) tg known h L u e cl ty li =
        Combine.pruned_sound S θ T known L (variables_of_scheduled s) e o (determined_in S T b known s) (Rattle.mc_accepted.specs.Ordered.is_pruned Q b o) (stream_of S.world.outcome C h s e) (sound r tg known h L u e cl ty li)

    pub sound_all : {O Q : List ℕ} {b : Insts} {gs : Flat_goals} {ns : Nodes} {o : Option Insts} → OrderedAll S T O Q b gs ns o → TypedGoals S.world.source T gs → (known : Known) (h : ℕ) (L : List ℕ) → Among L O → (e : Bindings) → Closed O Q b e → TypedAt S θ T (variables_of_all gs) b e → TypedAt S θ T L b e →
        Sound S θ T known L (variables_of_nodes ns) e o (determined_all S T b known ns) (stream_all S.world.outcome C h ns e)
    sound_all (O.done {b = b}) tg known h L u e cl ty li = Atoms.sound_option S D F θ T proper known L [] e b det (Some e) refl (Binds.extends_refl e, tt) (Atoms.binds_none [] e, tt) (li, tt) (λ k q. tt)
    sound_all (O.dropped {O = O} {Q = Q} {b = b} {g = g} {rest = rest} {n = n} p r) tg known h L u e cl ty li =
        let q = picks_typed S.world.source T p tg in
        Combine.bind_sound S θ T known L L (variables_of_node n) (variables_of_node n ++ []) (λ x i. in_left x (variables_of_node n) [] i) e None None (determined S T b known n) det (stream S.world.outcome C h n e) (λ a. Answer a End)
        (sound_node r q.0 known h L (among_left L O (variables_of_all rest) u) e (λ x. ⊎_elim (λ z. inl (⊎_elim (λ y. inl (in_left x O (variables_of_all rest) y)) (λ y. inr y) z)) (λ z. inr z) (cl x)) (λ x i. ty x (picks_goal p x i)) li)
        (λ a gr bo m. absurd m)
    sound_all (O.next {O = O} {Q = Q} {b = b} {c = c} {g = g} {rest = rest} {n = n} {ns = ns} {o = o} p r t) tg known h L u e cl ty li =
        let q = picks_typed S.world.source T p tg in
        let W = variables_of_node n ++ variables_of_nodes ns in
        Combine.bind_sound S θ T known (L ++ variables_of_all rest) L (variables_of_node n) W (λ x i. in_left x (variables_of_node n) (variables_of_nodes ns) i) e (Some c) o (determined S T b known n) (determined_all S T (insts_after n b) known ns) (stream S.world.outcome C h n e) (λ a. stream_all S.world.outcome C h ns a)
        (sound_node r q.0 known h (L ++ variables_of_all rest) (among_both L O (variables_of_all rest) u) e (closed_more O Q (variables_of_all rest) (variables_of_nodes ns) b e cl) (λ x i. ty x (picks_goal p x i)) (typed_both L (variables_of_all rest) b e li (λ x i. ty x (picks_rest p x i))))
        (λ a gr bo m.
        Combine.sound_more S θ T known L (variables_of_nodes ns) W a o (determined_all S T (insts_after n b) known ns) (stream_all S.world.outcome C h ns a) (λ x i. in_right x (variables_of_node n) (variables_of_nodes ns) i)
        (subst (λ z. Sound S θ T known L (variables_of_nodes ns) a o (determined_all S T z known ns) (stream_all S.world.outcome C h ns a)) (sym (node_after r))
        (sound_all t q.1 known h L (among_left L O (variables_of g) u) a (closed_after O Q (variables_of g) (variables_of_node n) b c e a (node_from S D F T r) bo cl) (λ x i. m x (in_right x L (variables_of_all rest) i)) (λ x i. m x (in_left x L (variables_of_all rest) i)))))
    sound_all (O.implied_outputs {O = O} {Q = Q} {b = b} {c = c} {p = p} {op = op} {xs = xs} {zs = zs} {gs = gs} {rest = rest} {changes = changes} {d = d} {ns = ns} {o = o} tests pk bq mo fr nd di apt ts us i af kc t) tg known h L u e cl ty li =
        let q = picks_typed S.world.source T pk tg in
        let M = L ++ (variables_of_all rest ++ (xs ++ zs)) in
        let vs = at_inputs (inputs_of op) zs ++ at_outputs (inputs_of op) zs in
        let mark = Rattle.mc_accepted.specs.Ordered.is_pruned (Q ++ variables_of_nodes (tested_by tests ns)) b (Some c) in
        let n = node (Apply op (at_inputs (inputs_of op) zs) (at_outputs (inputs_of op) zs)) changes d mark in
        let W = vs ++ variables_of_nodes (tested_by tests ns) in
        let tx : TypedAt S θ T xs b e = λ x z. ty x (picks_goal pk x z) in
        let tz = typed_fresh O Q xs zs (firsts tests) gs b e cl apt (fresh_split S T 0 (implied_places 0 (modes_of op) xs (λ x. is_bound (b x))) xs zs tests fr) tx in
        let lm = typed_both L (variables_of_all rest ++ (xs ++ zs)) b e li (typed_both (variables_of_all rest) (xs ++ zs) b e (λ x z. ty x (picks_rest pk x z)) (typed_both xs zs b e tx tz)) in
        let types = fresh_types S T D F θ proper c q.0.0 0 (implied_places 0 (modes_of op) xs (λ x. is_bound (b x))) xs zs tests (S.world.source.preds p).types (map_types S T D F θ proper q.0.0 xs (S.world.source.preds p).types q.0.1) ts fr in
        let after : insts_after n b ≡ c = Rattle.std.proofs.Math.Path.fun_ext (λ x. sym (kc.0 x)) in
        Combine.bind_sound S θ T known M L vs W (λ x z. in_left x vs (variables_of_nodes (tested_by tests ns)) z) e (Some c) o (determined S T b known n) (determined_all S T (insts_after n b) known (tested_by tests ns)) (stream S.world.outcome C h n e) (λ a. stream_all S.world.outcome C h (tested_by tests ns) a)
        (Combine.pruned_sound S θ T known M vs e (Some c) (determined_in S T b known (Apply op (at_inputs (inputs_of op) zs) (at_outputs (inputs_of op) zs))) mark (stream_of S.world.outcome C h (Apply op (at_inputs (inputs_of op) zs) (at_outputs (inputs_of op) zs)) e)
        (subst (λ k. Sound S θ T known M vs e (unless_never k c) (determined_in S T b known (Apply op (at_inputs (inputs_of op) zs) (at_outputs (inputs_of op) zs))) (stream_of S.world.outcome C h (Apply op (at_inputs (inputs_of op) zs) (at_outputs (inputs_of op) zs)) e)) mo
        (Callings.apply_sound S D F θ T proper known M p op q.0.0 zs b c e bq types us i af tz lm)))
        (λ a gr bo m.
        subst (λ z. Sound S θ T known L W a o (determined_all S T z known (tested_by tests ns)) (stream_all S.world.outcome C h (tested_by tests ns) a)) (sym after)
        (tests_sound known h M L W c o ns tests (λ x z. in_left x L (variables_of_all rest ++ (xs ++ zs)) z) ts
        (fresh_pairs S T M 0 (implied_places 0 (modes_of op) xs (λ x. is_bound (b x))) xs zs tests (λ y z. in_right y L (variables_of_all rest ++ (xs ++ zs)) (in_right y (variables_of_all rest) (xs ++ zs) (in_left y xs zs z))) (λ y z. in_right y L (variables_of_all rest ++ (xs ++ zs)) (in_right y (variables_of_all rest) (xs ++ zs) (in_right y xs zs z))) fr)
        a m
        (λ a' b' m'.
        Combine.sound_more S θ T known L (variables_of_nodes ns) W a' o (determined_all S T c known ns) (stream_all S.world.outcome C h ns a') (λ x z. in_right x vs (variables_of_nodes (tested_by tests ns)) (tests_in tests ns x z))
        (sound_all t q.1 known h L (among_left L O (xs ++ zs) u) a'
        (closed_same (O ++ (xs ++ zs)) (Q ++ (xs ++ zs)) c a a' b'
        (closed_within (O ++ (xs ++ zs)) (Q ++ vs) (Q ++ (xs ++ zs)) c a (λ x z. ⊎_elim (λ y. in_left x Q (xs ++ zs) y) (λ y. in_right x Q (xs ++ zs) (in_right x xs zs (⊎_elim (λ w. in_inputs (inputs_of op) zs x w) (λ w. in_outputs (inputs_of op) zs x w) (in_either x (at_inputs (inputs_of op) zs) (at_outputs (inputs_of op) zs) y)))) (in_either x Q vs z))
        (closed_after O Q (xs ++ zs) vs b c e a (apply_from S D F T op zs b c af) bo cl)))
        (λ x z. m' x (in_right x L (variables_of_all rest ++ (xs ++ zs)) (in_left x (variables_of_all rest) (xs ++ zs) z))) (λ x z. m' x (in_left x L (variables_of_all rest ++ (xs ++ zs)) z))))))

    pub sound_any : {O Q : List ℕ} {b : Insts} {gs : Flat_goals} {ns : Nodes} {os : List (Option Insts)} → OrderedAny S T O Q b gs ns os → TypedGoals S.world.source T gs → (known : Known) (h : ℕ) (L : List ℕ) → Among L O → (e : Bindings) → Closed O Q b e → TypedAt S θ T (variables_of_all gs) b e → TypedAt S θ T L b e →
        (w : Option Insts) → ((o : Option Insts) → Is o os → (a : Bindings) → Reached S θ T L o a → Reached S θ T L w a) → Sound S θ T known L (variables_of_nodes ns) e w (determined_any S T b known ns) (stream_any S.world.outcome C h ns e)
    sound_any O.no_other tg known h L u e cl ty li w k = record { each = tt; calls = tt; count = λ k. refl; sure = λ k q. absurd (true_not_false q) }
    sound_any (O.either {b = b} {g = g} {gs = gs} {n = n} {ns = ns} {o = o} r t) tg known h L u e cl ty li w k =
        let W = variables_of_node n ++ variables_of_nodes ns in
        Combine.append_sound S θ T known L W e w (determined S T b known n) (determined_any S T b known ns) (stream S.world.outcome C h n e) (stream_any S.world.outcome C h ns e)
        (Combine.sound_more S θ T known L (variables_of_node n) W e w (determined S T b known n) (stream S.world.outcome C h n e) (λ x i. in_left x (variables_of_node n) (variables_of_nodes ns) i)
        (Combine.reached_sound S θ T known L (variables_of_node n) e o w (determined S T b known n) (stream S.world.outcome C h n e) (k o (inl refl)) (sound_node r tg.0 known h L u e cl (λ x i. ty x (in_left x (variables_of g) (variables_of_all gs) i)) li)))
        (Combine.sound_more S θ T known L (variables_of_nodes ns) W e w (determined_any S T b known ns) (stream_any S.world.outcome C h ns e) (λ x i. in_right x (variables_of_node n) (variables_of_nodes ns) i)
        (sound_any t tg.1 known h L u e cl (λ x i. ty x (in_right x (variables_of g) (variables_of_all gs) i)) li w (λ p i. k p (inr i))))

    pub sound_arms : {O Q : List ℕ} {b : Insts} {x : ℕ} {gs : Flat_goals} {arms : Arms} {os : List (Option Insts)} → OrderedArms S T O Q b x gs arms os → TypedGoals S.world.source T gs → (known : Known) (h : ℕ) (L : List ℕ) → Among L O → (e : Bindings) → Closed O Q b e → TypedAt S θ T (variables_of_all gs) b e → TypedAt S θ T L b e → (v : Val) → e x ≡ Some v →
        (w : Option Insts) → ((o : Option Insts) → Is o os → (a : Bindings) → Reached S θ T L o a → Reached S θ T L w a) → ArmsSound S θ T known L (variables_of_arms arms) e w (determined_arms S T b known x arms) arms v (stream_arms S.world.outcome C h arms e)
    sound_arms O.no_arm tg known h L u e cl ty li v q w k = record { each = tt; calls = tt; count = λ k. refl; sure = λ k z i. absurd i }
    sound_arms (O.arm {b = b} {x = x} {gs = gs} {hs = hs} {ks = ks} {l = l} {n = n} {arms = arms} {o = o} p il op ab r t) tg known h L u e cl ty li v q w k =
        let z = parts_typed S.world.source T p tg in
        let W = variables_of_node n ++ variables_of_arms arms in
        let rest = sound_arms t z.1 known h L u e cl (λ y i. ty y (parts_others p y i)) li v q w (λ p i. k p (inr i)) in
        arm_sound S θ T known L W e w x l (determined S T b (learned x l known) n) (determined_arms S T b known x arms) n arms v (stream S.world.outcome C h n e) (stream_arms S.world.outcome C h arms e) q
        (λ f. opens_none S.world.outcome C h n x l op e v q f)
        (λ f. rest_none t h e v q l il f ab)
        (Combine.sound_more S θ T (learned x l known) L (variables_of_node n) W e w (determined S T b (learned x l known) n) (stream S.world.outcome C h n e) (λ y i. in_left y (variables_of_node n) (variables_of_arms arms) i)
        (Combine.reached_sound S θ T (learned x l known) L (variables_of_node n) e o w (determined S T b (learned x l known) n) (stream S.world.outcome C h n e) (k o (inl refl))
        (sound_node r (arm_typed S.world.source T hs z.0) (learned x l known) h L u e cl (λ y i. ty y (parts_some p y (arm_variables hs y i))) li)))
        (record {
          each = Lists.each_map (λ a. Grows e a × (BindsOnly (variables_of_arms arms) e a × Reached S θ T L w a)) (λ a. Grows e a × (BindsOnly W e a × Reached S θ T L w a))
              (λ a y. (y.0, (Atoms.binds_more (variables_of_arms arms) W e a (λ m i. in_right m (variables_of_node n) (variables_of_arms arms) i) y.1.0, y.1.1))) (stream_arms S.world.outcome C h arms e) rest.each;
          calls = rest.calls;
          count = rest.count;
          sure = rest.sure;
        })

    rest_none : {O Q : List ℕ} {b : Insts} {x : ℕ} {gs : Flat_goals} {arms : Arms} {os : List (Option Insts)} → OrderedArms S T O Q b x gs arms os → (h : ℕ) (e : Bindings) (v : Val) → e x ≡ Some v → (l : Label) → IsLabel l → HasLabel l v → AbsentFrom l arms → answers (stream_arms S.world.outcome C h arms e) ≡ 0
    rest_none O.no_arm h e v q l il f a = refl
    rest_none (O.arm {x = x} {l = k} {n = n} {arms = arms} p ik op ab r t) h e v q l il f a =
        omega (arith, opens_none S.world.outcome C h n x k op e v q (λ g. a.0 (label_unique l k v il ik f g)), rest_none t h e v q l il f a.1, Lists.answers-append (stream S.world.outcome C h n e) (stream_arms S.world.outcome C h arms e))
