-- The third pass: what goals do to the world.
use Rattle.std.proofs.Common.{◌≡◌, ◌⊎◌, inl, inr, ℕ, ◌<◌, ◌≤◌, List, [], ◌∷◌, ◌++◌, length, Bool, true, false, cond, ◌||◌, ◌&&◌, not, Option, Some, None, refl, sym, ◌∙◌, subst, arith, ⊎_elim}
use Rattle.mc_program.specs.Values.{Val}
use Rattle.mc_program.specs.Programs.{TypeTerm}
use Rattle.mc_model.specs.Flat.{Flat_goal, Flat_goals, variables_of, variables_of_all, free_in}
use Rattle.mc_model.specs.Lists.{without, In, Among}
use Rattle.mc_model.specs.EventList.{Items, End, Answer, append, answers, Succeeds}
use Rattle.mc_model.specs.Stream.{Bindings, Calls, pruned_to, stream, stream_of, stream_all, stream_any, stream_arms}
use Rattle.mc_model.specs.Scheduled.{Label, Node, node, Scheduled, Ite, Not, Assign, Test, Build, Take, Const, TestConst, Call, Apply, Nodes, Arms}
use Rattle.mc_source.specs.Determinism.{Determinism, disj, ite, pruned, rank, det}
use Rattle.mc_model.specs.Outcomes.{inputs_of}
use Rattle.mc_accepted.specs.Ordered.{Insts, IsLabel, AbsentFrom, arm_goal, at_inputs, at_outputs, tested_by, Ordered, OrderedNode, OrderedAll, OrderedAny, OrderedArms, variables_of_node, variables_of_nodes}
use Rattle.mc_accepted.specs.Determined.{Known, learned, insts_after, determined, determined_in, determined_all, determined_any, is_io, is_io_in, one_is_io, arm_is_io, none_fails, no_disjunct_fails, IoHere, IoPlaced, IoPlacedIn, IoAllPlaced, IoEachPlaced, IoArmsPlaced}
use Rattle.mc_accepted.specs.Typing.{TypedGoal, TypedGoals}
use Rattle.mc_model.specs.Good.{System, TypeChoice}
use Rattle.mc_accepted.specs.ProperTypes.{Parameters, ProperType}
use Rattle.mc_accepted.specs.Fits.{Fits}
use Rattle.laws_sound.specs.code.Passes.{Grows, BindsOnly, Closed, HasLabel, Knows, TypedAt, Reached, Sound, CallsSound}
use Rattle.mc_accepted.specs.IoFits.{FitsIo}
use Rattle.laws_sound.specs.code.Moves.{Calm, World, Moves, Holds, HoldsAfter, CallsMove, CallsLend, TidyProcedures}
use Rattle.mc_accepted.specs.Ordered as O
use Rattle.mc_source.specs.declared.det.Most.{Most}
use Rattle.mc_source.specs.declared.det.Most.TheVariants.{Zero, One, Many}
use Rattle.laws_sound.proofs.Changes.{node_after, closed_after, closed_more, node_from}
use Rattle.laws_sound.proofs.Combine
use Rattle.laws_sound.proofs.Combine.{among_left, among_both, among_two, knows_more}
use Rattle.laws_sound.proofs.MoveArms.{opens_calm}
use Rattle.laws_sound.proofs.MoveGoals.{IoFits, conj_moves, disj_moves, ite_moves, zero_append}
use Rattle.laws_sound.proofs.MoveHolds.{holds_joined, placed_free}
use Rattle.laws_sound.proofs.MoveLists
use Rattle.laws_sound.proofs.MoveEquations.{tested_moves, assign_goal}
use Rattle.laws_sound.proofs.MoveCallAtoms.{call_atom}
use Rattle.laws_sound.proofs.MoveBuiltins.{apply_moves}
use Rattle.laws_sound.proofs.TellFresh.{append_end}
use Rattle.laws_sound.proofs.Callings
use Rattle.laws_sound.proofs.Changes.{apply_from}
use Rattle.mc_accepted.specs.BuiltinTypes.{Library_types}
use Rattle.mc_model.specs.EventList.{bind, first, of_option}
use Rattle.mc_model.specs.Stream.{same_items, is_bound}
use Rattle.mc_program.specs.Values.{same_value}
use Rattle.mc_accepted.specs.Ordered.{TestsInOrder, implied_places, modes_of, firsts, unless_never}
use Rattle.laws_sound.proofs.Sound as Sounds
use Rattle.laws_sound.proofs.Sound.{picks_goal, picks_rest, picks_typed, parts_typed, parts_some, parts_others, arm_typed, arm_variables, knows_learned, PairsIn, fresh_split, fresh_pairs, in_inputs, in_outputs}
use Rattle.laws_sound.proofs.Typed
use Rattle.laws_sound.proofs.Typed.{Is}
use Rattle.laws_language.proofs.FlatGoals.{in_either, in_left, in_right}
use Rattle.std.proofs.lemmas.Bool.{or_right}
use Rattle.laws_sound.proofs.Binds.{true_not_false}

-- goals without parts
abbrev pub IsAtom : Scheduled → Type 0
IsAtom (Assign x y) = Unit {0}
IsAtom (Test x y) = Unit {0}
IsAtom (Build x s ys) = Unit {0}
IsAtom (Take x s ys) = Unit {0}
IsAtom (Const x v) = Unit {0}
IsAtom (TestConst x v) = Unit {0}
IsAtom (Call p xs is l) = Unit {0}
IsAtom (Apply op xs ys) = Unit {0}
IsAtom s = ⊥

-- a goal that is pruned holds no io goal
fits_here : (S : System) (T : ℕ → TypeTerm) (io one m : Bool) (d : Determinism) → IoHere S T io one m (cond m (pruned d) d) → IoFits io (one || m) d
fits_here S T false one m d h = tt
fits_here S T true one true d h = absurd (true_not_false h.0)
fits_here S T true true false d h = (h.1, λ q. absurd (true_not_false q))
fits_here S T true false false d h = (h.1, λ q. h.2 q)

pruned_moves : (S : System) (T : ℕ → TypeTerm) (Q : World → Bindings → Type 0) (io one m : Bool) (d : Determinism) (W : World) (xs : Items Bindings) → IoHere S T io one m d → Moves Q io (one || m) W xs → Moves Q io one W (pruned_to m xs)
pruned_moves S T Q false one true d W xs h k = MoveLists.calm_first (Q W) xs k
pruned_moves S T Q false one false d W xs h k = k
pruned_moves S T Q true one true d W xs h k = absurd (true_not_false h.0)
pruned_moves S T Q true true false d W xs h k = k
pruned_moves S T Q true false false d W xs h k = k

and_first : (a b : Bool) → (a && b) ≡ true → a ≡ true
and_first true b h = refl
and_first false b h = h

not_true : (b : Bool) → not b ≡ true → b ≡ false
not_true true h = absurd (true_not_false (sym h))
not_true false h = refl

and_second : (a b : Bool) → (a && b) ≡ true → b ≡ true
and_second true b h = h
and_second false b h = absurd (true_not_false (sym h))

-- ranks of lists
disj_first : (d d' : Determinism) → rank (disj d d').most ≤ 1 → rank d.most ≤ 1
disj_first d d' r = on d.most d'.most r
  where
    on : (m k : Most) → rank (disj (record { can_fail = true; most = m }) (record { can_fail = true; most = k })).most ≤ 1 → rank m ≤ 1
    on Zero k r = omega arith
    on One k r = omega arith
    on Many Zero r = r
    on Many One r = r
    on Many Many r = r

disj_second : (d d' : Determinism) → rank (disj d d').most ≤ 1 → rank d'.most ≤ 1
disj_second d d' r = on d.most d'.most r
  where
    on : (m k : Most) → rank (disj (record { can_fail = true; most = m }) (record { can_fail = true; most = k })).most ≤ 1 → rank k ≤ 1
    on m Zero r = omega arith
    on m One r = omega arith
    on Zero Many r = r
    on One Many r = r
    on Many Many r = r

disj_zero : (d d' : Determinism) → (disj d d').most ≡ Zero → (d.most ≡ Zero) × (d'.most ≡ Zero)
disj_zero d d' r = on d.most d'.most r
  where
    no : (m : Most) → Many ≡ Zero → (m ≡ Zero) × (m ≡ Zero)
    no m e = absurd (z e)
      where
        z : Many ≡ Zero → ⊥
        z e = cc

    on : (m k : Most) → (disj (record { can_fail = true; most = m }) (record { can_fail = true; most = k })).most ≡ Zero → (m ≡ Zero) × (k ≡ Zero)
    on Zero Zero r = (refl, refl)
    on Zero One r = absurd (z r)
      where
        z : One ≡ Zero → ⊥
        z e = cc
    on Zero Many r = absurd (z r)
      where
        z : Many ≡ Zero → ⊥
        z e = cc
    on One Zero r = absurd (z r)
      where
        z : One ≡ Zero → ⊥
        z e = cc
    on One One r = absurd (z r)
      where
        z : Many ≡ Zero → ⊥
        z e = cc
    on One Many r = absurd (z r)
      where
        z : Many ≡ Zero → ⊥
        z e = cc
    on Many Zero r = absurd (z r)
      where
        z : Many ≡ Zero → ⊥
        z e = cc
    on Many One r = absurd (z r)
      where
        z : Many ≡ Zero → ⊥
        z e = cc
    on Many Many r = absurd (z r)
      where
        z : Many ≡ Zero → ⊥
        z e = cc

here_sure : (S : System) (T : ℕ → TypeTerm) (io one m : Bool) (d : Determinism) → io ≡ true → IoHere S T io one m d → d.can_fail ≡ false
here_sure S T true one m d q h = h.1
here_sure S T false one m d q h = absurd (true_not_false (sym q))

pub io_sure : (S : System) (T : ℕ → TypeTerm) (b : Insts) (known : Known) (one : Bool) (n : Node) → IoPlaced S T b known one n → is_io S T n ≡ true → (determined S T b known n).can_fail ≡ false
io_sure S T b known one (node s changes d m) h q = here_sure S T (is_io_in S T s) one m (determined S T b known (node s changes d m)) q h.0

fits_rank : (io one : Bool) (d : Determinism) → IoFits io one d → io ≡ true → one ≡ false → rank d.most ≤ 1
fits_rank true one d h q r = h.1 r
fits_rank false one d h q r = absurd (true_not_false (sym q))

module _ (R : World → Bindings → Type 0) (W : World) (xs ys : Items Bindings) where
  arm_yes : (ioN ioR one : Bool) → Moves R ioN one W xs → (ioN ≡ true → Succeeds xs) → Calm (λ a. ⊥) ys → Moves R (ioN || ioR) one W (append xs ys)
  arm_yes true ioR one h f k = MoveLists.flow_append R one W xs ys h (f refl) (λ V. MoveLists.calm_behind one (R V) ys (MoveLists.calm_map (λ a. ⊥) (R V) (λ a z. absurd z) ys k))
  arm_yes false true one h f k = MoveLists.calm_flow R one W (append xs ys) (MoveLists.calm_append (R W) xs ys h (MoveLists.calm_map (λ a. ⊥) (R W) (λ a z. absurd z) ys k))
  arm_yes false false one h f k = MoveLists.calm_append (R W) xs ys h (MoveLists.calm_map (λ a. ⊥) (R W) (λ a z. absurd z) ys k)

  arm_no : (ioN ioR one : Bool) → Calm (λ a. ⊥) xs → answers xs ≡ 0 → Moves R ioR one W ys → Moves R (ioN || ioR) one W (append xs ys)
  arm_no false false one h n k = MoveLists.calm_append (R W) xs ys (MoveLists.calm_map (λ a. ⊥) (R W) (λ a z. absurd z) xs h) k
  arm_no false true one h n k = MoveLists.flow_after (λ a. ⊥) R one W xs ys h n k
  arm_no true ioR one h n k = MoveLists.flow_after (λ a. ⊥) R one W xs ys h n (MoveLists.moves_flow R ioR one W ys k)

rest_calm : (S : System) (T : ℕ → TypeTerm) (C : Calls) {O Q : List ℕ} {b : Insts} {x : ℕ} {gs : Flat_goals} {arms : Arms} {os : List (Option Insts)} → OrderedArms S T O Q b x gs arms os → (h : ℕ) (e : Bindings) (v : Val) → e x ≡ Some v → (l : Label) → IsLabel l → HasLabel l v → AbsentFrom l arms → Calm (λ a. ⊥) (stream_arms S.world.outcome C h arms e)
rest_calm S T C O.no_arm h e v q l il f a = tt
rest_calm S T C (O.arm {x = x} {l = k} {n = n} {arms = arms} p ik op ab r t) h e v q l il f a =
    MoveLists.calm_append (λ z. ⊥) (stream S.world.outcome C h n e) (stream_arms S.world.outcome C h arms e) (opens_calm S.world.outcome C h n x k op e v q (λ g. a.0 (Sounds.label_unique l k v il ik f g))) (rest_calm S T C t h e v q l il f a.1)

module _ (S : System) (D : Parameters) (F : Fits S D) (C : Calls) (called : CallsSound S C) (lined : (k : ℕ) → k < S.count → length (S.procs k).first ≡ length (S.procs k).last) (T : ℕ → TypeTerm) (proper : (x : ℕ) → ProperType D (T x)) (θ : TypeChoice) where
  -- tests of fresh variables
  test_moves : {A : Type 0} (R : World → A → Type 0) (io one : Bool) (V : World) (a : Bindings) (t : Bool) (f : Bindings → Items A) → Moves R io one V (f a) → Moves R io one V (bind (first (of_option (cond t (Some a) None))) f)
  test_moves R io one V a true f m = subst (λ xs. Moves R io one V xs) (sym (append_end (f a))) m
  test_moves R true one V a false f m = tt
  test_moves R false one V a false f m = tt

  pub same_bound : (R : World → Bindings → Type 0) (io one : Bool) (V : World) (a : Bindings) (x y : ℕ) (v w : Val) (f : Bindings → Items Bindings) → Moves R io one V (f a) → (o p : Option Val) → o ≡ Some v → p ≡ Some w → Moves R io one V (bind (first (same_items x y a o p)) f)
  same_bound R io one V a x y v w f m None p q r = absurd (no q)
    where
      no : None ≡ Some v → ⊥
      no e = cc
  same_bound R io one V a x y v w f m (Some u) None q r = absurd (no r)
    where
      no : None ≡ Some w → ⊥
      no e = cc
  same_bound R io one V a x y v w f m (Some u) (Some z) q r = test_moves R io one V a (same_value u z) f m

  fits_any : (io one : Bool) (d d' : Determinism) → d.can_fail ≡ true → IoFits io one d → IoFits io one d'
  fits_any false one d d' e h = tt
  fits_any true one d d' e h = absurd (true_not_false (sym e ∙ h.0))

  tests_move : (R : World → Bindings → Type 0) (known : Known) (h : ℕ) (one : Bool) (V : World) (K : List ℕ) (c : Insts) (ns : Nodes) (tests : List (ℕ × ℕ)) → TestsInOrder S T tests c → PairsIn K tests → (a : Bindings) → TypedAt S θ T K c a → IoFits (one_is_io S T (tested_by tests ns)) one (determined_all S T c known (tested_by tests ns)) → IoAllPlaced S T c known one (tested_by tests ns) →
      (IoFits (one_is_io S T ns) one (determined_all S T c known ns) → IoAllPlaced S T c known one ns → Moves R (one_is_io S T ns) one V (stream_all S.world.outcome C h ns a)) → Moves R (one_is_io S T (tested_by tests ns)) one V (stream_all S.world.outcome C h (tested_by tests ns) a)
  tests_move R known h one V K c ns [] u p a m fit pl k = k fit pl
  tests_move R known h one V K c ns (s ∷ ts) u p a m fit pl k =
      let v = Typed.bound_at S D F θ (c s.0) (T s.0) (a s.0) u.1 (m s.0 p.0) in
      let w = Typed.bound_at S D F θ (c s.1) (T s.1) (a s.1) u.2 (m s.1 p.1) in
      same_bound R (one_is_io S T (tested_by ts ns)) one V a s.0 s.1 v.0 w.0 (λ d. stream_all S.world.outcome C h (tested_by ts ns) d)
      (tests_move R known h one V K c ns ts u.3 p.2 a m (fits_any (one_is_io S T (tested_by ts ns)) one (determined_all S T c known (tested_by (s ∷ ts) ns)) (determined_all S T c known (tested_by ts ns)) refl fit) pl.1 k)
      (a s.0) (a s.1) v.1 w.1

  module _ (moved : CallsMove S C) (lends : CallsLend S C) (tidy : TidyProcedures S) (lib : Library_types) (io : FitsIo S.world lib) where
    -- variables that are free hold nothing
    holds_more : (W : World) (M N : List ℕ) (b : Insts) (e : Bindings) → ((x : ℕ) → In x N → In x M ⊎ ((b x ≡ 0) × (e x ≡ None))) → Holds S T W M b e → Holds S T W N b e
    holds_more W M N b e f h =
        record {
          tells = λ x i l. ⊎_elim (λ j. h.tells x j l) (λ n. absurd (two (sym n.0 ∙ l.1))) (f x i);
          alone = λ x y i j l m. ⊎_elim (λ k. ⊎_elim (λ r. h.alone x y k r l m) (λ n. absurd (two (sym n.0 ∙ m.1))) (f y j)) (λ n. absurd (two (sym n.0 ∙ l.1))) (f x i);
          shares = λ x i n v q. ⊎_elim (λ j. h.shares x j n v q) (λ z. absurd (no v (sym z.1 ∙ q))) (f x i);
        }
      where
        two : (◌≡◌ {A = ℕ} 0 2) → ⊥
        two e = omega arith

        no : (v : Val) → None ≡ Some v → ⊥
        no v e = cc

    holds_in : (W : World) (M N : List ℕ) (b : Insts) (e : Bindings) → Among N M → Holds S T W M b e → Holds S T W N b e
    holds_in W M N b e f h = record { tells = λ x i l. h.tells x (f x i) l; alone = λ x y i j l m. h.alone x y (f x i) (f y j) l m; shares = λ x i. h.shares x (f x i) }

    mutual
      pub moves_node : {O Q : List ℕ} {b : Insts} {g : Flat_goal} {n : Node} {o : Option Insts} → OrderedNode S T O Q b g n o → TypedGoal S.world.source T g → (known : Known) (h : ℕ) (one : Bool) → IoPlaced S T b known one n →
          (L : List ℕ) → Among L O → (e : Bindings) → Closed O Q b e → TypedAt S θ T (variables_of g) b e → TypedAt S θ T L b e → Knows known e →
          (W : World) (M : List ℕ) → Holds S T W M b e → Among L M → Among (variables_of g) M → Moves (HoldsAfter S T L o) (is_io S T n) one W (stream S.world.outcome C h n e)
      moves_node (O.kept {Q = Q} {b = b} {s = s} {changes = changes} {det = d} {o = o} r k) tg known h one pl L u e cl ty li kk W M hw lm gm =
          let m = Rattle.mc_accepted.specs.Ordered.is_pruned Q b o in
          pruned_moves S T (HoldsAfter S T L o) (is_io_in S T s) one m (determined S T b known (node s changes d m)) W (stream_of S.world.outcome C h s e) pl.0
          (moves r tg known h (one || m) (fits_here S T (is_io_in S T s) one m (determined_in S T b known s) pl.0) pl.1 L u e cl ty li kk W M hw lm gm)

      pub moves : {O Q : List ℕ} {b : Insts} {g : Flat_goal} {s : Scheduled} {o : Option Insts} → Ordered S T O Q b g s o → TypedGoal S.world.source T g → (known : Known) (h : ℕ) (one : Bool) → IoFits (is_io_in S T s) one (determined_in S T b known s) → IoPlacedIn S T b known one s →
          (L : List ℕ) → Among L O → (e : Bindings) → Closed O Q b e → TypedAt S θ T (variables_of g) b e → TypedAt S θ T L b e → Knows known e →
          (W : World) (M : List ℕ) → Holds S T W M b e → Among L M → Among (variables_of g) M → Moves (HoldsAfter S T L o) (is_io_in S T s) one W (stream_of S.world.outcome C h s e)
      moves (O.conj r) tg known h one fit pl L u e cl ty li kk W M hw lm gm = moves_all r tg known h one fit pl L u e cl ty li kk W M hw lm gm
      moves (O.implied_alone {xs = xs} r) tg known h one fit pl L u e cl ty li kk W M hw lm gm =
          moves_all r (tg, tt) known h one fit pl L u e cl (λ x i. ty x (⊎_elim (λ j. j) (λ j. absurd j) (in_either x xs [] i))) li kk W M hw lm (λ x i. gm x (⊎_elim (λ j. j) (λ j. absurd j) (in_either x xs [] i)))
      moves (O.some {vs = vs} {g = g} {n = n} a r) tg known h one fit pl L u e cl ty li kk W M hw lm gm =
          moves_node r tg known h one pl L u e cl (λ x i. ty x (in_right x vs (variables_of g) i)) li kk W M hw lm (λ x i. gm x (in_right x vs (variables_of g) i))
      moves (O.neg {O = O} {Q = Q} {b = b} {g = g} {n = n} {o = o} r m) tg known h one fit pl L u e cl ty li kk W M hw lm gm =
          let k = moves_node r tg known h one (placed_free S T n b known one pl) [] (λ x i. absurd i) e (λ x. ⊎_elim (λ z. inl (⊎_elim (λ y. inl (in_left x O (free_in g) y)) (λ y. inr y) z)) (λ z. inr z) (cl x)) ty (λ x i. absurd i) kk W M hw (λ x i. absurd i) gm in
          subst (λ io. Moves (HoldsAfter S T L (Some b)) io one W (stream_of S.world.outcome C h (Not n) e)) (sym pl)
          (MoveLists.calm_negate (HoldsAfter S T [] o W) (HoldsAfter S T L (Some b) W) e (stream S.world.outcome C h n e) (subst (λ io. Moves (HoldsAfter S T [] o) io one W (stream S.world.outcome C h n e)) pl k) (holds_in W M L b e lm hw))
      moves (O.assign {x = x} {y = y} n m a) tg known h one fit pl L u e cl ty li kk W M hw lm gm = assign_goal S D F C called lined T proper θ n m a.1.0 tg h L e (ty x (inl refl)) (ty y (inr (inl refl))) W M hw lm (gm y (inr (inl refl)))
      moves (O.assign_back {x = x} {y = y} n m a) tg known h one fit pl L u e cl ty li kk W M hw lm gm = assign_goal S D F C called lined T proper θ n m a.1.0 (sym tg) h L e (ty x (inr (inl refl))) (ty y (inl refl)) W M hw lm (gm y (inl refl))
      moves (O.test n m s a) tg known h one fit pl L u e cl ty li kk W M hw lm gm = tested_moves S D F C called lined T proper θ (O.test n m s a) tt tg known h L u e cl ty li W M hw lm gm
      moves (O.build n a m d w) tg known h one fit pl L u e cl ty li kk W M hw lm gm = tested_moves S D F C called lined T proper θ (O.build n a m d w) tt tg known h L u e cl ty li W M hw lm gm
      moves (O.take n d a w) tg known h one fit pl L u e cl ty li kk W M hw lm gm = tested_moves S D F C called lined T proper θ (O.take n d a w) tt tg known h L u e cl ty li W M hw lm gm
      moves (O.take_never n d a) tg known h one fit pl L u e cl ty li kk W M hw lm gm = tested_moves S D F C called lined T proper θ (O.take_never n d a) tt tg known h L u e cl ty li W M hw lm gm
      moves (O.put n) tg known h one fit pl L u e cl ty li kk W M hw lm gm = tested_moves S D F C called lined T proper θ (O.put n) tt tg known h L u e cl ty li W M hw lm gm
      moves (O.test_constant n d a) tg known h one fit pl L u e cl ty li kk W M hw lm gm = tested_moves S D F C called lined T proper θ (O.test_constant n d a) tt tg known h L u e cl ty li W M hw lm gm
      moves (O.test_never n d a) tg known h one fit pl L u e cl ty li kk W M hw lm gm = tested_moves S D F C called lined T proper θ (O.test_never n d a) tt tg known h L u e cl ty li W M hw lm gm
      moves (O.call {b = b} {c = c} {p = p} {xs = xs} {last = last} l us d a) tg known h one fit pl L u e cl ty li kk W M hw lm gm = call_atom S D F C called lends tidy lined T proper θ b c p xs last l us a tg known h L e ty li M hw.shares lm gm moved W hw one
      moves (O.apply {b = b} {c = c} {p = p} {op = op} {xs = xs} q us d i a) tg known h one fit pl L u e cl ty li kk W M hw lm gm =
          apply_moves S D F θ T proper tg.0 b e M hw.shares lib io known L p op xs c q (Sounds.map_types S T D F θ proper tg.0 xs (S.world.source.preds p).types tg.1) us i a ty li lm gm W hw one
      moves (O.disj {O = O} {b = b} {ns = ns} {os = os} {o = o} r jn) tg known h one fit pl L u e cl ty li kk W M hw lm gm =
          (moves_any r tg known h one pl.0 (fits_rank (one_is_io S T ns) one (determined_any S T b known ns) fit) pl.1 L u e cl ty li kk W M hw lm gm o (Typed.joined_reached S D F θ T proper L O b os o u jn) (holds_joined S D F θ T proper L O b os o u jn)).0
      moves (O.switch {O = O} {b = b} {x = x} {gs = gs} {os = os} {o = o} n i r jn) tg known h one fit pl L u e cl ty li kk W M hw lm gm =
          let w = Typed.bound_at S D F θ (b x) (T x) (e x) n (ty x (Sounds.frees_in gs x i)) in
          moves_arms r tg known h one pl L u e cl ty li kk W M hw lm gm w.0 w.1 o (Typed.joined_reached S D F θ T proper L O b os o u jn) (holds_joined S D F θ T proper L O b os o u jn)
      moves (O.ite {O = O} {Q = Q} {b = b} {c = c} {vs = vs} {g = g} {h = i} {k = j} {n = n} {t = t} {u = f} {o = o} {o' = o'} {o'' = o''} a rc bn rt re jn) tg known h one fit pl L u e cl ty li kk W M hw lm gm =
          let vn = variables_of_node n in
          let vt = variables_of_node t in
          let vf = variables_of_node f in
          let Ws = vs ++ (vn ++ (vt ++ vf)) in
          let V = vs ++ (variables_of g ++ (variables_of i ++ variables_of j)) in
          let xs = stream S.world.outcome C h n e in
          let ys = stream S.world.outcome C h f e in
          let wn : (x : ℕ) → In x vn → In x Ws = λ x z. in_right x vs (vn ++ (vt ++ vf)) (in_left x vn (vt ++ vf) z) in
          let wt : (x : ℕ) → In x vt → In x Ws = λ x z. in_right x vs (vn ++ (vt ++ vf)) (in_right x vn (vt ++ vf) (in_left x vt vf z)) in
          let vg : (x : ℕ) → In x (variables_of g) → In x V = λ x z. in_right x vs (variables_of g ++ (variables_of i ++ variables_of j)) (in_left x (variables_of g) (variables_of i ++ variables_of j) z) in
          let vi : (x : ℕ) → In x (variables_of i) → In x V = λ x z. in_right x vs (variables_of g ++ (variables_of i ++ variables_of j)) (in_right x (variables_of g) (variables_of i ++ variables_of j) (in_left x (variables_of i) (variables_of j) z)) in
          let vj : (x : ℕ) → In x (variables_of j) → In x V = λ x z. in_right x vs (variables_of g ++ (variables_of i ++ variables_of j)) (in_right x (variables_of g) (variables_of i ++ variables_of j) (in_right x (variables_of i) (variables_of j) z)) in
          let tc : TypedAt S θ T (variables_of g) b e = λ x z. ty x (vg x z) in
          let te : TypedAt S θ T (variables_of j) b e = λ x z. ty x (vj x z) in
          let K = L ++ variables_of i in
          let tk : TypedAt S θ T K b e = λ x z. ⊎_elim (λ y. li x y) (λ y. ty x (vi x y)) (in_either x L (variables_of i) z) in
          let eqc : insts_after n b ≡ c = node_after rc in
          let ko = among_two L O (without (free_in g) vs) (variables_of i) u in
          let clc = closed_more O Q (without (free_in g) vs ++ variables_of i) vt b e cl in
          let St : (d : Bindings) → BindsOnly vn e d → TypedAt S θ T K c d → Sound S θ T known L vt d o (determined S T c known t) (stream S.world.outcome C h t d) = λ d bo m. Sounds.sound_node S D F C called lined T proper θ rt tg.1 known h L (among_left L O (variables_of g) u) d (closed_after O Q (variables_of g) vn b c e d (node_from S D F T rc) bo cl) (λ x z. m x (in_right x L (variables_of i) z)) (λ x z. m x (in_left x L (variables_of i) z)) in
          let se = Sounds.sound_node S D F C called lined T proper θ re tg.2 known h L u e cl te li in
          subst (λ io. Moves (HoldsAfter S T L o'') (io || (is_io S T t || is_io S T f)) one W (stream_of S.world.outcome C h (Ite vs n t f) e)) (sym pl.0)
          (ite_moves S θ T known K L vn Ws e kk (Some c) o'' (determined S T b known n) (determined S T (insts_after n b) known t) xs (λ d. stream S.world.outcome C h t d)
          (Sounds.sound_node S D F C called lined T proper θ rc tg.0 known h K ko e clc tc tk)
          (λ d gr bo m. Combine.sound_more S θ T known L vt Ws d o'' (determined S T (insts_after n b) known t) (stream S.world.outcome C h t d) wt (subst (λ z. Sound S θ T known L vt d o'' (determined S T z known t) (stream S.world.outcome C h t d)) (sym eqc) (Combine.reached_sound S θ T known L vt d o o'' (determined S T c known t) (stream S.world.outcome C h t d) (Typed.joined_reached S D F θ T proper L O b (o ∷ o' ∷ []) o'' u jn o (inl refl)) (St d bo m))))
          (HoldsAfter S T K (Some c)) (HoldsAfter S T L o'') (determined S T b known f) ys W (is_io S T t) (is_io S T f) one
          (subst (λ io. Moves (HoldsAfter S T K (Some c)) io one W xs) pl.0 (moves_node rc tg.0 known h one (placed_free S T n b known one pl.0) K ko e clc tc tk kk W M hw (λ x z. ⊎_elim (λ y. lm x y) (λ y. gm x (vi x y)) (in_either x L (variables_of i) z)) (λ x z. gm x (vg x z))))
          (subst (λ io. IoFits (io || (is_io S T t || is_io S T f)) one (ite (determined S T b known n) (determined S T (insts_after n b) known t) (determined S T b known f))) pl.0 fit)
          (λ d y z.
          MoveLists.moves_each (λ k. Grows d k × (BindsOnly vt d k × Reached S θ T L o k)) (HoldsAfter S T L o) (HoldsAfter S T L o'') (λ X k w q. holds_joined S D F θ T proper L O b (o ∷ o' ∷ []) o'' u jn o (inl refl) X k w.1.1 q) (is_io S T t) one W (stream S.world.outcome C h t d) (St d y.1.0 y.1.1).each
          (moves_node rt tg.1 known h one (subst (λ k. IoPlaced S T k known one t) eqc pl.1) L (among_left L O (variables_of g) u) d (closed_after O Q (variables_of g) vn b c e d (node_from S D F T rc) y.1.0 cl) (λ x w. y.1.1 x (in_right x L (variables_of i) w)) (λ x w. y.1.1 x (in_left x L (variables_of i) w)) (knows_more known e d y.0 kk) W K z (λ x w. in_left x L (variables_of i) w) (λ x w. in_right x L (variables_of i) w)))
          (MoveLists.moves_each (λ k. Grows e k × (BindsOnly vf e k × Reached S θ T L o' k)) (HoldsAfter S T L o') (HoldsAfter S T L o'') (λ X k w q. holds_joined S D F θ T proper L O b (o ∷ o' ∷ []) o'' u jn o' (inr (inl refl)) X k w.1.1 q) (is_io S T f) one W ys se.each
          (moves_node re tg.2 known h one pl.2 L u e cl te li kk W M hw lm (λ x z. gm x (vj x z)))))
      moves (O.ite_never {O = O} {Q = Q} {b = b} {vs = vs} {g = g} {h = i} {k = j} {n = n} {t = t} {u = f} {o = o} {o'' = o''} a rc em re jn) tg known h one fit pl L u e cl ty li kk W M hw lm gm =
          let vn = variables_of_node n in
          let vt = variables_of_node t in
          let vf = variables_of_node f in
          let Ws = vs ++ (vn ++ (vt ++ vf)) in
          let V = vs ++ (variables_of g ++ (variables_of i ++ variables_of j)) in
          let xs = stream S.world.outcome C h n e in
          let ys = stream S.world.outcome C h f e in
          let vg : (x : ℕ) → In x (variables_of g) → In x V = λ x z. in_right x vs (variables_of g ++ (variables_of i ++ variables_of j)) (in_left x (variables_of g) (variables_of i ++ variables_of j) z) in
          let vj : (x : ℕ) → In x (variables_of j) → In x V = λ x z. in_right x vs (variables_of g ++ (variables_of i ++ variables_of j)) (in_right x (variables_of g) (variables_of i ++ variables_of j) (in_right x (variables_of i) (variables_of j) z)) in
          let tc : TypedAt S θ T (variables_of g) b e = λ x z. ty x (vg x z) in
          let te : TypedAt S θ T (variables_of j) b e = λ x z. ty x (vj x z) in
          let wo = without (free_in g) vs in
          let clc : Closed (O ++ (wo ++ variables_of i)) Q b e = λ x. ⊎_elim (λ z. inl (⊎_elim (λ y. inl (in_left x O (wo ++ variables_of i) y)) (λ y. inr y) z)) (λ z. inr z) (cl x) in
          let lo = among_left L O (wo ++ variables_of i) u in
          let se = Sounds.sound_node S D F C called lined T proper θ re tg.2 known h L u e cl te li in
          subst (λ io. Moves (HoldsAfter S T L o'') (io || (is_io S T t || is_io S T f)) one W (stream_of S.world.outcome C h (Ite vs n t f) e)) (sym pl.0)
          (ite_moves S θ T known L L vn Ws e kk None o'' (determined S T b known n) (determined S T (insts_after n b) known t) xs (λ d. stream S.world.outcome C h t d)
          (Sounds.sound_node S D F C called lined T proper θ rc tg.0 known h L lo e clc tc li)
          (λ d gr bo m. absurd m)
          (HoldsAfter S T L None) (HoldsAfter S T L o'') (determined S T b known f) ys W (is_io S T t) (is_io S T f) one
          (subst (λ io. Moves (HoldsAfter S T L None) io one W xs) pl.0 (moves_node rc tg.0 known h one (placed_free S T n b known one pl.0) L lo e clc tc li kk W M hw lm (λ x z. gm x (vg x z))))
          (subst (λ io. IoFits (io || (is_io S T t || is_io S T f)) one (ite (determined S T b known n) (determined S T (insts_after n b) known t) (determined S T b known f))) pl.0 fit)
          (λ d y z. absurd z)
          (MoveLists.moves_each (λ k. Grows e k × (BindsOnly vf e k × Reached S θ T L o k)) (HoldsAfter S T L o) (HoldsAfter S T L o'') (λ X k w q. holds_joined S D F θ T proper L O b (o ∷ []) o'' u jn o (inl refl) X k w.1.1 q) (is_io S T f) one W ys se.each
          (moves_node re tg.2 known h one pl.2 L u e cl te li kk W M hw lm (λ x z. gm x (vj x z)))))

      pub moves_all : {O Q : List ℕ} {b : Insts} {gs : Flat_goals} {ns : Nodes} {o : Option Insts} → OrderedAll S T O Q b gs ns o → TypedGoals S.world.source T gs → (known : Known) (h : ℕ) (one : Bool) → IoFits (one_is_io S T ns) one (determined_all S T b known ns) → IoAllPlaced S T b known one ns →
          (L : List ℕ) → Among L O → (e : Bindings) → Closed O Q b e → TypedAt S θ T (variables_of_all gs) b e → TypedAt S θ T L b e → Knows known e →
          (W : World) (M : List ℕ) → Holds S T W M b e → Among L M → Among (variables_of_all gs) M → Moves (HoldsAfter S T L o) (one_is_io S T ns) one W (stream_all S.world.outcome C h ns e)
      moves_all (O.done {b = b}) tg known h one fit pl L u e cl ty li kk W M hw lm gm = (holds_in W M L b e lm hw, tt)
      moves_all (O.dropped {O = O} {Q = Q} {b = b} {g = g} {rest = rest} {n = n} p r) tg known h one fit pl L u e cl ty li kk W M hw lm gm =
          let q = picks_typed S.world.source T p tg in
          let clc : Closed (O ++ variables_of_all rest) Q b e = λ x. ⊎_elim (λ z. inl (⊎_elim (λ y. inl (in_left x O (variables_of_all rest) y)) (λ y. inr y) z)) (λ z. inr z) (cl x) in
          let tc : TypedAt S θ T (variables_of g) b e = λ x i. ty x (picks_goal p x i) in
          let lo = among_left L O (variables_of_all rest) u in
          conj_moves S θ T known L L (variables_of_node n) (variables_of_node n ++ []) e kk None None (determined S T b known n) det (stream S.world.outcome C h n e) (λ a. Answer a End)
          (Sounds.sound_node S D F C called lined T proper θ r q.0 known h L lo e clc tc li) (λ a gr bo m. absurd m) (HoldsAfter S T L None) (HoldsAfter S T L None)
          (is_io S T n) false one (one && true) W (λ z. and_first one true z)
          (moves_node r q.0 known h (one && true) pl.0 L lo e clc tc li kk W M hw lm (λ x i. gm x (picks_goal p x i)))
          fit (λ f V a i z. absurd z)
      moves_all (O.next {O = O} {Q = Q} {b = b} {c = c} {g = g} {rest = rest} {n = n} {ns = ns} {o = o} p r t) tg known h one fit pl L u e cl ty li kk W M hw lm gm =
          let q = picks_typed S.world.source T p tg in
          let V = variables_of_all rest in
          let Ws = variables_of_node n ++ variables_of_nodes ns in
          let eqc : insts_after n b ≡ c = node_after r in
          let clc = closed_more O Q V (variables_of_nodes ns) b e cl in
          let tc : TypedAt S θ T (variables_of g) b e = λ x i. ty x (picks_goal p x i) in
          let tl : TypedAt S θ T (L ++ V) b e = λ x i. ⊎_elim (λ j. li x j) (λ j. ty x (picks_rest p x j)) (in_either x L V i) in
          let lo = among_both L O V u in
          conj_moves S θ T known (L ++ V) L (variables_of_node n) Ws e kk (Some c) o (determined S T b known n) (determined_all S T (insts_after n b) known ns) (stream S.world.outcome C h n e) (λ a. stream_all S.world.outcome C h ns a)
          (Sounds.sound_node S D F C called lined T proper θ r q.0 known h (L ++ V) lo e clc tc tl)
          (λ a gr bo m.
          Combine.sound_more S θ T known L (variables_of_nodes ns) Ws a o (determined_all S T (insts_after n b) known ns) (stream_all S.world.outcome C h ns a) (λ x i. in_right x (variables_of_node n) (variables_of_nodes ns) i)
          (subst (λ z. Sound S θ T known L (variables_of_nodes ns) a o (determined_all S T z known ns) (stream_all S.world.outcome C h ns a)) (sym eqc)
          (Sounds.sound_all S D F C called lined T proper θ t q.1 known h L (among_left L O (variables_of g) u) a (closed_after O Q (variables_of g) (variables_of_node n) b c e a (node_from S D F T r) bo cl) (λ x i. m x (in_right x L V i)) (λ x i. m x (in_left x L V i)))))
          (HoldsAfter S T (L ++ V) (Some c)) (HoldsAfter S T L o)
          (is_io S T n) (one_is_io S T ns) one (one && none_fails S T (insts_after n b) known ns) W (λ z. and_first one (none_fails S T (insts_after n b) known ns) z)
          (moves_node r q.0 known h (one && none_fails S T (insts_after n b) known ns) pl.0 (L ++ V) lo e clc tc tl kk W M hw (λ x i. ⊎_elim (λ j. lm x j) (λ j. gm x (picks_rest p x j)) (in_either x L V i)) (λ x i. gm x (picks_goal p x i)))
          fit
          (λ f X a i z.
          moves_all t q.1 known h one (subst (λ y. IoFits (one_is_io S T ns) one (determined_all S T y known ns)) eqc f) (subst (λ y. IoAllPlaced S T y known one ns) eqc pl.1) L (among_left L O (variables_of g) u) a
          (closed_after O Q (variables_of g) (variables_of_node n) b c e a (node_from S D F T r) i.1.0 cl) (λ x j. i.1.1 x (in_right x L V j)) (λ x j. i.1.1 x (in_left x L V j)) (knows_more known e a i.0 kk) X (L ++ V) z (λ x j. in_left x L V j) (λ x j. in_right x L V j))
      moves_all (O.implied_outputs {O = O} {Q = Q} {b = b} {c = c} {p = p} {op = op} {xs = xs} {zs = zs} {gs = gs} {rest = rest} {changes = changes} {d = d} {ns = ns} {o = o} tests pk bq mo fr nd di apt ts us i af kc t) tg known h one fit pl L u e cl ty li kk W M hw lm gm =
          let q = picks_typed S.world.source T pk tg in
          let V = variables_of_all rest ++ (xs ++ zs) in
          let K = L ++ V in
          let vs = at_inputs (inputs_of op) zs ++ at_outputs (inputs_of op) zs in
          let rs = tested_by tests ns in
          let mark = Rattle.mc_accepted.specs.Ordered.is_pruned (Q ++ variables_of_nodes rs) b (Some c) in
          let ap = Apply op (at_inputs (inputs_of op) zs) (at_outputs (inputs_of op) zs) in
          let n = node ap changes d mark in
          let Ws = vs ++ variables_of_nodes rs in
          let places = implied_places 0 (modes_of op) xs (λ x. is_bound (b x)) in
          let split = fresh_split S T 0 places xs zs tests fr in
          let tx : TypedAt S θ T xs b e = λ x z. ty x (picks_goal pk x z) in
          let tz : TypedAt S θ T zs b e = Sounds.typed_fresh S D F C called lined T proper θ O Q xs zs (firsts tests) gs b e cl apt split tx in
          let tk : TypedAt S θ T K b e = λ x z. ⊎_elim (λ y. li x y) (λ y. ⊎_elim (λ w. ty x (picks_rest pk x w)) (λ w. ⊎_elim (λ r. tx x r) (λ r. tz x r) (in_either x xs zs w)) (in_either x (variables_of_all rest) (xs ++ zs) y)) (in_either x L V z) in
          let types = Sounds.fresh_types S T D F θ proper c q.0.0 0 places xs zs tests (S.world.source.preds p).types (Sounds.map_types S T D F θ proper q.0.0 xs (S.world.source.preds p).types q.0.1) ts fr in
          let after : insts_after n b ≡ c = Rattle.std.proofs.Math.Path.fun_ext (λ x. sym (kc.0 x)) in
          let pairs = fresh_pairs S T K 0 places xs zs tests (λ y z. in_right y L V (in_right y (variables_of_all rest) (xs ++ zs) (in_left y xs zs z))) (λ y z. in_right y L V (in_right y (variables_of_all rest) (xs ++ zs) (in_right y xs zs z))) fr in
          let oneN = one && none_fails S T (insts_after n b) known rs in
          let closed : (a : Bindings) → BindsOnly vs e a → Closed (O ++ (xs ++ zs)) (Q ++ (xs ++ zs)) c a = λ a bo.
          Sounds.closed_within (O ++ (xs ++ zs)) (Q ++ vs) (Q ++ (xs ++ zs)) c a (λ x z. ⊎_elim (λ y. in_left x Q (xs ++ zs) y) (λ y. in_right x Q (xs ++ zs) (in_right x xs zs (⊎_elim (λ w. in_inputs (inputs_of op) zs x w) (λ w. in_outputs (inputs_of op) zs x w) (in_either x (at_inputs (inputs_of op) zs) (at_outputs (inputs_of op) zs) y)))) (in_either x Q vs z))
          (closed_after O Q (xs ++ zs) vs b c e a (apply_from S D F T op zs b c af) bo cl) in
          let old : (x : ℕ) → In x (M ++ zs) → In x M ⊎ ((b x ≡ 0) × (e x ≡ None)) = λ x z. ⊎_elim (λ y. inl y) (λ y. ⊎_elim (λ w. inl (gm x (picks_goal pk x w))) (λ w. ⊎_elim (λ r. absurd (apt x w (⊎_elim (λ k. in_left x O (Q ++ variables_of_all gs) k) (λ k. in_right x O (Q ++ variables_of_all gs) (in_left x Q (variables_of_all gs) k)) r))) (λ r. inr r) (cl x)) (split x y)) (in_either x M zs z) in
          let hz = holds_more W M (M ++ zs) b e old hw in
          conj_moves S θ T known K L vs Ws e kk (Some c) o (determined S T b known n) (determined_all S T (insts_after n b) known rs) (stream S.world.outcome C h n e) (λ a. stream_all S.world.outcome C h rs a)
          (Combine.pruned_sound S θ T known K vs e (Some c) (determined_in S T b known ap) mark (stream_of S.world.outcome C h ap e)
          (subst (λ k. Sound S θ T known K vs e (unless_never k c) (determined_in S T b known ap) (stream_of S.world.outcome C h ap e)) mo
          (Callings.apply_sound S D F θ T proper known K p op q.0.0 zs b c e bq types us i af tz tk)))
          (λ a gr bo m.
          subst (λ z. Sound S θ T known L Ws a o (determined_all S T z known rs) (stream_all S.world.outcome C h rs a)) (sym after)
          (Sounds.tests_sound S D F C called lined T proper θ known h K L Ws c o ns tests (λ x z. in_left x L V z) ts pairs a m
          (λ a' b' m'.
          Combine.sound_more S θ T known L (variables_of_nodes ns) Ws a' o (determined_all S T c known ns) (stream_all S.world.outcome C h ns a') (λ x z. in_right x vs (variables_of_nodes rs) (Rattle.laws_sound.proofs.Changes.tests_in tests ns x z))
          (Sounds.sound_all S D F C called lined T proper θ t q.1 known h L (among_left L O (xs ++ zs) u) a' (Sounds.closed_same (O ++ (xs ++ zs)) (Q ++ (xs ++ zs)) c a a' b' (closed a bo)) (λ x z. m' x (in_right x L V (in_left x (variables_of_all rest) (xs ++ zs) z))) (λ x z. m' x (in_left x L V z))))))
          (HoldsAfter S T K (Some c)) (HoldsAfter S T L o) (is_io S T n) (one_is_io S T rs) one oneN W (λ z. and_first one (none_fails S T (insts_after n b) known rs) z)
          (pruned_moves S T (HoldsAfter S T K (Some c)) (is_io_in S T ap) oneN mark (determined S T b known n) W (stream_of S.world.outcome C h ap e) pl.0.0
          (subst (λ k. Moves (HoldsAfter S T K (unless_never k c)) (is_io_in S T ap) (oneN || mark) W (stream_of S.world.outcome C h ap e)) mo
          (apply_moves S D F θ T proper q.0.0 b e (M ++ zs) hz.shares lib io known K p op zs c bq types us i af tz tk
          (λ x z. ⊎_elim (λ y. in_left x M zs (lm x y)) (λ y. ⊎_elim (λ w. in_left x M zs (gm x (picks_rest pk x w))) (λ w. ⊎_elim (λ r. in_left x M zs (gm x (picks_goal pk x r))) (λ r. in_right x M zs r) (in_either x xs zs w)) (in_either x (variables_of_all rest) (xs ++ zs) y)) (in_either x L V z))
          (λ x z. in_right x M zs z) W hz (oneN || mark))))
          fit
          (λ f X a j z.
          tests_move (HoldsAfter S T L o) known h one X K c ns tests ts pairs a j.1.1 (subst (λ y. IoFits (one_is_io S T rs) one (determined_all S T y known rs)) after f) (subst (λ y. IoAllPlaced S T y known one rs) after pl.1)
          (λ f' pl'. moves_all t q.1 known h one f' pl' L (among_left L O (xs ++ zs) u) a (closed a j.1.0) (λ x w. j.1.1 x (in_right x L V (in_left x (variables_of_all rest) (xs ++ zs) w))) (λ x w. j.1.1 x (in_left x L V w)) (knows_more known e a j.0 kk) X K z (λ x w. in_left x L V w) (λ x w. in_right x L V (in_left x (variables_of_all rest) (xs ++ zs) w))))

      pub moves_any : {O Q : List ℕ} {b : Insts} {gs : Flat_goals} {ns : Nodes} {os : List (Option Insts)} → OrderedAny S T O Q b gs ns os → TypedGoals S.world.source T gs → (known : Known) (h : ℕ) (one : Bool) →
          (one ≡ true → one_is_io S T ns ≡ true → no_disjunct_fails S T b known ns ≡ true) → (one_is_io S T ns ≡ true → one ≡ false → rank (determined_any S T b known ns).most ≤ 1) → IoEachPlaced S T b known one ns →
          (L : List ℕ) → Among L O → (e : Bindings) → Closed O Q b e → TypedAt S θ T (variables_of_all gs) b e → TypedAt S θ T L b e → Knows known e →
          (W : World) (M : List ℕ) → Holds S T W M b e → Among L M → Among (variables_of_all gs) M →
          (w : Option Insts) → ((o : Option Insts) → Is o os → (a : Bindings) → Reached S θ T L o a → Reached S θ T L w a) → ((o : Option Insts) → Is o os → (V : World) (a : Bindings) → Reached S θ T L o a → HoldsAfter S T L o V a → HoldsAfter S T L w V a) →
          Moves (HoldsAfter S T L w) (one_is_io S T ns) one W (stream_any S.world.outcome C h ns e) × ((determined_any S T b known ns).most ≡ Zero → Calm (λ a. ⊥) (stream_any S.world.outcome C h ns e))
      moves_any O.no_other tg known h one nf rk pl L u e cl ty li kk W M hw lm gm w ra ha = (tt, λ z. tt)
      moves_any (O.either {b = b} {g = g} {gs = gs} {n = n} {ns = ns} {o = o} r t) tg known h one nf rk pl L u e cl ty li kk W M hw lm gm w ra ha =
          let vn = variables_of_node n in
          let xs = stream S.world.outcome C h n e in
          let ys = stream_any S.world.outcome C h ns e in
          let d = determined S T b known n in
          let d' = determined_any S T b known ns in
          let tc : TypedAt S θ T (variables_of g) b e = λ x i. ty x (in_left x (variables_of g) (variables_of_all gs) i) in
          let tr : TypedAt S θ T (variables_of_all gs) b e = λ x i. ty x (in_right x (variables_of g) (variables_of_all gs) i) in
          let sd = Sounds.sound_node S D F C called lined T proper θ r tg.0 known h L u e cl tc li in
          let mn = MoveLists.moves_each (λ k. Grows e k × (BindsOnly vn e k × Reached S θ T L o k)) (HoldsAfter S T L o) (HoldsAfter S T L w) (λ X k m q. ha o (inl refl) X k m.1.1 q) (is_io S T n) one W xs sd.each
          (moves_node r tg.0 known h one pl.0 L u e cl tc li kk W M hw lm (λ x i. gm x (in_left x (variables_of g) (variables_of_all gs) i))) in
          let rest = moves_any t tg.1 known h one (λ p q. and_second (not d.can_fail) (no_disjunct_fails S T b known ns) (nf p (or_right (is_io S T n) (one_is_io S T ns) q))) (λ q p. disj_second d d' (rk (or_right (is_io S T n) (one_is_io S T ns) q) p)) pl.1 L u e cl tr li kk W M hw lm (λ x i. gm x (in_right x (variables_of g) (variables_of_all gs) i)) w (λ p i. ra p (inr i)) (λ p i. ha p (inr i)) in
          let sure : is_io S T n ≡ true → Succeeds xs = λ q. sd.sure kk (io_sure S T b known one n pl.0 q) in (
            disj_moves (HoldsAfter S T L w) W d d' xs ys (sd.count kk) (is_io S T n) (one_is_io S T ns) one sure (λ q p. sd.sure kk (not_true d.can_fail (and_first (not d.can_fail) (no_disjunct_fails S T b known ns) (nf p q)))) rk mn rest.0 rest.1,
            (λ z. let y = disj_zero d d' z in zero_append (HoldsAfter S T L w) W d d' xs ys (sd.count kk) (is_io S T n) one y.0 sure mn (rest.1 y.1)),
          )

      pub moves_arms : {O Q : List ℕ} {b : Insts} {x : ℕ} {gs : Flat_goals} {arms : Arms} {os : List (Option Insts)} → OrderedArms S T O Q b x gs arms os → TypedGoals S.world.source T gs → (known : Known) (h : ℕ) (one : Bool) → IoArmsPlaced S T b known one x arms →
          (L : List ℕ) → Among L O → (e : Bindings) → Closed O Q b e → TypedAt S θ T (variables_of_all gs) b e → TypedAt S θ T L b e → Knows known e →
          (W : World) (M : List ℕ) → Holds S T W M b e → Among L M → Among (variables_of_all gs) M → (v : Val) → e x ≡ Some v →
          (w : Option Insts) → ((o : Option Insts) → Is o os → (a : Bindings) → Reached S θ T L o a → Reached S θ T L w a) → ((o : Option Insts) → Is o os → (V : World) (a : Bindings) → Reached S θ T L o a → HoldsAfter S T L o V a → HoldsAfter S T L w V a) →
          Moves (HoldsAfter S T L w) (arm_is_io S T arms) one W (stream_arms S.world.outcome C h arms e)
      moves_arms O.no_arm tg known h one pl L u e cl ty li kk W M hw lm gm v q w ra ha = tt
      moves_arms (O.arm {b = b} {x = x} {gs = gs} {hs = hs} {ks = ks} {l = l} {n = n} {arms = arms} {o = o} p il op ab r t) tg known h one pl L u e cl ty li kk W M hw lm gm v q w ra ha =
          let z = parts_typed S.world.source T p tg in
          let vn = variables_of_node n in
          let xs = stream S.world.outcome C h n e in
          let ys = stream_arms S.world.outcome C h arms e in
          let kn = learned x l known in
          let tc : TypedAt S θ T (variables_of (arm_goal hs)) b e = λ y i. ty y (parts_some p y (arm_variables hs y i)) in
          let tr : TypedAt S θ T (variables_of_all ks) b e = λ y i. ty y (parts_others p y i) in
          let sd = Sounds.sound_node S D F C called lined T proper θ r (arm_typed S.world.source T hs z.0) kn h L u e cl tc li in
          ⊎_elim
          (λ y.
          let kl = knows_learned known e x l v q y kk in
          arm_yes (HoldsAfter S T L w) W xs ys (is_io S T n) (arm_is_io S T arms) one
          (MoveLists.moves_each (λ k. Grows e k × (BindsOnly vn e k × Reached S θ T L o k)) (HoldsAfter S T L o) (HoldsAfter S T L w) (λ X k m i. ha o (inl refl) X k m.1.1 i) (is_io S T n) one W xs sd.each
          (moves_node r (arm_typed S.world.source T hs z.0) kn h one pl.0 L u e cl tc li kl W M hw lm (λ y i. gm y (parts_some p y (arm_variables hs y i)))))
          (λ i. sd.sure kl (io_sure S T b kn one n pl.0 i))
          (rest_calm S T C t h e v q l il y ab))
          (λ y.
          arm_no (HoldsAfter S T L w) W xs ys (is_io S T n) (arm_is_io S T arms) one (opens_calm S.world.outcome C h n x l op e v q y) (Rattle.laws_sound.proofs.Opens.opens_none S.world.outcome C h n x l op e v q y)
          (moves_arms t z.1 known h one pl.1 L u e cl tr li kk W M hw lm (λ y i. gm y (parts_others p y i)) v q w (λ p i. ra p (inr i)) (λ p i. ha p (inr i))))
          (Sounds.label_cases l v)
