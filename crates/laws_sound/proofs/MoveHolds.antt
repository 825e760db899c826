-- The world's state where branches meet; goals without io.
use Rattle.std.proofs.Common.{◌≡◌, ◌≢◌, ℕ, zero, suc, List, [], ◌∷◌, map, Bool, true, false, ◌||◌, ◌&&◌, Option, Some, None, refl, sym, ap, ◌∙◌, subst}
use Rattle.std.proofs.lemmas.Bool.{or_parts}
use Rattle.mc_program.specs.Values.{Val, int, char, str, con, state, no_vals, val_then}
use Rattle.mc_program.specs.Programs.{TypeTerm, state_type}
use Rattle.mc_model.specs.Insts.{free, unique, dead, AllowsConstants}
use Rattle.mc_accepted.specs.Inclusion.{NoMore, state_tip, shared, AllowsMark}
use Rattle.mc_model.specs.Lists.{In, Among}
use Rattle.mc_model.specs.Scheduled.{Node, node, Scheduled, Conj, Disj, Switch, Ite, Not, Exists, Assign, Test, Build, Take, Const, TestConst, Call, Apply, Nodes, no_nodes, node_then, Arms, no_arms, arm_then}
use Rattle.mc_model.specs.Stream.{Bindings}
use Rattle.mc_accepted.specs.Ordered.{Insts, reachable, Joined}
use Rattle.mc_source.specs.Determinism.{Determinism}
use Rattle.mc_accepted.specs.Determined.{Known, learned, insts_after, is_io, is_io_in, one_is_io, arm_is_io, IoHere, IoPlaced, IoPlacedIn, IoAllPlaced, IoEachPlaced, IoArmsPlaced, determined, none_fails}
use Rattle.mc_model.specs.Good.{System, TypeChoice, BoundAs}
use Rattle.mc_accepted.specs.ProperTypes.{Parameters, ProperType}
use Rattle.mc_accepted.specs.Fits.{Fits}
use Rattle.laws_sound.specs.code.Passes.{TypedAt, Reached}
use Rattle.laws_sound.specs.code.Moves.{World, Holds, HoldsAfter, Shares, SharesAt, Lent, LentAfter}
use Rattle.laws_sound.proofs.MoveShares.{shares_more}
use Rattle.laws_sound.proofs.TypeInstances.{of_general}
use Rattle.laws_sound.proofs.Typed.{View, all_free, one_dead, more, merged_view, only_free, Is, is_at, is_reachable}
use Rattle.laws_sound.proofs.Binds.{true_not_false}

module _ (S : System) (D : Parameters) (F : Fits S D) (θ : TypeChoice) where
  -- a state is within no bound inst
  not_bound : (i : ℕ) (v : Val) → BoundAs S θ (suc (suc (suc (suc i)))) state_type (Some v) → ⊥
  not_bound i (int n) h = true_not_false (sym h.1.1)
  not_bound i (char n) h = true_not_false (sym h.1.1)
  not_bound i (str n) h = true_not_false (sym h.1.1)
  not_bound i (con s no_vals) h = h.1
  not_bound i (con s (val_then v vs)) h = h.1
  not_bound i (state w k) h = let r = F.insts.are_bound i in subst (λ N. AllowsConstants N) r.1 h.2

  no_shared : (i : ℕ) → NoMore S.world.source S.insts i 2 state_type → AllowsMark (S.insts i) shared → ⊥
  no_shared i n a = subst (λ N. AllowsMark N shared) F.insts.is_unique (n [] (state_tip shared) (refl, a)).1

  -- an inst at the state that `unique` includes is `unique`
  pub state_unique : (i : ℕ) (o : Option Val) → i ≢ 0 → NoMore S.world.source S.insts i 2 state_type → BoundAs S θ i state_type o → i ≡ 2
  state_unique i None z n h = absurd (z h)
  state_unique zero (Some v) z n h = absurd (z refl)
  state_unique (suc zero) (Some v) z n h = absurd (no_shared 1 n (subst (λ N. AllowsMark N shared) (sym F.insts.is_ground) tt))
  state_unique (suc (suc zero)) (Some v) z n h = refl
  state_unique (suc (suc (suc zero))) (Some v) z n h = absurd (no_shared 3 n (subst (λ N. AllowsMark N shared) (sym F.insts.is_dead) tt))
  state_unique (suc (suc (suc (suc i)))) (Some v) z n h = absurd (not_bound i v h)

  no_free : unique ≡ free → ⊥
  no_free e = cc

  no_dead : unique ≡ dead → ⊥
  no_dead e = cc

  not_zero : (i : ℕ) → S.insts i ≢ free → i ≢ 0
  not_zero i n e = n (ap S.insts e ∙ F.insts.is_free)

  from_one : (i k : ℕ) (t : TypeTerm) (o : Option Val) → t ≡ state_type → k ≡ 2 → View (S.insts i) (S.insts k) (NoMore S.world.source S.insts i k t) → BoundAs S θ i t o → i ≡ 2
  from_one i k t o e q (all_free a c) h = absurd (no_free (sym F.insts.is_unique ∙ (ap S.insts (sym q) ∙ c)))
  from_one i k t o e q (one_dead a c) h = absurd (no_dead (sym F.insts.is_unique ∙ (ap S.insts (sym q) ∙ c)))
  from_one i k t o e q (more a c d m) h = state_unique i o (not_zero i a) (subst (λ u. NoMore S.world.source S.insts i 2 u) e (subst (λ u. NoMore S.world.source S.insts i u t) q m)) (subst (λ u. BoundAs S θ i u o) e h)

  shares_one : (i k : ℕ) (t : TypeTerm) (o : Option Val) → ProperType D t → View (S.insts i) (S.insts k) (NoMore S.world.source S.insts i k t) → BoundAs S θ i t o → S.insts k ≢ dead → (v : Val) → o ≡ Some v → (S.insts i ≢ dead → Shares S.world.source S.insts v i t) → Shares S.world.source S.insts v k t
  shares_one i k t o p (all_free a c) h n v q f = absurd ((subst (λ w. BoundAs S θ i t w) q h).0 (only_free S D F i a))
  shares_one i k t o p (one_dead a c) h n v q f = absurd (n c)
  shares_one i k t o p (more a c d m) h n v q f = shares_more S.world.source S.insts v i k t t (of_general S D F θ v t p (subst (λ w. BoundAs S θ i t w) q h).1) m (f d)

  module _ (T : ℕ → TypeTerm) (proper : (x : ℕ) → ProperType D (T x)) where
    holds_from : (W : World) (L : List ℕ) (c d : Insts) (a : Bindings) → ((x : ℕ) → In x L → T x ≡ state_type → d x ≡ 2 → c x ≡ 2) → SharesAt S T L d a → Holds S T W L c a → Holds S T W L d a
    holds_from W L c d a f s h = record { tells = λ x i l. h.tells x i (l.0, f x i l.0 l.1); alone = λ x y i j l m. h.alone x y i j (l.0, f x i l.0 l.1) (m.0, f y j m.0 m.1); shares = s }

    holds_end : (L O : List ℕ) (b : Insts) (ends : List Insts) (c : Insts) (w : Option Insts) → Among L O → Joined S T O b ends w → Is c ends → (W : World) (a : Bindings) → TypedAt S θ T L c a → Holds S T W L c a → HoldsAfter S T L w W a
    holds_end L O b [] c w u j i W a r h = absurd i
    holds_end L O b (d ∷ ends) c None u j i W a r h = absurd j
    holds_end L O b (d ∷ ends) c (Some e) u j i W a r h =
        holds_from W L c e a (λ x k t q. from_one (c x) (e x) (T x) (a x) t q (merged_view S.world.source S.insts (map (λ (f : Insts). f x) (d ∷ ends)) (c x) (e x) (T x) (is_at x c (d ∷ ends) i) ((j x).0 (u x k))) (r x k))
        (λ x k n v q. shares_one (c x) (e x) (T x) (a x) (proper x) (merged_view S.world.source S.insts (map (λ (f : Insts). f x) (d ∷ ends)) (c x) (e x) (T x) (is_at x c (d ∷ ends) i) ((j x).0 (u x k))) (r x k) n v q (λ m. h.shares x k m v q)) h

    pub holds_joined : (L O : List ℕ) (b : Insts) (os : List (Option Insts)) (w : Option Insts) → Among L O → Joined S T O b (reachable os) w → (o : Option Insts) → Is o os → (W : World) (a : Bindings) → Reached S θ T L o a → HoldsAfter S T L o W a → HoldsAfter S T L w W a
    holds_joined L O b os w u j None i W a r h = absurd h
    holds_joined L O b os w u j (Some c) i W a r h = holds_end L O b (reachable os) c w u j (is_reachable c os i) W a r h

    lent_end : (N : Lent) (L O : List ℕ) (b : Insts) (ends : List Insts) (c : Insts) (w : Option Insts) → Among L O → Joined S T O b ends w → Is c ends → (a : Bindings) → TypedAt S θ T L c a → LentAfter S T N L (Some c) a → LentAfter S T N L w a
    lent_end N L O b [] c w u j i a r h = absurd i
    lent_end N L O b (d ∷ ends) c None u j i a r h = absurd j
    lent_end N L O b (d ∷ ends) c (Some e) u j i a r h = (
      (λ x k l. h.0 x k (l.0, from_one (c x) (e x) (T x) (a x) l.0 l.1 (merged_view S.world.source S.insts (map (λ (f : Insts). f x) (d ∷ ends)) (c x) (e x) (T x) (is_at x c (d ∷ ends) i) ((j x).0 (u x k))) (r x k))),
      (λ x k n v q. shares_one (c x) (e x) (T x) (a x) (proper x) (merged_view S.world.source S.insts (map (λ (f : Insts). f x) (d ∷ ends)) (c x) (e x) (T x) (is_at x c (d ∷ ends) i) ((j x).0 (u x k))) (r x k) n v q (λ m. h.1 x k m v q)),
    )

    pub lent_joined : (N : Lent) (L O : List ℕ) (b : Insts) (os : List (Option Insts)) (w : Option Insts) → Among L O → Joined S T O b (reachable os) w → (o : Option Insts) → Is o os → (a : Bindings) → Reached S θ T L o a → LentAfter S T N L o a → LentAfter S T N L w a
    lent_joined N L O b os w u j None i a r h = absurd h
    lent_joined N L O b os w u j (Some c) i a r h = lent_end N L O b (reachable os) c w u j (is_reachable c os i) a r h

-- a goal without io is placed anywhere
module _ (S : System) (T : ℕ → TypeTerm) where
  here : (io one m : Bool) (d : Determinism) → io ≡ false → IoHere S T io one m d
  here true one m d e = absurd (true_not_false e)
  here false one m d e = tt

  mutual
    pub placed_free : (n : Node) (b : Insts) (known : Known) (one : Bool) → is_io S T n ≡ false → IoPlaced S T b known one n
    placed_free (node s changes d m) b known one e = (here (is_io_in S T s) one m (determined S T b known (node s changes d m)) e, placed_in s b known (one || m) e)

    placed_in : (s : Scheduled) (b : Insts) (known : Known) (one : Bool) → is_io_in S T s ≡ false → IoPlacedIn S T b known one s
    placed_in (Conj ns) b known one e = placed_all ns b known one e
    placed_in (Disj ns) b known one e = ((λ p q. absurd (true_not_false (sym q ∙ e))), placed_each ns b known one e)
    placed_in (Switch x arms) b known one e = placed_arms arms b known one x e
    placed_in (Ite vs c t f) b known one e =
        let p = or_parts (is_io S T c) (is_io S T t || is_io S T f) e in
        let q = or_parts (is_io S T t) (is_io S T f) p.1 in
        (p.0, placed_free t (insts_after c b) known one q.0, placed_free f b known one q.1)
    placed_in (Not n) b known one e = e
    placed_in (Exists vs n) b known one e = placed_free n b known one e
    placed_in (Assign x y) b known one e = tt
    placed_in (Test x y) b known one e = tt
    placed_in (Build x s ys) b known one e = tt
    placed_in (Take x s ys) b known one e = tt
    placed_in (Const x v) b known one e = tt
    placed_in (TestConst x v) b known one e = tt
    placed_in (Call p xs is l) b known one e = tt
    placed_in (Apply op xs ys) b known one e = tt

    placed_all : (ns : Nodes) (b : Insts) (known : Known) (one : Bool) → one_is_io S T ns ≡ false → IoAllPlaced S T b known one ns
    placed_all no_nodes b known one e = tt
    placed_all (node_then n ns) b known one e = let p = or_parts (is_io S T n) (one_is_io S T ns) e in (placed_free n b known (one && none_fails S T (insts_after n b) known ns) p.0, placed_all ns (insts_after n b) known one p.1)

    placed_each : (ns : Nodes) (b : Insts) (known : Known) (one : Bool) → one_is_io S T ns ≡ false → IoEachPlaced S T b known one ns
    placed_each no_nodes b known one e = tt
    placed_each (node_then n ns) b known one e = let p = or_parts (is_io S T n) (one_is_io S T ns) e in (placed_free n b known one p.0, placed_each ns b known one p.1)

    placed_arms : (arms : Arms) (b : Insts) (known : Known) (one : Bool) (x : ℕ) → arm_is_io S T arms ≡ false → IoArmsPlaced S T b known one x arms
    placed_arms no_arms b known one x e = tt
    placed_arms (arm_then l n arms) b known one x e = let p = or_parts (is_io S T n) (arm_is_io S T arms) e in (placed_free n b (learned x l known) one p.0, placed_arms arms b known one x p.1)
