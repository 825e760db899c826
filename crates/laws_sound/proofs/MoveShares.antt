-- States inside values: what the insts allow of them.
use Rattle.std.proofs.Common.{◌≡◌, ◌≢◌, inl, inr, ℕ, zero, suc, ◌<◌, List, [], ◌∷◌, map, length, get_or, replicate, Bool, true, false, cond, nat_eq, Option, Some, None, refl, sym, ap, ◌∙◌, subst, arith, ⊎_elim}
use Rattle.std.proofs.lemmas.Bool.{eqb-true}
use Rattle.mc_program.specs.Values.{Val, int, char, str, con, state, Vals, no_vals, val_then, listed, vals, same_value}
use Rattle.mc_program.specs.Programs.{TypeTerm, state_type, variable_type, Source}
use Rattle.mc_model.specs.Types.{instance_of, argument_types, OfType, AllOfTypes}
use Rattle.mc_model.specs.Insts.{InstNode, ground, dead, Graph, AllowsSymbol, AllWithin}
use Rattle.mc_model.specs.EventList.{Each, of_option}
use Rattle.mc_model.specs.Stream.{Bindings, put, meet, unify, gather, both, build_items, is_bound}
use Rattle.mc_model.specs.Good.{System, TypeChoice, BoundAs}
use Rattle.mc_accepted.specs.Inclusion.{Path, state_tip, shared, AllowsMark, OnTypes, Allows, NoMore}
use Rattle.mc_accepted.specs.Proper.{ProperNode}
use Rattle.mc_accepted.specs.ProperTypes.{Parameters, ProperType}
use Rattle.mc_accepted.specs.Ordered.{Insts, also, take_all, is_state, NoneState, NoneDead, IsSymbolOver}
use Rattle.mc_accepted.specs.Fits.{NoneFree, Fits}
use Rattle.laws_sound.specs.code.Passes.{Grows, TypedAt}
use Rattle.laws_sound.specs.code.Moves.{StateAt, ArgumentAt, AllowsShared, Shares, SharesAt}
use Rattle.laws_language.proofs.Inclusions.{on_types_to, Over, allows_over, over_allows, over_one}
use Rattle.laws_language.proofs.Equality.{value_same}
use Rattle.laws_sound.proofs.Binds
use Rattle.laws_sound.proofs.Opens.{Loose}
use Rattle.laws_sound.proofs.Lists
use Rattle.laws_sound.proofs.Typed
use Rattle.laws_sound.proofs.TypeInstances.{none_of}
use Rattle.laws_sound.proofs.Binds.{true_not_false}

module _ (P : Source) (G : Graph) where
  map_symbol : (N : InstNode) (i s : ℕ) (Q R : List ℕ → Type 0) → ((is : List ℕ) → Q is → R is) → AllowsSymbol P N i s Q → AllowsSymbol P N i s R
  map_symbol N i s Q R f a = let r = allows_over P N i s Q a in over_allows P N i s R r.0 r.1 (f r.0 r.2)

  con_types : (f k : ℕ) (vs : Vals) (path : Path) (i : ℕ) (o : Option (List TypeTerm)) → AllOfTypes P vs o → ((ts : List TypeTerm) (j : ℕ) → AllOfTypes P vs (Some ts) → AllowsShared P G path j → Allows P G path (state_tip shared) j (get_or ts k (variable_type 0))) → AllowsSymbol P (G i) i f (λ is. (k < length is) × AllowsShared P G path (get_or is k 0)) →
      OnTypes o (λ ts. AllowsSymbol P (G i) i f (λ is. (k < length is) × Allows P G path (state_tip shared) (get_or is k 0) (get_or ts k (variable_type 0))))
  con_types f k vs path i None h g a = absurd (none_of P vs h)
  con_types f k vs path i (Some ts) h g a = map_symbol (G i) i f (λ is. (k < length is) × AllowsShared P G path (get_or is k 0)) (λ is. (k < length is) × Allows P G path (state_tip shared) (get_or is k 0) (get_or ts k (variable_type 0))) (λ is z. (z.0, g ts (get_or is k 0) h z.1)) a

  mutual
    -- a path of a value of a type is one at the type
    with_types : (v : Val) (t : TypeTerm) (path : Path) (i : ℕ) → OfType P v t → StateAt v path → AllowsShared P G path i → Allows P G path (state_tip shared) i t
    with_types (int n) t path i o s a = absurd s
    with_types (char n) t path i o s a = absurd s
    with_types (str n) t path i o s a = absurd s
    with_types (state w k) t [] i o s a = (o.1, a)
    with_types (state w k) t (step ∷ path) i o s a = absurd s
    with_types (con f vs) t [] i o s a = absurd s
    with_types (con f vs) t ((g, k) ∷ path) i o s a =
        let at : AllowsSymbol P (G i) i f (λ is. (k < length is) × AllowsShared P G path (get_or is k 0)) = subst (λ h. AllowsSymbol P (G i) i h (λ is. (k < length is) × AllowsShared P G path (get_or is k 0))) (sym s.0) a in
        subst (λ h. Allows P G ((h, k) ∷ path) (state_tip shared) i t) s.0 (con_types f k vs path i (argument_types P f t) o (λ ts j h b. argument_with vs ts k path j h s.1 b) at)

    argument_with : (vs : Vals) (ts : List TypeTerm) (k : ℕ) (path : Path) (i : ℕ) → AllOfTypes P vs (Some ts) → ArgumentAt vs k path → AllowsShared P G path i → Allows P G path (state_tip shared) i (get_or ts k (variable_type 0))
    argument_with no_vals ts k path i h s a = absurd s
    argument_with (val_then v vs) [] k path i h s a = absurd h
    argument_with (val_then v vs) (t ∷ ts) zero path i h s a = with_types v t path i h.0 s a
    argument_with (val_then v vs) (t ∷ ts) (suc k) path i h s a = argument_with vs ts k path i h.1 s a

  without_types : (path : Path) (i : ℕ) (t : TypeTerm) → Allows P G path (state_tip shared) i t → AllowsShared P G path i
  without_types [] i t a = a.1
  without_types ((s, k) ∷ path) i t a =
      on_types_to (argument_types P s t) (λ ts. AllowsSymbol P (G i) i s (λ is. (k < length is) × Allows P G path (state_tip shared) (get_or is k 0) (get_or ts k (variable_type 0)))) (AllowsSymbol P (G i) i s (λ is. (k < length is) × AllowsShared P G path (get_or is k 0)))
      (λ ts h. map_symbol (G i) i s (λ is. (k < length is) × Allows P G path (state_tip shared) (get_or is k 0) (get_or ts k (variable_type 0))) (λ is. (k < length is) × AllowsShared P G path (get_or is k 0)) (λ is z. (z.0, without_types path (get_or is k 0) (get_or ts k (variable_type 0)) z.1)) h) a

  -- an inst that allows more
  pub shares_more : (v : Val) (i j : ℕ) (t u : TypeTerm) → OfType P v t → NoMore P G i j t → Shares P G v i u → Shares P G v j u
  shares_more v i j t u o n h path s = ⊎_elim (λ z. inl z) (λ a. inr (without_types path j t (n path (state_tip shared) (with_types v t path i o s a)))) (h path s)

  -- an argument
  pub argument_shares : (s : ℕ) (vs : Vals) (i : ℕ) (t : TypeTerm) (is : List ℕ) → ProperNode (G i) → Over P (G i) i s is → Shares P G (con s vs) i t → (k : ℕ) (path : Path) → ArgumentAt vs k path → AllowsShared P G path (get_or is k 0)
  argument_shares s vs i t is p o h k path a =
      ⊎_elim (λ z. absurd (no z.0))
      (λ y. let r = allows_over P (G i) i s (λ js. (k < length js) × AllowsShared P G path (get_or js k 0)) y in subst (λ js. AllowsShared P G path (get_or js k 0)) (over_one P (G i) i s r.0 is p r.1 o) r.2.1)
      (h ((s, k) ∷ path) (refl, a))
    where
      no : (s, k) ∷ path ≡ [] → ⊥
      no e = cc

  -- a value over insts that allow its arguments' states
  pub con_shares : (s : ℕ) (vs : Vals) (i : ℕ) (t : TypeTerm) (is : List ℕ) → Over P (G i) i s is → ((k : ℕ) (path : Path) → ArgumentAt vs k path → (k < length is) × AllowsShared P G path (get_or is k 0)) → Shares P G (con s vs) i t
  con_shares s vs i t is o f [] a = absurd a
  con_shares s vs i t is o f (step ∷ path) a = inr (subst (λ h. AllowsSymbol P (G i) i h (λ js. (step.1 < length js) × AllowsShared P G path (get_or js step.1 0))) a.0 (over_allows P (G i) i s (λ js. (step.1 < length js) × AllowsShared P G path (get_or js step.1 0)) is o (f step.1 path a.1)))

  -- a value has an argument for each inst
  pub argument_below : (vs : Vals) (is : List ℕ) → AllWithin P G vs is → (k : ℕ) (path : Path) → ArgumentAt vs k path → k < length is
  argument_below no_vals is w k path a = absurd a
  argument_below (val_then v vs) [] w k path a = absurd w
  argument_below (val_then v vs) (i ∷ is) w zero path a = omega arith
  argument_below (val_then v vs) (i ∷ is) w (suc k) path a = omega (arith, argument_below vs is w.1 k path a)

  -- `ground` allows each
  module _ (arities : (s : ℕ) → (P.symbols s).name.arity ≡ length (P.symbols s).args) where
    mutual
      pub ground_allows : (v : Val) (i : ℕ) → G i ≡ ground → OfType P v (variable_type 0) → (path : Path) → StateAt v path → AllowsShared P G path i
      ground_allows (int n) i g o path s = absurd s
      ground_allows (char n) i g o path s = absurd s
      ground_allows (str n) i g o path s = absurd s
      ground_allows (state w k) i g o [] s = subst (λ N. AllowsMark N shared) (sym g) tt
      ground_allows (state w k) i g o (step ∷ path) s = absurd s
      ground_allows (con f vs) i g o [] s = absurd s
      ground_allows (con f vs) i g o (step ∷ path) s =
          subst (λ h. AllowsSymbol P (G i) i h (λ is. (step.1 < length is) × AllowsShared P G path (get_or is step.1 0))) s.0
          (subst (λ N. AllowsSymbol P N i f (λ is. (step.1 < length is) × AllowsShared P G path (get_or is step.1 0))) (sym g)
          (subst (λ n. (step.1 < length (replicate n i)) × AllowsShared P G path (get_or (replicate n i) step.1 0)) (sym (arities f)) (ground_arguments vs i g (P.symbols f).args o step.1 path s.1)))

      ground_arguments : (vs : Vals) (i : ℕ) → G i ≡ ground → (us : List TypeTerm) → AllOfTypes P vs (Some (map (λ t. variable_type 0) us)) → (k : ℕ) (path : Path) → ArgumentAt vs k path → (k < length (replicate (length us) i)) × AllowsShared P G path (get_or (replicate (length us) i) k 0)
      ground_arguments no_vals i g us o k path s = absurd s
      ground_arguments (val_then v vs) i g [] o k path s = absurd o
      ground_arguments (val_then v vs) i g (u ∷ us) o zero path s = (omega arith, ground_allows v i g o.0 path s)
      ground_arguments (val_then v vs) i g (u ∷ us) o (suc k) path s = let r = ground_arguments vs i g us o.1 k path s in (omega (arith, r.0), r.1)

module _ (S : System) (D : Parameters) (F : Fits S D) (θ : TypeChoice) (T : ℕ → TypeTerm) where
  P : Source
  P = S.world.source

  -- binding and comparing
  put_on : (t : Bool) (i : ℕ) (v w : Val) (x y k : ℕ) (o : Option Val) → (t ≡ true → y ≡ x) → Shares S.world.source S.insts v i (T x) → (S.insts k ≢ dead → (u : Val) → o ≡ Some u → Shares S.world.source S.insts u k (T y)) → S.insts (cond t i k) ≢ dead → cond t (Some v) o ≡ Some w → Shares S.world.source S.insts w (cond t i k) (T y)
  put_on true i v w x y k o f h b n q = subst (λ u. Shares S.world.source S.insts u i (T y)) (Binds.some_inj v w q) (subst (λ z. Shares S.world.source S.insts v i (T z)) (sym (f refl)) h)
  put_on false i v w x y k o f h b n q = b n w q

  pub put_shares : (L : List ℕ) (b : Insts) (e : Bindings) (x i : ℕ) (v : Val) → Shares S.world.source S.insts v i (T x) → SharesAt S T L b e → SharesAt S T L (also x i b) (put x v e)
  put_shares L b e x i v h s y j n w q = put_on (nat_eq y x) i v w x y (b y) (e y) (λ t. eqb-true y x t) h (s y j) n q

  known_on : (t : Bool) (i : ℕ) (v w : Val) (x y k : ℕ) (o : Option Val) → (t ≡ true → (y ≡ x) × (o ≡ Some v)) → (S.insts i ≢ dead → Shares S.world.source S.insts v i (T x)) → (S.insts k ≢ dead → (u : Val) → o ≡ Some u → Shares S.world.source S.insts u k (T y)) → S.insts (cond t i k) ≢ dead → o ≡ Some w → Shares S.world.source S.insts w (cond t i k) (T y)
  known_on true i v w x y k o f h b n q = let r = f refl in subst (λ u. Shares S.world.source S.insts u i (T y)) (Binds.some_inj v w (sym r.1 ∙ q)) (subst (λ z. Shares S.world.source S.insts v i (T z)) (sym r.0) (h n))
  known_on false i v w x y k o f h b n q = b n w q

  pub known_shares : (L : List ℕ) (b : Insts) (e : Bindings) (x i : ℕ) (v : Val) → e x ≡ Some v → (S.insts i ≢ dead → Shares S.world.source S.insts v i (T x)) → SharesAt S T L b e → SharesAt S T L (also x i b) e
  known_shares L b e x i v q h s y j n w r = known_on (nat_eq y x) i v w x y (b y) (e y) (λ t. (eqb-true y x t, ap e (eqb-true y x t) ∙ q)) h (s y j) n r

  pub meet_shares : (L : List ℕ) (b : Insts) (x i : ℕ) (v : Val) (e : Bindings) (o : Option Val) → e x ≡ o → Shares S.world.source S.insts v i (T x) → SharesAt S T L b e → Each (SharesAt S T L (also x i b)) (of_option (meet x v e o))
  meet_shares L b x i v e None q h s = (put_shares L b e x i v h s, tt)
  meet_shares L b x i v e (Some w) q h s = Binds.each_cond (SharesAt S T L (also x i b)) (same_value w v) e (λ r. known_shares L b e x i v (q ∙ ap Some (value_same w v r)) (λ n. h) s)

  -- values that stay, under insts that stay
  pub stay_shares : (L : List ℕ) (b c : Insts) (e a : Bindings) (x : ℕ) (v : Val) → BoundAs S θ (b x) (T x) (e x) → BoundAs S θ (c x) (T x) (a x) → Grows e a → c x ≡ b x → a x ≡ Some v → (e x ≡ Some v → Shares S.world.source S.insts v (b x) (T x)) → Shares S.world.source S.insts v (c x) (T x)
  stay_shares L b c e a x v h k g q r f = on (e x) refl h
    where
      on : (o : Option Val) → e x ≡ o → BoundAs S θ (b x) (T x) o → Shares S.world.source S.insts v (c x) (T x)
      on None p z = absurd ((subst (λ w. BoundAs S θ (c x) (T x) w) r k).0 (q ∙ z))
      on (Some u) p z = subst (λ i. Shares S.world.source S.insts v i (T x)) (sym q) (f (p ∙ ap Some (Binds.some_inj u v (sym (g x u p) ∙ r))))

  -- taking apart
  abbrev pub EachAllows : Vals → List ℕ → Type 0
  EachAllows no_vals is = Unit {0}
  EachAllows (val_then v vs) [] = Unit {0}
  EachAllows (val_then v vs) (i ∷ is) = ((path : Path) → StateAt v path → AllowsShared S.world.source S.insts path i) × EachAllows vs is

  pub each_allows : (vs : Vals) (is : List ℕ) → ((k : ℕ) (path : Path) → ArgumentAt vs k path → AllowsShared S.world.source S.insts path (get_or is k 0)) → EachAllows vs is
  each_allows no_vals is f = tt
  each_allows (val_then v vs) [] f = tt
  each_allows (val_then v vs) (i ∷ is) f = ((λ path s. f 0 path s), each_allows vs is (λ k path s. f (suc k) path s))

  take_one : (L ys : List ℕ) (b : Insts) (e : Bindings) (y i : ℕ) (v : Val) (k : Bool) → is_bound (b y) ≡ k → BoundAs S θ (b y) (T y) (e y) → Shares S.world.source S.insts v i (T y) → SharesAt S T L b e → TypedAt S θ T ys b e → BoundAs S θ i (T y) (Some v) → (proper : (x : ℕ) → ProperType D (T x)) →
      Each (λ a. SharesAt S T L (cond k b (also y i b)) a × TypedAt S θ T ys (cond k b (also y i b)) a) (of_option (meet y v e (e y)))
  take_one L ys b e y i v true q g h s u bo proper =
      let w = Typed.bound_at S D F θ (b y) (T y) (e y) (Typed.bound_is (b y) q) g in
      Binds.meet_known (λ a. SharesAt S T L b a × TypedAt S θ T ys b a) y v w.0 e (e y) refl w.1 (s, u)
  take_one L ys b e y i v false q g h s u bo proper =
      Lists.each_both (SharesAt S T L (also y i b)) (TypedAt S θ T ys (also y i b)) (of_option (meet y v e (e y))) (meet_shares L b y i v e (e y) refl h s) (Typed.meet_typed S D F θ T proper ys b y i v e (e y) refl bo u)

  pub unify_shares : (proper : (x : ℕ) → ProperType D (T x)) (L ys is : List ℕ) (vs : Vals) (b : Insts) (e : Bindings) → NoneFree is → AllOfTypes S.world.source vs (Some (map (instance_of θ) (map T ys))) → AllWithin S.world.source S.insts vs is → EachAllows vs is → SharesAt S T L b e → TypedAt S θ T ys b e →
      Each (SharesAt S T L (take_all ys is b)) (of_option (unify ys (map Some (listed vs)) e))
  unify_shares proper L [] is no_vals b e n o w g s u = (s, tt)
  unify_shares proper L [] is (val_then v vs) b e n o w g s u = absurd o
  unify_shares proper L (y ∷ ys) is no_vals b e n o w g s u = absurd o
  unify_shares proper L (y ∷ ys) [] (val_then v vs) b e n o w g s u = absurd w
  unify_shares proper L (y ∷ ys) (i ∷ is) (val_then v vs) b e n o w g s u =
      Binds.each_then (λ a. SharesAt S T L (cond (is_bound (b y)) b (also y i b)) a × TypedAt S θ T ys (cond (is_bound (b y)) b (also y i b)) a) (SharesAt S T L (take_all ys is (cond (is_bound (b y)) b (also y i b)))) (meet y v e (e y)) (unify ys (map Some (listed vs)))
      (take_one L ys b e y i v (is_bound (b y)) refl (u y (inl refl)) (λ path a. inr (g.0 path a)) s (λ z j. u z (inr j)) (n.0, o.0, w.0) proper)
      (λ a k. unify_shares proper L ys is vs (cond (is_bound (b y)) b (also y i b)) a n.1 o.1 w.1 g.1 k.0 k.1)

  -- what is built: its arguments are no states of the state's type
  gathered : (ys : List ℕ) (b : Insts) (e : Bindings) (ws : List Val) → gather ys e ≡ Some ws → NoneState S T ys → NoneDead S T ys b → SharesAt S T ys b e → (k : ℕ) (path : Path) → ArgumentAt (vals ws) k path → (k < length (map b ys)) × AllowsShared S.world.source S.insts path (get_or (map b ys) k 0)
  gathered [] b e ws q ns nd s k path a = absurd (subst (λ us. ArgumentAt (vals us) k path) (empty ws q) a)
    where
      empty : (ws : List Val) → Some [] ≡ Some ws → ws ≡ []
      empty ws e = cc
  gathered (y ∷ ys) b e ws q ns nd s k path a = on (e y) refl (gather ys e) refl ws q k a (λ us ep j c. gathered ys b e us ep ns.1 nd.1 (λ z j. s z (inr j)) j path c)
    where
      on : (o : Option Val) → e y ≡ o → (p : Option (List Val)) → gather ys e ≡ p → (ws : List Val) → both o p ≡ Some ws → (k : ℕ) → ArgumentAt (vals ws) k path →
          ((us : List Val) → gather ys e ≡ Some us → (j : ℕ) → ArgumentAt (vals us) j path → (j < length (map b ys)) × AllowsShared S.world.source S.insts path (get_or (map b ys) j 0)) → (k < length (map b (y ∷ ys))) × AllowsShared S.world.source S.insts path (get_or (map b (y ∷ ys)) k 0)
      on None eo p ep ws r k a rest = absurd (no ws p r)
        where
          no : (ws : List Val) (p : Option (List Val)) → both None p ≡ Some ws → ⊥
          no ws None e = cc
          no ws (Some us) e = cc
      on (Some v) eo None ep ws r k a rest = absurd (no ws r)
        where
          no : (ws : List Val) → None ≡ Some ws → ⊥
          no ws e = cc
      on (Some v) eo (Some us) ep ws r k a rest = at k (subst (λ zs. ArgumentAt (vals zs) k path) (sym (some_list r)) a)
        where
          some_list : Some (v ∷ us) ≡ Some ws → v ∷ us ≡ ws
          some_list e = cc

          at : (k : ℕ) → ArgumentAt (val_then v (vals us)) k path → (k < length (map b (y ∷ ys))) × AllowsShared S.world.source S.insts path (get_or (map b (y ∷ ys)) k 0)
          at zero a = (omega arith, ⊎_elim (λ z. absurd (true_not_false (sym (ap is_state z.1) ∙ ns.0))) (λ z. z) (s y (inl refl) nd.0 v eo path a))
          at (suc k) a = let r = rest us ep k a in (omega (arith, r.0), r.1)

  pub build_shares : (L ys : List ℕ) (b : Insts) (e : Bindings) (x s i : ℕ) → IsSymbolOver S T i s (map b ys) → NoneState S T ys → NoneDead S T ys b → SharesAt S T ys b e → SharesAt S T L b e → (o : Option (List Val)) → gather ys e ≡ o → Loose (SharesAt S T L (also x i b)) (build_items x s e o)
  build_shares L ys b e x s i io ns nd sy sl None q = tt
  build_shares L ys b e x s i io ns nd sy sl (Some ws) q =
      (put_shares L b e x i (con s (vals ws)) (con_shares S.world.source S.insts s (vals ws) i (T x) (map b ys) (subst (λ N. AllowsSymbol S.world.source N i s (λ js. js ≡ map b ys)) (sym io) (inl (refl, refl, refl))) (λ k path a. gathered ys b e ws q ns nd sy k path a)) sl, tt)

  -- a new variable that is taken holds no state that may be used alone
  live_on : (t : Bool) (i k : ℕ) (X : Type 0) → cond t i k ≡ 2 → (t ≡ true → i ≡ 2 → X) → (t ≡ false → k ≡ 2 → X) → X
  live_on true i k X q f g = f refl q
  live_on false i k X q f g = g refl q

  not_state : (v : Val) (i : ℕ) → OfType S.world.source v state_type → i ≡ 2 → ((path : Path) → StateAt v path → AllowsShared S.world.source S.insts path i) → ⊥
  not_state (int n) i o q h = true_not_false (sym o.1)
  not_state (char n) i o q h = true_not_false (sym o.1)
  not_state (str n) i o q h = true_not_false (sym o.1)
  not_state (con s vs) i o q h = none_of S.world.source vs o
  not_state (state w k) i o q h = subst (λ N. AllowsMark N shared) (ap S.insts q ∙ F.insts.is_unique) (h [] tt)

  pub take_live : (ys is : List ℕ) (vs : Vals) (b : Insts) → AllOfTypes S.world.source vs (Some (map (instance_of θ) (map T ys))) → EachAllows vs is → (z : ℕ) → T z ≡ state_type → take_all ys is b z ≡ 2 → b z ≡ 2
  take_live [] is vs b o g z t q = q
  take_live (y ∷ ys) is no_vals b o g z t q = absurd o
  take_live (y ∷ ys) [] (val_then v vs) b o g z t q = q
  take_live (y ∷ ys) (i ∷ is) (val_then v vs) b o g z t q = on (is_bound (b y)) (take_live ys is vs (cond (is_bound (b y)) b (also y i b)) o.1 g.1 z t q)
    where
      on : (k : Bool) → cond k b (also y i b) z ≡ 2 → b z ≡ 2
      on true r = r
      on false r = live_on (nat_eq z y) i (b z) (b z ≡ 2) r (λ u p. absurd (not_state v i (subst (λ w. OfType S.world.source v (instance_of θ w)) (ap T (sym (eqb-true z y u)) ∙ t) o.0) p g.0)) (λ u p. p)
