-- Bindings and insts: what binding, comparing and taking apart keep.
use Rattle.std.proofs.Common.{◌≡◌, ◌≢◌, ◌⊎◌, inl, inr, ℕ, zero, suc, List, [], ◌∷◌, map, replicate, Bool, true, false, cond, is_some, not, nat_eq, Option, Some, None, refl, sym, ap, ◌∙◌, subst, ⊎_elim}
use Rattle.std.proofs.lemmas.Bool.{eqb-true, or_parts, not-false, ne_eqb}
use Rattle.mc_program.specs.Values.{Val, Vals, no_vals, val_then, listed, same_value}
use Rattle.mc_program.specs.Programs.{TypeTerm, Source}
use Rattle.mc_model.specs.Types.{instance_of, OfType, AllOfTypes}
use Rattle.mc_model.specs.Insts.{Listed, InstNode, free, ground, unique, dead, bound, Graph, Lists, AllowsSymbol, AllWithin}
use Rattle.mc_accepted.specs.Inclusion.{Included, AllFree, NoneIs, NoneMore, LeastAbove, MergedNodes, Merged, NoMore}
use Rattle.mc_model.specs.Lists.{Among}
use Rattle.mc_model.specs.EventList.{Each, Succeeds, of_option}
use Rattle.mc_model.specs.Stream.{Bindings, put, meet, unify, is_bound}
use Rattle.mc_accepted.specs.Ordered.{Insts, also, take_all, reachable, Joined}
use Rattle.mc_accepted.specs.Determined.{tested}
use Rattle.mc_model.specs.Good.{System, TypeChoice, BoundAs}
use Rattle.mc_accepted.specs.ProperTypes.{Parameters, ProperType}
use Rattle.mc_accepted.specs.Fits.{NoneFree, NoArgumentFree, Fits}
use Rattle.laws_sound.specs.code.Passes.{TypedAt, Reached}
use Rattle.laws_sound.proofs.Binds
use Rattle.laws_sound.proofs.Binds.{Matches, and_also, true_not_false}
use Rattle.laws_sound.proofs.Lists
use Rattle.laws_language.proofs.Inclusions.{included_sets, within_dead, within_more}
use Rattle.laws_sound.proofs.TypeInstances.{IsPlain, within_plain, is_value, of_general}
use Rattle.laws_language.proofs.Equality.{value_same}

pub bound_is : (i : ℕ) → is_bound i ≡ true → i ≢ 0
bound_is i e z = true_not_false (sym e ∙ ap is_bound z)

pub free_is : (i : ℕ) → is_bound i ≡ false → i ≡ 0
free_is i e = eqb-true i 0 (not-false (nat_eq i 0) e)

pub is_bound_of : (i : ℕ) → i ≢ 0 → is_bound i ≡ true
is_bound_of i n = ap not (ne_eqb i 0 n)

pub is_free_of : (i : ℕ) → i ≡ 0 → is_bound i ≡ false
is_free_of i e = ap is_bound e

module _ (S : System) (D : Parameters) (F : Fits S D) where
  -- node 0 alone is free
  pub only_free : (i : ℕ) → S.insts i ≡ free → i ≡ 0
  only_free zero e = refl
  only_free (suc zero) e = absurd (no (sym F.insts.is_ground ∙ e))
    where
      no : ground ≡ free → ⊥
      no e = cc
  only_free (suc (suc zero)) e = absurd (no (sym F.insts.is_unique ∙ e))
    where
      no : unique ≡ free → ⊥
      no e = cc
  only_free (suc (suc (suc zero))) e = absurd (no (sym F.insts.is_dead ∙ e))
    where
      no : dead ≡ free → ⊥
      no e = cc
  only_free (suc (suc (suc (suc i)))) e = let r = F.insts.are_bound i in absurd (no r.0 (sym r.1 ∙ e))
    where
      no : (ls : List Listed) → bound ls ≡ free → ⊥
      no ls e = cc

  pub zero_free : (i : ℕ) → i ≡ 0 → S.insts i ≡ free
  zero_free i e = ap S.insts e ∙ F.insts.is_free

  listed_free : (P : Source) (ls : List Listed) (s : ℕ) (is : List ℕ) → NoArgumentFree ls → Lists P ls s (λ js. js ≡ is) → NoneFree is
  listed_free P [] s is n h = absurd h
  listed_free P (l ∷ ls) s is n h = ⊎_elim (λ a. subst NoneFree a.2 n.0) (λ b. listed_free P ls s is n.1 b) h

  replicate_free : (n i : ℕ) → i ≢ 0 → NoneFree (replicate n i)
  replicate_free zero i h = tt
  replicate_free (suc n) i h = (h, replicate_free n i h)

  -- what a node lists has no free argument
  pub allows_free : (i s : ℕ) (is : List ℕ) → i ≢ 0 → AllowsSymbol S.world.source (S.insts i) i s (λ js. js ≡ is) → NoneFree is
  allows_free zero s is n h = absurd (n refl)
  allows_free (suc zero) s is n h = subst NoneFree (subst (λ N. AllowsSymbol S.world.source N 1 s (λ js. js ≡ is)) F.insts.is_ground h) (replicate_free (S.world.source.symbols s).name.arity 1 n)
  allows_free (suc (suc zero)) s is n h = subst NoneFree (subst (λ N. AllowsSymbol S.world.source N 2 s (λ js. js ≡ is)) F.insts.is_unique h) (replicate_free (S.world.source.symbols s).name.arity 2 n)
  allows_free (suc (suc (suc zero))) s is n h = subst NoneFree (subst (λ N. AllowsSymbol S.world.source N 3 s (λ js. js ≡ is)) F.insts.is_dead h) (replicate_free (S.world.source.symbols s).name.arity 3 n)
  allows_free (suc (suc (suc (suc i)))) s is n h = let r = F.insts.are_bound i in listed_free S.world.source r.0 s is r.2 (subst (λ N. AllowsSymbol S.world.source N (suc (suc (suc (suc i)))) s (λ js. js ≡ is)) r.1 h)

  module _ (θ : TypeChoice) where
    pub bound_at : (i : ℕ) (t : TypeTerm) (o : Option Val) → i ≢ 0 → BoundAs S θ i t o → (v : Val) × (o ≡ Some v) × BoundAs S θ i t (Some v)
    bound_at i t None n h = absurd (n h)
    bound_at i t (Some v) n h = (v, refl, h)

    pub free_at : (i : ℕ) (t : TypeTerm) (o : Option Val) → i ≡ 0 → BoundAs S θ i t o → o ≡ None
    free_at i t None e h = refl
    free_at i t (Some v) e h = absurd (h.0 e)

    pub bound_flat : (i : ℕ) (t : TypeTerm) (o : Option Val) → BoundAs S θ i t o → is_some o ≡ is_bound i
    bound_flat i t None h = sym (is_free_of i h)
    bound_flat i t (Some v) h = sym (is_bound_of i h.0)

    -- inclusion and merging, of what is bound
    pub included_bound : (i j : ℕ) (t : TypeTerm) (v : Val) → ProperType D t → j ≢ 0 → Included S.world.source S.insts i j t → BoundAs S θ i t (Some v) → BoundAs S θ j t (Some v)
    included_bound i j t v p n c h = (n, h.1, included_sets S.world.source S.insts F.insts.proper i j t c v (of_general S D F θ v t p h.1) h.2)

    -- a value of its type is within a plain inst
    pub plain_bound : (i : ℕ) (t : TypeTerm) (v : Val) → i ≢ 0 → IsPlain (S.insts i) → OfType S.world.source v (instance_of θ t) → BoundAs S θ i t (Some v)
    plain_bound i t v n p o = (n, o, within_plain S.world.source S.insts F.types.arities v i p (is_value S.world.source 0 v (instance_of θ t) o))

    merged_dead : (i k : ℕ) (t : TypeTerm) (o : Option Val) → S.insts k ≡ dead → S.insts i ≢ free → BoundAs S θ i t o → BoundAs S θ k t o
    merged_dead i k t None e n h = absurd (n (zero_free i h))
    merged_dead i k t (Some v) e n h = ((λ z. not_dead (sym (zero_free k z) ∙ e)), h.1, within_dead S.world.source S.insts F.insts.proper v i k e h.2)
      where
        not_dead : free ≡ dead → ⊥
        not_dead e = cc

    merged_more : (i k : ℕ) (t : TypeTerm) (o : Option Val) → ProperType D t → S.insts i ≢ free → S.insts k ≢ free → NoMore S.world.source S.insts i k t → BoundAs S θ i t o → BoundAs S θ k t o
    merged_more i k t None p n m c h = absurd (n (zero_free i h))
    merged_more i k t (Some v) p n m c h = ((λ z. m (zero_free k z)), h.1, within_more S.world.source S.insts F.insts.proper v i k t c (of_general S D F θ v t p h.1) h.2)

    merged_free : (i k : ℕ) (t : TypeTerm) (o : Option Val) → S.insts i ≡ free → S.insts k ≡ free → BoundAs S θ i t o → BoundAs S θ k t o
    merged_free i k t None e f h = only_free k f
    merged_free i k t (Some v) e f h = absurd (h.0 (only_free i e))

no_ground : ground ≡ free → ⊥
no_ground e = cc

no_unique : unique ≡ free → ⊥
no_unique e = cc

no_dead : dead ≡ free → ⊥
no_dead e = cc

no_bound : (ls : List Listed) → bound ls ≡ free → ⊥
no_bound ls e = cc

-- one of a list
abbrev pub Is : {A : Type 0} → A → List A → Type 0
Is a [] = ⊥
Is a (x ∷ xs) = (a ≡ x) ⊎ Is a xs

is_free_all : (G : Graph) (is : List ℕ) (i : ℕ) → AllFree G is → Is i is → G i ≡ free
is_free_all G [] i h m = absurd m
is_free_all G (k ∷ is) i h m = ⊎_elim (λ e. ap G e ∙ h.0) (λ j. is_free_all G is i h.1 j) m

is_none : (N : InstNode) (G : Graph) (is : List ℕ) (i : ℕ) → NoneIs N G is → Is i is → G i ≢ N
is_none N G [] i h m = absurd m
is_none N G (k ∷ is) i h m = ⊎_elim (λ e. subst (λ z. G z ≢ N) (sym e) h.0) (λ j. is_none N G is i h.1 j) m

is_below : (P : Source) (G : Graph) (is : List ℕ) (i k : ℕ) (t : TypeTerm) → NoneMore P G is G k t → Is i is → NoMore P G i k t
is_below P G [] i k t h m = absurd m
is_below P G (l ∷ is) i k t h m = ⊎_elim (λ e. subst (λ z. NoMore P G z k t) (sym e) h.0) (λ j. is_below P G is i k t h.1 j) m

-- what merging says of one of the insts and the merged one
pub data View (N K : InstNode) (Q : Type 0) : Type 0 where
  all_free : N ≡ free → K ≡ free → View N K Q
  one_dead : N ≢ free → K ≡ dead → View N K Q
  more : N ≢ free → K ≢ free → N ≢ dead → Q → View N K Q

view_on : (P : Source) (G : Graph) (is : List ℕ) (i k : ℕ) (t : TypeTerm) (K : InstNode) → Is i is → MergedNodes G is K (LeastAbove P G is k t) → View (G i) K (NoMore P G i k t)
view_on P G is i k t free m h = all_free (is_free_all G is i h m) refl
view_on P G is i k t dead m h = one_dead (is_none free G is i h.0 m) refl
view_on P G is i k t ground m h = more (is_none free G is i h.0 m) no_ground (is_none dead G is i h.1 m) (is_below P G is i k t h.2.above m)
view_on P G is i k t unique m h = more (is_none free G is i h.0 m) no_unique (is_none dead G is i h.1 m) (is_below P G is i k t h.2.above m)
view_on P G is i k t (bound ls) m h = more (is_none free G is i h.0 m) (no_bound ls) (is_none dead G is i h.1 m) (is_below P G is i k t h.2.above m)

pub merged_view : (P : Source) (G : Graph) (is : List ℕ) (i k : ℕ) (t : TypeTerm) → Is i is → Merged P G is k t → View (G i) (G k) (NoMore P G i k t)
merged_view P G is i k t m h = view_on P G is i k t (G k) m h

-- a reachable end is one of the reachable ones
pub is_reachable : (c : Insts) (os : List (Option Insts)) → Is (Some c) os → Is c (reachable os)
is_reachable c [] i = absurd i
is_reachable c (None ∷ os) i = ⊎_elim (λ e. absurd (no e)) (λ j. is_reachable c os j) i
  where
    no : Some c ≡ None → ⊥
    no e = cc
is_reachable c (Some d ∷ os) i = ⊎_elim (λ e. inl (same e)) (λ j. inr (is_reachable c os j)) i
  where
    same : Some c ≡ Some d → c ≡ d
    same e = cc

pub is_at : (x : ℕ) (c : Insts) (ends : List Insts) → Is c ends → Is (c x) (map (λ (d : Insts). d x) ends)
is_at x c [] i = absurd i
is_at x c (d ∷ ends) i = ⊎_elim (λ e. inl (ap (λ (f : Insts). f x) e)) (λ j. inr (is_at x c ends j)) i

module _ (S : System) (D : Parameters) (F : Fits S D) (θ : TypeChoice) where
  merged_on : (i k : ℕ) (t : TypeTerm) (o : Option Val) → ProperType D t → View (S.insts i) (S.insts k) (NoMore S.world.source S.insts i k t) → BoundAs S θ i t o → BoundAs S θ k t o
  merged_on i k t o p (all_free a c) h = merged_free S D F θ i k t o a c h
  merged_on i k t o p (one_dead a c) h = merged_dead S D F θ i k t o c a h
  merged_on i k t o p (more a c d q) h = merged_more S D F θ i k t o p a c q h

  module _ (T : ℕ → TypeTerm) (proper : (x : ℕ) → ProperType D (T x)) where
    -- where the insts of branches are joined
    joined_end : (L O : List ℕ) (b : Insts) (ends : List Insts) (c : Insts) (w : Option Insts) (a : Bindings) → Among L O → Joined S T O b ends w → Is c ends → TypedAt S θ T L c a → Reached S θ T L w a
    joined_end L O b [] c w a u j i h = absurd i
    joined_end L O b (d ∷ ends) c None a u j i h = absurd j
    joined_end L O b (d ∷ ends) c (Some e) a u j i h =
        λ x k. merged_on (c x) (e x) (T x) (a x) (proper x) (merged_view S.world.source S.insts (map (λ (f : Insts). f x) (d ∷ ends)) (c x) (e x) (T x) (is_at x c (d ∷ ends) i) ((j x).0 (u x k))) (h x k)

    pub joined_reached : (L O : List ℕ) (b : Insts) (os : List (Option Insts)) (w : Option Insts) → Among L O → Joined S T O b (reachable os) w → (o : Option Insts) → Is o os → (a : Bindings) → Reached S θ T L o a → Reached S θ T L w a
    joined_reached L O b os w u j None i a h = absurd h
    joined_reached L O b os w u j (Some c) i a h = joined_end L O b (reachable os) c w a u j (is_reachable c os i) h

    -- binding and comparing
    put_on : (t : Bool) (i : ℕ) (v : Val) (x y k : ℕ) (o : Option Val) → (t ≡ true → y ≡ x) → BoundAs S θ i (T x) (Some v) → BoundAs S θ k (T y) o → BoundAs S θ (cond t i k) (T y) (cond t (Some v) o)
    put_on true i v x y k o f h b = subst (λ z. BoundAs S θ i (T z) (Some v)) (sym (f refl)) h
    put_on false i v x y k o f h b = b

    pub put_typed : (L : List ℕ) (b : Insts) (e : Bindings) (x i : ℕ) (v : Val) → BoundAs S θ i (T x) (Some v) → TypedAt S θ T L b e → TypedAt S θ T L (also x i b) (put x v e)
    put_typed L b e x i v h t y j = put_on (nat_eq y x) i v x y (b y) (e y) (λ q. eqb-true y x q) h (t y j)

    known_on : (t : Bool) (i : ℕ) (v : Val) (x y k : ℕ) (o : Option Val) → (t ≡ true → (y ≡ x) × (o ≡ Some v)) → BoundAs S θ i (T x) (Some v) → BoundAs S θ k (T y) o → BoundAs S θ (cond t i k) (T y) o
    known_on true i v x y k o f h b = let q = f refl in subst (λ p. BoundAs S θ i (T y) p) (sym q.1) (subst (λ z. BoundAs S θ i (T z) (Some v)) (sym q.0) h)
    known_on false i v x y k o f h b = b

    pub known_typed : (L : List ℕ) (b : Insts) (e : Bindings) (x i : ℕ) (v : Val) → e x ≡ Some v → BoundAs S θ i (T x) (Some v) → TypedAt S θ T L b e → TypedAt S θ T L (also x i b) e
    known_typed L b e x i v q h t y j = known_on (nat_eq y x) i v x y (b y) (e y) (λ r. (eqb-true y x r, ap e (eqb-true y x r) ∙ q)) h (t y j)

    pub meet_typed : (L : List ℕ) (b : Insts) (x i : ℕ) (v : Val) (e : Bindings) (o : Option Val) → e x ≡ o → BoundAs S θ i (T x) (Some v) → TypedAt S θ T L b e → Each (TypedAt S θ T L (also x i b)) (of_option (meet x v e o))
    meet_typed L b x i v e None q h t = (put_typed L b e x i v h t, tt)
    meet_typed L b x i v e (Some w) q h t = Binds.each_cond (TypedAt S θ T L (also x i b)) (same_value w v) e (λ r. known_typed L b e x i v (q ∙ ap Some (value_same w v r)) h t)

    -- taking apart
    take_one : (L ys : List ℕ) (b : Insts) (e : Bindings) (y i : ℕ) (v : Val) (k : Bool) → is_bound (b y) ≡ k → BoundAs S θ (b y) (T y) (e y) → BoundAs S θ i (T y) (Some v) → TypedAt S θ T L b e → TypedAt S θ T ys b e →
        Each (λ a. TypedAt S θ T L (cond k b (also y i b)) a × TypedAt S θ T ys (cond k b (also y i b)) a) (of_option (meet y v e (e y)))
    take_one L ys b e y i v true q g h t u =
        let w = bound_at S D F θ (b y) (T y) (e y) (bound_is (b y) q) g in
        Binds.meet_known (λ a. TypedAt S θ T L b a × TypedAt S θ T ys b a) y v w.0 e (e y) refl w.1 (t, u)
    take_one L ys b e y i v false q g h t u =
        Lists.each_both (TypedAt S θ T L (also y i b)) (TypedAt S θ T ys (also y i b)) (of_option (meet y v e (e y))) (meet_typed L b y i v e (e y) refl h t) (meet_typed ys b y i v e (e y) refl h u)

    pub unify_take : (L ys is : List ℕ) (vs : Vals) (b : Insts) (e : Bindings) → NoneFree is → AllOfTypes S.world.source vs (Some (map (instance_of θ) (map T ys))) → AllWithin S.world.source S.insts vs is → TypedAt S θ T L b e → TypedAt S θ T ys b e →
        Each (TypedAt S θ T L (take_all ys is b)) (of_option (unify ys (map Some (listed vs)) e))
    unify_take L [] is no_vals b e n o w t u = (t, tt)
    unify_take L [] is (val_then v vs) b e n o w t u = absurd o
    unify_take L (y ∷ ys) is no_vals b e n o w t u = absurd o
    unify_take L (y ∷ ys) [] (val_then v vs) b e n o w t u = absurd w
    unify_take L (y ∷ ys) (i ∷ is) (val_then v vs) b e n o w t u =
        Binds.each_then (λ a. TypedAt S θ T L (cond (is_bound (b y)) b (also y i b)) a × TypedAt S θ T ys (cond (is_bound (b y)) b (also y i b)) a) (TypedAt S θ T L (take_all ys is (cond (is_bound (b y)) b (also y i b)))) (meet y v e (e y)) (unify ys (map Some (listed vs)))
        (take_one L ys b e y i v (is_bound (b y)) refl (u y (inl refl)) (n.0, o.0, w.0) t (λ z j. u z (inr j)))
        (λ a k. unify_take L ys is vs (cond (is_bound (b y)) b (also y i b)) a n.1 o.1 w.1 k.0 k.1)

    pub typed_flat : (L : List ℕ) (b : Insts) (e : Bindings) → TypedAt S θ T L b e → Matches L (λ x. is_bound (b x)) e
    typed_flat L b e t x i = bound_flat S D F θ (b x) (T x) (e x) (t x i)

    -- a deconstruction that tests no argument
    pub take_succeeds : (ys : List ℕ) (vs : Vals) (ts : List TypeTerm) (there : ℕ → Bool) (e : Bindings) → AllOfTypes S.world.source vs (Some (map (instance_of θ) (map T ys))) → tested ys there ≡ false → Matches ys there e → Succeeds (of_option (unify ys (map Some (listed vs)) e))
    take_succeeds [] no_vals ts there e o n m = tt
    take_succeeds [] (val_then v vs) ts there e o n m = absurd o
    take_succeeds (y ∷ ys) no_vals ts there e o n m = absurd o
    take_succeeds (y ∷ ys) (val_then v vs) ts there e o n m =
        let p = or_parts (there y) (tested ys (and_also y there)) n in
        let q = Binds.unbound_none (e y) (m y (inl refl) ∙ p.0) in
        Binds.then_succeeds y v e (unify ys (map Some (listed vs))) (e y) refl (inr q) (λ a. Matches ys (and_also y there) a) (λ c. absurd (Binds.none_some (e y) v q c)) (λ c. Binds.put_matches ys there e y v (λ z j. m z (inr j)))
        (λ a c. take_succeeds ys vs ts (and_also y there) a o.1 p.1 c)
