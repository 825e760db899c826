-- What merges the merged insts of groups merges all that are in them.
use Rattle.std.proofs.Common.{◌≡◌, ◌≢◌, ◌⊎◌, inl, inr, ℕ, List, [], ◌∷◌, ◌++◌, refl, sym, ap, ◌∙◌, subst, ⊎_elim}
use Rattle.mc_program.specs.Programs.{TypeTerm, Source}
use Rattle.mc_model.specs.Insts.{InstNode, free, ground, unique, dead, bound, Graph}
use Rattle.mc_model.specs.Lists.{In, Among}
use Rattle.mc_accepted.specs.Proper.{ProperGraph}
use Rattle.mc_accepted.specs.Inclusion.{AllFree, NoneIs, OneIsDead, NoMoreThere, NoneMore, LeastAbove, MergedNodes, Merged}
use Rattle.laws_accepted.specs.GroupLaws.{in_groups, EachMerged, GroupsMergeAsAll, MergingKeepsSets}

-- what a merged inst is
abbrev pub Kinds : Graph → List ℕ → InstNode → Type 0 → Type 0
Kinds G is N Q = ((N ≡ free) × AllFree G is) ⊎ ((N ≡ dead) × NoneIs free G is × OneIsDead G is) ⊎ ((N ≢ free) × (N ≢ dead) × NoneIs free G is × NoneIs dead G is × Q)

pub kinds : (G : Graph) (is : List ℕ) (N : InstNode) (Q : Type 0) → MergedNodes G is N Q → Kinds G is N Q
kinds G is free Q h = inl (refl, h)
kinds G is dead Q h = inr (inl (refl, h.0, h.1))
kinds G is ground Q h = inr (inr ((λ e. cc), (λ e. cc), h.0, h.1, h.2))
kinds G is unique Q h = inr (inr ((λ e. cc), (λ e. cc), h.0, h.1, h.2))
kinds G is (bound ls) Q h = inr (inr ((λ e. cc), (λ e. cc), h.0, h.1, h.2))

dead_not_free : (N : InstNode) → N ≡ dead → N ≢ free
dead_not_free N e f = let g : dead ≡ free = sym e ∙ f in cc

merged_kinds : (G : Graph) (is : List ℕ) (N : InstNode) (Q : Type 0) → Kinds G is N Q → MergedNodes G is N Q
merged_kinds G is free Q h = ⊎_elim (λ a. a.1) (λ r. ⊎_elim (λ d. absurd (dead_not_free free d.0 refl)) (λ q. absurd (q.0 refl)) r) h
merged_kinds G is dead Q h = ⊎_elim (λ a. absurd (dead_not_free dead refl a.0)) (λ r. ⊎_elim (λ d. (d.1, d.2)) (λ q. absurd (q.1 refl)) r) h
merged_kinds G is ground Q h = ⊎_elim (λ a. let e : ground ≡ free = a.0 in cc) (λ r. ⊎_elim (λ d. let e : ground ≡ dead = d.0 in cc) (λ q. (q.2, q.3, q.4)) r) h
merged_kinds G is unique Q h = ⊎_elim (λ a. let e : unique ≡ free = a.0 in cc) (λ r. ⊎_elim (λ d. let e : unique ≡ dead = d.0 in cc) (λ q. (q.2, q.3, q.4)) r) h
merged_kinds G is (bound ls) Q h = ⊎_elim (λ a. let e : bound ls ≡ free = a.0 in cc) (λ r. ⊎_elim (λ d. let e : bound ls ≡ dead = d.0 in cc) (λ q. (q.2, q.3, q.4)) r) h

none_or_one : (G : Graph) (is : List ℕ) → NoneIs dead G is → OneIsDead G is → ⊥
none_or_one G [] none one = one
none_or_one G (i ∷ is) none one = ⊎_elim (λ e. none.0 e) (λ rest. none_or_one G is none.1 rest) one

module _ (P : Source) (G : Graph) where
  -- ---- lists one behind another
  free_parts : (is js : List ℕ) → AllFree G (is ++ js) → AllFree G is × AllFree G js
  free_parts [] js h = (tt, h)
  free_parts (i ∷ is) js h = let r = free_parts is js h.1 in ((h.0, r.0), r.1)

  free_both : (is js : List ℕ) → AllFree G is → AllFree G js → AllFree G (is ++ js)
  free_both [] js h k = k
  free_both (i ∷ is) js h k = (h.0, free_both is js h.1 k)

  none_parts : (N : InstNode) (is js : List ℕ) → NoneIs N G (is ++ js) → NoneIs N G is × NoneIs N G js
  none_parts N [] js h = (tt, h)
  none_parts N (i ∷ is) js h = let r = none_parts N is js h.1 in ((h.0, r.0), r.1)

  none_both : (N : InstNode) (is js : List ℕ) → NoneIs N G is → NoneIs N G js → NoneIs N G (is ++ js)
  none_both N [] js h k = k
  none_both N (i ∷ is) js h k = (h.0, none_both N is js h.1 k)

  dead_part : (is js : List ℕ) → OneIsDead G (is ++ js) → OneIsDead G is ⊎ OneIsDead G js
  dead_part [] js h = inr h
  dead_part (i ∷ is) js h = ⊎_elim (λ e. inl (inl e)) (λ r. ⊎_elim (λ a. inl (inr a)) (λ a. inr a) (dead_part is js r)) h

  dead_left : (is js : List ℕ) → OneIsDead G is → OneIsDead G (is ++ js)
  dead_left [] js h = absurd h
  dead_left (i ∷ is) js h = ⊎_elim (λ e. inl e) (λ r. inr (dead_left is js r)) h

  dead_right : (is js : List ℕ) → OneIsDead G js → OneIsDead G (is ++ js)
  dead_right [] js h = h
  dead_right (i ∷ is) js h = inr (dead_right is js h)

  module _ (H : Graph) (h : ℕ) (t : TypeTerm) where
    more_parts : (is js : List ℕ) → NoneMore P G (is ++ js) H h t → NoneMore P G is H h t × NoneMore P G js H h t
    more_parts [] js m = (tt, m)
    more_parts (i ∷ is) js m = let r = more_parts is js m.1 in ((m.0, r.0), r.1)

    more_both : (is js : List ℕ) → NoneMore P G is H h t → NoneMore P G js H h t → NoneMore P G (is ++ js) H h t
    more_both [] js m k = k
    more_both (i ∷ is) js m k = (m.0, more_both is js m.1 k)

    more_from : (k : ℕ) (is : List ℕ) → NoneMore P G is G k t → NoMoreThere P G k H h t → NoneMore P G is H h t
    more_from k [] m n = tt
    more_from k (i ∷ is) m n = ((λ path e a. n path e (m.0 path e a)), more_from k is m.1 n)

  -- ---- one group
  module _ (i : ℕ) (is : List ℕ) (k : ℕ) (t : TypeTerm) (m : Merged P G (i ∷ is) k t) where
    abbrev which : Kinds G (i ∷ is) (G k) (LeastAbove P G (i ∷ is) k t)
    which = kinds G (i ∷ is) (G k) (LeastAbove P G (i ∷ is) k t) m

    group_free : AllFree G (i ∷ is) → G k ≡ free
    group_free f = ⊎_elim (λ a. a.0) (λ r. ⊎_elim (λ d. absurd (d.1.0 f.0)) (λ q. absurd (q.2.0 f.0)) r) which

    group_set : NoneIs free G (i ∷ is) → G k ≢ free
    group_set n = ⊎_elim (λ a. absurd (n.0 a.1.0)) (λ r. ⊎_elim (λ d. dead_not_free (G k) d.0) (λ q. q.0) r) which

    group_dead : NoneIs free G (i ∷ is) → OneIsDead G (i ∷ is) → G k ≡ dead
    group_dead n o = ⊎_elim (λ a. absurd (n.0 a.1.0)) (λ r. ⊎_elim (λ d. d.0) (λ q. absurd (none_or_one G (i ∷ is) q.3 o)) r) which

    group_lives : NoneIs dead G (i ∷ is) → G k ≢ dead
    group_lives n = ⊎_elim (λ a e. absurd (dead_not_free (G k) e a.0)) (λ r. ⊎_elim (λ d. absurd (none_or_one G (i ∷ is) n d.2)) (λ q. q.1) r) which

    group_least : NoneIs free G (i ∷ is) → NoneIs dead G (i ∷ is) → LeastAbove P G (i ∷ is) k t
    group_least n d = ⊎_elim (λ a. absurd (n.0 a.1.0)) (λ r. ⊎_elim (λ e. absurd (none_or_one G (i ∷ is) d e.2)) (λ q. q.4) r) which

    free_group : G k ≡ free → AllFree G (i ∷ is)
    free_group f = ⊎_elim (λ a. a.1) (λ r. ⊎_elim (λ d. absurd (dead_not_free (G k) d.0 f)) (λ q. absurd (q.0 f)) r) which

    set_group : G k ≢ free → NoneIs free G (i ∷ is)
    set_group n = ⊎_elim (λ a. absurd (n a.0)) (λ r. ⊎_elim (λ d. d.1) (λ q. q.2) r) which

    dead_group : G k ≡ dead → OneIsDead G (i ∷ is)
    dead_group e = ⊎_elim (λ a. absurd (dead_not_free (G k) e a.0)) (λ r. ⊎_elim (λ d. d.2) (λ q. absurd (q.1 e)) r) which

    living_group : G k ≢ free → G k ≢ dead → NoneIs dead G (i ∷ is)
    living_group n d = ⊎_elim (λ a. absurd (n a.0)) (λ r. ⊎_elim (λ e. absurd (d e.0)) (λ q. q.3) r) which

  -- ---- all groups
  module _ (t : TypeTerm) where
    abbrev Each : List (List ℕ) → List ℕ → Type 0
    Each groups ks = EachMerged P G groups ks t

    all_free : (gs : List (List ℕ)) (ks : List ℕ) → Each gs ks → AllFree G (in_groups gs) → AllFree G ks
    all_free [] [] e h = tt
    all_free [] (k ∷ ks) e h = absurd e
    all_free ([] ∷ gs) ks e h = absurd e
    all_free ((i ∷ is) ∷ gs) [] e h = absurd e
    all_free ((i ∷ is) ∷ gs) (k ∷ ks) e h = let r = free_parts (i ∷ is) (in_groups gs) h in (group_free i is k t e.0 r.0, all_free gs ks e.1 r.1)

    free_all : (gs : List (List ℕ)) (ks : List ℕ) → Each gs ks → AllFree G ks → AllFree G (in_groups gs)
    free_all [] [] e h = tt
    free_all [] (k ∷ ks) e h = absurd e
    free_all ([] ∷ gs) ks e h = absurd e
    free_all ((i ∷ is) ∷ gs) [] e h = absurd e
    free_all ((i ∷ is) ∷ gs) (k ∷ ks) e h = free_both (i ∷ is) (in_groups gs) (free_group i is k t e.0 h.0) (free_all gs ks e.1 h.1)

    all_set : (gs : List (List ℕ)) (ks : List ℕ) → Each gs ks → NoneIs free G (in_groups gs) → NoneIs free G ks
    all_set [] [] e h = tt
    all_set [] (k ∷ ks) e h = absurd e
    all_set ([] ∷ gs) ks e h = absurd e
    all_set ((i ∷ is) ∷ gs) [] e h = absurd e
    all_set ((i ∷ is) ∷ gs) (k ∷ ks) e h = let r = none_parts free (i ∷ is) (in_groups gs) h in (group_set i is k t e.0 r.0, all_set gs ks e.1 r.1)

    set_all : (gs : List (List ℕ)) (ks : List ℕ) → Each gs ks → NoneIs free G ks → NoneIs free G (in_groups gs)
    set_all [] [] e h = tt
    set_all [] (k ∷ ks) e h = absurd e
    set_all ([] ∷ gs) ks e h = absurd e
    set_all ((i ∷ is) ∷ gs) [] e h = absurd e
    set_all ((i ∷ is) ∷ gs) (k ∷ ks) e h = none_both free (i ∷ is) (in_groups gs) (set_group i is k t e.0 h.0) (set_all gs ks e.1 h.1)

    one_dead : (gs : List (List ℕ)) (ks : List ℕ) → Each gs ks → NoneIs free G (in_groups gs) → OneIsDead G (in_groups gs) → OneIsDead G ks
    one_dead [] [] e n h = h
    one_dead [] (k ∷ ks) e n h = absurd e
    one_dead ([] ∷ gs) ks e n h = absurd e
    one_dead ((i ∷ is) ∷ gs) [] e n h = absurd e
    one_dead ((i ∷ is) ∷ gs) (k ∷ ks) e n h =
        let r = none_parts free (i ∷ is) (in_groups gs) n in
        ⊎_elim (λ o. inl (group_dead i is k t e.0 r.0 o)) (λ o. inr (one_dead gs ks e.1 r.1 o)) (dead_part (i ∷ is) (in_groups gs) h)

    dead_one : (gs : List (List ℕ)) (ks : List ℕ) → Each gs ks → OneIsDead G ks → OneIsDead G (in_groups gs)
    dead_one [] [] e h = h
    dead_one [] (k ∷ ks) e h = absurd e
    dead_one ([] ∷ gs) ks e h = absurd e
    dead_one ((i ∷ is) ∷ gs) [] e h = absurd e
    dead_one ((i ∷ is) ∷ gs) (k ∷ ks) e h =
        ⊎_elim (λ d. dead_left (i ∷ is) (in_groups gs) (dead_group i is k t e.0 d)) (λ o. dead_right (i ∷ is) (in_groups gs) (dead_one gs ks e.1 o)) h

    all_live : (gs : List (List ℕ)) (ks : List ℕ) → Each gs ks → NoneIs dead G (in_groups gs) → NoneIs dead G ks
    all_live [] [] e h = tt
    all_live [] (k ∷ ks) e h = absurd e
    all_live ([] ∷ gs) ks e h = absurd e
    all_live ((i ∷ is) ∷ gs) [] e h = absurd e
    all_live ((i ∷ is) ∷ gs) (k ∷ ks) e h = let r = none_parts dead (i ∷ is) (in_groups gs) h in (group_lives i is k t e.0 r.0, all_live gs ks e.1 r.1)

    live_all : (gs : List (List ℕ)) (ks : List ℕ) → Each gs ks → NoneIs free G ks → NoneIs dead G ks → NoneIs dead G (in_groups gs)
    live_all [] [] e n h = tt
    live_all [] (k ∷ ks) e n h = absurd e
    live_all ([] ∷ gs) ks e n h = absurd e
    live_all ((i ∷ is) ∷ gs) [] e n h = absurd e
    live_all ((i ∷ is) ∷ gs) (k ∷ ks) e n h = none_both dead (i ∷ is) (in_groups gs) (living_group i is k t e.0 n.0 h.0) (live_all gs ks e.1 n.1 h.1)

    -- an inst is above all that are in the groups exactly where it is above their merged insts
    above_merged : (gs : List (List ℕ)) (ks : List ℕ) → Each gs ks → NoneIs free G (in_groups gs) → NoneIs dead G (in_groups gs) → (H : Graph) → ProperGraph H → (h : ℕ) → NoneMore P G (in_groups gs) H h t → NoneMore P G ks H h t
    above_merged [] [] e n d H proper h m = tt
    above_merged [] (k ∷ ks) e n d H proper h m = absurd e
    above_merged ([] ∷ gs) ks e n d H proper h m = absurd e
    above_merged ((i ∷ is) ∷ gs) [] e n d H proper h m = absurd e
    above_merged ((i ∷ is) ∷ gs) (k ∷ ks) e n d H proper h m =
        let a = none_parts free (i ∷ is) (in_groups gs) n in
        let b = none_parts dead (i ∷ is) (in_groups gs) d in
        let r = more_parts H h t (i ∷ is) (in_groups gs) m in
        ((group_least i is k t e.0 a.0 b.0).least H proper h r.0, above_merged gs ks e.1 a.1 b.1 H proper h r.1)

    merged_above : (gs : List (List ℕ)) (ks : List ℕ) → Each gs ks → NoneIs free G (in_groups gs) → NoneIs dead G (in_groups gs) → (H : Graph) (h : ℕ) → NoneMore P G ks H h t → NoneMore P G (in_groups gs) H h t
    merged_above [] [] e n d H h m = tt
    merged_above [] (k ∷ ks) e n d H h m = absurd e
    merged_above ([] ∷ gs) ks e n d H h m = absurd e
    merged_above ((i ∷ is) ∷ gs) [] e n d H h m = absurd e
    merged_above ((i ∷ is) ∷ gs) (k ∷ ks) e n d H h m =
        let a = none_parts free (i ∷ is) (in_groups gs) n in
        let b = none_parts dead (i ∷ is) (in_groups gs) d in
        more_both H h t (i ∷ is) (in_groups gs) (more_from H h t k (i ∷ is) (group_least i is k t e.0 a.0 b.0).above m.0) (merged_above gs ks e.1 a.1 b.1 H h m.1)

    module _ (proper : ProperGraph G) (gs : List (List ℕ)) (ks : List ℕ) (k : ℕ) (e : Each gs ks) where
      to_merged : Merged P G (in_groups gs) k t → Merged P G ks k t
      to_merged m =
          merged_kinds G ks (G k) (LeastAbove P G ks k t)
          (⊎_elim (λ a. inl (a.0, all_free gs ks e a.1))
          (λ r.
          ⊎_elim (λ d. inr (inl (d.0, all_set gs ks e d.1, one_dead gs ks e d.1 d.2)))
          (λ q.
          inr
          (inr (
            q.0,
            q.1,
            all_set gs ks e q.2,
            all_live gs ks e q.3,
            record {
              above = above_merged gs ks e q.2 q.3 G proper k q.4.above;
              least = λ H proper h more. q.4.least H proper h (merged_above gs ks e q.2 q.3 H h more);
            },
          )))
          r)
          (kinds G (in_groups gs) (G k) (LeastAbove P G (in_groups gs) k t) m))

      from_merged : Merged P G ks k t → Merged P G (in_groups gs) k t
      from_merged m =
          merged_kinds G (in_groups gs) (G k) (LeastAbove P G (in_groups gs) k t)
          (⊎_elim (λ a. inl (a.0, free_all gs ks e a.1))
          (λ r.
          ⊎_elim (λ d. inr (inl (d.0, set_all gs ks e d.1, dead_one gs ks e d.2)))
          (λ q.
          let n = set_all gs ks e q.2 in
          let l = live_all gs ks e q.2 q.3 in
          inr
          (inr (
            q.0,
            q.1,
            n,
            l,
            record {
              above = merged_above gs ks e n l G k q.4.above;
              least = λ H proper h more. q.4.least H proper h (above_merged gs ks e n l H proper h more);
            },
          )))
          r)
          (kinds G ks (G k) (LeastAbove P G ks k t) m))

pub groups_merge_as_all : GroupsMergeAsAll
groups_merge_as_all P G proper groups ks k t e = (to_merged P G t proper groups ks k e, from_merged P G t proper groups ks k e)

-- ---- the order of insts
module _ (P : Source) (G : Graph) (is js : List ℕ) (there : Among js is) where
  free_at : (xs : List ℕ) → AllFree G xs → (x : ℕ) → In x xs → G x ≡ free
  free_at [] h x i = absurd i
  free_at (y ∷ ys) h x i = ⊎_elim (λ e. ap G e ∙ h.0) (λ j. free_at ys h.1 x j) i

  free_each : (xs : List ℕ) → ((x : ℕ) → In x xs → G x ≡ free) → AllFree G xs
  free_each [] f = tt
  free_each (y ∷ ys) f = (f y (inl refl), free_each ys (λ x i. f x (inr i)))

  none_at : (N : InstNode) (xs : List ℕ) → NoneIs N G xs → (x : ℕ) → In x xs → G x ≢ N
  none_at N [] h x i = absurd i
  none_at N (y ∷ ys) h x i = ⊎_elim (λ e. subst (λ z. G z ≢ N) (sym e) h.0) (λ j. none_at N ys h.1 x j) i

  none_each : (N : InstNode) (xs : List ℕ) → ((x : ℕ) → In x xs → G x ≢ N) → NoneIs N G xs
  none_each N [] f = tt
  none_each N (y ∷ ys) f = (f y (inl refl), none_each N ys (λ x i. f x (inr i)))

  dead_at : (x : ℕ) (xs : List ℕ) → In x xs → G x ≡ dead → OneIsDead G xs
  dead_at x [] i e = absurd i
  dead_at x (y ∷ ys) i e = ⊎_elim (λ q. inl (ap G (sym q) ∙ e)) (λ j. inr (dead_at x ys j e)) i

  dead_in : (xs ys : List ℕ) → Among xs ys → OneIsDead G xs → OneIsDead G ys
  dead_in [] ys a h = absurd h
  dead_in (x ∷ xs) ys a h = ⊎_elim (λ e. dead_at x ys (a x (inl refl)) e) (λ r. dead_in xs ys (λ z i. a z (inr i)) r) h

  more_at : (H : Graph) (h : ℕ) (t : TypeTerm) (xs : List ℕ) → NoneMore P G xs H h t → (x : ℕ) → In x xs → NoMoreThere P G x H h t
  more_at H h t [] m x i = absurd i
  more_at H h t (y ∷ ys) m x i = ⊎_elim (λ e. subst (λ z. NoMoreThere P G z H h t) (sym e) m.0) (λ j. more_at H h t ys m.1 x j) i

  more_each : (H : Graph) (h : ℕ) (t : TypeTerm) (xs : List ℕ) → ((x : ℕ) → In x xs → NoMoreThere P G x H h t) → NoneMore P G xs H h t
  more_each H h t [] f = tt
  more_each H h t (y ∷ ys) f = (f y (inl refl), more_each H h t ys (λ x i. f x (inr i)))

  keeps_set : (here : Among is js) (k : ℕ) (t : TypeTerm) → Merged P G is k t → Merged P G js k t
  keeps_set here k t m =
      merged_kinds G js (G k) (LeastAbove P G js k t)
      (⊎_elim (λ a. inl (a.0, free_each js (λ x i. free_at is a.1 x (there x i))))
      (λ r.
      ⊎_elim (λ d. inr (inl (d.0, none_each free js (λ x i. none_at free is d.1 x (there x i)), dead_in is js here d.2)))
      (λ q.
      inr
      (inr (
        q.0,
        q.1,
        none_each free js (λ x i. none_at free is q.2 x (there x i)),
        none_each dead js (λ x i. none_at dead is q.3 x (there x i)),
        record {
          above = more_each G k t js (λ x i. more_at G k t is q.4.above x (there x i));
          least = λ H proper h more. q.4.least H proper h (more_each H h t is (λ x i. more_at H h t js more x (here x i)));
        },
      )))
      r)
      (kinds G is (G k) (LeastAbove P G is k t) m))

pub merging_keeps_sets : MergingKeepsSets
merging_keeps_sets P G is js k t here there m = keeps_set P G is js there here k t m
