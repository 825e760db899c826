-- One more disjunct: the labels and the groups.
use Rattle.std.proofs.Common.{◌≡◌, List, [], ◌∷◌, ◌++◌, map, Option, Some, None, Bool, true, false, ◌||◌, if◌then◌else◌, refl, sym, ap, ap₂, ◌∙◌, subst}
use Rattle.std.specs.List.{list_any}
use Rattle.std.proofs.lemmas.List.{append-nil}
use Rattle.mc_model.specs.Scheduled.{Label}
use Rattle.mc_accepted.specs.Switched.{same_label, is_label, others, and_label}
use Rattle.mc_switch.specs.code.Groups.{labels_by, labelled, groups_by, put_in, put_told}
use Rattle.mc_switch.proofs.SameLabels.{label_same, label_self, label_flip}

abbrev has : Label → List Label → Bool
has l ls = list_any (same_label l) ls

-- a label that comes last where it isn't there
abbrev insert : List Label → Label → List Label
insert ls l = if has l ls then ls else ls ++ l ∷ []

abbrev with_told : List Label → Option Label → List Label
with_told ls None = ls
with_told ls (Some l) = insert ls l

abbrev Distinct : List Label → Type 0
Distinct [] = Unit {0}
Distinct (k ∷ ks) = (has k ks ≡ false) × Distinct ks

-- leaving out the copies of one label
none_of_it : (l : Label) (ls : List Label) → has l (others l ls) ≡ false
none_of_it l [] = refl
none_of_it l (k ∷ ks) = by_test (same_label l k) refl (none_of_it l ks)
  where
    by_test : (t : Bool) → same_label l k ≡ t → has l (others l ks) ≡ false → has l (if t then others l ks else k ∷ others l ks) ≡ false
    by_test true q r = r
    by_test false q r = subst (λ u. (u || has l (others l ks)) ≡ false) (sym q) r

-- another label is there as before
same_any : (l m : Label) (ls : List Label) → same_label m l ≡ false → has m (others l ls) ≡ has m ls
same_any l m [] n = refl
same_any l m (k ∷ ks) n = by_test (same_label l k) refl (same_any l m ks n)
  where
    by_test : (t : Bool) → same_label l k ≡ t → has m (others l ks) ≡ has m ks → has m (if t then others l ks else k ∷ others l ks) ≡ (same_label m k || has m ks)
    by_test true q r = r ∙ ap (λ u. u || has m ks) (sym n ∙ ap (λ z. same_label m z) (label_same l k q))
    by_test false q r = ap (λ u. same_label m k || u) r

distinct_others : (l : Label) (ls : List Label) → Distinct ls → Distinct (others l ls)
distinct_others l [] d = tt
distinct_others l (k ∷ ks) d = by_test (same_label l k) refl (distinct_others l ks d.1)
  where
    by_test : (t : Bool) → same_label l k ≡ t → Distinct (others l ks) → Distinct (if t then others l ks else k ∷ others l ks)
    by_test true q r = r
    by_test false q r = (same_any l k ks (label_flip k l ∙ q) ∙ d.0, r)

others_last : (l m : Label) (ls : List Label) → others l (ls ++ m ∷ []) ≡ others l ls ++ (if same_label l m then [] else m ∷ [])
others_last l m [] = refl
others_last l m (k ∷ ks) = by_test (same_label l k) (others_last l m ks)
  where
    by_test : (t : Bool) → others l (ks ++ m ∷ []) ≡ others l ks ++ (if same_label l m then [] else m ∷ []) → (if t then others l (ks ++ m ∷ []) else k ∷ others l (ks ++ m ∷ [])) ≡ (if t then others l ks else k ∷ others l ks) ++ (if same_label l m then [] else m ∷ [])
    by_test true r = r
    by_test false r = ap (λ xs. k ∷ xs) r

others_insert : (l m : Label) (ls : List Label) → l ∷ others l (insert ls m) ≡ insert (l ∷ others l ls) m
others_insert l m ls = by_label (same_label m l) refl
  where
    by_there : (t : Bool) → same_label m l ≡ false → has m ls ≡ t → l ∷ others l (if t then ls else ls ++ m ∷ []) ≡ (if has m (others l ls) then l ∷ others l ls else l ∷ others l ls ++ m ∷ [])
    by_there true n q = ap (λ t. if t then l ∷ others l ls else l ∷ others l ls ++ m ∷ []) (sym (same_any l m ls n ∙ q))
    by_there false n q =
        ap (λ xs. l ∷ xs) (others_last l m ls ∙ ap (λ t. others l ls ++ (if t then [] else m ∷ [])) (label_flip l m ∙ n))
        ∙ ap (λ t. if t then l ∷ others l ls else l ∷ others l ls ++ m ∷ []) (sym (same_any l m ls n ∙ q))

    by_same : (t : Bool) → same_label m l ≡ true → l ∷ others l (if t then ls else ls ++ m ∷ []) ≡ l ∷ others l ls
    by_same true q = refl
    by_same false q = ap (λ xs. l ∷ xs) (others_last l m ls ∙ (ap (λ t. others l ls ++ (if t then [] else m ∷ [])) (label_flip l m ∙ q) ∙ append-nil (others l ls)))

    by_label : (t : Bool) → same_label m l ≡ t → l ∷ others l (insert ls m) ≡ (if t || has m (others l ls) then l ∷ others l ls else l ∷ others l ls ++ m ∷ [])
    by_label true q = by_same (has m ls) q
    by_label false q = by_there (has m ls) q refl

module _ {A : Type 0} (tell : A → Option Label) where
  labels_more : (us : List A) (a : A) → labels_by tell (us ++ a ∷ []) ≡ with_told (labels_by tell us) (tell a)
  labels_more [] a = by_label (tell a)
    where
      by_label : (o : Option Label) → and_label o [] ≡ with_told [] o
      by_label None = refl
      by_label (Some l) = refl
  labels_more (c ∷ us) a = ap (λ ls. and_label (tell c) ls) (labels_more us a) ∙ by_label (tell c) (tell a)
    where
      by_label : (o u : Option Label) → and_label o (with_told (labels_by tell us) u) ≡ with_told (and_label o (labels_by tell us)) u
      by_label None u = refl
      by_label (Some l) None = refl
      by_label (Some l) (Some m) = others_insert l m (labels_by tell us)

  distinct_labels : (us : List A) → Distinct (labels_by tell us)
  distinct_labels [] = tt
  distinct_labels (a ∷ us) = by_label (tell a) (distinct_labels us)
    where
      by_label : (o : Option Label) → Distinct (labels_by tell us) → Distinct (and_label o (labels_by tell us))
      by_label None r = r
      by_label (Some l) r = (none_of_it l (labels_by tell us), distinct_others l (labels_by tell us) r)

  abbrev group : List A → Label → List A
  group us l = labelled tell l us

  abbrev pair : List A → Label → Label × List A
  pair us l = (l, labelled tell l us)

  group_more : (l : Label) (us : List A) (a : A) → group (us ++ a ∷ []) l ≡ group us l ++ (if is_label l (tell a) then a ∷ [] else [])
  group_more l [] a = refl
  group_more l (c ∷ us) a = by_test (is_label l (tell c)) (group_more l us a)
    where
      by_test : (t : Bool) → group (us ++ a ∷ []) l ≡ group us l ++ (if is_label l (tell a) then a ∷ [] else []) → (if t then c ∷ group (us ++ a ∷ []) l else group (us ++ a ∷ []) l) ≡ (if t then c ∷ group us l else group us l) ++ (if is_label l (tell a) then a ∷ [] else [])
      by_test true r = ap (λ xs. c ∷ xs) r
      by_test false r = r

  -- a label that none has has no group
  no_group : (l : Label) (us : List A) → has l (labels_by tell us) ≡ false → group us l ≡ []
  no_group l [] n = refl
  no_group l (a ∷ us) n = by_label (tell a) n (λ m. no_group l us m)
    where
      by_test : (k : Label) (t : Bool) → same_label l k ≡ t → (t || has l (others k (labels_by tell us))) ≡ false → (has l (labels_by tell us) ≡ false → group us l ≡ []) → (if t then a ∷ group us l else group us l) ≡ []
      by_test k true q n again = cc
      by_test k false q n again = again (sym (same_any k l (labels_by tell us) q) ∙ n)

      by_label : (o : Option Label) → has l (and_label o (labels_by tell us)) ≡ false → (has l (labels_by tell us) ≡ false → group us l ≡ []) → (if is_label l o then a ∷ group us l else group us l) ≡ []
      by_label None n again = again n
      by_label (Some k) n again = by_test k (same_label l k) refl n again

  -- groups of labels are as before where one more has none of them
  group_same : (k l : Label) (us : List A) (a : A) → tell a ≡ Some l → same_label l k ≡ false → group (us ++ a ∷ []) k ≡ group us k
  group_same k l us a e q =
      group_more k us a
      ∙ ap (λ o. group us k ++ (if is_label k o then a ∷ [] else [])) e
      ∙ ap (λ t. group us k ++ (if t then a ∷ [] else [])) (label_flip k l ∙ q)
      ∙ append-nil (group us k)

  kept_groups : (ks : List Label) (us : List A) (a : A) (l : Label) → tell a ≡ Some l → has l ks ≡ false → map (pair (us ++ a ∷ [])) ks ≡ map (pair us) ks
  kept_groups [] us a l e n = refl
  kept_groups (k ∷ ks) us a l e n = by_test (same_label l k) refl n (λ m. kept_groups ks us a l e m)
    where
      by_test : (t : Bool) → same_label l k ≡ t → (t || has l ks) ≡ false → (has l ks ≡ false → map (pair (us ++ a ∷ [])) ks ≡ map (pair us) ks) → pair (us ++ a ∷ []) k ∷ map (pair (us ++ a ∷ [])) ks ≡ pair us k ∷ map (pair us) ks
      by_test true q n again = cc
      by_test false q n again = ap₂ (λ (g : List A) (gs : List (Label × List A)). (k, g) ∷ gs) (group_same k l us a e q) (again n)

  group_put : (k l : Label) (us : List A) (a : A) → tell a ≡ Some l → same_label l k ≡ true → group (us ++ a ∷ []) k ≡ group us k ++ a ∷ []
  group_put k l us a e q =
      group_more k us a
      ∙ ap (λ o. group us k ++ (if is_label k o then a ∷ [] else [])) e
      ∙ ap (λ t. group us k ++ (if t then a ∷ [] else [])) (label_flip k l ∙ q)

  groups_step : (ks : List Label) (us : List A) (a : A) (l : Label) → tell a ≡ Some l → Distinct ks → (has l ks ≡ false → group us l ≡ []) → map (pair (us ++ a ∷ [])) (insert ks l) ≡ put_in l a (map (pair us) ks)
  groups_step [] us a l e i n =
      ap (λ (g : List A). (l, g) ∷ []) (group_put l l us a e (label_self l) ∙ ap (λ (g : List A). g ++ a ∷ []) (n refl))
  groups_step (k ∷ ks) us a l e i n = by_test (same_label l k) refl n (λ m. groups_step ks us a l e i.1 m)
    where
      moved : (t : Bool) → map (pair (us ++ a ∷ [])) (if t then k ∷ ks else k ∷ ks ++ l ∷ []) ≡ pair (us ++ a ∷ []) k ∷ map (pair (us ++ a ∷ [])) (if t then ks else ks ++ l ∷ [])
      moved true = refl
      moved false = refl

      by_test : (t : Bool) → same_label l k ≡ t → ((t || has l ks) ≡ false → group us l ≡ []) → ((has l ks ≡ false → group us l ≡ []) → map (pair (us ++ a ∷ [])) (insert ks l) ≡ put_in l a (map (pair us) ks)) → map (pair (us ++ a ∷ [])) (if t || has l ks then k ∷ ks else k ∷ ks ++ l ∷ []) ≡ (if t then (k, group us k ++ a ∷ []) ∷ map (pair us) ks else pair us k ∷ put_in l a (map (pair us) ks))
      by_test true q n again =
          ap₂ (λ (g : List A) (gs : List (Label × List A)). (k, g) ∷ gs)
          (group_put k l us a e q)
          (kept_groups ks us a l e (subst (λ z. has z ks ≡ false) (sym (label_same l k q)) i.0))
      by_test false q n again =
          moved (has l ks)
          ∙ ap₂ (λ (g : List A) (gs : List (Label × List A)). (k, g) ∷ gs) (group_same k l us a e q) (again n)

  none_more : (ks : List Label) (us : List A) (a : A) → tell a ≡ None → map (pair (us ++ a ∷ [])) ks ≡ map (pair us) ks
  none_more [] us a e = refl
  none_more (k ∷ ks) us a e =
      ap₂ (λ (g : List A) (gs : List (Label × List A)). (k, g) ∷ gs)
      (group_more k us a ∙ ap (λ o. group us k ++ (if is_label k o then a ∷ [] else [])) e ∙ append-nil (group us k))
      (none_more ks us a e)

  -- the groups with one more
  pub groups_more : (us : List A) (a : A) → put_told (tell a) a (groups_by tell us) ≡ groups_by tell (us ++ a ∷ [])
  groups_more us a = by_label (tell a) refl
    where
      by_label : (o : Option Label) → tell a ≡ o → put_told o a (groups_by tell us) ≡ groups_by tell (us ++ a ∷ [])
      by_label None e =
          sym (none_more (labels_by tell us) us a e)
          ∙ ap (map (pair (us ++ a ∷ []))) (sym (labels_more us a ∙ ap (with_told (labels_by tell us)) e))
      by_label (Some l) e =
          sym (groups_step (labels_by tell us) us a l e (distinct_labels us) (λ n. no_group l us n))
          ∙ ap (map (pair (us ++ a ∷ []))) (sym (labels_more us a ∙ ap (with_told (labels_by tell us)) e))
