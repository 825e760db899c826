-- A disjunction of ordered goals is ordered in its switch form.
use Rattle.std.proofs.Common.{◌≡◌, ◌≢◌, ◌⊎◌, inl, inr, ℕ, zero, suc, List, [], ◌∷◌, ◌++◌, Option, Some, None, Bool, true, false, if◌then◌else◌, not, ◌&&◌, ◌||◌, refl, sym, ap, ap₂, ◌∙◌, subst, ⊎_elim}
use Rattle.std.specs.List.{list_all}
use Rattle.std.specs.Option.{option_or}
use Rattle.std.proofs.lemmas.Bool.{and_parts}
use Rattle.std.proofs.lemmas.List.{append-nil, append_assoc}
use Rattle.mc_program.specs.Programs.{TypeTerm, Source}
use Rattle.mc_source.specs.Determinism.{inferred, det}
use Rattle.mc_model.specs.Insts.{free}
use Rattle.mc_model.specs.Flat as F
use Rattle.mc_model.specs.Flat.{Flat_goal, Flat_goals, no_flat, flat_then, free_in, free_in_all}
use Rattle.mc_model.specs.Lists.{In, is_in}
use Rattle.mc_model.specs.Stream.{is_bound}
use Rattle.mc_model.specs.Scheduled.{Label, Node, node, Scheduled, Conj, Disj, Switch, Ite, Not, Exists, Assign, Test, Build, Take, Const, TestConst, Call, Apply, Nodes, no_nodes, node_then, Arms, no_arms, arm_then}
use Rattle.mc_model.specs.Good.{System}
use Rattle.mc_accepted.specs.Fits.{FitsInsts}
use Rattle.mc_accepted.specs.Inclusion.{AllFree, NoneIs, Merged}
use Rattle.mc_accepted.specs.Least.{least}
use Rattle.mc_accepted.specs.Ordered as R
use Rattle.mc_accepted.specs.Ordered.{Insts, change_at, Parts, arm_goal, reachable, is_pruned, KeepsChanges, Joined, Ordered, OrderedNode, OrderedAny, OrderedArms, kept, Opens, OpensScheduled, EachOpens, EachArmOpens, IsLabel, AbsentFrom}
use Rattle.mc_accepted.specs.Determined.{insts_after, allowed_in}
use Rattle.mc_accepted.specs.MergedArms.{EachGives, never_ends, never_ends_in, each_never_ends, each_arm_never_ends, with_end, ends, arm_ends, disjunct_ends, ends_in_arm, ChangesMerge, ArmMerges, ArmsMerge, ArmsMergeIn, ArmsMergeInEach, EachArmMerges, MergeInside}
use Rattle.mc_accepted.specs.Switched.{Disjunct, openings, goals_of, label_in, same_label, is_label, opens_with, is_told, others, and_label, labels_of, those, Kept, arm_of, arms_on, on_chosen, is_opened, covers, opened_variables, chosen, grouped}
use Rattle.laws_language.proofs.Merging.{one_is_merged}
use Rattle.laws_accepted.specs.SwitchLaws.{Told}
use Rattle.laws_accepted.proofs.Labels.{label_same}
use Rattle.laws_accepted.proofs.Opened.{openings_open}
use Rattle.laws_accepted.proofs.Grouping.{least_passes}
use Rattle.laws_order.proofs.Arranging.{is-unset, or-second}
use Rattle.laws_accepted.specs.Told as W
use Rattle.laws_accepted.specs.Told.{Retold, RetoldIn, RetoldAll, RetoldArms, retold}
use Rattle.laws_accepted.specs.GroupLaws.{in_groups, EachMerged}
use Rattle.laws_accepted.proofs.Groups.{groups_merge_as_all, merging_keeps_sets}
use Rattle.laws_accepted.proofs.Outside.{Same, same_self, same_onto}
use Rattle.laws_accepted.proofs.FormVariables.{same_label_self, same_both, told_those, chosen_told}
use Rattle.laws_accepted.proofs.Telling.{told_opens}
use Rattle.laws_accepted.proofs.Staying.{insts_at, free_merged, merged_set}
use Rattle.laws_language.proofs.FlatGoals.{in_either, in_left, in_right}

-- ---- labels
abbrev pub NotAmong : Label → List Label → Type 0
NotAmong l [] = Unit {0}
NotAmong l (k ∷ ks) = (l ≢ k) × NotAmong l ks

abbrev pub Distinct : List Label → Type 0
Distinct [] = Unit {0}
Distinct (l ∷ ls) = NotAmong l ls × Distinct ls

abbrev EachLabel : List Label → Type 0
EachLabel [] = Unit {0}
EachLabel (l ∷ ls) = IsLabel l × EachLabel ls

not_among_others : (l k : Label) (ls : List Label) → NotAmong l ls → NotAmong l (others k ls)
not_among_others l k [] h = tt
not_among_others l k (j ∷ ls) h = at (same_label k j) (not_among_others l k ls h.1)
  where
    at : (t : Bool) → NotAmong l (others k ls) → NotAmong l (if t then others k ls else j ∷ others k ls)
    at true r = r
    at false r = (h.0, r)

gone : (k : Label) (ls : List Label) → NotAmong k (others k ls)
gone k [] = tt
gone k (j ∷ ls) = at (same_label k j) refl (gone k ls)
  where
    at : (t : Bool) → same_label k j ≡ t → NotAmong k (others k ls) → NotAmong k (if t then others k ls else j ∷ others k ls)
    at true q r = r
    at false q r = ((λ e. let f : same_label k k ≡ false = subst (λ i. same_label k i ≡ false) (sym e) q in let g = same_label_self k in cc), r)

distinct_others : (k : Label) (ls : List Label) → Distinct ls → Distinct (others k ls)
distinct_others k [] h = tt
distinct_others k (j ∷ ls) h = at (same_label k j) (distinct_others k ls h.1)
  where
    at : (t : Bool) → Distinct (others k ls) → Distinct (if t then others k ls else j ∷ others k ls)
    at true r = r
    at false r = (not_among_others j k ls h.0, r)

label_others : (k : Label) (ls : List Label) → EachLabel ls → EachLabel (others k ls)
label_others k [] h = tt
label_others k (j ∷ ls) h = at (same_label k j) (label_others k ls h.1)
  where
    at : (t : Bool) → EachLabel (others k ls) → EachLabel (if t then others k ls else j ∷ others k ls)
    at true r = r
    at false r = (h.0, r)

module _ (x : ℕ) where
  pub distinct_labels : (ds : List Disjunct) → Distinct (labels_of x ds)
  distinct_labels [] = tt
  distinct_labels (d ∷ ds) = at (label_in x d.opens) (distinct_labels ds)
    where
      at : (o : Option Label) → Distinct (labels_of x ds) → Distinct (and_label o (labels_of x ds))
      at None r = r
      at (Some k) r = (gone k (labels_of x ds), distinct_others k (labels_of x ds) r)

  each_label : (ds : List Disjunct) → Told ds → EachLabel (labels_of x ds)
  each_label [] t = tt
  each_label (d ∷ ds) t = at (label_in x d.opens) refl (each_label ds t.1)
    where
      at : (o : Option Label) → label_in x d.opens ≡ o → EachLabel (labels_of x ds) → EachLabel (and_label o (labels_of x ds))
      at None q r = r
      at (Some k) q r = ((openings_open x d.goal k (subst (λ os. label_in x os ≡ Some k) t.0 q)).1, label_others k (labels_of x ds) r)

  -- a disjunct has one of the labels
  abbrev pub HasOne : List Label → Disjunct → Type 0
  HasOne [] d = ⊥
  HasOne (l ∷ ls) d = (opens_with x l d ≡ true) ⊎ HasOne ls d

  abbrev pub EachHasOne : List Label → List Disjunct → Type 0
  EachHasOne ls [] = Unit {0}
  EachHasOne ls (d ∷ ds) = HasOne ls d × EachHasOne ls ds

  has_others : (k : Label) (ls : List Label) (d : Disjunct) → HasOne ls d → HasOne (k ∷ others k ls) d
  has_others k [] d h = absurd h
  has_others k (j ∷ ls) d h = at (same_label k j) refl h (λ r. has_others k ls d r)
    where
      at : (t : Bool) → same_label k j ≡ t → (opens_with x j d ≡ true) ⊎ HasOne ls d → (HasOne ls d → (opens_with x k d ≡ true) ⊎ HasOne (others k ls) d) → (opens_with x k d ≡ true) ⊎ HasOne (if t then others k ls else j ∷ others k ls) d
      at true q (inl e) again = inl (subst (λ i. opens_with x i d ≡ true) (sym (label_same k j q)) e)
      at true q (inr r) again = again r
      at false q (inl e) again = inr (inl e)
      at false q (inr r) again = ⊎_elim (λ e. inl e) (λ a. inr (inr a)) (again r)

  each_others : (k : Label) (ls : List Label) (ds : List Disjunct) → EachHasOne ls ds → EachHasOne (k ∷ others k ls) ds
  each_others k ls [] h = tt
  each_others k ls (d ∷ ds) h = (has_others k ls d h.0, each_others k ls ds h.1)

  pub each_has_one : (ds : List Disjunct) → list_all (λ (d : Disjunct). is_told (label_in x d.opens)) ds ≡ true → EachHasOne (labels_of x ds) ds
  each_has_one [] e = tt
  each_has_one (d ∷ ds) e = (let p = and_parts (is_told (label_in x d.opens)) (list_all (λ (d : Disjunct). is_told (label_in x d.opens)) ds) e in at (label_in x d.opens) refl p.0 (each_has_one ds p.1))
    where
      at : (o : Option Label) → label_in x d.opens ≡ o → is_told o ≡ true → EachHasOne (labels_of x ds) ds → EachHasOne (and_label o (labels_of x ds)) (d ∷ ds)
      at None q t r = cc
      at (Some k) q t r = (inl (ap (is_label k) q ∙ same_label_self k), each_others k (labels_of x ds) ds r)

  has_label : (l : Label) (o : Option Label) → is_label l o ≡ true → o ≡ Some l
  has_label l None e = cc
  has_label l (Some k) e = ap Some (sym (label_same l k e))

  abbrev pub without_label : Label → List Disjunct → List Disjunct
  without_label l ds = those (λ d. not (opens_with x l d)) ds

  pub others_left : (l : Label) (ls : List Label) (ds : List Disjunct) → EachHasOne (l ∷ ls) ds → EachHasOne ls (without_label l ds)
  others_left l ls [] h = tt
  others_left l ls (d ∷ ds) h = at (opens_with x l d) refl h.0 (others_left l ls ds h.1)
    where
      at : (t : Bool) → opens_with x l d ≡ t → (opens_with x l d ≡ true) ⊎ HasOne ls d → EachHasOne ls (without_label l ds) → EachHasOne ls (if not t then d ∷ without_label l ds else without_label l ds)
      at true q a r = r
      at false q (inl e) r = cc
      at false q (inr a) r = (a, r)

  pub same_left : (l k : Label) → l ≢ k → (ds : List Disjunct) → those (opens_with x k) (without_label l ds) ≡ those (opens_with x k) ds
  same_left l k ne [] = refl
  same_left l k ne (d ∷ ds) = at (opens_with x l d) (opens_with x k d) refl refl (same_left l k ne ds)
    where
      at : (t u : Bool) → opens_with x l d ≡ t → opens_with x k d ≡ u → those (opens_with x k) (without_label l ds) ≡ those (opens_with x k) ds → those (opens_with x k) (if not t then d ∷ without_label l ds else without_label l ds) ≡ (if u then d ∷ those (opens_with x k) ds else those (opens_with x k) ds)
      at true true p q r = absurd (ne (let e = sym (has_label l (label_in x d.opens) p) ∙ has_label k (label_in x d.opens) q in cc))
      at true false p q r = r
      at false u p q r = ap (λ v. if v then d ∷ those (opens_with x k) (without_label l ds) else those (opens_with x k) (without_label l ds)) q ∙ ap (λ es. if u then d ∷ es else es) r

abbrev pub AllLabelled : ℕ → Label → List Disjunct → Type 0
AllLabelled z l [] = Unit {0}
AllLabelled z l (d ∷ ds) = (label_in z d.opens ≡ Some l) × AllLabelled z l ds

labelled_those : (z : ℕ) (l : Label) (f : Disjunct → Bool) (ds : List Disjunct) → AllLabelled z l ds → AllLabelled z l (those f ds)
labelled_those z l f [] h = tt
labelled_those z l f (d ∷ ds) h = at (f d) (labelled_those z l f ds h.1)
  where
    at : (t : Bool) → AllLabelled z l (those f ds) → AllLabelled z l (if t then d ∷ those f ds else those f ds)
    at true r = (h.0, r)
    at false r = r

pub labelled_group : (x : ℕ) (l : Label) (ds : List Disjunct) → AllLabelled x l (those (opens_with x l) ds)
labelled_group x l [] = tt
labelled_group x l (d ∷ ds) = at (opens_with x l d) refl (labelled_group x l ds)
  where
    at : (t : Bool) → opens_with x l d ≡ t → AllLabelled x l (those (opens_with x l) ds) → AllLabelled x l (if t then d ∷ those (opens_with x l) ds else those (opens_with x l) ds)
    at true q r = (has_label x l (label_in x d.opens) q, r)
    at false q r = r

-- ---- ends
abbrev pub no_end : List Insts → Bool
no_end [] = true
no_end (c ∷ cs) = false

pub same_cons : (z : ℕ) (xs ys : List ℕ) → Same xs ys → Same (z ∷ xs) (z ∷ ys)
same_cons z xs ys h = ((λ w i. ⊎_elim (λ e. inl e) (λ j. inr (h.0 w j)) i), (λ w i. ⊎_elim (λ e. inl e) (λ j. inr (h.1 w j)) i))

pub same_middle : (z : ℕ) (xs us vs : List ℕ) → Same xs (us ++ vs) → Same (z ∷ xs) (us ++ (z ∷ vs))
same_middle z xs us vs h = (
  (λ w i. ⊎_elim (λ e. in_right w us (z ∷ vs) (inl e)) (λ j. ⊎_elim (λ a. in_left w us (z ∷ vs) a) (λ a. in_right w us (z ∷ vs) (inr a)) (in_either w us vs (h.0 w j))) i),
  (λ w i. ⊎_elim (λ a. inr (h.1 w (in_left w us vs a))) (λ a. ⊎_elim (λ e. inl e) (λ j. inr (h.1 w (in_right w us vs j))) a) (in_either w us (z ∷ vs) i)),
)

module _ (S : System) (T : ℕ → TypeTerm) (b : Insts) where
  -- the insts after a goal, by what it keeps
  abbrev pub end_of : Node → Option Insts
  end_of n = if never_ends S T b n then None else Some (insts_after n b)

  abbrev pub ends_of : List Disjunct → List (Option Insts)
  ends_of [] = []
  ends_of (d ∷ ds) = end_of d.goal ∷ ends_of ds

  with_reachable : (n : Node) (cs : List Insts) (os : List (Option Insts)) → cs ≡ reachable os → with_end S T b n cs ≡ reachable (end_of n ∷ os)
  with_reachable n cs os e = at (never_ends S T b n)
    where
      at : (t : Bool) → (if t then cs else insts_after n b ∷ cs) ≡ reachable ((if t then None else Some (insts_after n b)) ∷ os)
      at true = e
      at false = ap (λ cs. insts_after n b ∷ cs) e

  ends_reachable : (ds : List Disjunct) → ends S T b (goals_of ds) ≡ reachable (ends_of ds)
  ends_reachable [] = refl
  ends_reachable (d ∷ ds) = with_reachable d.goal (ends S T b (goals_of ds)) (ends_of ds) (ends_reachable ds)

  one_more : (n : Node) (t : Bool) (cs : List Insts) → t ≡ no_end cs → (never_ends S T b n && t) ≡ no_end (with_end S T b n cs)
  one_more n t cs e = at (never_ends S T b n)
    where
      at : (u : Bool) → (u && t) ≡ no_end (if u then cs else insts_after n b ∷ cs)
      at true = e
      at false = refl

  pub each_never : (ns : Nodes) → each_never_ends S T b ns ≡ no_end (ends S T b ns)
  each_never no_nodes = refl
  each_never (node_then n ns) = one_more n (each_never_ends S T b ns) (ends S T b ns) (each_never ns)

  each_arm_never : (arms : Arms) → each_arm_never_ends S T b arms ≡ no_end (arm_ends S T b arms)
  each_arm_never no_arms = refl
  each_arm_never (arm_then l n arms) = one_more n (each_arm_never_ends S T b arms) (arm_ends S T b arms) (each_arm_never arms)

  -- an arm that begins with a deconstruction is one disjunct
  pub one_disjunct : (x : ℕ) (l : Label) (n : Node) → label_in x (openings n) ≡ Some l → ends_in_arm S T b n ≡ with_end S T b n []
  one_disjunct x l (node (Conj ns) changes d m) e = refl
  one_disjunct x l (node (Disj ns) changes d m) e = cc
  one_disjunct x l (node (Switch y arms) changes d m) e = cc
  one_disjunct x l (node (Ite vs n t u) changes d m) e = refl
  one_disjunct x l (node (Not n) changes d m) e = refl
  one_disjunct x l (node (Exists vs n) changes d m) e = refl
  one_disjunct x l (node (Assign y z) changes d m) e = refl
  one_disjunct x l (node (Test y z) changes d m) e = refl
  one_disjunct x l (node (Build y s ys) changes d m) e = refl
  one_disjunct x l (node (Take y s ys) changes d m) e = refl
  one_disjunct x l (node (Const y v) changes d m) e = refl
  one_disjunct x l (node (TestConst y v) changes d m) e = refl
  one_disjunct x l (node (Call p xs implied last) changes d m) e = refl
  one_disjunct x l (node (Apply op xs ys) changes d m) e = refl

-- ends of some branches and of others
pub ends_append : (y : ℕ) (cs ds : List Insts) → insts_at y (cs ++ ds) ≡ insts_at y cs ++ insts_at y ds
ends_append y [] ds = refl
ends_append y (c ∷ cs) ds = ap (λ is. c y ∷ is) (ends_append y cs ds)

pub no_end_append : (cs ds : List Insts) → no_end (cs ++ ds) ≡ (no_end cs && no_end ds)
no_end_append [] ds = refl
no_end_append (c ∷ cs) ds = refl

-- ---- what is asked of the arms is asked of each disjunct
module _ (S : System) (T : ℕ → TypeTerm) (b c : Insts) (keep : Kept) where
  abbrev EachMerges : List Disjunct → Type 0
  EachMerges ds = ArmsMergeInEach S T b (goals_of ds)

  inside_merges : (x : ℕ) (l : Label) (n : Node) → label_in x (openings n) ≡ Some l → MergeInside S T b c n → ArmsMerge S T b n
  inside_merges x l (node (Conj ns) changes d m) e h = h
  inside_merges x l (node (Disj ns) changes d m) e h = h
  inside_merges x l (node (Switch y arms) changes d m) e h = cc
  inside_merges x l (node (Ite vs n t u) changes d m) e h = h
  inside_merges x l (node (Not n) changes d m) e h = h
  inside_merges x l (node (Exists vs n) changes d m) e h = h
  inside_merges x l (node (Assign y z) changes d m) e h = h
  inside_merges x l (node (Test y z) changes d m) e h = h
  inside_merges x l (node (Build y s ys) changes d m) e h = h
  inside_merges x l (node (Take y s ys) changes d m) e h = h
  inside_merges x l (node (Const y v) changes d m) e h = h
  inside_merges x l (node (TestConst y v) changes d m) e h = h
  inside_merges x l (node (Call p xs implied last) changes d m) e h = h
  inside_merges x l (node (Apply op xs ys) changes d m) e h = h

  module _ (x : ℕ) where
    abbrev GroupsMerge : List Label → List Disjunct → Type 0
    GroupsMerge [] ds = Unit {0}
    GroupsMerge (l ∷ ls) ds = EachMerges (those (opens_with x l) ds) × GroupsMerge ls ds

    group_tail : (t : Bool) (d : Disjunct) (us : List Disjunct) → EachMerges (if t then d ∷ us else us) → EachMerges us
    group_tail true d us h = h.1
    group_tail false d us h = h

    group_head : (t : Bool) (d : Disjunct) (us : List Disjunct) → t ≡ true → EachMerges (if t then d ∷ us else us) → ArmsMerge S T b d.goal
    group_head true d us e h = h.0
    group_head false d us e h = cc

    groups_tail : (ls : List Label) (d : Disjunct) (ds : List Disjunct) → GroupsMerge ls (d ∷ ds) → GroupsMerge ls ds
    groups_tail [] d ds h = tt
    groups_tail (l ∷ ls) d ds h = (group_tail (opens_with x l d) d (those (opens_with x l) ds) h.0, groups_tail ls d ds h.1)

    groups_head : (ls : List Label) (d : Disjunct) (ds : List Disjunct) → HasOne x ls d → GroupsMerge ls (d ∷ ds) → ArmsMerge S T b d.goal
    groups_head [] d ds o h = absurd o
    groups_head (l ∷ ls) d ds o h = ⊎_elim (λ e. group_head (opens_with x l d) d (those (opens_with x l) ds) e h.0) (λ r. groups_head ls d ds r h.1) o

    from_groups : (ls : List Label) (ds : List Disjunct) → EachHasOne x ls ds → GroupsMerge ls ds → EachMerges ds
    from_groups ls [] o h = tt
    from_groups ls (d ∷ ds) o h = (groups_head ls d ds o.0 h, from_groups ls ds o.1 (groups_tail ls d ds h))

    module _ (again : List Disjunct → Scheduled) (rec : (us : List Disjunct) → Told us → ArmsMergeIn S T b c (again us) → EachMerges us) where
      arm_merges : (l : Label) (us : List Disjunct) → Told us → AllLabelled x l us → MergeInside S T b c (arm_of keep again us) → EachMerges us
      arm_merges l [] t a h = tt
      arm_merges l (d ∷ []) t a h = (inside_merges x l d.goal (subst (λ os. label_in x os ≡ Some l) t.0 a.0) h, tt)
      arm_merges l (d ∷ e ∷ us) t a h = rec (d ∷ e ∷ us) t h

      arms_merge : (ls : List Label) (ds : List Disjunct) → Told ds → EachArmMerges S T b c (arms_on (arm_of keep again) x ds ls) → GroupsMerge ls ds
      arms_merge [] ds t h = tt
      arms_merge (l ∷ ls) ds t h = (arm_merges l (those (opens_with x l) ds) (told_those (opens_with x l) ds t) (labelled_group x l ds) h.1, arms_merge ls ds t h.2)

  pub each_merges : (k : ℕ) (out : List ℕ) (ds : List Disjunct) → Told ds → ArmsMergeIn S T b c (grouped S T keep k b out ds) → EachMerges ds
  each_merges zero out ds t h = h
  each_merges (suc k) out ds t h = at (chosen S T out b ds) refl (λ out. each_merges k out) h
    where
      at : (o : Option ℕ) → chosen S T out b ds ≡ o → ((out : List ℕ) (us : List Disjunct) → Told us → ArmsMergeIn S T b c (grouped S T keep k b out us) → EachMerges us) → ArmsMergeIn S T b c (on_chosen (λ out. arm_of keep (grouped S T keep k b out)) out ds o) → EachMerges ds
      at None q again h = h
      at (Some x) q again h = from_groups x (labels_of x ds) ds (each_has_one x ds (chosen_told S T out b ds x q)) (arms_merge x (grouped S T keep k b (x ∷ out)) (again (x ∷ out)) (labels_of x ds) ds t h)

-- what is bound, and occurs nowhere outside, is kept or free after a disjunct
abbrev pub FineEnd : (outside : List ℕ) → (before : Insts) → Option Insts → Type 0
FineEnd O b None = Unit {0}
FineEnd O b (Some e) = (y : ℕ) → (In y O → ⊥) → is_bound (b y) ≡ true → (e y ≡ b y) ⊎ (e y ≡ 0)

-- what occurs outside and is free after the disjunction is so after a disjunct
abbrev pub FreeEnd : System → (outside : List ℕ) → (after : Insts) → Option Insts → Type 0
FreeEnd S O c None = Unit {0}
FreeEnd S O c (Some e) = (y : ℕ) → In y O → is_bound (c y) ≡ false → S.insts (e y) ≡ free

-- ---- a disjunction, with the insts b before it and c after it
module _ (S : System) (T : ℕ → TypeTerm) (fits : FitsInsts S.insts) (O Q : List ℕ) (b c : Insts) (keep : Kept) (unbinds : (y : ℕ) → (In y O → ⊥) → is_bound (b y) ≡ false → is_bound (c y) ≡ false) where
  abbrev P : Source
  P = S.world.source

  abbrev reach : List Disjunct → List Insts
  reach ds = reachable (ends_of S T b ds)

  abbrev AllFine : List Insts → Type 0
  AllFine [] = Unit {0}
  AllFine (e ∷ es) = FineEnd O b (Some e) × AllFine es

  all_fine : (o : Option Insts) (os : List (Option Insts)) → FineEnd O b o → AllFine (reachable os) → AllFine (reachable (o ∷ os))
  all_fine None os f fs = fs
  all_fine (Some e) os f fs = (f, fs)

  all_free : (o : Option Insts) (os : List (Option Insts)) → FreeEnd S O c o → ((y : ℕ) → In y O → is_bound (c y) ≡ false → AllFree S.insts (insts_at y (reachable os))) → (y : ℕ) → In y O → is_bound (c y) ≡ false → AllFree S.insts (insts_at y (reachable (o ∷ os)))
  all_free None os f fs y i u = fs y i u
  all_free (Some e) os f fs y i u = (f y i u, fs y i u)

  abbrev IsFree : Flat_goal → Disjunct → Type 0
  IsFree g d = (x : ℕ) → is_bound (b x) ≡ true → is_told (label_in x d.opens) ≡ true → In x (free_in g)

  -- disjuncts that are ordered as they are told, with their ends
  pub data Each : Flat_goals → List Disjunct → Type 0 where
    none : Each no_flat []
    more : {g : Flat_goal} {gs : Flat_goals} {d : Disjunct} {ds : List Disjunct} {m : Node} → Retold d.goal m → OrderedNode S T O Q b g m (end_of S T b d.goal) → d.opens ≡ openings d.goal → IsFree g d → FineEnd O b (end_of S T b d.goal) → FreeEnd S O c (end_of S T b d.goal) → Each gs ds → Each (flat_then g gs) (d ∷ ds)

  abbrev forms : {gs : Flat_goals} {ds : List Disjunct} → Each gs ds → Nodes
  forms none = no_nodes
  forms (more {m = m} w h t f fine un r) = node_then m (forms r)

  told_forms : {gs : Flat_goals} {ds : List Disjunct} (e : Each gs ds) → RetoldAll (goals_of ds) (forms e)
  told_forms none = W.done
  told_forms (more w h t f fine un r) = W.next w (told_forms r)

  ordered_each : {gs : Flat_goals} {ds : List Disjunct} (e : Each gs ds) → OrderedAny S T O Q b gs (forms e) (ends_of S T b ds)
  ordered_each none = R.no_other
  ordered_each (more w h t f fine un r) = R.either h (ordered_each r)

  told_each : {gs : Flat_goals} {ds : List Disjunct} → Each gs ds → Told ds
  told_each none = tt
  told_each (more w h t f fine un r) = (t, told_each r)

  fine_each : {gs : Flat_goals} {ds : List Disjunct} → Each gs ds → AllFine (reach ds)
  fine_each none = tt
  fine_each (more {d = d} {ds = ds} w h t f fine un r) = all_fine (end_of S T b d.goal) (ends_of S T b ds) fine (fine_each r)

  free_each : {gs : Flat_goals} {ds : List Disjunct} → Each gs ds → (y : ℕ) → In y O → is_bound (c y) ≡ false → AllFree S.insts (insts_at y (reach ds))
  free_each none y i u = tt
  free_each (more {d = d} {ds = ds} w h t f fine un r) y i u = all_free (end_of S T b d.goal) (ends_of S T b ds) un (free_each r) y i u

  -- ---- some of the disjuncts and the others
  record SplitInto (gs : Flat_goals) (es us ws : List Disjunct) : Type 0 where
    hs : Flat_goals
    ks : Flat_goals
    parts : Parts gs hs ks
    taken : Each hs us
    left : Each ks ws
    between : (y : ℕ) → Same (insts_at y (reach es)) (insts_at y (reach us) ++ insts_at y (reach ws))
    ends : no_end (reach es) ≡ (no_end (reach us) && no_end (reach ws))

  false_behind : (t : Bool) → false ≡ (t && false)
  false_behind true = refl
  false_behind false = refl

  split : (f : Disjunct → Bool) {gs : Flat_goals} {es : List Disjunct} → Each gs es → SplitInto gs es (those f es) (those (λ d. not (f d)) es)
  split f none = record { hs = no_flat; ks = no_flat; parts = R.no_part; taken = none; left = none; between = λ y. same_self []; ends = refl }
  split f (more {g = g} {gs = gs} {d = d} {ds = es} w h t fr fine un r) = at (f d) (split f r)
    where
      taken_ends : (o : Option Insts) (us ws : List Disjunct) → SplitInto gs es us ws → ((y : ℕ) → Same (insts_at y (reachable (o ∷ ends_of S T b es))) (insts_at y (reachable (o ∷ ends_of S T b us)) ++ insts_at y (reach ws)))
      taken_ends None us ws s y = s.between y
      taken_ends (Some c) us ws s y = same_cons (c y) (insts_at y (reach es)) (insts_at y (reach us) ++ insts_at y (reach ws)) (s.between y)

      taken_none : (o : Option Insts) (us ws : List Disjunct) → SplitInto gs es us ws → no_end (reachable (o ∷ ends_of S T b es)) ≡ (no_end (reachable (o ∷ ends_of S T b us)) && no_end (reach ws))
      taken_none None us ws s = s.ends
      taken_none (Some c) us ws s = refl

      left_ends : (o : Option Insts) (us ws : List Disjunct) → SplitInto gs es us ws → ((y : ℕ) → Same (insts_at y (reachable (o ∷ ends_of S T b es))) (insts_at y (reach us) ++ insts_at y (reachable (o ∷ ends_of S T b ws))))
      left_ends None us ws s y = s.between y
      left_ends (Some c) us ws s y = same_middle (c y) (insts_at y (reach es)) (insts_at y (reach us)) (insts_at y (reach ws)) (s.between y)

      left_none : (o : Option Insts) (us ws : List Disjunct) → SplitInto gs es us ws → no_end (reachable (o ∷ ends_of S T b es)) ≡ (no_end (reach us) && no_end (reachable (o ∷ ends_of S T b ws)))
      left_none None us ws s = s.ends
      left_none (Some c) us ws s = false_behind (no_end (reach us))

      at : (u : Bool) → SplitInto gs es (those f es) (those (λ d. not (f d)) es) → SplitInto (flat_then g gs) (d ∷ es) (if u then d ∷ those f es else those f es) (if not u then d ∷ those (λ d. not (f d)) es else those (λ d. not (f d)) es)
      at true s = record {
        hs = flat_then g s.hs;
        ks = s.ks;
        parts = R.to_part s.parts;
        taken = more w h t fr fine un s.taken;
        left = s.left;
        between = taken_ends (end_of S T b d.goal) (those f es) (those (λ d. not (f d)) es) s;
        ends = taken_none (end_of S T b d.goal) (those f es) (those (λ d. not (f d)) es) s;
      }
      at false s = record {
        hs = s.hs;
        ks = flat_then g s.ks;
        parts = R.to_rest s.parts;
        taken = s.taken;
        left = more w h t fr fine un s.left;
        between = left_ends (end_of S T b d.goal) (those f es) (those (λ d. not (f d)) es) s;
        ends = left_none (end_of S T b d.goal) (those f es) (those (λ d. not (f d)) es) s;
      }

  -- ---- ends in groups
  abbrev Grouped : List (Option Insts) → List Insts → Type 0
  Grouped os all = (y : ℕ) → In y O → (gs : List (List ℕ)) × Same (in_groups gs) (insts_at y all) × EachMerged P S.insts gs (insts_at y (reachable os)) (T y)

  one_group : (all : List Insts) (o : Option Insts) → Joined S T O b all o → Grouped (o ∷ []) all × (no_end (reachable (o ∷ [])) ≡ no_end all)
  one_group [] o j = subst (λ o. Grouped (o ∷ []) [] × (no_end (reachable (o ∷ [])) ≡ true)) (sym j) ((λ y i. ([], same_self [], tt)), refl)
  one_group (c ∷ cs) None j = absurd j
  one_group (c ∷ cs) (Some e) j = ((λ y i. (insts_at y (c ∷ cs) ∷ [], subst (λ xs. Same xs (insts_at y (c ∷ cs))) (sym (append-nil (insts_at y (c ∷ cs)))) (same_self (insts_at y (c ∷ cs))), ((j y).0 i, tt))), refl)

  alone_group : (o : Option Insts) → Grouped (o ∷ []) (reachable (o ∷ []))
  alone_group None y i = ([], same_self [], tt)
  alone_group (Some c) y i = ((c y ∷ []) ∷ [], same_self (c y ∷ []), (one_is_merged P S.insts (c y) 0 (T y), tt))

  each_both : (t : TypeTerm) (gs hs : List (List ℕ)) (ks ls : List ℕ) → EachMerged P S.insts gs ks t → EachMerged P S.insts hs ls t → EachMerged P S.insts (gs ++ hs) (ks ++ ls) t
  each_both t [] hs [] ls e f = f
  each_both t [] hs (k ∷ ks) ls e f = absurd e
  each_both t ([] ∷ gs) hs ks ls e f = absurd e
  each_both t ((i ∷ is) ∷ gs) hs [] ls e f = absurd e
  each_both t ((i ∷ is) ∷ gs) hs (k ∷ ks) ls e f = (e.0, each_both t gs hs ks ls e.1 f)

  groups_both : (gs hs : List (List ℕ)) → Same (in_groups (gs ++ hs)) (in_groups gs ++ in_groups hs)
  groups_both [] hs = same_self (in_groups hs)
  groups_both (g ∷ gs) hs = subst (λ xs. Same (g ++ in_groups (gs ++ hs)) xs) (sym (append_assoc g (in_groups gs) (in_groups hs))) (same_both g (in_groups (gs ++ hs)) g (in_groups gs ++ in_groups hs) (same_self g) (groups_both gs hs))

  ends_both : (y : ℕ) (o : Option Insts) (os : List (Option Insts)) → insts_at y (reachable (o ∷ [])) ++ insts_at y (reachable os) ≡ insts_at y (reachable (o ∷ os))
  ends_both y None os = refl
  ends_both y (Some c) os = refl

  none_both_ends : (o : Option Insts) (os : List (Option Insts)) → no_end (reachable (o ∷ os)) ≡ (no_end (reachable (o ∷ [])) && no_end (reachable os))
  none_both_ends None os = refl
  none_both_ends (Some c) os = refl

  -- what joins all ends joins the groups' ends
  regrouped : (all : List Insts) (os : List (Option Insts)) (o : Option Insts) → Grouped os all → no_end (reachable os) ≡ no_end all → Joined S T O b all o → Joined S T O b (reachable os) o
  regrouped all os o g e j = at all (reachable os) o e j (λ y i k m. (let q = g y i in (groups_merge_as_all P S.insts fits.proper q.0 (insts_at y (reachable os)) k (T y) q.2).0 (merging_keeps_sets P S.insts (insts_at y all) (in_groups q.0) k (T y) q.1.1 q.1.0 m)))
    where
      at : (cs ds : List Insts) (o : Option Insts) → no_end ds ≡ no_end cs → Joined S T O b cs o → ((y : ℕ) → In y O → (k : ℕ) → Merged P S.insts (insts_at y cs) k (T y) → Merged P S.insts (insts_at y ds) k (T y)) → Joined S T O b ds o
      at [] [] o e j f = j
      at [] (d ∷ ds) o e j f = cc
      at (c ∷ cs) [] o e j f = cc
      at (c ∷ cs) (d ∷ ds) None e j f = absurd j
      at (c ∷ cs) (d ∷ ds) (Some z) e j f = λ y. ((λ i. f y i (z y) ((j y).0 i)), (j y).1)

  -- ---- what is kept of an arm joins the ends of its disjuncts
  abbrev end_by : List Insts → List (ℕ × ℕ) → Option Insts
  end_by all changes = if no_end all then None else Some (λ x. change_at x changes (b x))

  record JoinsTo (all : List Insts) (changes : List (ℕ × ℕ)) : Type 0 where
    joined : Joined S T O b all (end_by all changes)
    keeps : KeepsChanges b (end_by all changes) changes
    fine : FineEnd O b (end_by all changes)

  abbrev IsKeptOrFree : ℕ → List ℕ → Type 0
  IsKeptOrFree y is = (i : ℕ) → In i is → (i ≡ b y) ⊎ (i ≡ 0)

  kept_or_free : (y : ℕ) (cs : List Insts) → AllFine cs → (In y O → ⊥) → is_bound (b y) ≡ true → IsKeptOrFree y (insts_at y cs)
  kept_or_free y [] f n q i j = absurd j
  kept_or_free y (e ∷ cs) f n q i j = ⊎_elim (λ h. subst (λ k. (k ≡ b y) ⊎ (k ≡ 0)) (sym h) (f.0 y n q)) (λ k. kept_or_free y cs f.1 n q i k) j

  gives_one : (y : ℕ) (cs : List Insts) → IsKeptOrFree y (insts_at y cs) → NoneIs free S.insts (insts_at y cs) → EachGives y (b y) cs
  gives_one y [] f set = tt
  gives_one y (e ∷ cs) f set = (⊎_elim (λ a. a) (λ z. absurd (set.0 (ap S.insts z ∙ fits.is_free))) (f (e y) (inl refl)), gives_one y cs (λ i j. f i (inr j)) set.1)

  neither : (t u : Bool) → t ≡ false → u ≡ false → (t || u) ≡ false
  neither true u e f = cc
  neither false u e f = f

  one_of : (t u : Bool) → t ≡ true → (t || u) ≡ true
  one_of true u e = refl
  one_of false u e = cc

  merges_join : (cs all : List Insts) (changes : List (ℕ × ℕ)) → ((y : ℕ) → Same (insts_at y cs) (insts_at y all)) → no_end cs ≡ no_end all → AllFine all → ((y : ℕ) → In y O → is_bound (c y) ≡ false → AllFree S.insts (insts_at y all)) → ChangesMerge S T b c cs changes → JoinsTo all changes
  merges_join [] [] changes same e fine un m = record { joined = refl; keeps = m; fine = tt }
  merges_join [] (a ∷ all) changes same e fine un m = cc
  merges_join (d ∷ cs) [] changes same e fine un m = cc
  merges_join (d ∷ cs) (a ∷ all) changes same e fine un m =
      record {
        joined = λ y. ((λ i. inside y i (is_bound (b y) || is_bound (c y)) refl), (λ n. outside y n (is_bound (b y)) refl));
        keeps = ((λ y. refl), m.0, m.1);
        fine = λ y n q. ⊎_elim (λ z. inr z) (λ s. inl s) (outside y n (is_bound (b y)) refl);
      }
    where
      after : Insts
      after y = change_at y changes (b y)

      inside : (y : ℕ) → In y O → (t : Bool) → (is_bound (b y) || is_bound (c y)) ≡ t → Merged P S.insts (insts_at y (a ∷ all)) (after y) (T y)
      inside y i true q = merging_keeps_sets P S.insts (insts_at y (d ∷ cs)) (insts_at y (a ∷ all)) (after y) (T y) (same y).0 (same y).1 (m.2 y q)
      inside y i false q = free_merged S fits (insts_at y (a ∷ all)) (after y) (T y) (un y i (or-second (is_bound (b y)) (is_bound (c y)) q)) (m.4 y q)

      outside : (y : ℕ) → (In y O → ⊥) → (t : Bool) → is_bound (b y) ≡ t → (after y ≡ 0) ⊎ (after y ≡ b y)
      outside y n false q = inl (m.4 y (neither (is_bound (b y)) (is_bound (c y)) q (unbinds y n q)))
      outside y n true q = at (is_bound (after y)) refl
        where
          either : (is_bound (b y) || is_bound (c y)) ≡ true
          either = one_of (is_bound (b y)) (is_bound (c y)) q

          at : (u : Bool) → is_bound (after y) ≡ u → (after y ≡ 0) ⊎ (after y ≡ b y)
          at false r = inl (is-unset (after y) r)
          at true r = inr (m.3 y (b y) either (gives_one y (d ∷ cs) (λ k j. kept_or_free y (a ∷ all) fine n q k ((same y).0 k j)) (merged_set S fits (insts_at y (d ∷ cs)) (after y) (T y) (m.2 y either) r)))

  -- ---- arms
  pub record Stands (s : Scheduled) (hs : Flat_goals) (us : List Disjunct) : Type 0 where
    pub form : Scheduled
    pub same : RetoldIn s form
    pub ordered : (o : Option Insts) → Joined S T O b (reach us) o → Ordered S T O Q b (F.Or hs) form o
    opens : (z : ℕ) (l : Label) → AllLabelled z l us → OpensScheduled z l form
    ends : never_ends_in S T b s ≡ no_end (reach us)
    joins : (changes : List (ℕ × ℕ)) → ArmMerges S T b c (node s changes (inferred det) false) → JoinsTo (reach us) changes
    same_ends : (changes : List (ℕ × ℕ)) (y : ℕ) → Same (insts_at y (ends_in_arm S T b (node s changes (inferred det) false))) (insts_at y (reach us))
    none_ends : (changes : List (ℕ × ℕ)) → no_end (ends_in_arm S T b (node s changes (inferred det) false)) ≡ no_end (reach us)

  record ArmStands (n : Node) (hs : Flat_goals) (us : List Disjunct) : Type 0 where
    form : Node
    same : Retold n form
    ordered : OrderedNode S T O Q b (arm_goal hs) form (end_of S T b n)
    opens : (z : ℕ) (l : Label) → AllLabelled z l us → Opens z l form
    groups : Grouped (end_of S T b n ∷ []) (reach us)
    ends : no_end (reachable (end_of S T b n ∷ [])) ≡ no_end (reach us)
    fine : FineEnd O b (end_of S T b n)
    same_ends : (y : ℕ) → Same (insts_at y (ends_in_arm S T b n)) (insts_at y (reach us))
    none_ends : no_end (ends_in_arm S T b n) ≡ no_end (reach us)

  each_opens : {hs : Flat_goals} {us : List Disjunct} (e : Each hs us) → (z : ℕ) (l : Label) → AllLabelled z l us → EachOpens z l (forms e)
  each_opens none z l a = tt
  each_opens (more {d = d} w h t f fine un r) z l a = (told_opens z l w (openings_open z d.goal l (subst (λ os. label_in z os ≡ Some l) t a.0)).0, each_opens r z l a.1)

  module _ (again : List Disjunct → Scheduled) (rec : (hs : Flat_goals) (us : List Disjunct) → Each hs us → ArmsMergeIn S T b c (again us) → Stands (again us) hs us) where
    several : (hs : Flat_goals) (us : List Disjunct) → arm_goal hs ≡ F.Or hs → Each hs us → ArmMerges S T b c (node (again us) (keep us) (inferred det) false) → ArmsMergeIn S T b c (again us) → ArmStands (node (again us) (keep us) (inferred det) false) hs us
    several hs us q e merges inside =
        let n : Node = node (again us) (keep us) (inferred det) false in
        let r = rec hs us e inside in
        let j = r.joins (keep us) merges in
        let is_end : end_by (reach us) (keep us) ≡ end_of S T b n = ap (λ t. if t then None else Some (λ x. change_at x (keep us) (b x))) (sym r.ends) in
        let joined : Joined S T O b (reach us) (end_of S T b n) = subst (λ o. Joined S T O b (reach us) o) is_end j.joined in
        let g = one_group (reach us) (end_of S T b n) joined in
        record {
          form = node r.form (keep us) (inferred det) (is_pruned Q b (end_of S T b n));
          same = retold r.same;
          ordered = subst (λ g. OrderedNode S T O Q b g (node r.form (keep us) (inferred det) (is_pruned Q b (end_of S T b n))) (end_of S T b n)) (sym q) (kept (r.ordered (end_of S T b n) joined) (subst (λ o. KeepsChanges b o (keep us)) is_end j.keeps));
          opens = r.opens;
          groups = g.0;
          ends = g.1;
          fine = subst (FineEnd O b) is_end j.fine;
          same_ends = r.same_ends (keep us);
          none_ends = r.none_ends (keep us);
        }

    arm_stands : (x : ℕ) (l : Label) (hs : Flat_goals) (us : List Disjunct) → AllLabelled x l us → Each hs us → ArmMerges S T b c (arm_of keep again us) → MergeInside S T b c (arm_of keep again us) → ArmStands (arm_of keep again us) hs us
    arm_stands x l _ [] a none merges inside = several no_flat [] refl none merges inside
    arm_stands x l _ (d ∷ []) a (more {m = m} w h t f fine un none) merges inside =
        let e : ends_in_arm S T b d.goal ≡ reach (d ∷ []) = one_disjunct S T b x l d.goal (subst (λ os. label_in x os ≡ Some l) t a.0) ∙ with_reachable S T b d.goal [] [] refl in
        record {
          form = m;
          same = w;
          ordered = h;
          opens = λ z l a. told_opens z l w (openings_open z d.goal l (subst (λ os. label_in z os ≡ Some l) t a.0)).0;
          groups = alone_group (end_of S T b d.goal);
          ends = refl;
          fine = fine;
          same_ends = λ y. subst (λ cs. Same (insts_at y (ends_in_arm S T b d.goal)) (insts_at y cs)) e (same_self (insts_at y (ends_in_arm S T b d.goal)));
          none_ends = ap no_end e;
        }
    arm_stands x l hs (d ∷ e ∷ us) a (more w h t f fine un (more w' h' t' f' fine' un' r)) merges inside = several _ (d ∷ e ∷ us) refl (more w h t f fine un (more w' h' t' f' fine' un' r)) merges inside

    module _ (x : ℕ) (ds : List Disjunct) where
      record ArmsStand (ls : List Label) (ks : Flat_goals) (es : List Disjunct) : Type 0 where
        arms : Arms
        os : List (Option Insts)
        same : RetoldArms (arms_on (arm_of keep again) x ds ls) arms
        ordered : OrderedArms S T O Q b x ks arms os
        opens : (z : ℕ) (l : Label) → AllLabelled z l ds → EachArmOpens z l arms
        absent : (l : Label) → NotAmong l ls → AbsentFrom l arms
        groups : Grouped os (reach es)
        ends : no_end (reachable os) ≡ no_end (reach es)
        reached : arm_ends S T b (arms_on (arm_of keep again) x ds ls) ≡ reachable os
        fine : AllFine (reachable os)
        same_ends : (y : ℕ) → Same (insts_at y (disjunct_ends S T b (arms_on (arm_of keep again) x ds ls))) (insts_at y (reach es))
        none_ends : no_end (disjunct_ends S T b (arms_on (arm_of keep again) x ds ls)) ≡ no_end (reach es)

      abbrev Agree : List Label → List Disjunct → Type 0
      Agree [] es = Unit {0}
      Agree (l ∷ ls) es = (those (opens_with x l) es ≡ those (opens_with x l) ds) × Agree ls es

      agree_left : (l : Label) (ls : List Label) (es : List Disjunct) → NotAmong l ls → Agree ls es → Agree ls (without_label x l es)
      agree_left l [] es n a = tt
      agree_left l (k ∷ ls) es n a = (same_left x l k n.0 es ∙ a.0, agree_left l ls es n.1 a.1)

      arms_stand : (ls : List Label) (ks : Flat_goals) (es : List Disjunct) → Each ks es → Agree ls es → EachHasOne x ls es → Distinct ls → EachLabel ls → EachArmMerges S T b c (arms_on (arm_of keep again) x ds ls) → ArmsStand ls ks es
      arms_stand [] ks [] none a h di el j = record { arms = no_arms; os = []; same = W.no_arm; ordered = R.no_arm; opens = λ z l a. tt; absent = λ l n. tt; groups = λ y i. ([], same_self [], tt); ends = refl; reached = refl; fine = tt; same_ends = λ y. same_self []; none_ends = refl }
      arms_stand [] ks (e ∷ es) r a h di el j = absurd h.0
      arms_stand (l ∷ ls) ks es r a h di el j =
          let s = split (opens_with x l) r in
          let n : Node = arm_of keep again (those (opens_with x l) ds) in
          let end : Option Insts = end_of S T b n in
          let one = arm_stands x l s.hs (those (opens_with x l) ds) (labelled_group x l ds) (subst (λ us. Each s.hs us) a.0 s.taken) j.0 j.1 in
          let rest = arms_stand ls s.ks (without_label x l es) s.left (agree_left l ls es di.0 a.1) (others_left x l ls es h) di.1 el.1 j.2 in
          record {
            arms = arm_then l one.form rest.arms;
            os = end ∷ rest.os;
            same = W.arm one.same rest.same;
            ordered = R.arm s.parts el.0 (one.opens x l (labelled_group x l ds)) (rest.absent l di.0) one.ordered rest.ordered;
            opens = λ z k q. (one.opens z k (labelled_those z k (opens_with x l) ds q), rest.opens z k q);
            absent = λ k n. (n.0, rest.absent k n.1);
            groups = λ y i.
                (let p = one.groups y i in
                let q = rest.groups y i in (
                  p.0 ++ q.0,
                  same_onto (in_groups (p.0 ++ q.0)) (in_groups p.0 ++ in_groups q.0) (insts_at y (reach es)) (groups_both p.0 q.0)
                      (same_onto (in_groups p.0 ++ in_groups q.0) (insts_at y (reach (those (opens_with x l) ds)) ++ insts_at y (reach (without_label x l es))) (insts_at y (reach es))
                      (same_both (in_groups p.0) (in_groups q.0) (insts_at y (reach (those (opens_with x l) ds))) (insts_at y (reach (without_label x l es))) p.1 q.1)
                      (let m = subst (λ us. Same (insts_at y (reach es)) (insts_at y (reach us) ++ insts_at y (reach (without_label x l es)))) a.0 (s.between y) in (m.1, m.0))),
                  subst (λ ks. EachMerged P S.insts (p.0 ++ q.0) ks (T y)) (ends_both y end rest.os) (each_both (T y) p.0 q.0 (insts_at y (reachable (end ∷ []))) (insts_at y (reachable rest.os)) p.2 q.2),
                ));
            ends = none_both_ends end rest.os ∙ ap₂ (λ t u. t && u) one.ends rest.ends ∙ sym (subst (λ us. no_end (reach es) ≡ (no_end (reach us) && no_end (reach (without_label x l es)))) a.0 s.ends);
            reached = with_reachable S T b n (arm_ends S T b (arms_on (arm_of keep again) x ds ls)) rest.os rest.reached;
            fine = all_fine end rest.os one.fine rest.fine;
            same_ends = λ y.
                (let cs = ends_in_arm S T b n in
                let ws = disjunct_ends S T b (arms_on (arm_of keep again) x ds ls) in
                subst (λ is. Same is (insts_at y (reach es))) (sym (ends_append y cs ws))
                (same_onto (insts_at y cs ++ insts_at y ws) (insts_at y (reach (those (opens_with x l) ds)) ++ insts_at y (reach (without_label x l es))) (insts_at y (reach es))
                (same_both (insts_at y cs) (insts_at y ws) (insts_at y (reach (those (opens_with x l) ds))) (insts_at y (reach (without_label x l es))) (one.same_ends y) (rest.same_ends y))
                (let m = subst (λ us. Same (insts_at y (reach es)) (insts_at y (reach us) ++ insts_at y (reach (without_label x l es)))) a.0 (s.between y) in (m.1, m.0))));
            none_ends =
                no_end_append (ends_in_arm S T b n) (disjunct_ends S T b (arms_on (arm_of keep again) x ds ls))
                ∙ ap₂ (λ t u. t && u) one.none_ends rest.none_ends ∙ sym (subst (λ us. no_end (reach es) ≡ (no_end (reach us) && no_end (reach (without_label x l es)))) a.0 s.ends);
          }

      agree_all : (ls : List Label) → Agree ls ds
      agree_all [] = tt
      agree_all (l ∷ ls) = (refl, agree_all ls)

  -- ---- the variable that is chosen
  chosen_opened : (out : List ℕ) (ds : List Disjunct) (x : ℕ) → chosen S T out b ds ≡ Some x → is_opened S T out b ds x ≡ true
  chosen_opened out ds x q = by_first (least (λ y. is_opened S T out b ds y && covers S T (allowed_in S T (T y) (b y)) (labels_of y ds)) (opened_variables ds)) refl q
    where
      by_first : (o : Option ℕ) → least (λ y. is_opened S T out b ds y && covers S T (allowed_in S T (T y) (b y)) (labels_of y ds)) (opened_variables ds) ≡ o → option_or o (least (is_opened S T out b ds) (opened_variables ds)) ≡ Some x → is_opened S T out b ds x ≡ true
      by_first None p r = least_passes (is_opened S T out b ds) (opened_variables ds) x r
      by_first (Some y) p r =
          let s : y ≡ x = cc in
          let t = least_passes (λ z. is_opened S T out b ds z && covers S T (allowed_in S T (T z) (b z)) (labels_of z ds)) (opened_variables ds) x (p ∙ r) in
          (and_parts (is_opened S T out b ds x) (covers S T (allowed_in S T (T x) (b x)) (labels_of x ds)) t).0

  is_set : (i : ℕ) → is_bound i ≡ true → i ≢ 0
  is_set zero e = cc
  is_set (suc i) e = λ q. cc

  chosen_free : {hs : Flat_goals} {us : List Disjunct} → Each hs us → (out : List ℕ) (x : ℕ) → chosen S T out b us ≡ Some x → is_bound (b x) ≡ true → list_all (λ (d : Disjunct). is_told (label_in x d.opens)) us ≡ true → In x (free_in_all hs)
  chosen_free none out x q bx e = cc
  chosen_free (more {g = g} {gs = gs} {d = d} {ds = ds} w h t f fine un r) out x q bx e =
      in_left x (free_in g) (free_in_all gs) (f x bx (and_parts (is_told (label_in x d.opens)) (list_all (λ (d : Disjunct). is_told (label_in x d.opens)) ds) e).0)

  plain_stands : (hs : Flat_goals) (us : List Disjunct) → Each hs us → Stands (Disj (goals_of us)) hs us
  plain_stands hs us e =
      record {
        form = Disj (forms e);
        same = W.disj (told_forms e);
        ordered = λ o j. R.disj (ordered_each e) j;
        opens = λ z l a. each_opens e z l a;
        ends = each_never S T b (goals_of us) ∙ ap no_end (ends_reachable S T b us);
        joins = λ changes m. merges_join (reach us) (reach us) changes (λ y. same_self (insts_at y (reach us))) refl (fine_each e) (free_each e) (subst (λ cs. ChangesMerge S T b c cs changes) (ends_reachable S T b us) m);
        same_ends = λ changes y. subst (λ cs. Same (insts_at y cs) (insts_at y (reach us))) (sym (ends_reachable S T b us)) (same_self (insts_at y (reach us)));
        none_ends = λ changes. ap no_end (ends_reachable S T b us);
      }

  pub grouped_stands : (k : ℕ) (out : List ℕ) (hs : Flat_goals) (us : List Disjunct) → Each hs us → ArmsMergeIn S T b c (grouped S T keep k b out us) → Stands (grouped S T keep k b out us) hs us
  grouped_stands zero out hs us e i = plain_stands hs us e
  grouped_stands (suc k) out hs us e i = at (chosen S T out b us) refl (λ out. grouped_stands k out) i
    where
      at : (o : Option ℕ) → chosen S T out b us ≡ o → ((out : List ℕ) (hs : Flat_goals) (us : List Disjunct) → Each hs us → ArmsMergeIn S T b c (grouped S T keep k b out us) → Stands (grouped S T keep k b out us) hs us) → ArmsMergeIn S T b c (on_chosen (λ out. arm_of keep (grouped S T keep k b out)) out us o) → Stands (on_chosen (λ out. arm_of keep (grouped S T keep k b out)) out us o) hs us
      at None q again i = plain_stands hs us e
      at (Some x) q again i =
          let opened = and_parts (is_bound (b x)) (not (is_in x out) && list_all (λ (d : Disjunct). is_told (label_in x d.opens)) us) (chosen_opened out us x q) in
          let all = (and_parts (not (is_in x out)) (list_all (λ (d : Disjunct). is_told (label_in x d.opens)) us) opened.1).1 in
          let form : List Disjunct → Scheduled = grouped S T keep k b (x ∷ out) in
          let r = arms_stand form (again (x ∷ out)) x us (labels_of x us) hs us e
          (agree_all form (again (x ∷ out)) x us (labels_of x us)) (each_has_one x us all) (distinct_labels x us) (each_label x us (told_each e)) i in
          record {
            form = Switch x r.arms;
            same = W.switch r.same;
            ordered = λ o j. R.switch (is_set (b x) opened.0) (chosen_free e out x q opened.0 all) r.ordered (regrouped (reach us) r.os o r.groups r.ends j);
            opens = λ z l a. r.opens z l a;
            ends = each_arm_never S T b (arms_on (arm_of keep form) x us (labels_of x us)) ∙ ap no_end r.reached ∙ r.ends;
            joins = λ changes m. merges_join (disjunct_ends S T b (arms_on (arm_of keep form) x us (labels_of x us))) (reach us) changes r.same_ends r.none_ends (fine_each e) (free_each e) m;
            same_ends = λ changes. r.same_ends;
            none_ends = λ changes. r.none_ends;
          }
