-- What is kept of groups of disjuncts makes arms that merge.
use Rattle.std.proofs.Common.{◌≡◌, ◌≢◌, ◌⊎◌, inl, inr, ℕ, zero, suc, List, [], ◌∷◌, ◌++◌, Option, Some, None, Bool, true, false, if◌then◌else◌, not, ◌&&◌, refl, sym, ap, ap₂, ◌∙◌, subst, ⊎_elim}
use Rattle.mc_program.specs.Programs.{TypeTerm}
use Rattle.mc_source.specs.Determinism.{inferred, det}
use Rattle.mc_model.specs.Lists.{In}
use Rattle.mc_model.specs.Scheduled.{Label, Node, node, Scheduled, Conj, Disj, Switch, Ite, Not, Exists, Assign, Test, Build, Take, Const, TestConst, Call, Apply, Nodes, no_nodes, node_then}
use Rattle.mc_model.specs.Good.{System}
use Rattle.mc_accepted.specs.Determined.{insts_after}
use Rattle.mc_accepted.specs.MergedArms.{EachGives, never_ends, with_end, ends, disjunct_ends, ends_in_arm, ChangesMerge, ArmMerges, ArmsMerge, ArmsMergeIn, ArmsMergeInAll, ArmsMergeInEach, EachArmMerges, MergeInside}
use Rattle.mc_accepted.specs.Ordered.{Insts}
use Rattle.mc_accepted.specs.Switched.{Disjunct, openings, goals_of, label_in, opens_with, labels_of, those, Kept, arm_of, arms_on, on_chosen, openings_of, chosen, grouped, formed, formed_in, formed_all, disjuncts}
use Rattle.laws_accepted.specs.SwitchLaws.{Told}
use Rattle.laws_accepted.specs.KeptLaws.{OfGroup, OfArm, OfArms, OfChosen, OfGroups, OfEachGroup, OfEachIn, OfEachInAll, OfEachInEach, merges_group, NoSwitch, NoSwitchIn, NoSwitchAmong, KeptMergeArms}
use Rattle.laws_accepted.proofs.Forms.{told}
use Rattle.laws_accepted.proofs.FormVariables.{same_both, told_those, chosen_told}
use Rattle.laws_accepted.proofs.Groups.{merging_keeps_sets}
use Rattle.laws_accepted.proofs.Outside.{Same, same_self, same_onto}
use Rattle.laws_accepted.proofs.Staying.{insts_at}
use Rattle.laws_accepted.proofs.Switching.{AllLabelled, labelled_group, Distinct, EachHasOne, distinct_labels, each_has_one, others_left, same_left, NotAmong, without_label, no_end, same_cons, same_middle, one_disjunct, ends_append, no_end_append}

module _ (S : System) (T : ℕ → TypeTerm) (b : Insts) where
  abbrev pub ends_of : List Disjunct → List Insts
  ends_of ds = ends S T b (goals_of ds)

  -- the ends of some disjuncts and those of the others
  abbrev pub Between : List Insts → List Insts → List Insts → Type 0
  Between all us ws = ((y : ℕ) → Same (insts_at y all) (insts_at y us ++ insts_at y ws)) × (no_end all ≡ (no_end us && no_end ws))

  false_behind : (t : Bool) → false ≡ (t && false)
  false_behind true = refl
  false_behind false = refl

  taken : (n : Node) (all us ws : List Insts) → Between all us ws → Between (with_end S T b n all) (with_end S T b n us) ws
  taken n all us ws h = at (never_ends S T b n)
    where
      at : (t : Bool) → Between (if t then all else insts_after n b ∷ all) (if t then us else insts_after n b ∷ us) ws
      at true = h
      at false = ((λ y. same_cons (insts_after n b y) (insts_at y all) (insts_at y us ++ insts_at y ws) (h.0 y)), refl)

  left : (n : Node) (all us ws : List Insts) → Between all us ws → Between (with_end S T b n all) us (with_end S T b n ws)
  left n all us ws h = at (never_ends S T b n)
    where
      at : (t : Bool) → Between (if t then all else insts_after n b ∷ all) us (if t then ws else insts_after n b ∷ ws)
      at true = h
      at false = ((λ y. same_middle (insts_after n b y) (insts_at y all) (insts_at y us) (insts_at y ws) (h.0 y)), false_behind (no_end us))

  pub split : (f : Disjunct → Bool) (ds : List Disjunct) → Between (ends_of ds) (ends_of (those f ds)) (ends_of (those (λ d. not (f d)) ds))
  split f [] = ((λ y. same_self []), refl)
  split f (d ∷ ds) = at (f d) (split f ds)
    where
      at : (t : Bool) → Between (ends_of ds) (ends_of (those f ds)) (ends_of (those (λ d. not (f d)) ds)) →
          Between (ends_of (d ∷ ds)) (ends_of (if t then d ∷ those f ds else those f ds)) (ends_of (if not t then d ∷ those (λ d. not (f d)) ds else those (λ d. not (f d)) ds))
      at true h = taken d.goal (ends_of ds) (ends_of (those f ds)) (ends_of (those (λ d. not (f d)) ds)) h
      at false h = left d.goal (ends_of ds) (ends_of (those f ds)) (ends_of (those (λ d. not (f d)) ds)) h

  -- the same ends, in any order
  abbrev Alike : List Insts → List Insts → Type 0
  Alike cs ds = ((y : ℕ) → Same (insts_at y cs) (insts_at y ds)) × (no_end cs ≡ no_end ds)

  alike_self : (cs ds : List Insts) → cs ≡ ds → Alike cs ds
  alike_self cs ds e = subst (Alike cs) e ((λ y. same_self (insts_at y cs)), refl)

  put_together : (xs ys us ws all : List Insts) → Alike xs us → Alike ys ws → Between all us ws → Alike (xs ++ ys) all
  put_together xs ys us ws all p q h = (
    (λ y.
        subst (λ is. Same is (insts_at y all)) (sym (ends_append y xs ys))
        (same_onto (insts_at y xs ++ insts_at y ys) (insts_at y us ++ insts_at y ws) (insts_at y all) (same_both (insts_at y xs) (insts_at y ys) (insts_at y us) (insts_at y ws) (p.0 y) (q.0 y)) ((h.0 y).1, (h.0 y).0))),
    no_end_append xs ys ∙ ap₂ (λ t u. t && u) p.1 q.1 ∙ sym h.1,
  )

  -- ---- the ends of an arm's disjuncts are those of the group
  abbrev ArmAlike : (List Disjunct → Scheduled) → Type 0
  ArmAlike again = (us : List Disjunct) (changes : List (ℕ × ℕ)) → Told us → Alike (ends_in_arm S T b (node (again us) changes (inferred det) false)) (ends_of us)

  module _ (keep : Kept) (again : List Disjunct → Scheduled) (rec : ArmAlike again) (x : ℕ) where
    arm_alike : (l : Label) (us : List Disjunct) → Told us → AllLabelled x l us → Alike (ends_in_arm S T b (arm_of keep again us)) (ends_of us)
    arm_alike l [] t a = rec [] (keep []) t
    arm_alike l (d ∷ []) t a = alike_self (ends_in_arm S T b d.goal) (ends_of (d ∷ [])) (one_disjunct S T b x l d.goal (subst (λ os. label_in x os ≡ Some l) t.0 a.0))
    arm_alike l (d ∷ e ∷ us) t a = rec (d ∷ e ∷ us) (keep (d ∷ e ∷ us)) t

    module _ (ds : List Disjunct) (told : Told ds) where
      abbrev Agree : List Label → List Disjunct → Type 0
      Agree [] es = Unit {0}
      Agree (l ∷ ls) es = (those (opens_with x l) es ≡ those (opens_with x l) ds) × Agree ls es

      agree_left : (l : Label) (ls : List Label) (es : List Disjunct) → NotAmong l ls → Agree ls es → Agree ls (without_label x l es)
      agree_left l [] es n a = tt
      agree_left l (k ∷ ls) es n a = (same_left x l k n.0 es ∙ a.0, agree_left l ls es n.1 a.1)

      arms_alike : (ls : List Label) (es : List Disjunct) → Agree ls es → EachHasOne x ls es → Distinct ls → Alike (disjunct_ends S T b (arms_on (arm_of keep again) x ds ls)) (ends_of es)
      arms_alike [] [] a h di = ((λ y. same_self []), refl)
      arms_alike [] (e ∷ es) a h di = absurd h.0
      arms_alike (l ∷ ls) es a h di =
          put_together (ends_in_arm S T b (arm_of keep again (those (opens_with x l) ds))) (disjunct_ends S T b (arms_on (arm_of keep again) x ds ls)) (ends_of (those (opens_with x l) es)) (ends_of (without_label x l es)) (ends_of es)
          (subst (λ us. Alike (ends_in_arm S T b (arm_of keep again (those (opens_with x l) ds))) (ends_of us)) (sym a.0) (arm_alike l (those (opens_with x l) ds) (told_those (opens_with x l) ds told) (labelled_group x l ds)))
          (arms_alike ls (without_label x l es) (agree_left l ls es di.0 a.1) (others_left x l ls es h) di.1) (split (opens_with x l) es)

      agree_all : (ls : List Label) → Agree ls ds
      agree_all [] = tt
      agree_all (l ∷ ls) = (refl, agree_all ls)

  grouped_alike : (keep : Kept) (k : ℕ) (out : List ℕ) → ArmAlike (grouped S T keep k b out)
  grouped_alike keep zero out us changes t = alike_self (ends_of us) (ends_of us) refl
  grouped_alike keep (suc k) out us changes t = at (chosen S T out b us) refl (λ out. grouped_alike keep k out)
    where
      at : (o : Option ℕ) → chosen S T out b us ≡ o → ((out : List ℕ) → ArmAlike (grouped S T keep k b out)) → Alike (ends_in_arm S T b (node (on_chosen (λ out. arm_of keep (grouped S T keep k b out)) out us o) changes (inferred det) false)) (ends_of us)
      at None q again = alike_self (ends_of us) (ends_of us) refl
      at (Some x) q again =
          let form : List Disjunct → Scheduled = grouped S T keep k b (x ∷ out) in
          arms_alike keep form (again (x ∷ out)) x us t (labels_of x us) us (agree_all keep form (again (x ∷ out)) x us t (labels_of x us)) (each_has_one x us (chosen_told S T out b us x q)) (distinct_labels x us)

  -- ---- what merges some ends merges the same ends in any order
  abbrev EachIs : ℕ → List ℕ → Type 0
  EachIs i is = (j : ℕ) → In j is → j ≡ i

  gives_each : (x i : ℕ) (cs : List Insts) → EachGives x i cs → EachIs i (insts_at x cs)
  gives_each x i [] g j k = absurd k
  gives_each x i (c ∷ cs) g j k = ⊎_elim (λ e. e ∙ g.0) (λ k. gives_each x i cs g.1 j k) k

  each_gives : (x i : ℕ) (cs : List Insts) → EachIs i (insts_at x cs) → EachGives x i cs
  each_gives x i [] g = tt
  each_gives x i (c ∷ cs) g = (g (c x) (inl refl), each_gives x i cs (λ j k. g j (inr k)))

  merges_alike : (c : Insts) (cs ds : List Insts) (changes : List (ℕ × ℕ)) → Alike cs ds → ChangesMerge S T b c ds changes → ChangesMerge S T b c cs changes
  merges_alike c [] [] changes a m = m
  merges_alike c [] (d ∷ ds) changes a m = (let e = a.1 in cc)
  merges_alike c (e ∷ cs) [] changes a m = (let e = a.1 in cc)
  merges_alike c (e ∷ cs) (d ∷ ds) changes a m = (
    m.0,
    m.1,
    (λ x q. merging_keeps_sets S.world.source S.insts (insts_at x (d ∷ ds)) (insts_at x (e ∷ cs)) _ (T x) (a.0 x).1 (a.0 x).0 (m.2 x q)),
    (λ x i q g. m.3 x i q (each_gives x i (d ∷ ds) (λ j k. gives_each x i (e ∷ cs) g j ((a.0 x).1 j k)))),
    m.4,
  )

-- ---- the arms of a group
module _ (S : System) (T : ℕ → TypeTerm) (b c : Insts) (kept : (before after : Insts) → Kept) where
  abbrev keep : Kept
  keep = kept b c

  abbrev EachMerges : List Disjunct → Type 0
  EachMerges ds = ArmsMergeInEach S T b (goals_of ds)

  those_merge : (f : Disjunct → Bool) (ds : List Disjunct) → EachMerges ds → EachMerges (those f ds)
  those_merge f [] h = tt
  those_merge f (d ∷ ds) h = at (f d) (those_merge f ds h.1)
    where
      at : (t : Bool) → EachMerges (those f ds) → EachMerges (if t then d ∷ those f ds else those f ds)
      at true r = (h.0, r)
      at false r = r

  -- an arm that is one disjunct
  alone_merges : (x : ℕ) (l : Label) (n : Node) → label_in x (openings n) ≡ Some l → ArmsMerge S T b n → ArmMerges S T b c n × MergeInside S T b c n
  alone_merges x l (node (Conj ns) changes d m) e h = (tt, h)
  alone_merges x l (node (Disj ns) changes d m) e h = cc
  alone_merges x l (node (Switch y arms) changes d m) e h = cc
  alone_merges x l (node (Ite vs n t u) changes d m) e h = (tt, h)
  alone_merges x l (node (Not n) changes d m) e h = (tt, h)
  alone_merges x l (node (Exists vs n) changes d m) e h = (tt, h)
  alone_merges x l (node (Assign y z) changes d m) e h = (tt, h)
  alone_merges x l (node (Test y z) changes d m) e h = (tt, h)
  alone_merges x l (node (Build y s ys) changes d m) e h = (tt, h)
  alone_merges x l (node (Take y s ys) changes d m) e h = (tt, h)
  alone_merges x l (node (Const y v) changes d m) e h = (tt, h)
  alone_merges x l (node (TestConst y v) changes d m) e h = (tt, h)
  alone_merges x l (node (Call p xs implied last) changes d m) e h = (tt, h)
  alone_merges x l (node (Apply op xs ys) changes d m) e h = (tt, h)

  abbrev Group : OfGroup
  Group = merges_group S T kept

  -- a group's form is a disjunction or a switch
  abbrev IsGroup : Scheduled → Type 0
  IsGroup (Disj ns) = Unit {0}
  IsGroup (Switch x arms) = Unit {0}
  IsGroup _ = ⊥

  shared_merges : (s : Scheduled) (changes : List (ℕ × ℕ)) → IsGroup s → ChangesMerge S T b c (ends_in_arm S T b (node s changes (inferred det) false)) changes → ArmMerges S T b c (node s changes (inferred det) false)
  shared_merges (Disj ns) changes g h = h
  shared_merges (Switch x arms) changes g h = h
  shared_merges (Conj ns) changes g h = absurd g
  shared_merges (Ite vs n t u) changes g h = absurd g
  shared_merges (Not n) changes g h = absurd g
  shared_merges (Exists vs n) changes g h = absurd g
  shared_merges (Assign y z) changes g h = absurd g
  shared_merges (Test y z) changes g h = absurd g
  shared_merges (Build y s ys) changes g h = absurd g
  shared_merges (Take y s ys) changes g h = absurd g
  shared_merges (Const y v) changes g h = absurd g
  shared_merges (TestConst y v) changes g h = absurd g
  shared_merges (Call p xs implied last) changes g h = absurd g
  shared_merges (Apply op xs ys) changes g h = absurd g

  is_group : (k : ℕ) (out : List ℕ) (ds : List Disjunct) → IsGroup (grouped S T keep k b out ds)
  is_group zero out ds = tt
  is_group (suc k) out ds = at (chosen S T out b ds)
    where
      at : (o : Option ℕ) → IsGroup (on_chosen (λ out. arm_of keep (grouped S T keep k b out)) out ds o)
      at None = tt
      at (Some x) = tt

  abbrev Merge : ℕ → Type 0
  Merge k = (out : List ℕ) (ds : List Disjunct) → Told ds → EachMerges ds → OfGroups S T kept Group k b c out ds → ArmsMergeIn S T b c (grouped S T keep k b out ds)

  module _ (k : ℕ) (rec : Merge k) (out : List ℕ) (x : ℕ) where
    abbrev again : List Disjunct → Scheduled
    again = grouped S T keep k b out

    shared : (us : List Disjunct) → Told us → EachMerges us → Group b c us × OfGroups S T kept Group k b c out us → ArmMerges S T b c (node (again us) (keep us) (inferred det) false) × MergeInside S T b c (node (again us) (keep us) (inferred det) false)
    shared us t e h = (
      shared_merges (again us) (keep us) (is_group k out us) (merges_alike S T b c (ends_in_arm S T b (node (again us) (keep us) (inferred det) false)) (ends S T b (goals_of us)) (keep us) (grouped_alike S T b keep k out us (keep us) t) h.0),
      rec out us t e h.1,
    )

    arm_merges : (l : Label) (us : List Disjunct) → Told us → AllLabelled x l us → EachMerges us → OfArm S T kept Group (OfGroups S T kept Group k b c out) b c us → ArmMerges S T b c (arm_of keep again us) × MergeInside S T b c (arm_of keep again us)
    arm_merges l [] t a e h = shared [] t e h
    arm_merges l (d ∷ []) t a e h = alone_merges x l d.goal (subst (λ os. label_in x os ≡ Some l) t.0 a.0) e.0
    arm_merges l (d ∷ f ∷ us) t a e h = shared (d ∷ f ∷ us) t e h

    arms_merge : (ds : List Disjunct) → Told ds → EachMerges ds → (ls : List Label) → OfArms S T kept Group (OfArm S T kept Group (OfGroups S T kept Group k b c out) b c) x ds ls → EachArmMerges S T b c (arms_on (arm_of keep again) x ds ls)
    arms_merge ds t e [] h = tt
    arms_merge ds t e (l ∷ ls) h =
        let one = arm_merges l (those (opens_with x l) ds) (told_those (opens_with x l) ds t) (labelled_group x l ds) (those_merge (opens_with x l) ds e) h.0 in
        (one.0, one.1, arms_merge ds t e ls h.1)

  groups_merge : (k : ℕ) → Merge k
  groups_merge zero out ds t e h = e
  groups_merge (suc k) out ds t e h = at (chosen S T out b ds) h (groups_merge k)
    where
      at : (o : Option ℕ) → OfChosen S T kept Group (λ out. OfArm S T kept Group (OfGroups S T kept Group k b c out) b c) out ds o → Merge k → ArmsMergeIn S T b c (on_chosen (λ out. arm_of keep (grouped S T keep k b out)) out ds o)
      at None h rec = e
      at (Some x) h rec = arms_merge k rec (x ∷ out) x ds t e (labels_of x ds) h

-- ---- the parts of a goal
module _ (S : System) (T : ℕ → TypeTerm) (kept : (before after : Insts) → Kept) where
  abbrev Groups : Insts → Node → Type 0
  Groups b n = OfEachGroup S T kept (merges_group S T kept) b n

  -- a form has the insts of its goal after it
  after_form : (b a : Insts) (n : Node) → insts_after (formed S T kept b n) a ≡ insts_after n a
  after_form b a (node s changes d m) = refl

  mutual
    node_merges : (b : Insts) (n : Node) → NoSwitch n → Groups b n → ArmsMerge S T b (formed S T kept b n)
    node_merges b (node s changes d m) w h = in_merges b (insts_after (node s changes d m) b) s w h

    in_merges : (b c : Insts) (s : Scheduled) → NoSwitchIn s → OfEachIn S T kept (merges_group S T kept) b c s → ArmsMergeIn S T b c (formed_in S T kept b c s)
    in_merges b c (Conj ns) w h = all_merge b ns w h
    in_merges b c (Disj ns) w h = groups_merge S T b c kept (openings_of (disjuncts S T kept b ns)) [] (disjuncts S T kept b ns) (told S T kept b ns) (each_merge b ns w h.1) h.0
    in_merges b c (Switch x arms) w h = absurd w
    in_merges b c (Ite vs n t e) w h = (
      node_merges b n w.0 h.0,
      subst (λ a. ArmsMerge S T a (formed S T kept (insts_after n b) t)) (sym (after_form b b n)) (node_merges (insts_after n b) t w.1 h.1),
      node_merges b e w.2 h.2,
    )
    in_merges b c (Not n) w h = node_merges b n w h
    in_merges b c (Exists vs n) w h = node_merges b n w h
    in_merges b c (Assign y z) w h = tt
    in_merges b c (Test y z) w h = tt
    in_merges b c (Build y s ys) w h = tt
    in_merges b c (Take y s ys) w h = tt
    in_merges b c (Const y v) w h = tt
    in_merges b c (TestConst y v) w h = tt
    in_merges b c (Call p xs implied last) w h = tt
    in_merges b c (Apply op xs ys) w h = tt

    all_merge : (b : Insts) (ns : Nodes) → NoSwitchAmong ns → OfEachInAll S T kept (merges_group S T kept) b ns → ArmsMergeInAll S T b (formed_all S T kept b ns)
    all_merge b no_nodes w h = tt
    all_merge b (node_then n ns) w h = (node_merges b n w.0 h.0, subst (λ a. ArmsMergeInAll S T a (formed_all S T kept (insts_after n b) ns)) (sym (after_form b b n)) (all_merge (insts_after n b) ns w.1 h.1))

    each_merge : (b : Insts) (ns : Nodes) → NoSwitchAmong ns → OfEachInEach S T kept (merges_group S T kept) b ns → ArmsMergeInEach S T b (goals_of (disjuncts S T kept b ns))
    each_merge b no_nodes w h = tt
    each_merge b (node_then n ns) w h = (node_merges b n w.0 h.0, each_merge b ns w.1 h.1)

pub kept_merge_arms : KeptMergeArms
kept_merge_arms S T kept b n w h = node_merges S T kept b n w h
