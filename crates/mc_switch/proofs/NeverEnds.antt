-- The switch form of a goal ends where the goal does.
use Rattle.std.proofs.Common.{◌≡◌, ◌⊎◌, inl, inr, ⊎_elim, ℕ, zero, suc, List, [], ◌∷◌, Bool, true, false, if◌then◌else◌, not, ◌&&◌, ◌||◌, Option, Some, None, refl, sym, ap, ap₂, ◌∙◌, subst}
use Rattle.std.specs.List.{list_all}
use Rattle.std.specs.Option.{option_or}
use Rattle.std.proofs.lemmas.Bool.{and_parts}
use Rattle.mc_program.specs.Programs.{TypeTerm}
use Rattle.mc_model.specs.Lists.{is_in}
use Rattle.mc_model.specs.Scheduled.{Label, Node, node, Scheduled, Conj, Disj, Switch, Ite, Not, Exists, Assign, Test, Build, Take, Const, TestConst, Call, Apply, Nodes, no_nodes, node_then}
use Rattle.mc_model.specs.Stream.{is_bound}
use Rattle.mc_model.specs.Good.{System}
use Rattle.mc_accepted.specs.Determined.{insts_after}
use Rattle.mc_accepted.specs.Least.{least}
use Rattle.mc_accepted.specs.MergedArms.{never_ends, never_ends_in, one_never_ends, each_never_ends, each_arm_never_ends}
use Rattle.mc_accepted.specs.Ordered.{Insts}
use Rattle.mc_accepted.specs.Switched.{Disjunct, Kept, goals_of, label_in, same_label, is_label, opens_with, is_told, others, and_label, labels_of, those, arm_of, arms_on, on_chosen, is_opened, misses_none, opened_variables, chosen, grouped, openings_of, formed, formed_in, formed_all, disjuncts}
use Rattle.mc_switch.proofs.SameLabels.{label_same, label_self}
use Rattle.mc_switch.proofs.Choosing.{least_holds}

-- ---- each disjunct has one of the labels
module _ (x : ℕ) where
  abbrev HasOne : List Label → Disjunct → Type 0
  HasOne [] d = ⊥
  HasOne (l ∷ ls) d = (opens_with x l d ≡ true) ⊎ HasOne ls d

  abbrev EachHasOne : List Label → List Disjunct → Type 0
  EachHasOne ls [] = Unit {0}
  EachHasOne ls (d ∷ ds) = HasOne ls d × EachHasOne ls ds

  has_others : (k : Label) (ls : List Label) (d : Disjunct) → HasOne ls d → HasOne (k ∷ others k ls) d
  has_others k [] d h = absurd h
  has_others k (j ∷ ls) d h = at (same_label k j) refl h (λ r. has_others k ls d r)
    where
      at : (t : Bool) → same_label k j ≡ t → (opens_with x j d ≡ true) ⊎ HasOne ls d → (HasOne ls d → (opens_with x k d ≡ true) ⊎ HasOne (others k ls) d) → (opens_with x k d ≡ true) ⊎ HasOne (if t then others k ls else j ∷ others k ls) d
      at true q (inl e) again = inl (subst (λ i. opens_with x i d ≡ true) (sym (label_same k j q)) e)
      at true q (inr r) again = again r
      at false q (inl e) again = inr (inl e)
      at false q (inr r) again = ⊎_elim (λ e. inl e) (λ a. inr (inr a)) (again r)

  each_others : (k : Label) (ls : List Label) (ds : List Disjunct) → EachHasOne ls ds → EachHasOne (k ∷ others k ls) ds
  each_others k ls [] h = tt
  each_others k ls (d ∷ ds) h = (has_others k ls d h.0, each_others k ls ds h.1)

  each_has_one : (ds : List Disjunct) → list_all (λ (d : Disjunct). is_told (label_in x d.opens)) ds ≡ true → EachHasOne (labels_of x ds) ds
  each_has_one [] e = tt
  each_has_one (d ∷ ds) e = (let p = and_parts (is_told (label_in x d.opens)) (list_all (λ (d : Disjunct). is_told (label_in x d.opens)) ds) e in at (label_in x d.opens) refl p.0 (each_has_one ds p.1))
    where
      at : (o : Option Label) → label_in x d.opens ≡ o → is_told o ≡ true → EachHasOne (labels_of x ds) ds → EachHasOne (and_label o (labels_of x ds)) (d ∷ ds)
      at None q t r = cc
      at (Some k) q t r = (inl (ap (is_label k) q ∙ label_self k), each_others k (labels_of x ds) ds r)

-- ---- what holds of all disjuncts holds of each group, and the other way round
same_truth : (t u : Bool) → (t ≡ true → u ≡ true) → (u ≡ true → t ≡ true) → t ≡ u
same_truth true u f g = sym (f refl)
same_truth false true f g = g refl
same_truth false false f g = refl

module _ (x : ℕ) (f : Disjunct → Bool) where
  all_those : (g : Disjunct → Bool) (ds : List Disjunct) → list_all f ds ≡ true → list_all f (those g ds) ≡ true
  all_those g [] e = refl
  all_those g (d ∷ ds) e = let p = and_parts (f d) (list_all f ds) e in at (g d) p.0 (all_those g ds p.1)
    where
      at : (t : Bool) → f d ≡ true → list_all f (those g ds) ≡ true → list_all f (if t then d ∷ those g ds else those g ds) ≡ true
      at true a r = ap (λ t. t && list_all f (those g ds)) a ∙ r
      at false a r = r

  abbrev each_group : List Label → List Disjunct → Bool
  each_group ls ds = list_all (λ l. list_all f (those (opens_with x l) ds)) ls

  groups_of_all : (ls : List Label) (ds : List Disjunct) → list_all f ds ≡ true → each_group ls ds ≡ true
  groups_of_all [] ds e = refl
  groups_of_all (l ∷ ls) ds e = ap (λ t. t && each_group ls ds) (all_those (opens_with x l) ds e) ∙ groups_of_all ls ds e

  one_of_groups : (ls : List Label) (d : Disjunct) (ds : List Disjunct) → HasOne x ls d → each_group ls (d ∷ ds) ≡ true → f d ≡ true
  one_of_groups [] d ds h e = absurd h
  one_of_groups (l ∷ ls) d ds (inl q) e =
      let p = and_parts (list_all f (those (opens_with x l) (d ∷ ds))) (each_group ls (d ∷ ds)) e in
      let r : (f d && list_all f (those (opens_with x l) ds)) ≡ true =
      ap (λ (t : Bool). list_all f (if t then d ∷ those (opens_with x l) ds else those (opens_with x l) ds)) (sym q) ∙ p.0 in
      (and_parts (f d) (list_all f (those (opens_with x l) ds)) r).0
  one_of_groups (l ∷ ls) d ds (inr r) e =
      let p = and_parts (list_all f (those (opens_with x l) (d ∷ ds))) (each_group ls (d ∷ ds)) e in
      one_of_groups ls d ds r p.1

  fewer_all : (t : Bool) (d : Disjunct) (ds : List Disjunct) → list_all f (if t then d ∷ ds else ds) ≡ true → list_all f ds ≡ true
  fewer_all true d ds e = (and_parts (f d) (list_all f ds) e).1
  fewer_all false d ds e = e

  rest_of_groups : (ls : List Label) (d : Disjunct) (ds : List Disjunct) → each_group ls (d ∷ ds) ≡ true → each_group ls ds ≡ true
  rest_of_groups [] d ds e = refl
  rest_of_groups (l ∷ ls) d ds e =
      let p = and_parts (list_all f (those (opens_with x l) (d ∷ ds))) (each_group ls (d ∷ ds)) e in
      ap (λ t. t && each_group ls ds) (fewer_all (opens_with x l d) d (those (opens_with x l) ds) p.0) ∙ rest_of_groups ls d ds p.1

  all_of_groups : (ls : List Label) (ds : List Disjunct) → EachHasOne x ls ds → each_group ls ds ≡ true → list_all f ds ≡ true
  all_of_groups ls [] h e = refl
  all_of_groups ls (d ∷ ds) h e =
      ap (λ t. t && list_all f ds) (one_of_groups ls d ds h.0 e) ∙ all_of_groups ls ds h.1 (rest_of_groups ls d ds e)

  groups_are_all : (ds : List Disjunct) → list_all (λ (d : Disjunct). is_told (label_in x d.opens)) ds ≡ true → each_group (labels_of x ds) ds ≡ list_all f ds
  groups_are_all ds told =
      same_truth (each_group (labels_of x ds) ds) (list_all f ds) (all_of_groups (labels_of x ds) ds (each_has_one x ds told)) (groups_of_all (labels_of x ds) ds)

and_true : (t : Bool) → (t && true) ≡ t
and_true true = refl
and_true false = refl

module _ (S : System) (T : ℕ → TypeTerm) (b : Insts) where
  abbrev never : Disjunct → Bool
  never d = never_ends S T b d.goal

  pub each_never : (ds : List Disjunct) → each_never_ends S T b (goals_of ds) ≡ list_all never ds
  each_never [] = refl
  each_never (d ∷ ds) = ap (λ t. never d && t) (each_never ds)

  -- the variable that is chosen is told by all
  pub told_by_chosen : (out : List ℕ) (ds : List Disjunct) (x : ℕ) → chosen S T out b ds ≡ Some x → list_all (λ (d : Disjunct). is_told (label_in x d.opens)) ds ≡ true
  told_by_chosen out ds x e =
      by_first (least (λ y. is_opened S T out b ds y && misses_none S T b ds y) (opened_variables ds)) refl e
    where
      opened_tells : is_opened S T out b ds x ≡ true → list_all (λ (d : Disjunct). is_told (label_in x d.opens)) ds ≡ true
      opened_tells h =
          let p = and_parts (is_bound (b x)) (not (is_in x out) && list_all (λ (d : Disjunct). is_told (label_in x d.opens)) ds) h in
          (and_parts (not (is_in x out)) (list_all (λ (d : Disjunct). is_told (label_in x d.opens)) ds) p.1).1

      by_first : (o : Option ℕ) → least (λ y. is_opened S T out b ds y && misses_none S T b ds y) (opened_variables ds) ≡ o → option_or o (least (is_opened S T out b ds) (opened_variables ds)) ≡ Some x → list_all (λ (d : Disjunct). is_told (label_in x d.opens)) ds ≡ true
      by_first None q e = opened_tells (least_holds (is_opened S T out b ds) (opened_variables ds) x (sym e))
      by_first (Some y) q e =
          let h = least_holds (λ y. is_opened S T out b ds y && misses_none S T b ds y) (opened_variables ds) x (sym (q ∙ e)) in
          opened_tells (and_parts (is_opened S T out b ds x) (misses_none S T b ds x) h).0

  module _ (kept : Kept) where
    arm_never : (again : List Disjunct → Scheduled) → ((ds : List Disjunct) → never_ends_in S T b (again ds) ≡ list_all never ds) → (ds : List Disjunct) → never_ends S T b (arm_of kept again ds) ≡ list_all never ds
    arm_never again h [] = h []
    arm_never again h (d ∷ []) = sym (and_true (never d))
    arm_never again h (d ∷ (e ∷ ds)) = h (d ∷ (e ∷ ds))

    arms_never : (again : List Disjunct → Scheduled) → ((ds : List Disjunct) → never_ends_in S T b (again ds) ≡ list_all never ds) → (x : ℕ) (ds : List Disjunct) (ls : List Label) → each_arm_never_ends S T b (arms_on (arm_of kept again) x ds ls) ≡ each_group x never ls ds
    arms_never again h x ds [] = refl
    arms_never again h x ds (l ∷ ls) = ap₂ (λ t u. t && u) (arm_never again h (those (opens_with x l) ds)) (arms_never again h x ds ls)

    pub grouped_never : (k : ℕ) (out : List ℕ) (ds : List Disjunct) → never_ends_in S T b (grouped S T kept k b out ds) ≡ list_all never ds
    grouped_never zero out ds = each_never ds
    grouped_never (suc k) out ds = by_choice (λ ys es. grouped_never k ys es) (chosen S T out b ds) refl
      where
        by_choice : ((ys : List ℕ) (es : List Disjunct) → never_ends_in S T b (grouped S T kept k b ys es) ≡ list_all never es) → (o : Option ℕ) → chosen S T out b ds ≡ o → never_ends_in S T b (on_chosen (λ ys. arm_of kept (grouped S T kept k b ys)) out ds o) ≡ list_all never ds
        by_choice again None q = each_never ds
        by_choice again (Some x) q =
            arms_never (grouped S T kept k b (x ∷ out)) (again (x ∷ out)) x ds (labels_of x ds)
            ∙ groups_are_all x never ds (told_by_chosen out ds x q)

-- ---- a goal's switch form
module _ (S : System) (T : ℕ → TypeTerm) (kept : (before after : Insts) → Kept) where
  pub after_formed : (b c : Insts) (n : Node) → insts_after (formed S T kept b n) c ≡ insts_after n c
  after_formed b c (node s changes d m) = refl

  mutual
    pub never_formed : (b : Insts) (n : Node) → never_ends S T b (formed S T kept b n) ≡ never_ends S T b n
    never_formed b (node s changes d m) = never_formed_in b (insts_after (node s changes d m) b) s

    never_formed_in : (b c : Insts) (s : Scheduled) → never_ends_in S T b (formed_in S T kept b c s) ≡ never_ends_in S T b s
    never_formed_in b c (Conj ns) = never_formed_all b ns
    never_formed_in b c (Disj ns) =
        grouped_never S T b (kept b c) (openings_of (disjuncts S T kept b ns)) [] (disjuncts S T kept b ns) ∙ never_formed_each b ns
    never_formed_in b c (Switch x arms) = refl
    never_formed_in b c (Ite vs n t e) =
        ap₂ (λ u v. u && v)
        (ap₂ (λ u v. u || v) (never_formed b n) (ap (λ a. never_ends S T a (formed S T kept (insts_after n b) t)) (after_formed b b n) ∙ never_formed (insts_after n b) t))
        (never_formed b e)
    never_formed_in b c (Not n) = refl
    never_formed_in b c (Exists vs n) = never_formed b n
    never_formed_in b c (Assign x y) = refl
    never_formed_in b c (Test x y) = refl
    never_formed_in b c (Build x s ys) = refl
    never_formed_in b c (Take x s ys) = refl
    never_formed_in b c (Const x v) = refl
    never_formed_in b c (TestConst x v) = refl
    never_formed_in b c (Call p xs implied last) = refl
    never_formed_in b c (Apply op xs ys) = refl

    never_formed_all : (b : Insts) (ns : Nodes) → one_never_ends S T b (formed_all S T kept b ns) ≡ one_never_ends S T b ns
    never_formed_all b no_nodes = refl
    never_formed_all b (node_then n ns) =
        ap₂ (λ u v. u || v) (never_formed b n)
        (ap (λ a. one_never_ends S T a (formed_all S T kept (insts_after n b) ns)) (after_formed b b n) ∙ never_formed_all (insts_after n b) ns)

    never_formed_each : (b : Insts) (ns : Nodes) → list_all (never S T b) (disjuncts S T kept b ns) ≡ each_never_ends S T b ns
    never_formed_each b no_nodes = refl
    never_formed_each b (node_then n ns) = ap₂ (λ u v. u && v) (never_formed b n) (never_formed_each b ns)
