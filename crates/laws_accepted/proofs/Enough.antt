-- Each time that arms are looked at again fewer variables are left.
use Rattle.std.proofs.Common.{◌≡◌, ℕ, zero, suc, ◌+◌, ◌≤◌, List, [], ◌∷◌, length, Option, Some, None, Bool, true, false, if◌then◌else◌, nat_eq, not, ◌&&◌, refl, ap, ap₂, ◌∙◌, arith}
use Rattle.std.specs.List.{list_all}
use Rattle.std.specs.Option.{option_or}
use Rattle.std.proofs.lemmas.Bool.{and_parts, eqb-true}
use Rattle.mc_program.specs.Programs.{TypeTerm}
use Rattle.mc_model.specs.Lists.{is_in}
use Rattle.mc_source.specs.Determinism.{inferred, det}
use Rattle.mc_model.specs.Scheduled.{Label, node, Scheduled, Disj, Switch, arm_then}
use Rattle.mc_model.specs.Stream.{is_bound}
use Rattle.mc_model.specs.Good.{System}
use Rattle.mc_accepted.specs.Ordered.{Insts}
use Rattle.mc_accepted.specs.Determined.{allowed_in}
use Rattle.mc_accepted.specs.Least.{least}
use Rattle.mc_accepted.specs.Switched.{Disjunct, Opening, Kept, goals_of, openings_of, chosen, labels_of, those, opens_with, label_in, is_told, is_opened, covers, opened_variables, arm_of, arms_on, on_chosen, grouped}
use Rattle.laws_accepted.specs.SwitchLaws.{FormsAreWhole}
use Rattle.laws_accepted.proofs.Grouping.{least_passes}

-- openings of variables that aren't left out
abbrev counts : Bool → ℕ
counts t = (if t then 0 else 1)

abbrev left : List ℕ → List (ℕ × Label) → ℕ
left out [] = 0
left out (o ∷ os) = counts (is_in o.0 out) + left out os

abbrev all_left : List ℕ → List Disjunct → ℕ
all_left out [] = 0
all_left out (d ∷ ds) = left out d.opens + all_left out ds

counts_or : (t u : Bool) → counts (if t then true else u) ≤ counts u
counts_or true true = omega arith
counts_or true false = omega arith
counts_or false u = omega arith

fewer : (x : ℕ) (out : List ℕ) (os : List (ℕ × Label)) → left (x ∷ out) os ≤ left out os
fewer x out [] = omega arith
fewer x out (o ∷ os) = omega (arith, counts_or (nat_eq o.0 x) (is_in o.0 out), fewer x out os)

all_fewer : (x : ℕ) (out : List ℕ) (ds : List Disjunct) → all_left (x ∷ out) ds ≤ all_left out ds
all_fewer x out [] = omega arith
all_fewer x out (d ∷ ds) = omega (arith, fewer x out d.opens, all_fewer x out ds)

one_less : (x : ℕ) (out : List ℕ) (os : List (ℕ × Label)) → is_told (label_in x os) ≡ true → is_in x out ≡ false → left (x ∷ out) os + 1 ≤ left out os
one_less x out [] t n = cc
one_less x out (o ∷ os) t n = by_test (nat_eq o.0 x) refl t (λ u. one_less x out os u n)
  where
    by_test : (t : Bool) → nat_eq o.0 x ≡ t → is_told (if t then Some o.1 else label_in x os) ≡ true → (is_told (label_in x os) ≡ true → left (x ∷ out) os + 1 ≤ left out os) → left (x ∷ out) (o ∷ os) + 1 ≤ left out (o ∷ os)
    by_test true q t again =
        let a : counts (if nat_eq o.0 x then true else is_in o.0 out) ≡ 0 = ap (λ u. counts (if u then true else is_in o.0 out)) q in
        let b : counts (is_in o.0 out) ≡ 1 = ap counts (ap (λ z. is_in z out) (eqb-true o.0 x q) ∙ n) in
        omega (arith, a, b, fewer x out os)
    by_test false q t again = omega (arith, counts_or (nat_eq o.0 x) (is_in o.0 out), again t)

some_left : (x : ℕ) (out : List ℕ) (f : Disjunct → Bool) (ds : List Disjunct) → all_left out (those f ds) ≤ all_left out ds
some_left x out f [] = omega arith
some_left x out f (d ∷ ds) = by_test (f d) (some_left x out f ds)
  where
    by_test : (t : Bool) → all_left out (those f ds) ≤ all_left out ds → all_left out (if t then d ∷ those f ds else those f ds) ≤ left out d.opens + all_left out ds
    by_test true r = omega (arith, r)
    by_test false r = omega (arith, r)

not_true : (t : Bool) → not t ≡ true → t ≡ false
not_true true h = cc
not_true false h = refl

module _ (S : System) (T : ℕ → TypeTerm) (b : Insts) where
  opened_parts : (out : List ℕ) (ds : List Disjunct) (x : ℕ) → is_opened S T out b ds x ≡ true → (is_in x out ≡ false) × (list_all (λ (d : Disjunct). is_told (label_in x d.opens)) ds ≡ true)
  opened_parts out ds x r =
      let p = and_parts (is_bound (b x)) (not (is_in x out) && list_all (λ (d : Disjunct). is_told (label_in x d.opens)) ds) r in
      let s = and_parts (not (is_in x out)) (list_all (λ (d : Disjunct). is_told (label_in x d.opens)) ds) p.1 in
      (not_true (is_in x out) s.0, s.1)

  -- the variable that is chosen is opened by each disjunct, and not left out
  chosen_parts : (out : List ℕ) (ds : List Disjunct) (x : ℕ) → chosen S T out b ds ≡ Some x → (is_in x out ≡ false) × (list_all (λ (d : Disjunct). is_told (label_in x d.opens)) ds ≡ true)
  chosen_parts out ds x q = by_first (least (λ y. is_opened S T out b ds y && covers S T (allowed_in S T (T y) (b y)) (labels_of y ds)) (opened_variables ds)) refl q
    where
      by_first : (o : Option ℕ) → least (λ y. is_opened S T out b ds y && covers S T (allowed_in S T (T y) (b y)) (labels_of y ds)) (opened_variables ds) ≡ o → option_or o (least (is_opened S T out b ds) (opened_variables ds)) ≡ Some x → (is_in x out ≡ false) × (list_all (λ (d : Disjunct). is_told (label_in x d.opens)) ds ≡ true)
      by_first None p r = opened_parts out ds x (least_passes (is_opened S T out b ds) (opened_variables ds) x r)
      by_first (Some y) p r =
          let s : y ≡ x = cc in
          let t = least_passes (λ z. is_opened S T out b ds z && covers S T (allowed_in S T (T z) (b z)) (labels_of z ds)) (opened_variables ds) x (p ∙ r) in
          opened_parts out ds x (and_parts (is_opened S T out b ds x) (covers S T (allowed_in S T (T x) (b x)) (labels_of x ds)) t).0

  -- there is a disjunct where a variable is chosen
  falls : (out : List ℕ) (ds : List Disjunct) (x : ℕ) → chosen S T out b ds ≡ Some x → all_left (x ∷ out) ds + 1 ≤ all_left out ds
  falls out [] x q = cc
  falls out (d ∷ ds) x q =
      let p = chosen_parts out (d ∷ ds) x q in
      let s = and_parts (is_told (label_in x d.opens)) (list_all (λ (d : Disjunct). is_told (label_in x d.opens)) ds) p.1 in
      omega (arith, one_less x out d.opens s.0 p.0, all_fewer x out ds)

  module _ (keep : Kept) where
    arm_same : (again more : List Disjunct → Scheduled) (ds : List Disjunct) → again ds ≡ more ds → arm_of keep again ds ≡ arm_of keep more ds
    arm_same again more [] h = ap (λ s. node s (keep []) (inferred det) false) h
    arm_same again more (d ∷ []) h = refl
    arm_same again more (d ∷ e ∷ ds) h = ap (λ s. node s (keep (d ∷ e ∷ ds)) (inferred det) false) h

    arms_same : (again more : List Disjunct → Scheduled) (x : ℕ) (ds : List Disjunct) (ls : List Label) → ((l : Label) → again (those (opens_with x l) ds) ≡ more (those (opens_with x l) ds)) → arms_on (arm_of keep again) x ds ls ≡ arms_on (arm_of keep more) x ds ls
    arms_same again more x ds [] h = refl
    arms_same again more x ds (l ∷ ls) h = ap₂ (arm_then l) (arm_same again more (those (opens_with x l) ds) (h l)) (arms_same again more x ds ls h)

    abbrev groups : ℕ → List ℕ → List Disjunct → Scheduled
    groups k out = grouped S T keep k b out

    one_more : (k : ℕ) (out : List ℕ) (ds : List Disjunct) → all_left out ds ≤ k → groups (suc k) out ds ≡ groups k out ds
    one_more zero out ds h = by_chosen (chosen S T out b ds) refl
      where
        by_chosen : (o : Option ℕ) → chosen S T out b ds ≡ o → on_chosen (λ out. arm_of keep (groups zero out)) out ds o ≡ Disj (goals_of ds)
        by_chosen None q = refl
        by_chosen (Some x) q = absurd (omega (arith, falls out ds x q, h))
    one_more (suc k) out ds h = by_chosen (chosen S T out b ds) refl (λ o cs l. one_more k o cs l)
      where
        by_chosen : (o : Option ℕ) → chosen S T out b ds ≡ o → ((out : List ℕ) (ds : List Disjunct) → all_left out ds ≤ k → groups (suc k) out ds ≡ groups k out ds) → on_chosen (λ out. arm_of keep (groups (suc k) out)) out ds o ≡ on_chosen (λ out. arm_of keep (groups k out)) out ds o
        by_chosen None q again = refl
        by_chosen (Some x) q again =
            ap (Switch x)
            (arms_same (groups (suc k) (x ∷ out)) (groups k (x ∷ out)) x ds (labels_of x ds)
            (λ l. again (x ∷ out) (those (opens_with x l) ds) (omega (arith, some_left x (x ∷ out) (opens_with x l) ds, falls out ds x q, h))))

    left_none : (os : List Opening) → left [] os ≡ length os
    left_none [] = refl
    left_none (o ∷ os) = omega (arith, left_none os)

    all_left_none : (ds : List Disjunct) → all_left [] ds ≡ openings_of ds
    all_left_none [] = refl
    all_left_none (d ∷ ds) = ap₂ (λ (m n : ℕ). m + n) (left_none d.opens) (all_left_none ds)

    many_more : (more k : ℕ) (ds : List Disjunct) → openings_of ds ≤ k → groups (k + more) [] ds ≡ groups k [] ds
    many_more zero k ds h = let e : k + zero ≡ k = omega arith in ap (λ n. groups n [] ds) e
    many_more (suc more) k ds h =
        let e : k + suc more ≡ suc (k + more) = omega arith in
        ap (λ n. groups n [] ds) e
        ∙ (one_more (k + more) [] ds (omega (arith, all_left_none ds, h)) ∙ many_more more k ds h)

pub forms_are_whole : FormsAreWhole
forms_are_whole S T keep b ds more = many_more S T b keep more (openings_of ds) ds (omega arith)
