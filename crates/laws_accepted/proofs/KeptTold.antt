-- A switch form tells what is kept of each group that shares an arm.
use Rattle.std.proofs.Common.{◌≡◌, ◌⊎◌, inl, inr, ℕ, zero, suc, ◌+◌, length, List, [], ◌∷◌, Option, Some, None, Bool, true, false, if◌then◌else◌, refl, sym, ap, ap₂, ◌∙◌, subst, ⊎_elim}
use Rattle.mc_program.specs.Programs.{TypeTerm}
use Rattle.mc_source.specs.Determinism.{inferred, det}
use Rattle.mc_model.specs.Scheduled.{Label, Node, node, Scheduled, Conj, Disj, Switch, Ite, Not, Exists, Assign, Test, Build, Take, Const, TestConst, Call, Apply, Nodes, no_nodes, node_then, nodes, Arms, no_arms, arm_then}
use Rattle.mc_model.specs.Good.{System}
use Rattle.mc_accepted.specs.Determined.{insts_after}
use Rattle.mc_accepted.specs.Ordered.{Insts}
use Rattle.mc_accepted.specs.Switched.{Opening, Disjunct, openings, goals_of, label_in, is_label, opens_with, labels_of, those, Kept, arm_of, arms_on, on_chosen, openings_of, chosen, grouped, formed, formed_in, formed_all, disjuncts}
use Rattle.laws_accepted.specs.KeptLaws.{OfGroup, OfArm, OfArms, OfChosen, OfGroups, OfEachGroup, OfEachIn, OfEachInAll, OfEachInEach, FormsTellKept}
use Rattle.laws_accepted.proofs.FormVariables.{chosen_told}
use Rattle.laws_accepted.proofs.Switching.{HasOne, EachHasOne, each_has_one}

-- ---- disjuncts that deconstruct the same
abbrev SameOpens : List Disjunct → List Disjunct → Type 0
SameOpens [] [] = Unit {0}
SameOpens (d ∷ ds) (e ∷ es) = (d.opens ≡ e.opens) × SameOpens ds es
SameOpens _ _ = ⊥

abbrev disjunct : List Opening → Node → Disjunct
disjunct os g = record { opens = os; goal = g }

same_disjunct : (d e : Disjunct) → d.opens ≡ e.opens → d.goal ≡ e.goal → d ≡ e
same_disjunct d e o g = ap₂ disjunct o g

-- the first goal of disjuncts, and all but the first
abbrev first_goal : Node → List Disjunct → Node
first_goal n [] = n
first_goal n (d ∷ ds) = d.goal

abbrev but_first : List Disjunct → List Disjunct
but_first [] = []
but_first (d ∷ ds) = ds

same_goals : (ds es : List Disjunct) → SameOpens ds es → goals_of ds ≡ goals_of es → ds ≡ es
same_goals [] [] o g = refl
same_goals [] (e ∷ es) o g = absurd o
same_goals (d ∷ ds) [] o g = absurd o
same_goals (d ∷ ds) (e ∷ es) o g =
    let first : d.goal ≡ e.goal = (let q : node_then d.goal (goals_of ds) ≡ node_then e.goal (goals_of es) = g in cc) in
    let later : goals_of ds ≡ goals_of es = (let q : node_then d.goal (goals_of ds) ≡ node_then e.goal (goals_of es) = g in cc) in
    ap₂ (λ d ds. d ∷ ds) (same_disjunct d e o.0 first) (same_goals ds es o.1 later)

same_those : (x : ℕ) (l : Label) (ds es : List Disjunct) → SameOpens ds es → SameOpens (those (opens_with x l) ds) (those (opens_with x l) es)
same_those x l [] [] o = tt
same_those x l [] (e ∷ es) o = absurd o
same_those x l (d ∷ ds) [] o = absurd o
same_those x l (d ∷ ds) (e ∷ es) o = subst (λ u. SameOpens (those (opens_with x l) (d ∷ ds)) (if u then e ∷ those (opens_with x l) es else those (opens_with x l) es)) (ap (λ os. is_label l (label_in x os)) o.0) (at (opens_with x l d) (same_those x l ds es o.1))
  where
    at : (t : Bool) → SameOpens (those (opens_with x l) ds) (those (opens_with x l) es) → SameOpens (if t then d ∷ those (opens_with x l) ds else those (opens_with x l) ds) (if t then e ∷ those (opens_with x l) es else those (opens_with x l) es)
    at true r = (o.0, r)
    at false r = r

-- ---- where groups by labels are the same, all are
module _ (x : ℕ) where
  abbrev GroupsSame : List Label → List Disjunct → List Disjunct → Type 0
  GroupsSame [] ds es = Unit {0}
  GroupsSame (l ∷ ls) ds es = (those (opens_with x l) ds ≡ those (opens_with x l) es) × GroupsSame ls ds es

  head_same : (t u : Bool) (d e : Disjunct) (us ws : List Disjunct) → t ≡ true → u ≡ t → (if t then d ∷ us else us) ≡ (if u then e ∷ ws else ws) → d ≡ e
  head_same true true d e us ws p q h = cc
  head_same true false d e us ws p q h = cc
  head_same false u d e us ws p q h = cc

  tail_same : (t u : Bool) (d e : Disjunct) (us ws : List Disjunct) → u ≡ t → (if t then d ∷ us else us) ≡ (if u then e ∷ ws else ws) → us ≡ ws
  tail_same true true d e us ws q h = (let r : d ∷ us ≡ e ∷ ws = h in cc)
  tail_same true false d e us ws q h = cc
  tail_same false true d e us ws q h = cc
  tail_same false false d e us ws q h = h

  opens_alike : (l : Label) (d e : Disjunct) → d.opens ≡ e.opens → opens_with x l e ≡ opens_with x l d
  opens_alike l d e o = ap (λ os. is_label l (label_in x os)) (sym o)

  groups_head : (ls : List Label) (d e : Disjunct) (ds es : List Disjunct) → d.opens ≡ e.opens → HasOne x ls d → GroupsSame ls (d ∷ ds) (e ∷ es) → d ≡ e
  groups_head [] d e ds es o h g = absurd h
  groups_head (l ∷ ls) d e ds es o h g =
      ⊎_elim (λ p. head_same (opens_with x l d) (opens_with x l e) d e (those (opens_with x l) ds) (those (opens_with x l) es) p (opens_alike l d e o) g.0) (λ r. groups_head ls d e ds es o r g.1) h

  groups_tail : (ls : List Label) (d e : Disjunct) (ds es : List Disjunct) → d.opens ≡ e.opens → GroupsSame ls (d ∷ ds) (e ∷ es) → GroupsSame ls ds es
  groups_tail [] d e ds es o g = tt
  groups_tail (l ∷ ls) d e ds es o g = (tail_same (opens_with x l d) (opens_with x l e) d e (those (opens_with x l) ds) (those (opens_with x l) es) (opens_alike l d e o) g.0, groups_tail ls d e ds es o g.1)

  from_groups : (ls : List Label) (ds es : List Disjunct) → SameOpens ds es → EachHasOne x ls ds → GroupsSame ls ds es → ds ≡ es
  from_groups ls [] [] o h g = refl
  from_groups ls [] (e ∷ es) o h g = absurd o
  from_groups ls (d ∷ ds) [] o h g = absurd o
  from_groups ls (d ∷ ds) (e ∷ es) o h g = ap₂ (λ d ds. d ∷ ds) (groups_head ls d e ds es o.0 h.0 g) (from_groups ls ds es o.1 h.1 (groups_tail ls d e ds es o.0 g))

-- ---- groups of one disjunction
module _ (S : System) (T : ℕ → TypeTerm) (kept also : (before after : Insts) → Kept) (b c : Insts) where
  abbrev IsKept : OfGroup
  IsKept b c ds = kept b c ds ≡ also b c ds

  abbrev Tells : ℕ → Type 0
  Tells k = (out : List ℕ) (ds es : List Disjunct) → SameOpens ds es → grouped S T (kept b c) k b out ds ≡ grouped S T (also b c) k b out es → (ds ≡ es) × OfGroups S T kept IsKept k b c out ds

  module _ (k : ℕ) (rec : Tells k) (out : List ℕ) where
    abbrev one_way : List Disjunct → Scheduled
    one_way = grouped S T (kept b c) k b out

    abbrev other_way : List Disjunct → Scheduled
    other_way = grouped S T (also b c) k b out

    abbrev ArmTold : List Disjunct → List Disjunct → Type 0
    ArmTold us ws = (us ≡ ws) × OfArm S T kept IsKept (OfGroups S T kept IsKept k b c out) b c us

    shared : (us ws : List Disjunct) → SameOpens us ws → node (one_way us) (kept b c us) (inferred det) false ≡ node (other_way ws) (also b c ws) (inferred det) false → (us ≡ ws) × (kept b c us ≡ also b c us) × OfGroups S T kept IsKept k b c out us
    shared us ws o e =
        let form : one_way us ≡ other_way ws = cc in
        let keeps : kept b c us ≡ also b c ws = cc in
        let r = rec out us ws o form in
        (r.0, keeps ∙ ap (also b c) (sym r.0), r.1)

    arm_told : (us ws : List Disjunct) → SameOpens us ws → arm_of (kept b c) one_way us ≡ arm_of (also b c) other_way ws → ArmTold us ws
    arm_told [] [] o e = (let r = shared [] [] o e in (r.0, (r.1, r.2)))
    arm_told [] (w ∷ ws) o e = absurd o
    arm_told (u ∷ us) [] o e = absurd o
    arm_told (u ∷ []) (w ∷ []) o e = (ap (λ d. d ∷ []) (same_disjunct u w o.0 e), tt)
    arm_told (u ∷ []) (w ∷ v ∷ ws) o e = absurd o.1
    arm_told (u ∷ v ∷ us) (w ∷ []) o e = absurd o.1
    arm_told (u ∷ v ∷ us) (w ∷ z ∷ ws) o e = (let r = shared (u ∷ v ∷ us) (w ∷ z ∷ ws) o e in (r.0, (r.1, r.2)))

    arms_told : (x : ℕ) (ds es : List Disjunct) → SameOpens ds es → (ls ms : List Label) → arms_on (arm_of (kept b c) one_way) x ds ls ≡ arms_on (arm_of (also b c) other_way) x es ms →
        GroupsSame x ls ds es × OfArms S T kept IsKept (OfArm S T kept IsKept (OfGroups S T kept IsKept k b c out) b c) x ds ls
    arms_told x ds es o [] ms e = (tt, tt)
    arms_told x ds es o (l ∷ ls) [] e = cc
    arms_told x ds es o (l ∷ ls) (m ∷ ms) e =
        let label : l ≡ m = cc in
        let arm : arm_of (kept b c) one_way (those (opens_with x l) ds) ≡ arm_of (also b c) other_way (those (opens_with x m) es) = cc in
        let later : arms_on (arm_of (kept b c) one_way) x ds ls ≡ arms_on (arm_of (also b c) other_way) x es ms = cc in
        let one = arm_told (those (opens_with x l) ds) (those (opens_with x l) es) (same_those x l ds es o) (arm ∙ ap (λ k. arm_of (also b c) other_way (those (opens_with x k) es)) (sym label)) in
        let rest = arms_told x ds es o ls ms later in
        ((one.0, rest.0), (one.1, rest.1))

  groups_told : (k : ℕ) → Tells k
  groups_told zero out ds es o e = (same_goals ds es o (let q : Disj (goals_of ds) ≡ Disj (goals_of es) = e in cc), tt)
  groups_told (suc k) out ds es o e = at (chosen S T out b ds) refl (chosen S T out b es) e (groups_told k)
    where
      at : (u : Option ℕ) → chosen S T out b ds ≡ u → (w : Option ℕ) → on_chosen (λ out. arm_of (kept b c) (grouped S T (kept b c) k b out)) out ds u ≡ on_chosen (λ out. arm_of (also b c) (grouped S T (also b c) k b out)) out es w → Tells k →
          (ds ≡ es) × OfChosen S T kept IsKept (λ out. OfArm S T kept IsKept (OfGroups S T kept IsKept k b c out) b c) out ds u
      at None q None e rec = (same_goals ds es o (let p : Disj (goals_of ds) ≡ Disj (goals_of es) = e in cc), tt)
      at None q (Some y) e rec = cc
      at (Some x) q None e rec = cc
      at (Some x) q (Some y) e rec = told x y q e rec
        where
          told : (x y : ℕ) → chosen S T out b ds ≡ Some x → Switch x (arms_on (arm_of (kept b c) (grouped S T (kept b c) k b (x ∷ out))) x ds (labels_of x ds)) ≡ Switch y (arms_on (arm_of (also b c) (grouped S T (also b c) k b (y ∷ out))) y es (labels_of y es)) → Tells k →
              (ds ≡ es) × OfArms S T kept IsKept (OfArm S T kept IsKept (OfGroups S T kept IsKept k b c (x ∷ out)) b c) x ds (labels_of x ds)
          told x y q e rec =
              let same : x ≡ y = cc in
              let arms : arms_on (arm_of (kept b c) (grouped S T (kept b c) k b (x ∷ out))) x ds (labels_of x ds) ≡ arms_on (arm_of (also b c) (grouped S T (also b c) k b (y ∷ out))) y es (labels_of y es) = cc in
              let r = arms_told k rec (x ∷ out) x ds es o (labels_of x ds) (labels_of x es) (arms ∙ ap (λ z. arms_on (arm_of (also b c) (grouped S T (also b c) k b (z ∷ out))) z es (labels_of z es)) (sym same)) in
              (from_groups x (labels_of x ds) ds es o (each_has_one x ds (chosen_told S T out b ds x q)) r.0, r.1)

-- ---- the parts of a goal
module _ (S : System) (T : ℕ → TypeTerm) (kept also : (before after : Insts) → Kept) where
  same_opens : (b : Insts) (ns : Nodes) → SameOpens (disjuncts S T kept b ns) (disjuncts S T also b ns)
  same_opens b no_nodes = tt
  same_opens b (node_then n ns) = (refl, same_opens b ns)

  -- the goals of all disjuncts are the same
  abbrev EachSame : Insts → Nodes → Type 0
  EachSame b no_nodes = Unit {0}
  EachSame b (node_then n ns) = (formed S T kept b n ≡ formed S T also b n) × EachSame b ns

  each_same : (b : Insts) (ns : Nodes) → disjuncts S T kept b ns ≡ disjuncts S T also b ns → EachSame b ns
  each_same b no_nodes e = tt
  each_same b (node_then n ns) e = (ap (first_goal n) e, each_same b ns (ap but_first e))

  -- each deconstructs as often
  same_count : (b : Insts) (ns : Nodes) → openings_of (disjuncts S T kept b ns) ≡ openings_of (disjuncts S T also b ns)
  same_count b no_nodes = refl
  same_count b (node_then n ns) = ap (λ k. length (openings n) + k) (same_count b ns)

  mutual
    node_told : (b : Insts) (n : Node) → formed S T kept b n ≡ formed S T also b n → OfEachGroup S T kept (λ b c ds. kept b c ds ≡ also b c ds) b n
    node_told b (node s changes d m) e = in_told b (insts_after (node s changes d m) b) s (let q : node (formed_in S T kept b (insts_after (node s changes d m) b) s) changes d m ≡ node (formed_in S T also b (insts_after (node s changes d m) b) s) changes d m = e in cc)

    in_told : (b c : Insts) (s : Scheduled) → formed_in S T kept b c s ≡ formed_in S T also b c s → OfEachIn S T kept (λ b c ds. kept b c ds ≡ also b c ds) b c s
    in_told b c (Conj ns) e = all_told b ns (let q : Conj (formed_all S T kept b ns) ≡ Conj (formed_all S T also b ns) = e in cc)
    in_told b c (Disj ns) e =
        let r = groups_told S T kept also b c (openings_of (disjuncts S T kept b ns)) [] (disjuncts S T kept b ns) (disjuncts S T also b ns) (same_opens b ns) (e ∙ ap (λ k. grouped S T (also b c) k b [] (disjuncts S T also b ns)) (sym (same_count b ns))) in
        (r.1, each_told b ns (each_same b ns r.0))
    in_told b c (Switch x arms) e = tt
    in_told b c (Ite vs n t f) e =
        let q : Ite vs (formed S T kept b n) (formed S T kept (insts_after n b) t) (formed S T kept b f) ≡ Ite vs (formed S T also b n) (formed S T also (insts_after n b) t) (formed S T also b f) = e in
        (node_told b n cc, node_told (insts_after n b) t cc, node_told b f cc)
    in_told b c (Not n) e = node_told b n (let q : Not (formed S T kept b n) ≡ Not (formed S T also b n) = e in cc)
    in_told b c (Exists vs n) e = node_told b n (let q : Exists vs (formed S T kept b n) ≡ Exists vs (formed S T also b n) = e in cc)
    in_told b c (Assign y z) e = tt
    in_told b c (Test y z) e = tt
    in_told b c (Build y s ys) e = tt
    in_told b c (Take y s ys) e = tt
    in_told b c (Const y v) e = tt
    in_told b c (TestConst y v) e = tt
    in_told b c (Call p xs implied last) e = tt
    in_told b c (Apply op xs ys) e = tt

    all_told : (b : Insts) (ns : Nodes) → formed_all S T kept b ns ≡ formed_all S T also b ns → OfEachInAll S T kept (λ b c ds. kept b c ds ≡ also b c ds) b ns
    all_told b no_nodes e = tt
    all_told b (node_then n ns) e =
        let q : node_then (formed S T kept b n) (formed_all S T kept (insts_after n b) ns) ≡ node_then (formed S T also b n) (formed_all S T also (insts_after n b) ns) = e in
        (node_told b n cc, all_told (insts_after n b) ns cc)

    each_told : (b : Insts) (ns : Nodes) → EachSame b ns → OfEachInEach S T kept (λ b c ds. kept b c ds ≡ also b c ds) b ns
    each_told b no_nodes e = tt
    each_told b (node_then n ns) e = (node_told b n e.0, each_told b ns e.1)

pub forms_tell_kept : FormsTellKept
forms_tell_kept S T kept also b n e = node_told S T kept also b n e
