-- The point after a goal's switch form is reachable where that after the goal is.
use Rattle.std.proofs.Common.{◌≡◌, ℕ, zero, suc, List, [], ◌∷◌, Option, Some, None, Bool, true, false, ◌&&◌, ◌||◌, if◌then◌else◌, refl, sym, ap, ap₂, ◌∙◌, subst}
use Rattle.mc_program.specs.Programs.{TypeTerm}
use Rattle.mc_source.specs.Determinism.{inferred, det}
use Rattle.mc_model.specs.Scheduled.{Label, Node, node, Scheduled, Conj, Disj, Switch, Ite, Not, Exists, Assign, Test, Build, Take, Const, TestConst, Call, Apply, Nodes, no_nodes, node_then}
use Rattle.mc_model.specs.Good.{System}
use Rattle.mc_accepted.specs.Determined.{insts_after}
use Rattle.mc_accepted.specs.MergedArms.{never_ends, never_ends_in, one_never_ends, each_never_ends, each_arm_never_ends, with_end}
use Rattle.mc_accepted.specs.Ordered.{Insts}
use Rattle.mc_accepted.specs.Switched.{Disjunct, goals_of, label_in, opens_with, labels_of, those, Kept, arm_of, arms_on, on_chosen, openings_of, chosen, grouped, formed, formed_in, formed_all, disjuncts}
use Rattle.laws_accepted.specs.SwitchLaws.{Told}
use Rattle.laws_accepted.proofs.Forms.{told}
use Rattle.laws_accepted.specs.KeptLaws.{FormsEndAlike}
use Rattle.laws_accepted.proofs.FormVariables.{told_those, chosen_told}
use Rattle.laws_accepted.proofs.KeptArms.{ends_of, split}
use Rattle.laws_accepted.proofs.Switching.{Distinct, EachHasOne, distinct_labels, each_has_one, others_left, same_left, NotAmong, without_label, no_end, each_never}

module _ (S : System) (T : ℕ → TypeTerm) (b : Insts) (keep : Kept) where
  abbrev none_of : List Disjunct → Bool
  none_of ds = no_end (ends_of S T b ds)

  one_never : (n : Node) → never_ends S T b n ≡ no_end (with_end S T b n [])
  one_never n = at (never_ends S T b n)
    where
      at : (t : Bool) → t ≡ no_end (if t then [] else insts_after n b ∷ [])
      at true = refl
      at false = refl

  abbrev Tells : (List Disjunct → Scheduled) → Type 0
  Tells again = (us : List Disjunct) → Told us → never_ends_in S T b (again us) ≡ none_of us

  module _ (again : List Disjunct → Scheduled) (rec : Tells again) (x : ℕ) where
    arm_never : (us : List Disjunct) → Told us → never_ends S T b (arm_of keep again us) ≡ none_of us
    arm_never [] t = rec [] t
    arm_never (d ∷ []) t = one_never d.goal
    arm_never (d ∷ e ∷ us) t = rec (d ∷ e ∷ us) t

    module _ (ds : List Disjunct) (are : Told ds) where
      abbrev Agree : List Label → List Disjunct → Type 0
      Agree [] es = Unit {0}
      Agree (l ∷ ls) es = (those (opens_with x l) es ≡ those (opens_with x l) ds) × Agree ls es

      agree_left : (l : Label) (ls : List Label) (es : List Disjunct) → NotAmong l ls → Agree ls es → Agree ls (without_label x l es)
      agree_left l [] es n a = tt
      agree_left l (k ∷ ls) es n a = (same_left x l k n.0 es ∙ a.0, agree_left l ls es n.1 a.1)

      arms_never : (ls : List Label) (es : List Disjunct) → Agree ls es → EachHasOne x ls es → Distinct ls → each_arm_never_ends S T b (arms_on (arm_of keep again) x ds ls) ≡ none_of es
      arms_never [] [] a h di = refl
      arms_never [] (e ∷ es) a h di = absurd h.0
      arms_never (l ∷ ls) es a h di =
          ap₂ (λ t u. t && u) (arm_never (those (opens_with x l) ds) (told_those (opens_with x l) ds are) ∙ ap none_of (sym a.0))
          (arms_never ls (without_label x l es) (agree_left l ls es di.0 a.1) (others_left x l ls es h) di.1)
          ∙ sym (split S T b (opens_with x l) es).1

      agree_all : (ls : List Label) → Agree ls ds
      agree_all [] = tt
      agree_all (l ∷ ls) = (refl, agree_all ls)

  grouped_never : (k : ℕ) (out : List ℕ) → Tells (grouped S T keep k b out)
  grouped_never zero out us t = each_never S T b (goals_of us)
  grouped_never (suc k) out us t = at (chosen S T out b us) refl (λ out. grouped_never k out)
    where
      at : (o : Option ℕ) → chosen S T out b us ≡ o → ((out : List ℕ) → Tells (grouped S T keep k b out)) → never_ends_in S T b (on_chosen (λ out. arm_of keep (grouped S T keep k b out)) out us o) ≡ none_of us
      at None q again = each_never S T b (goals_of us)
      at (Some x) q again =
          let form : List Disjunct → Scheduled = grouped S T keep k b (x ∷ out) in
          arms_never form (again (x ∷ out)) x us t (labels_of x us) us (agree_all form (again (x ∷ out)) x us t (labels_of x us)) (each_has_one x us (chosen_told S T out b us x q)) (distinct_labels x us)

module _ (S : System) (T : ℕ → TypeTerm) (kept : (before after : Insts) → Kept) where
  pub after_form : (b a : Insts) (n : Node) → insts_after (formed S T kept b n) a ≡ insts_after n a
  after_form b a (node s changes d m) = refl

  mutual
    pub node_never : (b : Insts) (n : Node) → never_ends S T b (formed S T kept b n) ≡ never_ends S T b n
    node_never b (node s changes d m) = in_never b (insts_after (node s changes d m) b) s

    in_never : (b c : Insts) (s : Scheduled) → never_ends_in S T b (formed_in S T kept b c s) ≡ never_ends_in S T b s
    in_never b c (Conj ns) = all_never b ns
    in_never b c (Disj ns) = grouped_never S T b (kept b c) (openings_of (disjuncts S T kept b ns)) [] (disjuncts S T kept b ns) (told S T kept b ns) ∙ (sym (each_never S T b (goals_of (disjuncts S T kept b ns))) ∙ each_form_never b ns)
    in_never b c (Switch x arms) = refl
    in_never b c (Ite vs n t e) =
        ap₂ (λ u w. u && w)
        (ap₂ (λ u w. u || w) (node_never b n) (subst (λ a. never_ends S T a (formed S T kept (insts_after n b) t) ≡ never_ends S T (insts_after n b) t) (sym (after_form b b n)) (node_never (insts_after n b) t)))
        (node_never b e)
    in_never b c (Not n) = refl
    in_never b c (Exists vs n) = node_never b n
    in_never b c (Assign y z) = refl
    in_never b c (Test y z) = refl
    in_never b c (Build y s ys) = refl
    in_never b c (Take y s ys) = refl
    in_never b c (Const y v) = refl
    in_never b c (TestConst y v) = refl
    in_never b c (Call p xs implied last) = refl
    in_never b c (Apply op xs ys) = refl

    all_never : (b : Insts) (ns : Nodes) → one_never_ends S T b (formed_all S T kept b ns) ≡ one_never_ends S T b ns
    all_never b no_nodes = refl
    all_never b (node_then n ns) =
        ap₂ (λ u w. u || w) (node_never b n) (subst (λ a. one_never_ends S T a (formed_all S T kept (insts_after n b) ns) ≡ one_never_ends S T (insts_after n b) ns) (sym (after_form b b n)) (all_never (insts_after n b) ns))

    each_form_never : (b : Insts) (ns : Nodes) → each_never_ends S T b (goals_of (disjuncts S T kept b ns)) ≡ each_never_ends S T b ns
    each_form_never b no_nodes = refl
    each_form_never b (node_then n ns) = ap₂ (λ u w. u && w) (node_never b n) (each_form_never b ns)

pub forms_end_alike : FormsEndAlike
forms_end_alike S T kept b n = node_never S T kept b n
