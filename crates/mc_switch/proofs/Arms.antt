-- The arms of a switch, from the groups of what is kept of disjuncts.
use Rattle.std.proofs.Common.{◌≡◌, ℕ, zero, suc, ◌+◌, ◌-◌, ◌<◌, List, take, drop, [], ◌∷◌, ◌++◌, length, map, get_or, slice_set, inl, inr, Bool, true, false, not, nat_eq, ◌&&◌, if◌then◌else◌, Option, Some, None, All, refl, sym, ap, ap₂, ◌∙◌, subst, arith}
use Rattle.std.specs.List.{list_all}
use Rattle.std.specs.Option.{option_or}
use Rattle.std.proofs.lemmas.Bool.{eqb-true, eq-eqb, and_parts, cases_lt}
use Rattle.std.proofs.lemmas.List.{get_or_past, get_or-set_same, get_or-set_other, set-set, set-get_or, map-append, length-map, take_more, length-take-le}
use Rattle.std.proofs.Math.Seq.{drop-cons}
use Rattle.std.proofs.lemmas.List.Elements.{All-nil, All-cons, All-head, All-tail}
use Rattle.mc_source.specs.Determinism.{inferred, det}
use Rattle.mc_model.specs.Good.{System}
use Rattle.mc_model.specs.Lists.{is_in}
use Rattle.mc_model.specs.PlainGoals.{arms_of, plain_node, plain_arm}
use Rattle.mc_model.specs.declared.sched.Arm.{Arm}
use Rattle.mc_model.specs.declared.sched.GoalNode.{GoalNode}
use Rattle.mc_model.specs.Scheduled.{Label, Node, node, Scheduled, Disj, Switch, Arms, arm_then, nodes, node_then}
use Rattle.mc_model.specs.Stream.{is_bound}
use Rattle.mc_program.specs.Programs.{TypeTerm}
use Rattle.mc_accepted.specs.Least.{least}
use Rattle.mc_accepted.specs.Ordered.{Insts}
use Rattle.mc_accepted.specs.Switched as spec
use Rattle.mc_accepted.specs.Switched.{Disjunct, Kept, openings, openings_of, label_in, is_label, and_label, labels_of, those, opens_with, arm_of, arms_on, on_chosen, grouped, goals_of, chosen, is_opened, misses_none}
use Rattle.mc_procs.specs.Procedures.{PlainProcs}
use Rattle.mc_procs.specs.VariableTypes.{type_in}
use Rattle.mc_varset.specs.Members.{has}
use Rattle.mc_switch.specs.declared.disjunct.Opened.{Opened}
use Rattle.mc_switch.specs.declared.groups.Group.{Group}
use Rattle.mc_switch.specs.Types.{inst_in}
use Rattle.mc_switch.specs.code.Grouping.{AroundFits, EndsSo, FormedEnds, IsGrouped, disjuncts_of, nodes_of, opened_first}
use Rattle.mc_switch.specs.Kept.{Extends, OnlyGrew}
use Rattle.mc_switch.specs.declared.context.VariableContext.{VariableContext}
use Rattle.mc_switch.specs.declared.formed.Formed.{Formed}
use Rattle.mc_switch.specs.code.Ends.{KeepsEnd}
use Rattle.mc_mode_state.specs.Tables.{Entry}
use Rattle.mc_switch.specs.Openings.{plain_opening, plain_openings}
use Rattle.mc_switch.specs.code.Choices.{MayBe, AreSame, IsChosenOf}
use Rattle.mc_switch.specs.code.Groups.{label_of, labels_by, labelled, groups_of, plain_group, plain_groups}
use Rattle.mc_switch.specs.code.Labels.{plain_opened, is_opened_by}
use Rattle.mc_switch.specs.code.Parts.{AreKept, kept_end, formed_end, kept_in, arm_with, EachTime, IsGroupedOf, IsArmOf, AreArmsOf, IsChosenIn}
use Rattle.mc_switch.proofs.Choosing.{opens_self, chosen_suits}
use Rattle.mc_switch.proofs.Growing.{suits_before}

labels_same : (x : ℕ) (os : List Opened) → labels_by (label_of x) os ≡ labels_of x (map plain_opened os)
labels_same x [] = refl
labels_same x (o ∷ os) = ap (and_label (label_of x o)) (labels_same x os)

those_same : (x : ℕ) (l : Label) (os : List Opened) → map plain_opened (labelled (label_of x) l os) ≡ those (opens_with x l) (map plain_opened os)
those_same x l [] = refl
those_same x l (o ∷ os) = by_test (is_label l (label_of x o)) (those_same x l os)
  where
    by_test : (t : Bool) → map plain_opened (labelled (label_of x) l os) ≡ those (opens_with x l) (map plain_opened os) → map plain_opened (if t then o ∷ labelled (label_of x) l os else labelled (label_of x) l os) ≡ (if t then plain_opened o ∷ those (opens_with x l) (map plain_opened os) else those (opens_with x l) (map plain_opened os))
    by_test true r = ap (λ (ds : List Disjunct). plain_opened o ∷ ds) r
    by_test false r = r

module _ (kept : Kept) (again : List Disjunct → Scheduled) (x : ℕ) (os : List Opened) where
  abbrev arm : List Disjunct → Node
  arm ds = arm_of kept again ds

  abbrev whole : List (Label × List Opened) → List (Label × Node)
  whole gs = map (λ (g : Label × List Opened). (g.0, arm (map plain_opened g.1))) gs

  each_arm : (ls : List Label) → arms_of (whole (map (λ l. (l, labelled (label_of x) l os)) ls)) ≡ arms_on arm x (map plain_opened os) ls
  each_arm [] = refl
  each_arm (l ∷ ls) = ap₂ (λ (ds : List Disjunct) (rest : Arms). arm_then l (arm ds) rest) (those_same x l os) (each_arm ls)

  pub arms_same : arms_of (whole (groups_of x os)) ≡ arms_on arm x (map plain_opened os) (labels_of x (map plain_opened os))
  arms_same = each_arm (labels_by (label_of x) os) ∙ ap (arms_on arm x (map plain_opened os)) (labels_same x os)

-- a variable that may be chosen has an inst, and isn't left out
pub has_inst : (insts : List ℕ) (out : List Bool) (os : List Opened) (x : ℕ) → MayBe insts out os (Some x) → x < length insts
has_inst insts out os x h =
    elim (cases_lt x (length insts)) [
      | inl lt ↦ lt
      | inr past ↦
          let bound : is_bound (inst_in insts x) ≡ true = (and_parts (is_bound (inst_in insts x)) (not (has out x) && list_all (is_opened_by x) os) h).0 in
          let none : is_bound (inst_in insts x) ≡ false = ap is_bound (get_or_past insts x 0 past) in
          cc
    ]

not_out : (out : List Bool) (x : ℕ) (t : Bool) → has out x ≡ t → not t ≡ true → has out x ≡ false
not_out out x true e h = cc
not_out out x false e h = e

is_left : (insts : List ℕ) (out : List Bool) (os : List Opened) (x : ℕ) → MayBe insts out os (Some x) → has out x ≡ false
is_left insts out os x h =
    let rest = (and_parts (is_bound (inst_in insts x)) (not (has out x) && list_all (is_opened_by x) os) h).1 in
    not_out out x (has out x) refl (and_parts (not (has out x)) (list_all (is_opened_by x) os) rest).0

-- one more is left out, and no more
pub one_more_out : (out : List Bool) (xs : List ℕ) (x : ℕ) → x < length out → AreSame xs out → AreSame (x ∷ xs) (slice_set out x true)
one_more_out out xs x lt same y = by_test (nat_eq y x) refl
  where
    by_test : (t : Bool) → nat_eq y x ≡ t → (if t then true else is_in y xs) ≡ has (slice_set out x true) y
    by_test true q =
        let e : y ≡ x = eqb-true y x q in
        sym (get_or-set_same out x true false lt) ∙ ap (λ z. has (slice_set out x true) z) (sym e)
    by_test false q =
        same y ∙ sym (get_or-set_other out x y true false (λ e. let f : nat_eq y x ≡ true = eq-eqb y x e in cc))

pub out_again : (insts : List ℕ) (out more now last : List Bool) (os : List Opened) (x : ℕ) → MayBe insts out os (Some x) → more ≡ slice_set out x true → now ≡ more → last ≡ slice_set now x false → last ≡ out
out_again insts out more now last os x h e f g =
    g
    ∙ ap (λ (s : List Bool). slice_set s x false) (f ∙ e)
    ∙ set-set out x true false
    ∙ ap (λ b. slice_set out x b) (sym (is_left insts out os x h))
    ∙ set-get_or out x false

-- what holds in each system that suits, with what was found, holds later too
pub each_later : (q r : PlainProcs) (N M : List Entry) (at : VariableContext) (out : List Bool) (times : ℕ) {A : Type 0} (make : Kept → (List Disjunct → Scheduled) → A) (answer : A) → OnlyGrew q r → Extends N M → EachTime q N at out times make answer → EachTime r M at out times make answer
each_later q r N M at out times make answer grew more h =
    λ S L xs suits later same. h S L xs (suits_before q r S grew suits) (λ x k is e. later x k is (more x k is e)) same

pub chosen_later : (q r : PlainProcs) (at : VariableContext) (out : List Bool) (os : List Opened) (o : Option ℕ) → OnlyGrew q r → IsChosenIn q at out os o → IsChosenIn r at out os o
chosen_later q r at out os o grew h = λ S xs suits same. h S xs (suits_before q r S grew suits) same

-- disjuncts that are a switch
pub switch_is : (q : PlainProcs) (N : List Entry) (at : VariableContext) (out more : List Bool) (times : ℕ) (os : List Opened) (x : ℕ) (gs : List (Label × List Opened)) (arms : List (Label × Node)) (s : Scheduled) → (times ≡ 0 → ⊥) → IsChosenIn q at out os (Some x) → MayBe at.before.now out os (Some x) → length out ≡ length at.before.now → more ≡ slice_set out x true → gs ≡ groups_of x os → AreArmsOf q N at more (times - 1) gs arms → s ≡ Switch x (arms_of arms) → IsGroupedOf q N at out times os s
switch_is q N at out more zero os x gs arms s n pick may many put split each is = absurd (n refl)
switch_is q N at out more (suc k) os x gs arms s n pick may many put split each is =
    λ S M xs suits later same.
    let T = type_in at.types.now in
    let b = inst_in at.before.now in
    let kept = kept_in S M at in
    let ds = map plain_opened os in
    let again = grouped S T kept k b (x ∷ xs) in
    let l : suc k - 1 ≡ k = omega arith in
    let lt : x < length out = subst (λ m. x < m) (sym many) (has_inst at.before.now out os x may) in
    let left : AreSame (x ∷ xs) more = subst (AreSame (x ∷ xs)) (sym put) (one_more_out out xs x lt same) in
    let a : arms ≡ map (arm_with kept again) gs =
    each S M (x ∷ xs) suits later left
    ∙ ap (λ m. map (arm_with kept (grouped S T kept m b (x ∷ xs))) gs) l in
    is
    ∙ ap (λ (ps : List (Label × Node)). Switch x (arms_of ps)) (a ∙ ap (map (arm_with kept again)) split)
    ∙ ap (Switch x) (arms_same kept again x os)
    ∙ ap (on_chosen (λ ys. arm_of kept (grouped S T kept k b ys)) xs ds) (pick S xs suits same)

-- disjuncts that are none
pub disjunction_is : (q : PlainProcs) (N : List Entry) (at : VariableContext) (out : List Bool) (times : ℕ) (os : List Opened) (s : Scheduled) → IsChosenIn q at out os None → s ≡ Disj (goals_of (map plain_opened os)) → IsGroupedOf q N at out times os s
disjunction_is q N at out zero os s pick is = λ S M xs suits later same. is
disjunction_is q N at out (suc k) os s pick is =
    λ S M xs suits later same.
    let T = type_in at.types.now in
    let b = inst_in at.before.now in
    let kept = kept_in S M at in
    is ∙ ap (on_chosen (λ ys. arm_of kept (grouped S T kept k b ys)) xs (map plain_opened os)) (pick S xs suits same)

pub no_more_times : (q : PlainProcs) (N : List Entry) (at : VariableContext) (out : List Bool) (times : ℕ) (os : List Opened) (s : Scheduled) → times ≡ 0 → s ≡ Disj (goals_of (map plain_opened os)) → IsGroupedOf q N at out times os s
no_more_times q N at out zero os s e is = λ S M xs suits later same. is
no_more_times q N at out (suc k) os s e is = absurd (omega arith)

-- the variable that is chosen, in a system that suits
pub chosen_in : (q : PlainProcs) (at : VariableContext) (out : List Bool) (os : List Opened) (o : Option ℕ) → AroundFits q at → IsChosenOf q at.types.now at.before.now out os o → IsChosenIn q at out os o
chosen_in q at out os o fits h =
    λ S xs suits same.
    h S.world.outcome xs (map plain_opened os) same (opens_self os)
    ∙ sym (chosen_suits q S suits at.types.now at.before.now xs (map plain_opened os) (λ x. let f = fits.before in f.there x))

-- what holds of disjuncts holds of those of each group
abbrev first_of : List (Label × List Opened) → List Opened
first_of [] = []
first_of (g ∷ gs) = g.1

abbrev rest_of : List (Label × List Opened) → List (Label × List Opened)
rest_of [] = []
rest_of (g ∷ gs) = gs

module _ (P : Opened → Type 0) where
  abbrev InGroup : Group → Type 0
  InGroup g = All P g.disjuncts.items

  all_labelled : (x : ℕ) (l : Label) (os : List Opened) → All P os → All P (labelled (label_of x) l os)
  all_labelled x l [] h = h
  all_labelled x l (o ∷ os) h = by_test (is_label l (label_of x o)) (all_labelled x l os (All-tail P o os h))
    where
      by_test : (t : Bool) → All P (labelled (label_of x) l os) → All P (if t then o ∷ labelled (label_of x) l os else labelled (label_of x) l os)
      by_test true r = All-cons P o (labelled (label_of x) l os) (All-head P o os h) r
      by_test false r = r

  all_kept : (gs : List Group) (ls : List Label) (x : ℕ) (os : List Opened) → plain_groups gs ≡ map (λ l. (l, labelled (label_of x) l os)) ls → All P os → All InGroup gs
  all_kept [] ls x os e h = All-nil InGroup
  all_kept (g ∷ gs) [] x os e h = cc
  all_kept (g ∷ gs) (l ∷ ls) x os e h =
      All-cons InGroup g gs
      (subst (All P) (sym (ap first_of e)) (all_labelled x l os h))
      (all_kept gs ls x os (ap rest_of e) h)

  pub groups_keep : (gs : List Group) (x : ℕ) (os : List Opened) → plain_groups gs ≡ groups_of x os → All P os → All InGroup gs
  groups_keep gs x os e h = all_kept gs (labels_by (label_of x) os) x os e h

-- the goals of disjuncts
pub goals_same : (os : List Opened) → map (λ (o : Opened). plain_node o.goal) os ≡ map (λ (d : Disjunct). d.goal) (map plain_opened os)
goals_same [] = refl
goals_same (o ∷ os) = ap (λ (ns : List Node). plain_node o.goal ∷ ns) (goals_same os)

-- an arm of none or of several disjuncts
pub several_is : (kept : Kept) (again : List Disjunct → Scheduled) (os : List Opened) → (length os ≡ 1 → ⊥) → arm_of kept again (map plain_opened os) ≡ node (again (map plain_opened os)) (kept (map plain_opened os)) (inferred det) false
several_is kept again [] n = refl
several_is kept again (o ∷ []) n = absurd (n refl)
several_is kept again (o ∷ (p ∷ os)) n = refl

-- the arms so far, and one more
pub one_more_arm : (q r : PlainProcs) (N M : List Entry) (at : VariableContext) (out : List Bool) (times : ℕ) (gs : List Group) (g : Group) (before after : List Arm) (a : Arm) → OnlyGrew q r → Extends N M → AreArmsOf q N at out times (plain_groups gs) (map plain_arm before) → IsArmOf r M at out times (plain_group g) (plain_arm a) → after ≡ before ++ a ∷ [] → AreArmsOf r M at out times (plain_groups (gs ++ g ∷ [])) (map plain_arm after)
one_more_arm q r N M at out times gs g before after a grew more h k e =
    λ S L xs suits later same.
    let again = grouped S (type_in at.types.now) (kept_in S L at) times (inst_in at.before.now) xs in
    let make = arm_with (kept_in S L at) again in
    ap (map plain_arm) e
    ∙ map-append plain_arm before (a ∷ [])
    ∙ ap₂ (λ (us : List (Label × Node)) (u : Label × Node). us ++ u ∷ [])
    (h S L xs (suits_before q r S grew suits) (λ x k is f. later x k is (more x k is f)) same)
    (k S L xs suits later same)
    ∙ sym (map-append make (plain_groups gs) (plain_group g ∷ []))
    ∙ ap (map make) (sym (map-append plain_group gs (g ∷ [])))

-- what formed goals tell of the points after them is kept
abbrev end_of : List (Bool × GoalNode) → Bool × GoalNode → Bool × GoalNode
end_of [] d = d
end_of (e ∷ es) d = e

abbrev later_ends : List (Bool × GoalNode) → List (Bool × GoalNode)
later_ends [] = []
later_ends (e ∷ es) = es

pub ends_kept : (q : PlainProcs) (at : VariableContext) (fs : List Formed) (os : List Opened) → AreKept fs os → All (FormedEnds q at.types.now at.before.now) fs → All (KeepsEnd q at) os
ends_kept q at fs [] e h = All-nil (KeepsEnd q at)
ends_kept q at [] (o ∷ os) e h = cc
ends_kept q at (f ∷ fs) (o ∷ os) e h =
    let d : Bool × GoalNode = kept_end o in
    All-cons (KeepsEnd q at) o os
    (subst (λ (p : Bool × GoalNode). EndsSo q at.types.now at.before.now p.0 p.1) (sym (ap (λ (es : List (Bool × GoalNode)). end_of es d) e)) (All-head (FormedEnds q at.types.now at.before.now) f fs h))
    (ends_kept q at fs os (ap later_ends e) (All-tail (FormedEnds q at.types.now at.before.now) f fs h))

pub one_more_kept : (fs : List Formed) (os ps : List Opened) (f : Formed) (o : Opened) → AreKept fs os → o.goal ≡ f.node → o.never_ends ≡ f.never_ends → ps ≡ os ++ o ∷ [] → AreKept (fs ++ f ∷ []) ps
one_more_kept fs os ps f o h goal never put =
    ap (map kept_end) put
    ∙ map-append kept_end os (o ∷ [])
    ∙ ap₂ (λ (es : List (Bool × GoalNode)) (e : Bool × GoalNode). es ++ e ∷ []) h same_end
    ∙ sym (map-append formed_end fs (f ∷ []))
  where
    pair : Bool → GoalNode → Bool × GoalNode
    pair t g = (t, g)

    same_end : kept_end o ≡ formed_end f
    same_end = ap₂ pair never goal

-- what is left of the openings of disjuncts
pub openings_left : (os : List Opened) (k : ℕ) (o : Opened) (count : ℕ) → k < length os → o ≡ get_or os k o → count ≡ openings_of (map plain_opened (drop (suc k) os)) → length o.opens + count ≡ openings_of (map plain_opened (drop k os))
openings_left os k o count lt e h =
    ap₂ (λ m n. m + n) (sym (length-map o.opens plain_opening)) h
    ∙ ap (λ (p : Opened). length (map plain_opening p.opens) + openings_of (map plain_opened (drop (suc k) os))) e
    ∙ ap (λ (ps : List Opened). openings_of (map plain_opened ps)) (sym (drop-cons os k o lt))

-- disjuncts so far, and one more
pub one_more_disjunct : (ns : List GoalNode) (ms : List Formed) (k : ℕ) (n : GoalNode) (m : Formed) (o : Opened) (before after : List Opened) → k ≡ length ms → k < length ns → n ≡ get_or ns k n → plain_openings o.opens ≡ openings (plain_node n) → o.goal ≡ m.node → after ≡ before ++ o ∷ [] → map plain_opened before ≡ disjuncts_of (map plain_node (take k ns)) (nodes_of ms) → map plain_opened after ≡ disjuncts_of (map plain_node (take (k + 1) ns)) (nodes_of (ms ++ m ∷ []))
one_more_disjunct ns ms k n m o before after many lt e opens goal put h =
    ap (map plain_opened) put
    ∙ map-append plain_opened before (o ∷ [])
    ∙ ap₂ (λ (ds : List Disjunct) (d : Disjunct). ds ++ d ∷ []) h
    (ap₂ (λ (os : List spec.Opening) (g : Node). record { opens = os; goal = g }) opens (ap plain_node goal))
    ∙ sym (pushed (take k ns) ms (length-take-le k ns (omega arith) ∙ many))
    ∙ ap (λ (us : List GoalNode). disjuncts_of (map plain_node us) (nodes_of (ms ++ m ∷ []))) (ap (λ (u : GoalNode). take k ns ++ u ∷ []) e ∙ sym (take_more ns k n lt))
  where
    pushed : (us : List GoalNode) (vs : List Formed) → length us ≡ length vs → disjuncts_of (map plain_node (us ++ n ∷ [])) (nodes_of (vs ++ m ∷ [])) ≡ disjuncts_of (map plain_node us) (nodes_of vs) ++ record { opens = openings (plain_node n); goal = plain_node m.node } ∷ []
    pushed [] [] e = refl
    pushed [] (v ∷ vs) e = absurd (omega (arith, e))
    pushed (u ∷ us) [] e = absurd (omega (arith, e))
    pushed (u ∷ us) (v ∷ vs) e = ap (λ (ds : List Disjunct). record { opens = openings (plain_node u); goal = plain_node v.node } ∷ ds) (pushed us vs (omega (arith, e)))

-- where the first of the goals opens nothing, they are a disjunction
module _ (S : System) (T : ℕ → TypeTerm) (kept : Kept) (b : Insts) (out : List ℕ) where
  abbrev with_first : ℕ → List Disjunct → List spec.Opening → Scheduled
  with_first k ds os =
      let xs = map (λ (o : spec.Opening). o.0) os in
      on_chosen (λ ys. arm_of kept (grouped S T kept k b ys)) out ds
      (option_or (least (λ x. is_opened S T out b ds x && misses_none S T b ds x) xs) (least (is_opened S T out b ds) xs))

  none_grouped : (k : ℕ) (ns ms : List Node) → opened_first ns ≡ [] → grouped S T kept k b out (disjuncts_of ns ms) ≡ Disj (goals_of (disjuncts_of ns ms))
  none_grouped zero ns ms e = refl
  none_grouped (suc k) [] ms e = refl
  none_grouped (suc k) (n ∷ ns) [] e = refl
  none_grouped (suc k) (n ∷ ns) (m ∷ ms) e = ap (with_first k (disjuncts_of (n ∷ ns) (m ∷ ms))) e

goals_disjoined : (ns ms : List Node) → length ms ≡ length ns → nodes ms ≡ goals_of (disjuncts_of ns ms)
goals_disjoined [] [] e = refl
goals_disjoined [] (m ∷ ms) e = absurd (omega (arith, e))
goals_disjoined (n ∷ ns) [] e = absurd (omega (arith, e))
goals_disjoined (n ∷ ns) (m ∷ ms) e = ap (node_then m) (goals_disjoined ns ms (omega (arith, e)))

pub none_is : (q : PlainProcs) (N : List Entry) (at : VariableContext) (ns : List GoalNode) (fs : List Formed) (s : Scheduled) → length fs ≡ length ns → opened_first (map plain_node ns) ≡ [] → s ≡ Disj (nodes (nodes_of fs)) → IsGrouped q N at (map plain_node ns) (nodes_of fs) s
none_is q N at ns fs s many none is =
    λ S M suits later.
    let ds = disjuncts_of (map plain_node ns) (nodes_of fs) in
    is
    ∙ ap Disj (goals_disjoined (map plain_node ns) (nodes_of fs) (length-map fs (λ (f : Formed). plain_node f.node) ∙ many ∙ sym (length-map ns plain_node)))
    ∙ sym (none_grouped S (type_in at.types.now) (kept_in S M at) (inst_in at.before.now) [] (openings_of ds) (map plain_node ns) (nodes_of fs) none)
