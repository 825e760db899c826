-- What is kept of a group merges the ends of its disjuncts.
use Rattle.std.proofs.Common.{◌≡◌, ◌≢◌, ◌⊎◌, inl, inr, ℕ, zero, suc, ◌<◌, ◌≤◌, List, [], ◌∷◌, map, length, Option, Some, None, Bool, true, false, not, nat_eq, ◌&&◌, ◌||◌, if◌then◌else◌, refl, sym, ap, ◌∙◌, subst, ⊎_elim, arith}
use Rattle.std.specs.Str.{bytes_eq}
use Rattle.std.proofs.lemmas.Bool.{eqb-true, eq-eqb}
use Rattle.std.proofs.lemmas.Slice.Eq.{bytes_eq-Decides}
use Rattle.mc_program.specs.Programs.{TypeTerm, Source}
use Rattle.mc_program.specs.declared.ty.Ty.{Ty}
use Rattle.mc_model.specs.Insts.{free, Graph}
use Rattle.mc_model.specs.Good.{System}
use Rattle.mc_model.specs.PlainGoals.{plain_node}
use Rattle.mc_model.specs.Scheduled.{Node}
use Rattle.mc_model.specs.Stream.{is_bound}
use Rattle.mc_model.specs.declared.sched.GoalNode.{GoalNode}
use Rattle.mc_model.specs.declared.sched.Proc.{Proc}
use Rattle.mc_accepted.specs.Accepted.{entered}
use Rattle.mc_accepted.specs.Fits.{FitsInsts}
use Rattle.mc_accepted.specs.Inclusion.{AllFree, NoneIs, Merged}
use Rattle.mc_accepted.specs.MergedArms.{EachGives, ends, ChangesMerge}
use Rattle.mc_accepted.specs.Ordered.{Insts, change_at}
use Rattle.mc_accepted.specs.Switched.{Disjunct, Kept, goals_of, formed}
use Rattle.mc_accepted.specs.Tidy.{Tidy, EachIsTidy}
use Rattle.mc_accepted.specs.code.Truthful.{AllAre}
use Rattle.mc_insts.specs.Graphs.{graph_of}
use Rattle.mc_procs.specs.Fitting.{AllFit}
use Rattle.mc_procs.specs.Procedures.{PlainProcs, source_of, insts_of}
use Rattle.mc_procs.specs.VariableTypes.{type_in}
use Rattle.mc_mode_state.specs.Tables.{Entry, entry, node_in}
use Rattle.laws_modes.proofs.MergedThere.{not-free, stood-merged}
use Rattle.laws_order.proofs.Arranging.{is-set, is-unset, or-first}
use Rattle.laws_order.proofs.MarkedGoals.{Each, merged-one}
use Rattle.laws_accepted.specs.KeptLaws.{OfGroup, OfEachGroup, merges_group, even_group}
use Rattle.laws_accepted.proofs.EvenGroups.{groups_are_even}
use Rattle.laws_accepted.proofs.KeptArms.{kept_merge_arms}
use Rattle.laws_accepted.proofs.KeptGathered.{node_gathers}
use Rattle.laws_accepted.proofs.KeptTold.{forms_tell_kept}
use Rattle.laws_accepted.proofs.NoSwitches.{orders_have_no_switch}
use Rattle.mc_switch.specs.Kept.{all_are, or_none, inst_merged, changes_of, merged_changes, kept_by, Extends, AreMerged, Suits}
use Rattle.mc_switch.specs.SwitchedBodies.{IsForm}
use Rattle.laws_procedures.specs.FormsMerge.{IsTidyOrder, FormsMerge}
use Rattle.laws_procedures.proofs.Changes.{changes_rise, changes_change, value_of, value_past}

-- ---- lists of one inst
both_true : (t u : Bool) → t ≡ true → u ≡ true → (t && u) ≡ true
both_true true u e f = f
both_true false u e f = cc

first_true : (t u : Bool) → (t && u) ≡ true → t ≡ true
first_true true u e = refl
first_true false u e = cc

second_true : (t u : Bool) → (t && u) ≡ true → u ≡ true
second_true true u e = e
second_true false u e = cc

all_one : (x i : ℕ) (es : List Insts) → EachGives x i es → all_are i (map (λ (e : Insts). e x) es) ≡ true
all_one x i [] g = refl
all_one x i (e ∷ es) g = both_true (nat_eq (e x) i) (all_are i (map (λ (e : Insts). e x) es)) (eq-eqb (e x) i g.0) (all_one x i es g.1)

module _ (S : System) (T : ℕ → TypeTerm) where
  each_one : (i : ℕ) (is : List ℕ) → all_are i is ≡ true → Each S T i is
  each_one i [] h = tt
  each_one i (j ∷ is) h = (eqb-true j i (first_true (nat_eq j i) (all_are i is) h), each_one i is (second_true (nat_eq j i) (all_are i is) h))

-- ---- one more entry
module _ (found : List Entry) (x k : ℕ) (is : List ℕ) (missing : node_in found x is ≡ None) where
  abbrev with_one : List Entry
  with_one = entry x is k ∷ found

  one_there : node_in with_one x is ≡ Some k
  one_there = ap (λ t. if t then Some k else node_in found x is) (both_true (nat_eq x x) (bytes_eq is is) (eq-eqb x x refl) ((bytes_eq-Decides is is).1 refl))

  extends_one : Extends found with_one
  extends_one y j js h = at (nat_eq y x && bytes_eq js is) refl
    where
      at : (t : Bool) → (nat_eq y x && bytes_eq js is) ≡ t → (if t then Some k else node_in found y js) ≡ Some j
      at false e = h
      at true e =
          let same_x : y ≡ x = eqb-true y x (first_true (nat_eq y x) (bytes_eq js is) e) in
          let same_is : js ≡ is = (bytes_eq-Decides js is).0 (second_true (nat_eq y x) (bytes_eq js is) e) in
          let there : node_in found x is ≡ Some j = subst (λ z. node_in found z is ≡ Some j) same_x (subst (λ zs. node_in found y zs ≡ Some j) same_is h) in
          (let none : None ≡ Some j = sym missing ∙ there in cc)

le_or : (a v : ℕ) → (v < a) ⊎ (a ≤ v)
le_or zero v = inr (omega arith)
le_or (suc a) zero = inl (omega arith)
le_or (suc a) (suc v) = ⊎_elim (λ l. inl (omega (arith, l))) (λ l. inr (omega (arith, l))) (le_or a v)

module _ (q : PlainProcs) (fit : AllFit q) (types : List Ty) (S : System) (same_source : S.world.source ≡ source_of q) (same_insts : S.insts ≡ insts_of q) (found : List Entry) (are : AreMerged q types found) where
  abbrev T : ℕ → TypeTerm
  T = type_in types

  abbrev top : ℕ
  top = length types

  fits : FitsInsts S.insts
  fits = subst FitsInsts (sym same_insts) fit.program.insts_are.insts

  abbrev insts_at : List Insts → ℕ → List ℕ
  insts_at es v = map (λ (e : Insts). e v) es

  abbrev Bound : Insts → Insts → ℕ → Type 0
  Bound b c v = (is_bound (b v) || is_bound (c v)) ≡ true

  abbrev Even : List ℕ → ℕ → Type 0
  Even is v = (AllFree S.insts is ⊎ NoneIs free S.insts is) × EachIsTidy S.world.source S.insts is (T v)

  none_are : (is : List ℕ) → AllFree S.insts is → AllAre false is
  none_are [] h = tt
  none_are (i ∷ is) h = (at (is_bound i) refl, none_are is h.1)
    where
      at : (t : Bool) → is_bound i ≡ t → t ≡ false
      at false e = refl
      at true e = absurd (not-free S.insts fits i (is-set i e) h.0)

  each_are : (is : List ℕ) → NoneIs free S.insts is → AllAre true is
  each_are [] h = tt
  each_are (i ∷ is) h = (at (is_bound i) refl, each_are is h.1)
    where
      at : (t : Bool) → is_bound i ≡ t → t ≡ true
      at true e = refl
      at false e = absurd (h.0 (ap S.insts (is-unset i e) ∙ fits.is_free))

  stood : (is : List ℕ) (k v : ℕ) → Even is v → node_in found v is ≡ Some k → Merged S.world.source S.insts is k (T v)
  stood is k v h e =
      let P = source_of q in
      let G = insts_of q in
      let tidy : EachIsTidy P G is (T v) = subst (λ p. EachIsTidy p G is (T v)) same_source (subst (λ g. EachIsTidy S.world.source g is (T v)) same_insts h.1) in
      let merged : Merged P G is k (T v) = ⊎_elim (λ f. (stood-merged P q.insts fit.program.insts_are.insts is k (T v) false (are v k is e) (none_are is f) tidy).0) (λ f. (stood-merged P q.insts fit.program.insts_are.insts is k (T v) true (are v k is e) (each_are is f) tidy).0) h.0 in
      subst (λ g. Merged S.world.source g is k (T v)) (sym same_insts) (subst (λ p. Merged p G is k (T v)) (sym same_source) merged)

  module _ (b c e : Insts) (es : List Insts) (even : (v : ℕ) → Bound b c v → (v < top) × (AllFree S.insts (insts_at (e ∷ es) v) ⊎ NoneIs free S.insts (insts_at (e ∷ es) v)) × EachIsTidy S.world.source S.insts (insts_at (e ∷ es) v) (T v))
      (told : (M : List Entry) → Extends found M → changes_of found b c (e ∷ es) top ≡ changes_of M b c (e ∷ es) top) where
    abbrev rest : ℕ → List ℕ
    rest v = insts_at es v

    -- the inst that a variable that is bound gets
    value : (N : List Entry) (v : ℕ) → Bound b c v → change_at v (changes_of N b c (e ∷ es) top) (b v) ≡ inst_merged N v (e v ∷ rest v)
    value N v q = value_of N b c (e ∷ es) top v (even v q).0 ∙ ap (λ t. if t then inst_merged N v (e v ∷ rest v) else b v) q

    differing : (N : List Entry) (v : ℕ) → all_are (e v) (e v ∷ rest v) ≡ false → inst_merged N v (e v ∷ rest v) ≡ or_none (node_in N v (e v ∷ rest v))
    differing N v d = ap (λ t. if t then e v else or_none (node_in N v (e v ∷ rest v))) d

    was_found : (v : ℕ) → Bound b c v → all_are (e v) (e v ∷ rest v) ≡ false → (k : ℕ) × (node_in found v (e v ∷ rest v) ≡ Some k)
    was_found v q d = at (node_in found v (e v ∷ rest v)) refl
      where
        at : (o : Option ℕ) → node_in found v (e v ∷ rest v) ≡ o → (k : ℕ) × (node_in found v (e v ∷ rest v) ≡ Some k)
        at (Some k) f = (k, f)
        at None f =
            let M : List Entry = with_one found v (suc (b v)) (e v ∷ rest v) f in
            let zero_here : inst_merged found v (e v ∷ rest v) ≡ 0 = differing found v d ∙ ap or_none f in
            let more_there : inst_merged M v (e v ∷ rest v) ≡ suc (b v) = differing M v d ∙ ap or_none (one_there found v (suc (b v)) (e v ∷ rest v) f) in
            let same : 0 ≡ suc (b v) = sym zero_here ∙ (sym (value found v q) ∙ (ap (λ cs. change_at v cs (b v)) (told M (extends_one found v (suc (b v)) (e v ∷ rest v) f)) ∙ (value M v q ∙ more_there))) in
            absurd (omega (arith, same))

    merged_value : (v : ℕ) → Bound b c v → Merged S.world.source S.insts (e v ∷ rest v) (inst_merged found v (e v ∷ rest v)) (T v)
    merged_value v q = at (all_are (e v) (e v ∷ rest v)) refl
      where
        at : (t : Bool) → all_are (e v) (e v ∷ rest v) ≡ t → Merged S.world.source S.insts (e v ∷ rest v) (inst_merged found v (e v ∷ rest v)) (T v)
        at true d =
            subst (λ i. Merged S.world.source S.insts (e v ∷ rest v) i (T v)) (sym (ap (λ t. if t then e v else or_none (node_in found v (e v ∷ rest v))) d))
            (merged-one S T (e v) (e v) (rest v) (T v) (each_one S T (e v) (e v ∷ rest v) d))
        at false d =
            let f = was_found v q d in
            subst (λ i. Merged S.world.source S.insts (e v ∷ rest v) i (T v)) (sym (differing found v d ∙ ap or_none f.1)) (stood (e v ∷ rest v) f.0 v ((even v q).1, (even v q).2) f.1)

    one_value : (v i : ℕ) → EachGives v i (e ∷ es) → inst_merged found v (e v ∷ rest v) ≡ i
    one_value v i g =
        ap (λ t. if t then e v else or_none (node_in found v (e v ∷ rest v))) (subst (λ j. all_are j (e v ∷ rest v) ≡ true) (sym g.0) (all_one v i (e ∷ es) g)) ∙ g.0

    unbound_value : (v : ℕ) → (is_bound (b v) || is_bound (c v)) ≡ false → change_at v (changes_of found b c (e ∷ es) top) (b v) ≡ 0
    unbound_value v q = at (le_or top v)
      where
        zero_b : b v ≡ 0
        zero_b = is-unset (b v) (or-first (is_bound (b v)) (is_bound (c v)) q)

        at : (v < top) ⊎ (top ≤ v) → change_at v (changes_of found b c (e ∷ es) top) (b v) ≡ 0
        at (inl l) = value_of found b c (e ∷ es) top v l ∙ (ap (λ t. if t then inst_merged found v (e v ∷ rest v) else b v) q ∙ zero_b)
        at (inr l) = value_past found b c (e ∷ es) top v l ∙ zero_b

    some_merge : ChangesMerge S T b c (e ∷ es) (changes_of found b c (e ∷ es) top)
    some_merge = (
      changes_rise found b c (e ∷ es) top,
      changes_change found b c (e ∷ es) top,
      (λ v q. subst (λ i. Merged S.world.source S.insts (e v ∷ rest v) i (T v)) (sym (value found v q)) (merged_value v q)),
      (λ v i q g. value found v q ∙ one_value v i g),
      unbound_value,
    )

  abbrev keep : (before after : Insts) → Kept
  keep = kept_by S T found top

  group_merges : (b c : Insts) (ds : List Disjunct) → even_group S T top b c ds → ((M : List Entry) → Extends found M → keep b c ds ≡ kept_by S T M top b c ds) → merges_group S T keep b c ds
  group_merges b c ds even told = at (ends S T b (goals_of ds)) even told
    where
      at : (es : List Insts) → ((v : ℕ) → Bound b c v → (v < top) × (AllFree S.insts (insts_at es v) ⊎ NoneIs free S.insts (insts_at es v)) × EachIsTidy S.world.source S.insts (insts_at es v) (T v)) →
          ((M : List Entry) → Extends found M → merged_changes found top b c es ≡ merged_changes M top b c es) → ChangesMerge S T b c es (merged_changes found top b c es)
      at [] even told = refl
      at (e ∷ es) even told = some_merge b c e es even told

  abbrev Facts : Type 0
  Facts = Unit {0} ⊎ ((M : List Entry) × Extends found M)

  abbrev Fact : Facts → OfGroup
  Fact (inl u) = even_group S T top
  Fact (inr m) = λ b c ds. keep b c ds ≡ kept_by S T m.0 top b c ds

pub forms_merge : FormsMerge
forms_merge q p body S fit suits same_insts form order =
    let T : ℕ → TypeTerm = type_in p.var_types in
    let top : ℕ = length p.var_types in
    let b : Insts = entered p.head p.first in
    let x : Node = plain_node p.body in
    let found : List Entry = form.found in
    let kept : (before after : Insts) → Kept = kept_by S T found top in
    let is : (M : List Entry) → Extends found M → plain_node body ≡ formed S T (kept_by S T M top) b x = λ M ext. form.form S M suits ext in
    let itself : Extends found found = λ y k js e. e in
    let fits : FitsInsts S.insts = subst FitsInsts (sym same_insts) fit.program.insts_are.insts in
    let groups : OfEachGroup S T kept (merges_group S T kept) b x =
    node_gathers (Facts q fit p.var_types S suits.source same_insts found form.merged) S T kept (Fact q fit p.var_types S suits.source same_insts found form.merged) (merges_group S T kept)
    (λ b c ds h. group_merges q fit p.var_types S suits.source same_insts found form.merged b c ds (h (inl tt)) (λ M ext. h (inr (M, ext)))) b x
    (λ a. facts q p body S fit suits same_insts form order a) in
    (kept, is found itself, kept_merge_arms S T kept b x (orders_have_no_switch S T order.outside order.first b order.goal x order.after order.next order.order) groups)
  where
    facts : (q : PlainProcs) (p : Proc) (body : GoalNode) (S : System) (fit : AllFit q) (suits : Suits q S) (same_insts : S.insts ≡ insts_of q) (form : IsForm q p body) (order : IsTidyOrder S p) →
        (a : Facts q fit p.var_types S suits.source same_insts form.found form.merged) →
        OfEachGroup S (type_in p.var_types) (kept_by S (type_in p.var_types) form.found (length p.var_types)) (Fact q fit p.var_types S suits.source same_insts form.found form.merged a) (entered p.head p.first) (plain_node p.body)
    facts q p body S fit suits same_insts form order (inl u) =
        groups_are_even S (type_in p.var_types) (kept_by S (type_in p.var_types) form.found (length p.var_types)) order.outside order.first (entered p.head p.first) order.goal (plain_node p.body) order.after order.next (length p.var_types)
        (subst FitsInsts (sym same_insts) fit.program.insts_are.insts) order.order order.typed order.below order.free order.bound order.changes order.enters
    facts q p body S fit suits same_insts form order (inr m) =
        forms_tell_kept S (type_in p.var_types) (kept_by S (type_in p.var_types) form.found (length p.var_types)) (kept_by S (type_in p.var_types) m.0 (length p.var_types)) (entered p.head p.first) (plain_node p.body)
        (sym (form.form S form.found suits (λ y k js e. e)) ∙ form.form S m.0 suits m.1)
