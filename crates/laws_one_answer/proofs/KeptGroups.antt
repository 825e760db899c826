-- What is kept of the groups of a body, by what was found for it.
use Rattle.std.proofs.Common.{◌≡◌, ◌⊎◌, inl, inr, ℕ, zero, suc, ◌<◌, ◌≤◌, List, [], ◌∷◌, length, Option, Some, None, Bool, true, false, nat_eq, ◌&&◌, ◌||◌, if◌then◌else◌, refl, sym, ap, ◌∙◌, subst, ⊎_elim, arith}
use Rattle.std.specs.Str.{bytes_eq}
use Rattle.std.proofs.lemmas.Bool.{eqb-true, eq-eqb, and_parts, and_from}
use Rattle.std.proofs.lemmas.Slice.Eq.{bytes_eq-Decides}
use Rattle.mc_program.specs.Programs.{TypeTerm, Source}
use Rattle.mc_program.specs.declared.ty.Ty.{Ty}
use Rattle.mc_model.specs.Insts.{free, Graph}
use Rattle.mc_model.specs.Good.{System}
use Rattle.mc_model.specs.PlainGoals.{plain_node}
use Rattle.mc_model.specs.Stream.{is_bound}
use Rattle.mc_model.specs.declared.sched.GoalNode.{GoalNode}
use Rattle.mc_model.specs.declared.sched.Proc.{Proc}
use Rattle.mc_accepted.specs.Accepted.{entered}
use Rattle.mc_accepted.specs.Fits.{FitsInsts}
use Rattle.mc_accepted.specs.Inclusion.{AllFree, NoneIs}
use Rattle.mc_accepted.specs.MergedArms.{ends}
use Rattle.mc_accepted.specs.Ordered.{Insts, change_at}
use Rattle.mc_accepted.specs.Switched.{Disjunct, Kept, goals_of, formed}
use Rattle.mc_accepted.specs.Tidy.{EachIsTidy}
use Rattle.mc_insts.specs.Graphs.{count_of}
use Rattle.mc_procs.specs.Fitting.{AllFit}
use Rattle.mc_procs.specs.Procedures.{PlainProcs, source_of, insts_of}
use Rattle.mc_procs.specs.VariableTypes.{type_in}
use Rattle.mc_mode_state.specs.Tables.{Entry, entry, node_in}
use Rattle.laws_accepted.specs.KeptLaws.{OfGroup, OfEachGroup, even_group}
use Rattle.laws_accepted.proofs.EvenGroups.{groups_are_even}
use Rattle.laws_accepted.proofs.KeptGathered.{node_gathers}
use Rattle.laws_accepted.proofs.KeptTold.{forms_tell_kept}
use Rattle.mc_switch.specs.Kept.{all_are, or_none, inst_merged, changes_of, merged_changes, kept_by, Extends, AreMerged, Suits}
use Rattle.mc_switch.specs.SwitchedBodies.{IsForm}
use Rattle.laws_procedures.specs.FormsMerge.{IsTidyOrder}
use Rattle.laws_procedures.proofs.Changes.{value_of, value_past}
use Rattle.laws_one_answer.proofs.FoundNodes.{stood-joined}
use Rattle.laws_one_answer.proofs.KeptNodes.{one_joined, at_ends, GetsJoined, KeptOf}

-- ---- one more entry
module _ (found : List Entry) (x k : ℕ) (is : List ℕ) (missing : node_in found x is ≡ None) where
  abbrev with_one : List Entry
  with_one = entry x is k ∷ found

  one_there : node_in with_one x is ≡ Some k
  one_there = ap (λ t. if t then Some k else node_in found x is) (and_from (nat_eq x x) (bytes_eq is is) (eq-eqb x x refl) ((bytes_eq-Decides is is).1 refl))

  extends_one : Extends found with_one
  extends_one y j js h = at (nat_eq y x && bytes_eq js is) refl
    where
      at : (t : Bool) → (nat_eq y x && bytes_eq js is) ≡ t → (if t then Some k else node_in found y js) ≡ Some j
      at false e = h
      at true e =
          let parts = and_parts (nat_eq y x) (bytes_eq js is) e in
          let same_x : y ≡ x = eqb-true y x parts.0 in
          let same_is : js ≡ is = (bytes_eq-Decides js is).0 parts.1 in
          let there : node_in found x is ≡ Some j = subst (λ z. node_in found z is ≡ Some j) same_x (subst (λ zs. node_in found y zs ≡ Some j) same_is h) in
          (let none : None ≡ Some j = sym missing ∙ there in cc)

less_or_not : (a v : ℕ) → (v < a) ⊎ (a ≤ v)
less_or_not zero v = inr (omega arith)
less_or_not (suc a) zero = inl (omega arith)
less_or_not (suc a) (suc v) = ⊎_elim (λ l. inl (omega (arith, l))) (λ l. inr (omega (arith, l))) (less_or_not a v)

module _ (q : PlainProcs) (fit : AllFit q) (types : List Ty) (found : List Entry) (are : AreMerged q types found) where
  abbrev P : Source
  P = source_of q

  abbrev G : Graph
  G = insts_of q

  abbrev T : ℕ → TypeTerm
  T = type_in types

  abbrev top : ℕ
  top = length types

  abbrev bound_at : Insts → Insts → ℕ → Bool
  bound_at b c v = is_bound (b v) || is_bound (c v)

  -- at the ends each variable that is bound is one of those that have types, is free at all or at none,
  -- and has tidy insts
  abbrev Evenly : Insts → Insts → List Insts → Type 0
  Evenly b c es =
      (v : ℕ) → bound_at b c v ≡ true
      → (v < top) × (AllFree G (at_ends v es) ⊎ NoneIs free G (at_ends v es)) × EachIsTidy P G (at_ends v es) (T v)

  module _ (b c e : Insts) (es : List Insts) (even : Evenly b c (e ∷ es)) (told : (M : List Entry) → Extends found M → changes_of found b c (e ∷ es) top ≡ changes_of M b c (e ∷ es) top) where
    abbrev rest : ℕ → List ℕ
    rest v = at_ends v es

    value : (N : List Entry) (v : ℕ) → bound_at b c v ≡ true → change_at v (changes_of N b c (e ∷ es) top) (b v) ≡ inst_merged N v (e v ∷ rest v)
    value N v h = value_of N b c (e ∷ es) top v (even v h).0 ∙ ap (λ t. if t then inst_merged N v (e v ∷ rest v) else b v) h

    differing : (N : List Entry) (v : ℕ) → all_are (e v) (e v ∷ rest v) ≡ false → inst_merged N v (e v ∷ rest v) ≡ or_none (node_in N v (e v ∷ rest v))
    differing N v d = ap (λ t. if t then e v else or_none (node_in N v (e v ∷ rest v))) d

    -- what isn't found makes no difference, so all that is asked for was found
    was_found : (v : ℕ) → bound_at b c v ≡ true → all_are (e v) (e v ∷ rest v) ≡ false → (k : ℕ) × (node_in found v (e v ∷ rest v) ≡ Some k)
    was_found v h d = at (node_in found v (e v ∷ rest v)) refl
      where
        at : (o : Option ℕ) → node_in found v (e v ∷ rest v) ≡ o → (k : ℕ) × (node_in found v (e v ∷ rest v) ≡ Some k)
        at (Some k) f = (k, f)
        at None f =
            let M : List Entry = with_one found v (suc (b v)) (e v ∷ rest v) f in
            let zero_here : inst_merged found v (e v ∷ rest v) ≡ 0 = differing found v d ∙ ap or_none f in
            let more_there : inst_merged M v (e v ∷ rest v) ≡ suc (b v) = differing M v d ∙ ap or_none (one_there found v (suc (b v)) (e v ∷ rest v) f) in
            let same : 0 ≡ suc (b v) = sym zero_here ∙ (sym (value found v h) ∙ (ap (λ cs. change_at v cs (b v)) (told M (extends_one found v (suc (b v)) (e v ∷ rest v) f)) ∙ (value M v h ∙ more_there))) in
            absurd (omega (arith, same))

    abbrev Gets : (v k : ℕ) → Type 0
    Gets v k = GetsJoined P (count_of q.insts) G T e es v k

    gets : (v : ℕ) → bound_at b c v ≡ true → Gets v (inst_merged found v (e v ∷ rest v))
    gets v h = at (all_are (e v) (e v ∷ rest v)) refl
      where
        of_one : all_are (e v) (e v ∷ rest v) ≡ true → Gets v (e v)
        of_one d = record { even = (even v h).1; joined = one_joined P G (e v) (T v) (rest v) d (even v h).2; there = λ lt. lt }

        of_found : (k : ℕ) → node_in found v (e v ∷ rest v) ≡ Some k → Gets v k
        of_found k f =
            let s = are v k (e v ∷ rest v) f in
            record {
              even = (even v h).1;
              joined = stood-joined P q.insts (e v) k (rest v) (T v) s (even v h).2;
              there = λ lt. let l = s.there in let m = s.grown.more in omega (arith, l, m);
            }

        at : (t : Bool) → all_are (e v) (e v ∷ rest v) ≡ t → Gets v (inst_merged found v (e v ∷ rest v))
        at true d = subst (Gets v) (sym (ap (λ t. if t then e v else or_none (node_in found v (e v ∷ rest v))) d)) (of_one d)
        at false d = (let f = was_found v h d in subst (Gets v) (sym (differing found v d ∙ ap or_none f.1)) (of_found f.0 f.1))

    keeps : (v : ℕ) → bound_at b c v ≡ false → change_at v (changes_of found b c (e ∷ es) top) (b v) ≡ b v
    keeps v h = at (less_or_not top v)
      where
        at : (v < top) ⊎ (top ≤ v) → change_at v (changes_of found b c (e ∷ es) top) (b v) ≡ b v
        at (inl l) = value_of found b c (e ∷ es) top v l ∙ ap (λ t. if t then inst_merged found v (e v ∷ rest v) else b v) h
        at (inr l) = value_past found b c (e ∷ es) top v l

    some_kept : KeptOf P (count_of q.insts) G T b c (e ∷ es) (changes_of found b c (e ∷ es) top)
    some_kept v = ((λ h. subst (Gets v) (sym (value found v h)) (gets v h)), keeps v)

  group_kept : (b c : Insts) (es : List Insts) → Evenly b c es → ((M : List Entry) → Extends found M → merged_changes found top b c es ≡ merged_changes M top b c es) →
      KeptOf P (count_of q.insts) G T b c es (merged_changes found top b c es)
  group_kept b c [] even told = refl
  group_kept b c (e ∷ es) even told = some_kept b c e es even told

-- ---- of the groups of a body
module _ (q : PlainProcs) (p : Proc) (body : GoalNode) (S : System) (fit : AllFit q) (suits : Suits q S) (same_insts : S.insts ≡ insts_of q) (form : IsForm q p body) (order : IsTidyOrder S p) where
  abbrev typing : ℕ → TypeTerm
  typing = type_in p.var_types

  abbrev here : Insts
  here = entered p.head p.first

  -- what is kept of its arms, by what was found
  abbrev pub kept_here : (before after : Insts) → Kept
  kept_here = kept_by S typing form.found (length p.var_types)

  -- what is kept of a group is what its ends are joined to
  abbrev pub KeptWell : OfGroup
  KeptWell b c ds = KeptOf S.world.source (count_of q.insts) S.insts typing b c (ends S typing b (goals_of ds)) (kept_here b c ds)

  abbrev Facts : Type 0
  Facts = Unit {0} ⊎ ((M : List Entry) × Extends form.found M)

  abbrev Fact : Facts → OfGroup
  Fact (inl u) = even_group S typing (length p.var_types)
  Fact (inr m) = λ b c ds. kept_here b c ds ≡ kept_by S typing m.0 (length p.var_types) b c ds

  fact : (a : Facts) → OfEachGroup S typing kept_here (Fact a) here (plain_node p.body)
  fact (inl u) =
      groups_are_even S typing kept_here order.outside order.first here order.goal (plain_node p.body) order.after order.next (length p.var_types)
      (subst FitsInsts (sym same_insts) fit.program.insts_are.insts) order.order order.typed order.below order.free order.bound order.changes order.enters
  fact (inr m) =
      forms_tell_kept S typing kept_here (kept_by S typing m.0 (length p.var_types)) here (plain_node p.body)
      (sym (form.form S form.found suits (λ y k js e. e)) ∙ form.form S m.0 suits m.1)

  well_kept : (b c : Insts) (ds : List Disjunct) → ((a : Facts) → Fact a b c ds) → KeptWell b c ds
  well_kept b c ds h =
      subst (λ (H : Graph). KeptOf S.world.source (count_of q.insts) H typing b c (ends S typing b (goals_of ds)) (kept_here b c ds)) (sym same_insts)
      (subst (λ (Q : Source). KeptOf Q (count_of q.insts) (insts_of q) typing b c (ends S typing b (goals_of ds)) (kept_here b c ds)) (sym suits.source)
      (group_kept q fit p.var_types form.found form.merged b c (ends S typing b (goals_of ds)) evenly (λ M ext. h (inr (M, ext)))))
    where
      evenly : Evenly q fit p.var_types form.found form.merged b c (ends S typing b (goals_of ds))
      evenly v e =
          let a = h (inl tt) v e in
          let is : List ℕ = at_ends v (ends S typing b (goals_of ds)) in (
            a.0,
            subst (λ (H : Graph). AllFree H is ⊎ NoneIs free H is) same_insts a.1,
            subst (λ (H : Graph). EachIsTidy (source_of q) H is (typing v)) same_insts (subst (λ (Q : Source). EachIsTidy Q S.insts is (typing v)) suits.source a.2),
          )

  pub groups_kept : OfEachGroup S typing kept_here KeptWell here (plain_node p.body)
  groups_kept = node_gathers Facts S typing kept_here Fact KeptWell well_kept here (plain_node p.body) fact

  pub form_here : plain_node body ≡ formed S typing kept_here here (plain_node p.body)
  form_here = form.form S form.found suits (λ y k js e. e)
