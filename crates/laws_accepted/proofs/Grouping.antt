-- A disjunction and the switch that is made of its disjuncts run alike.
use Rattle.std.proofs.Common.{◌≡◌, ℕ, zero, suc, List, [], ◌∷◌, Option, Some, None, Bool, true, false, if◌then◌else◌, not, ◌&&◌, ◌||◌, refl, sym, ap, ◌∙◌, subst}
use Rattle.std.specs.List.{list_any, list_all}
use Rattle.std.specs.Option.{option_or}
use Rattle.std.proofs.lemmas.Bool.{and_parts}
use Rattle.mc_program.specs.Values.{Val}
use Rattle.mc_program.specs.Programs.{TypeTerm}
use Rattle.mc_model.specs.EventList.{Items, End, Stuck, Stopped, Answer, Called, Wrote, Read, append, Each}
use Rattle.mc_model.specs.Outcomes.{Outcome}
use Rattle.mc_model.specs.Scheduled.{Label, Node, Scheduled}
use Rattle.mc_model.specs.Stream.{Bindings, Calls, is_bound, stream, stream_of, stream_any, stream_arms}
use Rattle.mc_model.specs.Good.{System}
use Rattle.mc_accepted.specs.Ordered.{Insts}
use Rattle.mc_accepted.specs.Determined.{allowed_in}
use Rattle.mc_accepted.specs.Least.{least, lesser}
use Rattle.mc_model.specs.Lists.{is_in}
use Rattle.mc_accepted.specs.Switched.{Disjunct, openings, goals_of, Kept, chosen, labels_of, and_label, those, opens_with, is_label, same_label, label_in, is_told, is_opened, covers, opened_variables, arm_of, arms_on, on_chosen, grouped}
use Rattle.mc_program.specs.declared.builtin.Builtin.{Builtin}
use Rattle.laws_accepted.specs.SwitchLaws.{Told, NoneStuck, IsThere, ArmBound, ArmsBound, ChosenBound, SwitchesBound, SwitchesKeepLists}
use Rattle.laws_accepted.proofs.Quiet.{matches, silent_end, wrong}
use Rattle.laws_accepted.proofs.Labels.{label_same, fits_alone, Lone, lone_first, none_before}

append_end : (xs : Items Bindings) → append xs End ≡ xs
append_end End = refl
append_end Stuck = refl
append_end (Stopped w) = refl
append_end (Answer a xs) = ap (Answer a) (append_end xs)
append_end (Called c xs) = ap (Called c) (append_end xs)
append_end (Wrote t xs) = ap (Wrote t) (append_end xs)
append_end (Read k xs) = ap (Read k) (append_end xs)

-- what holds of the least that passes a test, and of what a test of a list's elements tells
pub least_passes : (f : ℕ → Bool) (xs : List ℕ) (x : ℕ) → least f xs ≡ Some x → f x ≡ true
least_passes f [] x q = cc
least_passes f (y ∷ ys) x q = by_test (f y) refl (λ z r. least_passes f ys z r) q
  where
    by_least : (o : Option ℕ) → f y ≡ true → ((z : ℕ) → o ≡ Some z → f z ≡ true) → Some (lesser y o) ≡ Some x → f x ≡ true
    by_least None t again q = let r : y ≡ x = cc in subst (λ z. f z ≡ true) r t
    by_least (Some z) t again q = by_less _ t (again z refl) q
      where
        by_less : (u : Bool) → f y ≡ true → f z ≡ true → Some (if u then z else y) ≡ Some x → f x ≡ true
        by_less true t r q = let s : z ≡ x = cc in subst (λ w. f w ≡ true) s r
        by_less false t r q = let s : y ≡ x = cc in subst (λ w. f w ≡ true) s t

    by_test : (t : Bool) → f y ≡ t → ((z : ℕ) → least f ys ≡ Some z → f z ≡ true) → (if t then Some (lesser y (least f ys)) else least f ys) ≡ Some x → f x ≡ true
    by_test true t again q = by_least (least f ys) t again q
    by_test false t again q = again x q

module _ (outcome : Builtin → List Val → Outcome) (C : Calls) (h : ℕ) (e : Bindings) where
  abbrev run : Disjunct → Items Bindings
  run d = stream outcome C h d.goal e

  abbrev runs : List Disjunct → Items Bindings
  runs ds = stream_any outcome C h (goals_of ds) e

  abbrev EachIs : (Disjunct → Type 0) → List Disjunct → Type 0
  EachIs P [] = Unit {0}
  EachIs P (d ∷ ds) = P d × EachIs P ds

  each_map : (P Q : Disjunct → Type 0) → ((d : Disjunct) → P d → Q d) → (ds : List Disjunct) → EachIs P ds → EachIs Q ds
  each_map P Q f [] h = tt
  each_map P Q f (d ∷ ds) h = (f d h.0, each_map P Q f ds h.1)

  -- disjuncts without any event may be left out
  kept : (f : Disjunct → Bool) (ds : List Disjunct) → EachIs (λ d. f d ≡ false → run d ≡ End) ds → runs (those f ds) ≡ runs ds
  kept f [] s = refl
  kept f (d ∷ ds) s = by_test (f d) refl (kept f ds s.1)
    where
      by_test : (t : Bool) → f d ≡ t → runs (those f ds) ≡ runs ds → runs (if t then d ∷ those f ds else those f ds) ≡ append (run d) (runs ds)
      by_test true q r = ap (append (run d)) r
      by_test false q r = r ∙ ap (λ xs. append xs (runs ds)) (sym (s.0 q))

  nothing : (f : Disjunct → Bool) (ds : List Disjunct) → EachIs (λ d. f d ≡ true → run d ≡ End) ds → runs (those f ds) ≡ End
  nothing f [] s = refl
  nothing f (d ∷ ds) s = by_test (f d) refl (nothing f ds s.1)
    where
      by_test : (t : Bool) → f d ≡ t → runs (those f ds) ≡ End → runs (if t then d ∷ those f ds else those f ds) ≡ End
      by_test true q r = ap (λ xs. append xs (runs (those f ds))) (s.0 q) ∙ r
      by_test false q r = r

  those_keep : (P : Disjunct → Type 0) (f : Disjunct → Bool) (ds : List Disjunct) → EachIs P ds → EachIs P (those f ds)
  those_keep P f [] s = tt
  those_keep P f (d ∷ ds) s = by_test (f d) (those_keep P f ds s.1)
    where
      by_test : (t : Bool) → EachIs P (those f ds) → EachIs P (if t then d ∷ those f ds else those f ds)
      by_test true r = (s.0, r)
      by_test false r = r

  -- what is asked of each disjunct: its openings are told, and its list isn't stuck
  abbrev Fair : Disjunct → Type 0
  Fair d = (d.opens ≡ openings d.goal) × Each (λ a. Unit {0}) (run d)

  fair : (ds : List Disjunct) → Told ds → NoneStuck outcome C h e ds → EachIs Fair ds
  fair [] t n = tt
  fair (d ∷ ds) t n = ((t.0, n.0), fair ds t.1 n.1)

  module _ (x : ℕ) (v : Val) (bound : e x ≡ Some v) where
    -- a disjunct has a label, and where the value isn't of it the disjunct has no events
    abbrev Fitting : Disjunct → Type 0
    Fitting d = (l : Label) × (label_in x d.opens ≡ Some l) × (matches v l ≡ false → run d ≡ End)

    told : (o : Option Label) → is_told o ≡ true → (l : Label) × (o ≡ Some l)
    told None q = cc
    told (Some l) q = (l, refl)

    fitting_one : (d : Disjunct) → is_told (label_in x d.opens) ≡ true → Fair d → Fitting d
    fitting_one d q f =
        let t = told (label_in x d.opens) q in
        let u : label_in x (openings d.goal) ≡ Some t.0 = subst (λ os. label_in x os ≡ Some t.0) f.0 t.1 in
        (t.0, t.1, λ m. silent_end (run d) (wrong outcome C h x v d.goal e t.0 u m bound) f.1)

    fitting : (ds : List Disjunct) → list_all (λ (d : Disjunct). is_told (label_in x d.opens)) ds ≡ true → EachIs Fair ds → EachIs Fitting ds
    fitting [] q f = tt
    fitting (d ∷ ds) q f =
        let p = and_parts (is_told (label_in x d.opens)) (list_all (λ (d : Disjunct). is_told (label_in x d.opens)) ds) q in
        (fitting_one d p.0 f.0, fitting ds p.1 f.1)

    not_of : (l : Label) → matches v l ≡ true → (d : Disjunct) → Fitting d → opens_with x l d ≡ false → run d ≡ End
    not_of l m d f q =
        let r : same_label l f.0 ≡ false = subst (λ o. is_label l o ≡ false) f.1 q in
        f.2 (fits_alone v l f.0 m ∙ r)

    is_of : (l : Label) → matches v l ≡ false → (d : Disjunct) → Fitting d → opens_with x l d ≡ true → run d ≡ End
    is_of l m d f q =
        let r : same_label l f.0 ≡ true = subst (λ o. is_label l o ≡ true) f.1 q in
        f.2 (subst (λ k. matches v k ≡ false) (label_same l f.0 r) m)

    lone_labels : (ds : List Disjunct) → Lone v (labels_of x ds)
    lone_labels [] = tt
    lone_labels (d ∷ ds) = by_label (label_in x d.opens) (lone_labels ds)
      where
        by_label : (o : Option Label) → Lone v (labels_of x ds) → Lone v (and_label o (labels_of x ds))
        by_label None r = r
        by_label (Some l) r = lone_first v l (labels_of x ds) r

    -- where no label fits, no disjunct has any event
    none_fits : (ds : List Disjunct) → EachIs Fitting ds → list_any (matches v) (labels_of x ds) ≡ false → runs ds ≡ End
    none_fits [] f q = refl
    none_fits (d ∷ ds) f q =
        let r : list_any (matches v) (and_label (Some f.0.0) (labels_of x ds)) ≡ false = subst (λ o. list_any (matches v) (and_label o (labels_of x ds)) ≡ false) f.0.1 q in
        let p = none_before v f.0.0 (labels_of x ds) r in
        ap (λ xs. append xs (runs ds)) (f.0.2 p.0) ∙ none_fits ds f.1 p.1

    module _ (arm : List Disjunct → Node) (ds : List Disjunct) (fits : EachIs Fitting ds) where
      -- what is asked of the arms: each runs as its disjuncts
      abbrev ArmsRun : List Label → Type 0
      ArmsRun [] = Unit {0}
      ArmsRun (l ∷ ls) = (stream outcome C h (arm (those (opens_with x l) ds)) e ≡ runs (those (opens_with x l) ds)) × ArmsRun ls

      arms_run : (ls : List Label) → Lone v ls → ArmsRun ls → stream_arms outcome C h (arms_on arm x ds ls) e ≡ (if list_any (matches v) ls then runs ds else End)
      arms_run [] l a = refl
      arms_run (l ∷ ls) n a = by_fit (matches v l) refl (arms_run ls n.1 a.1)
        where
          by_fit : (t : Bool) → matches v l ≡ t → stream_arms outcome C h (arms_on arm x ds ls) e ≡ (if list_any (matches v) ls then runs ds else End) → append (stream outcome C h (arm (those (opens_with x l) ds)) e) (stream_arms outcome C h (arms_on arm x ds ls) e) ≡ (if t || list_any (matches v) ls then runs ds else End)
          by_fit true m r =
              let here : stream outcome C h (arm (those (opens_with x l) ds)) e ≡ runs ds =
              a.0 ∙ kept (opens_with x l) ds (each_map Fitting (λ d. opens_with x l d ≡ false → run d ≡ End) (λ d f. not_of l m d f) ds fits) in
              let there : stream_arms outcome C h (arms_on arm x ds ls) e ≡ End = r ∙ ap (λ t. (if t then runs ds else End)) (n.0 m) in
              ap (λ xs. append xs (stream_arms outcome C h (arms_on arm x ds ls) e)) here ∙ (ap (append (runs ds)) there ∙ append_end (runs ds))
          by_fit false m r =
              let here : stream outcome C h (arm (those (opens_with x l) ds)) e ≡ End =
              a.0 ∙ nothing (opens_with x l) ds (each_map Fitting (λ d. opens_with x l d ≡ true → run d ≡ End) (λ d f. is_of l m d f) ds fits) in
              ap (λ xs. append xs (stream_arms outcome C h (arms_on arm x ds ls) e)) here ∙ r

      switch_runs : ArmsRun (labels_of x ds) → stream_arms outcome C h (arms_on arm x ds (labels_of x ds)) e ≡ runs ds
      switch_runs a = by_any (list_any (matches v) (labels_of x ds)) refl (arms_run (labels_of x ds) (lone_labels ds) a)
        where
          by_any : (t : Bool) → list_any (matches v) (labels_of x ds) ≡ t → stream_arms outcome C h (arms_on arm x ds (labels_of x ds)) e ≡ (if t then runs ds else End) → stream_arms outcome C h (arms_on arm x ds (labels_of x ds)) e ≡ runs ds
          by_any true q r = r
          by_any false q r = r ∙ sym (none_fits ds fits q)

  there : (o : Option Val) → IsThere o → (v : Val) × (o ≡ Some v)
  there None i = absurd i
  there (Some v) i = (v, refl)

  module _ (S : System) (T : ℕ → TypeTerm) (b : Insts) where
    -- the variable that is chosen is opened by each disjunct
    pub chosen_opens : (out : List ℕ) (ds : List Disjunct) (x : ℕ) → chosen S T out b ds ≡ Some x → list_all (λ (d : Disjunct). is_told (label_in x d.opens)) ds ≡ true
    chosen_opens out ds x q = by_first (least (λ y. is_opened S T out b ds y && covers S T (allowed_in S T (T y) (b y)) (labels_of y ds)) (opened_variables ds)) refl q
      where
        opens : is_opened S T out b ds x ≡ true → list_all (λ (d : Disjunct). is_told (label_in x d.opens)) ds ≡ true
        opens r =
            let p = and_parts (is_bound (b x)) (not (is_in x out) && list_all (λ (d : Disjunct). is_told (label_in x d.opens)) ds) r in
            let s = and_parts (not (is_in x out)) (list_all (λ (d : Disjunct). is_told (label_in x d.opens)) ds) p.1 in
            s.1

        by_first : (o : Option ℕ) → least (λ y. is_opened S T out b ds y && covers S T (allowed_in S T (T y) (b y)) (labels_of y ds)) (opened_variables ds) ≡ o → option_or o (least (is_opened S T out b ds) (opened_variables ds)) ≡ Some x → list_all (λ (d : Disjunct). is_told (label_in x d.opens)) ds ≡ true
        by_first None p r = opens (least_passes (is_opened S T out b ds) (opened_variables ds) x r)
        by_first (Some y) p r =
            let s : y ≡ x = cc in
            let t = least_passes (λ z. is_opened S T out b ds z && covers S T (allowed_in S T (T z) (b z)) (labels_of z ds)) (opened_variables ds) x (p ∙ r) in
            opens (and_parts (is_opened S T out b ds x) (covers S T (allowed_in S T (T x) (b x)) (labels_of x ds)) t).0

    -- an arm of one disjunct is that disjunct, and others run as their disjuncts where they do when
    -- they are looked at again
    abbrev Runs : (List Disjunct → Scheduled) → (List Disjunct → Type 0) → Type 0
    Runs again Bound =
        (ds : List Disjunct) → EachIs Fair ds → Bound ds → stream_of outcome C h (again ds) e ≡ runs ds

    arm_runs : (keep : Kept) (again : List Disjunct → Scheduled) (Bound : List Disjunct → Type 0) → Runs again Bound → (ds : List Disjunct) → EachIs Fair ds → ArmBound S T b e Bound ds → stream outcome C h (arm_of keep again ds) e ≡ runs ds
    arm_runs keep again Bound r [] f i = r [] f i
    arm_runs keep again Bound r (d ∷ []) f i = sym (append_end (run d))
    arm_runs keep again Bound r (d ∷ c ∷ ds) f i = r (d ∷ c ∷ ds) f i

    module _ (keep : Kept) (again : List Disjunct → Scheduled) (Bound : List Disjunct → Type 0) (r : Runs again Bound) (ds : List Disjunct) (f : EachIs Fair ds) (x : ℕ) (v : Val) (bound : e x ≡ Some v) (fits : EachIs (Fitting x v bound) ds) where
      all_run : (ls : List Label) → ArmsBound S T b e Bound x ds ls → ArmsRun x v bound (arm_of keep again) ds fits ls
      all_run [] i = tt
      all_run (l ∷ ls) i = (arm_runs keep again Bound r (those (opens_with x l) ds) (those_keep Fair (opens_with x l) ds f) i.0, all_run ls i.1)

    module _ (keep : Kept) where
      grouped_runs : (k : ℕ) (out : List ℕ) → Runs (grouped S T keep k b out) (SwitchesBound S T b e k out)
      grouped_runs zero out ds f i = refl
      grouped_runs (suc k) out ds f i = by_chosen (chosen S T out b ds) refl (λ o. grouped_runs k o) i
        where
          by_chosen : (o : Option ℕ) → chosen S T out b ds ≡ o → ((out : List ℕ) → Runs (grouped S T keep k b out) (SwitchesBound S T b e k out)) → ChosenBound S T b e (SwitchesBound S T b e k) out ds o → stream_of outcome C h (on_chosen (λ out. arm_of keep (grouped S T keep k b out)) out ds o) e ≡ runs ds
          by_chosen None q again i = refl
          by_chosen (Some x) q again i =
              let v = there (e x) i.0 in
              let fits = fitting x v.0 v.1 ds (chosen_opens out ds x q) f in
              switch_runs x v.0 v.1 (arm_of keep (grouped S T keep k b (x ∷ out))) ds fits
              (all_run keep (grouped S T keep k b (x ∷ out)) (SwitchesBound S T b e k (x ∷ out)) (again (x ∷ out)) ds f x v.0 v.1 fits (labels_of x ds) i.1)

pub switches_keep_lists : SwitchesKeepLists
switches_keep_lists outcome C h e S T keep b k out ds t i n =
    grouped_runs outcome C h e S T b keep k out ds (fair outcome C h e ds t n) i
