-- The variable on which disjuncts are switched, from what is kept of them.
use Rattle.std.proofs.Common.{◌≡◌, ℕ, suc, ◌<◌, ◌≤◌, List, [], ◌∷◌, length, map, drop, get_or, replicate, inl, inr, arith, Bool, true, false, not, nat_lt, ◌&&◌, if◌then◌else◌, Option, Some, None, refl, sym, ap, ap₂, ◌∙◌}
use Rattle.std.specs.List.{list_all}
use Rattle.std.specs.Option.{option_or}
use Rattle.std.proofs.Math.Seq.{drop-cons}
use Rattle.std.proofs.lemmas.List.{get_or-map, get_or_past, get_or-replicate, length-replicate}
use Rattle.std.proofs.lemmas.Bool.{cases_lt}
use Rattle.mc_program.specs.Values.{Val}
use Rattle.mc_program.specs.Programs.{TypeTerm, variable_type}
use Rattle.mc_program.specs.PlainPrograms.{plain_type}
use Rattle.mc_program.specs.declared.builtin.Builtin.{Builtin}
use Rattle.mc_program.specs.declared.ty.Ty.{Ty}
use Rattle.mc_model.specs.Good.{System}
use Rattle.mc_model.specs.Outcomes.{Outcome}
use Rattle.mc_model.specs.Stream.{is_bound}
use Rattle.mc_accepted.specs.Determined.{allowed_in}
use Rattle.mc_accepted.specs.Least.{lesser, least}
use Rattle.mc_accepted.specs.Switched as spec
use Rattle.mc_accepted.specs.Switched.{Disjunct, label_in, is_told, labels_of, covers, opened_variables, is_opened, misses_none, chosen}
use Rattle.mc_procs.specs.Procedures.{PlainProcs, as_system}
use Rattle.mc_procs.specs.VariableTypes.{type_in}
use Rattle.mc_switch.specs.declared.disjunct.Opened.{Opened}
use Rattle.mc_switch.specs.declared.opening.Opening.{Opening}
use Rattle.mc_switch.specs.Openings.{plain_openings}
use Rattle.mc_switch.specs.Types.{inst_in}
use Rattle.mc_insts.specs.Graphs.{count_of}
use Rattle.mc_switch.specs.Kept.{Suits}
use Rattle.mc_switch.proofs.Growing.{allowed_suits}
use Rattle.mc_switch.specs.code.Labels.{plain_opened, is_opened_by}
use Rattle.mc_switch.specs.code.Choices.{first_variables, may_be, those_that, Opens, Covers, MissesNone, MayBe, AreSame}

least_same : (f g : ℕ → Bool) → ((x : ℕ) → f x ≡ g x) → (xs : List ℕ) → least f xs ≡ least g xs
least_same f g e [] = refl
least_same f g e (x ∷ xs) = ap₂ (λ (b : Bool) (o : Option ℕ). if b then Some (lesser x o) else o) (e x) (least_same f g e xs)

least_of_both : (f g : ℕ → Bool) (xs : List ℕ) → least (λ x. f x && g x) xs ≡ least g (those_that f xs)
least_of_both f g [] = refl
least_of_both f g (x ∷ xs) = step (f x) (least_of_both f g xs)
  where
    step : (t : Bool) → least (λ z. f z && g z) xs ≡ least g (those_that f xs) → (if t && g x then Some (lesser x (least (λ z. f z && g z) xs)) else least (λ z. f z && g z) xs) ≡ least g (if t then x ∷ those_that f xs else those_that f xs)
    step true r = ap (λ (o : Option ℕ). if g x then Some (lesser x o) else o) r
    step false r = r

least_of_those : (f : ℕ → Bool) (xs : List ℕ) → least f xs ≡ least (λ _. true) (those_that f xs)
least_of_those f [] = refl
least_of_those f (x ∷ xs) = step (f x) (least_of_those f xs)
  where
    step : (t : Bool) → least f xs ≡ least (λ _. true) (those_that f xs) → (if t then Some (lesser x (least f xs)) else least f xs) ≡ least (λ _. true) (if t then x ∷ those_that f xs else those_that f xs)
    step true r = ap (λ (o : Option ℕ). Some (lesser x o)) r
    step false r = r

-- one more of a list, from its end
pub least_from : (f : ℕ → Bool) (xs : List ℕ) (k : ℕ) (o : Option ℕ) → k < length xs → o ≡ least f (drop (suc k) xs) → (if f (get_or xs k 0) then Some (lesser (get_or xs k 0) o) else o) ≡ least f (drop k xs)
least_from f xs k o lt e =
    ap (λ (p : Option ℕ). if f (get_or xs k 0) then Some (lesser (get_or xs k 0) p) else p) e
    ∙ ap (least f) (sym (drop-cons xs k 0 lt))

all_opened : (x : ℕ) (ds : List Disjunct) (os : List Opened) → Opens ds os → list_all (λ (d : Disjunct). is_told (label_in x d.opens)) ds ≡ list_all (is_opened_by x) os
all_opened x [] [] h = refl
all_opened x (d ∷ ds) [] h = absurd h
all_opened x [] (o ∷ os) h = absurd h
all_opened x (d ∷ ds) (o ∷ os) h = ap₂ (λ opens b. is_told (label_in x opens) && b) h.0 (all_opened x ds os h.1)

variables_in : (os : List Opening) → map (λ (o : spec.Opening). o.0) (plain_openings os) ≡ map (λ (o : Opening). o.variable) os
variables_in [] = refl
variables_in (o ∷ os) = ap (λ xs. o.variable ∷ xs) (variables_in os)

same_variables : (ds : List Disjunct) (os : List Opened) → Opens ds os → opened_variables ds ≡ first_variables os
same_variables [] [] h = refl
same_variables (d ∷ ds) [] h = absurd h
same_variables [] (o ∷ os) h = absurd h
same_variables (d ∷ ds) (o ∷ os) h = ap (map (λ (o : spec.Opening). o.0)) h.0 ∙ variables_in o.opens

module _ (S : System) (T : ℕ → TypeTerm) (insts out : List ℕ) (set : List Bool) (ds : List Disjunct) (os : List Opened) where
  abbrev b : ℕ → ℕ
  b = inst_in insts

  abbrev left : List ℕ
  left = those_that (may_be insts set os) (first_variables os)

  opened_is : AreSame out set → Opens ds os → (x : ℕ) → is_opened S T out b ds x ≡ may_be insts set os x
  opened_is same opens x = ap₂ (λ l a. is_bound (b x) && (not l && a)) (same x) (all_opened x ds os opens)

  least_covered : AreSame out set → Opens ds os → least (λ x. is_opened S T out b ds x && misses_none S T b ds x) (opened_variables ds) ≡ least (misses_none S T b ds) left
  least_covered same opens =
      least_same (λ x. is_opened S T out b ds x && misses_none S T b ds x) (λ x. may_be insts set os x && misses_none S T b ds x) (λ x. ap (λ t. t && misses_none S T b ds x) (opened_is same opens x)) (opened_variables ds)
      ∙ ap (least (λ x. may_be insts set os x && misses_none S T b ds x)) (same_variables ds os opens)
      ∙ least_of_both (may_be insts set os) (misses_none S T b ds) (first_variables os)

  least_opened : AreSame out set → Opens ds os → least (is_opened S T out b ds) (opened_variables ds) ≡ least (λ _. true) left
  least_opened same opens =
      least_same (is_opened S T out b ds) (may_be insts set os) (opened_is same opens) (opened_variables ds)
      ∙ ap (least (may_be insts set os)) (same_variables ds os opens)
      ∙ least_of_those (may_be insts set os) (first_variables os)

  abbrev second : Option ℕ
  second = least (is_opened S T out b ds) (opened_variables ds)

  pub chosen_covered : (x : ℕ) → AreSame out set → Opens ds os → Some x ≡ least (misses_none S T b ds) left → Some x ≡ chosen S T out b ds
  chosen_covered x same opens e = ap (λ (o : Option ℕ). option_or o second) (e ∙ sym (least_covered same opens))

  pub chosen_opened : (o : Option ℕ) → AreSame out set → Opens ds os → None ≡ least (misses_none S T b ds) left → o ≡ least (λ _. true) left → o ≡ chosen S T out b ds
  chosen_opened o same opens e h =
      h ∙ sym (least_opened same opens) ∙ ap (λ (p : Option ℕ). option_or p second) (e ∙ sym (least_covered same opens))

-- a variable that has a type and an inst, and one that has none
pub missed_there : (q : PlainProcs) (types : List Ty) (insts : List ℕ) (os : List Opened) (x : ℕ) (t : Ty) (i : ℕ) (answer : Bool) → x < length types → t ≡ get_or types x t → i ≡ get_or insts x 0 → Covers q (plain_type t) i os x answer → MissesNone q types insts os x answer
missed_there q types insts os x t i answer lt type inst h outcome ds opens =
    let T = type_in types in
    h outcome T ds opens
    ∙ ap₂ (λ (s : TypeTerm) (j : ℕ). covers (as_system outcome q) T (allowed_in (as_system outcome q) T s j) (labels_of x ds))
    (ap plain_type type ∙ sym (get_or-map plain_type types x t (variable_type x) lt)) inst

no_type : (q : PlainProcs) (outcome : Builtin → List Val → Outcome) (T : ℕ → TypeTerm) (x i : ℕ) (ds : List Disjunct) (t : TypeTerm) → t ≡ variable_type x → false ≡ covers (as_system outcome q) T (allowed_in (as_system outcome q) T t i) (labels_of x ds)
no_type q outcome T x i ds t e = ap (λ (s : TypeTerm). covers (as_system outcome q) T (allowed_in (as_system outcome q) T s i) (labels_of x ds)) (sym e)

pub missed_past : (q : PlainProcs) (types : List Ty) (insts : List ℕ) (os : List Opened) (x : ℕ) → length (map plain_type types) ≤ x → MissesNone q types insts os x false
missed_past q types insts os x past outcome ds opens =
    no_type q outcome (type_in types) x (inst_in insts x) ds (type_in types x) (get_or_past (map plain_type types) x (variable_type x) past)

-- disjuncts are what is kept of them
pub opens_self : (os : List Opened) → Opens (map plain_opened os) os
opens_self [] = tt
opens_self (o ∷ os) = (refl, opens_self os)

-- the least of those that pass a test passes it
least_passes : (f g : ℕ → Bool) (xs : List ℕ) (x : ℕ) → Some x ≡ least f (those_that g xs) → g x ≡ true
least_passes f g [] x e = cc
least_passes f g (y ∷ xs) x e = by_test (g y) refl (λ z h. least_passes f g xs z h) e
  where
    by_less : (t : Bool) (z : ℕ) → g y ≡ true → g z ≡ true → Some x ≡ Some (if t then z else y) → g x ≡ true
    by_less true z p q e =
        let same : x ≡ z = cc in
        ap g same ∙ q
    by_less false z p q e =
        let same : x ≡ y = cc in
        ap g same ∙ p

    by_lesser : (o : Option ℕ) → g y ≡ true → ((z : ℕ) → Some z ≡ o → g z ≡ true) → Some x ≡ Some (lesser y o) → g x ≡ true
    by_lesser None q again e =
        let same : x ≡ y = cc in
        ap g same ∙ q
    by_lesser (Some z) q again e = by_less (nat_lt z y) z q (again z refl) e

    by_count : (t : Bool) → g y ≡ true → ((z : ℕ) → Some z ≡ least f (those_that g xs) → g z ≡ true) → Some x ≡ (if t then Some (lesser y (least f (those_that g xs))) else least f (those_that g xs)) → g x ≡ true
    by_count true q again e = by_lesser (least f (those_that g xs)) q again e
    by_count false q again e = again x e

    by_test : (t : Bool) → g y ≡ t → ((z : ℕ) → Some z ≡ least f (those_that g xs) → g z ≡ true) → Some x ≡ least f (if t then y ∷ those_that g xs else those_that g xs) → g x ≡ true
    by_test true q again e = by_count (f y) q again e
    by_test false q again e = again x e

pub may_be_least : (f : ℕ → Bool) (insts : List ℕ) (out : List Bool) (os : List Opened) (xs : List ℕ) (o : Option ℕ) → o ≡ least f (those_that (may_be insts out os) xs) → MayBe insts out os o
may_be_least f insts out os xs None e = tt
may_be_least f insts out os xs (Some x) e = least_passes f (may_be insts out os) xs x e

-- nothing is left out
pub none_out : (n : ℕ) → AreSame [] (replicate n false)
none_out n x =
    elim (cases_lt x n) [
      | inl lt ↦ sym (get_or-replicate n x false false lt)
      | inr past ↦ sym (get_or_past (replicate n false) x false (omega (arith, length-replicate n false)))
    ]

-- a system that suits chooses as that of the procedures
pub chosen_suits : (q : PlainProcs) (S : System) → Suits q S → (types : List Ty) (insts : List ℕ) (out : List ℕ) (ds : List Disjunct) → ((x : ℕ) → inst_in insts x < count_of q.insts) → chosen S (type_in types) out (inst_in insts) ds ≡ chosen (as_system S.world.outcome q) (type_in types) out (inst_in insts) ds
chosen_suits q S suits types insts out ds there =
    let T = type_in types in
    let b = inst_in insts in
    let Z = as_system S.world.outcome q in
    ap (λ (o : Option ℕ). option_or o (least (is_opened S T out b ds) (opened_variables ds)))
    (least_same (λ x. is_opened S T out b ds x && misses_none S T b ds x) (λ x. is_opened S T out b ds x && misses_none Z T b ds x)
    (λ x. ap (λ (o : Option (List ℕ)). is_opened S T out b ds x && covers S T o (labels_of x ds)) (allowed_suits q S suits T (T x) (b x) (there x)))
    (opened_variables ds))

-- the least of those of which something holds is one of them
pub least_holds : (g : ℕ → Bool) (xs : List ℕ) (x : ℕ) → Some x ≡ least g xs → g x ≡ true
least_holds g xs x e = least_passes (λ _. true) g xs x (e ∙ least_of_those g xs)
