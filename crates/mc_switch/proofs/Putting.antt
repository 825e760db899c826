-- Disjuncts that are put into groups, which are found by their labels.
use Rattle.std.proofs.Common.{◌≡◌, ℕ, zero, suc, ◌+◌, ◌<◌, ◌≤◌, List, [], ◌∷◌, ◌++◌, length, map, get_or, slice_set, Option, Bool, true, false, cond, not, nat_eq, ◌||◌, if◌then◌else◌, refl, sym, ap, ap₂, ◌∙◌, subst, arith}
use Rattle.std.specs.List.{list_any, position_or_len}
use Rattle.std.specs.HashMap.{get}
use Rattle.indexmap.specs.IndexSet.{insert_key}
use Rattle.mc_model.specs.Scheduled.{Label}
use Rattle.mc_accepted.specs.Switched.{same_label}
use Rattle.mc_switch.specs.declared.disjunct.Opened.{Opened}
use Rattle.mc_switch.specs.declared.groups.Group.{Group}
use Rattle.mc_switch.specs.declared.opening.OpeningLabel.{OpeningLabel}
use Rattle.mc_switch.specs.declared.opening.OpeningLabel.TheVariants as O
use Rattle.mc_switch.specs.contracts.opening.OpeningLabelPartialEq.TheImpl as LabelEq
use Rattle.mc_switch.specs.Openings.{plain_opening_label}
use Rattle.mc_switch.specs.code.Labels.{KeepsFirst, opening_of}
use Rattle.mc_switch.specs.code.Groups.{label_of, put_in, put_told, put_at, plain_group, plain_groups, groups_of, AreLabelled}
use Rattle.mc_switch.proofs.Grouped.{groups_more}

abbrev pub same : OpeningLabel → OpeningLabel → Bool
same = LabelEq.eq-value.it

-- equality of labels is what it is of those that they stand for
same_plain : (l k : OpeningLabel) → same l k ≡ same_label (plain_opening_label l) (plain_opening_label k)
same_plain (O.Symbol s) (O.Symbol t) = refl
same_plain (O.Symbol s) (O.Int n) = refl
same_plain (O.Symbol s) (O.Char c) = refl
same_plain (O.Symbol s) (O.Str t) = refl
same_plain (O.Int n) (O.Symbol t) = refl
same_plain (O.Int n) (O.Int m) = refl
same_plain (O.Int n) (O.Char c) = refl
same_plain (O.Int n) (O.Str t) = refl
same_plain (O.Char c) (O.Symbol t) = refl
same_plain (O.Char c) (O.Int n) = refl
same_plain (O.Char c) (O.Char d) = refl
same_plain (O.Char c) (O.Str t) = refl
same_plain (O.Str s) (O.Symbol t) = refl
same_plain (O.Str s) (O.Int n) = refl
same_plain (O.Str s) (O.Char c) = refl
same_plain (O.Str s) (O.Str t) = refl

pub put_there : (gs : List Group) (k : ℕ) (g h : Group) (o : Opened) → k < length gs → g ≡ get_or gs k g → plain_group h ≡ ((plain_group g).0, (plain_group g).1 ++ o ∷ []) → plain_groups (slice_set gs k h) ≡ put_at k o (plain_groups gs)
put_there [] k g h o lt e p = absurd (omega (arith, lt))
put_there (i ∷ gs) zero g h o lt e p =
    ap (λ q. q ∷ plain_groups gs) (p ∙ ap (λ (f : Group). ((plain_group f).0, (plain_group f).1 ++ o ∷ [])) e)
put_there (i ∷ gs) (suc k) g h o lt e p = ap (λ (qs : List (Label × List Opened)). plain_group i ∷ qs) (put_there gs k g h o (omega (arith, lt)) e p)

abbrev Pairs : Type 0
Pairs = List (Label × List Opened)

abbrev first : Label × List Opened → Label
first g = g.0

-- the place of a label among those of groups
at_place : (l : OpeningLabel) (o : Opened) (ls : List OpeningLabel) (gs : Pairs) → map plain_opening_label ls ≡ map first gs → position_or_len (same l) ls < length gs → put_at (position_or_len (same l) ls) o gs ≡ put_in (plain_opening_label l) o gs
at_place l o [] [] h lt = absurd (omega (arith, lt))
at_place l o [] (g ∷ gs) h lt = cc
at_place l o (k ∷ ls) [] h lt = cc
at_place l o (k ∷ ls) (g ∷ gs) h lt =
    let e : plain_opening_label k ≡ g.0 = cc in
    let r : map plain_opening_label ls ≡ map first gs = cc in
    by_test (same l k) lt (sym (same_plain l k)) e (λ c. at_place l o ls gs r c)
  where
    behind : (j i : ℕ) → j ≡ suc i → put_at j o (g ∷ gs) ≡ g ∷ put_at i o gs
    behind j i q = subst (λ m. put_at m o (g ∷ gs) ≡ g ∷ put_at i o gs) (sym q) refl

    by_test : (t : Bool) → cond (not t) (1 + position_or_len (same l) ls) 0 < length (g ∷ gs) → same_label (plain_opening_label l) (plain_opening_label k) ≡ t → plain_opening_label k ≡ g.0 → (position_or_len (same l) ls < length gs → put_at (position_or_len (same l) ls) o gs ≡ put_in (plain_opening_label l) o gs) → put_at (cond (not t) (1 + position_or_len (same l) ls) 0) o (g ∷ gs) ≡ (if same_label (plain_opening_label l) g.0 then (g.0, g.1 ++ o ∷ []) ∷ gs else g ∷ put_in (plain_opening_label l) o gs)
    by_test true b q e again = ap (λ (t : Bool). if t then (g.0, g.1 ++ o ∷ []) ∷ gs else g ∷ put_in (plain_opening_label l) o gs) (sym q ∙ ap (λ m. same_label (plain_opening_label l) m) e)
    by_test false b q e again =
        behind (1 + position_or_len (same l) ls) (position_or_len (same l) ls) (omega arith)
        ∙ ap (λ (hs : Pairs). g ∷ hs) (again (omega (arith, b)))
        ∙ ap (λ (t : Bool). if t then (g.0, g.1 ++ o ∷ []) ∷ gs else g ∷ put_in (plain_opening_label l) o gs) (sym q ∙ ap (λ m. same_label (plain_opening_label l) m) e)

at_end : (l : OpeningLabel) (o : Opened) (ls : List OpeningLabel) (gs : Pairs) → map plain_opening_label ls ≡ map first gs → length gs ≤ position_or_len (same l) ls → gs ++ (plain_opening_label l, o ∷ []) ∷ [] ≡ put_in (plain_opening_label l) o gs
at_end l o [] [] h le = refl
at_end l o [] (g ∷ gs) h le = cc
at_end l o (k ∷ ls) [] h le = cc
at_end l o (k ∷ ls) (g ∷ gs) h le =
    let e : plain_opening_label k ≡ g.0 = cc in
    let r : map plain_opening_label ls ≡ map first gs = cc in
    by_test (same l k) le (sym (same_plain l k)) e (λ c. at_end l o ls gs r c)
  where
    by_test : (t : Bool) → length (g ∷ gs) ≤ cond (not t) (1 + position_or_len (same l) ls) 0 → same_label (plain_opening_label l) (plain_opening_label k) ≡ t → plain_opening_label k ≡ g.0 → (length gs ≤ position_or_len (same l) ls → gs ++ (plain_opening_label l, o ∷ []) ∷ [] ≡ put_in (plain_opening_label l) o gs) → g ∷ (gs ++ (plain_opening_label l, o ∷ []) ∷ []) ≡ (if same_label (plain_opening_label l) g.0 then (g.0, g.1 ++ o ∷ []) ∷ gs else g ∷ put_in (plain_opening_label l) o gs)
    by_test true b q e again = absurd (omega (arith, b))
    by_test false b q e again =
        ap (λ (hs : Pairs). g ∷ hs) (again (omega (arith, b)))
        ∙ ap (λ (t : Bool). if t then (g.0, g.1 ++ o ∷ []) ∷ gs else g ∷ put_in (plain_opening_label l) o gs) (sym q ∙ ap (λ m. same_label (plain_opening_label l) m) e)

-- a label that has a place is there
there_is : (l : OpeningLabel) (ls : List OpeningLabel) → position_or_len (same l) ls < length ls → list_any (same l) ls ≡ true
there_is l [] lt = absurd (omega (arith, lt))
there_is l (k ∷ ls) lt = by_test (same l k) lt (λ c. there_is l ls c)
  where
    by_test : (t : Bool) → cond (not t) (1 + position_or_len (same l) ls) 0 < length (k ∷ ls) → (position_or_len (same l) ls < length ls → list_any (same l) ls ≡ true) → (t || list_any (same l) ls) ≡ true
    by_test true b again = refl
    by_test false b again = again (omega (arith, b))

same_firsts : (k : ℕ) (o : Opened) (gs : Pairs) → map first (put_at k o gs) ≡ map first gs
same_firsts k o [] = refl
same_firsts zero o (g ∷ gs) = refl
same_firsts (suc k) o (g ∷ gs) = ap (λ (ls : List Label). g.0 ∷ ls) (same_firsts k o gs)

length-groups : (ls : List OpeningLabel) (gs : List Group) → AreLabelled ls gs → (length gs ≡ length ls) × (length (plain_groups gs) ≡ length gs)
length-groups [] [] h = (refl, refl)
length-groups [] (g ∷ gs) h = cc
length-groups (l ∷ ls) [] h = cc
length-groups (l ∷ ls) (g ∷ gs) h =
    let r : map plain_opening_label ls ≡ map first (plain_groups gs) = cc in
    let e = length-groups ls gs r in
    (ap suc e.0, ap suc e.1)

-- one more of a label that has a group
pub put_labels : (l : OpeningLabel) (o : Opened) (ls ns : List OpeningLabel) (gs hs : List Group) (k : ℕ) → AreLabelled ls gs → ns ≡ insert_key same ls l → k ≡ position_or_len (same l) ls → k < length gs → plain_groups hs ≡ put_at k o (plain_groups gs) → AreLabelled ns hs
put_labels l o ls ns gs hs k h e q lt p =
    let m = (length-groups ls gs h).0 in
    let b : position_or_len (same l) ls < length ls = omega arith in
    ap (map plain_opening_label) (e ∙ ap (λ (t : Bool). if t then ls else ls ++ l ∷ []) (there_is l ls b))
    ∙ h
    ∙ sym (same_firsts k o (plain_groups gs))
    ∙ ap (map first) (sym p)

pub put_groups : (l : OpeningLabel) (o : Opened) (ls : List OpeningLabel) (gs hs : List Group) (k : ℕ) → AreLabelled ls gs → k ≡ position_or_len (same l) ls → k < length gs → plain_groups hs ≡ put_at k o (plain_groups gs) → plain_groups hs ≡ put_in (plain_opening_label l) o (plain_groups gs)
put_groups l o ls gs hs k h q lt p =
    let m = (length-groups ls gs h).1 in
    p
    ∙ ap (λ j. put_at j o (plain_groups gs)) q
    ∙ at_place l o ls (plain_groups gs) h (omega arith)

-- the first of a label
pub push_groups : (l : OpeningLabel) (o : Opened) (ls : List OpeningLabel) (gs hs : List Group) (k : ℕ) → AreLabelled ls gs → k ≡ position_or_len (same l) ls → length gs ≤ k → plain_groups hs ≡ plain_groups gs ++ (plain_opening_label l, o ∷ []) ∷ [] → plain_groups hs ≡ put_in (plain_opening_label l) o (plain_groups gs)
push_groups l o ls gs hs k h q le p =
    let m = (length-groups ls gs h).1 in
    p ∙ at_end l o ls (plain_groups gs) h (omega arith)

-- one more of the disjuncts
pub split_more : (x : ℕ) (os : List Opened) (o : Opened) (l : Option OpeningLabel) (now new : Pairs) → KeepsFirst o → l ≡ get nat_eq o.labels x → now ≡ groups_of x os → new ≡ put_told (opening_of l) o now → new ≡ groups_of x (os ++ o ∷ [])
split_more x os o l now new keeps is h p =
    p
    ∙ ap₂ (λ (m : Option Label) (gs : Pairs). put_told m o gs) (ap opening_of is ∙ keeps x) h
    ∙ groups_more (label_of x) os o
