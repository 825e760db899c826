-- The library's modules are linked behind any files where they are linked by themselves.
use Rattle.std.proofs.Common.{◌≡◌, ◌⊎◌, inl, inr, ℕ, zero, suc, ◌+◌, ◌-◌, ◌<◌, ◌≤◌, Bool, true, false, not, ◌&&◌, ◌||◌, List, [], ◌∷◌, ◌++◌, length, get_or, drop, refl, sym, ap, ◌∙◌, subst, arith, true≢false, length-append}
use Rattle.std.specs.Prelude.{Option, Some, None, codes, nat_eq, if◌then◌else◌}
use Rattle.std.specs.Option.{is_some}
use Rattle.std.specs.Set.{is_member}
use Rattle.std.proofs.lemmas.Bool.{or_cases, or_left, or_right, eqb-true, eq-eqb, leb-true, le-leb, false_from_ne_true}
use Rattle.std.proofs.lemmas.List.Folds.{list_any-append}
use Rattle.mc_source.specs.Rules.{Fault}
use Rattle.mc_source.specs.declared.rule.Rule.TheVariants as R
use Rattle.mc_decl_syntax.specs.Plain.{Path, PlainDecl, ModuleStart, ModuleEnd, Interface, Implementation, Imports, UseOnly, AbstractType, UnionType, SameType, SameInst, BoundInst, ModeDef, Pred, Func, Mode, Pragma, Clause}
use Rattle.mc_names.specs.declared.definition.Kind.{Kind}
use Rattle.mc_names.specs.declared.definition.Kind.TheVariants as K
use Rattle.mc_names.specs.Plain.{PlainNameArity, PlainOccurrence, joined, shown}
use Rattle.mc_defs_uses.specs.Occurrences.{uses}
use Rattle.mc_decl_syntax.specs.Entries.{File}
use Rattle.mc_modules.specs.Files.{PlainItemInFile, items_in_file, module_names, definitions_of, shown_of, has}
use Rattle.mc_modules.specs.Visible.{is_library, library_size, has_name, first_named, or_first, module_of, file_at, with_module, with_modules, imported_by, used_by, imported, only_used, unqualified, seen, is_builtin, has_definition, how_many, among, is_qualified, searched, meanings_as, meanings_of, meanings}
use Rattle.mc_names.specs.Characters.{character}
use Rattle.mc_modules.specs.Faults.{invisible}
use Rattle.mc_modules.specs.Linked.{name_of}
use Rattle.laws_sources.specs.WellWritten.{AreKnown, IsLinked, LibraryStaysLinked}
use Rattle.laws_sources.proofs.Meanings.{never}

-- NUMBERS

not_zero : (n : ℕ) → nat_eq n 0 ≡ false → n ≡ 0 → ⊥
not_zero n some none = true≢false (sym (eq-eqb n 0 none) ∙ some)

is_not_zero : (n : ℕ) → (n ≡ 0 → ⊥) → nat_eq n 0 ≡ false
is_not_zero n some = false_from_ne_true (nat_eq n 0) (λ e. some (eqb-true n 0 e))

behind_more : (b h k : ℕ) → ((h ≡ 0 → ⊥) → k ≡ 0 → ⊥) → (b + h ≡ 0 → ⊥) → b + k ≡ 0 → ⊥
behind_more b zero k more some none = some (omega (arith, none))
behind_more b (suc h) k more some none = more (λ e. omega (arith, e)) (omega (arith, none))

before_more : (a b c d : ℕ) → ((a ≡ 0 → ⊥) → c ≡ 0 → ⊥) → ((b ≡ 0 → ⊥) → d ≡ 0 → ⊥) → (a + b ≡ 0 → ⊥) → c + d ≡ 0 → ⊥
before_more zero b c d first second some none = second (λ e. some (omega (arith, e))) (omega (arith, none))
before_more (suc a) b c d first second some none = first (λ e. omega (arith, e)) (omega (arith, none))

same_shift : (g i j : ℕ) → nat_eq (g + i) (g + j) ≡ nat_eq i j
same_shift g i j = by (nat_eq i j) refl
  where
    by : (b : Bool) → nat_eq i j ≡ b → nat_eq (g + i) (g + j) ≡ b
    by true e = eq-eqb (g + i) (g + j) (ap (λ k. g + k) (eqb-true i j e))
    by false e =
        false_from_ne_true (nat_eq (g + i) (g + j))
        (λ same. let sum : g + i ≡ g + j = eqb-true (g + i) (g + j) same in true≢false (sym (eq-eqb i j (omega (arith, sum))) ∙ e))

-- FILES

file_behind : (given library : List File) (k : ℕ) → get_or (given ++ library) (length given + k) [] ≡ get_or library k []
file_behind [] library k = let here : 0 + k ≡ k = omega arith in ap (λ i. get_or library i []) here
file_behind (f ∷ fs) library k =
    let next : length (f ∷ fs) + k ≡ suc (length fs + k) = omega arith in
    ap (λ i. get_or (f ∷ (fs ++ library)) i []) next ∙ file_behind fs library k

names_behind : (given library : List File) → drop (length given) (module_names (given ++ library)) ≡ module_names library
names_behind [] library = refl
names_behind (f ∷ fs) library = names_behind fs library

first_behind : (g k : ℕ) (w : List ℕ) (ns : List (Option (List ℕ))) (j : ℕ) → first_named k w ns ≡ Some j → first_named (g + k) w ns ≡ Some (g + j)
first_behind g k w [] j is = absurd (let clash : None ≡ Some j = is in cc)
first_behind g k w (n ∷ ns) j is = by (has_name w n) is (first_behind g (k + 1) w ns j)
  where
    by : (b : Bool) → (if b then Some k else first_named (k + 1) w ns) ≡ Some j
        → (first_named (k + 1) w ns ≡ Some j → first_named (g + (k + 1)) w ns ≡ Some (g + j))
        → (if b then Some (g + k) else first_named ((g + k) + 1) w ns) ≡ Some (g + j)
    by true is rest = let same : k ≡ j = cc in ap (λ i. Some (g + i)) same
    by false is rest = let next : (g + k) + 1 ≡ g + (k + 1) = omega arith in ap (λ i. first_named i w ns) next ∙ rest is

or_same : (o : Option ℕ) (j : ℕ) → or_first o o ≡ Some j → o ≡ Some j
or_same None j is = is
or_same (Some k) j is = is

module _ (given library : List File) (nine : length library ≡ library_size) where
  abbrev files : List File
  files = given ++ library

  abbrev g : ℕ
  g = length given

  at_behind : (k : ℕ) → file_at files (g + k) ≡ file_at library k
  at_behind k = file_behind given library k

  -- a module of the library that a name means, it means behind the given files too
  module_behind : (w : List ℕ) (j : ℕ) → module_of library w ≡ Some j → module_of files w ≡ Some (g + j)
  module_behind w j is =
      let none : length library - library_size ≡ 0 = omega (arith, nine) in
      let long = length-append given library in
      let start : length files - library_size ≡ g = omega (arith, nine, long) in
      let first : first_named 0 w (module_names library) ≡ Some j =
      or_same (first_named 0 w (module_names library)) j
      (sym (ap (λ k. or_first (first_named k w (drop k (module_names library))) (first_named 0 w (module_names library))) none) ∙ is)
      in
      let zero_more : g + 0 ≡ g = omega arith in
      ap (λ k. or_first (first_named k w (drop k (module_names files))) (first_named 0 w (module_names files))) start
      ∙ ap (λ ns. or_first (first_named g w ns) (first_named 0 w (module_names files))) (names_behind given library)
      ∙ ap (λ o. or_first o (first_named 0 w (module_names files))) (ap (λ k. first_named k w (module_names library)) (sym zero_more) ∙ first_behind g 0 w (module_names library) j first)

  -- MODULES THAT ARE SEEN

  abbrev Within : List ℕ → List ℕ → Type 0
  Within ks js = (i : ℕ) → is_member nat_eq ks i ≡ true → is_member nat_eq js (g + i) ≡ true

  grows : (o : Option ℕ) (ks : List ℕ) (i : ℕ) → is_member nat_eq ks i ≡ true → is_member nat_eq (with_module o ks) i ≡ true
  grows None ks i has = has
  grows (Some k) ks i has = by (is_member nat_eq ks k)
    where
      by : (b : Bool) → is_member nat_eq (if b then ks else ks ++ k ∷ []) i ≡ true
      by true = has
      by false = list_any-append (nat_eq i) ks (k ∷ []) ∙ or_left _ _ has

  put_there : (k : ℕ) (ks : List ℕ) → is_member nat_eq (with_module (Some k) ks) k ≡ true
  put_there k ks = by (is_member nat_eq ks k) refl
    where
      by : (b : Bool) → is_member nat_eq ks k ≡ b → is_member nat_eq (if b then ks else ks ++ k ∷ []) k ≡ true
      by true e = e
      by false e = list_any-append (nat_eq k) ks (k ∷ []) ∙ or_right _ _ (or_left _ false (eq-eqb k k refl))

  put_or_there : (k : ℕ) (ks : List ℕ) (i : ℕ) → is_member nat_eq (with_module (Some k) ks) i ≡ true → (is_member nat_eq ks i ≡ true) ⊎ (i ≡ k)
  put_or_there k ks i has = by (is_member nat_eq ks k) has
    where
      one : (nat_eq i k || false) ≡ true → i ≡ k
      one e = elim (or_cases (nat_eq i k) false e) [
        | inl same ↦ eqb-true i k same
        | inr other ↦ never other
      ]

      by : (b : Bool) → is_member nat_eq (if b then ks else ks ++ k ∷ []) i ≡ true → (is_member nat_eq ks i ≡ true) ⊎ (i ≡ k)
      by true has = inl has
      by false has =
          elim (or_cases (is_member nat_eq ks i) (nat_eq i k || false) (sym (list_any-append (nat_eq i) ks (k ∷ [])) ∙ has)) [
            | inl there ↦ inl there
            | inr last ↦ inr (one last)
          ]

  within_module : (o p : Option ℕ) (ks js : List ℕ) → ((k : ℕ) → o ≡ Some k → p ≡ Some (g + k)) → Within ks js → Within (with_module o ks) (with_module p js)
  within_module None p ks js so within i has = grows p js (g + i) (within i has)
  within_module (Some k) p ks js so within i has =
      subst (λ q. is_member nat_eq (with_module q js) (g + i) ≡ true) (sym (so k refl))
      (elim (put_or_there k ks i has) [
        | inl there ↦ grows (Some (g + k)) js (g + i) (within i there)
        | inr same ↦ subst (λ n. is_member nat_eq (with_module (Some (g + k)) js) n ≡ true) (ap (λ n. g + n) (sym same)) (put_there (g + k) js)
      ])

  within_modules : (ws : List Path) (ks js : List ℕ) → Within ks js → Within (with_modules library ws ks) (with_modules files ws js)
  within_modules [] ks js within = within
  within_modules (w ∷ ws) ks js within =
      within_modules ws (with_module (module_of library (joined w)) ks) (with_module (module_of files (joined w)) js)
      (within_module (module_of library (joined w)) (module_of files (joined w)) ks js (module_behind (joined w)) within)

  within_imported_by : (i : PlainDecl) (ks js : List ℕ) → Within ks js → Within (imported_by library i ks) (imported_by files i js)
  within_imported_by (Imports ws) ks js within = within_modules ws ks js within
  within_imported_by (ModuleStart w) ks js within = within
  within_imported_by (ModuleEnd w) ks js within = within
  within_imported_by Interface ks js within = within
  within_imported_by Implementation ks js within = within
  within_imported_by (UseOnly ws) ks js within = within
  within_imported_by (AbstractType h) ks js within = within
  within_imported_by (UnionType h ts) ks js within = within
  within_imported_by (SameType h t) ks js within = within
  within_imported_by (SameInst h t) ks js within = within
  within_imported_by (BoundInst h ts) ks js within = within
  within_imported_by (ModeDef h t) ks js within = within
  within_imported_by (Pred t d) ks js within = within
  within_imported_by (Func t d) ks js within = within
  within_imported_by (Mode t d) ks js within = within
  within_imported_by Pragma ks js within = within
  within_imported_by (Clause t) ks js within = within

  within_used_by : (i : PlainDecl) (ks js : List ℕ) → Within ks js → Within (used_by library i ks) (used_by files i js)
  within_used_by (UseOnly ws) ks js within = within_modules ws ks js within
  within_used_by (ModuleStart w) ks js within = within
  within_used_by (ModuleEnd w) ks js within = within
  within_used_by Interface ks js within = within
  within_used_by Implementation ks js within = within
  within_used_by (Imports ws) ks js within = within
  within_used_by (AbstractType h) ks js within = within
  within_used_by (UnionType h ts) ks js within = within
  within_used_by (SameType h t) ks js within = within
  within_used_by (SameInst h t) ks js within = within
  within_used_by (BoundInst h ts) ks js within = within
  within_used_by (ModeDef h t) ks js within = within
  within_used_by (Pred t d) ks js within = within
  within_used_by (Func t d) ks js within = within
  within_used_by (Mode t d) ks js within = within
  within_used_by Pragma ks js within = within
  within_used_by (Clause t) ks js within = within

  within_imported : (ss : List PlainItemInFile) (ks js : List ℕ) → Within ks js → Within (imported library ss ks) (imported files ss js)
  within_imported [] ks js within = within
  within_imported (s ∷ ss) ks js within = within_imported ss (imported_by library s.item ks) (imported_by files s.item js) (within_imported_by s.item ks js within)

  within_used : (ss : List PlainItemInFile) (ks js : List ℕ) → Within ks js → Within (only_used library ss ks) (only_used files ss js)
  within_used [] ks js within = within
  within_used (s ∷ ss) ks js within = within_used ss (used_by library s.item ks) (used_by files s.item js) (within_used_by s.item ks js within)

  module _ (own : ℕ) where
    own_within : Within (own ∷ []) ((g + own) ∷ [])
    own_within i has =
        elim (or_cases (nat_eq i own) false has) [
          | inl same ↦ or_left _ false (same_shift g i own ∙ same)
          | inr other ↦ never other
        ]

    within_unqualified : Within (unqualified library own) (unqualified files (g + own))
    within_unqualified =
        subst (λ f. Within (unqualified library own) (imported files (items_in_file f) ((g + own) ∷ []))) (sym (at_behind own))
        (within_imported (items_in_file (file_at library own)) (own ∷ []) ((g + own) ∷ []) own_within)

    within_seen : Within (seen library own) (seen files (g + own))
    within_seen =
        subst (λ f. Within (seen library own) (only_used files (items_in_file f) (unqualified files (g + own)))) (sym (at_behind own))
        (within_used (items_in_file (file_at library own)) (unqualified library own) (unqualified files (g + own)) within_unqualified)

    -- MEANINGS

    definition_behind : (k : Kind) (x : PlainNameArity) (j : ℕ) → has_definition library own k x j ≡ true → has_definition files (g + own) k x (g + j) ≡ true
    definition_behind k x j is =
        ap (λ b. has k x (if b then definitions_of (items_in_file (file_at files (g + j))) else shown_of (items_in_file (file_at files (g + j))))) (same_shift g own j)
        ∙ ap (λ f. has k x (if nat_eq own j then definitions_of (items_in_file f) else shown_of (items_in_file f))) (at_behind j)
        ∙ is

    some_of : (k : Kind) (x : PlainNameArity) (js : List ℕ) → (how_many library own k x js ≡ 0 → ⊥) → (j : ℕ) × (is_member nat_eq js j ≡ true) × (has_definition library own k x j ≡ true)
    some_of k x [] some = absurd (some refl)
    some_of k x (j ∷ js) some = by (has_definition library own k x j) refl some (some_of k x js)
      where
        by : (b : Bool) → has_definition library own k x j ≡ b → ((if b then 1 else 0) + how_many library own k x js ≡ 0 → ⊥)
            → ((how_many library own k x js ≡ 0 → ⊥) → (i : ℕ) × (is_member nat_eq js i ≡ true) × (has_definition library own k x i ≡ true))
            → (i : ℕ) × (is_member nat_eq (j ∷ js) i ≡ true) × (has_definition library own k x i ≡ true)
        by true e some rest = (j, or_left _ _ (eq-eqb j j refl), e)
        by false e some rest =
            let it = rest (λ none. some (omega (arith, none))) in
            (it.0, or_right _ _ it.1, it.2)

    of_some : (k : Kind) (x : PlainNameArity) (js : List ℕ) (i : ℕ) → is_member nat_eq js i ≡ true → has_definition files (g + own) k x i ≡ true → how_many files (g + own) k x js ≡ 0 → ⊥
    of_some k x [] i there is none = never there
    of_some k x (j ∷ js) i there is none =
        by (has_definition files (g + own) k x j) refl (or_cases (nat_eq i j) (is_member nat_eq js i) there) none (λ later. of_some k x js i later is)
      where
        by : (b : Bool) → has_definition files (g + own) k x j ≡ b → (nat_eq i j ≡ true) ⊎ (is_member nat_eq js i ≡ true) → (if b then 1 else 0) + how_many files (g + own) k x js ≡ 0
            → (is_member nat_eq js i ≡ true → how_many files (g + own) k x js ≡ 0 → ⊥) → ⊥
        by true e there none rest = omega (arith, none)
        by false e (inl here) none rest = true≢false (sym is ∙ ap (has_definition files (g + own) k x) (eqb-true i j here) ∙ e)
        by false e (inr later) none rest = rest later (omega (arith, none))

    how_many_within : (k : Kind) (x : PlainNameArity) (ks js : List ℕ) → Within ks js → (how_many library own k x ks ≡ 0 → ⊥) → how_many files (g + own) k x js ≡ 0 → ⊥
    how_many_within k x ks js within some =
        let it = some_of k x ks some in
        of_some k x js (g + it.0) (within it.0 it.1) (definition_behind k x it.0 it.2)

    within_among : (o p : Option ℕ) → ((k : ℕ) → o ≡ Some k → p ≡ Some (g + k)) → Within (among o (seen library own)) (among p (seen files (g + own)))
    within_among None p so i has = never has
    within_among (Some k) p so i has =
        subst (λ q. is_member nat_eq (among q (seen files (g + own))) (g + i) ≡ true) (sym (so k refl)) (by (is_member nat_eq (seen library own) k) refl has)
      where
        one : is_member nat_eq (seen library own) k ≡ true → (b : Bool) → is_member nat_eq (seen files (g + own)) (g + k) ≡ b → (nat_eq i k || false) ≡ true
            → is_member nat_eq (if b then (g + k) ∷ [] else []) (g + i) ≡ true
        one there true e has =
            elim (or_cases (nat_eq i k) false has) [
              | inl same ↦ or_left _ false (same_shift g i k ∙ same)
              | inr other ↦ never other
            ]
        one there false e has = absurd (true≢false (sym (within_seen k there) ∙ e))

        by : (b : Bool) → is_member nat_eq (seen library own) k ≡ b → is_member nat_eq (if b then k ∷ [] else []) i ≡ true
            → is_member nat_eq (among (Some (g + k)) (seen files (g + own))) (g + i) ≡ true
        by true there has = one there (is_member nat_eq (seen files (g + own)) (g + k)) refl has
        by false there has = never has

    within_searched : (qs : Path) → Within (searched library own qs) (searched files (g + own) qs)
    within_searched [] = within_unqualified
    within_searched (w ∷ ws) = within_among (module_of library (joined (w ∷ ws))) (module_of files (joined (w ∷ ws))) (module_behind (joined (w ∷ ws)))

    some_as : (k : Kind) (u : PlainOccurrence) → (meanings_as library own k u ≡ 0 → ⊥) → meanings_as files (g + own) k u ≡ 0 → ⊥
    some_as k u =
        behind_more (if not (is_qualified u.qualifiers) && is_builtin k u.id then 1 else 0) (how_many library own k u.id (searched library own u.qualifiers))
        (how_many files (g + own) k u.id (searched files (g + own) u.qualifiers))
        (how_many_within k u.id (searched library own u.qualifiers) (searched files (g + own) u.qualifiers) (within_searched u.qualifiers))

    some_of_kind : (k : Kind) (u : PlainOccurrence) → (meanings_of library own k u ≡ 0 → ⊥) → meanings_of files (g + own) k u ≡ 0 → ⊥
    some_of_kind K.Symbol u =
        let c = if is_some (character u.qualifiers u.id) then 1 else 0 in
        before_more (meanings_as library own K.Symbol u) (meanings_as library own K.Func u + c) (meanings_as files (g + own) K.Symbol u) (meanings_as files (g + own) K.Func u + c)
        (some_as K.Symbol u)
        (before_more (meanings_as library own K.Func u) c (meanings_as files (g + own) K.Func u) c (some_as K.Func u) (λ some. some))
    some_of_kind K.AbstractType u = some_as K.AbstractType u
    some_of_kind K.DefinedType u = some_as K.DefinedType u
    some_of_kind K.Inst u = some_as K.Inst u
    some_of_kind K.Mode u = some_as K.Mode u
    some_of_kind K.Pred u = some_as K.Pred u
    some_of_kind K.Func u = some_as K.Func u

    abbrev unknown : PlainOccurrence → Fault
    unknown u = (R.N4, shown u.id ++ codes " is not visible")

    visible_behind : (us : List PlainOccurrence) → invisible library own us ≡ None → invisible files (g + own) us ≡ None
    visible_behind [] none = refl
    visible_behind (u ∷ us) none = by (nat_eq (meanings library own u) 0) refl none (visible_behind us)
      where
        by : (b : Bool) → nat_eq (meanings library own u) 0 ≡ b → (if b then Some (unknown u) else invisible library own us) ≡ None
            → (invisible library own us ≡ None → invisible files (g + own) us ≡ None) → invisible files (g + own) (u ∷ us) ≡ None
        by true e none rest = absurd (let clash : Some (unknown u) ≡ None = none in cc)
        by false e none rest =
            ap (λ b. if b then Some (unknown u) else invisible files (g + own) us)
            (is_not_zero (meanings files (g + own) u) (some_of_kind u.kind u (not_zero (meanings library own u) e)))
            ∙ rest none

    known_behind : (f : File) → AreKnown library own f → AreKnown files (g + own) f
    known_behind [] known = tt
    known_behind (e ∷ es) known = (visible_behind (uses e.0) known.0, known_behind es known.1)

    linked_behind : IsLinked library own → IsLinked files (g + own)
    linked_behind linked =
        record {
          named = ap (λ f. module_of files (name_of f)) (at_behind own) ∙ module_behind (name_of (file_at library own)) own linked.named;
          known = subst (AreKnown files (g + own)) (sym (at_behind own)) (known_behind (file_at library own) linked.known);
        }

-- a module of the library stands behind the given files, as one of nine
pub library_place :
    (given library : List File) → length library ≡ library_size
    → (own : ℕ) → own < length (given ++ library) → is_library (given ++ library) own ≡ true
    → (k : ℕ) × (length given + k ≡ own) × ((k < length library) × (is_library library k ≡ true))
library_place given library nine own below is =
    let long = length-append given library in
    let far : length (given ++ library) ≤ own + library_size = leb-true (length (given ++ library)) (own + library_size) is in
    let past : length given ≤ own = omega (arith, far, long, nine) in
    let close : length library ≤ (own - length given) + library_size = omega (arith, nine) in (
      own - length given,
      omega (arith, past),
      (omega (arith, below, long, past), le-leb (length library) ((own - length given) + library_size) close),
    )

pub library_stays_linked : LibraryStaysLinked
library_stays_linked given library nine linked own below is =
    let it = library_place given library nine own below is in
    subst (IsLinked (given ++ library)) it.1 (linked_behind given library nine it.0 (linked it.0 it.2.0 it.2.1))
