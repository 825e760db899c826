-- What breaks no rule of linking is linked.
use Rattle.std.proofs.Common.{◌≡◌, ℕ, zero, suc, ◌+◌, ◌<◌, ◌≤◌, Bool, true, false, List, [], ◌∷◌, ◌++◌, length, get_or, refl, sym, ap, ◌∙◌, subst, arith, true≢false}
use Rattle.std.specs.Prelude.{Option, Some, None, codes, if◌then◌else◌}
use Rattle.std.specs.Option.{option_or}
use Rattle.std.proofs.lemmas.Bool.{eqb-true, leb-true, le-leb}
use Rattle.mc_source.specs.declared.place.Place.{Place}
use Rattle.mc_source.specs.declared.rule.Broken.{Broken}
use Rattle.mc_source.specs.declared.rule.Rule.TheVariants as R
use Rattle.mc_source.specs.Rules.{Fault, broken_at, first_rules}
use Rattle.mc_decl_syntax.specs.Plain.{Path, PlainDecl, ModuleStart, ModuleEnd, Interface, Implementation, Imports, UseOnly, AbstractType, UnionType, SameType, SameInst, BoundInst, ModeDef, Pred, Func, Mode, Pragma, Clause}
use Rattle.mc_names.specs.Plain.{PlainDefinition, joined}
use Rattle.mc_names.specs.Definitions.{definitions}
use Rattle.mc_defs_uses.specs.Occurrences.{uses}
use Rattle.mc_modules.specs.declared.section.Section.{Section}
use Rattle.mc_modules.specs.declared.section.Section.TheVariants as S
use Rattle.mc_decl_syntax.specs.Entries.{File}
use Rattle.mc_modules.specs.Files.{PlainItemInFile, items_in_file, items_in_file_from, section_after, is_empty, module_name}
use Rattle.mc_modules.specs.Visible.{is_library, library_size, file_at, module_of}
use Rattle.mc_modules.specs.Faults.{structure_fault, is_number, twice_given, import_fault, invisible, fault, with_before, faults_of, faults_from}
use Rattle.mc_modules.specs.Linked.{name_of}
use Rattle.laws_sources.specs.WellWritten.{AreKnown, IsLinked, GivenAreLinked}

-- NO RULE

both_none : {A : Type 0} (o p : Option A) → option_or o p ≡ None → (o ≡ None) × (p ≡ None)
both_none None p is = (refl, is)
both_none (Some a) p is = absurd (let clash : Some a ≡ None = is in cc)

both_nothing : (place : Place) (o : Option Fault) (rest : List Broken) → broken_at place o ++ rest ≡ [] → (o ≡ None) × (rest ≡ [])
both_nothing place None rest is = (refl, is)
both_nothing place (Some f) rest is = absurd (let clash : record { rule = f.0; at = place; what = f.1 } ∷ rest ≡ [] = is in cc)

both_empty : {A : Type 0} (xs ys : List A) → xs ++ ys ≡ [] → (xs ≡ []) × (ys ≡ [])
both_empty [] ys is = (refl, is)
both_empty (x ∷ xs) ys is = absurd (let clash : x ∷ (xs ++ ys) ≡ [] = is in cc)

-- FILES

-- a file that isn't one of the library's breaks no rule, where all break none
given_from :
    (files : List File) (own k : ℕ) (fs : List File)
    → faults_from files own fs ≡ [] → k < length fs → is_library files (own + k) ≡ false
    → faults_of files (own + k) (get_or fs k []) ≡ []
given_from files own k [] none below given = absurd (omega (arith, below))
given_from files own k (f ∷ fs) none below given =
    by_library (is_library files own) refl none (λ j. given_from files (own + 1) j fs)
  where
    early : is_library files own ≡ true → ⊥
    early e =
        let far : length files ≤ own + library_size = leb-true (length files) (own + library_size) e in
        let farther : length files ≤ (own + k) + library_size = omega (arith, far) in
        true≢false (sym (le-leb (length files) ((own + k) + library_size) farther) ∙ given)

    Rest : Type 0
    Rest = (j : ℕ) → faults_from files (own + 1) fs ≡ [] → j < length fs → is_library files ((own + 1) + j) ≡ false → faults_of files ((own + 1) + j) (get_or fs j []) ≡ []

    later : (k : ℕ) → k < suc (length fs) → is_library files (own + k) ≡ false → faults_of files own f ≡ [] → faults_from files (own + 1) fs ≡ [] → Rest
        → faults_of files (own + k) (get_or (f ∷ fs) k []) ≡ []
    later zero below given first none rest = let here : own + 0 ≡ own = omega arith in ap (λ j. faults_of files j f) here ∙ first
    later (suc k) below given first none rest =
        let next : (own + 1) + k ≡ own + suc k = omega arith in
        subst (λ j. faults_of files j (get_or fs k []) ≡ []) next
        (rest k none (omega (arith, below)) (ap (is_library files) next ∙ given))

    by_library : (b : Bool) → is_library files own ≡ b → (if b then [] else faults_of files own f ++ faults_from files (own + 1) fs) ≡ [] → Rest → faults_of files (own + k) (get_or (f ∷ fs) k []) ≡ []
    by_library true e none rest = absurd (early e)
    by_library false e none rest =
        let parts = both_empty (faults_of files own f) (faults_from files (own + 1) fs) none in
        later k below given parts.0 parts.1 rest

-- THE NUMBER OF A MODULE

pub number_is : (o : Option ℕ) (k : ℕ) → is_number o k ≡ true → o ≡ Some k
number_is None k is = absurd (true≢false (sym is))
number_is (Some j) k is = ap Some (eqb-true j k is)

module _ (files : List File) (own : ℕ) where
  -- ITEMS

  abbrev Unbroken : PlainItemInFile → Type 0
  Unbroken s =
      (structure_fault (module_name (file_at files own)) s ≡ None)
      × (twice_given files own s.item ≡ None)
      × (invisible files own (uses s.item) ≡ None)

  abbrev EachUnbroken : List PlainItemInFile → Type 0
  EachUnbroken [] = Unit {0}
  EachUnbroken (s ∷ ss) = Unbroken s × EachUnbroken ss

  unbroken_by : (all : List PlainItemInFile) (before : List PlainDefinition) (s : PlainItemInFile) → fault files own all before s ≡ None → Unbroken s
  unbroken_by all before s none =
      let a = both_none (structure_fault (module_name (file_at files own)) s) _ none in
      let b = both_none (twice_given files own s.item) _ a.1 in
      let c = both_none (import_fault files s.item) _ b.1 in
      let d = both_none (invisible files own (uses s.item)) _ c.1 in
      (a.0, b.0, d.0)

  each_unbroken :
      (all : List PlainItemInFile) (before : List PlainDefinition) (ss : List PlainItemInFile)
      → first_rules (λ b. b.1.at) (λ b. fault files own all b.0 b.1) (with_before before ss) ≡ [] → EachUnbroken ss
  each_unbroken all before [] none = tt
  each_unbroken all before (s ∷ ss) none =
      let parts = both_nothing s.at (fault files own all before s) (first_rules (λ b. b.1.at) (λ b. fault files own all b.0 b.1) (with_before (before ++ definitions s.item) ss)) none in
      (unbroken_by all before s parts.0, each_unbroken all (before ++ definitions s.item) ss parts.1)

  known_items : (b : Bool) (at : Section) (f : File) → EachUnbroken (items_in_file_from b at f) → AreKnown files own f
  known_items b at [] each = tt
  known_items b at (e ∷ es) each = (each.0.2, known_items false (section_after at e.0) es each.1)

  -- THE FIRST ITEM

  abbrev given_twice : Path → Fault
  given_twice w = (R.N2, codes "module " ++ (joined w ++ codes " is given twice"))

  is_own : (b : Bool) (w : Path) → (if b then None else Some (given_twice w)) ≡ None → b ≡ true
  is_own true w none = refl
  is_own false w none = absurd (let clash : Some (given_twice w) ≡ None = none in cc)

  abbrev misplaced : Fault
  misplaced = (R.N1, codes "module structure")

  named_by : (i : PlainDecl) (p : Place) (es : File) (last : Bool)
      → structure_fault (module_name (file_at files own)) (record { item = i; at = p; section = S.Nowhere; is_first = true; is_last = last }) ≡ None
      → twice_given files own i ≡ None → module_of files (name_of ((i, p) ∷ es)) ≡ Some own
  named_by (ModuleStart w) p es last structure once = number_is (module_of files (joined w)) own (is_own (is_number (module_of files (joined w)) own) w once)
  named_by (ModuleEnd w) p es last structure once = absurd (let clash : Some misplaced ≡ None = structure in cc)
  named_by Interface p es last structure once = absurd (let clash : Some misplaced ≡ None = structure in cc)
  named_by Implementation p es last structure once = absurd (let clash : Some misplaced ≡ None = structure in cc)
  named_by (Imports ws) p es last structure once = absurd (let clash : Some misplaced ≡ None = structure in cc)
  named_by (UseOnly ws) p es last structure once = absurd (let clash : Some misplaced ≡ None = structure in cc)
  named_by (AbstractType h) p es last structure once = absurd (let clash : Some misplaced ≡ None = structure in cc)
  named_by (UnionType h ts) p es last structure once = absurd (let clash : Some misplaced ≡ None = structure in cc)
  named_by (SameType h t) p es last structure once = absurd (let clash : Some misplaced ≡ None = structure in cc)
  named_by (SameInst h t) p es last structure once = absurd (let clash : Some misplaced ≡ None = structure in cc)
  named_by (BoundInst h ts) p es last structure once = absurd (let clash : Some misplaced ≡ None = structure in cc)
  named_by (ModeDef h t) p es last structure once = absurd (let clash : Some misplaced ≡ None = structure in cc)
  named_by (Pred t d) p es last structure once = absurd (let clash : Some misplaced ≡ None = structure in cc)
  named_by (Func t d) p es last structure once = absurd (let clash : Some misplaced ≡ None = structure in cc)
  named_by (Mode t d) p es last structure once = absurd (let clash : Some misplaced ≡ None = structure in cc)
  named_by Pragma p es last structure once = absurd (let clash : Some misplaced ≡ None = structure in cc)
  named_by (Clause t) p es last structure once = absurd (let clash : Some misplaced ≡ None = structure in cc)

  file_linked : (f : File) → file_at files own ≡ f → faults_of files own f ≡ [] → IsLinked files own
  file_linked [] is none = absurd (let clash : record { rule = R.N1; at = record { file = own; line = 1 }; what = codes "module structure" } ∷ [] ≡ [] = none in cc)
  file_linked (e ∷ es) is none =
      let each = each_unbroken (items_in_file (e ∷ es)) [] (items_in_file (e ∷ es)) none in
      record {
        named = ap (λ f. module_of files (name_of f)) is ∙ named_by e.0 e.1 es (is_empty es) each.0.0 each.0.1;
        known = subst (AreKnown files own) (sym is) (known_items true S.Nowhere (e ∷ es) each);
      }

pub given_are_linked : GivenAreLinked
given_are_linked files own none below given =
    let here : 0 + own ≡ own = omega arith in
    file_linked files own (file_at files own) refl
    (subst (λ k. faults_of files k (file_at files own) ≡ []) here
    (given_from files 0 own files none below (ap (is_library files) here ∙ given)))
