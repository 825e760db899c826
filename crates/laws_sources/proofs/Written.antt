-- What files declare that are linked is well written.
use Rattle.std.proofs.Common.{◌≡◌, ℕ, zero, suc, ◌<◌, Bool, true, false, List, [], ◌∷◌, ◌++◌, length, get_or, refl, sym, subst, arith}
use Rattle.std.specs.Prelude.{Some, None, codes, slice_get, if◌then◌else◌}
use Rattle.std.specs.Option.{is_some}
use Rattle.std.specs.Set.{is_member}
use Rattle.mc_term_data.specs.Plain.{PlainTerm, at, Var, Int, Str, App, Items, Tailed, Conj, Disj}
use Rattle.mc_term_data.specs.Shapes.{operands}
use Rattle.mc_decl_syntax.specs.Plain.{PlainDecl, ModuleStart, ModuleEnd, Interface, Implementation, Imports, UseOnly, AbstractType, UnionType, SameType, SameInst, BoundInst, ModeDef, Pred, Func, Mode, Pragma, Clause}
use Rattle.mc_decl_syntax.specs.Terms.{parameters}
use Rattle.mc_names.specs.declared.definition.Kind.TheVariants as K
use Rattle.mc_names.specs.Plain.{PlainNameArity, definition, is_definition}
use Rattle.mc_names.specs.Definitions.{head_name, func_name, definitions}
use Rattle.mc_defs_uses.specs.Occurrences.{uses}
use Rattle.mc_modules.specs.declared.section.Section.{Section}
use Rattle.mc_modules.specs.declared.section.Section.TheVariants as S
use Rattle.mc_decl_syntax.specs.Entries.{File}
use Rattle.mc_modules.specs.Files.{PlainItemInFile, items_in_file, items_in_file_from, section_after, is_empty, definitions_of, is_shown, shown_of, has}
use Rattle.mc_modules.specs.Visible.{is_library, file_at}
use Rattle.mc_names.specs.Linked.{Defined, defining_module, module_from}
use Rattle.mc_modules.specs.Linked.{linked, defined, types_by, types_in, of_kind, is_pred, sorted_in, name_of, types_of, preds_of, each, flat, scopes_from}
use Rattle.mc_type_table.specs.Rules.{union_fields}
use Rattle.mc_declarations.specs.Declarations.{type_terms_of}
use Rattle.mc_declarations.specs.Proper.{IsHeadOf, IsMeant, AreMeant, EachMeant, IsWellWritten, AreWellWritten}
use Rattle.laws_sources.specs.WellWritten.{HasForm, HaveForm, AllHaveForm, AreKnown, IsLinked, WellWritten}
use Rattle.laws_sources.proofs.Given.{given_are_linked}
use Rattle.laws_sources.proofs.Homes.{home_is}
use Rattle.laws_sources.proofs.Meanings.{never}
use Rattle.laws_sources.proofs.Meant.{Known, known, type_meant, union_meant, pred_meant, func_meant}

-- EACH DEFINITION

abbrev Each : (Defined → Type 0) → List Defined → Type 0
Each P [] = Unit {0}
Each P (d ∷ ds) = P d × Each P ds

each_both : (P : Defined → Type 0) (ds es : List Defined) → Each P ds → Each P es → Each P (ds ++ es)
each_both P [] es all more = more
each_both P (d ∷ ds) es all more = (all.0, each_both P ds es all.1 more)

each_at : (P : Defined → Type 0) (ds : List Defined) (u : ℕ) (d : Defined) → Each P ds → slice_get ds u ≡ Some d → P d
each_at P [] u d all there = absurd (let clash : None ≡ Some d = there in cc)
each_at P (x ∷ ds) zero d all there = let same : x ≡ d = cc in subst P same all.0
each_at P (x ∷ ds) (suc u) d all there = each_at P ds u d all.1 there

each_of : (P : Defined → Type 0) (of : File → List Defined) (fs : List File) → ((k : ℕ) → k < length fs → Each P (of (get_or fs k []))) → Each P (flat (each of fs))
each_of P of [] all = tt
each_of P of (f ∷ fs) all =
    each_both P (of f) (flat (each of fs)) (all 0 (omega arith)) (each_of P of fs (λ k below. all (suc k) (omega (arith, below))))

form_at : (fs : List File) (k : ℕ) → AllHaveForm fs → HaveForm (get_or fs k [])
form_at [] k all = tt
form_at (f ∷ fs) zero all = all.0
form_at (f ∷ fs) (suc k) all = form_at fs k all.1

-- HEADS

head_is : (m : List ℕ) (s : PlainItemInFile) (e : Bool) (i : PlainDecl) (h : PlainTerm) → is_some (parameters h) ≡ true → IsHeadOf (defined m s e i (head_name h)) h
head_is m s e i (at (Var x) line) form = never form
head_is m s e i (at (App [] ts) line) form = never form
head_is m s e i (at (App (w ∷ []) ts) line) form = refl
head_is m s e i (at (App (w ∷ v ∷ ws) ts) line) form = never form
head_is m s e i (at (Int n) line) form = never form
head_is m s e i (at (Str w) line) form = never form
head_is m s e i (at (Items ts) line) form = never form
head_is m s e i (at (Tailed ts t) line) form = never form
head_is m s e i (at (Conj ts) line) form = never form
head_is m s e i (at (Disj ts) line) form = never form

module _ (files : List File) where
  abbrev TypeIs : Defined → Type 0
  TypeIs d = IsWellWritten (linked files) d d.item

  abbrev PredIs : Defined → Type 0
  PredIs d = AreMeant (linked files) (defining_module (linked files) d) (type_terms_of d.item)

  module _ (own : ℕ) (below : own < length files) (here : module_from 0 (name_of (file_at files own)) (scopes_from files 0 files) ≡ own) where
    abbrev m : List ℕ
    m = name_of (file_at files own)

    -- TYPES

    item_so : (s : PlainItemInFile) (e : Bool) (i : PlainDecl) (x : PlainNameArity) → s.item ≡ i → TypeIs (defined m s e i x) → TypeIs (defined m s e s.item x)
    item_so s e i x same well = subst (λ i. TypeIs (defined m s e i x)) (sym same) well

    types_by_item : (all : List PlainItemInFile) (s : PlainItemInFile) (i : PlainDecl) → s.item ≡ i → HasForm i → Known files own below (uses i) → Each TypeIs (types_by m all s i)
    types_by_item all s (AbstractType h) same form seen = by (is_member is_definition (definitions_of all) (definition K.DefinedType (head_name h)))
      where
        by : (b : Bool) → Each TypeIs (if b then [] else defined m s (has K.DefinedType (head_name h) (shown_of all)) s.item (head_name h) ∷ [])
        by true = tt
        by false = (item_so s (has K.DefinedType (head_name h) (shown_of all)) (AbstractType h) (head_name h) same tt, tt)
    types_by_item all s (UnionType h ts) same form seen =
        let shown = has K.DefinedType (head_name h) (shown_of all) in (
          item_so s shown (UnionType h ts) (head_name h) same (
            head_is m s shown (UnionType h ts) h form.0,
            form.1,
            subst (λ k. EachMeant (linked files) k (union_fields ts)) (sym here) (union_meant files own below ts form.1 seen),
          ),
          tt,
        )
    types_by_item all s (SameType h t) same form seen =
        let shown = has K.DefinedType (head_name h) (shown_of all) in (
          item_so s shown (SameType h t) (head_name h) same
              (head_is m s shown (SameType h t) h form.0, subst (λ k. IsMeant (linked files) k t) (sym here) (type_meant files own below t form.1 seen)),
          tt,
        )
    types_by_item all s (ModuleStart w) same form seen = tt
    types_by_item all s (ModuleEnd w) same form seen = tt
    types_by_item all s Interface same form seen = tt
    types_by_item all s Implementation same form seen = tt
    types_by_item all s (Imports ws) same form seen = tt
    types_by_item all s (UseOnly ws) same form seen = tt
    types_by_item all s (SameInst h t) same form seen = tt
    types_by_item all s (BoundInst h ts) same form seen = tt
    types_by_item all s (ModeDef h t) same form seen = tt
    types_by_item all s (Pred t d) same form seen = tt
    types_by_item all s (Func t d) same form seen = tt
    types_by_item all s (Mode t d) same form seen = tt
    types_by_item all s Pragma same form seen = tt
    types_by_item all s (Clause t) same form seen = tt

    types_by_items : (all : List PlainItemInFile) (b : Bool) (part : Section) (f : File) → HaveForm f → AreKnown files own f → Each TypeIs (types_in m all (items_in_file_from b part f))
    types_by_items all b part [] form seen = tt
    types_by_items all b part (e ∷ es) form seen =
        let s : PlainItemInFile = record { item = e.0; at = e.1; section = part; is_first = b; is_last = is_empty es } in
        each_both TypeIs (types_by m all s e.0) (types_in m all (items_in_file_from false (section_after part e.0) es))
        (types_by_item all s e.0 refl form.0 (known files own below (uses e.0) seen.0))
        (types_by_items all false (section_after part e.0) es form.1 seen.1)

    -- PREDICATES AND FUNCTIONS

    pred_so : (s : PlainItemInFile) (i : PlainDecl) (x : PlainNameArity) → s.item ≡ i → AreMeant (linked files) own (type_terms_of i) → PredIs (defined m s (is_shown s.section) s.item x)
    pred_so s i x same meant =
        subst (λ i. PredIs (defined m s (is_shown s.section) i x)) (sym same) (subst (λ k. AreMeant (linked files) k (type_terms_of i)) (sym here) meant)

    preds_by_item : (s : PlainItemInFile) (i : PlainDecl) → s.item ≡ i → HasForm i → Known files own below (uses i) → Each PredIs (of_kind m s (is_pred i) (definitions i))
    preds_by_item s (Pred t d) same form seen = (pred_so s (Pred t d) (head_name t) same (pred_meant files own below t (is_some d) form seen), tt)
    preds_by_item s (Func t d) same form seen = (pred_so s (Func t d) (func_name (operands (codes "=") t)) same (func_meant files own below (operands (codes "=") t) (is_some d) form seen), tt)
    preds_by_item s (AbstractType h) same form seen = tt
    preds_by_item s (UnionType h ts) same form seen = tt
    preds_by_item s (SameType h t) same form seen = tt
    preds_by_item s (ModuleStart w) same form seen = tt
    preds_by_item s (ModuleEnd w) same form seen = tt
    preds_by_item s Interface same form seen = tt
    preds_by_item s Implementation same form seen = tt
    preds_by_item s (Imports ws) same form seen = tt
    preds_by_item s (UseOnly ws) same form seen = tt
    preds_by_item s (SameInst h t) same form seen = tt
    preds_by_item s (BoundInst h ts) same form seen = tt
    preds_by_item s (ModeDef h t) same form seen = tt
    preds_by_item s (Mode t d) same form seen = tt
    preds_by_item s Pragma same form seen = tt
    preds_by_item s (Clause t) same form seen = tt

    preds_by_items : (b : Bool) (part : Section) (f : File) → HaveForm f → AreKnown files own f → Each PredIs (sorted_in is_pred m (items_in_file_from b part f))
    preds_by_items b part [] form seen = tt
    preds_by_items b part (e ∷ es) form seen =
        let s : PlainItemInFile = record { item = e.0; at = e.1; section = part; is_first = b; is_last = is_empty es } in
        each_both PredIs (of_kind m s (is_pred e.0) (definitions e.0)) (sorted_in is_pred m (items_in_file_from false (section_after part e.0) es))
        (preds_by_item s e.0 refl form.0 (known files own below (uses e.0) seen.0))
        (preds_by_items false (section_after part e.0) es form.1 seen.1)

  -- FILES

  module _ (forms : AllHaveForm files) (all : (own : ℕ) → own < length files → IsLinked files own) where
    its_home : (own : ℕ) → own < length files → module_from 0 (name_of (file_at files own)) (scopes_from files 0 files) ≡ own
    its_home own below = home_is files (λ k within. (all k within).named) own below

    types_so : Each TypeIs (linked files).types
    types_so =
        each_of TypeIs types_of files
        (λ k below.
        types_by_items k below (its_home k below) (items_in_file (file_at files k)) true S.Nowhere (file_at files k) (form_at files k forms) (all k below).known)

    preds_so : Each PredIs (linked files).preds
    preds_so =
        each_of PredIs preds_of files
        (λ k below.
        preds_by_items k below (its_home k below) true S.Nowhere (file_at files k) (form_at files k forms) (all k below).known)

    are_well_written : AreWellWritten (linked files)
    are_well_written =
        record {
          types = λ u d there. each_at TypeIs (linked files).types u d types_so there;
          preds = λ p d there. each_at PredIs (linked files).preds p d preds_so there;
        }

pub well_written : WellWritten
well_written files forms none library = are_well_written files forms (λ own below. by own below (is_library files own) refl)
  where
    by : (own : ℕ) → own < length files → (b : Bool) → is_library files own ≡ b → IsLinked files own
    by own below true e = library own below e
    by own below false e = given_are_linked files own none below e
