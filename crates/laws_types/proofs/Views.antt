-- What is declared in a view of the definitions of types: the types that are written, where equivalences are replaced.
use Rattle.std.proofs.Common.{◌≡◌, ℕ, zero, suc, ◌+◌, true, false, List, [], ◌∷◌, ◌++◌, map, length, get_or, refl, sym, ap, ap₂, ◌∙◌}
use Rattle.std.specs.Prelude.{Option, Some, None, slice_get}
use Rattle.std.proofs.lemmas.List.{map-append}
use Rattle.mc_term_data.specs.Plain.{PlainTerm, PlainTerms, no_term, more_terms}
use Rattle.mc_program.specs.Programs.{TypeTerm, Constructor, Predicate}
use Rattle.mc_program.specs.PlainPrograms.{no_symbol, no_pred}
use Rattle.mc_program.specs.declared.program.TypeDef.{TypeDef}
use Rattle.mc_model.specs.Lists.{is_in, from}
use Rattle.mc_accepted.specs.ProperTypes.{EachProper}
use Rattle.mc_decl_syntax.specs.Plain.{PlainDecl, UnionType, SameType}
use Rattle.mc_names.specs.Linked.{Defined, Linked, defining_module}
use Rattle.mc_type_table.specs.Written.{written_type}
use Rattle.mc_names.specs.Parameters.{parameters_of}
use Rattle.mc_type_table.specs.Expanded.{equivalent_by, equivalent_of, replaced, after_rounds, expanded}
use Rattle.mc_type_table.specs.Rules.{constructor_fields, type_faults}
use Rattle.mc_type_table.specs.Table.{constructor_count, table_from}
use Rattle.mc_declarations.specs.Declarations.{parameter_counts, listed_types, constructor_of, constructors_in, constructors_by, constructors_from, predicate_of}
use Rattle.mc_declarations.specs.Proper.{AreWellWritten}
use Rattle.mc_declarations.proofs.Replaced.{AreProper}
use Rattle.mc_declarations.proofs.Fitting.{constructors_fit, predicates_fit}
use Rattle.laws_types.proofs.Instances.{undefined_stays}

-- no type is defined as another
abbrev pub nothing : ℕ → Option TypeTerm
nothing u = None

nothing_after : (n u : ℕ) → after_rounds n nothing u ≡ None
nothing_after zero u = refl
nothing_after (suc n) u = refl

pub nothing_fits : (l : Linked) → AreProper (parameter_counts l) nothing
nothing_fits l u b is = absurd (let clash : None ≡ Some b = is in cc)

-- constructors and predicates as they are written
abbrev pub written_symbol : Linked → ℕ → Constructor
written_symbol l s = get_or (constructors_from l nothing 0 l.types) s no_symbol

abbrev pub written_pred : Linked → ℕ → Predicate
written_pred l p = get_or (map (predicate_of l nothing) l.preds) p no_pred

module _ (l : Linked) (E : ℕ → Option TypeTerm) where
  -- types without equivalences
  abbrev pub seen : TypeTerm → TypeTerm
  seen t = replaced (after_rounds (length l.types) E) t

  written_stays : (t : TypeTerm) → expanded l E t ≡ seen (expanded l nothing t)
  written_stays t = ap seen (sym (undefined_stays (after_rounds (length l.types) nothing) (nothing_after (length l.types)) t))

  all_written : (ts : List TypeTerm) → map (expanded l E) ts ≡ map seen (map (expanded l nothing) ts)
  all_written [] = refl
  all_written (t ∷ ts) = ap₂ (λ x xs. x ∷ xs) (written_stays t) (all_written ts)

  fields_written :
      (own : ℕ) (vs : List (List ℕ)) (fs : List PlainTerm)
      → map (λ f. expanded l E (written_type l own vs f)) fs
      ≡ map seen (map (λ f. expanded l nothing (written_type l own vs f)) fs)
  fields_written own vs [] = refl
  fields_written own vs (f ∷ fs) = ap₂ (λ x xs. x ∷ xs) (written_stays (written_type l own vs f)) (fields_written own vs fs)

  -- CONSTRUCTORS
  abbrev with_seen : Constructor → Constructor
  with_seen c = record { name = c.name; of_type = c.of_type; args = map seen c.args }

  constructors_seen :
      (w : List ℕ) (u own : ℕ) (vs : List (List ℕ)) (ts : PlainTerms)
      → constructors_in l E w u own vs ts ≡ map with_seen (constructors_in l nothing w u own vs ts)
  constructors_seen w u own vs no_term = refl
  constructors_seen w u own vs (more_terms t ts) =
      let c = constructor_of l nothing w u own vs t in
      let it : constructor_of l E w u own vs t ≡ with_seen c =
      ap (λ (as' : List TypeTerm). record { name = c.name; of_type = u; args = as' }) (fields_written own vs (constructor_fields t)) in
      ap₂ (λ x xs. x ∷ xs) it (constructors_seen w u own vs ts)

  item_seen : (u : ℕ) (d : Defined) (i : PlainDecl) → constructors_by l E u d i ≡ map with_seen (constructors_by l nothing u d i)
  item_seen u d (UnionType h ts) = constructors_seen d.name.«module» u (defining_module l d) (parameters_of h) ts
  item_seen u d i = refl

  all_seen : (u : ℕ) (ds : List Defined) → constructors_from l E u ds ≡ map with_seen (constructors_from l nothing u ds)
  all_seen u [] = refl
  all_seen u (d ∷ ds) =
      ap₂ (λ xs ys. xs ++ ys) (item_seen u d d.item) (all_seen (suc u) ds)
      ∙ sym (map-append with_seen (constructors_by l nothing u d d.item) (constructors_from l nothing (suc u) ds))

  seen_at : (cs : List Constructor) (s : ℕ) → get_or (map with_seen cs) s no_symbol ≡ with_seen (get_or cs s no_symbol)
  seen_at [] s = refl
  seen_at (c ∷ cs) zero = refl
  seen_at (c ∷ cs) (suc s) = seen_at cs s

  symbol_seen : (s : ℕ) → get_or (constructors_from l E 0 l.types) s no_symbol ≡ with_seen (written_symbol l s)
  symbol_seen s = ap (λ cs. get_or cs s no_symbol) (all_seen 0 l.types) ∙ seen_at (constructors_from l nothing 0 l.types) s

  pub args_seen : (s : ℕ) → (get_or (constructors_from l E 0 l.types) s no_symbol).args ≡ map seen (written_symbol l s).args
  args_seen s = ap (λ (c : Constructor). c.args) (symbol_seen s)

  pub type_seen : (s : ℕ) → (get_or (constructors_from l E 0 l.types) s no_symbol).of_type ≡ (written_symbol l s).of_type
  type_seen s = ap (λ (c : Constructor). c.of_type) (symbol_seen s)

  -- PREDICATES
  preds_seen :
      (ds : List Defined) (p : ℕ)
      → (get_or (map (predicate_of l E) ds) p no_pred).types
      ≡ map seen (get_or (map (predicate_of l nothing) ds) p no_pred).types
  preds_seen [] p = refl
  preds_seen (d ∷ ds) zero = all_written (listed_types _)
  preds_seen (d ∷ ds) (suc p) = preds_seen ds p

  pub types_seen : (p : ℕ) → (get_or (map (predicate_of l E) l.preds) p no_pred).types ≡ map seen (written_pred l p).types
  types_seen p = preds_seen l.preds p

-- what is written is well formed
module _ (l : Linked) (well : AreWellWritten l) (none : type_faults l ≡ []) where
  pub written_args : (s : ℕ) → EachProper (parameter_counts l) (written_symbol l s).args
  written_args s = (constructors_fit l nothing (nothing_fits l) well none s).proper

  pub written_types : (p : ℕ) → EachProper (parameter_counts l) (written_pred l p).types
  written_types p = predicates_fit l nothing (nothing_fits l) well none p

-- A TYPE THAT LISTS CONSTRUCTORS is defined as no other
listed_by :
    (l : Linked) (own n s : ℕ) (i : PlainDecl)
    → is_in s (from n (constructor_count i)) ≡ true → equivalent_by l own i ≡ None
listed_by l own n s (UnionType h ts) there = refl
listed_by l own n s (SameType h t) there = absurd (let clash : false ≡ true = there in cc)
listed_by l own n s i there = refl

listed_from :
    (l : Linked) (n s : ℕ) (ds : List Defined) (u : ℕ)
    → is_in s (get_or (map (λ (t : TypeDef). t.symbols) (table_from n ds)) u []) ≡ true
    → equivalent_of l (slice_get ds u) ≡ None
listed_from l n s [] u h = refl
listed_from l n s (d ∷ ds) zero h = listed_by l (defining_module l d) n s d.item h
listed_from l n s (d ∷ ds) (suc u) h = listed_from l (n + constructor_count d.item) s ds u h

pub listed_undefined :
    (l : Linked) (s u : ℕ)
    → is_in s (get_or (map (λ (t : TypeDef). t.symbols) (table_from 0 l.types)) u []) ≡ true
    → equivalent_of l (slice_get l.types u) ≡ None
listed_undefined l s u h = listed_from l 0 s l.types u h
