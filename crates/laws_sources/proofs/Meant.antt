-- Types of which each name is known mean types.
use Rattle.std.proofs.Common.{◌≡◌, ℕ, ◌<◌, Bool, true, false, not, ◌&&◌, ◌||◌, inl, inr, List, [], ◌∷◌, ◌++◌, length, refl}
use Rattle.std.specs.Prelude.{Option, Some, None, codes, nat_eq, if◌then◌else◌}
use Rattle.std.proofs.lemmas.Bool.{and_parts, or_cases}
use Rattle.mc_term_data.specs.Plain.{PlainTerm, PlainTerms, at, no_term, more_terms, Var, Int, Str, App, Items, Tailed, Conj, Disj}
use Rattle.mc_term_data.specs.Names.{count}
use Rattle.mc_term_data.specs.Shapes.{is_word, has_one, operands}
use Rattle.mc_source.specs.Rules.{Fault}
use Rattle.mc_source.specs.declared.rule.Rule.TheVariants as R
use Rattle.mc_decl_syntax.specs.Plain.{Path}
use Rattle.mc_decl_syntax.specs.Types.{is_type, are_types, is_field_name, field_of, is_field, are_fields, is_constructor, are_constructors}
use Rattle.mc_decl_syntax.specs.Insts.{is_mode}
use Rattle.mc_decl_syntax.specs.Declarations.{moded_as, is_moded, plain_as, is_plain, are_moded, are_plain, is_pred, is_func_over, is_func}
use Rattle.mc_names.specs.Plain.{PlainOccurrence, shown}
use Rattle.mc_defs_uses.specs.Occurrences as U
use Rattle.mc_decl_syntax.specs.Entries.{File}
use Rattle.mc_modules.specs.Visible.{meanings}
use Rattle.mc_modules.specs.Faults.{invisible}
use Rattle.mc_modules.specs.Linked.{linked}
use Rattle.mc_type_table.specs.Rules.{field_by, field, fields, constructor_fields, union_fields}
use Rattle.mc_clauses.specs.Unresolved.{arguments_of, and_result}
use Rattle.mc_declarations.specs.Declarations.{without_mode_by, without_mode, without_modes, with_result}
use Rattle.mc_declarations.specs.Proper.{IsMeant, AreMeant, EachMeant}
use Rattle.laws_sources.proofs.Meanings.{never, means}

module _ (files : List File) (own : ℕ) (below : own < length files) where
  -- each use of a name has a meaning
  abbrev pub Known : List PlainOccurrence → Type 0
  Known [] = Unit {0}
  Known (u ∷ us) = (nat_eq (meanings files own u) 0 ≡ false) × Known us

  abbrev unknown : PlainOccurrence → Fault
  unknown u = (R.N4, shown u.id ++ codes " is not visible")

  pub known : (us : List PlainOccurrence) → invisible files own us ≡ None → Known us
  known [] none = tt
  known (u ∷ us) none = by (nat_eq (meanings files own u) 0) refl none (known us)
    where
      by : (b : Bool) → nat_eq (meanings files own u) 0 ≡ b → (if b then Some (unknown u) else invisible files own us) ≡ None
          → (invisible files own us ≡ None → Known us) → Known (u ∷ us)
      by true e none rest = absurd (let clash : Some (unknown u) ≡ None = none in cc)
      by false e none rest = (e, rest none)

  known_parts : (us vs : List PlainOccurrence) → Known (us ++ vs) → Known us × Known vs
  known_parts [] vs all = (tt, all)
  known_parts (u ∷ us) vs all = let rest = known_parts us vs all.1 in ((all.0, rest.0), rest.1)

  -- a name's use with those of its arguments, in any order
  known_in_order : (b : Bool) (u : PlainOccurrence) (first others : List PlainOccurrence) → Known (U.in_order b (u ∷ []) first others)
      → (nat_eq (meanings files own u) 0 ≡ false) × Known first × Known others
  known_in_order true u first others all =
      let parts = known_parts first (u ∷ others) all in (parts.1.0, parts.0, parts.1.1)
  known_in_order false u first others all =
      let parts = known_parts first others all.1 in (all.0, parts.0, parts.1)

  -- TYPES

  mutual
    meant : (t : PlainTerm) → is_type t ≡ true → Known (U.types_in t) → IsMeant (linked files) own t
    meant (at (Var x) line) form all = tt
    meant (at (App w ts) line) form all = meant_over w line (nat_eq (count ts) 2 && U.is_infix w) ts form all
    meant (at (Int n) line) form all = never form
    meant (at (Str w) line) form all = never form
    meant (at (Items ts) line) form all = never form
    meant (at (Tailed ts t) line) form all = never form
    meant (at (Conj ts) line) form all = never form
    meant (at (Disj ts) line) form all = never form

    meant_over : (w : Path) (line : ℕ) (b : Bool) (ts : PlainTerms) → are_types ts ≡ true → Known (U.types_over w b (count ts) ts) → IsMeant (linked files) own (at (App w ts) line)
    meant_over w line b no_term form all = (means files own w 0 below all.0, tt)
    meant_over w line b (more_terms t ts) form all =
        let parts = known_in_order b _ (U.types_in t) (U.all_types ts) all in
        let forms = and_parts (is_type t) (are_types ts) form in (
          means files own w (count (more_terms t ts)) below parts.0,
          (meant t forms.0 parts.1, all_meant ts forms.1 parts.2),
        )

    all_meant : (ts : PlainTerms) → are_types ts ≡ true → Known (U.all_types ts) → AreMeant (linked files) own ts
    all_meant no_term form all = tt
    all_meant (more_terms t ts) form all =
        let parts = known_parts (U.types_in t) (U.all_types ts) all in
        let forms = and_parts (is_type t) (are_types ts) form in
        (meant t forms.0 parts.0, all_meant ts forms.1 parts.1)

  pub type_meant : (t : PlainTerm) → is_type t ≡ true → Known (U.types_in t) → IsMeant (linked files) own t
  type_meant = meant

  -- UNIONS

  field_meant : (t : PlainTerm) (o : Option (PlainTerm × PlainTerm)) → field_of t o ≡ true → Known (U.field_by t o) → IsMeant (linked files) own (field_by t o)
  field_meant t None form all = meant t form all
  field_meant t (Some p) form all = meant p.1 (and_parts (is_field_name p.0) (is_type p.1) form).1 all

  both_meant : (fs gs : List PlainTerm) → EachMeant (linked files) own fs → EachMeant (linked files) own gs → EachMeant (linked files) own (fs ++ gs)
  both_meant [] gs first rest = rest
  both_meant (f ∷ fs) gs first rest = (first.0, both_meant fs gs first.1 rest)

  fields_meant : (ts : PlainTerms) → are_fields ts ≡ true → Known (U.all_fields ts) → EachMeant (linked files) own (fields ts)
  fields_meant no_term form all = tt
  fields_meant (more_terms t ts) form all =
      let parts = known_parts (U.field_by t (operands (codes "::") t)) (U.all_fields ts) all in
      let forms = and_parts (is_field t) (are_fields ts) form in
      (field_meant t (operands (codes "::") t) forms.0 parts.0, fields_meant ts forms.1 parts.1)

  constructor_meant : (t : PlainTerm) → is_constructor t ≡ true → Known (U.constructor_in t) → EachMeant (linked files) own (constructor_fields t)
  constructor_meant (at (Var x) line) form all = tt
  constructor_meant (at (App w ts) line) form all = fields_meant ts (and_parts (is_word w) (are_fields ts) form).1 all
  constructor_meant (at (Int n) line) form all = tt
  constructor_meant (at (Str w) line) form all = tt
  constructor_meant (at (Items ts) line) form all = tt
  constructor_meant (at (Tailed ts t) line) form all =
      let forms = and_parts (has_one ts && are_fields ts) (is_field t) form in
      let parts = known_parts (U.all_fields ts) (U.field_by t (operands (codes "::") t)) all in
      both_meant (fields ts) (field t ∷ []) (fields_meant ts (and_parts (has_one ts) (are_fields ts) forms.0).1 parts.0)
      (field_meant t (operands (codes "::") t) forms.1 parts.1, tt)
  constructor_meant (at (Conj ts) line) form all = tt
  constructor_meant (at (Disj ts) line) form all = tt

  pub union_meant : (ts : PlainTerms) → are_constructors ts ≡ true → Known (U.all_constructors ts) → EachMeant (linked files) own (union_fields ts)
  union_meant no_term form all = tt
  union_meant (more_terms t ts) form all =
      let parts = known_parts (U.constructor_in t) (U.all_constructors ts) all in
      let forms = and_parts (is_constructor t) (are_constructors ts) form in
      both_meant (constructor_fields t) (union_fields ts) (constructor_meant t forms.0 parts.0) (union_meant ts forms.1 parts.1)

  -- PREDICATES AND FUNCTIONS

  moded_meant : (t : PlainTerm) (o : Option (PlainTerm × PlainTerm)) → moded_as o ≡ true → Known (U.parameter_by t o) → IsMeant (linked files) own (without_mode_by t o)
  moded_meant t None form all = never form
  moded_meant t (Some p) form all = meant p.0 (and_parts (is_type p.0) (is_mode [] p.1) form).0 (known_parts (U.types_in p.0) (U.modes_in p.1) all).0

  plain_meant : (t : PlainTerm) (o : Option (PlainTerm × PlainTerm)) → plain_as t o ≡ true → Known (U.parameter_by t o) → IsMeant (linked files) own (without_mode_by t o)
  plain_meant t None form all = meant t form all
  plain_meant t (Some p) form all = never form

  all_moded_meant : (ts : PlainTerms) → are_moded ts ≡ true → Known (U.all_parameters ts) → AreMeant (linked files) own (without_modes ts)
  all_moded_meant no_term form all = tt
  all_moded_meant (more_terms t ts) form all =
      let parts = known_parts (U.parameter_in t) (U.all_parameters ts) all in
      let forms = and_parts (is_moded t) (are_moded ts) form in
      (moded_meant t (operands (codes "::") t) forms.0 parts.0, all_moded_meant ts forms.1 parts.1)

  all_plain_meant : (ts : PlainTerms) → are_plain ts ≡ true → Known (U.all_parameters ts) → AreMeant (linked files) own (without_modes ts)
  all_plain_meant no_term form all = tt
  all_plain_meant (more_terms t ts) form all =
      let parts = known_parts (U.parameter_in t) (U.all_parameters ts) all in
      let forms = and_parts (is_plain t) (are_plain ts) form in
      (plain_meant t (operands (codes "::") t) forms.0 parts.0, all_plain_meant ts forms.1 parts.1)

  pub pred_meant : (t : PlainTerm) (d : Bool) → is_pred t d ≡ true → Known (U.parameters_of t) → AreMeant (linked files) own (without_modes (arguments_of t))
  pred_meant (at (Var x) line) d form all = never form
  pred_meant (at (App w ts) line) d form all =
      elim (or_cases (are_moded ts) (not d && are_plain ts) (and_parts (is_word w) (are_moded ts || not d && are_plain ts) form).1) [
        | inl moded ↦ all_moded_meant ts moded all
        | inr plain ↦ all_plain_meant ts (and_parts (not d) (are_plain ts) plain).1 all
      ]
  pred_meant (at (Int n) line) d form all = never form
  pred_meant (at (Str w) line) d form all = never form
  pred_meant (at (Items ts) line) d form all = never form
  pred_meant (at (Tailed ts t) line) d form all = never form
  pred_meant (at (Conj ts) line) d form all = never form
  pred_meant (at (Disj ts) line) d form all = never form

  result_meant : (ts : PlainTerms) (r : PlainTerm) → AreMeant (linked files) own ts → IsMeant (linked files) own r → AreMeant (linked files) own (and_result ts r)
  result_meant no_term r first last = (last, tt)
  result_meant (more_terms t ts) r first last = (first.0, result_meant ts r first.1 last)

  func_over_meant : (h r : PlainTerm) (d : Bool) → is_func_over h r d ≡ true → Known (U.parameters_of h ++ U.parameter_in r)
      → AreMeant (linked files) own (and_result (without_modes (arguments_of h)) (without_mode r))
  func_over_meant (at (Var x) line) r d form all = never form
  func_over_meant (at (App w ts) line) r d form all =
      let parts = known_parts (U.all_parameters ts) (U.parameter_in r) all in
      elim (or_cases (are_moded ts && is_moded r) (not d && are_plain ts && is_plain r) (and_parts (is_word w) (are_moded ts && is_moded r || not d && are_plain ts && is_plain r) form).1) [
        | inl moded ↦
            let forms = and_parts (are_moded ts) (is_moded r) moded in
            result_meant (without_modes ts) (without_mode r) (all_moded_meant ts forms.0 parts.0) (moded_meant r (operands (codes "::") r) forms.1 parts.1)
        | inr plain ↦
            let forms = and_parts (not d && are_plain ts) (is_plain r) plain in
            result_meant (without_modes ts) (without_mode r) (all_plain_meant ts (and_parts (not d) (are_plain ts) forms.0).1 parts.0) (plain_meant r (operands (codes "::") r) forms.1 parts.1)
      ]
  func_over_meant (at (Int n) line) r d form all = never form
  func_over_meant (at (Str w) line) r d form all = never form
  func_over_meant (at (Items ts) line) r d form all = never form
  func_over_meant (at (Tailed ts t) line) r d form all = never form
  func_over_meant (at (Conj ts) line) r d form all = never form
  func_over_meant (at (Disj ts) line) r d form all = never form

  pub func_meant : (o : Option (PlainTerm × PlainTerm)) (d : Bool) → is_func o d ≡ true → Known (U.func_by o) → AreMeant (linked files) own (with_result o)
  func_meant None d form all = never form
  func_meant (Some p) d form all = func_over_meant p.0 p.1 d form all
