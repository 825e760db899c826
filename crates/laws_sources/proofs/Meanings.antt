-- A type's name that linking finds means a type.
use Rattle.std.proofs.Common.{◌≡◌, ◌≢◌, ◌⊎◌, inl, inr, ℕ, zero, suc, ◌+◌, ◌<◌, Bool, true, false, not, ◌&&◌, ◌||◌, List, [], ◌∷◌, ◌++◌, map, length, get_or, refl, sym, ap, ◌∙◌, subst, arith, true≢false}
use Rattle.std.specs.Prelude.{Option, Some, None, nat_eq, slice_get, if◌then◌else◌}
use Rattle.std.specs.List.{list_any}
use Rattle.std.specs.Set.{is_member}
use Rattle.std.specs.Str.{bytes_eq}
use Rattle.std.specs.Cmp.Lexicographic.{nat_list_eq_equiv}
use Rattle.std.proofs.lemmas.Bool.{and_parts, or_cases, or_left, or_right, eqb-true, eq-eqb, cases_lt}
use Rattle.std.proofs.lemmas.List.{get_or_past}
use Rattle.std.proofs.lemmas.List.Folds.{list_any-append}
use Rattle.std.proofs.lemmas.Slice.Eq.{bytes_eq-Decides}
use Rattle.mc_term_data.specs.Plain.{PlainTerm, PlainTerms, no_term, more_terms}
use Rattle.mc_term_data.specs.Names.{Row, found}
use Rattle.mc_decl_syntax.specs.Plain.{Path, PlainDecl, ModuleStart, ModuleEnd, Interface, Implementation, Imports, UseOnly, AbstractType, UnionType, SameType, SameInst, BoundInst, ModeDef, Pred, Func, Mode, Pragma, Clause}
use Rattle.mc_names.specs.declared.definition.Kind.TheVariants as K
use Rattle.mc_names.specs.Plain.{PlainNameArity, id, is_name_arity, PlainDefinition, definition, is_definition, PlainOccurrence, qualifiers, last_part, joined}
use Rattle.mc_names.specs.Definitions.{head_name, symbols, definitions}
use Rattle.mc_decl_syntax.specs.Entries.{File}
use Rattle.mc_modules.specs.Files.{PlainItemInFile, items_in_file, definitions_of, is_shown, shown_of, has}
use Rattle.mc_modules.specs.Visible.{file_at, unqualified, seen, is_builtin, has_definition, how_many, among, is_qualified, searched, meanings, module_of}
use Rattle.mc_names.specs.Linked.{Defined}
use Rattle.mc_modules.specs.Linked.{linked, defined, types_by, types_in, types_of, name_of, each, flat, scope}
use Rattle.mc_names.specs.Numbers.{numbers_where}
use Rattle.mc_names.specs.Candidates.{is_module, named_so, looked_in, type_fits, type_numbers}
use Rattle.mc_type_table.specs.Written.{builtin_rows, builtin}
use Rattle.mc_declarations.specs.Proper.{Means}
use Rattle.laws_sources.proofs.Homes.{means_name, scope_at}

pub never : {A : Type 0} → false ≡ true → A
never e = absurd (true≢false (sym e))

-- NAMES

name_arity_is : (x y : PlainNameArity) → is_name_arity x y ≡ true → x ≡ y
name_arity_is x y same =
    let parts = and_parts (nat_eq x.arity y.arity) (bytes_eq x.name y.name) same in
    ap (λ w. id w x.arity) ((bytes_eq-Decides x.name y.name).0 parts.1) ∙ ap (id y.name) (eqb-true x.arity y.arity parts.0)

name_arity_same : (x : PlainNameArity) → is_name_arity x x ≡ true
name_arity_same x =
    ap (λ b. b && bytes_eq x.name x.name) (eq-eqb x.arity x.arity refl) ∙ (bytes_eq-Decides x.name x.name).1 refl

-- WHAT AN ITEM DEFINES

no_defined_symbol : (x : PlainNameArity) (ts : PlainTerms) → is_member is_definition (symbols ts) (definition K.DefinedType x) ≡ false
no_defined_symbol x no_term = refl
no_defined_symbol x (more_terms t ts) = no_defined_symbol x ts

no_abstract_symbol : (x : PlainNameArity) (ts : PlainTerms) → is_member is_definition (symbols ts) (definition K.AbstractType x) ≡ false
no_abstract_symbol x no_term = refl
no_abstract_symbol x (more_terms t ts) = no_abstract_symbol x ts

-- what an interface has the file has
shown_too : (t : PlainDefinition) (ss : List PlainItemInFile) → is_member is_definition (shown_of ss) t ≡ true → is_member is_definition (definitions_of ss) t ≡ true
shown_too t [] is = is
shown_too t (s ∷ ss) is =
    list_any-append (is_definition t) (definitions s.item) (definitions_of ss)
    ∙ by (is_shown s.section) (sym (list_any-append (is_definition t) (if is_shown s.section then definitions s.item else []) (shown_of ss)) ∙ is) (shown_too t ss)
  where
    by : (b : Bool) → (list_any (is_definition t) (if b then definitions s.item else []) || is_member is_definition (shown_of ss) t) ≡ true
        → (is_member is_definition (shown_of ss) t ≡ true → is_member is_definition (definitions_of ss) t ≡ true)
        → (list_any (is_definition t) (definitions s.item) || is_member is_definition (definitions_of ss) t) ≡ true
    by true is rest =
        elim (or_cases (list_any (is_definition t) (definitions s.item)) (is_member is_definition (shown_of ss) t) is) [
          | inl here ↦ or_left _ _ here
          | inr later ↦ or_right _ _ (rest later)
        ]
    by false is rest = or_right _ _ (rest is)

has_shown : (x : PlainNameArity) (ss : List PlainItemInFile) → has K.DefinedType x (shown_of ss) ≡ true → has K.DefinedType x (definitions_of ss) ≡ true
has_shown x ss is =
    elim (or_cases (is_member is_definition (shown_of ss) (definition K.DefinedType x)) (is_member is_definition (shown_of ss) (definition K.AbstractType x)) is) [
      | inl here ↦ or_left _ _ (shown_too (definition K.DefinedType x) ss here)
      | inr there ↦ or_right _ _ (shown_too (definition K.AbstractType x) ss there)
    ]

-- where a test holds of each type of a name that a file has
module _ (q : Defined → Bool) (m : List ℕ) (all : List PlainItemInFile) (x : PlainNameArity)
    (passes : (s : PlainItemInFile) (i : PlainDecl) (h : PlainNameArity) → is_name_arity x h ≡ true → q (defined m s (has K.DefinedType h (shown_of all)) i h) ≡ true) where
  by_head : (s : PlainItemInFile) (h : PlainNameArity) → is_name_arity x h ≡ true → list_any q (defined m s (has K.DefinedType h (shown_of all)) s.item h ∷ []) ≡ true
  by_head s h same = or_left _ false (passes s s.item h same)

  defined_item : (s : PlainItemInFile) (i : PlainDecl) → is_member is_definition (definitions i) (definition K.DefinedType x) ≡ true → list_any q (types_by m all s i) ≡ true
  defined_item s (AbstractType h) is = never is
  defined_item s (UnionType h ts) is =
      elim (or_cases (is_name_arity x (head_name h)) (is_member is_definition (symbols ts) (definition K.DefinedType x)) is) [
        | inl here ↦ by_head s (head_name h) here
        | inr later ↦ never (sym (no_defined_symbol x ts) ∙ later)
      ]
  defined_item s (SameType h t) is =
      elim (or_cases (is_name_arity x (head_name h)) false is) [
        | inl here ↦ by_head s (head_name h) here
        | inr later ↦ never later
      ]
  defined_item s (ModuleStart w) is = never is
  defined_item s (ModuleEnd w) is = never is
  defined_item s Interface is = never is
  defined_item s Implementation is = never is
  defined_item s (Imports ws) is = never is
  defined_item s (UseOnly ws) is = never is
  defined_item s (SameInst h t) is = never is
  defined_item s (BoundInst h ts) is = never is
  defined_item s (ModeDef h t) is = never is
  defined_item s (Pred t d) is = never is
  defined_item s (Func t d) is = never is
  defined_item s (Mode t d) is = never is
  defined_item s Pragma is = never is
  defined_item s (Clause t) is = never is

  defined_items : (ss : List PlainItemInFile) → is_member is_definition (definitions_of ss) (definition K.DefinedType x) ≡ true → list_any q (types_in m all ss) ≡ true
  defined_items [] is = never is
  defined_items (s ∷ ss) is =
      list_any-append q (types_by m all s s.item) (types_in m all ss)
      ∙ elim (or_cases _ _ (sym (list_any-append (is_definition (definition K.DefinedType x)) (definitions s.item) (definitions_of ss)) ∙ is)) [
        | inl here ↦ or_left _ _ (defined_item s s.item here)
        | inr later ↦ or_right _ _ (defined_items ss later)
      ]

  abbrev IsDefined : Type 0
  IsDefined = is_member is_definition (definitions_of all) (definition K.DefinedType x) ≡ true

  abstract_head : (s : PlainItemInFile) (h : PlainTerm) → is_name_arity x (head_name h) ≡ true → (list_any q (types_by m all s (AbstractType h)) ≡ true) ⊎ IsDefined
  abstract_head s h same = by (is_member is_definition (definitions_of all) (definition K.DefinedType (head_name h))) refl
    where
      by : (b : Bool) → is_member is_definition (definitions_of all) (definition K.DefinedType (head_name h)) ≡ b
          → (list_any q (if b then [] else defined m s (has K.DefinedType (head_name h) (shown_of all)) s.item (head_name h) ∷ []) ≡ true) ⊎ IsDefined
      by true e = inr (subst (λ y. is_member is_definition (definitions_of all) (definition K.DefinedType y) ≡ true) (sym (name_arity_is x (head_name h) same)) e)
      by false e = inl (by_head s (head_name h) same)

  abstract_item : (s : PlainItemInFile) (i : PlainDecl) → is_member is_definition (definitions i) (definition K.AbstractType x) ≡ true → (list_any q (types_by m all s i) ≡ true) ⊎ IsDefined
  abstract_item s (AbstractType h) is =
      elim (or_cases (is_name_arity x (head_name h)) false is) [
        | inl here ↦ abstract_head s h here
        | inr later ↦ never later
      ]
  abstract_item s (UnionType h ts) is = never (sym (no_abstract_symbol x ts) ∙ is)
  abstract_item s (SameType h t) is = never is
  abstract_item s (ModuleStart w) is = never is
  abstract_item s (ModuleEnd w) is = never is
  abstract_item s Interface is = never is
  abstract_item s Implementation is = never is
  abstract_item s (Imports ws) is = never is
  abstract_item s (UseOnly ws) is = never is
  abstract_item s (SameInst h t) is = never is
  abstract_item s (BoundInst h ts) is = never is
  abstract_item s (ModeDef h t) is = never is
  abstract_item s (Pred t d) is = never is
  abstract_item s (Func t d) is = never is
  abstract_item s (Mode t d) is = never is
  abstract_item s Pragma is = never is
  abstract_item s (Clause t) is = never is

  abstract_items : (ss : List PlainItemInFile) → is_member is_definition (definitions_of ss) (definition K.AbstractType x) ≡ true → (list_any q (types_in m all ss) ≡ true) ⊎ IsDefined
  abstract_items [] is = never is
  abstract_items (s ∷ ss) is =
      elim (or_cases _ _ (sym (list_any-append (is_definition (definition K.AbstractType x)) (definitions s.item) (definitions_of ss)) ∙ is)) [
        | inl here ↦
            elim (abstract_item s s.item here) [
              | inl some ↦ inl (list_any-append q (types_by m all s s.item) (types_in m all ss) ∙ or_left _ _ some)
              | inr one ↦ inr one
            ]
        | inr later ↦
            elim (abstract_items ss later) [
              | inl some ↦ inl (list_any-append q (types_by m all s s.item) (types_in m all ss) ∙ or_right _ _ some)
              | inr one ↦ inr one
            ]
      ]

  has_type : has K.DefinedType x (definitions_of all) ≡ true → list_any q (types_in m all all) ≡ true
  has_type is =
      elim (or_cases (is_member is_definition (definitions_of all) (definition K.DefinedType x)) (is_member is_definition (definitions_of all) (definition K.AbstractType x)) is) [
        | inl here ↦ defined_items all here
        | inr there ↦
            elim (abstract_items all there) [
              | inl some ↦ some
              | inr one ↦ defined_items all one
            ]
      ]

-- NUMBERS

some_number : (q : Defined → Bool) (n : ℕ) (ds : List Defined) → list_any q ds ≡ true → numbers_where q n ds ≢ []
some_number q n [] some = never some
some_number q n (d ∷ ds) some = by (q d) some (some_number q (n + 1) ds)
  where
    by : (b : Bool) → (b || list_any q ds) ≡ true → (list_any q ds ≡ true → numbers_where q (n + 1) ds ≢ []) → (if b then n ∷ numbers_where q (n + 1) ds else numbers_where q (n + 1) ds) ≢ []
    by true some rest none = let clash : n ∷ numbers_where q (n + 1) ds ≡ [] = none in cc
    by false some rest none = rest some none

some_before : (xs ys : List ℕ) → xs ≢ [] → xs ++ ys ≢ []
some_before [] ys some none = some refl
some_before (x ∷ xs) ys some none = let clash : x ∷ (xs ++ ys) ≡ [] = none in cc

some_behind : (xs ys : List ℕ) → ys ≢ [] → xs ++ ys ≢ []
some_behind [] ys some none = some none
some_behind (x ∷ xs) ys some none = let clash : x ∷ (xs ++ ys) ≡ [] = none in cc

in_flat : (q : Defined → Bool) (fs : List File) (j : ℕ) → list_any q (types_of (get_or fs j [])) ≡ true → list_any q (flat (each types_of fs)) ≡ true
in_flat q [] j some = never some
in_flat q (f ∷ fs) zero some = list_any-append q (types_of f) (flat (each types_of fs)) ∙ or_left _ _ some
in_flat q (f ∷ fs) (suc j) some = list_any-append q (types_of f) (flat (each types_of fs)) ∙ or_right _ _ (in_flat q fs j some)

-- BUILTIN TYPES

none_found : {A : Type 0} (rs : List (Row A)) (w : List ℕ) (n : ℕ) → found rs w n ≡ None → list_any (is_name_arity (id w n)) (map (λ (r : Row A). id r.name r.arity) rs) ≡ false
none_found {A = A} [] w n none = refl
none_found {A = A} (r ∷ rs) w n none = by (nat_eq n r.arity && bytes_eq r.name w) refl none (none_found rs w n)
  where
    by : (b : Bool) → (nat_eq n r.arity && bytes_eq r.name w) ≡ b → (if b then Some r.entry else found rs w n) ≡ None
        → (found rs w n ≡ None → list_any (is_name_arity (id w n)) (map (λ (r : Row A). id r.name r.arity) rs) ≡ false)
        → ((nat_eq n r.arity && bytes_eq w r.name) || list_any (is_name_arity (id w n)) (map (λ (r : Row A). id r.name r.arity) rs)) ≡ false
    by true e none rest = absurd (let clash : Some r.entry ≡ None = none in cc)
    by false e none rest = ap (λ b. (nat_eq n r.arity && b) || list_any (is_name_arity (id w n)) (map (λ (r : Row A). id r.name r.arity) rs)) (nat_list_eq_equiv.symm w r.name) ∙ ap (λ b. b || list_any (is_name_arity (id w n)) (map (λ (r : Row A). id r.name r.arity) rs)) e ∙ rest none

not_empty : (b : Bool) → ((b && false) || ((b && false) || ((b && false) || false))) ≡ false
not_empty true = refl
not_empty false = refl

not_builtin : (w : Path) (n : ℕ) → builtin w n ≡ None → (not (is_qualified (qualifiers w)) && is_builtin K.DefinedType (id (last_part w) n)) ≡ false
unfolding builtin_rows
not_builtin [] n none = not_empty (nat_eq n 0)
not_builtin (w ∷ []) n none = none_found builtin_rows w n none
not_builtin (w ∷ v ∷ ws) n none = refl

-- MEANINGS

-- a use of a type's name
abbrev pub occurrence : Path → ℕ → PlainOccurrence
occurrence w n = record { kind = K.DefinedType; qualifiers = qualifiers w; id = id (last_part w) n }

module _ (files : List File) where
  module _ (own j : ℕ) (x : PlainNameArity) (below : j < length files) where
    passes : ((nat_eq own j || has K.DefinedType x (shown_of (items_in_file (file_at files j)))) ≡ true) → (s : PlainItemInFile) (i : PlainDecl) (h : PlainNameArity) → is_name_arity x h ≡ true
        → type_fits (linked files) own x j (defined (name_of (file_at files j)) s (has K.DefinedType h (shown_of (items_in_file (file_at files j)))) i h) ≡ true
    passes sees s i h same =
        subst
        (λ (h : PlainNameArity). type_fits (linked files) own x j (defined (name_of (file_at files j)) s (has K.DefinedType h (shown_of (items_in_file (file_at files j)))) i h) ≡ true)
        (name_arity_is x h same)
        (ap (λ o. is_module (name_of (file_at files j)) o && ((nat_eq own j || has K.DefinedType x (shown_of (items_in_file (file_at files j)))) && is_name_arity x x)) (scope_at files j below)
        ∙ ap (λ b. b && ((nat_eq own j || has K.DefinedType x (shown_of (items_in_file (file_at files j)))) && is_name_arity x x)) ((bytes_eq-Decides (name_of (file_at files j)) (name_of (file_at files j))).1 refl)
        ∙ ap (λ b. b && is_name_arity x x) sees ∙ name_arity_same x)

    some_type_by : (b : Bool) → nat_eq own j ≡ b → has K.DefinedType x (if b then definitions_of (items_in_file (file_at files j)) else shown_of (items_in_file (file_at files j))) ≡ true
        → list_any (type_fits (linked files) own x j) (types_of (file_at files j)) ≡ true
    some_type_by true e is = has_type (type_fits (linked files) own x j) (name_of (file_at files j)) (items_in_file (file_at files j)) x (passes (or_left _ _ e)) is
    some_type_by false e is =
        has_type (type_fits (linked files) own x j) (name_of (file_at files j)) (items_in_file (file_at files j)) x (passes (or_right _ _ is)) (has_shown x (items_in_file (file_at files j)) is)

    some_type : has_definition files own K.DefinedType x j ≡ true → numbers_where (type_fits (linked files) own x j) 0 (linked files).types ≢ []
    some_type is = some_number (type_fits (linked files) own x j) 0 (flat (each types_of files)) (in_flat (type_fits (linked files) own x j) files j (some_type_by (nat_eq own j) refl is))

  -- a module that has a definition is there
  no_definition : (own j : ℕ) (x : PlainNameArity) (b : Bool) (f : File) → f ≡ [] → has K.DefinedType x (if b then definitions_of (items_in_file f) else shown_of (items_in_file f)) ≡ true → ⊥
  no_definition own j x true f none is = never (sym (ap (λ f. has K.DefinedType x (definitions_of (items_in_file f))) none) ∙ is)
  no_definition own j x false f none is = never (sym (ap (λ f. has K.DefinedType x (shown_of (items_in_file f))) none) ∙ is)

  has_some : (own j : ℕ) (x : PlainNameArity) → has_definition files own K.DefinedType x j ≡ true → numbers_where (type_fits (linked files) own x j) 0 (linked files).types ≢ []
  has_some own j x is =
      elim (cases_lt j (length files)) [
        | inl below ↦ some_type own j x below is
        | inr past ↦ absurd (no_definition own j x (nat_eq own j) (file_at files j) (get_or_past files j [] past) is)
      ]

  -- among modules that are looked in
  found_in : (own : ℕ) (x : PlainNameArity) (js : List ℕ) → nat_eq (how_many files own K.DefinedType x js) 0 ≡ false → type_numbers (linked files) own x js ≢ []
  found_in own x [] some = never (sym some)
  found_in own x (j ∷ js) some = by (has_definition files own K.DefinedType x j) refl some (found_in own x js)
    where
      by : (b : Bool) → has_definition files own K.DefinedType x j ≡ b → nat_eq ((if b then 1 else 0) + how_many files own K.DefinedType x js) 0 ≡ false
          → (nat_eq (how_many files own K.DefinedType x js) 0 ≡ false → type_numbers (linked files) own x js ≢ [])
          → type_numbers (linked files) own x (j ∷ js) ≢ []
      by true e some rest = some_before _ (type_numbers (linked files) own x js) (has_some own j x e)
      by false e some rest =
          let same : 0 + how_many files own K.DefinedType x js ≡ how_many files own K.DefinedType x js = omega arith in
          some_behind (numbers_where (type_fits (linked files) own x j) 0 (linked files).types) _ (rest (ap (λ k. nat_eq k 0) (sym same) ∙ some))

  -- the module that a qualifier means, among those that are seen
  found_so : (own k : ℕ) (x : PlainNameArity) (w : List ℕ) (js : List ℕ)
      → has_definition files own K.DefinedType x k ≡ true → is_module w (slice_get (linked files).scopes k) ≡ true
      → is_member nat_eq js k ≡ true → type_numbers (linked files) own x (named_so (linked files) w js) ≢ []
  found_so own k x w [] has called there = never there
  found_so own k x w (j ∷ js) has called there =
      by (is_module w (slice_get (linked files).scopes j)) refl (or_cases (nat_eq k j) (is_member nat_eq js k) there) (found_so own k x w js has called)
    where
      by : (b : Bool) → is_module w (slice_get (linked files).scopes j) ≡ b → (nat_eq k j ≡ true) ⊎ (is_member nat_eq js k ≡ true)
          → (is_member nat_eq js k ≡ true → type_numbers (linked files) own x (named_so (linked files) w js) ≢ [])
          → type_numbers (linked files) own x (if b then j ∷ named_so (linked files) w js else named_so (linked files) w js) ≢ []
      by true e (inl here) rest =
          some_before _ (type_numbers (linked files) own x (named_so (linked files) w js))
          (subst (λ i. numbers_where (type_fits (linked files) own x i) 0 (linked files).types ≢ []) (eqb-true k j here) (has_some own k x has))
      by true e (inr later) rest = some_behind (numbers_where (type_fits (linked files) own x j) 0 (linked files).types) _ (rest later)
      by false e (inl here) rest =
          absurd (true≢false (sym called ∙ ap (λ i. is_module w (slice_get (linked files).scopes i)) (eqb-true k j here) ∙ e))
      by false e (inr later) rest = rest later

  qualified_by : (own : ℕ) (x : PlainNameArity) (w : List ℕ) (o : Option ℕ) → module_of files w ≡ o
      → nat_eq (how_many files own K.DefinedType x (among o (seen files own))) 0 ≡ false → type_numbers (linked files) own x (named_so (linked files) w (seen files own)) ≢ []
  qualified_by own x w None e some = never (sym some)
  qualified_by own x w (Some k) e some = by_seen (is_member nat_eq (seen files own) k) refl some
    where
      called : has_definition files own K.DefinedType x k ≡ true → is_module w (slice_get (linked files).scopes k) ≡ true
      called has =
          elim (cases_lt k (length files)) [
            | inl below ↦ ap (is_module w) (scope_at files k below) ∙ (bytes_eq-Decides (name_of (file_at files k)) w).1 (sym (means_name files w k e))
            | inr past ↦ absurd (no_definition own k x (nat_eq own k) (file_at files k) (get_or_past files k [] past) has)
          ]

      by_has : (b : Bool) → has_definition files own K.DefinedType x k ≡ b → is_member nat_eq (seen files own) k ≡ true
          → nat_eq ((if b then 1 else 0) + 0) 0 ≡ false → type_numbers (linked files) own x (named_so (linked files) w (seen files own)) ≢ []
      by_has true has there some = found_so own k x w (seen files own) has (called has) there
      by_has false has there some = never (sym some)

      by_seen : (b : Bool) → is_member nat_eq (seen files own) k ≡ b → nat_eq (how_many files own K.DefinedType x (if b then k ∷ [] else [])) 0 ≡ false
          → type_numbers (linked files) own x (named_so (linked files) w (seen files own)) ≢ []
      by_seen true there some = by_has (has_definition files own K.DefinedType x k) refl there some
      by_seen false there some = never (sym some)

  found_by : (own : ℕ) (qs : Path) (x : PlainNameArity) → nat_eq (how_many files own K.DefinedType x (searched files own qs)) 0 ≡ false
      → type_numbers (linked files) own x (looked_in (linked files) (Some (scope files own)) qs) ≢ []
  found_by own [] x some = found_in own x (unqualified files own) some
  found_by own (w ∷ ws) x some = qualified_by own x (joined (w ∷ ws)) (module_of files (joined (w ∷ ws))) refl some

  -- a name of a type that is visible means a type
  pub means : (own : ℕ) (w : Path) (n : ℕ) → own < length files → nat_eq (meanings files own (occurrence w n)) 0 ≡ false → Means (linked files) own w n
  means own w n below some none =
      let others = how_many files own K.DefinedType (id (last_part w) n) (searched files own (qualifiers w)) in
      let first : nat_eq (0 + others) 0 ≡ false = ap (λ b. nat_eq ((if b then 1 else 0) + others) 0) (sym (not_builtin w n none)) ∙ some in
      let same : 0 + others ≡ others = omega arith in
      subst (λ o. type_numbers (linked files) own (id (last_part w) n) (looked_in (linked files) o (qualifiers w)) ≢ []) (sym (scope_at files own below))
      (found_by own (qualifiers w) (id (last_part w) n) (ap (λ k. nat_eq k 0) (sym same) ∙ first))
