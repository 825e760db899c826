-- Declarations that fit, where no type breaks a rule.
use Rattle.std.proofs.Common.{◌≡◌, ℕ, zero, suc, ◌+◌, Bool, true, false, not, ◌&&◌, List, [], ◌∷◌, ◌++◌, map, length, get_or, refl, sym, ap, ◌∙◌, subst, arith}
use Rattle.std.specs.Prelude.{Option, Some, None, slice_get, if◌then◌else◌}
use Rattle.std.specs.Option.{option_map, option_or}
use Rattle.std.proofs.lemmas.Bool.{and_parts}
use Rattle.std.proofs.lemmas.List.{length-map}
use Rattle.mc_term_data.specs.Plain.{PlainTerm, PlainTerms, at, no_term, more_terms, Var, Int, Str, App, Items, Tailed, Conj, Disj}
use Rattle.mc_term_data.specs.Names.{count}
use Rattle.mc_term_data.specs.Shapes.{has_one}
use Rattle.mc_source.specs.Rules.{Fault, broken_at, first_rules}
use Rattle.mc_source.specs.declared.place.Place.{Place}
use Rattle.mc_source.specs.declared.rule.Broken.{Broken}
use Rattle.mc_program.specs.Programs.{TypeTerm, TypeTerms, no_types, type_then, Constructor}
use Rattle.mc_program.specs.PlainPrograms.{no_symbol, no_pred}
use Rattle.mc_accepted.specs.ProperTypes.{ProperType, ProperTypes, EachProper, Below, EachBelow}
use Rattle.mc_accepted.specs.Fits.{FitsTypes}
use Rattle.mc_decl_syntax.specs.Plain.{PlainDecl, UnionType, SameType}
use Rattle.mc_decl_syntax.specs.Types.{is_field, are_fields, is_constructor, are_constructors}
use Rattle.mc_names.specs.Definitions.{symbol_name}
use Rattle.mc_names.specs.Linked.{Defined, Linked, defining_module}
use Rattle.mc_type_table.specs.Written.{written_type}
use Rattle.mc_names.specs.Parameters.{parameters_of}
use Rattle.mc_type_table.specs.Expanded.{equivalent_by, equivalent_of, equivalent, after_rounds, expanded}
use Rattle.mc_type_table.specs.Rules.{fields, constructor_fields, union_fields, named_parameters, stray, first_of, stray_in, variable_fault, is_cyclic, definitions, type_fault, type_faults, numbered}
use Rattle.mc_type_table.specs.Visibility.{sees_definition, definitions_seen}
use Rattle.mc_clauses.specs.Variables.{nothing_met}
use Rattle.mc_declarations.specs.Declarations.{parameter_counts, declared_types, listed_types, type_terms_of, constructor_of, constructors_in, constructors_by, constructors_from, predicate_of, declarations}
use Rattle.mc_declarations.specs.Proper.{IsHeadOf, IsMeant, EachMeant, IsWellWritten, AreWellWritten, DeclarationsFit, AllDeclarationsFit}
use Rattle.mc_declarations.proofs.Replaced.{AreProper, proper_replaced, below_replaced, proper_rounds}
use Rattle.mc_declarations.proofs.Meaning.{proper_written, all_proper_declared, count_names, Places, head_places, below_written}

-- NO TYPE BREAKS A RULE

nothing_at :
    (place : Place) (o : Option Fault) (rest : List Broken) → broken_at place o ++ rest ≡ [] → o ≡ None
nothing_at place None rest is = refl
nothing_at place (Some f) rest is = cc

nothing_behind :
    (place : Place) (o : Option Fault) (rest : List Broken)
    → broken_at place o ++ rest ≡ [] → rest ≡ []
nothing_behind place None rest is = is
nothing_behind place (Some f) rest is = cc

none_faulty :
    (l : Linked) (n i : ℕ) (ds : List Defined) (d : Defined)
    → first_rules (λ p. p.1.at) (λ p. type_fault l p.0 p.1) (numbered n ds) ≡ []
    → slice_get ds i ≡ Some d → type_fault l (n + i) d ≡ None
none_faulty l n i [] d none there = absurd (let clash : None ≡ Some d = there in cc)
none_faulty l n zero (x ∷ ds) d none there =
    let same : x ≡ d = cc in
    let first : n + 0 ≡ n = omega arith in
    ap (λ k. type_fault l k d) first
    ∙ ap (type_fault l n) (sym same)
    ∙ nothing_at x.at (type_fault l n x) _ none
none_faulty l n (suc i) (x ∷ ds) d none there =
    let next : n + suc i ≡ (n + 1) + i = omega arith in
    ap (λ k. type_fault l k d) next
    ∙ none_faulty l (n + 1) i ds d (nothing_behind x.at (type_fault l n x) _ none) there

first_none :
    {A : Type 0} (o p : Option A) → option_or o p ≡ None → o ≡ None
first_none None p is = refl
first_none (Some a) p is = absurd (let clash : Some a ≡ None = is in cc)

unmapped :
    {A B : Type 0} (f : A → B) (o : Option A) → option_map f o ≡ None → o ≡ None
unmapped f None is = refl
unmapped f (Some a) is = absurd (let clash : Some (f a) ≡ None = is in cc)

no_stray :
    (l : Linked) (u : ℕ) (d : Defined)
    → type_faults l ≡ [] → slice_get l.types u ≡ Some d → stray_in d.item ≡ None
no_stray l u d none there =
    unmapped _ (stray_in d.item)
    (first_none (variable_fault d.item) _ (none_faulty l 0 u l.types d none there))

-- HEADS

head_count :
    (d : Defined) (h : PlainTerm) → IsHeadOf d h → length (parameters_of h) ≡ d.name.arity
head_count d (at (Var x) line) is = absurd is
head_count d (at (App w ts) line) is = count_names ts ∙ is
head_count d (at (Int n) line) is = absurd is
head_count d (at (Str w) line) is = absurd is
head_count d (at (Items ts) line) is = absurd is
head_count d (at (Tailed ts t) line) is = absurd is
head_count d (at (Conj ts) line) is = absurd is
head_count d (at (Disj ts) line) is = absurd is

places_of :
    (d : Defined) (h : PlainTerm)
    → IsHeadOf d h → Places (named_parameters h) (parameters_of h)
places_of d (at (Var x) line) is = absurd is
places_of d (at (App w ts) line) is = head_places ts
places_of d (at (Int n) line) is = absurd is
places_of d (at (Str w) line) is = absurd is
places_of d (at (Items ts) line) is = absurd is
places_of d (at (Tailed ts t) line) is = absurd is
places_of d (at (Conj ts) line) is = absurd is
places_of d (at (Disj ts) line) is = absurd is

parameters_at :
    (l : Linked) (u : ℕ) (d : Defined)
    → slice_get l.types u ≡ Some d → parameter_counts l u ≡ Some d.name.arity
parameters_at l u d there = ap (option_map (λ (d : Defined). d.name.arity)) there

-- EQUIVALENCES

in_any_sight :
    (s : Bool) (o : Option TypeTerm) (b : TypeTerm) → (if s then o else None) ≡ Some b → o ≡ Some b
in_any_sight true o b is = is
in_any_sight false o b is = absurd (let clash : None ≡ Some b = is in cc)

-- a type in the body of a definition is well formed, and over its parameters
body_fits :
    (l : Linked) (u : ℕ) (d : Defined) (h t : PlainTerm)
    → slice_get l.types u ≡ Some d → IsHeadOf d h → IsMeant l (defining_module l d) t
    → stray (named_parameters h) t ≡ None
    → (k : ℕ) × (parameter_counts l u ≡ Some k)
    × ProperType (parameter_counts l) (written_type l (defining_module l d) (parameters_of h) t)
    × Below k (written_type l (defining_module l d) (parameters_of h) t)
body_fits l u d h t there head meant none =
    let counted = head_count d h head in (
      length (parameters_of h),
      parameters_at l u d there ∙ ap Some (sym counted),
      proper_written l (defining_module l d) (parameters_of h) t meant,
      below_written l (defining_module l d) (named_parameters h) (parameters_of h) t (places_of d h head) none,
    )

equivalent_fits :
    (l : Linked) (u : ℕ) (d : Defined) (i : PlainDecl) (b : TypeTerm)
    → slice_get l.types u ≡ Some d → IsWellWritten l d i → stray_in i ≡ None
    → equivalent_by l (defining_module l d) i ≡ Some b
    → (k : ℕ) × (parameter_counts l u ≡ Some k) × ProperType (parameter_counts l) b × Below k b
equivalent_fits l u d (SameType h t) b there well none is =
    let same : Some (written_type l (defining_module l d) (parameters_of h) t) ≡ Some b = is in
    let it : written_type l (defining_module l d) (parameters_of h) t ≡ b = cc in
    subst
    (λ b.
    (k : ℕ) × (parameter_counts l u ≡ Some k) × ProperType (parameter_counts l) b × Below k b) it
    (body_fits l u d h t there well.0 well.1 none)
equivalent_fits l u d i b there well none is = absurd (let clash : None ≡ Some b = is in cc)

written_fits :
    (l : Linked) (u : ℕ) (b : TypeTerm) (o : Option Defined)
    → AreWellWritten l → type_faults l ≡ []
    → slice_get l.types u ≡ o → equivalent_of l o ≡ Some b
    → (k : ℕ) × (parameter_counts l u ≡ Some k) × ProperType (parameter_counts l) b × Below k b
written_fits l u b None well none there is = absurd (let clash : None ≡ Some b = is in cc)
written_fits l u b (Some d) well none there is =
    equivalent_fits l u d d.item b there (well.types u d there) (no_stray l u d none there) is

pub definitions_fit :
    (l : Linked)
    → AreWellWritten l → type_faults l ≡ [] → AreProper (parameter_counts l) (definitions l)
definitions_fit l well none u b is =
    written_fits l u b (slice_get l.types u) well none refl
    (in_any_sight (not (is_cyclic l u)) (equivalent l u) b is)

-- what is seen is defined
pub defined_seen :
    (l : Linked) (own u : ℕ) (b : TypeTerm)
    → definitions_seen l own u ≡ Some b → definitions l u ≡ Some b
defined_seen l own u b is = in_any_sight (sees_definition l own u) (definitions l u) b is

pub seen_fit :
    (l : Linked) (own : ℕ)
    → AreWellWritten l → type_faults l ≡ []
    → AreProper (parameter_counts l) (definitions_seen l own)
seen_fit l own well none u b is =
    definitions_fit l well none u b (defined_seen l own u b is)

-- CONSTRUCTORS

has_one_counts : (ts : PlainTerms) → has_one ts ≡ true → count ts ≡ 1
has_one_counts no_term is = absurd (let clash : false ≡ true = is in cc)
has_one_counts (more_terms t no_term) is = refl
has_one_counts (more_terms t (more_terms u us)) is = absurd (let clash : false ≡ true = is in cc)

count_fields : (ts : PlainTerms) → length (fields ts) ≡ count ts
count_fields no_term = refl
count_fields (more_terms t ts) =
    let rest : length (fields ts) ≡ count ts = count_fields ts in
    omega arith

length_behind : {A : Type 0} (xs : List A) (x : A) → length (xs ++ x ∷ []) ≡ suc (length xs)
length_behind [] x = refl
length_behind (y ∷ ys) x = ap suc (length_behind ys x)

-- a constructor's name tells how many arguments it has
arity_is :
    (t : PlainTerm) → is_constructor t ≡ true → (symbol_name t).arity ≡ length (constructor_fields t)
arity_is (at (Var x) line) is = absurd (let clash : false ≡ true = is in cc)
arity_is (at (App w ts) line) is = sym (count_fields ts)
arity_is (at (Int n) line) is = absurd (let clash : false ≡ true = is in cc)
arity_is (at (Str w) line) is = absurd (let clash : false ≡ true = is in cc)
arity_is (at (Items ts) line) is = refl
arity_is (at (Tailed ts t) line) is =
    let first = (and_parts (has_one ts && are_fields ts) (is_field t) is).0 in
    let single = (and_parts (has_one ts) (are_fields ts) first).0 in
    ap suc (sym (has_one_counts ts single) ∙ sym (count_fields ts))
    ∙ sym (length_behind (fields ts) _)
arity_is (at (Conj ts) line) is = absurd (let clash : false ≡ true = is in cc)
arity_is (at (Disj ts) line) is = absurd (let clash : false ≡ true = is in cc)

-- a constructor has as many arguments as its name says, and they are well formed
pub record IsFit (l : Linked) (c : Constructor) : Type 0 where
  pub arity : c.name.arity ≡ length c.args
  pub within : (k : ℕ) → parameter_counts l c.of_type ≡ Some k → EachBelow k c.args
  pub proper : EachProper (parameter_counts l) c.args

abbrev AllFit : Linked → List Constructor → Type 0
AllFit l [] = Unit {0}
AllFit l (c ∷ cs) = IsFit l c × AllFit l cs

both_fit :
    (l : Linked) (cs ds : List Constructor) → AllFit l cs → AllFit l ds → AllFit l (cs ++ ds)
both_fit l [] ds all more = more
both_fit l (c ∷ cs) ds all more = (all.0, both_fit l cs ds all.1 more)

fit_at :
    (l : Linked) (cs : List Constructor) (s : ℕ) → AllFit l cs → IsFit l (get_or cs s no_symbol)
fit_at l [] s all = record { arity = refl; within = λ k is. tt; proper = tt }
fit_at l (c ∷ cs) zero all = all.0
fit_at l (c ∷ cs) (suc s) all = fit_at l cs s all.1

-- the arguments of a constructor, and those behind them
meant_parts :
    (l : Linked) (own : ℕ) (fs gs : List PlainTerm)
    → EachMeant l own (fs ++ gs) → EachMeant l own fs × EachMeant l own gs
meant_parts l own [] gs all = (tt, all)
meant_parts l own (f ∷ fs) gs all =
    let rest = meant_parts l own fs gs all.1 in
    ((all.0, rest.0), rest.1)

both_none :
    {A : Type 0} (o p : Option A) → option_or o p ≡ None → (o ≡ None) × (p ≡ None)
both_none None p is = (refl, is)
both_none (Some a) p is = absurd (let clash : Some a ≡ None = is in cc)

stray_parts :
    (ps : List (List ℕ)) (fs gs : List PlainTerm)
    → first_of ps (fs ++ gs) ≡ None → (first_of ps fs ≡ None) × (first_of ps gs ≡ None)
stray_parts ps [] gs none = (refl, none)
stray_parts ps (f ∷ fs) gs none =
    let first = both_none (stray ps f) (first_of ps (fs ++ gs)) none in
    let rest = stray_parts ps fs gs first.1 in
    (ap (λ o. option_or o (first_of ps fs)) first.0 ∙ rest.0, rest.1)

module _ (l : Linked) (E : ℕ → Option TypeTerm) (are : AreProper (parameter_counts l) E) where
  abbrev rounds_fit : AreProper (parameter_counts l) (after_rounds (length l.types) E)
  rounds_fit = proper_rounds (parameter_counts l) E (length l.types) are

  fields_fit :
      (own k : ℕ) (ps vs : List (List ℕ)) (fs : List PlainTerm)
      → Places ps vs → length vs ≡ k → EachMeant l own fs → first_of ps fs ≡ None
      → EachBelow k (map (λ f. expanded l E (written_type l own vs f)) fs)
      × EachProper (parameter_counts l) (map (λ f. expanded l E (written_type l own vs f)) fs)
  fields_fit own k ps vs [] places counted meant none = (tt, tt)
  fields_fit own k ps vs (f ∷ fs) places counted meant none =
      let first = both_none (stray ps f) (first_of ps fs) none in
      let rest = fields_fit own k ps vs fs places counted meant.1 first.1 in
      let proper = proper_written l own vs f meant.0 in
      let within =
      subst (λ j. Below j (written_type l own vs f)) counted
      (below_written l own ps vs f places first.0)
      in (
        (
          below_replaced (parameter_counts l) (after_rounds (length l.types) E) k
              (written_type l own vs f) rounds_fit proper within,
          rest.0,
        ),
        (
          proper_replaced (parameter_counts l) (after_rounds (length l.types) E)
              (written_type l own vs f) rounds_fit proper,
          rest.1,
        ),
      )

  constructor_fits :
      (w : List ℕ) (u : ℕ) (d : Defined) (h t : PlainTerm)
      → slice_get l.types u ≡ Some d → IsHeadOf d h → is_constructor t ≡ true
      → EachMeant l (defining_module l d) (constructor_fields t)
      → first_of (named_parameters h) (constructor_fields t) ≡ None
      → IsFit l (constructor_of l E w u (defining_module l d) (parameters_of h) t)
  constructor_fits w u d h t there head form meant none =
      let each =
      fields_fit (defining_module l d) d.name.arity (named_parameters h) (parameters_of h)
      (constructor_fields t) (places_of d h head) (head_count d h head) meant none
      in
      record {
        arity =
            arity_is t form
            ∙ sym
            (length-map (constructor_fields t)
            (λ f. expanded l E (written_type l (defining_module l d) (parameters_of h) f)));
        within =
            λ k is.
            let same : Some d.name.arity ≡ Some k = sym (parameters_at l u d there) ∙ is in
            let count : d.name.arity ≡ k = cc in
            subst
            (λ j.
            EachBelow j
            (map (λ f. expanded l E (written_type l (defining_module l d) (parameters_of h) f))
            (constructor_fields t))) count each.0;
        proper = each.1;
      }

  union_fits :
      (w : List ℕ) (u : ℕ) (d : Defined) (h : PlainTerm) (ts : PlainTerms)
      → slice_get l.types u ≡ Some d → IsHeadOf d h → are_constructors ts ≡ true
      → EachMeant l (defining_module l d) (union_fields ts)
      → first_of (named_parameters h) (union_fields ts) ≡ None
      → AllFit l (constructors_in l E w u (defining_module l d) (parameters_of h) ts)
  union_fits w u d h no_term there head form meant none = tt
  union_fits w u d h (more_terms t ts) there head form meant none =
      let forms = and_parts (is_constructor t) (are_constructors ts) form in
      let means = meant_parts l (defining_module l d) (constructor_fields t) (union_fields ts) meant in
      let strays =
      stray_parts (named_parameters h) (constructor_fields t) (union_fields ts) none
      in (
        constructor_fits w u d h t there head forms.0 means.0 strays.0,
        union_fits w u d h ts there head forms.1 means.1 strays.1,
      )

  item_fits :
      (u : ℕ) (d : Defined) (i : PlainDecl)
      → slice_get l.types u ≡ Some d → IsWellWritten l d i → stray_in i ≡ None
      → AllFit l (constructors_by l E u d i)
  item_fits u d (UnionType h ts) there well none =
      union_fits d.name.«module» u d h ts there well.0 well.1 well.2 none
  item_fits u d i there well none = tt

  all_fit :
      (v : ℕ) (ds : List Defined)
      → AreWellWritten l → type_faults l ≡ []
      → ((i : ℕ) → slice_get l.types (v + i) ≡ slice_get ds i)
      → AllFit l (constructors_from l E v ds)
  all_fit v [] well none same = tt
  all_fit v (d ∷ ds) well none same =
      let first : v + 0 ≡ v = omega arith in
      let there : slice_get l.types v ≡ Some d = ap (slice_get l.types) (sym first) ∙ same 0 in
      both_fit l (constructors_by l E v d d.item) (constructors_from l E (suc v) ds)
      (item_fits v d d.item there (well.types v d there) (no_stray l v d none there))
      (all_fit (suc v) ds well none
      (λ i.
      let next : suc v + i ≡ v + suc i = omega arith in
      ap (slice_get l.types) next ∙ same (suc i)))

  -- PREDICATES

  listed_fit :
      (ts : TypeTerms)
      → ProperTypes (parameter_counts l) ts
      → EachProper (parameter_counts l) (map (expanded l E) (listed_types ts))
  listed_fit no_types proper = tt
  listed_fit (type_then t ts) proper = (
    proper_replaced (parameter_counts l) (after_rounds (length l.types) E) t rounds_fit proper.0,
    listed_fit ts proper.1,
  )

  predicate_fits :
      (p : ℕ) (ds : List Defined)
      → ((q : ℕ) (d : Defined) → slice_get ds q ≡ Some d
      → ProperTypes (parameter_counts l)
      (declared_types l (defining_module l d) (type_terms_of d.item) nothing_met).0)
      → EachProper (parameter_counts l) (get_or (map (predicate_of l E) ds) p no_pred).types
  predicate_fits p [] each = tt
  predicate_fits zero (d ∷ ds) each = listed_fit _ (each 0 d refl)
  predicate_fits (suc p) (d ∷ ds) each = predicate_fits p ds (λ q. each (suc q))

-- what is declared where each type is defined as what is well formed
module _
    (l : Linked) (E : ℕ → Option TypeTerm) (are : AreProper (parameter_counts l) E)
    (well : AreWellWritten l) (none : type_faults l ≡ []) where
  pub constructors_fit : (s : ℕ) → IsFit l (get_or (constructors_from l E 0 l.types) s no_symbol)
  constructors_fit s =
      fit_at l (constructors_from l E 0 l.types) s
      (all_fit l E are 0 l.types well none
      (λ i. let same : 0 + i ≡ i = omega arith in ap (slice_get l.types) same))

  pub predicates_fit :
      (p : ℕ)
      → EachProper (parameter_counts l) (get_or (map (predicate_of l E) l.preds) p no_pred).types
  predicates_fit p =
      predicate_fits l E are p l.preds
      (λ q d there.
      all_proper_declared l (defining_module l d) (type_terms_of d.item) nothing_met (well.preds q d there))

  declared_fit :
      FitsTypes (declarations l E) (parameter_counts l)
      × ((p : ℕ) → EachProper (parameter_counts l) ((declarations l E).preds p).types)
  declared_fit = (
    record {
      arities = λ s. (constructors_fit s).arity;
      parameters = λ s k is listed. (constructors_fit s).within k is;
      arguments = λ s k is listed. (constructors_fit s).proper;
    },
    predicates_fit,
  )

-- THE LAW
pub declarations_fit : DeclarationsFit
declarations_fit l own well none =
    declared_fit l (definitions_seen l own) (seen_fit l own well none) well none

pub all_declarations_fit : AllDeclarationsFit
all_declarations_fit l well none =
    declared_fit l (definitions l) (definitions_fit l well none) well none
