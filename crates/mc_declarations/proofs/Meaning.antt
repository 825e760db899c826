-- What is written of a type, well formed where each name in it means a type.
use Rattle.std.proofs.Common.{◌≡◌, ◌≢◌, inl, inr, ℕ, suc, ◌+◌, ◌<◌, Bool, true, false, ◌&&◌, List, [], ◌∷◌, ◌++◌, length, refl, sym, ap, ◌∙◌, subst, arith}
use Rattle.std.specs.Prelude.{Option, Some, None, codes, nat_eq, slice_get, if◌then◌else◌}
use Rattle.std.specs.Option.{option_map, option_or}
use Rattle.std.specs.Str.{bytes_eq}
use Rattle.std.specs.Set.{is_member}
use Rattle.std.proofs.lemmas.Bool.{and_parts, or_cases, eqb-true}
use Rattle.mc_term_data.specs.Plain.{PlainTerm, PlainTerms, at, no_term, more_terms, Var, Int, Str, App, Items, Tailed, Conj, Disj}
use Rattle.mc_term_data.specs.Names.{Row, count, found}
use Rattle.mc_term_data.specs.Shapes.{variable}
use Rattle.mc_program.specs.Programs.{TypeTerm, state_type, union_type, TypeTerms}
use Rattle.mc_accepted.specs.ProperTypes.{Parameters, count_types, ProperType, ProperTypes, Below, AllBelow}
use Rattle.mc_decl_syntax.specs.Plain.{Path}
use Rattle.mc_decl_syntax.specs.Terms.{with_name, names_in}
use Rattle.mc_names.specs.Plain.{PlainNameArity, id, is_name_arity, qualifiers, last_part}
use Rattle.mc_names.specs.Linked.{Defined, Linked}
use Rattle.mc_names.specs.Numbers.{numbers_where}
use Rattle.mc_names.specs.Candidates.{is_module, fits, type_fits, type_numbers, type_candidates, looked_in}
use Rattle.mc_type_table.specs.Written.{builtin_rows, builtin, is_state_type, first_meaning, builtin_or_first, named_type, written_type, written_types}
use Rattle.mc_names.specs.Parameters.{place_of, name_of, variable_names}
use Rattle.mc_type_table.specs.Rules.{stray, first_stray}
use Rattle.mc_clauses.specs.Variables.{Met}
use Rattle.mc_declarations.specs.Declarations.{parameter_counts, declared_type, declared_types}
use Rattle.mc_declarations.specs.Proper.{Means, IsMeant, AreMeant}

-- ENTRIES OF TABLES

abbrev EachEntry : {A : Type 0} → (A → Type 0) → List (Row A) → Type 0
EachEntry P [] = Unit {0}
EachEntry P (r ∷ rs) = P r.entry × EachEntry P rs

entry_by :
    {A : Type 0} (P : A → Type 0) (b : Bool) (x a : A) (o : Option A)
    → P x → (o ≡ Some a → P a) → (if b then Some x else o) ≡ Some a → P a
entry_by P true x a o has rest is =
    let same : Some x ≡ Some a = is in
    let it : x ≡ a = cc in
    subst P it has
entry_by P false x a o has rest is = rest is

found_entry :
    {A : Type 0} (P : A → Type 0) (rs : List (Row A)) (w : List ℕ) (n : ℕ) (a : A)
    → EachEntry P rs → found rs w n ≡ Some a → P a
found_entry P [] w n a all is = absurd (let clash : None ≡ Some a = is in cc)
found_entry P (r ∷ rs) w n a all is =
    entry_by P (nat_eq n r.arity && bytes_eq r.name w) r.entry a (found rs w n) all.0
    (found_entry P rs w n a all.1) is

-- the builtin types are well formed, over any parameters
proper_builtin :
    (D : Parameters) (w : Path) (n : ℕ) (t : TypeTerm) → builtin w n ≡ Some t → ProperType D t
unfolding builtin_rows
proper_builtin D [] n t is = absurd (let clash : None ≡ Some t = is in cc)
proper_builtin D (w ∷ []) n t is =
    found_entry (ProperType D) builtin_rows w n t (tt, (tt, (tt, tt))) is
proper_builtin D (w ∷ v ∷ ws) n t is = absurd (let clash : None ≡ Some t = is in cc)

below_builtin :
    (k : ℕ) (w : Path) (n : ℕ) (t : TypeTerm) → builtin w n ≡ Some t → Below k t
unfolding builtin_rows
below_builtin k [] n t is = absurd (let clash : None ≡ Some t = is in cc)
below_builtin k (w ∷ []) n t is =
    found_entry (Below k) builtin_rows w n t (tt, (tt, (tt, tt))) is
below_builtin k (w ∷ v ∷ ws) n t is = absurd (let clash : None ≡ Some t = is in cc)

-- WHAT A NAME MEANS

-- types that have so many parameters
abbrev AllHave : Linked → (arity : ℕ) → List ℕ → Type 0
AllHave l n [] = Unit {0}
AllHave l n (u ∷ us) = (parameter_counts l u ≡ Some n) × AllHave l n us

both_have :
    (l : Linked) (n : ℕ) (us vs : List ℕ) → AllHave l n us → AllHave l n vs → AllHave l n (us ++ vs)
both_have l n [] vs all more = more
both_have l n (u ∷ us) vs all more = (all.0, both_have l n us vs all.1 more)

arity_fits :
    (l : Linked) (own : ℕ) (x : PlainNameArity) (j : ℕ) (d : Defined)
    → type_fits l own x j d ≡ true → d.name.arity ≡ x.arity
arity_fits l own x j d is =
    let name = and_parts (is_module d.name.«module» (slice_get l.scopes j)) (fits (nat_eq own j) x (Some d)) is in
    let named = and_parts _ (is_name_arity (id d.name.name d.name.arity) x) name.1 in
    let alike = and_parts (nat_eq d.name.arity x.arity) (bytes_eq d.name.name x.name) named.1 in
    eqb-true d.name.arity x.arity alike.0

kept_have :
    (l : Linked) (n k : ℕ) (b : Bool) (rest : List ℕ)
    → (b ≡ true → parameter_counts l k ≡ Some n) → AllHave l n rest
    → AllHave l n (if b then k ∷ rest else rest)
kept_have l n k true rest has more = (has refl, more)
kept_have l n k false rest has more = more

numbers_have :
    (l : Linked) (own : ℕ) (x : PlainNameArity) (j k : ℕ) (ds : List Defined)
    → ((i : ℕ) → slice_get l.types (k + i) ≡ slice_get ds i)
    → AllHave l x.arity (numbers_where (type_fits l own x j) k ds)
numbers_have l own x j k [] same = tt
numbers_have l own x j k (d ∷ ds) same =
    let first : k + 0 ≡ k = omega arith in
    let there : slice_get l.types k ≡ Some d = ap (slice_get l.types) (sym first) ∙ same 0 in
    kept_have l x.arity k (type_fits l own x j d) (numbers_where (type_fits l own x j) (k + 1) ds)
    (λ is.
    ap (option_map (λ (d : Defined). d.name.arity)) there ∙ ap Some (arity_fits l own x j d is))
    (numbers_have l own x j (k + 1) ds
    (λ i.
    let next : (k + 1) + i ≡ k + suc i = omega arith in
    ap (slice_get l.types) next ∙ same (suc i)))

all_numbers_have :
    (l : Linked) (own : ℕ) (x : PlainNameArity) (js : List ℕ)
    → AllHave l x.arity (type_numbers l own x js)
all_numbers_have l own x [] = tt
all_numbers_have l own x (j ∷ js) =
    both_have l x.arity (numbers_where (type_fits l own x j) 0 l.types) (type_numbers l own x js)
    (numbers_have l own x j 0 l.types
    (λ i. let same : 0 + i ≡ i = omega arith in ap (slice_get l.types) same))
    (all_numbers_have l own x js)

proper_state :
    (D : Parameters) (b : Bool) (u : ℕ) (ts : TypeTerms)
    → ProperType D (union_type u ts) → ProperType D (if b then state_type else union_type u ts)
proper_state D true u ts p = tt
proper_state D false u ts p = p

proper_first :
    (l : Linked) (n : ℕ) (ts : TypeTerms) (us : List ℕ)
    → us ≢ [] → AllHave l n us → count_types ts ≡ n → ProperTypes (parameter_counts l) ts
    → ProperType (parameter_counts l) (first_meaning l ts us)
proper_first l n ts [] some have counted p = absurd (some refl)
proper_first l n ts (u ∷ us) some have counted p =
    proper_state (parameter_counts l) (is_state_type (slice_get l.types u)) u ts
    (have.0 ∙ ap Some (sym counted), p)

proper_meaning :
    (l : Linked) (own : ℕ) (w : Path) (n : ℕ) (ts : TypeTerms) (o : Option TypeTerm)
    → builtin w n ≡ o → Means l own w n → count_types ts ≡ n
    → ProperTypes (parameter_counts l) ts
    → ProperType (parameter_counts l)
    (builtin_or_first o l ts (type_candidates l own (qualifiers w) (id (last_part w) n)))
proper_meaning l own w n ts (Some t) is means counted p =
    proper_builtin (parameter_counts l) w n t is
proper_meaning l own w n ts None is means counted p =
    proper_first l n ts (type_candidates l own (qualifiers w) (id (last_part w) n)) (means is)
    (all_numbers_have l own (id (last_part w) n)
    (looked_in l (slice_get l.scopes own) (qualifiers w))) counted p

proper_named :
    (l : Linked) (own : ℕ) (w : Path) (n : ℕ) (ts : TypeTerms)
    → Means l own w n → count_types ts ≡ n → ProperTypes (parameter_counts l) ts
    → ProperType (parameter_counts l) (named_type l own w n ts)
proper_named l own w n ts = proper_meaning l own w n ts (builtin w n) refl

-- WRITTEN TYPES

count_written :
    (l : Linked) (own : ℕ) (vs : List (List ℕ)) (ts : PlainTerms)
    → count_types (written_types l own vs ts) ≡ count ts
count_written l own vs no_term = refl
count_written l own vs (more_terms t ts) =
    let rest : count_types (written_types l own vs ts) ≡ count ts = count_written l own vs ts in
    omega arith

mutual
  pub proper_written :
      (l : Linked) (own : ℕ) (vs : List (List ℕ)) (t : PlainTerm)
      → IsMeant l own t → ProperType (parameter_counts l) (written_type l own vs t)
  proper_written l own vs (at (Var x) line) m = tt
  proper_written l own vs (at (App w ts) line) m =
      proper_named l own w (count ts) (written_types l own vs ts) m.0 (count_written l own vs ts)
      (all_proper_written l own vs ts m.1)
  proper_written l own vs (at (Int n) line) m = absurd m
  proper_written l own vs (at (Str w) line) m = absurd m
  proper_written l own vs (at (Items ts) line) m = absurd m
  proper_written l own vs (at (Tailed ts t) line) m = absurd m
  proper_written l own vs (at (Conj ts) line) m = absurd m
  proper_written l own vs (at (Disj ts) line) m = absurd m

  all_proper_written :
      (l : Linked) (own : ℕ) (vs : List (List ℕ)) (ts : PlainTerms)
      → AreMeant l own ts → ProperTypes (parameter_counts l) (written_types l own vs ts)
  all_proper_written l own vs no_term m = tt
  all_proper_written l own vs (more_terms t ts) m =
      (proper_written l own vs t m.0, all_proper_written l own vs ts m.1)

-- DECLARED TYPES

count_declared :
    (l : Linked) (own : ℕ) (ts : PlainTerms) (m : Met)
    → count_types (declared_types l own ts m).0 ≡ count ts
count_declared l own no_term m = refl
count_declared l own (more_terms t ts) m =
    let after = (declared_type l own t m).1 in
    let rest : count_types (declared_types l own ts after).0 ≡ count ts =
    count_declared l own ts after
    in
    omega arith

mutual
  pub proper_declared :
      (l : Linked) (own : ℕ) (t : PlainTerm) (m : Met)
      → IsMeant l own t → ProperType (parameter_counts l) (declared_type l own t m).0
  proper_declared l own (at (Var x) line) m is = tt
  proper_declared l own (at (App w ts) line) m is =
      proper_named l own w (count ts) (declared_types l own ts m).0 is.0
      (count_declared l own ts m) (all_proper_declared l own ts m is.1)
  proper_declared l own (at (Int n) line) m is = absurd is
  proper_declared l own (at (Str w) line) m is = absurd is
  proper_declared l own (at (Items ts) line) m is = absurd is
  proper_declared l own (at (Tailed ts t) line) m is = absurd is
  proper_declared l own (at (Conj ts) line) m is = absurd is
  proper_declared l own (at (Disj ts) line) m is = absurd is

  pub all_proper_declared :
      (l : Linked) (own : ℕ) (ts : PlainTerms) (m : Met)
      → AreMeant l own ts → ProperTypes (parameter_counts l) (declared_types l own ts m).0
  all_proper_declared l own no_term m is = tt
  all_proper_declared l own (more_terms t ts) m is = (
    proper_declared l own t m is.0,
    all_proper_declared l own ts (declared_type l own t m).1 is.1,
  )

-- PARAMETERS

-- the names of parameters stand among all
placed_by :
    (x : List ℕ) (vs : List (List ℕ)) (b : Bool)
    → (b ≡ false → place_of x vs < length vs)
    → (if b then 0 else suc (place_of x vs)) < suc (length vs)
placed_by x vs true rest = omega arith
placed_by x vs false rest =
    let less : place_of x vs < length vs = rest refl in
    omega arith

in_rest_by :
    (x y : List ℕ) (xs : List (List ℕ)) (b : Bool)
    → bytes_eq x y ≡ false → is_member bytes_eq (if b then xs else y ∷ xs) x ≡ true
    → is_member bytes_eq xs x ≡ true
in_rest_by x y xs true other is = is
in_rest_by x y xs false other is =
    elim (or_cases (bytes_eq x y) (is_member bytes_eq xs x) is) [
      | inl same ↦ absurd (let clash : false ≡ true = sym other ∙ same in cc)
      | inr rest ↦ rest
    ]

in_rest :
    (x : List ℕ) (o : Option (List ℕ)) (xs : List (List ℕ))
    → bytes_eq x (name_of o) ≡ false → is_member bytes_eq (with_name o xs) x ≡ true
    → is_member bytes_eq xs x ≡ true
in_rest x None xs other is = is
in_rest x (Some y) xs other is = in_rest_by x y xs (bytes_eq y (codes "_")) other is

placed :
    (x : List ℕ) (ts : PlainTerms)
    → is_member bytes_eq (names_in ts) x ≡ true
    → place_of x (variable_names ts) < length (variable_names ts)
placed x no_term is = absurd (let clash : false ≡ true = is in cc)
placed x (more_terms t ts) is =
    placed_by x (variable_names ts) (bytes_eq x (name_of (variable t)))
    (λ other. placed x ts (in_rest x (variable t) (names_in ts) other is))

pub count_names : (ts : PlainTerms) → length (variable_names ts) ≡ count ts
count_names no_term = refl
count_names (more_terms t ts) =
    let rest : length (variable_names ts) ≡ count ts = count_names ts in
    omega arith

-- each of these names stands among those
abbrev pub Places : (names all : List (List ℕ)) → Type 0
Places ps vs =
    (x : List ℕ) → is_member bytes_eq ps x ≡ true → place_of x vs < length vs

pub head_places : (ts : PlainTerms) → Places (names_in ts) (variable_names ts)
head_places ts x is = placed x ts is

below_variable :
    (x : List ℕ) (k v : ℕ) (b : Bool)
    → (b ≡ true → v < k) → (if b then None else Some x) ≡ None → v < k
below_variable x k v true less is = less refl
below_variable x k v false less is = absurd (let clash : Some x ≡ None = is in cc)

both_none :
    {A : Type 0} (o p : Option A) → option_or o p ≡ None → (o ≡ None) × (p ≡ None)
both_none None p is = (refl, is)
both_none (Some a) p is = absurd (let clash : Some a ≡ None = is in cc)

below_state :
    (k : ℕ) (b : Bool) (u : ℕ) (ts : TypeTerms)
    → AllBelow k ts → Below k (if b then state_type else union_type u ts)
below_state k true u ts all = tt
below_state k false u ts all = all

below_first :
    (l : Linked) (k : ℕ) (ts : TypeTerms) (us : List ℕ)
    → AllBelow k ts → Below k (first_meaning l ts us)
below_first l k ts [] all = all
below_first l k ts (u ∷ us) all =
    below_state k (is_state_type (slice_get l.types u)) u ts all

below_meaning :
    (l : Linked) (k : ℕ) (w : Path) (n : ℕ) (ts : TypeTerms) (us : List ℕ) (o : Option TypeTerm)
    → builtin w n ≡ o → AllBelow k ts → Below k (builtin_or_first o l ts us)
below_meaning l k w n ts us (Some t) is all = below_builtin k w n t is
below_meaning l k w n ts us None is all = below_first l k ts us all

-- a type without stray variables is over the parameters
mutual
  pub below_written :
      (l : Linked) (own : ℕ) (ps vs : List (List ℕ)) (t : PlainTerm)
      → Places ps vs → stray ps t ≡ None → Below (length vs) (written_type l own vs t)
  below_written l own ps vs (at (Var x) line) places none =
      below_variable x (length vs) (place_of x vs) (is_member bytes_eq ps x) (places x) none
  below_written l own ps vs (at (App w ts) line) places none =
      below_meaning l (length vs) w (count ts) (written_types l own vs ts)
      (type_candidates l own (qualifiers w) (id (last_part w) (count ts))) (builtin w (count ts)) refl
      (all_below_written l own ps vs ts places none)
  below_written l own ps vs (at (Int n) line) places none = tt
  below_written l own ps vs (at (Str w) line) places none = tt
  below_written l own ps vs (at (Items ts) line) places none = tt
  below_written l own ps vs (at (Tailed ts t) line) places none = tt
  below_written l own ps vs (at (Conj ts) line) places none = tt
  below_written l own ps vs (at (Disj ts) line) places none = tt

  all_below_written :
      (l : Linked) (own : ℕ) (ps vs : List (List ℕ)) (ts : PlainTerms)
      → Places ps vs → first_stray ps ts ≡ None
      → AllBelow (length vs) (written_types l own vs ts)
  all_below_written l own ps vs no_term places none = tt
  all_below_written l own ps vs (more_terms t ts) places none =
      let each = both_none (stray ps t) (first_stray ps ts) none in
      (below_written l own ps vs t places each.0, all_below_written l own ps vs ts places each.1)
