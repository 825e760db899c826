-- What the names of a clause may mean is declared.
use Rattle.std.proofs.Common.{◌≡◌, ℕ, zero, suc, ◌+◌, ◌-◌, ◌<◌, ◌≤◌, Bool, true, false, nat_eq, cond, List, [], ◌∷◌, ◌++◌, map, length, get_or, refl, sym, ap, ◌∙◌, subst, arith, ⊎_elim}
use Rattle.std.specs.Prelude.{Option, Some, slice_get}
use Rattle.std.specs.Option.{option_map}
use Rattle.std.proofs.lemmas.Bool.{cases_lt, eqb-true, eq-eqb}
use Rattle.mc_term_data.specs.Plain.{PlainTerms, no_term, more_terms}
use Rattle.mc_term_data.specs.Names as names
use Rattle.mc_source.specs.declared.name.Candidate.{Candidate}
use Rattle.mc_source.specs.declared.name.Candidate.TheVariants as C
use Rattle.mc_program.specs.Programs.{TypeTerm, Constructor, Source}
use Rattle.mc_program.specs.PlainPrograms.{no_symbol}
use Rattle.mc_program.specs.declared.program.TypeDef.{TypeDef}
use Rattle.mc_model.specs.Lists.{is_in, from}
use Rattle.mc_accepted.specs.ProperTypes.{Parameters, count_types, ProperType, ProperTypes, EachProper}
use Rattle.mc_accepted.specs.Resolving.{Step, push_variable, push_number, push_text, choose, equate, call, close_head, declared_type, parameters_from, signature, steps_of}
use Rattle.laws_made_types.specs.Constructors.{IsDeclared}
use Rattle.laws_made_types.specs.Known.{Known, WalkIsKnown}
use Rattle.mc_typecheck.specs.WellFormed.{WalkIsDeclared}
use Rattle.mc_decl_syntax.specs.Plain.{PlainDecl, UnionType}
use Rattle.mc_names.specs.Linked.{Defined, Linked, defining_module}
use Rattle.mc_names.specs.Parameters.{parameters_of}
use Rattle.mc_type_table.specs.Rules.{type_faults}
use Rattle.mc_type_table.specs.Visibility.{definitions_seen}
use Rattle.mc_type_table.specs.Table.{constructor_count, table_from}
use Rattle.mc_clauses.specs.Unresolved.{unresolved_clause, unresolved_query}
use Rattle.mc_declarations.specs.Declarations.{parameter_counts, constructors_in, constructors_by, constructors_from}
use Rattle.laws_types.specs.ClauseLaws.{IsThere, AllThere}
use Rattle.laws_types.proofs.Clauses.{candidates_are_there}
use Rattle.mc_declarations.specs.Proper.{AreWellWritten, declared_for}
use Rattle.mc_declarations.proofs.Fitting.{seen_fit, constructors_fit}
use Rattle.laws_types.specs.KnownCandidates.{ConstructorsAreNumbered, CandidatesAreKnown}
use Rattle.laws_types.proofs.Places.{front, back, joined}
use Rattle.laws_types.proofs.SeenTypes.{seen_types_are_final}

-- LISTS
in_from : (n k x : ℕ) → n ≤ x → x < n + k → is_in x (from n k) ≡ true
in_from n zero x low high = absurd (omega (arith, low, high))
in_from n (suc k) x low high = by_test (nat_eq x n) (λ e. eqb-true x n e) refl (λ later. let within : x < suc n + k = omega (arith, high) in in_from (suc n) k x later within)
  where
    by_test : (t : Bool) → (t ≡ true → x ≡ n) → nat_eq x n ≡ t → (suc n ≤ x → is_in x (from (suc n) k) ≡ true) → cond t true (is_in x (from (suc n) k)) ≡ true
    by_test true same is rest = refl
    by_test false same is rest =
        ⊎_elim (λ less. let later : suc n ≤ x = omega (arith, less) in rest later)
        (λ le. let e : x ≡ n = omega (arith, low, le) in let clash : false ≡ true = sym is ∙ eq-eqb x n e in absurd (let never : ⊥ = cc in never))
        (cases_lt n x)

-- CONSTRUCTORS are listed by their types
module _ (l : Linked) (E : ℕ → Option TypeTerm) where
  -- so many constructors of one type
  pub record AreOf (u : ℕ) (count : ℕ) (cs : List Constructor) : Type 0 where
    pub many : length cs ≡ count
    pub each : (k : ℕ) → k < length cs → (get_or cs k no_symbol).of_type ≡ u

  written_of : (w : List ℕ) (u own : ℕ) (vs : List (List ℕ)) (ts : PlainTerms) → AreOf u (names.count ts) (constructors_in l E w u own vs ts)
  written_of w u own vs no_term = record { many = refl; each = λ k less. absurd (let never : k < 0 = less in omega (arith, never)) }
  written_of w u own vs (more_terms t ts) =
      let rest = written_of w u own vs ts in
      let many = rest.many in
      record { many = omega (arith, many); each = λ k less. at_place k less rest.each }
    where
      at_place : (k : ℕ) → k < length (constructors_in l E w u own vs (more_terms t ts)) → ((j : ℕ) → j < length (constructors_in l E w u own vs ts) → (get_or (constructors_in l E w u own vs ts) j no_symbol).of_type ≡ u) → (get_or (constructors_in l E w u own vs (more_terms t ts)) k no_symbol).of_type ≡ u
      at_place zero less rest = refl
      at_place (suc j) less rest = let fewer : j < length (constructors_in l E w u own vs ts) = omega (arith, less) in rest j fewer

  item_of : (u : ℕ) (d : Defined) (i : PlainDecl) → AreOf u (constructor_count i) (constructors_by l E u d i)
  item_of u d (UnionType h ts) = written_of d.name.«module» u (defining_module l d) (parameters_of h) ts
  item_of u d i = record { many = refl; each = λ k less. absurd (let never : k < 0 = less in omega (arith, never)) }

  -- where a constructor is listed
  pub record Listed (n u s : ℕ) (ds : List Defined) : Type 0 where
    pub place : ℕ
    pub type : Defined
    pub there : slice_get ds place ≡ Some type
    pub of : (get_or (constructors_from l E u ds) s no_symbol).of_type ≡ u + place
    pub listed : is_in (n + s) (get_or (map (λ (t : TypeDef). t.symbols) (table_from n ds)) place []) ≡ true

  listed_in : (n u s : ℕ) (ds : List Defined) → s < length (constructors_from l E u ds) → Listed n u s ds
  listed_in n u s [] less = absurd (omega arith)
  listed_in n u s (d ∷ ds) less =
      ⊎_elim (λ first. here first) (λ far. later far (listed_in (n + constructor_count d.item) (suc u) (s - constructor_count d.item) ds (fewer far)))
      (cases_lt s (constructor_count d.item))
    where
      many : length (constructors_by l E u d d.item) ≡ constructor_count d.item
      many = (item_of u d d.item).many

      here : s < constructor_count d.item → Listed n u s (d ∷ ds)
      here first =
          let within : s < length (constructors_by l E u d d.item) = omega (arith, first, many) in
          let none : u ≡ u + 0 = omega arith in
          let low : n ≤ n + s = omega arith in
          let high : n + s < n + constructor_count d.item = omega (arith, first) in
          record {
            place = 0;
            type = d;
            there = refl;
            of = ap (λ (c : Constructor). c.of_type) (front (constructors_by l E u d d.item) (constructors_from l E (suc u) ds) s no_symbol within) ∙ (item_of u d d.item).each s within ∙ none;
            listed = in_from n (constructor_count d.item) (n + s) low high;
          }

      fewer : constructor_count d.item ≤ s → s - constructor_count d.item < length (constructors_from l E (suc u) ds)
      fewer far = omega (arith, far, less, many, joined (constructors_by l E u d d.item) (constructors_from l E (suc u) ds))

      later : constructor_count d.item ≤ s → Listed (n + constructor_count d.item) (suc u) (s - constructor_count d.item) ds → Listed n u s (d ∷ ds)
      later far h =
          let j = s - constructor_count d.item in
          let split : s ≡ length (constructors_by l E u d d.item) + j = omega (arith, far, many) in
          let next : suc u + h.place ≡ u + suc h.place = omega arith in
          let same : n + constructor_count d.item + j ≡ n + s = omega (arith, far) in
          record {
            place = suc h.place;
            type = h.type;
            there = h.there;
            of =
                ap (λ k. (get_or (constructors_from l E u (d ∷ ds)) k no_symbol).of_type) split
                ∙ ap (λ (c : Constructor). c.of_type) (back (constructors_by l E u d d.item) (constructors_from l E (suc u) ds) j no_symbol)
                ∙ h.of ∙ next;
            listed = ap (λ k. is_in k (get_or (map (λ (t : TypeDef). t.symbols) (table_from (n + constructor_count d.item) ds)) h.place [])) (sym same) ∙ h.listed;
          }

-- TYPES OVER THEIR PARAMETERS are well formed
count_parameters : (first n : ℕ) → count_types (parameters_from first n) ≡ n
count_parameters first zero = refl
count_parameters first (suc n) = ap suc (count_parameters (suc first) n)

parameters_proper : (D : Parameters) (first n : ℕ) → ProperTypes D (parameters_from first n)
parameters_proper D first zero = tt
parameters_proper D first (suc n) = (tt, parameters_proper D (suc first) n)

type_proper : (D : Parameters) (u k : ℕ) → D u ≡ Some k → ProperType D (declared_type u (D u))
type_proper D u k is =
    subst (λ o. ProperType D (declared_type u o)) (sym is) (is ∙ ap Some (sym (count_parameters 0 k)), parameters_proper D 0 k)

both_proper : (D : Parameters) (ts us : List TypeTerm) → EachProper D ts → EachProper D us → EachProper D (ts ++ us)
both_proper D [] us h k = k
both_proper D (t ∷ ts) us h k = (h.0, both_proper D ts us h.1 k)

module _ (l : Linked) (own : ℕ) (well : AreWellWritten l) (none : type_faults l ≡ []) (numbered : ConstructorsAreNumbered l) where
  abbrev D : Parameters
  D = parameter_counts l

  abbrev P : Source
  P = declared_for l own

  abbrev E : ℕ → Option TypeTerm
  E = definitions_seen l own

  declared_at : (s : ℕ) → s < length l.symbols → (k : ℕ) × IsDeclared P D s k
  declared_at s less =
      let within : s < length (constructors_from l E 0 l.types) = omega (arith, less, numbered E) in
      let h = listed_in l E 0 0 s l.types within in
      let number : 0 + s ≡ s = omega arith in
      let same : 0 + h.place ≡ h.place = omega arith in
      let type : (P.symbols s).of_type ≡ h.place = h.of ∙ same in
      let count : D (P.symbols s).of_type ≡ Some h.type.name.arity = ap D type ∙ ap (option_map (λ (d : Defined). d.name.arity)) h.there in
      let fits = constructors_fit l E (seen_fit l own well none) well none s in (
        h.type.name.arity,
        record {
          listed = ap (λ u. is_in s (P.symbols_of u)) type ∙ ap (λ k. is_in k (P.symbols_of h.place)) (sym number) ∙ h.listed;
          parameters = count;
          arguments = fits.within h.type.name.arity count;
        },
      )

  known : (c : Candidate) → IsThere l c → Known P D c
  known (C.Con s) h = declared_at s h
  known (C.Func f) h = tt
  known (C.Pred p) h = tt
  known (C.Char c) h = (h, refl)

  signature_proper : (c : Candidate) → IsThere l c → EachProper D (signature P D c)
  signature_proper (C.Con s) h =
      let is = declared_at s h in
      both_proper D (P.symbols s).args _ (constructors_fit l E (seen_fit l own well none) well none s).proper
      (type_proper D (P.symbols s).of_type is.0 is.1.parameters, tt)
  signature_proper (C.Func f) h = (seen_types_are_final l own well none f).0
  signature_proper (C.Pred p) h = (seen_types_are_final l own well none p).0
  signature_proper (C.Char c) h = (tt, tt)

  walk_known : (steps : List Step) → AllThere l steps → WalkIsKnown P D steps
  walk_known [] h = tt
  walk_known (push_variable v ∷ steps) h = walk_known steps h
  walk_known (push_number ∷ steps) h = walk_known steps h
  walk_known (push_text ∷ steps) h = walk_known steps h
  walk_known (choose cs n ∷ steps) h = (λ c i. known c (h.0 c i), walk_known steps h.1)
  walk_known (equate ∷ steps) h = walk_known steps h
  walk_known (call cs n ∷ steps) h = (λ c i. known c (h.0 c i), walk_known steps h.1)
  walk_known (close_head p n ∷ steps) h = walk_known steps h

  walk_declared : (steps : List Step) → AllThere l steps → WalkIsDeclared P D steps
  walk_declared [] h = tt
  walk_declared (push_variable v ∷ steps) h = walk_declared steps h
  walk_declared (push_number ∷ steps) h = walk_declared steps h
  walk_declared (push_text ∷ steps) h = walk_declared steps h
  walk_declared (choose cs n ∷ steps) h = (λ c i. signature_proper c (h.0 c i), walk_declared steps h.1)
  walk_declared (equate ∷ steps) h = walk_declared steps h
  walk_declared (call cs n ∷ steps) h = (λ c i. signature_proper c (h.0 c i), walk_declared steps h.1)
  walk_declared (close_head p n ∷ steps) h = ((seen_types_are_final l own well none p).0, walk_declared steps h)

pub candidates_are_known : CandidatesAreKnown
candidates_are_known l own number t well none numbered =
    let there = candidates_are_there l own number t in
    let clause = steps_of (unresolved_clause l own number t).clause in
    let query = steps_of (unresolved_query l own number t).clause in (
      (walk_known l own well none numbered clause there.0, walk_declared l own well none numbered clause there.0),
      (walk_known l own well none numbered query there.1, walk_declared l own well none numbered query there.1),
    )
