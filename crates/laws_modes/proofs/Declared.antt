-- Types that break no rule are regular.
use Rattle.std.proofs.Common.{◌≡◌, inl, inr, ℕ, zero, suc, ◌+◌, ◌≤◌, Bool, true, false, not, nat_eq, ◌&&◌, List, [], ◌∷◌, ◌++◌, map, length, get_or, refl, sym, ap, ap₂, ◌∙◌, subst, arith, ⊎_elim}
use Rattle.std.specs.Prelude.{Option, Some, None, slice_get, if◌then◌else◌}
use Rattle.std.specs.Option.{option_or}
use Rattle.std.proofs.lemmas.Bool.{cases_lt, eqb-true, or_from}
use Rattle.std.proofs.lemmas.List.{get_or_past, length-map}
use Rattle.mc_base.proofs.Booleans.{left_false, right_false}
use Rattle.mc_term_data.specs.Plain.{PlainTerm, PlainTerms, no_term, more_terms}
use Rattle.mc_source.specs.Rules.{Fault, broken_at, first_rules}
use Rattle.mc_source.specs.declared.place.Place.{Place}
use Rattle.mc_source.specs.declared.rule.Broken.{Broken}
use Rattle.mc_program.specs.Programs.{TypeTerm, int_type, char_type, string_type, state_type, variable_type, union_type, TypeTerms, no_types, type_then, Constructor, Source}
use Rattle.mc_program.specs.PlainPrograms.{no_symbol}
use Rattle.mc_program.specs.declared.program.TypeDef.{TypeDef}
use Rattle.mc_model.specs.Lists.{is_in}
use Rattle.mc_components.specs.Reached.{reaches, Way, step, over}
use Rattle.mc_components.proofs.Reaching.{reached_by_ways}
use Rattle.mc_components.proofs.Certified.{in_head, in_tail, in_cases}
use Rattle.mc_decl_syntax.specs.Plain.{PlainDecl, UnionType}
use Rattle.mc_names.specs.Linked.{Defined, Linked, defining_module}
use Rattle.mc_type_table.specs.Written.{written_type}
use Rattle.mc_names.specs.Parameters.{parameters_of}
use Rattle.mc_type_table.specs.Expanded.{expanded}
use Rattle.mc_type_table.specs.Rules.{constructor_fields, union_fields, types_in, types_in_all, definitions, body_by, is_of_group, are_plain, is_irregular, is_any_irregular, is_one_irregular, variable_fault, cycle_fault, regular_fault, of_type, type_fault, type_faults, numbered}
use Rattle.mc_type_table.specs.Rules as rules
use Rattle.mc_type_table.specs.Table.{table, table_from, constructor_count}
use Rattle.mc_type_table.proofs.Expanding.{in_left, in_right}
use Rattle.mc_declarations.specs.Declarations.{constructors_in, constructors_by, constructors_from}
use Rattle.laws_order.specs.SomeTest.{SymbolsEnd}
use Rattle.laws_order.proofs.SomeTest.{some_test_tells}
use Rattle.laws_order.proofs.Telling.{Held, held_at, held_left, held_right}
use Rattle.laws_modes.specs.Regular.{arguments_among, body, AreRegular}
use Rattle.laws_modes.specs.Declared.{declared, HasDeclared, DeclaredAreRegular, DeclaredAreTold}
use Rattle.laws_modes.proofs.Finite.{held_either}
use Rattle.laws_modes.proofs.Under.{held_of_map}
use Rattle.laws_modes.proofs.MetTypes.{finitely_many_met}

-- BODIES THAT ARE AMONG REGULAR ONES ARE REGULAR

held_number : (k : ℕ) (xs : List ℕ) → is_in k xs ≡ true → Held xs k
held_number k [] i = absurd (let clash : false ≡ true = i in cc)
held_number k (x ∷ xs) i =
    ⊎_elim (λ e. inl e) (λ later. inr (held_number k xs later)) (in_cases k x xs i)

number_held : (k : ℕ) (xs : List ℕ) → Held xs k → is_in k xs ≡ true
number_held k [] h = absurd h
number_held k (x ∷ xs) (inl e) = in_head k x xs e
number_held k (x ∷ xs) (inr h) = in_tail k x xs (number_held k xs h)

types_among :
    (xs ys : List TypeTerm) (k : ℕ)
    → ((t : TypeTerm) → Held xs t → Held ys t)
    → is_in k (types_in_all xs) ≡ true → is_in k (types_in_all ys) ≡ true
types_among [] ys k all i = absurd (let clash : false ≡ true = i in cc)
types_among (t ∷ ts) ys k all i =
    ⊎_elim (λ h. one_of ys (all t (inl refl)) (number_held k (types_in t) h))
    (λ h.
    types_among ts ys k (λ x later. all x (inr later)) (number_held k (types_in_all ts) h))
    (held_either (types_in t) (types_in_all ts) k
    (held_number k (types_in t ++ types_in_all ts) i))
  where
    one_of :
        (ys : List TypeTerm) → Held ys t → is_in k (types_in t) ≡ true
        → is_in k (types_in_all ys) ≡ true
    one_of [] h j = absurd h
    one_of (y ∷ ys) (inl e) j =
        in_left k (types_in y) (types_in_all ys) (subst (λ x. is_in k (types_in x) ≡ true) e j)
    one_of (y ∷ ys) (inr h) j = in_right k (types_in y) (types_in_all ys) (one_of ys h j)

ways_among :
    (next more : ℕ → List ℕ) (n k j : ℕ)
    → ((u w : ℕ) → is_in w (next u) ≡ true → is_in w (more u) ≡ true)
    → Way next n k j → Way more n k j
ways_among next more n k j all (step e) = step (all k j e)
ways_among next more n k j all (over {i = i} less w v) =
    over less (ways_among next more n k i all w) (ways_among next more n i j all v)

reached_among :
    (next more : ℕ → List ℕ) (n k j : ℕ)
    → ((u w : ℕ) → is_in w (next u) ≡ true → is_in w (more u) ≡ true)
    → reaches next n k j ≡ true → reaches more n k j ≡ true
reached_among next more n k j all r =
    (reached_by_ways more n k j).1
    (ways_among next more n k j all ((reached_by_ways next n k j).0 r))

fewer_in_group :
    (g h p : Bool) → (g ≡ true → h ≡ true) → (h && not p) ≡ false → (g && not p) ≡ false
fewer_in_group true h p all e = subst (λ b. (b && not p) ≡ false) (all refl) e
fewer_in_group false h p all e = refl

module _ (group more : ℕ → Bool) (all : (k : ℕ) → group k ≡ true → more k ≡ true) where
  mutual
    regular_in_fewer : (t : TypeTerm) → is_irregular more t ≡ false → is_irregular group t ≡ false
    regular_in_fewer int_type r = refl
    regular_in_fewer char_type r = refl
    regular_in_fewer string_type r = refl
    regular_in_fewer state_type r = refl
    regular_in_fewer (variable_type v) r = refl
    regular_in_fewer (union_type u ts) r =
        or_from (group u && not (are_plain ts)) (is_any_irregular group ts)
        (fewer_in_group (group u) (more u) (are_plain ts) (all u)
        (left_false (more u && not (are_plain ts)) (is_any_irregular more ts) r))
        (all_regular_in_fewer ts
        (right_false (more u && not (are_plain ts)) (is_any_irregular more ts) r))

    all_regular_in_fewer :
        (ts : TypeTerms) → is_any_irregular more ts ≡ false → is_any_irregular group ts ≡ false
    all_regular_in_fewer no_types r = refl
    all_regular_in_fewer (type_then t ts) r =
        or_from (is_irregular group t) (is_any_irregular group ts)
        (regular_in_fewer t (left_false (is_irregular more t) (is_any_irregular more ts) r))
        (all_regular_in_fewer ts (right_false (is_irregular more t) (is_any_irregular more ts) r))

  one_regular :
      (ys : List TypeTerm) (t : TypeTerm)
      → is_one_irregular more ys ≡ false → Held ys t → is_irregular group t ≡ false
  one_regular [] t r h = absurd h
  one_regular (y ∷ ys) t r (inl e) =
      subst (λ x. is_irregular group x ≡ false) (sym e)
      (regular_in_fewer y (left_false (is_irregular more y) (is_one_irregular more ys) r))
  one_regular (y ∷ ys) t r (inr h) =
      one_regular ys t (right_false (is_irregular more y) (is_one_irregular more ys) r) h

  regular_among :
      (xs ys : List TypeTerm)
      → ((t : TypeTerm) → Held xs t → Held ys t)
      → is_one_irregular more ys ≡ false → is_one_irregular group xs ≡ false
  regular_among [] ys held r = refl
  regular_among (x ∷ xs) ys held r =
      or_from (is_irregular group x) (is_one_irregular group xs)
      (one_regular ys x r (held x (inl refl)))
      (regular_among xs ys (λ t h. held t (inr h)) r)

-- NO TYPE BREAKS A RULE

no_rule_of :
    {A : Type 0} (place : A → Place) (rule : A → Option Fault) (xs : List A) (x : A)
    → first_rules place rule xs ≡ [] → Held xs x → rule x ≡ None
no_rule_of place rule [] x none h = absurd h
no_rule_of {A = A} place rule (y ∷ xs) x none h =
    let parts = empty_parts (broken_at (place y) (rule y)) (first_rules place rule xs) none in
    ⊎_elim
    (λ e. ap rule e ∙ unbroken (place y) (rule y) parts.0)
    (λ later. no_rule_of place rule xs x parts.1 later) h
  where
    empty_parts : (bs cs : List Broken) → bs ++ cs ≡ [] → (bs ≡ []) × (cs ≡ [])
    empty_parts [] cs e = (refl, e)
    empty_parts (b ∷ bs) cs e = absurd (let clash : b ∷ (bs ++ cs) ≡ [] = e in cc)

    unbroken : (at : Place) (o : Option Fault) → broken_at at o ≡ [] → o ≡ None
    unbroken at None e = refl
    unbroken at (Some f) e = cc

numbered_at :
    (n i : ℕ) (ds : List Defined) (d : Defined)
    → slice_get ds i ≡ Some d → Held (numbered n ds) (n + i, d)
numbered_at n i [] d there = absurd (let clash : None ≡ Some d = there in cc)
numbered_at n zero (x ∷ ds) d there =
    let same : x ≡ d = cc in
    let first : n + 0 ≡ n = omega arith in
    inl (ap₂ (λ k y. (k, y)) first (sym same))
numbered_at n (suc i) (x ∷ ds) d there =
    let next : (n + 1) + i ≡ n + suc i = omega arith in
    inr
    (subst (λ k. Held (numbered (n + 1) ds) (k, d)) next (numbered_at (n + 1) i ds d there))

last_none :
    {A : Type 0} (o p q : Option A) → option_or o (option_or p q) ≡ None → q ≡ None
last_none None None q e = e
last_none None (Some a) q e = absurd (let clash : Some a ≡ None = e in cc)
last_none (Some a) p q e = absurd (let clash : Some a ≡ None = e in cc)

untold : {A : Type 0} (b : Bool) (a : A) → (if b then Some a else None) ≡ None → b ≡ false
untold true a e = absurd (let clash : Some a ≡ None = e in cc)
untold false a e = refl

module _ (l : Linked) where
  abbrev irregular : ℕ → Bool
  irregular u = is_one_irregular (λ k. is_of_group l k u) (rules.body l u)

  regular_by :
      (u : ℕ) (o : Option Defined)
      → type_faults l ≡ [] → slice_get l.types u ≡ o → irregular u ≡ false
  regular_by u None none there =
      ap (λ o. is_one_irregular (λ k. is_of_group l k u) (rules.body_of l o)) there
  regular_by u (Some d) none there =
      let same : 0 + u ≡ u = omega arith in
      let fault : type_fault l u d ≡ None =
      no_rule_of (λ p. p.1.at) (λ p. type_fault l p.0 p.1) (numbered 0 l.types) (u, d) none
      (subst (λ k. Held (numbered 0 l.types) (k, d)) same (numbered_at 0 u l.types d there))
      in
      untold (irregular u) _
      (last_none (variable_fault d.item) (cycle_fault l u d) (regular_fault l u d) fault)

  -- WHAT IS DECLARED

  abbrev field_type : (own : ℕ) → (variables : List (List ℕ)) → PlainTerm → TypeTerm
  field_type own vs f = expanded l (definitions l) (written_type l own vs f)

  abbrev IsIn : (u : ℕ) → List TypeTerm → Constructor → Type 0
  IsIn u ts c = (c.of_type ≡ u) × ((a : TypeTerm) → Held c.args a → Held ts a)

  held_map : {A B : Type 0} (f : A → B) (xs : List A) (x : A) → Held xs x → Held (map f xs) (f x)
  held_map f [] x h = absurd h
  held_map f (y ∷ xs) x (inl e) = inl (ap f e)
  held_map f (y ∷ xs) x (inr h) = inr (held_map f xs x h)

  fields_held :
      (own : ℕ) (vs : List (List ℕ)) (fs gs : List PlainTerm) (a : TypeTerm)
      → ((f : PlainTerm) → Held fs f → Held gs f)
      → Held (map (field_type own vs) fs) a → Held (map (field_type own vs) gs) a
  fields_held own vs fs gs a all h =
      let r = held_of_map (field_type own vs) fs a h in
      subst (λ x. Held (map (field_type own vs) gs) x) (sym r.2)
      (held_map (field_type own vs) gs r.0 (all r.0 r.1))

  in_union :
      (w : List ℕ) (u own : ℕ) (vs : List (List ℕ)) (ts : PlainTerms) (c : Constructor)
      → Held (constructors_in l (definitions l) w u own vs ts) c
      → IsIn u (map (field_type own vs) (union_fields ts)) c
  in_union w u own vs no_term c h = absurd h
  in_union w u own vs (more_terms t ts) c (inl e) =
      subst (IsIn u (map (field_type own vs) (constructor_fields t ++ union_fields ts))) (sym e) (
        refl,
        λ a h.
            fields_held own vs (constructor_fields t) (constructor_fields t ++ union_fields ts) a
            (λ f k. held_left (constructor_fields t) (union_fields ts) f k) h,
      )
  in_union w u own vs (more_terms t ts) c (inr h) =
      let r = in_union w u own vs ts c h in (
        r.0,
        λ a k.
            fields_held own vs (union_fields ts) (constructor_fields t ++ union_fields ts) a
            (λ f j. held_right (constructor_fields t) (union_fields ts) f j) (r.1 a k),
      )

  in_item :
      (u : ℕ) (d : Defined) (i : PlainDecl) (c : Constructor)
      → Held (constructors_by l (definitions l) u d i) c → IsIn u (body_by l (defining_module l d) i) c
  in_item u d (UnionType h ts) c k = in_union d.name.«module» u (defining_module l d) (parameters_of h) ts c k
  in_item u d i c k = absurd k

  in_types :
      (v : ℕ) (ds : List Defined) (c : Constructor)
      → ((i : ℕ) → slice_get l.types (v + i) ≡ slice_get ds i)
      → Held (constructors_from l (definitions l) v ds) c
      → IsIn c.of_type (rules.body l c.of_type) c
  in_types v [] c same h = absurd h
  in_types v (d ∷ ds) c same h =
      ⊎_elim
      (λ k.
      let r = in_item v d d.item c k in
      let first : v + 0 ≡ v = omega arith in
      let there : slice_get l.types v ≡ Some d = ap (slice_get l.types) (sym first) ∙ same 0 in
      let it : IsIn v (rules.body l v) c =
      subst (λ o. IsIn v (rules.body_of l o) c) (sym there) r
      in
      subst (λ u. IsIn u (rules.body l u) c) (sym r.0) it)
      (λ k.
      in_types (suc v) ds c
      (λ i.
      let next : suc v + i ≡ v + suc i = omega arith in
      ap (slice_get l.types) next ∙ same (suc i)) k)
      (held_either (constructors_by l (definitions l) v d d.item)
      (constructors_from l (definitions l) (suc v) ds) c h)

  abbrev constructors : List Constructor
  constructors = constructors_from l (definitions l) 0 l.types

  in_body :
      (a : TypeTerm) (c : Constructor)
      → Held constructors c → Held c.args a → Held (rules.body l c.of_type) a
  in_body a c h k =
      (in_types 0 l.types c
      (λ i. let same : 0 + i ≡ i = omega arith in ap (slice_get l.types) same) h).1 a k

  argument_in_body :
      (s : ℕ) (a : TypeTerm)
      → Held (get_or constructors s no_symbol).args a
      → Held (rules.body l (get_or constructors s no_symbol).of_type) a
  argument_in_body s a h =
      ⊎_elim
      (λ less.
      in_body a (get_or constructors s no_symbol) (held_at constructors s no_symbol less) h)
      (λ past.
      absurd
      (subst (λ (c : Constructor). Held c.args a) (get_or_past constructors s no_symbol past) h))
      (cases_lt s (length constructors))

  table_count : (n : ℕ) (ds : List Defined) → length (table_from n ds) ≡ length ds
  table_count n [] = refl
  table_count n (d ∷ ds) = ap suc (table_count (n + constructor_count d.item) ds)

  none_past : (u : ℕ) → length l.types ≤ u → (declared l).symbols_of u ≡ []
  none_past u past =
      get_or_past (map (λ (t : TypeDef). t.symbols) (table l)) u []
      (let count : length (map (λ (t : TypeDef). t.symbols) (table l)) ≡ length l.types =
      length-map (table l) (λ (t : TypeDef). t.symbols) ∙ table_count 0 l.types
      in
      omega (arith, count, past))

  module _ (P : Source) (has : HasDeclared l P) where
    symbol_is : (s : ℕ) → P.symbols s ≡ get_or constructors s no_symbol
    symbol_is s = ap (λ (f : ℕ → Constructor). f s) has.symbols

    of_type_held :
        (u : ℕ) (b : Bool) (c : Constructor) (a : TypeTerm)
        → nat_eq c.of_type u ≡ b → (Held c.args a → Held (rules.body l c.of_type) a)
        → Held (if b then c.args else []) a → Held (rules.body l u) a
    of_type_held u true c a e f h =
        subst (λ k. Held (rules.body l k) a) (eqb-true c.of_type u e) (f h)
    of_type_held u false c a e f h = absurd h

    among_body :
        (u : ℕ) (ss : List ℕ) (a : TypeTerm)
        → Held (arguments_among P u ss) a → Held (rules.body l u) a
    among_body u [] a h = absurd h
    among_body u (s ∷ ss) a h =
        ⊎_elim
        (λ k.
        of_type_held u (nat_eq (P.symbols s).of_type u) (P.symbols s) a refl
        (subst (λ (c : Constructor). Held c.args a → Held (rules.body l c.of_type) a)
        (sym (symbol_is s)) (argument_in_body s a)) k)
        (λ k. among_body u ss a k)
        (held_either (if nat_eq (P.symbols s).of_type u then (P.symbols s).args else [])
        (arguments_among P u ss) a h)

    are_regular : type_faults l ≡ [] → AreRegular P (length l.types)
    are_regular none =
        record {
          end =
              λ u past. ap (λ (f : ℕ → List ℕ). f u) has.symbols_of ∙ none_past u past;
          regular =
              λ u.
              regular_among (λ k. reaches (λ w. types_in_all (body P w)) (length l.types) k u)
              (λ k. is_of_group l k u)
              (λ k.
              reached_among (λ w. types_in_all (body P w)) (λ w. types_in_all (rules.body l w))
              (length l.types) k u
              (λ w j. types_among (body P w) (rules.body l w) j (among_body w (P.symbols_of w))))
              (body P u) (rules.body l u) (among_body u (P.symbols_of u))
              (regular_by u (slice_get l.types u) none refl);
        }

    symbols_end : SymbolsEnd P (length constructors)
    symbols_end s past =
        symbol_is s
        ∙ get_or_past constructors s no_symbol past
        ∙ sym (get_or_past constructors (length constructors) no_symbol (omega arith))
        ∙ sym (symbol_is (length constructors))

pub declared_are_regular : DeclaredAreRegular
declared_are_regular l P has none = are_regular l P has none

pub declared_are_told : DeclaredAreTold
declared_are_told l P G n has none fits ends =
    some_test_tells P G n (length (constructors l)) fits ends (symbols_end l P has)
    (finitely_many_met P (length l.types) (are_regular l P has none))
