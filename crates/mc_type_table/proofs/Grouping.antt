-- The bodies of unions, and the groups of types.
use Rattle.std.proofs.Common.{◌≡◌, ℕ, zero, suc, ◌+◌, ◌<◌, Bool, true, false, not, ◌&&◌, ◌||◌, List, [], ◌∷◌, ◌++◌, map, length, get_or, take, drop, ◌⊎◌, inl, inr, refl, sym, ap, ap₂, ◌∙◌, subst, append_assoc}
use Rattle.std.specs.Prelude.{Option, Some, None, slice_get, if◌then◌else◌}
use Rattle.std.proofs.Math.Path.{fun_ext}
use Rattle.std.proofs.lemmas.List.{length-map, map-append, take_more, at_drop_more}
use Rattle.mc_term_data.specs.Plain.{PlainTerm, PlainTerms}
use Rattle.mc_program.specs.Programs.{TypeTerm, union_type, TypeTerms, no_types, type_then}
use Rattle.mc_model.specs.Lists.{is_in}
use Rattle.mc_components.specs.Reached.{reaches}
use Rattle.mc_components.specs.Components.{steps, NumbersComponents, one_reaches}
use Rattle.mc_components.proofs.Certified.{in_head, in_tail, in_cases}
use Rattle.mc_decl_syntax.specs.Plain.{PlainDecl, UnionType}
use Rattle.mc_names.specs.declared.names.Named.{Named}
use Rattle.mc_names.specs.declared.names.Names.{Names}
use Rattle.mc_names.specs.Linked.{Defined, Linked, plain_named, plain_names, defining_module}
use Rattle.mc_type_table.specs.declared.bodies.Bodies.{Bodies}
use Rattle.mc_names.specs.Parameters.{parameters_of}
use Rattle.mc_type_table.specs.Written.{written_type}
use Rattle.mc_type_table.specs.Expanded.{replaced, after_rounds}
use Rattle.mc_type_table.specs.Rules.{union_fields, types_in, all_types_in, types_in_all, definitions, body_by, body_of, body, is_of_group, are_plain, is_irregular, is_any_irregular, is_one_irregular}
use Rattle.mc_type_table.specs.code.Grown.{grown_in, all_grown_in, grown_in_all}
use Rattle.mc_type_table.specs.code.Kept.{contents_by, contents, AreBodies}
use Rattle.mc_type_table.proofs.Expanding.{in_left, in_right}

pub types_put :
    {A : Type 0} (F : A → TypeTerm) (xs ys : List ℕ) (ts : List A) (i : ℕ) (t : A) (x : TypeTerm)
    → i < length ts → t ≡ get_or ts i t → x ≡ F t → ys ≡ xs ++ types_in x
    → ys ++ types_in_all (map F (drop (i + 1) ts)) ≡ xs ++ types_in_all (map F (drop i ts))
types_put {A = A} F xs ys ts i t x below is same more =
    let rest = types_in_all (map F (drop (i + 1) ts)) in
    ap (λ zs. zs ++ rest) more
    ∙ append_assoc xs (types_in x) rest
    ∙ ap (λ y. xs ++ (types_in y ++ rest)) same
    ∙ ap (λ (u : A). xs ++ (types_in (F u) ++ rest)) is
    ∙ sym (at_drop_more (λ us. xs ++ types_in_all (map F us)) ts i t below)

pub grown_put :
    {A : Type 0} (F : A → TypeTerm) (xs ys : List ℕ) (ts : List A) (i : ℕ) (t : A) (x : TypeTerm)
    → i < length ts → t ≡ get_or ts i t → x ≡ F t → ys ≡ xs ++ grown_in x
    → ys ++ grown_in_all (map F (drop (i + 1) ts)) ≡ xs ++ grown_in_all (map F (drop i ts))
grown_put {A = A} F xs ys ts i t x below is same more =
    let rest = grown_in_all (map F (drop (i + 1) ts)) in
    ap (λ zs. zs ++ rest) more
    ∙ append_assoc xs (grown_in x) rest
    ∙ ap (λ y. xs ++ (grown_in y ++ rest)) same
    ∙ ap (λ (u : A). xs ++ (grown_in (F u) ++ rest)) is
    ∙ sym (at_drop_more (λ us. xs ++ grown_in_all (map F us)) ts i t below)

composed :
    {A : Type 0} (F : PlainTerm → TypeTerm) (G : A → PlainTerm) (xs : List A)
    → map (λ x. F (G x)) xs ≡ map F (map G xs)
composed F G [] = refl
composed F G (x ∷ xs) = ap (λ ts. F (G x) ∷ ts) (composed F G xs)

pub over_fields :
    {A : Type 0} (F : PlainTerm → TypeTerm) (G : A → PlainTerm) (xs : List A) (ys : List PlainTerm)
    → map G xs ≡ ys → map (λ x. F (G x)) xs ≡ map F ys
over_fields F G xs ys same = composed F G xs ∙ ap (map F) same

types_at :
    (D : ℕ → Option TypeTerm) (l : Linked) (ns : List Named) (u : ℕ)
    → steps (map (λ n. types_in_all (contents D l (Some (plain_named n)))) ns) u
    ≡ types_in_all (contents D l (slice_get (map plain_named ns) u))
types_at D l [] u = refl
types_at D l (n ∷ ns) zero = refl
types_at D l (n ∷ ns) (suc u) = types_at D l ns u

grown_at :
    (D : ℕ → Option TypeTerm) (l : Linked) (ns : List Named) (u : ℕ)
    → steps (map (λ n. grown_in_all (contents D l (Some (plain_named n)))) ns) u
    ≡ grown_in_all (contents D l (slice_get (map plain_named ns) u))
grown_at D l [] u = refl
grown_at D l (n ∷ ns) zero = refl
grown_at D l (n ∷ ns) (suc u) = grown_at D l ns u

pub are_bodies :
    (n : Names) (D : ℕ → Option TypeTerm) (rows : List (List ℕ)) (b : Bodies)
    → rows ≡ map (λ d. types_in_all (contents D (plain_names n) (Some (plain_named d)))) n.types
    → b.grown ≡ map (λ d. grown_in_all (contents D (plain_names n) (Some (plain_named d)))) n.types
    → b.graph ≡ rows → length b.components ≡ length rows → NumbersComponents rows b.components
    → AreBodies (plain_names n) D b
are_bodies n D rows b is_rows is_grown is_graph count alike =
    record {
      types = λ u. ap (λ g. steps g u) (is_graph ∙ is_rows) ∙ types_at D (plain_names n) n.types u;
      grown = λ u. ap (λ g. steps g u) is_grown ∙ grown_at D (plain_names n) n.types u;
      count =
          ap length (is_graph ∙ is_rows)
          ∙ length-map n.types
          (λ d. types_in_all (contents D (plain_names n) (Some (plain_named d))))
          ∙ sym (length-map n.types plain_named);
      numbered = count ∙ ap length (sym is_graph);
      alike = subst (λ g. NumbersComponents g b.components) (sym is_graph) alike;
    }

same_body :
    (l : Linked) (own : ℕ) (i : PlainDecl)
    → contents_by (after_rounds (length l.types) (definitions l)) l own i ≡ body_by l own i
same_body l own (UnionType h ts) = refl
same_body l own i = refl

body_is :
    (l : Linked) (o : Option Defined)
    → contents (after_rounds (length l.types) (definitions l)) l o ≡ body_of l o
body_is l None = refl
body_is l (Some d) = same_body l (defining_module l d) d.item

-- whether a test holds of one of these
abbrev one : (ℕ → Bool) → List ℕ → Bool
one g [] = false
one g (x ∷ xs) = g x || one g xs

or_more : (a b c : Bool) → (a || (b || c)) ≡ ((a || b) || c)
or_more true b c = refl
or_more false b c = refl

or_both : (a b : Bool) → (a || b) ≡ (b || a)
or_both true true = refl
or_both true false = refl
or_both false true = refl
or_both false false = refl

one_append : (g : ℕ → Bool) (xs ys : List ℕ) → one g (xs ++ ys) ≡ (one g xs || one g ys)
one_append g [] ys = refl
one_append g (x ∷ xs) ys =
    ap (λ b. g x || b) (one_append g xs ys) ∙ or_more (g x) (one g xs) (one g ys)

whole : (b : Bool) → (b || false) ≡ (b && true)
whole true = refl
whole false = refl

none : (b : Bool) → false ≡ (b && false)
none true = refl
none false = refl

one_where :
    (g : ℕ → Bool) (u : ℕ) (b : Bool) → one g (if b then u ∷ [] else []) ≡ (g u && b)
one_where g u true = whole (g u)
one_where g u false = none (g u)

mutual
  irregular_one :
      (g : ℕ → Bool) (t : TypeTerm) → is_irregular g t ≡ one g (grown_in t)
  irregular_one g (union_type u ts) =
      ap (λ b. (g u && not (are_plain ts)) || b) (any_irregular_one g ts)
      ∙ or_both (g u && not (are_plain ts)) (one g (all_grown_in ts))
      ∙ ap (λ b. one g (all_grown_in ts) || b) (sym (one_where g u (not (are_plain ts))))
      ∙ sym (one_append g (all_grown_in ts) (if not (are_plain ts) then u ∷ [] else []))
  irregular_one g t = refl

  any_irregular_one :
      (g : ℕ → Bool) (ts : TypeTerms) → is_any_irregular g ts ≡ one g (all_grown_in ts)
  any_irregular_one g no_types = refl
  any_irregular_one g (type_then t ts) =
      ap₂ ◌||◌ (irregular_one g t) (any_irregular_one g ts)
      ∙ sym (one_append g (grown_in t) (all_grown_in ts))

one_irregular_one :
    (g : ℕ → Bool) (ts : List TypeTerm) → is_one_irregular g ts ≡ one g (grown_in_all ts)
one_irregular_one g [] = refl
one_irregular_one g (t ∷ ts) =
    ap₂ ◌||◌ (irregular_one g t) (one_irregular_one g ts)
    ∙ sym (one_append g (grown_in t) (grown_in_all ts))

where_in :
    (j u : ℕ) (b : Bool) → is_in j (if b then u ∷ [] else []) ≡ true → j ≡ u
where_in j u true h =
    elim (in_cases j u [] h) [
      | inl same ↦ same
      | inr none ↦ absurd (let clash : false ≡ true = none in cc)
    ]
where_in j u false h = absurd (let clash : false ≡ true = h in cc)

from_either :
    (j : ℕ) (xs ys : List ℕ)
    → is_in j (xs ++ ys) ≡ true → (is_in j xs ≡ true) ⊎ (is_in j ys ≡ true)
from_either j [] ys h = inr h
from_either j (x ∷ xs) ys h =
    elim (in_cases j x (xs ++ ys) h) [
      | inl same ↦ inl (in_head j x xs same)
      | inr later ↦
          elim (from_either j xs ys later) [
            | inl p ↦ inl (in_tail j x xs p)
            | inr q ↦ inr q
          ]
    ]

mutual
  grown_among :
      (j : ℕ) (t : TypeTerm) → is_in j (grown_in t) ≡ true → is_in j (types_in t) ≡ true
  grown_among j (union_type u ts) h =
      elim (from_either j (all_grown_in ts) (if not (are_plain ts) then u ∷ [] else []) h) [
        | inl p ↦ in_tail j u (all_types_in ts) (all_grown_among j ts p)
        | inr q ↦ in_head j u (all_types_in ts) (where_in j u (not (are_plain ts)) q)
      ]
  grown_among j t h = h

  all_grown_among :
      (j : ℕ) (ts : TypeTerms)
      → is_in j (all_grown_in ts) ≡ true → is_in j (all_types_in ts) ≡ true
  all_grown_among j no_types h = h
  all_grown_among j (type_then t ts) h =
      elim (from_either j (grown_in t) (all_grown_in ts) h) [
        | inl p ↦ in_left j (types_in t) (all_types_in ts) (grown_among j t p)
        | inr q ↦ in_right j (types_in t) (all_types_in ts) (all_grown_among j ts q)
      ]

grown_in_body :
    (j : ℕ) (ts : List TypeTerm)
    → is_in j (grown_in_all ts) ≡ true → is_in j (types_in_all ts) ≡ true
grown_in_body j [] h = h
grown_in_body j (t ∷ ts) h =
    elim (from_either j (grown_in t) (grown_in_all ts) h) [
      | inl p ↦ in_left j (types_in t) (types_in_all ts) (grown_among j t p)
      | inr q ↦ in_right j (types_in t) (types_in_all ts) (grown_in_body j ts q)
    ]

reaches_one :
    (graph : List (List ℕ)) (u : ℕ) (xs : List ℕ)
    → one_reaches graph u xs ≡ one (λ k. reaches (steps graph) (length graph) k u) xs
reaches_one graph u [] = refl
reaches_one graph u (x ∷ xs) =
    ap (λ b. reaches (steps graph) (length graph) x u || b) (reaches_one graph u xs)

pub irregular_by :
    (l : Linked) (b : Bodies) (u : ℕ) (xs : List ℕ) (r : Bool)
    → xs ≡ steps b.grown u
    → ((graph : List (List ℕ))
    → length b.components ≡ length graph → NumbersComponents graph b.components
    → ((j : ℕ) → is_in j xs ≡ true → is_in j (steps graph u) ≡ true)
    → r ≡ one_reaches graph u xs)
    → AreBodies l (after_rounds (length l.types) (definitions l)) b
    → r ≡ is_one_irregular (λ k. is_of_group l k u) (body l u)
irregular_by l b u xs r is_xs tells are =
    let D = after_rounds (length l.types) (definitions l) in
    let body_so : (k : ℕ) → contents D l (slice_get l.types k) ≡ body l k =
    λ k. body_is l (slice_get l.types k)
    in
    let all : xs ≡ grown_in_all (body l u) =
    is_xs ∙ are.grown u ∙ ap grown_in_all (body_so u)
    in
    let types_so : (k : ℕ) → steps b.graph k ≡ types_in_all (body l k) =
    λ k. are.types k ∙ ap types_in_all (body_so k)
    in
    let among : (j : ℕ) → is_in j xs ≡ true → is_in j (steps b.graph u) ≡ true =
    λ j h.
    ap (is_in j) (types_so u) ∙ grown_in_body j (body l u) (ap (is_in j) (sym all) ∙ h)
    in
    tells b.graph are.numbered are.alike among
    ∙ reaches_one b.graph u xs
    ∙ ap (λ next. one (λ k. reaches next (length b.graph) k u) xs) (fun_ext types_so)
    ∙ ap (λ n. one (λ k. reaches (λ k. types_in_all (body l k)) n k u) xs) are.count
    ∙ ap (one (λ k. is_of_group l k u)) all
    ∙ sym (one_irregular_one (λ k. is_of_group l k u) (body l u))

pub contents_is :
    {A : Type 0} (D : ℕ → Option TypeTerm) (l : Linked) (own place : ℕ) (G : A → PlainTerm)
    (fs slice : List A) (vs names : List (List ℕ)) (i : PlainDecl) (h : PlainTerm) (ts : PlainTerms)
    → i ≡ UnionType h ts → place ≡ own → names ≡ vs → vs ≡ parameters_of h → slice ≡ fs
    → map G fs ≡ union_fields ts
    → map (λ t. replaced D (written_type l place names (G t))) slice ≡ contents_by D l own i
contents_is D l own place G fs slice vs names i h ts is same_own same_names is_vs same_fs each =
    ap (λ m. map (λ t. replaced D (written_type l m names (G t))) slice) same_own
    ∙ ap (λ ns. map (λ t. replaced D (written_type l own ns (G t))) slice) (same_names ∙ is_vs)
    ∙ ap (map (λ t. replaced D (written_type l own (parameters_of h) (G t)))) same_fs
    ∙ over_fields (λ t. replaced D (written_type l own (parameters_of h) t)) G fs (union_fields ts) each
    ∙ sym (ap (contents_by D l own) is)

pub rows_more :
    (F : Named → List ℕ) (rows more : List (List ℕ)) (ns slice : List Named) (i : ℕ) (n : Named)
    (row : List ℕ)
    → slice ≡ ns → i < length slice → n ≡ get_or slice i n → row ≡ F n → more ≡ rows ++ row ∷ []
    → rows ≡ map F (take i ns) → more ≡ map F (take (i + 1) ns)
rows_more F rows more ns slice i n row same below is is_row is_more before =
    let within : i < length ns = subst (λ (xs : List Named). i < length xs) same below in
    let at : n ≡ get_or ns i n = is ∙ ap (λ (xs : List Named). get_or xs i n) same in
    is_more
    ∙ ap₂ (λ xs y. xs ++ y ∷ []) before (is_row ∙ ap F at)
    ∙ sym (map-append F (take i ns) (get_or ns i n ∷ []))
    ∙ ap (map F) (sym (take_more ns i n within))
