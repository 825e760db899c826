-- The types that stand in a type, and types with others put for their variables.
use Rattle.std.proofs.Common.{◌≡◌, ◌⊎◌, inl, inr, ℕ, zero, suc, ◌≤◌, Bool, true, false, not, ◌&&◌, ◌||◌, List, [], ◌∷◌, refl, sym, ap, ap₂, subst, arith, ⊎_elim}
use Rattle.std.proofs.lemmas.Bool.{and_parts, or_cases}
use Rattle.mc_base.proofs.Booleans.{left_false, right_false}
use Rattle.mc_program.specs.Programs.{TypeTerm, int_type, char_type, string_type, state_type, variable_type, union_type, TypeTerms, no_types, type_then}
use Rattle.mc_model.specs.Types.{type_at, instance_of, instances_of}
use Rattle.mc_model.specs.Lists.{is_in}
use Rattle.mc_components.proofs.Certified.{in_head, in_tail}
use Rattle.mc_type_table.specs.Rules.{types_in, all_types_in, types_in_all, is_closed, are_closed, is_variable, are_plain, is_irregular, is_any_irregular, is_one_irregular}
use Rattle.mc_type_table.proofs.Expanding.{in_left, in_right}
use Rattle.laws_order.proofs.Telling.{Held}
use Rattle.laws_modes.proofs.Finite.{Finite, none, one, either, over}

-- x is one of a row; x stands in a type, which stands in itself
abbrev pub Among : TypeTerms → TypeTerm → Type 0
Among no_types x = ⊥
Among (type_then t ts) x = (x ≡ t) ⊎ Among ts x

abbrev mutual
  pub PartOf : TypeTerm → TypeTerm → Type 0
  PartOf (union_type u ts) x = (x ≡ union_type u ts) ⊎ PartOfOne ts x
  PartOf t x = x ≡ t

  pub PartOfOne : TypeTerms → TypeTerm → Type 0
  PartOfOne no_types x = ⊥
  PartOfOne (type_then t ts) x = PartOf t x ⊎ PartOfOne ts x

pub own_part : (t : TypeTerm) → PartOf t t
own_part int_type = refl
own_part char_type = refl
own_part string_type = refl
own_part state_type = refl
own_part (variable_type v) = refl
own_part (union_type u ts) = inl refl

among_part : (ts : TypeTerms) (x : TypeTerm) → Among ts x → PartOfOne ts x
among_part no_types x h = absurd h
among_part (type_then t ts) x (inl e) = inl (subst (λ y. PartOf t y) (sym e) (own_part t))
among_part (type_then t ts) x (inr h) = inr (among_part ts x h)

same_arguments :
    (u w : ℕ) (ts bs : TypeTerms) → union_type w bs ≡ union_type u ts → bs ≡ ts
same_arguments u w ts bs e = cc

mutual
  pub inner_part :
      (t : TypeTerm) (w : ℕ) (bs : TypeTerms) (x : TypeTerm)
      → PartOf t (union_type w bs) → Among bs x → PartOf t x
  inner_part int_type w bs x e h = absurd (let clash : union_type w bs ≡ int_type = e in cc)
  inner_part char_type w bs x e h = absurd (let clash : union_type w bs ≡ char_type = e in cc)
  inner_part string_type w bs x e h = absurd (let clash : union_type w bs ≡ string_type = e in cc)
  inner_part state_type w bs x e h = absurd (let clash : union_type w bs ≡ state_type = e in cc)
  inner_part (variable_type v) w bs x e h =
      absurd (let clash : union_type w bs ≡ variable_type v = e in cc)
  inner_part (union_type u ts) w bs x (inl e) h =
      inr (among_part ts x (subst (λ rs. Among rs x) (same_arguments u w ts bs e) h))
  inner_part (union_type u ts) w bs x (inr p) h = inr (inner_part_of_one ts w bs x p h)

  inner_part_of_one :
      (ts : TypeTerms) (w : ℕ) (bs : TypeTerms) (x : TypeTerm)
      → PartOfOne ts (union_type w bs) → Among bs x → PartOfOne ts x
  inner_part_of_one no_types w bs x p h = absurd p
  inner_part_of_one (type_then t ts) w bs x (inl p) h = inl (inner_part t w bs x p h)
  inner_part_of_one (type_then t ts) w bs x (inr p) h = inr (inner_part_of_one ts w bs x p h)

mutual
  pub finite_parts : (t : TypeTerm) → Finite (PartOf t)
  finite_parts int_type = one int_type
  finite_parts char_type = one char_type
  finite_parts string_type = one string_type
  finite_parts state_type = one state_type
  finite_parts (variable_type v) = one (variable_type v)
  finite_parts (union_type u ts) =
      either (λ x. x ≡ union_type u ts) (PartOfOne ts) (one (union_type u ts))
      (finite_parts_of_one ts)

  finite_parts_of_one : (ts : TypeTerms) → Finite (PartOfOne ts)
  finite_parts_of_one no_types = none
  finite_parts_of_one (type_then t ts) =
      either (PartOf t) (PartOfOne ts) (finite_parts t) (finite_parts_of_one ts)

pub finite_row : (ts : TypeTerms) → Finite (Among ts)
finite_row no_types = none
finite_row (type_then t ts) = either (λ x. x ≡ t) (Among ts) (one t) (finite_row ts)

-- TYPES FOR VARIABLES

mutual
  pub closed_stays : (f : ℕ → TypeTerm) (t : TypeTerm) → is_closed t ≡ true → instance_of f t ≡ t
  closed_stays f int_type c = refl
  closed_stays f char_type c = refl
  closed_stays f string_type c = refl
  closed_stays f state_type c = refl
  closed_stays f (variable_type v) c = absurd (let clash : false ≡ true = c in cc)
  closed_stays f (union_type u ts) c = ap (union_type u) (all_closed_stay f ts c)

  all_closed_stay :
      (f : ℕ → TypeTerm) (ts : TypeTerms) → are_closed ts ≡ true → instances_of f ts ≡ ts
  all_closed_stay f no_types c = refl
  all_closed_stay f (type_then t ts) c =
      let both = and_parts (is_closed t) (are_closed ts) c in
      ap₂ type_then (closed_stays f t both.0) (all_closed_stay f ts both.1)

-- what is among instances is one of what is there
pub among_instances :
    (f : ℕ → TypeTerm) (bs : TypeTerms) (x : TypeTerm)
    → Among (instances_of f bs) x → (b : TypeTerm) × Among bs b × (x ≡ instance_of f b)
among_instances f no_types x h = absurd h
among_instances f (type_then b bs) x (inl e) = (b, inl refl, e)
among_instances f (type_then b bs) x (inr h) =
    let r = among_instances f bs x h in
    (r.0, inr r.1, r.2)

-- what stands for a variable is one of a row, or a variable that isn't above it
pub at_variable :
    (S : TypeTerm → Type 0) (ts : TypeTerms) (k : ℕ)
    → ((x : TypeTerm) → Among ts x → S x)
    → ((i : ℕ) → i ≤ k → S (variable_type i)) → S (type_at ts k)
at_variable S no_types k row low = low k (omega arith)
at_variable S (type_then t ts) zero row low = row t (inl refl)
at_variable S (type_then t ts) (suc k) row low =
    at_variable S ts k (λ x h. row x (inr h)) (λ i le. low i (omega (arith, le)))

-- a row of that shape over a set
abbrev pub Row : (S : TypeTerm → Type 0) → (shape row : TypeTerms) → Type 0
Row S no_types row = row ≡ no_types
Row S (type_then t ts) row =
    (x : TypeTerm) × S x × ((xs : TypeTerms) × Row S ts xs × (row ≡ type_then x xs))

pub finite_rows :
    (S : TypeTerm → Type 0) → Finite S → (shape : TypeTerms) → Finite (Row S shape)
finite_rows S s no_types = one no_types
finite_rows S s (type_then t ts) =
    over S (λ x row. (xs : TypeTerms) × Row S ts xs × (row ≡ type_then x xs)) s
    (λ x.
    over (Row S ts) (λ xs row. row ≡ type_then x xs) (finite_rows S s ts)
    (λ xs. one (type_then x xs)))

pub row_among :
    (S : TypeTerm → Type 0) (shape row : TypeTerms) (x : TypeTerm)
    → Row S shape row → Among row x → S x
row_among S no_types row x r h = absurd (subst (λ rs. Among rs x) r h)
row_among S (type_then t ts) row x r h =
    ⊎_elim (λ e. subst S (sym e) r.1) (λ k. row_among S ts r.2.0 x r.2.1 k)
    (subst (λ rs. Among rs x) r.2.2 h)

pub row_of :
    (S : TypeTerm → Type 0) (ts : TypeTerms)
    → ((x : TypeTerm) → Among ts x → S x) → Row S ts ts
row_of S no_types each = refl
row_of S (type_then t ts) each =
    (t, each t (inl refl), (ts, row_of S ts (λ x h. each x (inr h)), refl))

pub row_of_instances :
    (S : TypeTerm → Type 0) (f : ℕ → TypeTerm) (bs : TypeTerms)
    → ((b : TypeTerm) → Among bs b → S (instance_of f b)) → Row S bs (instances_of f bs)
row_of_instances S f no_types each = refl
row_of_instances S f (type_then b bs) each =
    let rest = row_of_instances S f bs (λ x h. each x (inr h)) in
    (instance_of f b, each b (inl refl), (instances_of f bs, rest, refl))

-- WHAT THE RULE OF REGULAR TYPES SAYS OF A PART

pub plain_among :
    (ts : TypeTerms) (x : TypeTerm)
    → are_plain ts ≡ true → Among ts x → (is_variable x ≡ true) ⊎ (is_closed x ≡ true)
plain_among no_types x p h = absurd h
plain_among (type_then t ts) x p (inl e) =
    subst (λ y. (is_variable y ≡ true) ⊎ (is_closed y ≡ true)) (sym e)
    (or_cases (is_variable t) (is_closed t)
    (and_parts (is_variable t || is_closed t) (are_plain ts) p).0)
plain_among (type_then t ts) x p (inr h) =
    plain_among ts x (and_parts (is_variable t || is_closed t) (are_plain ts) p).1 h

mutual
  part_is_in :
      (t : TypeTerm) (w : ℕ) (bs : TypeTerms)
      → PartOf t (union_type w bs) → is_in w (types_in t) ≡ true
  part_is_in int_type w bs e = absurd (let clash : union_type w bs ≡ int_type = e in cc)
  part_is_in char_type w bs e = absurd (let clash : union_type w bs ≡ char_type = e in cc)
  part_is_in string_type w bs e = absurd (let clash : union_type w bs ≡ string_type = e in cc)
  part_is_in state_type w bs e = absurd (let clash : union_type w bs ≡ state_type = e in cc)
  part_is_in (variable_type v) w bs e =
      absurd (let clash : union_type w bs ≡ variable_type v = e in cc)
  part_is_in (union_type u ts) w bs (inl e) =
      in_head w u (all_types_in ts) (let same : w ≡ u = cc in same)
  part_is_in (union_type u ts) w bs (inr p) =
      in_tail w u (all_types_in ts) (part_is_in_all ts w bs p)

  part_is_in_all :
      (ts : TypeTerms) (w : ℕ) (bs : TypeTerms)
      → PartOfOne ts (union_type w bs) → is_in w (all_types_in ts) ≡ true
  part_is_in_all no_types w bs p = absurd p
  part_is_in_all (type_then t ts) w bs (inl p) =
      in_left w (types_in t) (all_types_in ts) (part_is_in t w bs p)
  part_is_in_all (type_then t ts) w bs (inr p) =
      in_right w (types_in t) (all_types_in ts) (part_is_in_all ts w bs p)

pub stands_in :
    (body : List TypeTerm) (a : TypeTerm) (w : ℕ) (bs : TypeTerms)
    → Held body a → PartOf a (union_type w bs) → is_in w (types_in_all body) ≡ true
stands_in [] a w bs h p = absurd h
stands_in (t ∷ ts) a w bs (inl e) p =
    in_left w (types_in t) (types_in_all ts)
    (part_is_in t w bs (subst (λ b. PartOf b (union_type w bs)) e p))
stands_in (t ∷ ts) a w bs (inr h) p =
    in_right w (types_in t) (types_in_all ts) (stands_in ts a w bs h p)

of_group_plain : (g p : Bool) → (g && not p) ≡ false → g ≡ true → p ≡ true
of_group_plain true true e h = refl
of_group_plain true false e h = cc
of_group_plain false p e h = cc

mutual
  part_is_plain :
      (group : ℕ → Bool) (t : TypeTerm) (w : ℕ) (bs : TypeTerms)
      → is_irregular group t ≡ false → PartOf t (union_type w bs) → group w ≡ true
      → are_plain bs ≡ true
  part_is_plain group int_type w bs r e g =
      absurd (let clash : union_type w bs ≡ int_type = e in cc)
  part_is_plain group char_type w bs r e g =
      absurd (let clash : union_type w bs ≡ char_type = e in cc)
  part_is_plain group string_type w bs r e g =
      absurd (let clash : union_type w bs ≡ string_type = e in cc)
  part_is_plain group state_type w bs r e g =
      absurd (let clash : union_type w bs ≡ state_type = e in cc)
  part_is_plain group (variable_type v) w bs r e g =
      absurd (let clash : union_type w bs ≡ variable_type v = e in cc)
  part_is_plain group (union_type u ts) w bs r (inl e) g =
      let same : w ≡ u = cc in
      let rows : ts ≡ bs = cc in
      subst (λ rs. are_plain rs ≡ true) rows
      (of_group_plain (group u) (are_plain ts)
      (left_false (group u && not (are_plain ts)) (is_any_irregular group ts) r)
      (subst (λ k. group k ≡ true) same g))
  part_is_plain group (union_type u ts) w bs r (inr p) g =
      one_is_plain group ts w bs
      (right_false (group u && not (are_plain ts)) (is_any_irregular group ts) r) p g

  one_is_plain :
      (group : ℕ → Bool) (ts : TypeTerms) (w : ℕ) (bs : TypeTerms)
      → is_any_irregular group ts ≡ false → PartOfOne ts (union_type w bs) → group w ≡ true
      → are_plain bs ≡ true
  one_is_plain group no_types w bs r p g = absurd p
  one_is_plain group (type_then t ts) w bs r (inl p) g =
      part_is_plain group t w bs
      (left_false (is_irregular group t) (is_any_irregular group ts) r) p g
  one_is_plain group (type_then t ts) w bs r (inr p) g =
      one_is_plain group ts w bs
      (right_false (is_irregular group t) (is_any_irregular group ts) r) p g

pub plain_in :
    (group : ℕ → Bool) (body : List TypeTerm) (a : TypeTerm) (w : ℕ) (bs : TypeTerms)
    → is_one_irregular group body ≡ false → Held body a → PartOf a (union_type w bs)
    → group w ≡ true → are_plain bs ≡ true
plain_in group [] a w bs r h p g = absurd h
plain_in group (t ∷ ts) a w bs r (inl e) p g =
    part_is_plain group t w bs
    (left_false (is_irregular group t) (is_one_irregular group ts) r)
    (subst (λ b. PartOf b (union_type w bs)) e p) g
plain_in group (t ∷ ts) a w bs r (inr h) p g =
    plain_in group ts a w bs
    (right_false (is_irregular group t) (is_one_irregular group ts) r) h p g
