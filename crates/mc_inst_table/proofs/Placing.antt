-- The places of parameters, and the rows of those for which each is given.
use Rattle.std.proofs.Common.{◌≡◌, ◌⊎◌, inl, inr, ℕ, zero, suc, ◌+◌, ◌-◌, ◌<◌, ◌≤◌, Bool, true, false, List, [], ◌∷◌, ◌++◌, length, get_or, slice_get, slice_index, nat_eq, if◌then◌else◌, append_assoc, refl, sym, ap, ◌∙◌, subst, arith}
use Rattle.std.specs.Prelude.{Option, Some, None}
use Rattle.std.proofs.lemmas.Bool.{cases_lt}
use Rattle.mc_components.specs.Components.{steps}
use Rattle.mc_inst_table.specs.declared.links.Link.{Link}
use Rattle.mc_inst_table.specs.code.Places.{firsts_from, place, width_at, links_at, given_by, rows_of, all_rows}

-- how many parameters stand before those of a definition
abbrev before : List ℕ → ℕ → ℕ
before [] d = 0
before (w ∷ ws) zero = 0
before (w ∷ ws) (suc d) = w + before ws d

no_width : (d j : ℕ) → j < width_at [] d → ⊥
no_width d j below = let h : j < 0 = below in absurd (omega arith)

first_at : (n : ℕ) (ws : List ℕ) (d j : ℕ) → j < width_at ws d → slice_index (firsts_from n ws) d ≡ n + before ws d
first_at n [] d j below = absurd (no_width d j below)
first_at n (w ∷ ws) zero j below = omega arith
first_at n (w ∷ ws) (suc d) j below =
    let rest = first_at (n + w) ws d j below in
    let same : (n + w) + before ws d ≡ n + (w + before ws d) = omega arith in
    rest ∙ same

place_is : (ws : List ℕ) (d j : ℕ) → j < width_at ws d → place (firsts_from 0 ws) d j ≡ before ws d + j
place_is ws d j below =
    let first = first_at 0 ws d j below in
    omega (arith, first)

apart_before :
    (ws : List ℕ) (d j e p : ℕ)
    → j < width_at ws d → p < width_at ws e → before ws d + j ≡ before ws e + p → (d ≡ e) × (j ≡ p)
apart_before [] d j e p below_j below_p same = absurd (no_width d j below_j)
apart_before (w ∷ ws) zero j zero p below_j below_p same =
    let one : j ≡ p = omega (arith, same) in
    (refl, one)
apart_before (w ∷ ws) zero j (suc e) p below_j below_p same =
    let less : j < w = below_j in
    absurd (omega (arith, same, less))
apart_before (w ∷ ws) (suc d) j zero p below_j below_p same =
    let less : p < w = below_p in
    absurd (omega (arith, same, less))
apart_before (w ∷ ws) (suc d) j (suc e) p below_j below_p same =
    let fewer : before ws d + j ≡ before ws e + p = omega (arith, same) in
    let rest = apart_before ws d j e p below_j below_p fewer in
    (ap suc rest.0, rest.1)

pub apart_places :
    (ws : List ℕ) (d j e p : ℕ)
    → j < width_at ws d → p < width_at ws e
    → place (firsts_from 0 ws) d j ≡ place (firsts_from 0 ws) e p → (d ≡ e) × (j ≡ p)
apart_places ws d j e p below_j below_p same =
    apart_before ws d j e p below_j below_p
    (sym (place_is ws d j below_j) ∙ same ∙ place_is ws e p below_p)

-- THE ROWS

module _ (fs ns : List ℕ) where
  length_rows :
      (d j w : ℕ) (ls : List Link) (rest : List (List ℕ))
      → length (rows_of fs ns d j w ls ++ rest) ≡ w + length rest
  length_rows d j zero ls rest = omega arith
  length_rows d j (suc w) ls rest =
      let more = length_rows d (suc j) w ls rest in
      omega (arith, more)

  row_within :
      (d j w : ℕ) (ls : List Link) (rest : List (List ℕ)) (k : ℕ)
      → k < w → get_or (rows_of fs ns d j w ls ++ rest) k [] ≡ given_by fs ns d (j + k) ls
  row_within d j zero ls rest k below = absurd (let h : k < 0 = below in omega arith)
  row_within d j (suc w) ls rest zero below =
      let same : j ≡ j + 0 = omega arith in
      ap (λ (i : ℕ). given_by fs ns d i ls) same
  row_within d j (suc w) ls rest (suc k) below =
      let less : k < w = omega (arith, below) in
      let same : suc j + k ≡ j + suc k = omega arith in
      row_within d (suc j) w ls rest k less ∙ ap (λ (i : ℕ). given_by fs ns d i ls) same

  row_past :
      (d j w : ℕ) (ls : List Link) (rest : List (List ℕ)) (x y : ℕ)
      → y ≡ w + x → get_or (rows_of fs ns d j w ls ++ rest) y [] ≡ get_or rest x []
  row_past d j zero ls rest x y same =
      let one : y ≡ x = omega (arith, same) in
      ap (λ (k : ℕ). get_or rest k []) one
  row_past d j (suc w) ls rest x zero same = absurd (omega (arith, same))
  row_past d j (suc w) ls rest x (suc y) same =
      let fewer : y ≡ w + x = omega (arith, same) in
      row_past d (suc j) w ls rest x y fewer

  row_at :
      (k : ℕ) (ws : List ℕ) (all : List (List Link)) (d j : ℕ)
      → j < width_at ws d
      → get_or (all_rows fs ns k ws all) (before ws d + j) [] ≡ given_by fs ns (k + d) j (links_at all (k + d))
  row_at k [] all d j below = absurd (no_width d j below)
  row_at k (w ∷ ws) all zero j below =
      let none : 0 + j ≡ j = omega arith in
      let same : k ≡ k + 0 = omega arith in
      ap (λ (x : ℕ). get_or (all_rows fs ns k (w ∷ ws) all) x []) none
      ∙ row_within k 0 w (links_at all k) (all_rows fs ns (suc k) ws all) j below
      ∙ ap (λ (x : ℕ). given_by fs ns k x (links_at all k)) none
      ∙ ap (λ (d : ℕ). given_by fs ns d j (links_at all d)) same
  row_at k (w ∷ ws) all (suc d) j below =
      let further : (w + before ws d) + j ≡ w + (before ws d + j) = omega arith in
      let same : suc k + d ≡ k + suc d = omega arith in
      row_past k 0 w (links_at all k) (all_rows fs ns (suc k) ws all) (before ws d + j) ((w + before ws d) + j) further
      ∙ row_at (suc k) ws all d j below
      ∙ ap (λ (e : ℕ). given_by fs ns e j (links_at all e)) same

  inside_rows :
      (k : ℕ) (ws : List ℕ) (all : List (List Link)) (d j : ℕ)
      → j < width_at ws d → before ws d + j < length (all_rows fs ns k ws all)
  inside_rows k [] all d j below = absurd (no_width d j below)
  inside_rows k (w ∷ ws) all zero j below =
      let count = length_rows k 0 w (links_at all k) (all_rows fs ns (suc k) ws all) in
      let less : j < w = below in
      omega (arith, count, less)
  inside_rows k (w ∷ ws) all (suc d) j below =
      let count = length_rows k 0 w (links_at all k) (all_rows fs ns (suc k) ws all) in
      let rest = inside_rows (suc k) ws all d j below in
      omega (arith, count, rest)

  abbrev IsPlace : List ℕ → ℕ → Type 0
  IsPlace ws x = (d : ℕ) × (j : ℕ) × (j < width_at ws d) × (x ≡ before ws d + j)

  is_place : (k : ℕ) (ws : List ℕ) (all : List (List Link)) (x : ℕ) → x < length (all_rows fs ns k ws all) → IsPlace ws x
  is_place k [] all x below = absurd (let h : x < 0 = below in omega arith)
  is_place k (w ∷ ws) all x below =
      elim (cases_lt x w) [
        | inl less ↦ (zero, x, less, (let same : x ≡ 0 + x = omega arith in same))
        | inr past ↦
            let count = length_rows k 0 w (links_at all k) (all_rows fs ns (suc k) ws all) in
            let fewer : x - w < length (all_rows fs ns (suc k) ws all) = omega (arith, count, below, past) in
            let rest = is_place (suc k) ws all (x - w) fewer in
            let there = rest.3 in
            let same : x ≡ (w + before ws rest.0) + rest.1 = omega (arith, there, past) in
            (suc rest.0, rest.1, rest.2, same)
      ]

pub rows_more :
    (xs : List (List ℕ)) (fs ns : List ℕ) (d j w : ℕ) (ls : List Link) (row : List ℕ)
    → j < w → row ≡ given_by fs ns d j ls
    → xs ++ rows_of fs ns d j (w - j) ls ≡ (xs ++ row ∷ []) ++ rows_of fs ns d (j + 1) (w - (j + 1)) ls
rows_more xs fs ns d j w ls row below same =
    let count : w - j ≡ suc (w - (j + 1)) = omega (arith, below) in
    let next : suc j ≡ j + 1 = omega arith in
    let rest = rows_of fs ns d (j + 1) (w - (j + 1)) ls in
    ap (λ (n : ℕ). xs ++ rows_of fs ns d j n ls) count
    ∙ ap (λ (i : ℕ). xs ++ (given_by fs ns d j ls ∷ rows_of fs ns d i (w - (j + 1)) ls)) next
    ∙ ap (λ (r : List ℕ). xs ++ (r ∷ rest)) (sym same)
    ∙ sym (append_assoc xs (row ∷ []) rest)

pub row_of_place :
    (ws ns : List ℕ) (all : List (List Link)) (d j : ℕ)
    → j < width_at ws d
    → steps (all_rows (firsts_from 0 ws) ns 0 ws all) (place (firsts_from 0 ws) d j)
    ≡ given_by (firsts_from 0 ws) ns d j (links_at all d)
row_of_place ws ns all d j below =
    let fs = firsts_from 0 ws in
    let none : 0 + d ≡ d = omega arith in
    ap (λ (x : ℕ). get_or (all_rows fs ns 0 ws all) x []) (place_is ws d j below)
    ∙ row_at fs ns 0 ws all d j below
    ∙ ap (λ (e : ℕ). given_by fs ns e j (links_at all e)) none

pub place_inside :
    (ws ns : List ℕ) (all : List (List Link)) (d j : ℕ)
    → j < width_at ws d → place (firsts_from 0 ws) d j < length (all_rows (firsts_from 0 ws) ns 0 ws all)
place_inside ws ns all d j below =
    subst (λ (x : ℕ). x < length (all_rows (firsts_from 0 ws) ns 0 ws all)) (sym (place_is ws d j below))
    (inside_rows (firsts_from 0 ws) ns 0 ws all d j below)

pub place_found :
    (ws ns : List ℕ) (all : List (List Link)) (x : ℕ)
    → x < length (all_rows (firsts_from 0 ws) ns 0 ws all)
    → (d : ℕ) × (j : ℕ) × (j < width_at ws d) × (x ≡ place (firsts_from 0 ws) d j)
place_found ws ns all x below =
    let found = is_place (firsts_from 0 ws) ns 0 ws all x below in
    (found.0, found.1, found.2, found.3 ∙ sym (place_is ws found.0 found.1 found.2))
