-- A walk down the parts of a place: the path that it is on, and the places that are done.
use Rattle.std.proofs.Common.{◌≡◌, ◌≢◌, ℕ, ◌+◌, ◌-◌, ◌*◌, ◌<◌, ◌≤◌, ◌⊎◌, true, cond, eqb, ltb, List, [], ◌∷◌, ◌++◌, length, take, get_or, set, sym, ◌∙◌, ap, refl, subst, inl, inr, arith, length-set, length-append, get_or-set_same, get_or-set_other}
use Rattle.std.proofs.lemmas.Bool.{cases_eq, eq-eqb, ne_eqb, lt-ltb, le-ltb}
use Rattle.std.proofs.lemmas.List.{get_or-take, get_or_append_left, get_or_push, get_or_read, length-take-le}
use Rattle.std.proofs.lemmas.List.Sums.{sum_by-set}
use Rattle.std.specs.List.{count_by}
use Rattle.mc_types.specs.Shapes.{Shape, named, rigid, app}
use Rattle.mc_types.specs.Holds.{Holds, CellHolds, InOrder, CellInOrder, cell_at}
use Rattle.mc_types.specs.Founded.{IsPart, mark_at, AllPast}
use Rattle.mc_types.specs.code.Marks.{IsDone, IsOnPath, Ranked, Calm, Visited}
use Rattle.mc_types.specs.declared.cells.Cell.{Cell}
use Rattle.mc_types.specs.declared.cells.Cell.TheVariants.{Free, Same, Named, Rigid, App}

-- a function with another value at one place
abbrev pub changed : (at v : ℕ) → (ℕ → ℕ) → ℕ → ℕ
changed at v f i = cond (eqb i at) v (f i)

changed_same : (at v : ℕ) (f : ℕ → ℕ) (i : ℕ) → i ≡ at → changed at v f i ≡ v
changed_same at v f i e = ap (λ b. cond b v (f i)) (eq-eqb i at e)

changed_other : (at v : ℕ) (f : ℕ → ℕ) (i : ℕ) → i ≢ at → changed at v f i ≡ f i
changed_other at v f i ne = ap (λ b. cond b v (f i)) (ne_eqb i at ne)

abbrev pub size : Shape → ℕ
size (named n) = 1
size (rigid n) = 1
size (app f x) = 1 + (size f + size x)

-- the type at a place is smaller than that at another, or as large, and the place lower
abbrev pub Below : (ℕ → Shape) → ℕ → ℕ → Type 0
Below ρ m n = (size (ρ m) < size (ρ n)) ⊎ ((size (ρ m) ≡ size (ρ n)) × (m < n))

below_trans : (ρ : ℕ → Shape) (a b c : ℕ) → Below ρ a b → Below ρ b c → Below ρ a c
below_trans ρ a b c (inl x) (inl y) = inl (omega arith)
below_trans ρ a b c (inl x) (inr y) = inl (omega arith)
below_trans ρ a b c (inr x) (inl y) = inl (omega arith)
below_trans ρ a b c (inr x) (inr y) = inr (omega arith, omega arith)

below_itself : (ρ : ℕ → Shape) (a : ℕ) → Below ρ a a → ⊥
below_itself ρ a (inl x) = omega arith
below_itself ρ a (inr x) = omega arith

part_below_in : (ρ : ℕ → Shape) (n i p : ℕ) (c : Cell) → CellHolds ρ i c → CellInOrder n i c → IsPart c p → Below ρ p i
part_below_in ρ n i p Free h o e = absurd e
part_below_in ρ n i p (Named m) h o e = absurd e
part_below_in ρ n i p (Rigid m) h o e = absurd e
part_below_in ρ n i p (Same j) h o e = inr (ap (λ k. size (ρ k)) e ∙ ap size (sym h), omega arith)
part_below_in ρ n i p (App f x) h o (inl e) = inl (omega (arith, ap size h, ap (λ k. size (ρ k)) e))
part_below_in ρ n i p (App f x) h o (inr e) = inl (omega (arith, ap size h, ap (λ k. size (ρ k)) e))

pub part_within_in : (n i p : ℕ) (c : Cell) → i < n → CellInOrder n i c → IsPart c p → p < n
part_within_in n i p Free lt o e = absurd e
part_within_in n i p (Named m) lt o e = absurd e
part_within_in n i p (Rigid m) lt o e = absurd e
part_within_in n i p (Same j) lt o e = omega arith
part_within_in n i p (App f x) lt o (inl e) = omega arith
part_within_in n i p (App f x) lt o (inr e) = omega arith

pub part_below : (ρ : ℕ → Shape) (cells : List Cell) (i p : ℕ) → InOrder cells → Holds ρ cells → IsPart (cell_at cells i) p → Below ρ p i
part_below ρ cells i p o h e = part_below_in ρ (length cells) i p (cell_at cells i) (h i) (o i) e

-- how many places are neither on the path nor done
abbrev pub left_over : ℕ → List ℕ → ℕ
left_over round marks = count_by (λ m. ltb m (2 * round)) marks

pub record Walk (round : ℕ) (cells : List Cell) (before marks path : List ℕ) (start : ℕ) : Type 0 where
  pub long : length cells ≤ length marks
  pub ranked : Ranked round cells marks
  pub past : (i : ℕ) → (mark_at marks i < 2 * round) ⊎ (IsDone round marks i ⊎ IsOnPath round marks i)
  pub kept : (i : ℕ) → IsDone round before i → IsDone round marks i
  pub on_path : (k : ℕ) → k < length path → IsOnPath round marks (get_or path k 0)
  pub within : (k : ℕ) → k < length path → get_or path k 0 < length cells
  pub found : (i : ℕ) → IsOnPath round marks i → (k : ℕ) × (k < length path) × (get_or path k 0 ≡ i)
  pub distinct : (j k : ℕ) → j < k → k < length path → get_or path j 0 ≡ get_or path k 0 → ⊥
  pub descends : (ρ : ℕ → Shape) → Holds ρ cells → (j k : ℕ) → j < k → k < length path → Below ρ (get_or path k 0) (get_or path j 0)
  pub first : 0 < length path → get_or path 0 0 ≡ start
  pub last : length path ≡ 0 → IsDone round marks start

pub top_of : (path : List ℕ) (n x : ℕ) → n ≡ length path → 0 < length path → x ≡ get_or path (n - 1) x → x ≡ get_or path (length path - 1) 0
top_of path n x e some r = let P : ℕ → Type 0 = λ k. x ≡ get_or path (k - 1) x in get_or_read path (length path - 1) x (omega arith) (subst P e r) 0

not_both : (round : ℕ) (marks : List ℕ) (i : ℕ) → IsDone round marks i → IsOnPath round marks i → ⊥
not_both round marks i d p = omega arith

pub calm_past : (round : ℕ) (cells : List Cell) (marks : List ℕ) → Calm round cells marks → AllPast (round + 1) marks
calm_past round cells marks calm i = elim (calm.past i) [ inl lt ↦ omega arith | inr d ↦ omega arith ]

pub walk_past : (round : ℕ) (cells : List Cell) (before marks path : List ℕ) (start : ℕ) → Walk round cells before marks path start → AllPast (round + 1) marks
walk_past round cells before marks path start w i = elim (w.past i) [ inl lt ↦ omega arith | inr o ↦ elim o [ inl d ↦ omega arith | inr p ↦ omega arith ] ]

module _ (round : ℕ) (cells : List Cell) (before marks path : List ℕ) (start : ℕ) (w : Walk round cells before marks path start) where
  pub walk_end : length path ≡ 0 → Visited true round cells before marks start
  walk_end e = (
    record {
      long = w.long;
      ranked = w.ranked;
      past = λ i. elim (w.past i) [
        | inl lt ↦ inl lt
        | inr other ↦ elim other [
          | inl d ↦ inr d
          | inr p ↦ let f = w.found i p in let no : ⊥ = omega arith in absurd no
        ]
      ];
    },
    w.last e,
    w.kept,
  )

  module _ (at : ℕ) (some : 0 < length path) (top : at ≡ get_or path (length path - 1) 0) where
    at_on_path : IsOnPath round marks at
    at_on_path = let P : ℕ → Type 0 = λ i. IsOnPath round marks i in subst P (sym top) (w.on_path (length path - 1) (omega arith))

    at_within : at < length cells
    at_within = let P : ℕ → Type 0 = λ i. i < length cells in subst P (sym top) (w.within (length path - 1) (omega arith))

    pub walk_cycle : (part : ℕ) → InOrder cells → IsPart (cell_at cells at) part → IsOnPath round marks part → (ρ : ℕ → Shape) → Holds ρ cells → ⊥
    walk_cycle part o e p ρ h =
        let under : Below ρ part at = part_below ρ cells at part o h e in
        let f = w.found part p in
        elim (cases_eq f.0 (length path - 1)) [
          | inl same ↦
              let e2 : part ≡ at = sym f.2 ∙ ap (λ k. get_or path k 0) same ∙ sym top in
              let P : ℕ → Type 0 = λ i. Below ρ i at in
              below_itself ρ at (subst P e2 under)
          | inr other ↦
              let lt : f.0 < length path - 1 = omega arith in
              let over : Below ρ (get_or path (length path - 1) 0) (get_or path f.0 0) = w.descends ρ h f.0 (length path - 1) lt (omega arith) in
              let P : ℕ → Type 0 = λ i. Below ρ i (get_or path f.0 0) in
              let Q : ℕ → Type 0 = λ i. Below ρ at i in
              let over2 : Below ρ at part = subst Q f.2 (subst P (sym top) over) in
              below_itself ρ at (below_trans ρ at part at over2 under)
        ]

    pub done_less : left_over round (set marks at (2 * round + 1)) ≡ left_over round marks
    done_less =
        let place : at < length marks = omega (arith, at_within, w.long) in
        let old : ◌≡◌ {A = ℕ} (cond (ltb (mark_at marks at) (2 * round)) 1 0) 0 = ap (λ b. cond b 1 0) (le-ltb (mark_at marks at) (2 * round) (omega (arith, at_on_path))) in
        let new : ◌≡◌ {A = ℕ} (cond (ltb (2 * round + 1) (2 * round)) 1 0) 0 = ap (λ b. cond b 1 0) (le-ltb (2 * round + 1) (2 * round) (omega arith)) in
        omega (arith, sum_by-set (λ m. cond (ltb m (2 * round)) 1 0) marks at (2 * round + 1) 0 place, old, new)

    pub walk_done : ((p : ℕ) → IsPart (cell_at cells at) p → IsDone round marks p) → Walk round cells before (set marks at (2 * round + 1)) (take (length path - 1) path) start
    walk_done parts =
        let n = length path - 1 in
        let marks' = set marks at (2 * round + 1) in
        let place : at < length marks = omega (arith, at_within, w.long) in
        let now_done : IsDone round marks' at = get_or-set_same marks at (2 * round + 1) 0 place in
        let other : (i : ℕ) → i ≢ at → mark_at marks' i ≡ mark_at marks i = λ i ne. get_or-set_other marks at i (2 * round + 1) 0 ne in
        let not_at : (i : ℕ) → IsDone round marks i → i ≢ at = λ i d e. not_both round marks at (let P : ℕ → Type 0 = λ j. IsDone round marks j in subst P e d) at_on_path in
        let shorter : length (take n path) ≡ n = length-take-le n path (omega arith) in
        let same : (k : ℕ) → k < n → get_or (take n path) k 0 ≡ get_or path k 0 = λ k lt. get_or-take n path k 0 lt in
        let apart : (k : ℕ) → k < n → get_or path k 0 ≢ at = λ k lt e. w.distinct k n lt (omega arith) (e ∙ top) in
        record {
          long = omega (arith, w.long, length-set marks at (2 * round + 1));
          ranked = record {
            rank = changed at w.ranked.top w.ranked.rank;
            top = w.ranked.top + 1;
            below = λ i d. elim (cases_eq i at) [
              | inl e ↦ omega (arith, changed_same at w.ranked.top w.ranked.rank i e)
              | inr ne ↦ omega (arith, changed_other at w.ranked.top w.ranked.rank i ne, w.ranked.below i (sym (other i ne) ∙ d))
            ];
            falls = λ i p d e. elim (cases_eq i at) [
              | inl same_place ↦
                  let P : ℕ → Type 0 = λ j. IsPart (cell_at cells j) p in
                  let pd : IsDone round marks p = parts p (subst P same_place e) in
                  let ne = not_at p pd in
                  (other p ne ∙ pd, omega (arith, changed_same at w.ranked.top w.ranked.rank i same_place, changed_other at w.ranked.top w.ranked.rank p ne, w.ranked.below p pd))
              | inr ni ↦
                  let f = w.ranked.falls i p (sym (other i ni) ∙ d) e in
                  let ne = not_at p f.0 in
                  (other p ne ∙ f.0, omega (arith, changed_other at w.ranked.top w.ranked.rank i ni, changed_other at w.ranked.top w.ranked.rank p ne, f.1))
            ];
          };
          past = λ i. elim (cases_eq i at) [
            | inl e ↦ inr (inl (let P : ℕ → Type 0 = λ j. IsDone round marks' j in subst P (sym e) now_done))
            | inr ne ↦ elim (w.past i) [
              | inl lt ↦ inl (omega (arith, other i ne))
              | inr o ↦ elim o [ inl d ↦ inr (inl (other i ne ∙ d)) | inr p ↦ inr (inr (other i ne ∙ p)) ]
            ]
          ];
          kept = λ i d. let d2 = w.kept i d in other i (not_at i d2) ∙ d2;
          on_path = λ k lt.
              let lt2 : k < n = omega (arith, shorter) in
              let P : ℕ → Type 0 = λ j. IsOnPath round marks' j in
              subst P (sym (same k lt2)) (other (get_or path k 0) (apart k lt2) ∙ w.on_path k (omega arith));
          within = λ k lt.
              let lt2 : k < n = omega (arith, shorter) in
              let P : ℕ → Type 0 = λ j. j < length cells in
              subst P (sym (same k lt2)) (w.within k (omega arith));
          found = λ i p. elim (cases_eq i at) [
            | inl e ↦ absurd (not_both round marks' i (let P : ℕ → Type 0 = λ j. IsDone round marks' j in subst P (sym e) now_done) p)
            | inr ne ↦
                let f = w.found i (sym (other i ne) ∙ p) in
                elim (cases_eq f.0 n) [
                  | inl e ↦ absurd (ne (sym f.2 ∙ ap (λ k. get_or path k 0) e ∙ sym top))
                  | inr other_place ↦ let lt : f.0 < n = omega arith in (f.0, omega (arith, shorter), same f.0 lt ∙ f.2)
                ]
          ];
          distinct = λ j k lt lk e.
              let lk2 : k < n = omega (arith, shorter) in
              w.distinct j k lt (omega arith) (sym (same j (omega arith)) ∙ e ∙ same k lk2);
          descends = λ ρ h j k lt lk.
              let lk2 : k < n = omega (arith, shorter) in
              let P : ℕ → Type 0 = λ i. Below ρ i (get_or (take n path) j 0) in
              let Q : ℕ → Type 0 = λ i. Below ρ (get_or path k 0) i in
              subst P (sym (same k lk2)) (subst Q (sym (same j (omega arith))) (w.descends ρ h j k lt (omega arith)));
          first = λ lt. let lt2 : 0 < n = omega (arith, shorter) in same 0 lt2 ∙ w.first (omega arith);
          last = λ e.
              let n_is : n ≡ 0 = omega (arith, shorter) in
              let same_start : at ≡ start = top ∙ ap (λ k. get_or path k 0) n_is ∙ w.first some in
              let P : ℕ → Type 0 = λ j. IsDone round marks' j in subst P same_start now_done;
        }

    module _ (part : ℕ) (e : IsPart (cell_at cells at) part) (not_done : IsDone round marks part → ⊥) (not_on : IsOnPath round marks part → ⊥) (o : InOrder cells) where
      part_within : part < length cells
      part_within = part_within_in (length cells) at part (cell_at cells at) at_within (o at) e

      pub more_less : left_over round (set marks part (2 * round)) + 1 ≡ left_over round marks
      more_less =
          let place : part < length marks = omega (arith, part_within, w.long) in
          let lt : mark_at marks part < 2 * round = elim (w.past part) [ inl l ↦ l | inr other ↦ elim other [ inl d ↦ absurd (not_done d) | inr p ↦ absurd (not_on p) ] ] in
          let old : ◌≡◌ {A = ℕ} (cond (ltb (mark_at marks part) (2 * round)) 1 0) 1 = ap (λ b. cond b 1 0) (lt-ltb (mark_at marks part) (2 * round) lt) in
          let new : ◌≡◌ {A = ℕ} (cond (ltb (2 * round) (2 * round)) 1 0) 0 = ap (λ b. cond b 1 0) (le-ltb (2 * round) (2 * round) (omega arith)) in
          omega (arith, sum_by-set (λ m. cond (ltb m (2 * round)) 1 0) marks part (2 * round) 0 place, old, new)

      pub walk_more : Walk round cells before (set marks part (2 * round)) (path ++ part ∷ []) start
      walk_more =
          let n = length path in
          let path' = path ++ part ∷ [] in
          let marks' = set marks part (2 * round) in
          let place : part < length marks = omega (arith, part_within, w.long) in
          let now_on : IsOnPath round marks' part = get_or-set_same marks part (2 * round) 0 place in
          let other : (i : ℕ) → i ≢ part → mark_at marks' i ≡ mark_at marks i = λ i ne. get_or-set_other marks part i (2 * round) 0 ne in
          let not_part : (i : ℕ) → IsDone round marks i → i ≢ part = λ i d ne. not_done (let P : ℕ → Type 0 = λ j. IsDone round marks j in subst P ne d) in
          let not_part2 : (i : ℕ) → IsDone round marks' i → i ≢ part = λ i d ne. not_both round marks' part (let P : ℕ → Type 0 = λ j. IsDone round marks' j in subst P ne d) now_on in
          let longer : length path' ≡ n + 1 = length-append path (part ∷ []) in
          let same : (k : ℕ) → k < n → get_or path' k 0 ≡ get_or path k 0 = λ k lt. get_or_append_left path (part ∷ []) 0 k lt in
          let new : get_or path' n 0 ≡ part = get_or_push path part 0 n refl in
          let apart : (k : ℕ) → k < n → get_or path k 0 ≢ part = λ k lt ne. not_on (let P : ℕ → Type 0 = λ j. IsOnPath round marks j in subst P ne (w.on_path k lt)) in
          record {
            long = omega (arith, w.long, length-set marks part (2 * round));
            ranked = record {
              rank = w.ranked.rank;
              top = w.ranked.top;
              below = λ i d. w.ranked.below i (sym (other i (not_part2 i d)) ∙ d);
              falls = λ i p d ip. let f = w.ranked.falls i p (sym (other i (not_part2 i d)) ∙ d) ip in (other p (not_part p f.0) ∙ f.0, f.1);
            };
            past = λ i. elim (cases_eq i part) [
              | inl ie ↦ inr (inr (let P : ℕ → Type 0 = λ j. IsOnPath round marks' j in subst P (sym ie) now_on))
              | inr ne ↦ elim (w.past i) [
                | inl lt ↦ inl (omega (arith, other i ne))
                | inr os ↦ elim os [ inl d ↦ inr (inl (other i ne ∙ d)) | inr p ↦ inr (inr (other i ne ∙ p)) ]
              ]
            ];
            kept = λ i d. let d2 = w.kept i d in other i (not_part i d2) ∙ d2;
            on_path = λ k lt. elim (cases_eq k n) [
              | inl ke ↦ let P : ℕ → Type 0 = λ j. IsOnPath round marks' (get_or path' j 0) in subst P (sym ke) (let Q : ℕ → Type 0 = λ j. IsOnPath round marks' j in subst Q (sym new) now_on)
              | inr ne ↦
                  let lt2 : k < n = omega (arith, longer) in
                  let P : ℕ → Type 0 = λ j. IsOnPath round marks' j in
                  subst P (sym (same k lt2)) (other (get_or path k 0) (apart k lt2) ∙ w.on_path k lt2)
            ];
            within = λ k lt. elim (cases_eq k n) [
              | inl ke ↦ let P : ℕ → Type 0 = λ j. get_or path' j 0 < length cells in subst P (sym ke) (let Q : ℕ → Type 0 = λ j. j < length cells in subst Q (sym new) part_within)
              | inr ne ↦
                  let lt2 : k < n = omega (arith, longer) in
                  let P : ℕ → Type 0 = λ j. j < length cells in
                  subst P (sym (same k lt2)) (w.within k lt2)
            ];
            found = λ i p. elim (cases_eq i part) [
              | inl ie ↦ (n, omega (arith, longer), new ∙ sym ie)
              | inr ne ↦ let f = w.found i (sym (other i ne) ∙ p) in (f.0, omega (arith, longer), same f.0 f.1 ∙ f.2)
            ];
            distinct = λ j k lt lk eq. elim (cases_eq k n) [
              | inl ke ↦ let lj : j < n = omega arith in apart j lj (sym (same j lj) ∙ eq ∙ ap (λ m. get_or path' m 0) ke ∙ new)
              | inr ne ↦
                  let lk2 : k < n = omega (arith, longer) in
                  w.distinct j k lt lk2 (sym (same j (omega arith)) ∙ eq ∙ same k lk2)
            ];
            descends = λ ρ h j k lt lk. elim (cases_eq k n) [
              | inl ke ↦
                  let lj : j < n = omega arith in
                  let under : Below ρ part at = part_below ρ cells at part o h e in
                  let P : ℕ → Type 0 = λ i. Below ρ part i in
                  let Q : ℕ → Type 0 = λ i. Below ρ i (get_or path' j 0) in
                  let over : Below ρ part (get_or path j 0) = elim (cases_eq j (n - 1)) [
                    | inl je ↦ subst P (top ∙ ap (λ m. get_or path m 0) (sym je)) under
                    | inr ne ↦
                        let R : ℕ → Type 0 = λ i. Below ρ i (get_or path j 0) in
                        let higher : Below ρ at (get_or path j 0) = subst R (sym top) (w.descends ρ h j (n - 1) (omega arith) (omega arith)) in
                        below_trans ρ part at (get_or path j 0) under higher
                  ] in
                  subst Q (sym (ap (λ m. get_or path' m 0) ke ∙ new)) (subst P (sym (same j lj)) over)
              | inr ne ↦
                  let lk2 : k < n = omega (arith, longer) in
                  let P : ℕ → Type 0 = λ i. Below ρ i (get_or path' j 0) in
                  let Q : ℕ → Type 0 = λ i. Below ρ (get_or path k 0) i in
                  subst P (sym (same k lk2)) (subst Q (sym (same j (omega arith))) (w.descends ρ h j k lt lk2))
            ];
            first = λ lt. same 0 some ∙ w.first some;
            last = λ le. let no : ⊥ = omega (arith, longer) in absurd no;
          }

pub walk_first : (round : ℕ) (cells : List Cell) (before : List ℕ) (start : ℕ) → Calm round cells before → start < length cells → (IsDone round before start → ⊥) → Walk round cells before (set before start (2 * round)) (start ∷ []) start
walk_first round cells before start calm lt not_done =
    let marks' = set before start (2 * round) in
    let place : start < length before = omega (arith, calm.long) in
    let now_on : IsOnPath round marks' start = get_or-set_same before start (2 * round) 0 place in
    let other : (i : ℕ) → i ≢ start → mark_at marks' i ≡ mark_at before i = λ i ne. get_or-set_other before start i (2 * round) 0 ne in
    let not_start : (i : ℕ) → IsDone round before i → i ≢ start = λ i d ne. not_done (let P : ℕ → Type 0 = λ j. IsDone round before j in subst P ne d) in
    let not_start2 : (i : ℕ) → IsDone round marks' i → i ≢ start = λ i d ne. not_both round marks' start (let P : ℕ → Type 0 = λ j. IsDone round marks' j in subst P ne d) now_on in
    record {
      long = omega (arith, calm.long, length-set before start (2 * round));
      ranked = record {
        rank = calm.ranked.rank;
        top = calm.ranked.top;
        below = λ i d. calm.ranked.below i (sym (other i (not_start2 i d)) ∙ d);
        falls = λ i p d ip. let f = calm.ranked.falls i p (sym (other i (not_start2 i d)) ∙ d) ip in (other p (not_start p f.0) ∙ f.0, f.1);
      };
      past = λ i. elim (cases_eq i start) [
        | inl ie ↦ inr (inr (let P : ℕ → Type 0 = λ j. IsOnPath round marks' j in subst P (sym ie) now_on))
        | inr ne ↦ elim (calm.past i) [ inl l ↦ inl (omega (arith, other i ne)) | inr d ↦ inr (inl (other i ne ∙ d)) ]
      ];
      kept = λ i d. other i (not_start i d) ∙ d;
      on_path = λ k lk. let ke : k ≡ 0 = omega arith in let P : ℕ → Type 0 = λ j. IsOnPath round marks' (get_or (start ∷ []) j 0) in subst P (sym ke) now_on;
      within = λ k lk. let ke : k ≡ 0 = omega arith in let P : ℕ → Type 0 = λ j. get_or (start ∷ []) j 0 < length cells in subst P (sym ke) lt;
      found = λ i p. elim (cases_eq i start) [
        | inl ie ↦ (0, omega arith, sym ie)
        | inr ne ↦ elim (calm.past i) [
          | inl l ↦ let no : ⊥ = omega (arith, other i ne) in absurd no
          | inr d ↦ absurd (not_both round marks' i (other i ne ∙ d) p)
        ]
      ];
      distinct = λ j k jk lk eq. let no : ⊥ = omega arith in no;
      descends = λ ρ h j k jk lk. let no : ⊥ = omega arith in absurd no;
      first = λ l. refl;
      last = λ le. let no : ⊥ = omega arith in absurd no;
    }
