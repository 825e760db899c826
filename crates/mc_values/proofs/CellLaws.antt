-- What the cells of a heap hold as it grows and is released.
use Rattle.std.proofs.Common.{◌≡◌, ℕ, suc, pos, ◌+◌, ◌<◌, ◌≤◌, List, [], ◌∷◌, ◌++◌, length, map, take, drop, get_or, Some, None, refl, ap, sym, ◌∙◌, subst, arith, length-append, Option}
use Rattle.std.specs.List.{All}
use Rattle.std.proofs.lemmas.List.{get_or-take, get_or_append_left, get_or_at, length-take, length-take-le, take_all, take_at, take-take, take_more, take-append-drop}
use Rattle.std.proofs.lemmas.Simd.{map-map}
use borrow.Author.Count.{below_more}
use Rattle.mc_program.specs.declared.value.Value.{Value, Int, Con, Io}
use Rattle.mc_program.specs.declared.value.Value.TheOpen as V
use Rattle.mc_program.specs.declared.value.Value.TheVariants.{rolls-Int, rolls-Char, rolls-Str, rolls-Io}
use Rattle.mc_program.specs.declared.value.Value.TheFolds.{fold-roll-Value}
use Rattle.mc_program.specs.Values.{Val, plain_value, plain_value_step, con, vals}
use Rattle.mc_program.proofs.Views.{plain_value-Con}
use Rattle.mc_values.specs.Heap.{value_at}
use Rattle.mc_values.specs.declared.cell.Cell.{Cell}
use Rattle.mc_values.specs.declared.cell.Cell.TheVariants as C
use Rattle.mc_values.specs.code.Cells.{refs_of, named_of, written_in, written_before, value_of, plain_of, owned_at, held_after, held_in, AreCells, refs_before}

-- functions that agree below n agree over numbers below n
map_same : {X : Type 0} (f g : ℕ → X) (n : ℕ) (xs : List ℕ) → ((r : ℕ) → r < n → f r ≡ g r) → All (λ r. r < n) xs → map f xs ≡ map g xs
map_same f g n [] same below = refl
map_same f g n (x ∷ xs) same below = λ i. same x (below 0 0 (omega arith)) i ∷ map_same f g n xs same (λ k d lt. below (suc k) d (omega arith)) i

written_same : (f g : ℕ → Value) (n : ℕ) (o : Option ℕ) → ((r : ℕ) → r < n → f r ≡ g r) → All (λ r. r < n) (refs_before o) → written_before (λ r. plain_value (f r)) o ≡ written_before (λ r. plain_value (g r)) o
written_same f g n None same below = refl
written_same f g n (Some r) same below = ap (λ v. written_in (plain_value v)) (same r (below 0 0 (omega arith)))

value_of_same : (f g : ℕ → Value) (n : ℕ) (c : Cell) → ((r : ℕ) → r < n → f r ≡ g r) → All (λ r. r < n) (named_of c) → value_of f c ≡ value_of g c
value_of_same f g n (C.Int i) same below = refl
value_of_same f g n (C.Char i) same below = refl
value_of_same f g n (C.Text t) same below = refl
value_of_same f g n (C.Io s) same below = ap (λ l. Io (l ++ s.value.added) s.value.taken) (written_same f g n s.value.before same below)
value_of_same f g n (C.Con s args) same below = ap (λ xs. Con s xs) (map_same f g n (refs_of args) same below)

-- a cell's value as plain data
pub plain-value_of : (f : ℕ → Value) (c : Cell) → plain_value (value_of f c) ≡ plain_of (λ r. plain_value (f r)) c
plain-value_of f (C.Int i) = ap plain_value (sym (rolls-Int i)) ∙ fold-roll-Value Val plain_value_step (V.Int i)
plain-value_of f (C.Char i) = ap plain_value (sym (rolls-Char i)) ∙ fold-roll-Value Val plain_value_step (V.Char i)
plain-value_of f (C.Text t) = ap plain_value (sym (rolls-Str t)) ∙ fold-roll-Value Val plain_value_step (V.Str t)
plain-value_of f (C.Io s) =
    let written = written_before (λ r. plain_value (f r)) s.value.before ++ s.value.added in
    ap plain_value (sym (rolls-Io written s.value.taken)) ∙ fold-roll-Value Val plain_value_step (V.Io written s.value.taken)
plain-value_of f (C.Con s args) = plain_value-Con s (map f (refs_of args)) ∙ ap (λ l. con s (vals l)) (map-map plain_value f (refs_of args))

length-held_after : (held : List Value) (cells : List Cell) → length (held_after held cells) ≡ length held + length cells
length-held_after held [] = omega arith
length-held_after held (c ∷ cells) = omega (arith, length-held_after (held ++ (value_of (owned_at held) c ∷ [])) cells, length-append held (value_of (owned_at held) c ∷ []))

-- as many values are held as there are cells
pub length-held_in : (cells : List Cell) → length (held_in cells) ≡ length cells
length-held_in cells = omega (arith, length-held_after [] cells)

held_after-append : (held : List Value) (xs ys : List Cell) → held_after held (xs ++ ys) ≡ held_after (held_after held xs) ys
held_after-append held [] ys = refl
held_after-append held (x ∷ xs) ys = held_after-append (held ++ (value_of (owned_at held) x ∷ [])) xs ys

pub held_more : (cells : List Cell) (c : Cell) → held_in (cells ++ (c ∷ [])) ≡ held_in cells ++ (value_of (owned_at (held_in cells)) c ∷ [])
held_more cells c = held_after-append [] cells (c ∷ [])

kept : (held : List Value) (cells : List Cell) → take (length held) (held_after held cells) ≡ held
kept held [] = take_all (length held) held (omega arith)
kept held (c ∷ cells) =
    let v = value_of (owned_at held) c in
    let more = held ++ (v ∷ []) in
    sym (take-take (length held) (length more) (held_after more cells) (omega (arith, length-append held (v ∷ []))))
    ∙ ap (take (length held)) (kept more cells)
    ∙ take_at held (v ∷ []) (length held) refl

-- the values of the first cells
pub held_first : (cells : List Cell) (n : ℕ) → n ≤ length cells → held_in (take n cells) ≡ take n (held_in cells)
held_first cells n le =
    let front = held_in (take n cells) in
    let whole : held_in cells ≡ held_after front (drop n cells) = ap held_in (sym (take-append-drop n cells)) ∙ held_after-append [] (take n cells) (drop n cells) in
    let len : length front ≡ n = length-held_in (take n cells) ∙ length-take-le n cells le in
    sym (ap (take n) whole ∙ ap (λ m. take m (held_after front (drop n cells))) (sym len) ∙ kept front (drop n cells))

pub within : (cells : List Cell) (held : List Value) (r : ℕ) → held_in cells ≡ held → r < length held → r < length cells
within cells held r view lt = omega (arith, ap length view, length-held_in cells)

-- the value in a cell, by those in its arguments' cells
owned_held : (cells : List Cell) (i : ℕ) (d : Cell) → AreCells cells → i < length cells → owned_at (held_in cells) i ≡ value_of (owned_at (held_in cells)) (get_or cells i d)
owned_held cells i d are lt =
    let held = held_in cells in
    let front = held_in (take i cells) in
    let c = get_or cells i d in
    let first : take (i + 1) held ≡ front ++ (value_of (owned_at front) c ∷ []) =
    sym (held_first cells (i + 1) (omega arith)) ∙ ap held_in (take_more cells i d lt) ∙ held_more (take i cells) c in
    let len : length front ≡ i = length-held_in (take i cells) ∙ length-take-le i cells (omega arith) in
    let same : (r : ℕ) → r < i → owned_at front r ≡ owned_at held r =
    λ r below. ap (λ vs. owned_at vs r) (held_first cells i (omega arith)) ∙ get_or-take i held r (Int (pos 0)) below in
    sym (get_or-take (i + 1) held i (Int (pos 0)) (omega arith))
    ∙ ap (λ vs. owned_at vs i) first
    ∙ get_or_at front (value_of (owned_at front) c) [] (Int (pos 0)) i len
    ∙ value_of_same (owned_at front) (owned_at held) i c same (are i d lt)

pub held_cell : (cells : List Cell) (held : List Value) (r : ℕ) (c : Cell) → AreCells cells → held_in cells ≡ held → r < length held → c ≡ get_or cells r c → value_at held r ≡ plain_of (value_at held) c
unfolding value_at
held_cell cells held r c are view lt at =
    subst (λ vs. plain_value (owned_at vs r) ≡ plain_of (λ a. plain_value (owned_at vs a)) c) view
    (ap plain_value (owned_held cells r c are (within cells held r view lt))
    ∙ ap (λ x. plain_value (value_of (owned_at (held_in cells)) x)) (sym at)
    ∙ plain-value_of (owned_at (held_in cells)) c)

pub named_below : (cells : List Cell) (held : List Value) (r : ℕ) (c : Cell) → AreCells cells → held_in cells ≡ held → r < length held → c ≡ get_or cells r c → All (λ a. a < r) (named_of c)
named_below cells held r c are view lt at =
    subst (λ x. All (λ a. a < r) (named_of x)) (sym at) (are r c (within cells held r view lt))

last_of : (cells : List Cell) (c d : Cell) → get_or (cells ++ (c ∷ [])) (length cells) d ≡ c
last_of cells c d = get_or_at cells c [] d (length cells) refl

pub AreCells-push : (cells : List Cell) (c : Cell) → AreCells cells → All (λ r. r < length cells) (named_of c) → AreCells (cells ++ (c ∷ []))
AreCells-push cells c are new i d lt =
    below_more (λ k. All (λ r. r < k) (named_of (get_or (cells ++ (c ∷ [])) k d))) (length cells)
    (λ k h. subst (λ x. All (λ r. r < k) (named_of x)) (sym (get_or_append_left cells (c ∷ []) d k h)) (are k d h))
    (subst (λ x. All (λ r. r < length cells) (named_of x)) (sym (last_of cells c d)) new)
    i (omega (arith, length-append cells (c ∷ [])))

pub AreCells-take : (cells : List Cell) (n : ℕ) → AreCells cells → AreCells (take n cells)
AreCells-take cells n are i d lt =
    let below : i < n = omega (arith, length-take n cells) in
    subst (λ x. All (λ r. r < i) (named_of x)) (sym (get_or-take n cells i d below)) (are i d (omega (arith, length-take n cells)))
