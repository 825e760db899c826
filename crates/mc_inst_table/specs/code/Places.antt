-- The places of the parameters of definitions, one behind another, and for which others each is given.
use Rattle.std.specs.Prelude.{◌≡◌, ℕ, zero, suc, ◌+◌, ◌-◌, Bool, true, false, nat_eq, List, [], ◌∷◌, ◌++◌, slice_get, slice_index, slice_index_or, Option, Some, None, if◌then◌else◌}
use Rattle.mc_inst_table.specs.declared.links.Link.{Link}

-- where the parameters of each definition begin, where the first begins at a number
abbrev pub firsts_from : ℕ → List ℕ → List ℕ
firsts_from n [] = []
firsts_from n (w ∷ ws) = n ∷ firsts_from (n + w) ws

abbrev pub place : (firsts : List ℕ) → (definition parameter : ℕ) → ℕ
place firsts d j = slice_index firsts d + j

abbrev pub width_at : (widths : List ℕ) → ℕ → ℕ
width_at widths d = slice_index widths d

abbrev pub links_at : List (List Link) → ℕ → List Link
links_at all d = slice_index_or all d []

-- two definitions have one number
abbrev pub same_number : Option ℕ → Option ℕ → Bool
same_number (Some m) (Some n) = nat_eq m n
same_number _ _ = false

abbrev pub is_inner : (numbers : List ℕ) → (from to : ℕ) → Bool
is_inner numbers d e = same_number (slice_get numbers d) (slice_get numbers e)

abbrev pub is_that : ℕ → Option ℕ → Bool
is_that j None = false
is_that j (Some k) = nat_eq k j

-- the places, from one on, of those for which a parameter is given
abbrev pub given_for : (parameter : ℕ) → (place : ℕ) → List (Option ℕ) → List ℕ
given_for j x [] = []
given_for j x (g ∷ gs) = if is_that j g then x ∷ given_for j (x + 1) gs else given_for j (x + 1) gs

abbrev pub given_by :
    (firsts numbers : List ℕ) → (definition parameter : ℕ) → List Link → List ℕ
given_by fs ns d j [] = []
given_by fs ns d j (l ∷ ls) =
    (if is_inner ns d l.to then given_for j (place fs l.to 0) l.given else []) ++ given_by fs ns d j ls

-- the rows of so many parameters of a definition, from one on
abbrev pub rows_of :
    (firsts numbers : List ℕ) → (definition parameter count : ℕ) → List Link → List (List ℕ)
rows_of fs ns d j zero ls = []
rows_of fs ns d j (suc k) ls = given_by fs ns d j ls ∷ rows_of fs ns d (suc j) k ls

-- the rows of all parameters, from a definition on
abbrev pub all_rows :
    (firsts numbers : List ℕ) → (definition : ℕ) → (widths : List ℕ) → List (List Link)
    → List (List ℕ)
all_rows fs ns d [] all = []
all_rows fs ns d (w ∷ ws) all =
    rows_of fs ns d 0 w (links_at all d) ++ all_rows fs ns (suc d) ws all

-- the numbers of the parameters for which something else is given than one of their number
abbrev pub is_number_of : (numbers firsts : List ℕ) → (definition : ℕ) → Option ℕ → ℕ → Bool
is_number_of cs fs d None c = false
is_number_of cs fs d (Some j) c = nat_eq (slice_index cs (place fs d j)) c

abbrev pub spoiled_for :
    (numbers firsts : List ℕ) → (definition : ℕ) → (place : ℕ) → List (Option ℕ) → List ℕ
spoiled_for cs fs d x [] = []
spoiled_for cs fs d x (g ∷ gs) =
    if is_number_of cs fs d g (slice_index cs x) then spoiled_for cs fs d (x + 1) gs
    else slice_index cs x ∷ spoiled_for cs fs d (x + 1) gs

abbrev pub spoiled_by :
    (numbers firsts inner : List ℕ) → (definition : ℕ) → List Link → List ℕ
spoiled_by cs fs ns d [] = []
spoiled_by cs fs ns d (l ∷ ls) =
    (if is_inner ns d l.to then spoiled_for cs fs d (place fs l.to 0) l.given else [])
    ++ spoiled_by cs fs ns d ls

abbrev pub all_spoiled :
    (numbers firsts inner : List ℕ) → (definition : ℕ) → List (List Link) → List ℕ
all_spoiled cs fs ns d [] = []
all_spoiled cs fs ns d (ls ∷ all) =
    spoiled_by cs fs ns d ls ++ all_spoiled cs fs ns (suc d) all
