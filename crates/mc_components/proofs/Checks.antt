-- The checks of a search, step by step.
use Rattle.std.proofs.Common.{◌≡◌, ℕ, ◌+◌, ◌<◌, ◌≤◌, Bool, true, false, ◌&&◌, ◌||◌, List, length, get_or, drop, sym, ap, ◌∙◌}
use Rattle.std.specs.Prelude.{Some, slice_get, nat_le}
use Rattle.std.proofs.lemmas.Bool.{le-leb, lt-leb}
use Rattle.std.proofs.lemmas.List.{at_drop_more}
use Rattle.std.proofs.lemmas.Option.{get_or_from_slice_get}
use Rattle.mc_components.specs.Components.{steps}
use Rattle.mc_components.specs.code.Certificate.{is_number, all_below, one_within}

pub below_fails :
    (cs : List ℕ) (c : ℕ) (js : List ℕ) (i : ℕ)
    → i < length js → c < get_or cs (get_or js i 0) 0 → all_below cs c (drop i js) ≡ false
below_fails cs c js i below above =
    let fails : nat_le (get_or cs (get_or js i 0) 0) c ≡ false =
    lt-leb (get_or cs (get_or js i 0) 0) c above
    in
    at_drop_more (all_below cs c) js i 0 below
    ∙ ap (λ (b : Bool). b && all_below cs c (drop (i + 1) js)) fails

pub below_goes_on :
    (cs : List ℕ) (c : ℕ) (js : List ℕ) (i : ℕ)
    → i < length js → get_or cs (get_or js i 0) 0 ≤ c
    → all_below cs c (drop i js) ≡ all_below cs c (drop (i + 1) js)
below_goes_on cs c js i below under =
    let holds : nat_le (get_or cs (get_or js i 0) 0) c ≡ true =
    le-leb (get_or cs (get_or js i 0) 0) c under
    in
    at_drop_more (all_below cs c) js i 0 below
    ∙ ap (λ (b : Bool). b && all_below cs c (drop (i + 1) js)) holds

pub row_down :
    (graph : List (List ℕ)) (cs row : List ℕ) (k c : ℕ)
    → slice_get cs k ≡ Some c → row ≡ steps graph k → all_below cs c row ≡ true
    → all_below cs (get_or cs k 0) (steps graph k) ≡ true
row_down graph cs row k c is same holds =
    let at_k : get_or cs k 0 ≡ c = get_or_from_slice_get cs k c 0 is in
    ap (λ (d : ℕ). all_below cs d (steps graph k)) at_k
    ∙ ap (all_below cs c) (sym same)
    ∙ holds

pub one_here :
    (cs : List ℕ) (c : ℕ) (js : List ℕ) (i : ℕ)
    → i < length js → is_number (slice_get cs (get_or js i 0)) c ≡ true
    → one_within cs c (drop i js) ≡ true
one_here cs c js i below is =
    at_drop_more (one_within cs c) js i 0 below
    ∙ ap (λ (b : Bool). b || one_within cs c (drop (i + 1) js)) is

pub one_later :
    (cs : List ℕ) (c : ℕ) (js : List ℕ) (i : ℕ)
    → i < length js → is_number (slice_get cs (get_or js i 0)) c ≡ false
    → one_within cs c (drop i js) ≡ one_within cs c (drop (i + 1) js)
one_later cs c js i below is =
    at_drop_more (one_within cs c) js i 0 below
    ∙ ap (λ (b : Bool). b || one_within cs c (drop (i + 1) js)) is
