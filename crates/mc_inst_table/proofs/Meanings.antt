-- The first definition that a name means.
use Rattle.std.proofs.Common.{◌≡◌, ℕ, ◌+◌, ◌<◌, List, [], ◌∷◌, ◌++◌, length, get_or, drop, refl, sym, ap, ◌∙◌}
use Rattle.std.specs.Prelude.{Some, None, slice_get}
use Rattle.std.proofs.lemmas.List.{at_drop_more}
use Rattle.mc_names.specs.Plain.{PlainNameArity}
use Rattle.mc_names.specs.Linked.{Defined, Linked}
use Rattle.mc_names.specs.Numbers.{numbers_where}
use Rattle.mc_names.specs.Candidates.{type_fits}
use Rattle.mc_inst_table.specs.Written.{numbers_among, first_or}

first_here : (n k : ℕ) (xs ys : List ℕ) → Some k ≡ slice_get xs 0 → k ≡ first_or n (xs ++ ys)
first_here n k [] ys is = cc
first_here n k (x ∷ xs) ys is = let same : Some k ≡ Some x = is in cc

first_there : (n : ℕ) (xs ys : List ℕ) → None ≡ slice_get xs 0 → first_or n ys ≡ first_or n (xs ++ ys)
first_there n [] ys is = refl
first_there n (x ∷ xs) ys is = let clash : None ≡ Some x = is in cc

pub module_here :
    (l : Linked) (own : ℕ) (x : PlainNameArity) (ds : List Defined) (n : ℕ) (js : List ℕ) (i k : ℕ)
    → i < length js → Some k ≡ slice_get (numbers_where (type_fits l own x (get_or js i 0)) 0 ds) 0
    → k ≡ first_or n (numbers_among l own x ds (drop i js))
module_here l own x ds n js i k below is =
    first_here n k (numbers_where (type_fits l own x (get_or js i 0)) 0 ds)
    (numbers_among l own x ds (drop (i + 1) js)) is
    ∙ sym (at_drop_more (λ us. first_or n (numbers_among l own x ds us)) js i 0 below)

pub module_there :
    (l : Linked) (own : ℕ) (x : PlainNameArity) (ds : List Defined) (n : ℕ) (js : List ℕ) (i : ℕ)
    → i < length js → None ≡ slice_get (numbers_where (type_fits l own x (get_or js i 0)) 0 ds) 0
    → first_or n (numbers_among l own x ds (drop (i + 1) js))
    ≡ first_or n (numbers_among l own x ds (drop i js))
module_there l own x ds n js i below is =
    first_there n (numbers_where (type_fits l own x (get_or js i 0)) 0 ds)
    (numbers_among l own x ds (drop (i + 1) js)) is
    ∙ sym (at_drop_more (λ us. first_or n (numbers_among l own x ds us)) js i 0 below)
