-- Implied arguments, place by place.
use Rattle.std.proofs.Common.{◌≡◌, ℕ, suc, ◌<◌, ◌+◌, Bool, true, false, not, ◌&&◌, ◌||◌, List, [], ◌∷◌, ◌++◌, length, get_or, drop, nat_eq, if◌then◌else◌, refl, sym, ap, ◌∙◌, arith, append_assoc}
use Rattle.mc_model.specs.Lists.{is_in}
use Rattle.mc_model.specs.Stream.{is_bound}
use Rattle.mc_accepted.specs.Arranged.{Point}
use Rattle.mc_accepted.specs.Ordered.{Mode, zipped, implied_places}
use Rattle.mc_mode_state.specs.code.Given.{there_before}
use Rattle.mc_mode_state.proofs.Numbers.{cons_at}

pub there-more : (given : List ℕ) (b : Point ℕ) (x : ℕ) → (λ y. if nat_eq y x then true else there_before given b y) ≡ there_before (x ∷ given) b
there-more given b x = λ i y. at y (nat_eq y x) i
  where
    at : (y : ℕ) (t : Bool) → (if t then true else (is_in y given || is_bound (b y))) ≡ ((if t then true else is_in y given) || is_bound (b y))
    at y true = refl
    at y false = refl

stepped : (places given : List ℕ) (k x : ℕ) (A B : List ℕ) (rest : List ℕ → List ℕ) (d e t : Bool) → A ≡ rest given → B ≡ rest (x ∷ given)
    → places ++ (if d || not e then A else (if t then k ∷ A else B))
    ≡ (if (not d && e) && t then places ++ k ∷ [] else places) ++ rest (if (not d && e) && not t then x ∷ given else given)
stepped places given k x A B rest true e t a b = ap (λ r. places ++ r) a
stepped places given k x A B rest false false t a b = ap (λ r. places ++ r) a
stepped places given k x A B rest false true true a b = sym (append_assoc places (k ∷ []) A) ∙ ap (λ r. (places ++ k ∷ []) ++ r) a
stepped places given k x A B rest false true false a b = ap (λ r. places ++ r) b

module _ (fs ls xs : List ℕ) (b : Point ℕ) where
  abbrev pub rest_from : ℕ → List ℕ → List ℕ
  rest_from k given = implied_places k (zipped (drop k fs) (drop k ls)) (drop k xs) (there_before given b)

  -- one argument further
  pub implied-on : (places given : List ℕ) (k : ℕ) → k < length fs → k < length ls → k < length xs
      → places ++ rest_from k given
      ≡ (if (not (is_bound (get_or fs k 0)) && is_bound (get_or ls k 0)) && there_before given b (get_or xs k 0) then places ++ k ∷ [] else places)
      ++ rest_from (k + 1) (if (not (is_bound (get_or fs k 0)) && is_bound (get_or ls k 0)) && not (there_before given b (get_or xs k 0)) then get_or xs k 0 ∷ given else given)
  implied-on places given k h i j =
      let n : suc k ≡ k + 1 = omega arith in
      let ms : List Mode = zipped (drop (k + 1) fs) (drop (k + 1) ls) in
      let ys : List ℕ = drop (k + 1) xs in
      let x : ℕ = get_or xs k 0 in
      ap (λ (gs : List ℕ). places ++ implied_places k (zipped gs (drop k ls)) (drop k xs) (there_before given b)) (cons_at fs k 0 h)
      ∙ (ap (λ (gs : List ℕ). places ++ implied_places k (zipped (get_or fs k 0 ∷ drop (k + 1) fs) gs) (drop k xs) (there_before given b)) (cons_at ls k 0 i)
      ∙ (ap (λ (gs : List ℕ). places ++ implied_places k (zipped (get_or fs k 0 ∷ drop (k + 1) fs) (get_or ls k 0 ∷ drop (k + 1) ls)) gs (there_before given b)) (cons_at xs k 0 j)
      ∙ stepped places given k x
      (implied_places (suc k) ms ys (there_before given b))
      (implied_places (suc k) ms ys (λ y. if nat_eq y x then true else there_before given b y))
      (rest_from (k + 1)) (is_bound (get_or fs k 0)) (is_bound (get_or ls k 0)) (there_before given b x)
      (ap (λ m. implied_places m ms ys (there_before given b)) n)
      (ap (λ m. implied_places m ms ys (λ y. if nat_eq y x then true else there_before given b y)) n ∙ ap (implied_places (k + 1) ms ys) (there-more given b x))))
