-- Arguments that are tested, one by one.
use Rattle.std.proofs.Math.Path.{fun_ext}
use Rattle.std.proofs.Math.Seq.{drop-cons, drop-length}
use Rattle.std.proofs.Common.{◌≡◌, ℕ, suc, ◌+◌, ◌<◌, nat_eq, List, length, get_or, take, drop, Bool, true, false, ◌||◌, refl, sym, ap, ◌∙◌, add-one, if◌then◌else◌}
use Rattle.std.proofs.lemmas.List.Folds.{list_any_more}
use Rattle.mc_accepted.specs.Determined.{tested}
use Rattle.mc_det.specs.code.Testing.{stands_in}

module _ (f : ℕ → Bool) (args : List ℕ) where
  -- what is there before an argument
  abbrev pub there : ℕ → ℕ → Bool
  there k x = stands_in (take k args) x || f x

  bound_or : (t a b : Bool) → (if t then true else (a || b)) ≡ ((a || t) || b)
  bound_or true true b = refl
  bound_or true false b = refl
  bound_or false true b = refl
  bound_or false false b = refl

  one_more : (k d : ℕ) → k < length args → (λ x. if nat_eq x (get_or args k d) then true else there k x) ≡ there (k + 1)
  one_more k d lt =
      fun_ext (λ x.
      bound_or (nat_eq x (get_or args k d)) (stands_in (take k args) x) (f x)
      ∙ ap (λ b. b || f x) (sym (list_any_more (λ y. nat_eq x y) args k d lt)))

  step : (k d : ℕ) → k < length args → tested (drop k args) (there k) ≡ (there k (get_or args k d) || tested (drop (k + 1) args) (there (k + 1)))
  step k d lt =
      ap (λ l. tested l (there k)) (drop-cons args k d lt)
      ∙ ap (λ g. there k (get_or args k d) || tested (drop (suc k) args) g) (one_more k d lt)
      ∙ ap (λ n. there k (get_or args k d) || tested (drop n args) (there (k + 1))) (sym (add-one k))

  pub passed : (k d : ℕ) → k < length args → tested args f ≡ tested (drop k args) (there k) → false ≡ there k (get_or args k d) → tested args f ≡ tested (drop (k + 1) args) (there (k + 1))
  passed k d lt inv e = inv ∙ step k d lt ∙ ap (λ b. b || tested (drop (k + 1) args) (there (k + 1))) (sym e)

  pub found : (k d : ℕ) → k < length args → tested args f ≡ tested (drop k args) (there k) → true ≡ there k (get_or args k d) → true ≡ tested args f
  found k d lt inv e = sym (inv ∙ step k d lt ∙ ap (λ b. b || tested (drop (k + 1) args) (there (k + 1))) (sym e))

  pub none_found : (k : ℕ) → k ≡ length args → tested args f ≡ tested (drop k args) (there k) → false ≡ tested args f
  none_found k e inv = sym (inv ∙ ap (λ l. tested l (there k)) (ap (λ n. drop n args) e ∙ drop-length args))
