-- Names with numbers, as a map from owned names has them.
use Rattle.std.proofs.Common.{◌≡◌, ℕ, Bool, true, false, cond, List, [], ◌∷◌, map, Option, Some, refl, ap, sym, ◌∙◌, true≢false, if◌then◌else◌, Vec}
use Rattle.std.specs.Cmp.Lexicographic.{nat_list_eq_equiv}
use Rattle.std.specs.Map.{lookup}
use Rattle.std.specs.Str.{bytes_eq}
use Rattle.indexmap.specs.IndexMap.{insert_entry}
use Rattle.mc_names.specs.Numbers.{number_of}

module _ {K : Type 0} (name : K → List ℕ) where
  abbrev pub entries_of : List (K × ℕ) → List (List ℕ × ℕ)
  entries_of es = map (λ e. (name e.0, e.1)) es

  pub number_of-entries : (es : List (K × ℕ)) (w : List ℕ) → number_of (entries_of es) w ≡ lookup (λ k. bytes_eq w (name k)) es
  number_of-entries [] w = refl
  number_of-entries (e ∷ es) w = ap (cond (bytes_eq w (name e.0)) (Some e.1)) (number_of-entries es w)

  absent : (a b : Bool) (x y : Option ℕ) (n : Option ℕ) → (a ≡ true → b ≡ true → true ≡ false) → cond a x (cond b y n) ≡ cond b y (cond a x n)
  absent true true x y n h = absurd (true≢false (h refl refl))
  absent true false x y n h = refl
  absent false true x y n h = refl
  absent false false x y n h = refl

  present : (a : Bool) (x y n : Option ℕ) → cond a y n ≡ cond a y (cond a x n)
  present true x y n = refl
  present false x y n = refl

  module _ (eq : K → K → Bool) (same : (x y : K) → eq x y ≡ bytes_eq (name x) (name y)) where
    step : (e : K × ℕ) (es rest : List (K × ℕ)) (k : K) (v : ℕ) (w : List ℕ) (b : Bool) → eq k e.0 ≡ b
        → number_of (entries_of rest) w ≡ cond (bytes_eq w (name k)) (Some v) (number_of (entries_of es) w)
        → number_of (entries_of (if b then (e.0, v) ∷ es else e ∷ rest)) w ≡ cond (bytes_eq w (name k)) (Some v) (cond (bytes_eq w (name e.0)) (Some e.1) (number_of (entries_of es) w))
    step e es rest k v w true p ih =
        let one : bytes_eq w (name k) ≡ bytes_eq w (name e.0) = nat_list_eq_equiv.symm w (name k) ∙ nat_list_eq_equiv.congr (name k) (name e.0) w (sym (same k e.0) ∙ p) ∙ nat_list_eq_equiv.symm (name e.0) w in
        rw one (present (bytes_eq w (name e.0)) (Some e.1) (Some v) (number_of (entries_of es) w))
    step e es rest k v w false p ih =
        ap (cond (bytes_eq w (name e.0)) (Some e.1)) ih
        ∙ absent (bytes_eq w (name e.0)) (bytes_eq w (name k)) (Some e.1) (Some v) (number_of (entries_of es) w)
        (λ a b. sym a ∙ nat_list_eq_equiv.congr w (name k) (name e.0) b ∙ sym (same k e.0) ∙ p)

    pub number_of-insert : (es : List (K × ℕ)) (k : K) (v : ℕ) (w : List ℕ) → number_of (entries_of (insert_entry eq es k v)) w ≡ cond (bytes_eq w (name k)) (Some v) (number_of (entries_of es) w)
    number_of-insert [] k v w = refl
    number_of-insert (e ∷ es) k v w = step e es (insert_entry eq es k v) k v w (eq k e.0) refl (number_of-insert es k v w)

abbrev pub vec_name : {A : Type 0} → Vec ℕ A → List ℕ
vec_name v = v.items
