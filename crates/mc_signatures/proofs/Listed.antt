-- Groups by their names, as a map from names keeps them.
use Rattle.std.proofs.Common.{◌≡◌, ℕ, Bool, true, false, cond, List, [], ◌∷◌, ◌++◌, map, Option, Some, None, refl, ap, sym, ◌∙◌, true≢false, append-nil, if◌then◌else◌}
use Rattle.std.specs.Cmp.Lexicographic.{nat_list_eq_equiv}
use Rattle.std.specs.Map.{lookup}
use Rattle.std.specs.Str.{bytes_eq}
use Rattle.indexmap.specs.IndexMap.{insert_entry}
use Rattle.mc_names.specs.code.Index.{Index, listed}

module _ {K V A : Type 0} (name : K → List ℕ) (group : V → List A) where
  abbrev pub entries_of : List (K × V) → Index A
  entries_of es = map (λ e. (name e.0, group e.1)) es

  abbrev pub group_or_none : Option V → List A
  group_or_none None = []
  group_or_none (Some v) = group v

  chosen : (b : Bool) (v : V) (o : Option V) → cond b (group v) (group_or_none o) ≡ group_or_none (cond b (Some v) o)
  chosen true v o = refl
  chosen false v o = refl

  -- what is listed is the group that a look-up finds
  pub listed_lookup : (es : List (K × V)) (w : List ℕ) → listed (entries_of es) w ≡ group_or_none (lookup (λ k. bytes_eq w (name k)) es)
  listed_lookup [] w = refl
  listed_lookup (e ∷ es) w =
      ap (cond (bytes_eq w (name e.0)) (group e.1)) (listed_lookup es w)
      ∙ chosen (bytes_eq w (name e.0)) e.1 (lookup (λ k. bytes_eq w (name k)) es)

  absent : (a b : Bool) (x y n : List A) → (a ≡ true → b ≡ true → true ≡ false) → cond a x (cond b y n) ≡ cond b y (cond a x n)
  absent true true x y n h = absurd (true≢false (h refl refl))
  absent true false x y n h = refl
  absent false true x y n h = refl
  absent false false x y n h = refl

  present : (a : Bool) (x y n : List A) → cond a y n ≡ cond a y (cond a x n)
  present true x y n = refl
  present false x y n = refl

  module _ (eq : K → K → Bool) (same : (x y : K) → eq x y ≡ bytes_eq (name x) (name y)) where
    step : (e : K × V) (es rest : List (K × V)) (k : K) (v : V) (w : List ℕ) (b : Bool) → eq k e.0 ≡ b
        → listed (entries_of rest) w ≡ cond (bytes_eq w (name k)) (group v) (listed (entries_of es) w)
        → listed (entries_of (if b then (e.0, v) ∷ es else e ∷ rest)) w ≡ cond (bytes_eq w (name k)) (group v) (cond (bytes_eq w (name e.0)) (group e.1) (listed (entries_of es) w))
    step e es rest k v w true p ih =
        let one : bytes_eq w (name k) ≡ bytes_eq w (name e.0) =
        nat_list_eq_equiv.symm w (name k) ∙ nat_list_eq_equiv.congr (name k) (name e.0) w (sym (same k e.0) ∙ p) ∙ nat_list_eq_equiv.symm (name e.0) w
        in
        rw one (present (bytes_eq w (name e.0)) (group e.1) (group v) (listed (entries_of es) w))
    step e es rest k v w false p ih =
        ap (cond (bytes_eq w (name e.0)) (group e.1)) ih
        ∙ absent (bytes_eq w (name e.0)) (bytes_eq w (name k)) (group e.1) (group v) (listed (entries_of es) w)
        (λ a b. sym a ∙ nat_list_eq_equiv.congr w (name k) (name e.0) b ∙ sym (same k e.0) ∙ p)

    -- what is listed once a group is put in
    pub listed_insert : (es : List (K × V)) (k : K) (v : V) (w : List ℕ) → listed (entries_of (insert_entry eq es k v)) w ≡ cond (bytes_eq w (name k)) (group v) (listed (entries_of es) w)
    listed_insert [] k v w = refl
    listed_insert (e ∷ es) k v w = step e es (insert_entry eq es k v) k v w (eq k e.0) refl (listed_insert es k v w)

-- the same is listed under names that are the same
pub listed_congr : {A : Type 0} (index : Index A) (w v : List ℕ) → bytes_eq w v ≡ true → listed index w ≡ listed index v
listed_congr [] w v h = refl
listed_congr (e ∷ es) w v h = rw (nat_list_eq_equiv.congr w v e.0 h, listed_congr es w v h) refl

-- a group that was taken out and is put in with one item more
pub listed_behind : {A : Type 0} (index : Index A) (w v : List ℕ) (group : List A) (x : A) → group ≡ listed index v
    → cond (bytes_eq w v) (group ++ x ∷ []) (cond (bytes_eq w v) [] (listed index w)) ≡ listed index w ++ cond (bytes_eq w v) (x ∷ []) []
listed_behind index w v group x e = by (bytes_eq w v) refl
  where
    by : (b : Bool) → bytes_eq w v ≡ b → cond b (group ++ x ∷ []) (cond b [] (listed index w)) ≡ listed index w ++ cond b (x ∷ []) []
    by true h = ap (λ xs. xs ++ x ∷ []) (e ∙ sym (listed_congr index w v h))
    by false h = sym (append-nil (listed index w))
