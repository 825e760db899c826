-- Definitions by their names.
use Rattle.std.proofs.Common.{◌≡◌, ℕ, Bool, true, false, cond, ◌&&◌, ◌||◌, nat_eq, List, [], ◌∷◌, ◌++◌, map, length, get_or, Option, Some, None, zero, suc, refl, ap, sym, ◌∙◌, true≢false, arith, if◌then◌else◌, Vec}
use Rattle.std.specs.Prelude.{slice_get}
use Rattle.std.specs.Option.{option_map}
use Rattle.std.specs.Cmp.Lexicographic.{nat_list_eq_equiv}
use Rattle.std.specs.Map.{lookup}
use Rattle.std.specs.Str.{bytes_eq}
use Rattle.std.proofs.lemmas.Option.{slice_get-map}
use Rattle.indexmap.specs.IndexMap.{insert_entry}
use Rattle.mc_source.specs.declared.name.Candidate.{Candidate}
use Rattle.mc_source.specs.declared.name.Candidate.TheVariants as C
use Rattle.mc_names.specs.Plain.{PlainNameArity}
use Rattle.mc_names.specs.declared.names.Named.{Named}
use Rattle.mc_names.specs.Linked.{Defined, Linked, plain_named}
use Rattle.mc_names.specs.Candidates.{defined_by, fits, fitting}
use Rattle.mc_names.specs.code.Index.{Index, listed, its_name, name_at, is_called, called, IsIndex}

module _ {K V A : Type 0} (name : K → List ℕ) (group : V → List A) where
  abbrev pub entries_of : List (K × V) → Index A
  entries_of es = map (λ e. (name e.0, group e.1)) es

  there_step : (e : K × V) (es : List (K × V)) (w : List ℕ) (v : V) (b : Bool) → (lookup (λ k. bytes_eq w (name k)) es ≡ Some v → listed (entries_of es) w ≡ group v)
      → cond b (Some e.1) (lookup (λ k. bytes_eq w (name k)) es) ≡ Some v → cond b (group e.1) (listed (entries_of es) w) ≡ group v
  there_step e es w v true ih h = let f : e.1 ≡ v = cc in ap group f
  there_step e es w v false ih h = ih h

  pub listed-there : (es : List (K × V)) (w : List ℕ) (v : V) → lookup (λ k. bytes_eq w (name k)) es ≡ Some v → listed (entries_of es) w ≡ group v
  listed-there [] w v h = cc
  listed-there (e ∷ es) w v h = there_step e es w v (bytes_eq w (name e.0)) (listed-there es w v) h

  absent_step : (e : K × V) (es : List (K × V)) (w : List ℕ) (b : Bool) → (lookup (λ k. bytes_eq w (name k)) es ≡ None → listed (entries_of es) w ≡ [])
      → cond b (Some e.1) (lookup (λ k. bytes_eq w (name k)) es) ≡ None → cond b (group e.1) (listed (entries_of es) w) ≡ []
  absent_step e es w true ih h = cc
  absent_step e es w false ih h = ih h

  pub listed-absent : (es : List (K × V)) (w : List ℕ) → lookup (λ k. bytes_eq w (name k)) es ≡ None → listed (entries_of es) w ≡ []
  listed-absent [] w h = refl
  listed-absent (e ∷ es) w h = absent_step e es w (bytes_eq w (name e.0)) (listed-absent es w) h

  absent : (a b : Bool) (x y n : List A) → (a ≡ true → b ≡ true → true ≡ false) → cond a x (cond b y n) ≡ cond b y (cond a x n)
  absent true true x y n h = absurd (true≢false (h refl refl))
  absent true false x y n h = refl
  absent false true x y n h = refl
  absent false false x y n h = refl

  present : (a : Bool) (x y n : List A) → cond a y n ≡ cond a y (cond a x n)
  present true x y n = refl
  present false x y n = refl

  module _ (eq : K → K → Bool) (same : (x y : K) → eq x y ≡ bytes_eq (name x) (name y)) where
    step : (e : K × V) (es rest : List (K × V)) (k : K) (v : V) (w : List ℕ) (b : Bool) → eq k e.0 ≡ b
        → listed (entries_of rest) w ≡ cond (bytes_eq w (name k)) (group v) (listed (entries_of es) w)
        → listed (entries_of (if b then (e.0, v) ∷ es else e ∷ rest)) w ≡ cond (bytes_eq w (name k)) (group v) (cond (bytes_eq w (name e.0)) (group e.1) (listed (entries_of es) w))
    step e es rest k v w true p ih =
        let one : bytes_eq w (name k) ≡ bytes_eq w (name e.0) = nat_list_eq_equiv.symm w (name k) ∙ nat_list_eq_equiv.congr (name k) (name e.0) w (sym (same k e.0) ∙ p) ∙ nat_list_eq_equiv.symm (name e.0) w in
        rw one (present (bytes_eq w (name e.0)) (group e.1) (group v) (listed (entries_of es) w))
    step e es rest k v w false p ih =
        ap (cond (bytes_eq w (name e.0)) (group e.1)) ih
        ∙ absent (bytes_eq w (name e.0)) (bytes_eq w (name k)) (group e.1) (group v) (listed (entries_of es) w)
        (λ a b. sym a ∙ nat_list_eq_equiv.congr w (name k) (name e.0) b ∙ sym (same k e.0) ∙ p)

    pub listed-insert : (es : List (K × V)) (k : K) (v : V) (w : List ℕ) → listed (entries_of (insert_entry eq es k v)) w ≡ cond (bytes_eq w (name k)) (group v) (listed (entries_of es) w)
    listed-insert [] k v w = refl
    listed-insert (e ∷ es) k v w = step e es (insert_entry eq es k v) k v w (eq k e.0) refl (listed-insert es k v w)

-- the same is listed under names that are the same
pub listed_congr : {A : Type 0} (index : Index A) (w v : List ℕ) → bytes_eq w v ≡ true → listed index w ≡ listed index v
listed_congr [] w v h = refl
listed_congr (e ∷ es) w v h = rw (nat_list_eq_equiv.congr w v e.0 h, listed_congr es w v h) refl

pub listed_again : {A : Type 0} (index : Index A) (w v : List ℕ) (c : A) → cond (bytes_eq w v) (listed index v ++ c ∷ []) (listed index w) ≡ cond (bytes_eq w v) (listed index w ++ c ∷ []) (listed index w)
listed_again index w v c = by (bytes_eq w v) refl
  where
    by : (b : Bool) → bytes_eq w v ≡ b → cond b (listed index v ++ c ∷ []) (listed index w) ≡ cond b (listed index w ++ c ∷ []) (listed index w)
    by true h = ap (λ cs. cs ++ c ∷ []) (sym (listed_congr index w v h))
    by false h = refl

abbrev pub vec_list : {X A : Type 0} → Vec X A → List X
vec_list v = v.items

fits_name : (own : Bool) (x : PlainNameArity) (d : Defined) → bytes_eq x.name d.name.name ≡ false → fits own x (Some d) ≡ false
fits_name own x d h = rw (nat_list_eq_equiv.symm d.name.name x.name, h) (last (own || d.exported) (nat_eq d.name.arity x.arity))
  where
    last : (a b : Bool) → (a && (b && false)) ≡ false
    last true true = refl
    last true false = refl
    last false b = refl

module _ (l : Linked) (ss ps : List Named) (s : l.symbols ≡ map plain_named ss) (p : l.preds ≡ map plain_named ps) where
  of_named : (own : Bool) (x : PlainNameArity) (o : Option Named) → is_called x.name (option_map its_name o) ≡ false → fits own x (option_map plain_named o) ≡ false
  of_named own x None h = refl
  of_named own x (Some n) h = fits_name own x (plain_named n) h

  not_called : (own : Bool) (x : PlainNameArity) (c : Candidate) → is_called x.name (name_at ss ps c) ≡ false → fits own x (defined_by l c) ≡ false
  not_called own x (C.Con k) h = rw (s, slice_get-map plain_named ss k) (of_named own x (slice_get ss k) h)
  not_called own x (C.Func k) h = rw (p, slice_get-map plain_named ps k) (of_named own x (slice_get ps k) h)
  not_called own x (C.Pred k) h = rw (p, slice_get-map plain_named ps k) (of_named own x (slice_get ps k) h)
  not_called own x (C.Char c) h = refl

  called_step : (own : Bool) (x : PlainNameArity) (c : Candidate) (cs : List Candidate) (b : Bool) → is_called x.name (name_at ss ps c) ≡ b → fitting l own x (called ss ps x.name cs) ≡ fitting l own x cs
      → fitting l own x (cond b (c ∷ called ss ps x.name cs) (called ss ps x.name cs)) ≡ fitting l own x (c ∷ cs)
  called_step own x c cs true h ih = ap (λ ds. cond (fits own x (defined_by l c)) (c ∷ ds) ds) ih
  called_step own x c cs false h ih = rw (not_called own x c h) ih

  -- what fits is among what has the name
  pub fitting_called : (own : Bool) (x : PlainNameArity) (cs : List Candidate) → fitting l own x (called ss ps x.name cs) ≡ fitting l own x cs
  fitting_called own x [] = refl
  fitting_called own x (c ∷ cs) = called_step own x c cs (is_called x.name (name_at ss ps c)) refl (fitting_called own x cs)

-- one more module's index
pub one_more_index : (ss ps : List Named) (index now : List (Index Candidate)) (i : Index Candidate) (done after : List (List Candidate)) (cs : List Candidate) → IsIndex ss ps index done → length index ≡ length done → now ≡ index ++ i ∷ [] → after ≡ done ++ cs ∷ []
    → ((w : List ℕ) → listed i w ≡ called ss ps w cs) → IsIndex ss ps now after
one_more_index ss ps index now i done after cs is n e f h j w = rw (e, f) (at_place index done j is n)
  where
    at_place : (index : List (Index Candidate)) (done : List (List Candidate)) (j : ℕ) → IsIndex ss ps index done → length index ≡ length done → listed (get_or (index ++ i ∷ []) j []) w ≡ called ss ps w (get_or (done ++ cs ∷ []) j [])
    at_place [] [] zero is n = h w
    at_place [] [] (suc j) is n = refl
    at_place [] (d ∷ ds) j is n = absurd (omega (arith, n))
    at_place (x ∷ xs) [] j is n = absurd (omega (arith, n))
    at_place (x ∷ xs) (d ∷ ds) zero is n = is 0 w
    at_place (x ∷ xs) (d ∷ ds) (suc j) is n = at_place xs ds j (λ k v. is (suc k) v) (omega (arith, n))
