-- Names that are put in one after another: whether they are distinct, and what the rest adds.
use Rattle.std.proofs.Common.{◌≡◌, ℕ, List, [], ◌∷◌, ◌++◌, Bool, true, false, not, ◌&&◌, ◌||◌, Some, None, refl, append_assoc, codes}
use Rattle.std.specs.Str.{bytes_eq}
use Rattle.std.specs.Set.{is_member}
use Rattle.std.proofs.lemmas.Cmp.{nat_list_eq_equiv}
use Rattle.std.proofs.lemmas.List.Folds.{list_any-append}
use Rattle.std.proofs.lemmas.List.{append-nil}
use Rattle.std.proofs.Math.Bool.{and-false}
use Rattle.mc_base.proofs.Booleans.{left_true, right_true, left_false, right_false}
use Rattle.mc_term_data.specs.Plain.{PlainTerm, PlainTerms, no_term, more_terms}
use Rattle.mc_term_data.specs.Shapes.{variable}
use Rattle.mc_decl_syntax.specs.Terms.{are_variables, names_in, is_distinct}
use Rattle.mc_decl_syntax.specs.code.Steps.{parameters_with}

turned : (x y : List ℕ) → bytes_eq x y ≡ bytes_eq y x
turned = nat_list_eq_equiv.symm

member_append : (ns : List (List ℕ)) (y x : List ℕ) (ys : List (List ℕ)) → is_member bytes_eq (ns ++ (x ∷ ys)) y ≡ (is_member bytes_eq ns y || (bytes_eq y x || is_member bytes_eq ys y))
member_append ns y x ys = list_any-append (bytes_eq y) ns (x ∷ ys)

-- a name that is equal to one after it, or else a clash among those
clash_at : (a b m p q d : Bool) → a ≡ b → q ≡ (p || (b || m)) → (a ≡ false → d ≡ false) → not q && d ≡ false
clash_at true b m true q d e f g = rw f refl
clash_at true b m false q d e f g = rw (f, ← e) refl
clash_at false b m p q d e f g = rw (g refl) (and-false (not q))

pub clash : (ns ys : List (List ℕ)) (x : List ℕ) → is_member bytes_eq ns x ≡ true → is_distinct (ns ++ (x ∷ ys)) ≡ false
clash [] ys x h = cc
clash (y ∷ ns) ys x h =
    clash_at (bytes_eq x y) (bytes_eq y x) (is_member bytes_eq ys y) (is_member bytes_eq ns y) _ _ (turned x y) (member_append ns y x ys)
    (λ e. clash ns ys x (rest (bytes_eq x y) (is_member bytes_eq ns x) e h))
  where
    rest : (a m : Bool) → a ≡ false → (a || m) ≡ true → m ≡ true
    rest true m e h = cc
    rest false m e h = h

fresh_at : (a b p q d : Bool) → a ≡ b → q ≡ (p || (b || false)) → not p ≡ true → a ≡ false → d ≡ true → not q && d ≡ true
fresh_at true b p q d e f g h k = cc
fresh_at false b true q d e f g h k = cc
fresh_at false b false q d e f g h k = rw (f, ← e, k) refl

pub fresh : (ns : List (List ℕ)) (x : List ℕ) → is_distinct ns ≡ true → is_member bytes_eq ns x ≡ false → is_distinct (ns ++ (x ∷ [])) ≡ true
fresh [] x d m = refl
fresh (y ∷ ns) x d m =
    fresh_at (bytes_eq x y) (bytes_eq y x) (is_member bytes_eq ns y) _ _ (turned x y) (member_append ns y x [])
    (left_true _ _ d) (left_false _ _ m) (fresh ns x (right_true _ _ d) (right_false _ _ m))

pub with_unnamed : (names : List (List ℕ)) (t : PlainTerm) (x : List ℕ) (ts : PlainTerms) → Some x ≡ variable t → bytes_eq x (codes "_") ≡ true → parameters_with names (more_terms t ts) ≡ parameters_with names ts
with_unnamed names t x ts v u = rw (← v, u) refl

pub with_new : (names : List (List ℕ)) (t : PlainTerm) (x : List ℕ) (ts : PlainTerms) → Some x ≡ variable t → bytes_eq x (codes "_") ≡ false → parameters_with names (more_terms t ts) ≡ parameters_with (names ++ (x ∷ [])) ts
with_new names t x ts v u = rw (← v, u, append_assoc names (x ∷ []) (names_in ts)) refl

pub with_old : (names : List (List ℕ)) (t : PlainTerm) (x : List ℕ) (ts : PlainTerms) → Some x ≡ variable t → bytes_eq x (codes "_") ≡ false → is_member bytes_eq names x ≡ true → parameters_with names (more_terms t ts) ≡ None
with_old names t x ts v u m = rw (← v, u, clash names (names_in ts) x m, and-false (are_variables ts)) refl

pub with_other : (names : List (List ℕ)) (t : PlainTerm) (ts : PlainTerms) → None ≡ variable t → parameters_with names (more_terms t ts) ≡ None
with_other names t ts v = rw (← v) refl

pub with_none : (names : List (List ℕ)) → is_distinct names ≡ true → Some names ≡ parameters_with names no_term
with_none names d = rw (append-nil names, d) refl
