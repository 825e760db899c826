-- Whether there are meanings, by how many there are.
use Rattle.std.proofs.Common.{◌≡◌, ℕ, ◌+◌, ◌<◌, suc, zero, Bool, true, false, cond, nat_eq, nat_lt, ◌&&◌, ◌||◌, not, List, [], ◌∷◌, length, Option, Some, None, refl, ap, sym, ◌∙◌, arith}
use Rattle.std.specs.Set.{is_member}
use Rattle.std.proofs.Math.Dec.{eqb-suc-zero}
use Rattle.mc_names.specs.declared.definition.Kind.{Kind}
use Rattle.mc_names.specs.Plain.{PlainOccurrence, joined}
use Rattle.mc_decl_syntax.specs.Entries.{File}
use Rattle.mc_modules.specs.Visible.{module_of, seen, unqualified, among, searched, is_qualified, is_builtin, has_definition, how_many, meanings_as}

one_more : (n : ℕ) → nat_eq (1 + n) 0 ≡ false
one_more n = let e : 1 + n ≡ suc n = omega arith in rw e (eqb-suc-zero n)

pub some_more : (n : ℕ) → true ≡ not (nat_eq (1 + n) 0)
some_more n = ap not (sym (one_more n))

pub some_or : (b : Bool) (n : ℕ) → not (nat_eq (cond b 1 0 + n) 0) ≡ (b || not (nat_eq n 0))
some_or true n = sym (some_more n)
some_or false n = let e : 0 + n ≡ n = omega arith in rw e refl

pub some_sum : (m n : ℕ) → not (nat_eq (m + n) 0) ≡ (not (nat_eq m 0) || not (nat_eq n 0))
some_sum zero n = let e : 0 + n ≡ n = omega arith in rw e refl
some_sum (suc m) n = let e : suc m + n ≡ suc (m + n) = omega arith in rw (e, eqb-suc-zero (m + n), eqb-suc-zero m) refl

pub some_one : (b : Bool) → not (nat_eq (cond b 1 0) 0) ≡ b
some_one true = refl
some_one false = refl

some_only : (b : Bool) → not (nat_eq (0 + (cond b 1 0 + 0)) 0) ≡ b
some_only true = refl
some_only false = refl

-- a term's name: a constructor, a function or a character
pub some_symbol : (m n : ℕ) (b : Bool) → not (nat_eq (m + (n + cond b 1 0)) 0) ≡ (not (nat_eq m 0) || (not (nat_eq n 0) || b))
some_symbol m n b = some_sum m (n + cond b 1 0) ∙ ap (λ x. not (nat_eq m 0) || x) (some_sum n (cond b 1 0) ∙ ap (λ x. not (nat_eq n 0) || x) (some_one b))

module _ (files : List File) (own : ℕ) (k : Kind) (u : PlainOccurrence) where
  pub found_unqualified : u.qualifiers ≡ [] → not (nat_eq (meanings_as files own k u) 0) ≡ (is_builtin k u.id || not (nat_eq (how_many files own k u.id (unqualified files own)) 0))
  found_unqualified e =
      ap (λ qs. not (nat_eq (cond (not (is_qualified qs) && is_builtin k u.id) 1 0 + how_many files own k u.id (searched files own qs)) 0)) e
      ∙ some_or (is_builtin k u.id) (how_many files own k u.id (unqualified files own))

  of_qualified : (qs : List (List ℕ)) → 0 < length qs → (m : Option ℕ) → module_of files (joined qs) ≡ m
      → not (nat_eq (cond (not (is_qualified qs) && is_builtin k u.id) 1 0 + how_many files own k u.id (searched files own qs)) 0)
      ≡ not (nat_eq (0 + how_many files own k u.id (among m (seen files own))) 0)
  of_qualified [] h m e = absurd (omega arith)
  of_qualified (q ∷ qs) h m e = ap (λ n. not (nat_eq (0 + how_many files own k u.id (among n (seen files own))) 0)) e

  pub found_none : 0 < length u.qualifiers → module_of files (joined u.qualifiers) ≡ None → not (nat_eq (meanings_as files own k u) 0) ≡ false
  found_none h e = of_qualified u.qualifiers h None e

  pub found_in : (j : ℕ) (b : Bool) → 0 < length u.qualifiers → module_of files (joined u.qualifiers) ≡ Some j → is_member nat_eq (seen files own) j ≡ b → not (nat_eq (meanings_as files own k u) 0) ≡ (b && has_definition files own k u.id j)
  found_in j b h e f =
      of_qualified u.qualifiers h (Some j) e
      ∙ ap (λ c. not (nat_eq (0 + how_many files own k u.id (cond c (j ∷ []) [])) 0)) f ∙ by b
    where
      by : (c : Bool) → not (nat_eq (0 + how_many files own k u.id (cond c (j ∷ []) [])) 0) ≡ (c && has_definition files own k u.id j)
      by true = some_only (has_definition files own k u.id j)
      by false = refl

-- more than one meaning
pub two_or : (b : Bool) (n : ℕ) → nat_lt 1 (cond b 1 0 + n) ≡ cond b (nat_lt 0 n) (nat_lt 1 n)
two_or true n = grind arith
two_or false n = let e : 0 + n ≡ n = omega arith in rw e refl

pub not_empty : {A : Type 0} (xs : List A) → (xs ≡ [] → ⊥) → 0 < length xs
not_empty [] h = absurd (h refl)
not_empty (x ∷ xs) h = omega arith
