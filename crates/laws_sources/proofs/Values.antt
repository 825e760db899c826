-- What reads as a term whose numbers 64 bits hold has values for its numbers and texts.
use Rattle.std.proofs.Common.{◌≡◌, ℕ, zero, suc, ◌<◌, ◌≤◌, ◌^◌, pos, Bool, true, false, cond, Option, Some, None, refl, arith}
use Rattle.std.specs.Prelude.{nat_lt, nat_le, FitsSigned}
use Rattle.std.specs.Int.{w64}
use Rattle.std.proofs.lemmas.Bool.{ltb-true, leb-true}
use Rattle.mc_program.specs.Programs.{Source}
use Rattle.mc_term_data.specs.Plain.{PlainTerm, at}
use Rattle.mc_term_data.specs.Plain as N
use Rattle.mc_term_parser.specs.Tree.{Tree, Var, Int, Neg, Str, App, Items, Tailed, Conj, Disj, Inside, Trees, no_tree, more_trees, or_else, too_large, first_large, minus, moved, term, terms}
use Rattle.laws_types.specs.ClauseLaws.{IsOfValues, AreOfValues}
use Rattle.laws_sources.proofs.Texts.{TreeOfTexts, TreesOfTexts}

-- NUMBERS
small : (n l : ℕ) → cond (nat_lt n (2 ^ 63)) None (Some l) ≡ None → n < 2 ^ 63
small n l = go (nat_lt n (2 ^ 63)) refl
  where
    go : (b : Bool) → nat_lt n (2 ^ 63) ≡ b → cond b None (Some l) ≡ None → n < 2 ^ 63
    go true e f = ltb-true n (2 ^ 63) e
    go false e f = cc

small_below_zero : (n l : ℕ) → cond (nat_le n (2 ^ 63)) None (Some l) ≡ None → n ≤ 2 ^ 63
small_below_zero n l = go (nat_le n (2 ^ 63)) refl
  where
    go : (b : Bool) → nat_le n (2 ^ 63) ≡ b → cond b None (Some l) ≡ None → n ≤ 2 ^ 63
    go true e f = leb-true n (2 ^ 63) e
    go false e f = cc

fits : (n : ℕ) → n < 2 ^ 63 → FitsSigned w64 (pos n)
fits n h = record { sfits = omega arith }

fits_below_zero : (n : ℕ) → n ≤ 2 ^ 63 → FitsSigned w64 (minus n)
fits_below_zero zero h = record { sfits = omega arith }
fits_below_zero (suc n) h = record { sfits = omega arith }

neither : (a b : Option ℕ) → or_else a b ≡ None → (a ≡ None) × (b ≡ None)
neither None b e = (refl, e)
neither (Some l) b e = cc

module _ (P : Source) where
  moved_values : (l : ℕ) (t : PlainTerm) → IsOfValues P t → IsOfValues P (moved l t)
  moved_values l (at (N.Var x) k) h = h
  moved_values l (at (N.Int n) k) h = h
  moved_values l (at (N.Str bytes) k) h = h
  moved_values l (at (N.App w ts) k) h = h
  moved_values l (at (N.Items ts) k) h = h
  moved_values l (at (N.Tailed ts t) k) h = h
  moved_values l (at (N.Conj ts) k) h = h
  moved_values l (at (N.Disj ts) k) h = h

  mutual
    pub tree_values : (t : Tree) → TreeOfTexts t → too_large t ≡ None → IsOfValues P (term t)
    tree_values (Var l w) h e = tt
    tree_values (Int l n) h e = (fits n (small n l e), refl)
    tree_values (Neg l n) h e = (fits_below_zero n (small_below_zero n l e), refl)
    tree_values (Str l bytes) h e = (h, refl)
    tree_values (App l w ts) h e = trees_values ts h e
    tree_values (Items l ts) h e = trees_values ts h e
    tree_values (Tailed l ts t) h e = let both = neither (first_large ts) (too_large t) e in (trees_values ts h.0 both.0, tree_values t h.1 both.1)
    tree_values (Conj l ts) h e = trees_values ts h e
    tree_values (Disj l ts) h e = trees_values ts h e
    tree_values (Inside l t) h e = moved_values l (term t) (tree_values t h e)

    trees_values : (ts : Trees) → TreesOfTexts ts → first_large ts ≡ None → AreOfValues P (terms ts)
    trees_values no_tree h e = tt
    trees_values (more_trees t ts) h e = let both = neither (too_large t) (first_large ts) e in (tree_values t h.0 both.0, trees_values ts h.1 both.1)
