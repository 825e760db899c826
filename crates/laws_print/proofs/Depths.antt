-- The term of a value is no deeper than the value.
use Rattle.std.proofs.Common.{ℕ, ◌+◌, ◌≤◌, Bool, true, false, cond, List, [], ◌∷◌, arith}
use Rattle.std.specs.Prelude.{max, nat_eq, codes}
use Rattle.std.specs.Cmp.Lexicographic.{pointwise}
use Rattle.mc_program.specs.Values.{Val, int, char, str, con, state, Vals, no_vals, val_then}
use Rattle.mc_program.specs.Printed.{name_at, is_nil}
use Rattle.mc_term_data.specs.Plain.{PlainTerm, PlainNode, PlainTerms, at, Var, Int, Str, App, Items, Tailed, Conj, Disj, no_term, more_terms}
use Rattle.laws_print.specs.Terms.{cell, applied, term_of, terms_of, depth_of, node_depth, deepest, levels, most_levels}

cell_deep : (h t : PlainTerm) → node_depth (cell h t) ≤ 1 + max (depth_of h) (max (depth_of t) 0)
cell_deep h (at (Items ts) l) = omega arith
cell_deep h (at (Tailed ts t) l) = omega arith
cell_deep h (at (Var w) l) = omega arith
cell_deep h (at (Int n) l) = omega arith
cell_deep h (at (Str s) l) = omega arith
cell_deep h (at (App w ts) l) = omega arith
cell_deep h (at (Conj ts) l) = omega arith
cell_deep h (at (Disj ts) l) = omega arith

no_deeper : (b : Bool) (m n : PlainNode) (k : ℕ) → node_depth m ≤ k → node_depth n ≤ k → node_depth (cond b m n) ≤ k
no_deeper true m n k f g = f
no_deeper false m n k f g = g

applied_deep : (name : List ℕ) (ts : PlainTerms) → node_depth (applied name ts) ≤ 1 + deepest ts
applied_deep name no_term = no_deeper (is_nil name) (Items no_term) (App (name ∷ []) no_term) 1 (omega arith) (omega arith)
applied_deep name (more_terms t no_term) = omega arith
applied_deep name (more_terms t (more_terms u no_term)) =
    no_deeper (pointwise nat_eq name (codes "[|]")) (cell t u) (App (name ∷ []) (more_terms t (more_terms u no_term))) _ (cell_deep t u) (omega arith)
applied_deep name (more_terms t (more_terms u (more_terms v ts))) = omega arith

module _ (names : List (List ℕ)) (line : ℕ) where
  mutual
    pub term_deep : (v : Val) → depth_of (term_of names line v) ≤ levels v
    term_deep (int n) = omega arith
    term_deep (char c) = omega arith
    term_deep (str bytes) = omega arith
    term_deep (con symbol args) = let top = applied_deep (name_at names symbol) (terms_of names line args) in let below = terms_deep args in omega arith
    term_deep (state written taken) = omega arith

    terms_deep : (vs : Vals) → deepest (terms_of names line vs) ≤ most_levels vs
    terms_deep no_vals = omega arith
    terms_deep (val_then v vs) = let first = term_deep v in let others = terms_deep vs in omega arith
