-- How deep a term is, against what was read.
use Rattle.std.proofs.Common.{◌≡◌, ℕ, ◌≤◌, refl, arith}
use Rattle.mc_term_data.specs.Plain as P
use Rattle.mc_term_parser.specs.Tree.{Tree, Var, Int, Neg, Str, App, Items, Tailed, Conj, Disj, Inside, Trees, no_tree, more_trees, depth, deepest, term, terms, moved}

moved_depth : (l : ℕ) (t : P.PlainTerm) → P.depth (moved l t) ≡ P.depth t
moved_depth l (P.at n k) = refl

mutual
  pub no_deeper : (t : Tree) → P.depth (term t) ≤ depth t
  no_deeper (Var l w) = omega arith
  no_deeper (Int l n) = omega arith
  no_deeper (Neg l n) = omega arith
  no_deeper (Str l s) = omega arith
  no_deeper (App l w ts) = omega (arith, none_deeper ts)
  no_deeper (Items l ts) = omega (arith, none_deeper ts)
  no_deeper (Tailed l ts t) = omega (arith, none_deeper ts, no_deeper t)
  no_deeper (Conj l ts) = omega (arith, none_deeper ts)
  no_deeper (Disj l ts) = omega (arith, none_deeper ts)
  no_deeper (Inside l t) = omega (arith, moved_depth l (term t), no_deeper t)

  none_deeper : (ts : Trees) → P.deepest (terms ts) ≤ deepest ts
  none_deeper no_tree = omega arith
  none_deeper (more_trees t ts) = omega (arith, no_deeper t, none_deeper ts)
