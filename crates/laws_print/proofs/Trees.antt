-- The trees of values: as terms, their depth, and that no number is too large.
use Rattle.std.proofs.Common.{◌≡◌, ℕ, suc, ◌+◌, ◌^◌, Bool, true, false, cond, List, [], ◌∷◌, refl, sym, ap, ◌∙◌, arith, ℤ, pos, negsuc, Option, Some, None}
use Rattle.std.specs.Prelude.{max, nat_eq, codes, encode_utf8}
use Rattle.std.specs.Cmp.Lexicographic.{pointwise}
use Rattle.std.proofs.lemmas.Bool.{lt-ltb, le-leb}
use Rattle.mc_program.specs.Values.{Val, int, char, str, con, state, Vals, no_vals, val_then}
use Rattle.mc_program.specs.Printed.{name_at, is_nil}
use Rattle.mc_tokens.proofs.Quotes.{yes}
use Rattle.mc_term_data.specs.Plain as P
use Rattle.mc_term_data.specs.Plain.{PlainTerm, PlainTerms, at, no_term, more_terms}
use Rattle.mc_term_parser.specs.Tree.{Tree, Var, Int, Neg, Str, App, Items, Tailed, Conj, Disj, Inside, no_tree, more_trees, trees, depth, deepest, too_large, first_large, or_else, term, terms}
use Rattle.laws_print.specs.Terms as T
use Rattle.laws_print.specs.Terms.{cell, applied, term_of, terms_of, depth_of, HasText, AllHaveText, Is64}

-- a term without brackets around it
abbrev is_open : Tree → Bool
is_open (Inside l t) = false
is_open _ = true

-- The tree stands for the term: as deep, without brackets around it, and with no number too large.
pub record Stands (t : Tree) (u : PlainTerm) : Type 0 where
  pub same : term t ≡ u
  pub deep : depth t ≡ depth_of u
  pub fits : too_large t ≡ None
  pub bare : is_open t ≡ true

abbrev pub AllStand : List Tree → PlainTerms → Type 0
AllStand [] no_term = Unit {0}
AllStand (t ∷ ts) (more_terms u us) = Stands t u × AllStand ts us
AllStand _ _ = ⊥

module _ (line : ℕ) where
  abbrev pub cell_tree : Tree → Tree → Tree
  cell_tree h (Items l ts) = Items line (more_trees h ts)
  cell_tree h (Tailed l ts t) = Tailed line (more_trees h ts) t
  cell_tree h t = Tailed line (more_trees h no_tree) t

  abbrev pub applied_tree : List ℕ → List Tree → Tree
  applied_tree name [] = cond (is_nil name) (Items line no_tree) (App line (name ∷ []) no_tree)
  applied_tree name (h ∷ t ∷ []) = cond (pointwise nat_eq name (codes "[|]")) (cell_tree h t) (App line (name ∷ []) (trees (h ∷ t ∷ [])))
  applied_tree name ts = App line (name ∷ []) (trees ts)

  abbrev pub integer_tree : ℤ → Tree
  integer_tree (pos n) = Int line n
  integer_tree (negsuc n) = Neg line (suc n)

  module _ (names : List (List ℕ)) where
    abbrev mutual
      pub tree_of : Val → Tree
      tree_of (int n) = integer_tree n
      tree_of (char c) = App line (encode_utf8 c ∷ []) no_tree
      tree_of (str bytes) = Str line bytes
      tree_of (con symbol args) = applied_tree (name_at names symbol) (trees_of args)
      tree_of (state written taken) = App line (codes "state" ∷ []) no_tree

      pub trees_of : Vals → List Tree
      trees_of no_vals = []
      trees_of (val_then v vs) = tree_of v ∷ trees_of vs

  app_stands : (name : List ℕ) (ts : List Tree) (us : PlainTerms) → AllStand ts us → Stands (App line (name ∷ []) (trees ts)) (at (P.App (name ∷ []) us) line)
  app_stands name ts us h = record {
    same = ap (λ us. at (P.App (name ∷ []) us) line) (all_same ts us h);
    deep = ap (λ n. 1 + n) (all_deep ts us h);
    fits = all_fit ts us h;
    bare = refl;
  }
    where
      all_same : (ts : List Tree) (us : PlainTerms) → AllStand ts us → terms (trees ts) ≡ us
      all_same [] no_term h = refl
      all_same [] (more_terms u us) h = absurd h
      all_same (t ∷ ts) no_term h = absurd h
      all_same (t ∷ ts) (more_terms u us) h = ap (λ u. more_terms u (terms (trees ts))) h.0.same ∙ ap (more_terms u) (all_same ts us h.1)

      all_deep : (ts : List Tree) (us : PlainTerms) → AllStand ts us → deepest (trees ts) ≡ T.deepest us
      all_deep [] no_term h = refl
      all_deep [] (more_terms u us) h = absurd h
      all_deep (t ∷ ts) no_term h = absurd h
      all_deep (t ∷ ts) (more_terms u us) h = ap (λ n. max n (deepest (trees ts))) h.0.deep ∙ ap (max (depth_of u)) (all_deep ts us h.1)

      all_fit : (ts : List Tree) (us : PlainTerms) → AllStand ts us → first_large (trees ts) ≡ None
      all_fit [] no_term h = refl
      all_fit [] (more_terms u us) h = absurd h
      all_fit (t ∷ ts) no_term h = absurd h
      all_fit (t ∷ ts) (more_terms u us) h = ap (λ o. or_else o (first_large (trees ts))) h.0.fits ∙ all_fit ts us h.1

  cell_same : (h t : Tree) → is_open t ≡ true → term (cell_tree h t) ≡ at (cell (term h) (term t)) line
  cell_same h (Var l w) o = refl
  cell_same h (Int l n) o = refl
  cell_same h (Neg l n) o = refl
  cell_same h (Str l s) o = refl
  cell_same h (App l w ts) o = refl
  cell_same h (Items l ts) o = refl
  cell_same h (Tailed l ts t) o = refl
  cell_same h (Conj l ts) o = refl
  cell_same h (Disj l ts) o = refl
  cell_same h (Inside l t) o = cc

  -- how deep a list is
  cell_deep : (h t : Tree) (u : PlainTerm) → depth h ≡ depth_of u → depth t ≡ depth_of (term t) → is_open t ≡ true → depth (cell_tree h t) ≡ T.node_depth (cell u (term t))
  cell_deep h (Var l w) u d e o = ap (λ n. 1 + max (max n 0) 1) d
  cell_deep h (Int l n) u d e o = ap (λ n. 1 + max (max n 0) 1) d
  cell_deep h (Neg l n) u d e o = ap (λ n. 1 + max (max n 0) 1) d
  cell_deep h (Str l s) u d e o = ap (λ n. 1 + max (max n 0) 1) d
  cell_deep h (App l w ts) u d e o = ap (λ n. 1 + max (max n 0) (1 + deepest ts)) d ∙ ap (λ n. 1 + max (max (depth_of u) 0) n) e
  cell_deep h (Items l ts) u d e o = list_deep (deepest ts) (T.deepest (terms ts)) d e
    where
      list_deep : (m n : ℕ) → depth h ≡ depth_of u → 1 + m ≡ 1 + n → 1 + max (depth h) m ≡ 1 + max (depth_of u) n
      list_deep m n d e = ap (λ k. 1 + max k m) d ∙ (let same : m ≡ n = omega arith in ap (λ k. 1 + max (depth_of u) k) same)
  cell_deep h (Tailed l ts t) u d e o = omega (arith, d, e)
  cell_deep h (Conj l ts) u d e o = ap (λ n. 1 + max (max n 0) (1 + deepest ts)) d ∙ ap (λ n. 1 + max (max (depth_of u) 0) n) e
  cell_deep h (Disj l ts) u d e o = ap (λ n. 1 + max (max n 0) (1 + deepest ts)) d ∙ ap (λ n. 1 + max (max (depth_of u) 0) n) e
  cell_deep h (Inside l t) u d e o = cc

  none_else : (a b : Option ℕ) → a ≡ None → b ≡ None → or_else a b ≡ None
  none_else a b e f = ap (λ o. or_else o b) e ∙ f

  cell_fits : (h t : Tree) → too_large h ≡ None → too_large t ≡ None → too_large (cell_tree h t) ≡ None
  cell_fits h (Items l ts) e f = none_else (too_large h) (first_large ts) e f
  cell_fits h (Tailed l ts t) e f = ap (λ o. or_else (or_else o (first_large ts)) (too_large t)) e ∙ f
  cell_fits h (Var l w) e f = none_else (or_else (too_large h) None) None (none_else (too_large h) None e refl) refl
  cell_fits h (Int l n) e f = none_else (or_else (too_large h) None) (too_large (Int l n)) (none_else (too_large h) None e refl) f
  cell_fits h (Neg l n) e f = none_else (or_else (too_large h) None) (too_large (Neg l n)) (none_else (too_large h) None e refl) f
  cell_fits h (Str l s) e f = none_else (or_else (too_large h) None) None (none_else (too_large h) None e refl) refl
  cell_fits h (App l w ts) e f = none_else (or_else (too_large h) None) (too_large (App l w ts)) (none_else (too_large h) None e refl) f
  cell_fits h (Conj l ts) e f = none_else (or_else (too_large h) None) (too_large (Conj l ts)) (none_else (too_large h) None e refl) f
  cell_fits h (Disj l ts) e f = none_else (or_else (too_large h) None) (too_large (Disj l ts)) (none_else (too_large h) None e refl) f
  cell_fits h (Inside l t) e f = none_else (or_else (too_large h) None) (too_large (Inside l t)) (none_else (too_large h) None e refl) f

  cell_bare : (h t : Tree) → is_open (cell_tree h t) ≡ true
  cell_bare h (Items l ts) = refl
  cell_bare h (Tailed l ts t) = refl
  cell_bare h _ = refl

  cell_stands : (h t : Tree) (u v : PlainTerm) → Stands h u → Stands t v → Stands (cell_tree h t) (at (cell u v) line)
  cell_stands h t u v g k = record {
    same = cell_same h t k.bare ∙ ap (λ u. at (cell u (term t)) line) g.same ∙ ap (λ v. at (cell u v) line) k.same;
    deep = cell_deep h t u g.deep (k.deep ∙ sym (ap depth_of k.same)) k.bare ∙ ap (λ v. T.node_depth (cell u v)) k.same;
    fits = cell_fits h t g.fits k.fits;
    bare = cell_bare h t;
  }

  nil_stands : Stands (Items line no_tree) (at (P.Items no_term) line)
  nil_stands = record { same = refl; deep = refl; fits = refl; bare = refl }

  chosen : (b : Bool) (t s : Tree) (m n : P.PlainNode) → Stands t (at m line) → Stands s (at n line) → Stands (cond b t s) (at (cond b m n) line)
  chosen true t s m n g k = g
  chosen false t s m n g k = k

  applied_stands : (name : List ℕ) (ts : List Tree) (us : PlainTerms) → AllStand ts us → Stands (applied_tree name ts) (at (applied name us) line)
  applied_stands name [] no_term h = chosen (is_nil name) (Items line no_tree) (App line (name ∷ []) no_tree) (P.Items no_term) (P.App (name ∷ []) no_term) nil_stands (app_stands name [] no_term h)
  applied_stands name [] (more_terms u us) h = absurd h
  applied_stands name (t ∷ ts) no_term h = absurd h
  applied_stands name (t ∷ []) (more_terms u no_term) h = app_stands name (t ∷ []) (more_terms u no_term) h
  applied_stands name (t ∷ []) (more_terms u (more_terms v us)) h = absurd h.1
  applied_stands name (t ∷ s ∷ ts) (more_terms u no_term) h = absurd h.1
  applied_stands name (t ∷ s ∷ []) (more_terms u (more_terms v no_term)) h =
      chosen (pointwise nat_eq name (codes "[|]")) (cell_tree t s) (App line (name ∷ []) (trees (t ∷ s ∷ []))) (cell u v) (P.App (name ∷ []) (more_terms u (more_terms v no_term)))
      (cell_stands t s u v h.0 h.1.0) (app_stands name (t ∷ s ∷ []) (more_terms u (more_terms v no_term)) h)
  applied_stands name (t ∷ s ∷ []) (more_terms u (more_terms v (more_terms w us))) h = absurd h.1.1
  applied_stands name (t ∷ s ∷ r ∷ ts) (more_terms u (more_terms v no_term)) h = absurd h.1.1
  applied_stands name (t ∷ s ∷ r ∷ ts) (more_terms u (more_terms v (more_terms w us))) h = app_stands name (t ∷ s ∷ r ∷ ts) (more_terms u (more_terms v (more_terms w us))) h

  integer_stands : (n : ℤ) → Is64 n → Stands (integer_tree n) (at (P.Int n) line)
  integer_stands (pos n) lt = record { same = refl; deep = refl; fits = yes (Some line) (lt-ltb n (2 ^ 63) lt); bare = refl }
  integer_stands (negsuc n) lt = record { same = refl; deep = refl; fits = yes (Some line) (le-leb (suc n) (2 ^ 63) lt); bare = refl }

  module _ (names : List (List ℕ)) where
    mutual
      pub value_stands : (v : Val) → HasText names v → Stands (tree_of names v) (term_of names line v)
      value_stands (int n) h = integer_stands n h
      value_stands (char c) h = app_stands (encode_utf8 c) [] no_term tt
      value_stands (str bytes) h = record { same = refl; deep = refl; fits = refl; bare = refl }
      value_stands (con symbol args) h = applied_stands (name_at names symbol) (trees_of names args) (terms_of names line args) (values_stand args h.1)
      value_stands (state written taken) h = app_stands (codes "state") [] no_term tt

      pub values_stand : (vs : Vals) → AllHaveText names vs → AllStand (trees_of names vs) (terms_of names line vs)
      values_stand no_vals h = tt
      values_stand (val_then v vs) h = (value_stands v h.0, values_stand vs h.1)
