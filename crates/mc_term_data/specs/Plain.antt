-- Terms as plain data, without rows and boxes (the Mercury manual, Syntax).
use Rattle.std.specs.Prelude.{ℕ, ℤ, ◌+◌, max, map, List, [], ◌∷◌, Option, Some, None}
use Rattle.mc_term_data.specs.declared.term.Term.{Term}
use Rattle.mc_term_data.specs.declared.term.Node.{Node}
use Rattle.mc_term_data.specs.declared.term.Node.TheOpen as O
use Rattle.mc_term_data.specs.declared.term.Node.TheFolds.{fold-Term, fold-Node}
use Rattle.std.specs.Prelude.{Box}
use Rattle.std.specs.declared.alloc.Global.{Global}

mutual
  -- a term, with the line of its first token
  pub data PlainTerm : Type 0 where
    at : PlainNode → (line : ℕ) → PlainTerm

  pub data PlainNode : Type 0 where
    Var : (name : List ℕ) → PlainNode
    Int : (value : ℤ) → PlainNode
    Str : (bytes : List ℕ) → PlainNode
    -- the parts of a name, over arguments
    App : (name : List (List ℕ)) → PlainTerms → PlainNode
    -- the elements of a list
    Items : PlainTerms → PlainNode
    -- the elements of a list, and what follows the bar
    Tailed : PlainTerms → PlainTerm → PlainNode
    Conj : PlainTerms → PlainNode
    Disj : PlainTerms → PlainNode

  pub data PlainTerms : Type 0 where
    no_term : PlainTerms
    more_terms : PlainTerm → PlainTerms → PlainTerms

abbrev pub term_list : List PlainTerm → PlainTerms
term_list [] = no_term
term_list (t ∷ ts) = more_terms t (term_list ts)

abbrev pub list_node : PlainTerms → Option (Box PlainTerm Global) → PlainNode
list_node ts None = Items ts
list_node ts (Some t) = Tailed ts t.value

abbrev pub node_step : O.Node-F PlainNode PlainTerm → PlainNode
node_step (O.Var w) = Var w
node_step (O.Int n) = Int n
node_step (O.Str s) = Str s
node_step (O.App w ts) = App w (term_list ts)
node_step (O.List ts t) = list_node (term_list ts) t
node_step (O.Conj ts) = Conj (term_list ts)
node_step (O.Disj ts) = Disj (term_list ts)

abbrev pub term_step : O.Term-F PlainNode PlainTerm → PlainTerm
term_step t = at t.node t.line

-- the term that a value stands for
abbrev pub plain_term : Term → PlainTerm
plain_term = fold-Term PlainNode PlainTerm node_step term_step

abbrev pub plain_node : Node → PlainNode
plain_node = fold-Node PlainNode PlainTerm node_step term_step

abbrev pub plain_terms : List Term → PlainTerms
plain_terms ts = term_list (map plain_term ts)

abbrev mutual
  -- How deep a term is: a leaf has 1, and any other term one more than its deepest part; a whole
  -- conjunction and a whole disjunction are one term. (Brackets are no part of a term.)
  pub depth : PlainTerm → ℕ
  depth (at n l) = node_depth n

  pub node_depth : PlainNode → ℕ
  node_depth (Var w) = 1
  node_depth (Int n) = 1
  node_depth (Str s) = 1
  node_depth (App w ts) = 1 + deepest ts
  node_depth (Items ts) = 1 + deepest ts
  node_depth (Tailed ts t) = 1 + max (deepest ts) (depth t)
  node_depth (Conj ts) = 1 + deepest ts
  node_depth (Disj ts) = 1 + deepest ts

  pub deepest : PlainTerms → ℕ
  deepest no_term = 0
  deepest (more_terms t ts) = max (depth t) (deepest ts)
