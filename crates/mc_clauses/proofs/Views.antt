-- The plain views of terms.
use Rattle.std.proofs.Common.{◌≡◌, ℕ, map, Some, None, Option, Box, List, ap, ◌∙◌, sym}
use Rattle.mc_term_data.specs.Plain.{plain_term, plain_node, node_step, term_step, PlainNode, PlainTerm, term_list, at, Var, App, Items, Tailed, Conj, Disj}
use Rattle.std.specs.declared.alloc.Global.{Global}
use Rattle.mc_term_data.specs.declared.term.Term.{Term}
use Rattle.mc_term_data.specs.declared.term.Node.{Node}
use Rattle.mc_term_data.specs.declared.term.Node.TheVariants as N
use Rattle.mc_term_data.specs.declared.term.Node.TheVariants.{rolls-Var, rolls-App, rolls-List, rolls-Conj, rolls-Disj}
use Rattle.mc_term_data.specs.declared.term.Node.TheOpen as O
use Rattle.mc_term_data.specs.declared.term.Node.TheFolds.{fold-roll-Node, fold-roll-Term}

plain_term-open : (t : Term) → plain_term t ≡ at (plain_node t.node) t.line
plain_term-open t = fold-roll-Term PlainNode PlainTerm node_step term_step (record { node = t.node; line = t.line })

plain_node-var : (w : List ℕ) → plain_node (N.Var w) ≡ Var w
plain_node-var w = ap plain_node (sym (rolls-Var w)) ∙ fold-roll-Node PlainNode PlainTerm node_step term_step (O.Var w)

pub plain_term-var : (t : Term) (w : List ℕ) → t.node ≡ N.Var w → plain_term t ≡ at (Var w) t.line
plain_term-var t w e = plain_term-open t ∙ ap (λ n. at n t.line) (ap plain_node e ∙ plain_node-var w)

plain_node-app : (w : List (List ℕ)) (ts : List Term) → plain_node (N.App w ts) ≡ App w (term_list (map plain_term ts))
plain_node-app w ts = ap plain_node (sym (rolls-App w ts)) ∙ fold-roll-Node PlainNode PlainTerm node_step term_step (O.App w ts)

pub plain_term-app : (t : Term) (w : List (List ℕ)) (ts : List Term) → t.node ≡ N.App w ts → plain_term t ≡ at (App w (term_list (map plain_term ts))) t.line
plain_term-app t w ts e = plain_term-open t ∙ ap (λ n. at n t.line) (ap plain_node e ∙ plain_node-app w ts)

plain_node-items : (ts : List Term) → plain_node (N.List ts None) ≡ Items (term_list (map plain_term ts))
plain_node-items ts = ap plain_node (sym (rolls-List ts None)) ∙ fold-roll-Node PlainNode PlainTerm node_step term_step (O.List ts None)

pub plain_term-items : (t : Term) (ts : List Term) (u : Option (Box Term Global)) → t.node ≡ N.List ts u → u ≡ None → plain_term t ≡ at (Items (term_list (map plain_term ts))) t.line
plain_term-items t ts u e h = plain_term-open t ∙ ap (λ n. at n t.line) (ap plain_node (e ∙ ap (N.List ts) h) ∙ plain_node-items ts)

plain_node-tailed : (ts : List Term) (b : Box Term Global) → plain_node (N.List ts (Some b)) ≡ Tailed (term_list (map plain_term ts)) (plain_term b.value)
plain_node-tailed ts b = ap plain_node (sym (rolls-List ts (Some b))) ∙ fold-roll-Node PlainNode PlainTerm node_step term_step (O.List ts (Some b))

pub plain_term-tailed : (t : Term) (ts : List Term) (u : Option (Box Term Global)) (b : Box Term Global) → t.node ≡ N.List ts u → u ≡ Some b → plain_term t ≡ at (Tailed (term_list (map plain_term ts)) (plain_term b.value)) t.line
plain_term-tailed t ts u b e h = plain_term-open t ∙ ap (λ n. at n t.line) (ap plain_node (e ∙ ap (N.List ts) h) ∙ plain_node-tailed ts b)

plain_node-conj : (ts : List Term) → plain_node (N.Conj ts) ≡ Conj (term_list (map plain_term ts))
plain_node-conj ts = ap plain_node (sym (rolls-Conj ts)) ∙ fold-roll-Node PlainNode PlainTerm node_step term_step (O.Conj ts)

pub plain_term-conj : (t : Term) (ts : List Term) → t.node ≡ N.Conj ts → plain_term t ≡ at (Conj (term_list (map plain_term ts))) t.line
plain_term-conj t ts e = plain_term-open t ∙ ap (λ n. at n t.line) (ap plain_node e ∙ plain_node-conj ts)

plain_node-disj : (ts : List Term) → plain_node (N.Disj ts) ≡ Disj (term_list (map plain_term ts))
plain_node-disj ts = ap plain_node (sym (rolls-Disj ts)) ∙ fold-roll-Node PlainNode PlainTerm node_step term_step (O.Disj ts)

pub plain_term-disj : (t : Term) (ts : List Term) → t.node ≡ N.Disj ts → plain_term t ≡ at (Disj (term_list (map plain_term ts))) t.line
plain_term-disj t ts e = plain_term-open t ∙ ap (λ n. at n t.line) (ap plain_node e ∙ plain_node-disj ts)
