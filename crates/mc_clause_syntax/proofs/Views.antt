-- The plain view of a list that has a tail.
use Rattle.std.proofs.Common.{◌≡◌, map, Some, Option, Box, List, ap, ◌∙◌, sym}
use Rattle.mc_term_data.specs.Plain.{plain_term, plain_node, node_step, term_step, PlainNode, PlainTerm, term_list, at, Tailed}
use Rattle.mc_term_data.specs.declared.term.Term.{Term}
use Rattle.mc_term_data.specs.declared.term.Node.TheVariants as N
use Rattle.mc_term_data.specs.declared.term.Node.TheVariants.{rolls-List}
use Rattle.mc_term_data.specs.declared.term.Node.TheOpen as O
use Rattle.mc_term_data.specs.declared.term.Node.TheFolds.{fold-roll-Node, fold-roll-Term}
use Rattle.std.specs.declared.alloc.Global.{Global}

plain_term-open : (t : Term) → plain_term t ≡ at (plain_node t.node) t.line
plain_term-open t = fold-roll-Term PlainNode PlainTerm node_step term_step (record { node = t.node; line = t.line })

plain_node-tailed : (xs : List Term) (b : Box Term Global) → plain_node (N.List xs (Some b)) ≡ Tailed (term_list (map plain_term xs)) (plain_term b.value)
plain_node-tailed xs b = ap plain_node (sym (rolls-List xs (Some b))) ∙ fold-roll-Node PlainNode PlainTerm node_step term_step (O.List xs (Some b))

pub plain_term-tailed : (t : Term) (xs : List Term) (u : Option (Box Term Global)) (b : Box Term Global) → t.node ≡ N.List xs u → u ≡ Some b
    → plain_term t ≡ at (Tailed (term_list (map plain_term xs)) (plain_term b.value)) t.line
plain_term-tailed t xs u b e h =
    plain_term-open t ∙ ap (λ n. at n t.line) (ap plain_node (e ∙ ap (N.List xs) h) ∙ plain_node-tailed xs b)
