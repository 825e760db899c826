-- Goals that are names over parts, by those parts.
use Rattle.std.proofs.Common.{◌≡◌, ℕ, ◌≤◌, ◌<◌, ◌+◌, Bool, true, List, [], ◌∷◌, length, map, drop, get_or, refl, ap, ap₂, sym, ◌∙◌, arith}
use Rattle.std.proofs.lemmas.Grind.{common_steps}
use denote.Param.Weighed.{most}
use Rattle.mc_term_data.specs.Plain.{PlainTerm, PlainTerms, at, App, plain_term, term_list}
use Rattle.mc_term_data.specs.Names.{count}
use Rattle.mc_term_data.specs.declared.term.Term.{Term, size-Term}
use Rattle.mc_term_data.specs.declared.term.Node.{size-Node}
use Rattle.mc_term_data.specs.declared.term.Node.TheVariants as N
use Rattle.mc_term_data.specs.declared.term.Node.TheViews.{sized-App, size_is-Term}
use Rattle.mc_clause_syntax.specs.declared.goal_form.GoalForm.{GoalForm}
use Rattle.mc_clause_syntax.specs.declared.goal_form.GoalForm.TheVariants as G
use Rattle.mc_clause_syntax.specs.GoalForms.{goal_form}
use Rattle.mc_state_variables.specs.Updates.{updated}
use Rattle.mc_state_variables.specs.Numbered.{Goal, goal_of, goals_of, goal_by, unquantified, quantified_condition}
use Rattle.mc_state_variables.specs.declared.branches.Branch.{Branch}
use Rattle.mc_state_variables.specs.declared.branches.Branch.TheVariants.{Conditional, Behind, Plain}
use Rattle.mc_state_variables.specs.code.Branches.{IsSmaller}
use Rattle.mc_state_variables.proofs.Closing.{plain_app}
use Rattle.mc_state_variables.proofs.ByForm.{short_condition}

pub two_items : (ts : List Term) (a b : Term) → 2 ≤ length ts → a ≡ get_or ts 0 a → b ≡ get_or ts 1 b → ts ≡ a ∷ b ∷ drop 2 ts
two_items [] a b h e f = absurd (omega arith)
two_items (t ∷ []) a b h e f = absurd (omega arith)
two_items (t ∷ u ∷ ts) a b h e f = ap₂ (λ x y. x ∷ y ∷ ts) (sym e) (sym f)

-- what a name over parts is, in its form
in_form : (t : Term) (w : List (List ℕ)) (xs : List Term) (f : GoalForm) → t.node ≡ N.App w xs → goal_form w (count (term_list (map plain_term xs))) ≡ f
    → goal_of (plain_term t) ≡ goal_by f (updated (at (App w (term_list (map plain_term xs))) t.line)) w t.line (term_list (map plain_term xs)) (goals_of (term_list (map plain_term xs)))
in_form t w xs f n e =
    ap goal_of (plain_app t w xs n)
    ∙ ap (λ g. goal_by g (updated (at (App w (term_list (map plain_term xs))) t.line)) w t.line (term_list (map plain_term xs)) (goals_of (term_list (map plain_term xs)))) e

-- a condition that has the form of a quantified one, with too few parts or with both
pub short_is_whole : (t : Term) (w : List (List ℕ)) (xs : List Term) → t.node ≡ N.App w xs → goal_form w (count (term_list (map plain_term xs))) ≡ G.Existential → length xs < 2
    → unquantified (goal_of (plain_term t)).part ≡ (goal_of (plain_term t)).condition
short_is_whole t w xs n e h =
    let is = in_form t w xs G.Existential n e in
    ap (λ (g : Goal). unquantified g.part) is ∙ short_condition (updated (at (App w (term_list (map plain_term xs))) t.line)) w t.line xs h ∙ ap (λ (g : Goal). g.condition) (sym is)

pub both_are_quantified : (t : Term) (w : List (List ℕ)) (xs rest : List Term) (q g : Term) → t.node ≡ N.App w xs → goal_form w (count (term_list (map plain_term xs))) ≡ G.Existential → xs ≡ q ∷ g ∷ rest
    → quantified_condition t.line (plain_term q) (goal_of (plain_term g)).part ≡ (goal_of (plain_term t)).condition
both_are_quantified t w xs rest q g n e h =
    let us = updated (at (App w (term_list (map plain_term xs))) t.line) in
    ap (λ (ys : List Term). (goal_by G.Existential us w t.line (term_list (map plain_term ys)) (goals_of (term_list (map plain_term ys)))).condition) (sym h)
    ∙ ap (λ (d : Goal). d.condition) (sym (in_form t w xs G.Existential n e))

pub smaller_more : (b : Branch) (m n : ℕ) → m ≤ n → IsSmaller b m → IsSmaller b n
smaller_more (Conditional x y) m n h s = (omega (arith, s.0), omega (arith, s.1))
smaller_more (Behind x) m n h s = omega (arith, s)
smaller_more Plain m n h s = tt

-- a name over parts is larger than each of them
pub app_above : (t : Term) (w : List (List ℕ)) (xs : List Term) → t.node ≡ N.App w xs → most size-Term xs + 1 ≤ size-Term t
app_above t w xs e =
    let z : size-Node t.node ≡ size-Node (N.App w xs) = ap size-Node e in grind (arith, common_steps, z, sized-App w xs, size_is-Term)
