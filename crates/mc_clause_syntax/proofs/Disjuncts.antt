-- A disjunction falls into the disjuncts before the last one, and that one.
use Rattle.std.proofs.Common.{◌≡◌, ◌+◌, ◌-◌, ◌≤◌, true, ◌&&◌, List, [], ◌∷◌, ◌++◌, length, map, take, get_or, refl, ap, sym, ◌∙◌, arith}
use Rattle.std.proofs.lemmas.List.{take_more, take_all}
use Rattle.std.proofs.Math.Bool.{and_assoc}
use Rattle.mc_term_data.specs.Plain.{plain_term, term_list}
use Rattle.mc_term_data.specs.declared.term.Term.{Term}
use Rattle.mc_clause_syntax.specs.declared.goal_form.GoalContext.TheVariants.{Whole, Disjunct}
use Rattle.mc_clause_syntax.specs.Goals.{is_goal, are_goals, are_disjuncts}

front_last : (ts : List Term) (last : Term) → 1 ≤ length ts → last ≡ get_or ts (length ts - 1) last → ts ≡ take (length ts - 1) ts ++ (last ∷ [])
front_last ts last le e =
    let n = length ts - 1 in
    let whole : take (n + 1) ts ≡ ts = take_all (n + 1) ts (omega arith) in
    sym whole ∙ take_more ts n last (omega arith) ∙ ap (λ y. take n ts ++ (y ∷ [])) (sym e)

joined : (front : List Term) (last : Term) → are_disjuncts (term_list (map plain_term (front ++ (last ∷ [])))) ≡ (are_goals Disjunct (term_list (map plain_term front)) && is_goal Whole (plain_term last))
joined [] last = refl
joined (t ∷ []) last = sym (and_assoc (is_goal Disjunct (plain_term t)) true (is_goal Whole (plain_term last)))
joined (t ∷ u ∷ front) last =
    ap (λ b. is_goal Disjunct (plain_term t) && b) (joined (u ∷ front) last) ∙ sym (and_assoc (is_goal Disjunct (plain_term t)) (are_goals Disjunct (term_list (map plain_term (u ∷ front)))) (is_goal Whole (plain_term last)))

pub are_disjuncts-front_last : (ts : List Term) (last : Term) → 1 ≤ length ts → last ≡ get_or ts (length ts - 1) last
    → are_disjuncts (term_list (map plain_term ts)) ≡ (are_goals Disjunct (term_list (map plain_term (take (length ts - 1) ts))) && is_goal Whole (plain_term last))
are_disjuncts-front_last ts last le e = ap (λ us. are_disjuncts (term_list (map plain_term us))) (front_last ts last le e) ∙ joined (take (length ts - 1) ts) last
