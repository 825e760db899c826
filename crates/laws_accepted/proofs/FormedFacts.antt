-- Two facts that share an arm are ordered in their switch form.
use Rattle.std.proofs.Common.{inl, inr, ℕ, [], ◌∷◌, ◌++◌, Some, refl, arith}
use Rattle.mc_model.specs.Flat as F
use Rattle.mc_model.specs.Flat.{flats, variables_of}
use Rattle.mc_model.specs.Stream.{is_bound}
use Rattle.mc_accepted.specs.Ordered as R
use Rattle.mc_accepted.specs.Ordered.{also, KeepsChanges, OrderedNode, kept, here, variables_of_node}
use Rattle.mc_accepted.specs.MergedArms.{ArmsMerge}
use Rattle.laws_language.specs.code.ExamplesOfProcedures.{list_source, list_insts, append_system}
use Rattle.laws_language.proofs.AcceptedAppend.{insts_fit}
use Rattle.laws_language.proofs.ListInsts.{apart}
use Rattle.laws_language.proofs.Merging.{one_is_merged}
use Rattle.laws_order.proofs.Arranging.{is-unset, or-second}
use Rattle.laws_order.proofs.StandingFacts.{also-off}
use Rattle.laws_accepted.specs.code.AcceptanceExamples.{fact_goal, fact_node, facts, integers, given, keeps_both, facts_switched, IsOrdered, FactsAreFormed}
use Rattle.laws_accepted.proofs.Accepting.{bound_in_head}
use Rattle.laws_accepted.proofs.Retelling.{self}
use Rattle.laws_accepted.proofs.FormedGoals.{forms_stay_ordered}

changes : KeepsChanges given (Some (also 1 1 given)) ((1, 1) ∷ [])
changes = ((λ x. refl), (omega arith, tt), (apart 0 1 refl, tt))

fact_is_ordered : (y : ℕ) → OrderedNode append_system integers (0 ∷ 1 ∷ []) (0 ∷ 1 ∷ []) given (fact_goal y) (fact_node y) (Some (also 1 1 given))
fact_is_ordered y =
    kept
    (R.conj
    (R.next {c = given} here (kept (R.test_constant (apart 1 0 refl) ((λ e. cc), tt) tt) ((λ x. refl), tt, tt))
    (R.next {c = also 1 1 given} here (kept (R.put refl) changes) R.done)))
    changes

facts_are_ordered : IsOrdered facts
facts_are_ordered =
    kept
    (R.disj (R.either {o = Some (also 1 1 given)} (fact_is_ordered 3) (R.either {o = Some (also 1 1 given)} (fact_is_ordered 2) R.no_other))
    (λ x. ((λ i. one_is_merged list_source list_insts (also 1 1 given x) 1 (integers x)), (λ out. inr (also-off 1 1 given x (λ e. out (inr (inl e))))))))
    changes

arms_merge : ArmsMerge append_system integers given facts_switched
arms_merge = (
  (
    (omega arith, tt),
    (apart 0 1 refl, tt),
    (λ x e. one_is_merged list_source list_insts (also 1 1 given x) 1 (integers x)),
    (λ x i e g. g.0),
    (λ x e. is-unset (also 1 1 given x) (or-second (is_bound (given x)) (is_bound (also 1 1 given x)) e)),
  ),
  ((tt, (tt, tt)), ((tt, (tt, tt)), tt)),
  tt,
)

pub facts_are_formed : FactsAreFormed
facts_are_formed = (
  facts_are_ordered,
  refl,
  arms_merge,
  forms_stay_ordered append_system integers (0 ∷ 1 ∷ []) (0 ∷ 1 ∷ []) given (F.Or (flats (fact_goal 3 ∷ fact_goal 2 ∷ []))) facts facts (Some (also 1 1 given)) keeps_both insts_fit facts_are_ordered (self facts) (bound_in_head (0 ∷ 1 ∷ []) (1 ∷ 0 ∷ []) (variables_of (F.Or (flats (fact_goal 3 ∷ fact_goal 2 ∷ []))) ++ variables_of_node facts)) arms_merge,
  (λ e. cc),
)
