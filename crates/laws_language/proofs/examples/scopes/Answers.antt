use Rattle.std.proofs.Common.{[], ◌∷◌, refl, inl, ⊎_elim}
use Rattle.laws_language.proofs.AcceptedBranches.{apart_lists}
use Rattle.laws_language.proofs.ListInsts.{apart}
use Rattle.laws_language.proofs.examples.scopes.Goals as goal

pub returns-clause-negations : goal.returns-clause-negations
returns-clause-negations c = (refl, refl, refl, refl, (λ e. cc))

pub returns-clause-conditions : goal.returns-clause-conditions
returns-clause-conditions c = (refl, refl, refl, refl, (λ e. cc))

pub returns-clause-written : goal.returns-clause-written
returns-clause-written c = (
  ((λ x h. h), ((λ x h k. k), tt)),
  (λ h. h.0 0 (inl refl)),
  ((λ x h. h), tt),
  (λ h. h.1.0 0 (inl refl) (inl refl)),
  (((λ x h k. k), tt), (tt, tt)),
  (λ h. h.0.0 0 (inl refl) (inl refl)),
  ((λ x h k. k), (λ x h. h), tt, tt, tt),
  (λ h. h.1 0 (inl refl)),
)

pub returns-clause-nested : goal.returns-clause-nested
returns-clause-nested c = (
  refl,
  ((λ x h. h), ((λ x h k. k), (((λ x h. absurd h), ((λ x h k. k), tt)), (tt, tt)))),
  refl,
  ((λ x h k. k), (λ x h. h), (((λ x h. absurd h), (apart_lists (0 ∷ []) (1 ∷ []) refl, tt)), (tt, tt)), tt, tt),
  ((λ x h k. k), ((λ x h. h), tt)),
  (λ h. ⊎_elim (λ e. apart 0 1 refl e) (λ i. i) (h.1.0 0 (inl refl))),
)
