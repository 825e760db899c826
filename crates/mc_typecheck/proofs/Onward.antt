-- Steps one after the other.
use Rattle.std.proofs.Common.{◌≡◌, ℕ, zero, suc, ◌+◌, ◌<◌, List, [], ◌∷◌, ◌++◌, length, take, get_or, refl, sym, ap, subst, ◌∙◌, arith}
use Rattle.std.proofs.lemmas.List.{take_more}
use Rattle.mc_program.specs.Programs.{Source}
use Rattle.mc_accepted.specs.ProperTypes.{Parameters}
use Rattle.mc_accepted.specs.Resolving.{Step}
use Rattle.mc_typecheck.specs.Walked.{Stand, ShowsStep, ShowsAll, after, after_all}
use Rattle.mc_typecheck.specs.declared.table.Signatures.{Signatures}

module _ (P : Source) (D : Parameters) where
  -- what a table has for all steps, it has for each
  pub shows_at : (t : Signatures) (steps : List Step) (k : ℕ) (d : Step) → k < length steps → ShowsAll P D t steps → ShowsStep P D t (get_or steps k d)
  shows_at t [] k d lt h = let none : ⊥ = omega arith in absurd none
  shows_at t (s ∷ steps) zero d lt h = h.0
  shows_at t (s ∷ steps) (suc k) d lt h = shows_at t steps k d (omega arith) h.1

  pub after_both : (a b : List Step) (s : Stand) → after_all P D (a ++ b) s ≡ after_all P D b (after_all P D a s)
  after_both [] b s = refl
  after_both (x ∷ a) b s = after_both a b (after P D x s)

  -- where a walk stands after one step more
  pub after_more : (steps : List Step) (k : ℕ) (d : Step) (s : Stand) → k < length steps → after_all P D (take (k + 1) steps) s ≡ after P D (get_or steps k d) (after_all P D (take k steps) s)
  after_more steps k d s lt = ap (λ xs. after_all P D xs s) (take_more steps k d lt) ∙ after_both (take k steps) (get_or steps k d ∷ []) s

  pub stands_more : (At After : Stand → Type 0) (t : Signatures) (steps : List Step) (k : ℕ) (d : Step) (s : Stand) → k < length steps → ShowsAll P D t steps → ((x : Stand) → ShowsStep P D t (get_or steps k d) → At x → After (after P D (get_or steps k d) x)) → At (after_all P D (take k steps) s) → After (after_all P D (take (k + 1) steps) s)
  stands_more At After t steps k d s lt shows takes at = subst After (sym (after_more steps k d s lt)) (takes (after_all P D (take k steps) s) (shows_at t steps k d lt shows) at)
