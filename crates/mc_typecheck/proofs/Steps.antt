-- Steps that are taken on a walk.
use Rattle.std.proofs.Common.{◌≡◌, ℕ, ◌+◌, ◌<◌, List, map, take, get_or, length, sym, subst, arith}
use Rattle.std.proofs.lemmas.List.{length-map, take_all, get_or-map}
use Rattle.mc_program.specs.Programs.{Source}
use Rattle.mc_accepted.specs.ProperTypes.{Parameters}
use Rattle.mc_accepted.specs.Resolving.{Step}
use Rattle.mc_unresolved.specs.Steps.{plain_walk_step}
use Rattle.mc_unresolved.specs.declared.steps.WalkStep.{WalkStep}
use Rattle.mc_typecheck.specs.Walked.{Stand, ShowsStep, ShowsAll, after, after_all, start}
use Rattle.mc_typecheck.specs.declared.table.Signatures.{Signatures}
use Rattle.mc_typecheck.proofs.Onward.{stands_more}

-- whatever is known of a walk where it stands
module _ {W : Type 0} (At : Source → Parameters → W → Stand → Type 0) (t : Signatures) (steps : List WalkStep) (vars : ℕ) where
  abbrev walk : List Step
  walk = map plain_walk_step steps

  -- so far the walk stands where the steps that were taken lead
  abbrev pub SoFar : ℕ → W → Type 0
  SoFar k w = (P : Source) (D : Parameters) → ShowsAll P D t (map plain_walk_step steps) → At P D w (after_all P D (take k (map plain_walk_step steps)) (start vars))

  pub taken_more : (k : ℕ) (d : WalkStep) (w w' : W) → k < length steps → ((P : Source) (D : Parameters) (s : Stand) → ShowsStep P D t (plain_walk_step (get_or steps k d)) → At P D w s → At P D w' (after P D (plain_walk_step (get_or steps k d)) s)) → SoFar k w → SoFar (k + 1) w'
  taken_more k d w w' lt takes so = λ P D shows.
      let Q : Step → Type 0 = λ x. (s : Stand) → ShowsStep P D t x → At P D w s → At P D w' (after P D x s) in
      let long = length-map steps plain_walk_step in
      stands_more P D (At P D w) (At P D w') t walk k (plain_walk_step d) (start vars) (omega (arith, lt, long)) shows
      (subst Q (sym (get_or-map plain_walk_step steps k d (plain_walk_step d) lt)) (takes P D)) (so P D shows)

  pub taken_whole : (k : ℕ) (w : W) (P : Source) (D : Parameters) → length steps ≡ k → SoFar k w → ShowsAll P D t (map plain_walk_step steps) → At P D w (after_all P D (map plain_walk_step steps) (start vars))
  taken_whole k w P D e so shows =
      let long = length-map steps plain_walk_step in
      let Q : List Step → Type 0 = λ xs. At P D w (after_all P D xs (start vars)) in
      subst Q (take_all k walk (omega (arith, e, long))) (so P D shows)
