-- The goal of several clauses, which is no one clause's.
use Rattle.std.proofs.Common.{◌≡◌, ◌≢◌, ℕ, List, [], ◌∷◌, map, length, refl, sym, ap, ◌∙◌}
use Rattle.mc_program.specs.Programs.{ClauseForm}
use Rattle.mc_model.specs.Flat as F
use Rattle.mc_model.specs.Flat.{Flat_goal, flats}
use Rattle.mc_model.specs.PlainGoals.{plain_flat, plain_flat_step}
use Rattle.mc_model.specs.declared.flat.Flat.{Flat, Disj}
use Rattle.mc_model.specs.declared.flat.Flat.TheOpen as FO
use Rattle.mc_model.specs.declared.flat.Flat.TheVariants.{rolls-Disj}
use Rattle.mc_model.specs.declared.flat.Flat.TheFolds.{fold-roll-Flat}
use Rattle.mc_accepted.specs.Normal.{all_disjuncts, clause_goals, one_or_either}

plain_disjunction : (gs : List Flat) → plain_flat (Disj gs) ≡ F.Or (flats (map plain_flat gs))
plain_disjunction gs = ap plain_flat (sym (rolls-Disj gs)) ∙ fold-roll-Flat Flat_goal plain_flat_step (FO.Disj gs)

either_of : (n : ℕ) (cs : List ClauseForm) → length cs ≢ 1 → one_or_either (clause_goals n cs).goals ≡ F.Or (flats (all_disjuncts (clause_goals n cs).goals))
either_of n [] h = refl
either_of n (c ∷ []) h = absurd (h refl)
either_of n (c ∷ d ∷ cs) h = refl

pub several_clauses : (gs : List Flat) (n : ℕ) (cs : List ClauseForm) → length cs ≢ 1 → map plain_flat gs ≡ all_disjuncts (clause_goals n cs).goals →
    plain_flat (Disj gs) ≡ one_or_either (clause_goals n cs).goals
several_clauses gs n cs h e = plain_disjunction gs ∙ ap (λ l. F.Or (flats l)) e ∙ sym (either_of n cs h)
