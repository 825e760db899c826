-- What fits a table.
use Rattle.std.proofs.Common.{◌≡◌, ℕ, zero, suc, ◌+◌, ◌<◌, ◌≤◌, Bool, true, false, ◌&&◌, List, [], ◌∷◌, length, map, drop, get_or, refl, sym, ap, subst, ◌∙◌, arith}
use Rattle.std.specs.Prelude.{nat_lt, Contains}
use Rattle.std.proofs.lemmas.Bool.{ltb-true}
use Rattle.std.proofs.lemmas.List.{drop_more, drop_all}
use Rattle.mc_program.specs.Programs.{Source}
use Rattle.mc_accepted.specs.ProperTypes.{Parameters}
use Rattle.mc_accepted.specs.Resolving.{Step, push_variable, push_number, push_text, choose, equate, call, close_head}
use Rattle.mc_source.specs.declared.name.Candidate.{Candidate}
use Rattle.mc_source.specs.declared.name.Candidate.TheVariants as C
use Rattle.mc_typecheck.specs.Ties.{Meaning, of_name, of_number, of_text, of_equation, of_head}
use Rattle.mc_typecheck.specs.Searched.{VariablesBelow}
use Rattle.mc_typecheck.specs.Walked.{IsThere, Shows, ShowsAll}
use Rattle.mc_typecheck.specs.declared.table.Signatures.{Signatures}
use Rattle.mc_unresolved.specs.Steps.{plain_walk_step}
use Rattle.mc_unresolved.specs.declared.steps.WalkStep.{WalkStep}
use Rattle.mc_typecheck.specs.Fitting.{IsSomeTable, is_there, all_there, step_fits, each_fits}
use Rattle.mc_typecheck.specs.code.Shown.{AreShown}

first_true : (a b : Bool) → (a && b) ≡ true → a ≡ true
first_true true b e = refl
first_true false b e = e

second_true : (a b : Bool) → (a && b) ≡ true → b ≡ true
second_true true b e = e
second_true false b e = cc

candidate_there : (t : Signatures) (c : Candidate) → is_there t c ≡ true → IsThere t (of_name c)
candidate_there t (C.Con s) e = ltb-true s t.symbols e
candidate_there t (C.Func f) e = ltb-true f t.preds e
candidate_there t (C.Pred p) e = ltb-true p t.preds e
candidate_there t (C.Char c) e = tt

there_at : (t : Signatures) (cs : List Candidate) (k : ℕ) (d : Candidate) → k < length cs → all_there t cs ≡ true → IsThere t (of_name (get_or cs k d))
there_at t [] k d lt e = let none : ⊥ = omega arith in absurd none
there_at t (c ∷ cs) zero d lt e = candidate_there t c (first_true (is_there t c) (all_there t cs) e)
there_at t (c ∷ cs) (suc k) d lt e = there_at t cs k d (omega arith) (second_true (is_there t c) (all_there t cs) e)

contained_there : (t : Signatures) (cs : List Candidate) → all_there t cs ≡ true → (c : Candidate) → Contains cs c → IsThere t (of_name c)
contained_there t cs e c h = let Q : Candidate → Type 0 = λ x. IsThere t (of_name x) in subst Q h.2 (there_at t cs h.0 c h.1 e)

pub below_of : (t : Signatures) (n : ℕ) (steps : List Step) → each_fits t n steps ≡ true → VariablesBelow n steps
below_of t n [] e = tt
below_of t n (push_variable v ∷ steps) e = (ltb-true v n (first_true (nat_lt v n) (each_fits t n steps) e), below_of t n steps (second_true (nat_lt v n) (each_fits t n steps) e))
below_of t n (push_number ∷ steps) e = below_of t n steps e
below_of t n (push_text ∷ steps) e = below_of t n steps e
below_of t n (choose cs k ∷ steps) e = below_of t n steps (second_true (all_there t cs) (each_fits t n steps) e)
below_of t n (equate ∷ steps) e = below_of t n steps e
below_of t n (call cs k ∷ steps) e = below_of t n steps (second_true (all_there t cs) (each_fits t n steps) e)
below_of t n (close_head p k ∷ steps) e = below_of t n steps (second_true (nat_lt p t.preds) (each_fits t n steps) e)

module _ (P : Source) (D : Parameters) (t : Signatures) (shows : (m : Meaning) → IsThere t m → Shows P D t m) where
  pub shown_of : (n : ℕ) (steps : List Step) → each_fits t n steps ≡ true → ShowsAll P D t steps
  shown_of n [] e = tt
  shown_of n (push_variable v ∷ steps) e = (tt, shown_of n steps (second_true (nat_lt v n) (each_fits t n steps) e))
  shown_of n (push_number ∷ steps) e = (shows of_number tt, shown_of n steps e)
  shown_of n (push_text ∷ steps) e = (shows of_text tt, shown_of n steps e)
  shown_of n (choose cs k ∷ steps) e = ((λ c h. shows (of_name c) (contained_there t cs (first_true (all_there t cs) (each_fits t n steps) e) c h)), shown_of n steps (second_true (all_there t cs) (each_fits t n steps) e))
  shown_of n (equate ∷ steps) e = (shows of_equation tt, shown_of n steps e)
  shown_of n (call cs k ∷ steps) e = ((λ c h. shows (of_name c) (contained_there t cs (first_true (all_there t cs) (each_fits t n steps) e) c h)), shown_of n steps (second_true (all_there t cs) (each_fits t n steps) e))
  shown_of n (close_head p k ∷ steps) e = (shows (of_head p) (ltb-true p t.preds (first_true (nat_lt p t.preds) (each_fits t n steps) e)), shown_of n steps (second_true (nat_lt p t.preds) (each_fits t n steps) e))

pub are_shown : (t : Signatures) (n : ℕ) (steps : List Step) → IsSomeTable t → each_fits t n steps ≡ true → AreShown t steps
are_shown t n steps table e = record {
  source = table.source;
  parameters = table.parameters;
  shows = shown_of table.source table.parameters t table.shows n steps e;
}

-- LOOPS

pub there_more : (t : Signatures) (cs : List Candidate) (k : ℕ) (d : Candidate) (whole : Bool) → k < length cs → is_there t (get_or cs k d) ≡ true → all_there t (drop k cs) ≡ whole → all_there t (drop (k + 1) cs) ≡ whole
there_more t cs k d whole lt holds so = sym (ap (all_there t) (drop_more cs k d lt) ∙ ap (λ b. b && all_there t (drop (k + 1) cs)) holds) ∙ so

pub there_not : (t : Signatures) (cs : List Candidate) (k : ℕ) (d : Candidate) (whole : Bool) → k < length cs → is_there t (get_or cs k d) ≡ false → all_there t (drop k cs) ≡ whole → false ≡ whole
there_not t cs k d whole lt fails so = sym (ap (all_there t) (drop_more cs k d lt) ∙ ap (λ b. b && all_there t (drop (k + 1) cs)) fails) ∙ so

pub there_all : (t : Signatures) (cs : List Candidate) (k : ℕ) (whole : Bool) → length cs ≤ k → all_there t (drop k cs) ≡ whole → true ≡ whole
there_all t cs k whole le so = sym (ap (all_there t) (drop_all k cs le)) ∙ so

abbrev pub rest_fits : Signatures → ℕ → List WalkStep → ℕ → Bool
rest_fits t n steps k = each_fits t n (map plain_walk_step (drop k steps))

fits_next : (t : Signatures) (n : ℕ) (steps : List WalkStep) (k : ℕ) (d : WalkStep) → k < length steps → rest_fits t n steps k ≡ (step_fits t n (plain_walk_step (get_or steps k d)) && rest_fits t n steps (k + 1))
fits_next t n steps k d lt = ap (λ (xs : List WalkStep). each_fits t n (map plain_walk_step xs)) (drop_more steps k d lt)

pub fits_more : (t : Signatures) (n : ℕ) (steps : List WalkStep) (k : ℕ) (d : WalkStep) (whole : Bool) → k < length steps → step_fits t n (plain_walk_step (get_or steps k d)) ≡ true → rest_fits t n steps k ≡ whole → rest_fits t n steps (k + 1) ≡ whole
fits_more t n steps k d whole lt holds so = sym (fits_next t n steps k d lt ∙ ap (λ b. b && rest_fits t n steps (k + 1)) holds) ∙ so

pub fits_not : (t : Signatures) (n : ℕ) (steps : List WalkStep) (k : ℕ) (d : WalkStep) (whole : Bool) → k < length steps → step_fits t n (plain_walk_step (get_or steps k d)) ≡ false → rest_fits t n steps k ≡ whole → false ≡ whole
fits_not t n steps k d whole lt fails so = sym (fits_next t n steps k d lt ∙ ap (λ b. b && rest_fits t n steps (k + 1)) fails) ∙ so

pub fits_all : (t : Signatures) (n : ℕ) (steps : List WalkStep) (k : ℕ) (whole : Bool) → length steps ≤ k → rest_fits t n steps k ≡ whole → true ≡ whole
fits_all t n steps k whole le so = sym (ap (λ (xs : List WalkStep). each_fits t n (map plain_walk_step xs)) (drop_all k steps le)) ∙ so
