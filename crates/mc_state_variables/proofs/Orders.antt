-- Goals by their steps are a conjunction in order.
use Rattle.std.proofs.Common.{◌≡◌, ℕ, Bool, true, false, ◌||◌, List, [], ◌∷◌, ◌++◌, ap, ap₂, refl, sym, ◌∙◌, append_assoc, if◌then◌else◌}
use Rattle.std.specs.Str.{bytes_eq}
use Rattle.std.proofs.lemmas.List.Folds.{list_any-append}
use Rattle.std.proofs.Math.Bool.{or_comm}
use Rattle.mc_base.specs.NameSets.{put_all}
use Rattle.mc_base.proofs.NameSetLaws.{is_member-put_all}
use Rattle.mc_term_data.specs.Plain.{PlainTerm, PlainTerms, no_term, more_terms}
use Rattle.mc_clause_syntax.specs.States.{in_scope}
use Rattle.mc_state_variables.specs.Updates.{common, joined, updated, updated_each}
use Rattle.mc_state_variables.specs.Versions.{Held, renewed, renewed_behind, handed}
use Rattle.mc_state_variables.specs.Numbered.{Written, Part, Goal, written, on_text, with_rest, ended, goal_of, goals_of, goal_parts, updates_of, in_order}
use Rattle.mc_state_variables.specs.code.Helds.{listed}
use Rattle.mc_state_variables.specs.code.Steps.{seen_in, step_of, steps_of, stepwise}
use Rattle.mc_state_variables.specs.declared.steps.Step.{Step}
use Rattle.mc_state_variables.proofs.Sets.{HaveSame, set_same, renewed-same, renewed_behind-same, handed-same}
use Rattle.mc_state_variables.proofs.Forms.{part_updates}

-- the names that are put in are those that the goals update
pub seen_same : (ts : PlainTerms) → HaveSame (seen_in ts) (joined (updated_each ts))
seen_same no_term x = refl
seen_same (more_terms t ts) x =
    is_member-put_all (seen_in ts) (updated t) x
    ∙ or_comm (in_scope (seen_in ts) x) (in_scope (updated t) x)
    ∙ ap (λ b. in_scope (updated t) x || b) (seen_same ts x)
    ∙ sym (list_any-append (bytes_eq x) (updated t) (joined (updated_each ts)))

parts_joined : (ts : PlainTerms) → updates_of (goal_parts (goals_of ts)) ≡ joined (updated_each ts)
parts_joined no_term = refl
parts_joined (more_terms t ts) = ap₂ (λ us vs. us ++ vs) (part_updates t) (parts_joined ts)

common-same : (xs ys zs : List (List ℕ)) → HaveSame ys zs → common xs ys ≡ common xs zs
common-same [] ys zs h = refl
common-same (x ∷ xs) ys zs h = ap₂ (λ b rest. if b then x ∷ rest else rest) (h x) (common-same xs ys zs h)

both_same : (xs ys : List (List ℕ)) (x : List ℕ) → xs ≡ ys → in_scope xs x ≡ in_scope ys x
both_same xs ys x e = ap (λ zs. in_scope zs x) e

-- the step of a goal is what the definition makes of it
step_same : (t : PlainTerm) (ts : PlainTerms) → HaveSame (put_all [] (common (updated t) (seen_in ts))) (common (goal_of t).part.updates (updates_of (goal_parts (goals_of ts))))
step_same t ts x =
    set_same (common (updated t) (seen_in ts)) x
    ∙ both_same _ _ x (common-same (updated t) (seen_in ts) (joined (updated_each ts)) (seen_same ts))
    ∙ both_same _ _ x (ap₂ common (sym (part_updates t)) (sym (parts_joined ts)))

updated_same : (t : PlainTerm) → HaveSame (put_all [] (updated t)) (goal_of t).part.updates
updated_same t x = set_same (updated t) x ∙ both_same _ _ x (sym (part_updates t))

pub ended-same : (p : Part) (xs ys : List (List ℕ)) → HaveSame xs ys → (hs : List Held) (n : ℕ) → ended p xs hs n ≡ ended p ys hs n
ended-same p xs ys h hs n = ap₂ p.writing (renewed-same xs ys h n hs) (renewed_behind-same xs ys h n hs)

pub behind-same : (us vs xs ys : List (List ℕ)) → HaveSame us vs → HaveSame xs ys → (hs : List Held) (n : ℕ) → handed us (renewed xs n hs) hs ≡ handed vs (renewed ys n hs) hs
behind-same us vs xs ys h k hs n = ap (λ gs. handed us gs hs) (renewed-same xs ys k n hs) ∙ handed-same us vs h (renewed ys n hs) hs

pub stepwise_is : (ts : PlainTerms) (hs : List Held) (n : ℕ) → stepwise (steps_of ts) (goal_parts (goals_of ts)) hs n ≡ in_order (goal_parts (goals_of ts)) hs n
stepwise_is no_term hs n = refl
stepwise_is (more_terms t ts) hs n =
    let p : Part = (goal_of t).part in
    let us : List (List ℕ) = put_all [] (updated t) in
    let xs : List (List ℕ) = put_all [] (common (updated t) (seen_in ts)) in
    let ys : List (List ℕ) = common p.updates (updates_of (goal_parts (goals_of ts))) in
    ap₂ (λ w gs. with_rest w (stepwise (steps_of ts) (goal_parts (goals_of ts)) gs))
    (ended-same p xs ys (step_same t ts) hs n) (behind-same us p.updates xs ys (updated_same t) (step_same t ts) hs n)
    ∙ ap (λ v. record { text = more_terms (ended p ys hs n).text v.text; next = v.next }) (stepwise_is ts (handed p.updates (renewed ys n hs) hs) (ended p ys hs n).next)

-- the first of these goals, by its step
pub passed_is : (s : Step) (ss : List Step) (hs given behind : List Held) (n m : ℕ)
    → given ≡ renewed s.renewed n hs → behind ≡ handed s.updated given hs → m ≡ renewed_behind s.renewed n hs
    → (p : Part) (rest : List Part) → stepwise (s ∷ ss) (p ∷ rest) hs n ≡ with_rest (p.writing given m) (stepwise ss rest behind)
passed_is s ss hs given behind n m e f h p rest =
    ap₂ (λ w gs. with_rest w (stepwise ss rest gs)) (ap₂ p.writing (sym e) (sym h)) (ap (λ gs. handed s.updated gs hs) (sym e) ∙ sym f)

-- one goal more is written before the others
pub gone_on_is : (xs ys : List PlainTerm) (t : PlainTerm) (m : ℕ) (w : Written PlainTerm) (rest : ℕ → Written PlainTerms) (all : Written PlainTerms)
    → ys ≡ xs ++ t ∷ [] → written t m ≡ w → all ≡ with_rest w rest
    → on_text (λ ts. ys ++ listed ts) (rest m) ≡ on_text (λ ts. xs ++ listed ts) all
gone_on_is xs ys t m w rest all e f h =
    ap (λ zs. on_text (λ ts. zs ++ listed ts) (rest m)) e
    ∙ ap (λ zs. written zs (rest m).next) (append_assoc xs (t ∷ []) (listed (rest m).text))
    ∙ ap (λ v. on_text (λ ts. xs ++ listed ts) (with_rest v rest)) f
    ∙ ap (on_text (λ ts. xs ++ listed ts)) (sym h)
