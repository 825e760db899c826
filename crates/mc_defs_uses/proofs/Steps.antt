-- Uses that are added one after another.
use Rattle.std.proofs.Common.{◌≡◌, ℕ, ◌-◌, ◌≤◌, Bool, List, [], ◌∷◌, ◌++◌, length, map, take, drop, get_or, refl, ap, ◌∙◌, append_assoc, arith}
use Rattle.std.proofs.lemmas.List.{append-nil, take_all}
use Rattle.mc_term_data.specs.Plain.{PlainTerm, PlainTerms, no_term, more_terms, plain_term, term_list}
use Rattle.mc_term_data.specs.declared.term.Term.{Term}
use Rattle.mc_clause_syntax.specs.declared.goal_form.GoalContext.{GoalContext}
use Rattle.mc_clause_syntax.specs.declared.goal_form.Parts.TheVariants.{Goals}
use Rattle.mc_decl_syntax.specs.Plain.{Path}
use Rattle.mc_names.specs.declared.definition.Kind.TheVariants as K
use Rattle.mc_names.specs.declared.occurrence.Occurrence.{Occurrence}
use Rattle.mc_names.specs.Plain.{PlainOccurrence, plain_occurrence, used}
use Rattle.mc_names.specs.Definitions.{cell_path, nil_path}
use Rattle.mc_defs_uses.specs.Occurrences.{terms_in, terms_over, cells_in, elements_in, between, call_by, all_goals, goal_by}
use Rattle.mc_defs_uses.specs.code.Steps.{behind}

pub append_none : (us : List PlainOccurrence) → us ++ [] ≡ us
append_none = append-nil

pub one_pushed : (us : List Occurrence) (u : Occurrence) → map plain_occurrence (us ++ u ∷ []) ≡ map plain_occurrence us ++ plain_occurrence u ∷ []
one_pushed [] u = refl
one_pushed (v ∷ us) u = ap (λ us. plain_occurrence v ∷ us) (one_pushed us u)

pub appended : (us vs ws : List PlainOccurrence) → (us ++ vs) ++ ws ≡ us ++ (vs ++ ws)
appended = append_assoc

-- what adds uses at the end
pub ruleset adding = (append_none, one_pushed, appended)

-- a name over arguments in a term, as in a call
pub over_is : (w : Path) (b : Bool) (n : ℕ) (ts : PlainTerms) → call_by b (used K.Symbol w n) ts ≡ terms_over w b n ts
over_is w b n no_term = refl
over_is w b n (more_terms t ts) = refl

pub cells_are : (ts : PlainTerms) → behind cell_path ts ≡ cells_in ts
cells_are no_term = refl
cells_are (more_terms t ts) = ap (λ us. used K.Symbol cell_path 2 ++ (terms_in t ++ us)) (cells_are ts)

pub elements_are : (ts : PlainTerms) → behind cell_path ts ++ used K.Symbol nil_path 0 ≡ elements_in ts
elements_are no_term = refl
elements_are (more_terms t ts) =
    ap (λ us. used K.Symbol cell_path 2 ++ us) (append_assoc (terms_in t) (behind cell_path ts) (used K.Symbol nil_path 0) ∙ ap (λ us. terms_in t ++ us) (elements_are ts))

between_is : (w : Path) (t : PlainTerm) (ts : PlainTerms) → terms_in t ++ behind w ts ≡ between w (more_terms t ts)
between_is w t no_term = append_none (terms_in t)
between_is w t (more_terms u ts) = ap (λ us. terms_in t ++ (used K.Symbol w 2 ++ us)) (between_is w u ts)

-- a term, and those that a name stands before, are terms that it stands between
pub after_first : (old mid new : List PlainOccurrence) (w : Path) (ts : List Term) (t : Term) → 1 ≤ length ts → t ≡ get_or ts 0 t → mid ≡ old ++ terms_in (plain_term t)
    → new ≡ mid ++ behind w (term_list (map plain_term (take (length ts - 1) (drop 1 ts)))) → new ≡ old ++ between w (term_list (map plain_term ts))
after_first old mid new w [] t h e f g = absurd (omega arith)
after_first old mid new w (x ∷ ts) t h e f g =
    let all : take (length (x ∷ ts) - 1) ts ≡ ts = take_all (length (x ∷ ts) - 1) ts (omega arith) in
    let rest = behind w (term_list (map plain_term ts)) in
    g
    ∙ ap (λ us. mid ++ behind w (term_list (map plain_term us))) all
    ∙ ap (λ us. us ++ rest) (f ∙ ap (λ u. old ++ terms_in (plain_term u)) e)
    ∙ append_assoc old (terms_in (plain_term x)) rest
    ∙ ap (λ us. old ++ us) (between_is w (plain_term x) (term_list (map plain_term ts)))

pub parts_are_goals : (w : Path) (a b : GoalContext) (ts : PlainTerms) → all_goals ts ≡ goal_by w (Goals a b) ts
parts_are_goals w a b no_term = refl
parts_are_goals w a b (more_terms t ts) = refl
