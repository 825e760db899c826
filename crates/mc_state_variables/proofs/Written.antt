-- What each form of goal is written as, by what its parts are written as.
use Rattle.std.proofs.Common.{◌≡◌, ℕ, ◌≤◌, ◌<◌, Bool, true, false, List, [], ◌∷◌, ◌++◌, Option, Some, None, length, map, reverse, refl, ap, ap₂, sym, ◌∙◌, arith, codes, Result, Ok, Err, IfOk}
use Rattle.std.proofs.lemmas.List.{append-nil}
use Rattle.mc_base.specs.NameSets.{put_all}
use Rattle.mc_term_data.specs.Plain.{PlainTerm, PlainTerms, at, no_term, more_terms, App, Conj, plain_term, term_list}
use Rattle.mc_term_data.specs.declared.term.Term.{Term}
use Rattle.std.specs.Option.{option_map}
use Rattle.mc_clause_syntax.specs.States.{names_of, quantified, states_of}
use Rattle.mc_state_variables.specs.Updates.{leave_out, updated}
use Rattle.mc_state_variables.specs.Versions.{Held, behind, distinct, entered, entered_behind, renewed, renewed_behind, handed, closings, seen_outside, and_then}
use Rattle.mc_state_variables.specs.Numbered.{Written, Part, Goal, Condition, written, on_text, ended, goal_of, goals_of, goal_parts, branch_of, conditional, conjunction_of, in_order, quantified_goal, quantifier, negated, in_negation, applied, implied, both_ways, term_of, rule_of, fact_of, head_states}
use Rattle.mc_state_variables.specs.code.Helds.{listed, plain_helds}
use Rattle.mc_state_variables.specs.code.Steps.{steps_of, stepwise}
use Rattle.mc_state_variables.specs.code.Pieces.{Piece, pieces_of}
use Rattle.mc_state_variables.specs.code.Conditions.{condition_by, condition_names, condition_of, tried_goal, IsTried, arrow_of}
use Rattle.mc_state_variables.specs.declared.conditions.Tried.{Tried}
use Rattle.mc_state_variables.specs.declared.steps.Step.{Step}
use Rattle.mc_state_variables.proofs.Lists.{terms-listed, terms_from_list}
use Rattle.mc_state_variables.proofs.Sets.{set_same, closings-wanted_set, closings-updated_set}
use Rattle.mc_state_variables.proofs.Forms.{part_updates, branch-same}
use Rattle.mc_state_variables.proofs.Orders.{stepwise_is}

pub if_ok : {T E : Type 0} (r : Result T E) (P Q : T → Type 0) → IfOk r P → ((x : T) → P x → Q x) → IfOk r Q
if_ok (Ok x) P Q h f = f x h
if_ok (Err e) P Q h f = tt

stepwise_none : (ss : List Step) (hs : List Held) (n : ℕ) → stepwise ss [] hs n ≡ written no_term n
stepwise_none [] hs n = refl
stepwise_none (s ∷ ss) hs n = refl

-- the goals of a conjunction, where none is left
pub conjunction_is : (l : ℕ) (ts : PlainTerms) (xs : List PlainTerm) (ss : List Step) (hs behind : List Held) (n m : ℕ)
    → on_text (λ us. xs ++ listed us) (stepwise ss [] behind m) ≡ on_text listed (stepwise (steps_of ts) (goal_parts (goals_of ts)) hs n)
    → written (at (Conj (term_list xs)) l) m ≡ conjunction_of l (goals_of ts) hs n
conjunction_is l ts xs ss hs behind n m e =
    let whole : Written PlainTerms = in_order (goal_parts (goals_of ts)) hs n in
    let all : written (xs ++ []) m ≡ on_text listed whole =
    ap (on_text (λ us. xs ++ listed us)) (sym (stepwise_none ss behind m)) ∙ e ∙ ap (on_text listed) (stepwise_is ts hs n) in
    let text : xs ≡ listed whole.text = sym (append-nil xs) ∙ ap (λ w. w.text) all in
    let next : m ≡ whole.next = ap (λ w. w.next) all in ap₂ (λ us k. written (at (Conj us) l) k) (ap term_list text ∙ terms-listed whole.text) next

pieces_none : (l : ℕ) (ws : List (List (List ℕ))) (xs : List (List ℕ)) (fresh : Bool) (hs : List Held) (n : ℕ) → pieces_of l ws xs fresh [] hs n ≡ written [] n
pieces_none l [] xs fresh hs n = refl
pieces_none l (w ∷ ws) xs fresh hs n = refl

-- the pieces of a disjunction, where no disjunct is left
pub pieces_are : (l : ℕ) (ps : List Piece) (ws : List (List (List ℕ))) (xs : List (List ℕ)) (fresh : Bool) (hs : List Held) (m : ℕ) (all : Written (List Piece))
    → on_text (λ qs. ps ++ qs) (pieces_of l ws xs fresh [] hs m) ≡ all → written ps m ≡ all
pieces_are l ps ws xs fresh hs m all e = ap (λ qs. written qs m) (sym (append-nil ps)) ∙ ap (on_text (λ qs. ps ++ qs)) (sym (pieces_none l ws xs fresh hs m)) ∙ e

pub condition_goal : (l : ℕ) (list : Option PlainTerm) (t : PlainTerm) → (condition_by l list t).goal ≡ (goal_of t).part
condition_goal l None t = refl
condition_goal l (Some q) t = refl

pub condition_quantifies : (l : ℕ) (list : Option PlainTerm) (t : PlainTerm) → condition_names list ≡ (condition_by l list t).names
condition_quantifies l None t = refl
condition_quantifies l (Some q) t = refl

-- a condition and its then part
pub conditional_is : (l : ℕ) (c : Condition) (g t : PlainTerm) (xs : List (List ℕ)) (hs : List Held) (n : ℕ) (names : List (List ℕ)) (ins : List Held) (m : ℕ) (w : PlainTerm) (k : ℕ) (behind : List Held) (test result : PlainTerm) (next : ℕ) (cs : PlainTerms)
    → c.goal ≡ (goal_of g).part → names ≡ c.names → ins ≡ entered names n hs → m ≡ entered_behind names n
    → written w k ≡ ended (goal_of g).part (updated g) ins m
    → behind ≡ handed (updated g) (renewed (updated g) m ins) ins
    → test ≡ c.quantify ins (updated g ++ updated t) w
    → written result next ≡ (goal_of t).part.writing behind k
    → cs ≡ closings xs (leave_out names (updated t)) l (seen_outside names behind hs)
    → written (at (App (codes "->" ∷ []) (more_terms test (more_terms (and_then result cs) no_term))) l) next ≡ (conditional l c (goal_of t).part []).writing xs hs n
conditional_is l c g t xs hs n names ins m w k behind test result next cs e f i j h b q r d =
    let p : Part = (goal_of t).part in
    let inside : ins ≡ entered c.names n hs = i ∙ ap (λ ns. entered ns n hs) f in
    let from : m ≡ entered_behind c.names n = j ∙ ap (λ ns. entered_behind ns n) f in
    let whole : written w k ≡ ended c.goal c.goal.updates (entered c.names n hs) (entered_behind c.names n) =
    h ∙ ap (λ us. ended (goal_of g).part us ins m) (sym (part_updates g)) ∙ ap (λ p. ended p p.updates ins m) (sym e) ∙ ap₂ (λ hs m. ended c.goal c.goal.updates hs m) inside from in
    let reached : behind ≡ handed c.goal.updates (renewed c.goal.updates (entered_behind c.names n) (entered c.names n hs)) (entered c.names n hs) =
    b ∙ ap (λ us. handed us (renewed us m ins) ins) (sym (part_updates g)) ∙ ap (λ p. handed p.updates (renewed p.updates m ins) ins) (sym e) ∙ ap₂ (λ hs m. handed c.goal.updates (renewed c.goal.updates m hs) hs) inside from in
    let all : updated g ++ updated t ≡ c.goal.updates ++ p.updates = ap₂ (λ us vs. us ++ vs) (sym (part_updates g) ∙ ap (λ p. p.updates) (sym e)) (sym (part_updates t)) in
    let closed : cs ≡ closings xs (leave_out c.names p.updates) l (seen_outside c.names behind hs) =
    d ∙ ap₂ (λ ns us. closings xs (leave_out ns us) l (seen_outside ns behind hs)) f (sym (part_updates t)) in
    ap₂ (λ v w. written (at (App (codes "->" ∷ []) (more_terms v (more_terms w.text no_term))) l) w.next)
    (q ∙ ap₂ (λ hs us. c.quantify hs us w) inside all ∙ ap (λ v. c.quantify (entered c.names n hs) (c.goal.updates ++ p.updates) v.text) whole)
    (ap (λ us. written (and_then result us) next) closed
    ∙ ap (λ v. written (and_then v.text (closings xs (leave_out c.names p.updates) l (seen_outside c.names behind hs))) v.next) r
    ∙ ap₂ (λ hs' v. on_text (λ u. and_then u (closings xs (leave_out c.names p.updates) l (seen_outside c.names hs' hs))) (p.writing hs' v.next)) reached whole)

-- the same where the condition is tried
pub arrow_is : (t : Tried) (u : PlainTerm) (xs : List (List ℕ)) (hs : List Held) (l n m : ℕ) → IsTried t hs n m
    → arrow_of t u xs hs l m ≡ (conditional l (condition_of t) (goal_of u).part []).writing xs hs n
arrow_is t u xs hs l n m h =
    let g : PlainTerm = tried_goal t in
    let names : List (List ℕ) = names_of t.names.items in
    let ins : List Held = plain_helds t.inside.items in
    let behind : List Held = plain_helds t.around.behind.items in
    let w : Written PlainTerm = (goal_of g).part.writing (plain_helds t.around.given.items) m in
    let v : Written PlainTerm = (goal_of u).part.writing behind w.next in
    conditional_is l (condition_of t) g u xs hs n names ins (entered_behind names n) w.text w.next behind
    ((condition_of t).quantify ins (updated g ++ updated u) w.text) v.text v.next
    (closings xs (leave_out names (updated u)) l (seen_outside names behind hs))
    (condition_goal t.condition.line (option_map (λ list. plain_term list.now) t.condition.list) g)
    h.names h.inside refl
    (ap₂ (goal_of g).part.writing h.given h.next)
    (h.behind ∙ ap (λ gs. handed (updated g) gs ins) h.given)
    refl refl refl

-- a goal under a quantifier
pub quantified_is : (w : List ℕ) (l : ℕ) (q : PlainTerm) (p : Part) (us : List (List ℕ)) (hs ins : List Held) (n m : ℕ) (text : PlainTerm) (next : ℕ)
    → us ≡ p.updates → ins ≡ entered (quantified q) n hs → m ≡ entered_behind (quantified q) n
    → written text next ≡ p.writing ins m
    → written (at (App (w ∷ []) (more_terms (quantifier ins us q) (more_terms text no_term))) l) next ≡ quantified_goal w l q p hs n
quantified_is w l q p us hs ins n m text next f i j e =
    ap₂ (λ v x. written (at (App (w ∷ []) (more_terms v (more_terms x.text no_term))) l) x.next)
    (ap₂ (λ hs us. quantifier hs us q) i f)
    (e ∙ ap₂ p.writing i j)

-- a goal that ends with new versions of all that it updates
pub whole_is : (g : PlainTerm) (hs given : List Held) (n m : ℕ)
    → given ≡ renewed (updated g) n hs → m ≡ renewed_behind (updated g) n hs
    → (goal_of g).part.writing given m ≡ (negated (goal_of g).part).writing hs n
whole_is g hs given n m e f =
    ap₂ (goal_of g).part.writing (e ∙ ap (λ us. renewed us n hs) (sym (part_updates g))) (f ∙ ap (λ us. renewed_behind us n hs) (sym (part_updates g)))

-- an implication
pub implied_is : (l : ℕ) (a b : PlainTerm) (hs : List Held) (n : ℕ) (left : PlainTerm) (m : ℕ) (behind : List Held) (right : PlainTerm) (next : ℕ)
    → written left m ≡ ended (goal_of a).part (goal_of a).part.updates hs n
    → behind ≡ handed (goal_of a).part.updates (renewed (goal_of a).part.updates n hs) hs
    → written right next ≡ ended (goal_of b).part (goal_of b).part.updates behind m
    → written (at (App (codes "=>" ∷ []) (more_terms left (more_terms right no_term))) l) next ≡ implied l (goal_of a).part (goal_of b).part hs n
implied_is l a b hs n left m behind right next e f h =
    let p : Part = (goal_of b).part in
    ap (λ v. written (at (App (codes "=>" ∷ []) (more_terms left (more_terms v.text no_term))) l) v.next) h
    ∙ ap₂ (λ w hs. written (at (App (codes "=>" ∷ []) (more_terms w.text (more_terms (ended p p.updates hs w.next).text no_term))) l) (ended p p.updates hs w.next).next) e f

-- an equivalence
pub both_ways_is : (l : ℕ) (a b : PlainTerm) (hs : List Held) (n : ℕ) (forth : PlainTerm) (m : ℕ) (back : PlainTerm) (next : ℕ)
    → written forth m ≡ implied l (goal_of a).part (goal_of b).part hs n
    → written back next ≡ implied l (goal_of b).part (goal_of a).part hs m
    → written (at (Conj (more_terms forth (more_terms back no_term))) l) next ≡ both_ways l (goal_of a).part (goal_of b).part hs n
both_ways_is l a b hs n forth m back next e f =
    let p : Part = (goal_of a).part in
    let q : Part = (goal_of b).part in
    ap (λ v. written (at (Conj (more_terms forth (more_terms v.text no_term))) l) v.next) f
    ∙ ap (λ w. written (at (Conj (more_terms w.text (more_terms (implied l q p hs w.next).text no_term))) l) (implied l q p hs w.next).next) e

-- a clause with a body
pub rule_is : (l : ℕ) (h b : PlainTerm) (names : List (List ℕ)) (ins : List Held) (m : ℕ)
    → names ≡ states_of h → ins ≡ entered names 0 [] → m ≡ entered_behind names 0
    → rule_of l (term_of ins h) ((goal_of b).branch.writing (put_all [] names) ins m).text
    ≡ rule_of l (term_of (head_states h) h) ((goal_of b).branch.writing (states_of h) (head_states h) (behind 0 (distinct (states_of h)))).text
rule_is l h b names ins m f i j =
    let inside : ins ≡ head_states h = i ∙ ap (λ ns. entered ns 0 []) f in
    let from : m ≡ behind 0 (distinct (states_of h)) = j ∙ ap (λ ns. entered_behind ns 0) f in
    let body : (goal_of b).branch.writing (put_all [] names) ins m ≡ (goal_of b).branch.writing (states_of h) (head_states h) (behind 0 (distinct (states_of h))) =
    branch-same b (put_all [] names) names (set_same names) ins m ∙ ap (λ ns. (goal_of b).branch.writing ns ins m) f ∙ ap₂ ((goal_of b).branch.writing (states_of h)) inside from in
    ap₂ (λ t u. rule_of l t u) (ap (λ hs. term_of hs h) inside) (ap (λ w. w.text) body)

-- a clause without a body
pub fact_is : (l : ℕ) (h : PlainTerm) (names : List (List ℕ)) (ins : List Held)
    → names ≡ states_of h → ins ≡ entered names 0 []
    → fact_of l (term_of ins h) (closings (put_all [] names) [] l ins) ≡ fact_of l (term_of (head_states h) h) (closings (states_of h) [] l (head_states h))
fact_is l h names ins f i =
    let inside : ins ≡ head_states h = i ∙ ap (λ ns. entered ns 0 []) f in
    ap₂ (λ t us. fact_of l t us) (ap (λ hs. term_of hs h) inside) (closings-wanted_set names [] l ins ∙ ap₂ (λ ns hs. closings ns [] l hs) f inside)
