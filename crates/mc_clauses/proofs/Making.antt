-- Goals as they are made, by what terms are as goals.
use Rattle.std.proofs.Common.{Bor, ◌≡◌, ℕ, Bool, true, false, List, [], ◌∷◌, ◌++◌, map, refl, ap, ap₂, sym, ◌∙◌}
use Rattle.mc_term_data.specs.Plain.{PlainTerm, plain_term, term_list}
use Rattle.mc_term_data.specs.declared.term.Term.{Term}
use Rattle.mc_accepted.specs.Resolving.{Unresolved_goal, all_of, one_of, choice, negation, exists, Unresolved_goals, no_goals, goal_then}
use Rattle.mc_names.specs.Linked.{Linked, plain_names}
use Rattle.mc_unresolved.specs.declared.goal.UnresolvedGoal.{UnresolvedGoal, AllOf, OneOf}
use Rattle.mc_unresolved.proofs.Views.{plain-AllOf, plain-OneOf}
use Rattle.mc_unresolved.specs.Unresolved.{plain_unresolved_goal, unresolved_goals}
use Rattle.mc_clauses.specs.Variables.{Numbers, Met, Quantified, quantified_by}
use Rattle.mc_clauses.specs.Unresolved.{Walk, made, on_made, both, under, Goal, no_list, chosen, conjuncts, two_goals}
use Rattle.mc_clauses.specs.declared.terms.Module.{Module}
use Rattle.mc_clauses.specs.declared.variables.Variables.{Variables}
use Rattle.mc_clauses.specs.declared.variables.Inner.{Inner}
use Rattle.mc_clauses.specs.declared.pieces.Chosen.{Chosen}
use Rattle.mc_clauses.specs.declared.view.GoalView.{GoalView}
use Rattle.mc_clauses.specs.declared.view.GoalView.TheVariants as V
use Rattle.mc_clauses.specs.code.Meanings.{Knows, KeepsHidden, Hides, Enters}
use Rattle.mc_clauses.specs.code.Walking.{Walked, Comes}
use Rattle.mc_clauses.specs.code.Views.{viewed, IsView}
use Rattle.mc_clauses.specs.code.GoalWalks.{the_goal, goal_row, plain_chosen, chosen_walk}
use Rattle.mc_clauses.proofs.Walks.{keeps-both, walked-made, walked-on, walked-both, walked-under}

-- A goal is what its view says.
pub walked-view :
    (at : Module) (t : Term) (v w : GoalView) (before after : Variables) (it : UnresolvedGoal)
    → IsView t v → v ≡ w
    → Walked plain_unresolved_goal (viewed (plain_names at.names.now) at.own w).itself before after it
    → Walked plain_unresolved_goal (the_goal at t).itself before after it
walked-view at t v w before after it i e h =
    let names = plain_names at.names.now in
    rw (ap (λ (g : Goal). g.itself) (i names at.own ∙ ap (viewed names at.own) e)) h

pub walked-denied :
    (at : Module) (t : Term) (v w : GoalView) (before after : Variables) (it : UnresolvedGoal)
    → IsView t v → v ≡ w
    → Walked plain_unresolved_goal (viewed (plain_names at.names.now) at.own w).denied before after it
    → Walked plain_unresolved_goal (the_goal at t).denied before after it
walked-denied at t v w before after it i e h =
    let names = plain_names at.names.now in
    rw (ap (λ (g : Goal). g.denied) (i names at.own ∙ ap (viewed names at.own) e)) h

-- no goals
pub none-all : (gs : List UnresolvedGoal) → gs ≡ [] → plain_unresolved_goal (AllOf gs) ≡ all_of no_goals
none-all gs e = plain-AllOf gs ∙ ap (λ (xs : List UnresolvedGoal). all_of (goal_row xs)) e

pub none-one : (gs : List UnresolvedGoal) → gs ≡ [] → plain_unresolved_goal (OneOf gs) ≡ one_of no_goals
none-one gs e = plain-OneOf gs ∙ ap (λ (xs : List UnresolvedGoal). one_of (goal_row xs)) e

-- a conditional with its else part
pub walked-choice :
    (c t : Goal) (rest : Walk Unresolved_goal) (u v w : Variables) (made : Chosen) (e it : UnresolvedGoal)
    → Walked plain_chosen (chosen_walk c t) u v made
    → Walked plain_unresolved_goal rest v w e
    → plain_unresolved_goal it ≡ choice made.vars (plain_unresolved_goal made.condition) (plain_unresolved_goal made.then_part) (plain_unresolved_goal e)
    → Walked plain_unresolved_goal (chosen c t rest) u w it
walked-choice c t rest u v w made e it h g i q m k =
    let r = h q m k in
    let x = chosen_walk c t q m in
    let s = g q x.1 r.knows in
    record {
      is = i ∙ ap₂ (λ (p : List ℕ × (Unresolved_goal × Unresolved_goal)) (y : Unresolved_goal). choice p.0 p.1.0 p.1.1 y) r.is s.is;
      knows = s.knows;
      hidden = keeps-both q m x.1 (rest q x.1).1 r.hidden s.hidden;
    }

-- A CONDITION

-- what is no `some [V] G` is a condition as it stands
pub record Unquantified (g : Goal) : Type 0 where
  pub names : g.names ≡ no_list
  pub condition : g.condition ≡ g.itself

pub unquantified :
    (l : Linked) (own : ℕ) (v : GoalView)
    → ((list g : Bor Term) → v ≡ V.Existential list g → ⊥)
    → Unquantified (viewed l own v)
unquantified l own (V.Existential list g) h = absurd (h list g refl)
unquantified l own _ h = record { names = refl; condition = refl }

abbrev Pair : Type 0
Pair = UnresolvedGoal × UnresolvedGoal

abbrev pair : Pair → Unresolved_goal × Unresolved_goal
pair p = (plain_unresolved_goal p.0, plain_unresolved_goal p.1)

walked-pair :
    (first second : Walk Unresolved_goal) (u v w : Variables) (a b : UnresolvedGoal)
    → Walked plain_unresolved_goal first u v a
    → Walked plain_unresolved_goal second v w b
    → Walked pair (both (λ x y. (x, y)) first second) u w (a, b)
walked-pair first second u v w a b h g = walked-both plain_unresolved_goal plain_unresolved_goal pair (λ x y. (x, y)) first second u v w a b (a, b) h g refl

pub chosen-bare :
    (at : Module) (c : Term) (t : Goal) (v : GoalView) (x y z : Variables) (a b : UnresolvedGoal) (it : Chosen)
    → IsView c v
    → ((list g : Bor Term) → v ≡ V.Existential list g → ⊥)
    → Walked plain_unresolved_goal (the_goal at c).itself x y a
    → Walked plain_unresolved_goal t.itself y z b
    → plain_chosen it ≡ ([], (plain_unresolved_goal a, plain_unresolved_goal b))
    → Walked plain_chosen (chosen_walk (the_goal at c) t) x z it
chosen-bare at c t v x y z a b it i n h g e =
    let names = plain_names at.names.now in
    let u : Unquantified (viewed names at.own v) = unquantified names at.own v n in
    let same : the_goal at c ≡ viewed names at.own v = i names at.own in
    rw (ap (λ (k : Goal). k.names) same ∙ u.names)
    (rw (ap (λ (k : Goal). k.condition) same ∙ u.condition ∙ sym (ap (λ (k : Goal). k.itself) same))
    (walked-on pair plain_chosen (λ p. ([], p)) (both (λ x y. (x, y)) (the_goal at c).itself t.itself) x z (a, b) it
    (walked-pair (the_goal at c).itself t.itself x y z a b h g) e))

pub chosen-under :
    (at : Module) (c : Term) (list g : Bor Term) (t : Goal) (v : GoalView) (u w x y z : Variables) (inner : Inner) (a b : UnresolvedGoal) (it : Chosen)
    → IsView c v → v ≡ V.Existential list g
    → ((q : Numbers) (m : Met) → Knows q m u → Enters q m (quantified_by (plain_term list.now) q m) inner w)
    → Walked plain_unresolved_goal (the_goal at g.now).itself w x a
    → Walked plain_unresolved_goal t.itself x y b
    → ((q : Numbers) (m after : Met) (s : Quantified) → Hides q m s inner.hidden.items → KeepsHidden s.numbers s.met after → Knows s.numbers after y → Knows q after z)
    → plain_chosen it ≡ (inner.vars.items, (plain_unresolved_goal a, plain_unresolved_goal b))
    → Walked plain_chosen (chosen_walk (the_goal at c) t) u z it
chosen-under at c list g t v u w x y z inner a b it i is enters h k leaves so =
    let names = plain_names at.names.now in
    rw (i names at.own ∙ ap (viewed names at.own) is)
    (walked-under pair plain_chosen (plain_term list.now) (λ vs p. (vs, p)) (both (λ x y. (x, y)) (the_goal at g.now).itself t.itself) u w y z inner (a, b) it
    enters (walked-pair (the_goal at g.now).itself t.itself w x y a b h k) leaves so)

-- WHAT IS DENIED

-- what is no `A => B` is denied by its negation
pub denied_other :
    (l : Linked) (own : ℕ) (v : GoalView)
    → ((a b : Bor Term) → v ≡ V.Implication a b → ⊥)
    → (viewed l own v).denied ≡ on_made negation (viewed l own v).itself
denied_other l own (V.Implication a b) h = absurd (h a b refl)
denied_other l own _ h = refl

pub denied-bare :
    (at : Module) (t : Term) (v : GoalView) (u w : Variables) (a it : UnresolvedGoal)
    → IsView t v
    → ((a b : Bor Term) → v ≡ V.Implication a b → ⊥)
    → Walked plain_unresolved_goal (the_goal at t).itself u w a
    → plain_unresolved_goal it ≡ negation (plain_unresolved_goal a)
    → Walked plain_unresolved_goal (the_goal at t).denied u w it
denied-bare at t v u w a it i n h e =
    let names = plain_names at.names.now in
    rw (ap (λ (g : Goal). g.denied) (i names at.own) ∙ denied_other names at.own v n ∙ ap (λ (g : Goal). on_made negation g.itself) (sym (i names at.own)))
    (walked-on plain_unresolved_goal plain_unresolved_goal negation (the_goal at t).itself u w a it h e)

-- DISJUNCTS

pub unconditional :
    (l : Linked) (own : ℕ) (v : GoalView)
    → ((c t : Bor Term) → v ≡ V.Conditional c t → ⊥)
    → (viewed l own v).is_conditional ≡ false
unconditional l own (V.Conditional c t) h = absurd (h c t refl)
unconditional l own _ h = refl
