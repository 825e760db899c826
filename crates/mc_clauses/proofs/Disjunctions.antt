-- Disjunctions as they are made, from what stands around them.
use Rattle.std.proofs.Common.{◌≡◌, ℕ, Bool, true, false, List, [], ◌∷◌, ◌++◌, map, length, Option, Some, None, Vec, Global, refl, ap, ap₂, sym, ◌∙◌}
use Rattle.mc_term_data.specs.Plain.{plain_term, term_list}
use Rattle.mc_term_data.specs.declared.term.Term.{Term}
use Rattle.mc_accepted.specs.Resolving.{Unresolved_goal, choice, one_of, Unresolved_goals, no_goals, goal_then}
use Rattle.mc_unresolved.proofs.Views.{plain-OneOf}
use Rattle.mc_unresolved.specs.declared.goal.UnresolvedGoal.{UnresolvedGoal, OneOf}
use Rattle.mc_unresolved.specs.Unresolved.{plain_unresolved_goal, unresolved_goals}
use Rattle.mc_clauses.specs.Variables.{Numbers, Met}
use Rattle.mc_clauses.specs.Unresolved.{Walk, made, on_made, both, Goal, conditional, either, conjuncts, disjuncts, one_or_several, alone}
use Rattle.mc_clauses.specs.declared.terms.Module.{Module}
use Rattle.mc_clauses.specs.declared.variables.Variables.{Variables}
use Rattle.mc_clauses.specs.declared.pieces.Chosen.{Chosen}
use Rattle.mc_clauses.specs.declared.pieces.OuterDisjunction.{OuterDisjunction}
use Rattle.mc_clauses.specs.declared.pieces.Unclosed.{Unclosed}
use Rattle.mc_clauses.specs.code.Meanings.{Knows, KeepsHidden}
use Rattle.mc_clauses.specs.code.Walking.{Walked, Comes}
use Rattle.mc_clauses.specs.code.GoalWalks.{the_goal, the_goals, goal_row, plain_chosen, Choices, chosen_walk, goals_before, before_else, one_around, over_around, enclosed, closed, GoalsTaken, Passed, Passes}
use Rattle.mc_clauses.proofs.Walks.{keeps-same, keeps-both}

pub enclosed-push : (fs : List OuterDisjunction) (f : OuterDisjunction) (g : Unresolved_goal) → enclosed (fs ++ f ∷ []) g ≡ enclosed fs (over_around f g)
enclosed-push [] f g = refl
enclosed-push (e ∷ fs) f g = ap (over_around e) (enclosed-push fs f g)

pub goals_before-push : (done : List UnresolvedGoal) (g : UnresolvedGoal) (gs : Unresolved_goals) → goals_before (done ++ g ∷ []) gs ≡ goals_before done (goal_then (plain_unresolved_goal g) gs)
goals_before-push [] g gs = refl
goals_before-push (d ∷ done) g gs = ap (goal_then (plain_unresolved_goal d)) (goals_before-push done g gs)

pub goals_before-none : (done : List UnresolvedGoal) → goals_before done no_goals ≡ goal_row done
goals_before-none [] = refl
goals_before-none (d ∷ done) = ap (goal_then (plain_unresolved_goal d)) (goals_before-none done)

-- disjuncts in front of one
pub row-before : (done : List UnresolvedGoal) (g : UnresolvedGoal) → goal_row (done ++ g ∷ []) ≡ goals_before done (alone (plain_unresolved_goal g))
row-before [] g = refl
row-before (d ∷ done) g = ap (goal_then (plain_unresolved_goal d)) (row-before done g)

-- several disjuncts, and one
pub several_are : (gs row : List UnresolvedGoal) → row ≡ gs → (length gs ≡ 1 → ⊥) → plain_unresolved_goal (OneOf row) ≡ one_or_several (goal_row gs)
several_are [] row e h = plain-OneOf row ∙ ap (λ (xs : List UnresolvedGoal). one_of (goal_row xs)) e
several_are (a ∷ []) row e h = absurd (h refl)
several_are (a ∷ b ∷ gs) row e h = plain-OneOf row ∙ ap (λ (xs : List UnresolvedGoal). one_of (goal_row xs)) e

-- GOALS ONE BEHIND ANOTHER

pub goals-none : (at : Module) (q : Numbers) (m : Met) (all : List Term) (v : Variables) → Knows q m v → GoalsTaken at q m all all [] v
goals-none at q m all v k = record { met = m; knows = k; hidden = keeps-same q m; is = refl }

pub goals-more :
    (at : Module) (q : Numbers) (m : Met) (all rest : List Term) (x : Term) (done : List UnresolvedGoal) (u : UnresolvedGoal) (v w : Variables)
    → GoalsTaken at q m all (x ∷ rest) done v → Walked plain_unresolved_goal (the_goal at x).itself v w u → GoalsTaken at q m all rest (done ++ u ∷ []) w
goals-more at q m all rest x done u v w t h =
    let r = h q t.met t.knows in
    let next = ((the_goal at x).itself q t.met).1 in
    let gs = conjuncts (the_goals at rest) q next in
    record {
      met = next;
      knows = r.knows;
      hidden = keeps-both q m t.met next t.hidden r.hidden;
      is =
          t.is
          ∙ ap (λ (y : Unresolved_goal). (goals_before done (goal_then y gs.0), gs.1)) (sym r.is)
          ∙ ap (λ (y : Unresolved_goals). (y, gs.1)) (sym (goals_before-push done u gs.0));
    }

pub goals-all :
    (at : Module) (q : Numbers) (m : Met) (all : List Term) (done : List UnresolvedGoal) (v : Variables)
    → GoalsTaken at q m all [] done v → Comes q m (goal_row done) (conjuncts (the_goals at all) q m) v
goals-all at q m all done v t =
    record {
      is = sym (ap (λ r. r.0) t.is ∙ goals_before-none done);
      knows = rw (ap (λ r. r.1) t.is) t.knows;
      hidden = rw (ap (λ r. r.1) t.is) t.hidden;
    }

-- DISJUNCTS

-- no disjunct is made yet
pub passed-none :
    (at : Module) (q : Numbers) (m : Met) (ts : List Term) (u : Unclosed) (v : Variables)
    → u.around.items ≡ [] → u.made.items ≡ [] → Knows q m v
    → Passed at (either (the_goals at ts)).itself q m u ts v
passed-none at q m ts u v a d k =
    let r = disjuncts (the_goals at ts) q m in
    record {
      met = m;
      knows = k;
      hidden = keeps-same q m;
      is = ap₂ (λ (fs : List OuterDisjunction) (gs : List UnresolvedGoal). (closed fs (goals_before gs r.0), r.1)) (sym a) (sym d);
    }

-- none is left
pub passed-all :
    (at : Module) (q : Numbers) (m : Met) (all : Walk Unresolved_goal) (u : Unclosed) (v : Variables) (it : UnresolvedGoal)
    → Passed at all q m u [] v
    → plain_unresolved_goal it ≡ closed u.around.items (goal_row u.made.items)
    → Comes q m (plain_unresolved_goal it) (all q m) v
passed-all at q m all u v it p e =
    record {
      is = e ∙ ap (closed u.around.items) (sym (goals_before-none u.made.items)) ∙ sym (ap (λ x. x.0) p.is);
      knows = rw (ap (λ x. x.1) p.is) p.knows;
      hidden = rw (ap (λ x. x.1) p.is) p.hidden;
    }

-- a conditional, before whatever follows
pub passes-conditional :
    (at : Module) (first : Term) (others : List Term) (c t : Goal) (old new : Unclosed) (before after : Variables) (made : Chosen)
    → the_goal at first ≡ conditional c t
    → Walked plain_chosen (chosen_walk c t) before after made
    → new.around.items ≡ old.around.items ++ one_around old.made (Some made) ∷ []
    → new.made.items ≡ []
    → Passes at (first ∷ others) others old new before after
passes-conditional at first others c t old new before after it is h around none all q m p =
    let gs = the_goals at others in
    let r = h q p.met p.knows in
    let x : Choices × Met = chosen_walk c t q p.met in
    let s = disjuncts gs q x.1 in
    let start : disjuncts (the_goals at (first ∷ others)) q p.met ≡ (alone (choice x.0.0 x.0.1.0 x.0.1.1 (one_or_several s.0)), s.1) =
    ap (λ (g : Goal). disjuncts (g ∷ gs) q p.met) is in
    record {
      met = x.1;
      knows = r.knows;
      hidden = keeps-both q m p.met x.1 p.hidden r.hidden;
      is =
          p.is
          ∙ ap (λ (y : Unresolved_goals × Met). (closed old.around.items (goals_before old.made.items y.0), y.1)) start
          ∙ ap (λ (y : Choices). (closed old.around.items (goals_before old.made.items (alone (choice y.0 y.1.0 y.1.1 (one_or_several s.0)))), s.1)) (sym r.is)
          ∙ ap (λ (g : Unresolved_goal). (g, s.1)) (sym (enclosed-push old.around.items (one_around old.made (Some it)) (one_or_several s.0)))
          ∙ ap₂ (λ (fs : List OuterDisjunction) (done : List UnresolvedGoal). (closed fs (goals_before done s.0), s.1)) (sym around) (sym none);
    }

-- any other goal
pub passes-goal :
    (at : Module) (first : Term) (others : List Term) (old new : Unclosed) (before after : Variables) (made : UnresolvedGoal)
    → (the_goal at first).is_conditional ≡ false
    → Walked plain_unresolved_goal (the_goal at first).itself before after made
    → new.around ≡ old.around
    → new.made.items ≡ old.made.items ++ made ∷ []
    → Passes at (first ∷ others) others old new before after
passes-goal at first others old new before after it plain h around more all q m p =
    let g = the_goal at first in
    let gs = the_goals at others in
    let r = h q p.met p.knows in
    let x = g.itself q p.met in
    let s = disjuncts gs q x.1 in
    let start : disjuncts (g ∷ gs) q p.met ≡ (goal_then x.0 s.0, s.1) = rw plain refl in
    record {
      met = x.1;
      knows = r.knows;
      hidden = keeps-both q m p.met x.1 p.hidden r.hidden;
      is =
          p.is
          ∙ ap (λ (y : Unresolved_goals × Met). (closed old.around.items (goals_before old.made.items y.0), y.1)) start
          ∙ ap (λ (y : Unresolved_goal). (closed old.around.items (goals_before old.made.items (goal_then y s.0)), s.1)) (sym r.is)
          ∙ ap (λ (gs' : Unresolved_goals). (closed old.around.items gs', s.1)) (sym (goals_before-push old.made.items it s.0))
          ∙ ap (λ (done : List UnresolvedGoal). (closed old.around.items (goals_before done s.0), s.1)) (sym more)
          ∙ ap (λ (fs : Vec OuterDisjunction Global). (closed fs.items (goals_before new.made.items s.0), s.1)) (sym around);
    }

-- a disjunction that is the last disjunct
pub passes-last :
    (at : Module) (last : Term) (parts : List Term) (old new : Unclosed) (now : Variables)
    → the_goal at last ≡ either (the_goals at parts)
    → new.around.items ≡ old.around.items ++ one_around old.made None ∷ []
    → new.made.items ≡ []
    → Passes at (last ∷ []) parts old new now now
passes-last at last parts old new now is around none all q m p =
    let s = disjuncts (the_goals at parts) q p.met in
    let start : disjuncts (the_goals at (last ∷ [])) q p.met ≡ (alone (one_or_several s.0), s.1) =
    ap (λ (g : Goal). disjuncts (g ∷ []) q p.met) is in
    record {
      met = p.met;
      knows = p.knows;
      hidden = p.hidden;
      is =
          p.is
          ∙ ap (λ (y : Unresolved_goals × Met). (closed old.around.items (goals_before old.made.items y.0), y.1)) start
          ∙ ap (λ (g : Unresolved_goal). (g, s.1)) (sym (enclosed-push old.around.items (one_around old.made None) (one_or_several s.0)))
          ∙ ap₂ (λ (fs : List OuterDisjunction) (done : List UnresolvedGoal). (closed fs (goals_before done s.0), s.1)) (sym around) (sym none);
    }
