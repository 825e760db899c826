-- What goals open, one after another.
use Rattle.std.proofs.Common.{◌≡◌, ℕ, ◌+◌, ◌<◌, List, [], ◌++◌, length, map, drop, get_or, Bool, true, false, if◌then◌else◌, sym, ap, ◌∙◌, append_assoc}
use Rattle.std.proofs.lemmas.List.{append-nil, drop_more}
use Rattle.mc_model.specs.Scheduled.{nodes}
use Rattle.mc_model.specs.PlainGoals.{plain_node, plain_sched}
use Rattle.mc_model.specs.declared.sched.GoalNode.{GoalNode}
use Rattle.mc_accepted.specs.Switched as spec
use Rattle.mc_accepted.specs.Switched.{is_equation, openings, openings_in, openings_all}
use Rattle.mc_procs.proofs.Views.{plain_node-open}

-- what the goals from a number on open
abbrev opened_from : ℕ → List GoalNode → List spec.Opening
opened_from i gs = openings_all (nodes (map plain_node (drop i gs)))

from_here : (gs : List GoalNode) (i : ℕ) (g : GoalNode) (b : Bool) → i < length gs → g ≡ get_or gs i g → is_equation (plain_node g) ≡ b → opened_from i gs ≡ (if b then openings_in (plain_sched g.goal) ++ opened_from (i + 1) gs else [])
from_here gs i g b lt e is =
    let rest = opened_from (i + 1) gs in
    ap (λ (l : List GoalNode). openings_all (nodes (map plain_node l))) (drop_more gs i g lt)
    ∙ ap (λ (x : GoalNode). if is_equation (plain_node x) then openings (plain_node x) ++ rest else []) (sym e)
    ∙ ap (λ (t : Bool). if t then openings (plain_node g) ++ rest else []) is
    ∙ ap (λ n. if b then openings n ++ rest else []) (plain_node-open g)

pub stops : (gs : List GoalNode) (i : ℕ) (g : GoalNode) (now all : List spec.Opening) → i < length gs → g ≡ get_or gs i g → is_equation (plain_node g) ≡ false → now ++ openings_all (nodes (map plain_node (drop i gs))) ≡ all → now ≡ all
stops gs i g now all lt e halts h = sym (append-nil now) ∙ ap (λ os. now ++ os) (sym (from_here gs i g false lt e halts)) ∙ h

pub goes : (gs : List GoalNode) (i : ℕ) (g : GoalNode) (before after all : List spec.Opening) → i < length gs → g ≡ get_or gs i g → is_equation (plain_node g) ≡ true → after ≡ before ++ openings_in (plain_sched g.goal) → before ++ openings_all (nodes (map plain_node (drop i gs))) ≡ all → after ++ openings_all (nodes (map plain_node (drop (i + 1) gs))) ≡ all
goes gs i g before after all lt e holds put h =
    let rest = opened_from (i + 1) gs in
    ap (λ os. os ++ rest) put
    ∙ append_assoc before (openings_in (plain_sched g.goal)) rest
    ∙ ap (λ os. before ++ os) (sym (from_here gs i g true lt e holds))
    ∙ h
