-- Waiting goals by their places, and the beginning of goals in turn.
use Rattle.std.proofs.Common.{◌≡◌, ◌∙◌, ℕ, zero, suc, ◌<◌, ◌≤◌, ◌+◌, true, List, [], ◌∷◌, ◌++◌, map, length, get_or, take, drop, Some, None, refl, sym, ap, ap₂, subst, arith, append-nil}
use Rattle.std.specs.List.{remove}
use Rattle.std.proofs.lemmas.List.{get_or-map, length-map, take_all, drop_more, take-map, drop-map, map-append}
use Rattle.mc_program.specs.Programs.{TypeTerm, Source}
use Rattle.mc_program.specs.declared.program.Program.{Program}
use Rattle.mc_model.specs.Flat.{Flat_goal, Flat_goals, flats, variables_of, variables_of_all}
use Rattle.mc_model.specs.Lists.{from}
use Rattle.mc_model.specs.Scheduled.{Nodes, no_nodes}
use Rattle.mc_model.specs.PlainGoals.{plain_flat}
use Rattle.mc_model.specs.declared.flat.Flat.{Flat}
use Rattle.mc_model.specs.declared.inst.Sig.{Sig}
use Rattle.mc_accepted.specs.Arranged.{Operations, Point, Declared, Fault, Arranged, runs, breaks, Waiting, Picked, takes, none_runs, behind, goes_on, in_turn, pick, stuck}
use Rattle.mc_accepted.specs.NodeOracle.{of_nodes}
use Rattle.mc_accepted.specs.Ordered.{times_in}
use Rattle.mc_procs.specs.Named.{NumbersBelow}
use Rattle.mc_procs.specs.Procedures.{PlainProcs, source_of}
use Rattle.mc_mode_state.specs.States.{point_of, SameState}
use Rattle.mc_mode_state.specs.Agreeing.{StateExtends}
use Rattle.mc_mode_state.specs.declared.state.State.{State}
use Rattle.mc_modes.specs.Signatures.{declared_in}
use Rattle.mc_modes.specs.Fitting.{AllKnown, GoalFits, GoalsFit}
use Rattle.mc_modes.specs.code.Waiting.{nothing, goals_at, variables_of_each, Counted, all_waiting}
use Rattle.mc_modes.proofs.Counts.{below-more, times-at}
use Rattle.mc_modes.proofs.Fits.{goal-at, goal-later, each-variables, same-program}
use Rattle.mc_modes.proofs.Turning.{TurnsSoFar, Tally}
use Rattle.mc_modes.proofs.Turns.{turn, unfinished}

pub numbers-from : (n k m : ℕ) → n + k ≤ m → NumbersBelow m (from n k)
numbers-from n zero m h = tt
numbers-from n (suc k) m h = (omega arith, numbers-from (suc n) k m (omega arith))

goals-from : (gs : List Flat_goal) (n k : ℕ) → n + k ≤ length gs → map (λ j. get_or gs j nothing) (from n k) ≡ take k (drop n gs)
goals-from gs n zero h = refl
goals-from gs n (suc k) h =
    ap (λ (hs : List Flat_goal). get_or gs n nothing ∷ hs) (goals-from gs (suc n) k (omega arith))
    ∙ sym (ap (take (suc k)) (drop_more gs n nothing (omega arith)) ∙ ap (λ m. get_or gs n nothing ∷ take k (drop m gs)) (let e : n + 1 ≡ suc n = omega arith in e))

-- all goals wait
pub goals-all : (gs : List Flat) (ks : List ℕ) → ks ≡ from 0 (length gs) → goals_at gs ks ≡ map plain_flat gs
goals-all gs ks e =
    let l = length-map gs plain_flat in
    ap (goals_at gs) e
    ∙ (goals-from (map plain_flat gs) 0 (length gs) (omega (arith, l)) ∙ take_all (length gs) (map plain_flat gs) (omega (arith, l)))

pub goals-long : (gs : List Flat) (ks : List ℕ) → length (goals_at gs ks) ≡ length ks
goals-long gs ks = length-map ks (λ k. get_or (map plain_flat gs) k nothing)

-- a goal is taken out
pub goals-removed : (gs : List Flat) (ks : List ℕ) (k : ℕ) → goals_at gs (remove ks k) ≡ remove (goals_at gs ks) k
goals-removed gs ks k =
    let f : ℕ → Flat_goal = λ j. get_or (map plain_flat gs) j nothing in
    map-append f (take k ks) (drop (suc k) ks)
    ∙ sym (ap₂ (λ (xs ys : List Flat_goal). xs ++ ys) (take-map f k ks) (drop-map f (suc k) ks))

-- the goal in a place
pub goal-in : (gs : List Flat) (ks : List ℕ) (k : ℕ) (d : Flat) → k < length ks → get_or ks k 0 < length gs
    → get_or (goals_at gs ks) k nothing ≡ plain_flat (get_or gs (get_or ks k 0) d)
goal-in gs ks k d h l =
    get_or-map (λ j. get_or (map plain_flat gs) j nothing) ks k 0 nothing h
    ∙ get_or-map plain_flat gs (get_or ks k 0) d nothing l

pub place-below : (n : ℕ) (ks : List ℕ) (k : ℕ) → NumbersBelow n ks → k < length ks → get_or ks k 0 < n
place-below n [] k w h = absurd (omega arith)
place-below n (j ∷ ks) zero w h = w.0
place-below n (j ∷ ks) (suc k) w h = place-below n ks k w.1 (omega arith)

-- the variables of a goal that waits come before those of the goals behind it
pub each-from : (gs : List Flat) (ks : List ℕ) (k : ℕ) (d : Flat) → NumbersBelow (length gs) ks → k < length ks
    → variables_of (plain_flat (get_or gs (get_or ks k 0) d)) ++ variables_of_each (goals_at gs (drop (k + 1) ks)) ≡ variables_of_each (goals_at gs (drop k ks))
each-from gs ks k d w h =
    ap (λ g. variables_of g ++ variables_of_each (goals_at gs (drop (k + 1) ks))) (sym (get_or-map plain_flat gs (get_or ks k 0) d nothing (place-below (length gs) ks k w h)))
    ∙ ap (λ js. variables_of_each (goals_at gs js)) (sym (drop_more ks k 0 h))

-- it fits
pub placed-fits : (q p : PlainProcs) (s u : State) (gs : List Flat) (ks : List ℕ) (k : ℕ) (d : Flat) → NumbersBelow (length gs) ks → k < length ks → SameState s u → StateExtends q p s u
    → GoalsFit q s (flats (map plain_flat gs)) → GoalFits p u (plain_flat (get_or gs (get_or ks k 0) d))
placed-fits q p s u gs ks k d w h same m f =
    let l = place-below (length gs) ks k w h in
    goal-later q p s u (plain_flat (get_or gs (get_or ks k 0) d)) (let e = same.count in omega (arith, e)) m
    (subst (GoalFits q s) (get_or-map plain_flat gs (get_or ks k 0) d nothing l)
    (goal-at q s (map plain_flat gs) (get_or ks k 0) nothing f (omega (arith, l, length-map gs plain_flat))))

pub placed-counted : (s u : State) (gs : List Flat) (ks : List ℕ) (k : ℕ) (d : Flat) → NumbersBelow (length gs) ks → k < length ks → SameState s u
    → Counted (variables_of_each (goals_at gs ks)) s → Counted (variables_of (plain_flat (get_or gs (get_or ks k 0) d))) u
placed-counted s u gs ks k d w h same c x =
    let l = place-below (length gs) ks k w h in
    let e = ap (λ g. times_in x (variables_of g)) (goal-in gs ks k d h l) in
    omega (arith, c x, same.outside x, times-at x (goals_at gs ks) k (omega (arith, h, goals-long gs ks)), e)

-- no goal ran yet
module _ (Op : Operations ℕ) (P : Source) (declared : ℕ → List Declared) (T : ℕ → TypeTerm) where
  behind-none : (a : Arranged ℕ) → ((gs : Nodes) → behind no_nodes (behind gs a) ≡ behind gs a)
  behind-none (breaks f) gs = refl
  behind-none (runs hs o n zs) gs = refl

  on-none : (f : Fault) (p : Picked ℕ) (rest : List ℕ → List (Waiting ℕ) → ℕ → Point ℕ → Arranged ℕ) → behind no_nodes (goes_on f p rest) ≡ goes_on f p rest
  on-none f (none_runs None) rest = refl
  on-none f (none_runs (Some g)) rest = refl
  on-none f (takes vs ws gs None n) rest = refl
  on-none f (takes vs ws gs (Some c) n) rest = behind-none (rest vs ws n c) gs

  pub turn-none : (k : ℕ) (ws : List (Waiting ℕ)) (O : List ℕ) (n : ℕ) (b : Point ℕ) → behind no_nodes (in_turn Op P declared T k ws O n b) ≡ in_turn Op P declared T k ws O n b
  turn-none zero ws O n b = refl
  turn-none (suc k) ws O n b = on-none (stuck Op P declared T ws b) (pick [] ws O n b) (λ vs rest m c. in_turn Op P declared T k rest (O ++ vs) m c)

pub turns-begin : (sigs : List Sig) (all waiting : List Flat_goal) (q : PlainProcs) (s : State) → waiting ≡ all → TurnsSoFar sigs all [] true no_nodes waiting q q s s
turns-begin sigs all waiting q s e = λ first O C T w z.
    let n = length s.insts.items in
    let b = point_of s.insts.items in
    ap₂ (λ (gs : List Flat_goal) (P : List ℕ). unfinished true no_nodes (turn (of_nodes C) (source_of q) (declared_in sigs) T gs P n b) n) e (append-nil O)
    ∙ turn-none (of_nodes C) (source_of q) (declared_in sigs) T (length all) (all_waiting (of_nodes C) (source_of q) (declared_in sigs) T all) O n b

pub tally-begin : (gs : List Flat) (waiting : List Flat_goal) (s : State) → waiting ≡ map plain_flat gs → Tally (map plain_flat gs) [] [] waiting s s
tally-begin gs waiting s e = record {
  counts = λ x. omega arith;
  total = λ x.
      let h : times_in x (variables_of_each waiting) ≡ times_in x (variables_of_all (flats (map plain_flat gs))) = ap (times_in x) (ap variables_of_each e ∙ sym (each-variables gs)) in
      omega (arith, h);
}

pub goals-later : (q r : PlainProcs) (s t : State) (gs : Flat_goals) → length s.insts.items ≤ length t.insts.items → StateExtends q r s t → GoalsFit q s gs → GoalsFit r t gs
goals-later q r s t gs h m f = record {
  variables = below-more (length s.insts.items) (length t.insts.items) (variables_of_all gs) h f.variables;
  known = subst (λ (P : Program). AllKnown P gs) (sym (same-program q r s t m)) f.known;
}
