-- Goals that are seen to wait: as long as some of their variables are free, whatever else is so, and
-- however many goals ran. They needn't be tried.
use Rattle.std.specs.Prelude.{◌≡◌, ◌<◌, ℕ, Bool, true, false, not, ◌&&◌, ◌||◌, nat_eq, nat_lt, List, [], ◌∷◌, ◌++◌, map, length, get_or, Option, Some, None}
use Rattle.std.specs.List.{list_any, list_all, remove}
use Rattle.mc_source.specs.Determinism.{is_zero}
use Rattle.mc_program.specs.Programs.{Source}
use Rattle.mc_program.specs.declared.builtin.Builtin.{Builtin}
use Rattle.mc_model.specs.Flat as F
use Rattle.mc_model.specs.Flat.{Flat_goal, Flat_goals, flat_then, flats, variables_of}
use Rattle.mc_model.specs.Stream.{is_bound}
use Rattle.mc_accepted.specs.Arranged.{Declared, Fault, waits, negated_binds, branches_differ, lacks, Arranged, runs, breaks, is_there}
use Rattle.mc_accepted.specs.Ordered.{Mode, modes_of, builtin_most, times_in}
use Rattle.mc_mode_state.specs.States.{point_of}
use Rattle.mc_mode_state.specs.Tables.{node_in}
use Rattle.mc_mode_state.specs.declared.state.State.{State}
use Rattle.mc_modes.specs.code.Waiting.{nothing}

-- goals wait
abbrev pub OfWaiting : Fault → Type 0
OfWaiting (waits k vs) = Unit {0}
OfWaiting (negated_binds v) = ⊥
OfWaiting (branches_differ v) = ⊥
OfWaiting lacks = ⊥

abbrev pub Waits : Arranged ℕ → Type 0
Waits (runs gs o n zs) = ⊥
Waits (breaks f) = OfWaiting f

-- which variables are free
abbrev pub Free : Type 0
Free = ℕ → Bool

-- one of a mode's inputs is free
abbrev pub input_is_free : Free → List Mode → List ℕ → Bool
input_is_free free [] xs = false
input_is_free free (m ∷ ms) [] = false
input_is_free free (m ∷ ms) (x ∷ xs) = (is_bound m.0 && free x) || input_is_free free ms xs

-- those that are free, and none of these
abbrev pub free_beside : Free → List ℕ → Free
free_beside free vs x = free x && nat_eq (times_in x vs) 0

-- the variables of a state that are free
abbrev pub free_now : State → Free
free_now s x = nat_lt x (length s.insts.items) && not (is_bound (point_of s.insts.items x))

-- the variables of a state, but for these
abbrev pub kept_beside : State → List ℕ → ℕ → Bool
kept_beside s vs x = nat_lt x (length s.insts.items) && nat_eq (times_in x vs) 0

-- the node of one symbol over insts was found
abbrev pub was_found : State → (symbol : ℕ) → List ℕ → Bool
was_found s f is = is_there (node_in s.nodes.overs f is)

-- which variables a mild goal changes
abbrev pub changed_by : Flat_goal → List ℕ
changed_by (F.Made x s ys) = x ∷ []
changed_by g = variables_of g

abbrev pub changed_by_each : List Flat_goal → List ℕ
changed_by_each [] = []
changed_by_each (g ∷ gs) = changed_by g ++ changed_by_each gs

-- An equation of a variable and a constructor or a constant, among goals that change these variables
-- with it: the variable is free, and just this goal changes it; none changes those under the
-- constructor; and one of them is free, or the node over their insts was found.
abbrev pub making_is_mild : State → (changed : List ℕ) → Flat_goal → Bool
making_is_mild s vs (F.Made x f ys) =
    (free_now s x && nat_eq (times_in x vs) 1)
    && (list_all (kept_beside s vs) ys
    && (list_any (free_beside (free_now s) vs) ys
    || was_found s f (map (point_of s.insts.items) ys)))
making_is_mild s vs (F.Is x v) = free_now s x && nat_eq (times_in x vs) 1
making_is_mild s vs g = true

module _ (P : Source) (declared : ℕ → List Declared) where
  -- a call waits where no mode has all its inputs
  abbrev pub call_sleeps : Free → Option Builtin → (pred : ℕ) → List ℕ → Bool
  call_sleeps free None p xs = list_all (λ (d : Declared). input_is_free free d.modes xs) (declared p)
  call_sleeps free (Some op) p xs = input_is_free free (modes_of op) xs

  abbrev pub atom_sleeps : Free → Flat_goal → Bool
  atom_sleeps free (F.Same x y) = free x && free y
  atom_sleeps free (F.Made x s ys) = free x && list_any free ys
  atom_sleeps free (F.Call p xs) = call_sleeps free (P.preds p).builtin p xs
  atom_sleeps free (F.Is x v) = false
  atom_sleeps free (F.And gs) = false
  atom_sleeps free (F.Or gs) = false
  atom_sleeps free (F.If vs g h k) = false
  atom_sleeps free (F.Not g) = false
  atom_sleeps free (F.Exists vs g) = false

  -- a call comes back
  abbrev pub call_returns : Option Builtin → (pred : ℕ) → Bool
  call_returns None p = list_all (λ (d : Declared). not d.never) (declared p)
  call_returns (Some op) p = not (is_zero (builtin_most op))

  -- a goal that waits, or runs to a reachable end, if it is no making that isn't mild
  abbrev pub may_be_mild : Flat_goal → Bool
  may_be_mild (F.Same x y) = true
  may_be_mild (F.Call p xs) = call_returns (P.preds p).builtin p
  may_be_mild (F.Made x s ys) = true
  may_be_mild (F.Is x v) = true
  may_be_mild (F.And gs) = false
  may_be_mild (F.Or gs) = false
  may_be_mild (F.If vs g h k) = false
  may_be_mild (F.Not g) = false
  may_be_mild (F.Exists vs g) = false

  -- A goal sleeps at a state as long as the state's variables but these are as they are there: an atom; a
  -- goal around one that sleeps; a condition, or a first branch, that does; and a conjunction of mild
  -- goals and one that sleeps whatever those change.
  pub data Asleep (s : State) : List ℕ → Flat_goal → Type 0 where
    atom :
        {vs : List ℕ} {g : Flat_goal} → atom_sleeps (free_beside (free_now s) vs) g ≡ true
        → Asleep s vs g
    negated : {vs : List ℕ} {g : Flat_goal} → Asleep s vs g → Asleep s vs (F.Not g)
    quantified :
        {vs xs : List ℕ} {g : Flat_goal} → Asleep s vs g → Asleep s vs (F.Exists xs g)
    in_condition :
        {vs xs : List ℕ} {g h k : Flat_goal} → Asleep s vs g → Asleep s vs (F.If xs g h k)
    in_first :
        {vs : List ℕ} {g : Flat_goal} {gs : Flat_goals} → Asleep s vs g
        → Asleep s vs (F.Or (flat_then g gs))
    among :
        {vs : List ℕ} (gs : List Flat_goal) (k : ℕ) → k < length gs
        → list_all may_be_mild (remove gs k) ≡ true
        → list_all (making_is_mild s (vs ++ changed_by_each (remove gs k))) (remove gs k) ≡ true
        → Asleep s (vs ++ changed_by_each (remove gs k)) (get_or gs k nothing)
        → Asleep s vs (F.And (flats gs))
