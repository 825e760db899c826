-- What flat code does: the event list of a place, with a tick for each place that is run. (Somogyi,
-- Henderson, Conway: The execution algorithm of Mercury, 1996; this project's form of it.)
use Rattle.std.specs.Prelude.{ℕ, zero, suc, ◌<◌, ◌≤◌, ◌+◌, ◌≡◌, Bool, false, List, [], ◌∷◌, map, take, drop, length, Option, Some, None, nat_eq, slice_get, slice_index_or, if◌then◌else◌}
use Rattle.mc_program.specs.Values.{Val, int, char, str, con, state, plain_value, same_value}
use Rattle.mc_program.specs.declared.builtin.Builtin.{Builtin}
use Rattle.mc_model.specs.EventList as L
use Rattle.mc_model.specs.EventList.{Items, budget, of_option}
use Rattle.mc_model.specs.Outcomes.{Outcome}
use Rattle.mc_model.specs.Scheduled.{Label, for_symbol, for_constant}
use Rattle.mc_model.specs.Stream.{Bindings, meet, unify, gather, same_items, made_items, apply_items, ready, enter, leave}
use Rattle.mc_flat_code.specs.Ticked.{Ticked, End, Stuck, Stopped, Answer, Called, Tick, append, bind, choose, first, negate, follow, at_height}
use Rattle.mc_flat_code.specs.declared.code.Span.{Span}
use Rattle.mc_flat_code.specs.declared.code.Instr.{Instr}
use Rattle.mc_flat_code.specs.declared.code.Instr.TheVariants as I
use Rattle.mc_flat_code.specs.declared.code.Key.{Key}
use Rattle.mc_flat_code.specs.declared.code.Key.TheVariants as K
use Rattle.mc_flat_code.specs.declared.code.Branch.{Branch}
use Rattle.mc_flat_code.specs.declared.code.Code.{Code}
use Rattle.mc_flat_code.specs.declared.code.Body.{Body}
use Rattle.mc_flat_code.specs.declared.code.FlatProgram.{FlatProgram}

-- the elements of a part of a list
abbrev pub part_of : {A : Type 0} → List A → Span → List A
part_of xs p = take p.count (drop p.start xs)

-- a part that lies within its list
abbrev pub IsWithin : {A : Type 0} → List A → Span → Type 0
IsWithin xs p = p.start + p.count ≤ length xs

-- the goal in a place, where there is one
abbrev pub instr_at : Code → ℕ → Option Instr
instr_at code pc = slice_get code.instrs.items pc

abbrev pub variables_at : Code → Span → List ℕ
variables_at code p = part_of code.variables.items p

abbrev pub value_at : Code → ℕ → Option Val
value_at code k = slice_get (map plain_value code.values.items) k

-- whether a value has the label's symbol on top, or is its constant
abbrev pub fits : Label → Val → Bool
fits (for_symbol f) (int n) = false
fits (for_symbol f) (char c) = false
fits (for_symbol f) (str t) = false
fits (for_symbol f) (con g vs) = nat_eq f g
fits (for_symbol f) (state t k) = false
fits (for_constant c) w = same_value w c

-- what a branch is for
abbrev pub constant_label : Option Val → Option Label
constant_label None = None
constant_label (Some c) = Some (for_constant c)

abbrev pub label_of : Code → Key → Option Label
label_of code (K.Symbol f) = Some (for_symbol f)
label_of code (K.Constant k) = constant_label (value_at code k)

abbrev pub fits_label : Val → Option Label → Bool
fits_label w None = false
fits_label w (Some l) = fits l w

-- the places of the branches that a value fits
abbrev pub fitting : Code → Val → List Branch → List ℕ
fitting code w [] = []
fitting code w (b ∷ bs) =
    if fits_label w (label_of code b.key) then b.place ∷ fitting code w bs else fitting code w bs

-- a branch is taken where it is the only one; where several fit, all are tried
abbrev pub branch_items :
    (ℕ → Bindings → Ticked Bindings) → ℕ → Bindings → List ℕ → Ticked Bindings
branch_items go other e [] = End
branch_items go other e (p ∷ []) = go p e
branch_items go other e (p ∷ r ∷ ps) = go other e

abbrev pub case_items :
    Code
    → (ℕ → Bindings → Ticked Bindings) → ℕ → Bindings → List Branch → Option Val → Ticked Bindings
case_items code go other e bs None = go other e
case_items code go other e bs (Some w) = branch_items go other e (fitting code w bs)

abbrev pub constant_items : ℕ → Bindings → Option Val → Items Bindings
constant_items x e None = L.Stuck
constant_items x e (Some v) = of_option (meet x v e (e x))

-- what the calls of a run do, with ticks
abbrev pub TickedCalls : Type 0
TickedCalls = ℕ → ℕ → List (Option Val) → Ticked (List (Option Val))

module _ (outcome : Builtin → List Val → Outcome) where
  -- What a goal does, by what calls do, at a height, and by what is done at the places where it goes
  -- on.
  abbrev pub list_of :
      Code
      → TickedCalls → ℕ → (ℕ → Bindings → Ticked Bindings) → Instr → Bindings → Ticked Bindings
  list_of code call h go I.Done e = Answer e End
  list_of code call h go I.Fail e = End
  list_of code call h go (I.Same x y next) e = follow (same_items x y e (e x) (e y)) (go next)
  list_of code call h go (I.Made x f ys next) e =
      follow (made_items x f (variables_at code ys) e (e x)) (go next)
  list_of code call h go (I.Constant x k next) e =
      follow (constant_items x e (value_at code k)) (go next)
  list_of code call h go (I.Or l r) e = append (go l e) (go r e)
  list_of code call h go (I.If c t f) e = choose (go c e) (go t) (go f e)
  list_of code call h go (I.Not g next) e = bind (negate e (go g e)) (go next)
  list_of code call h go (I.Once g next) e = bind (first (go g e)) (go next)
  list_of code call h go (I.Call p xs last next) e =
      at_height last h
      (λ k. bind (call k p (map e (variables_at code xs)))
      (λ vs. follow (of_option (unify (variables_at code xs) vs e)) (go next)))
  list_of code call h go (I.Apply op xs ys next) e =
      follow
      (apply_items (outcome op) (variables_at code ys) e (gather (variables_at code xs) e))
      (go next)
  list_of code call h go (I.Case x bs other) e =
      case_items code go other e (part_of code.branches.items bs) (e x)

  abbrev pub list_at :
      Code
      → TickedCalls
      → ℕ → (ℕ → Bindings → Ticked Bindings) → Option Instr → Bindings → Ticked Bindings
  list_at code call h go None e = Stuck
  list_at code call h go (Some i) e = list_of code call h go i e

  -- what a place does, seen to so many places down
  abbrev pub list_to : Code → TickedCalls → ℕ → ℕ → ℕ → Bindings → Ticked Bindings
  list_to code call h zero pc e = Stuck
  list_to code call h (suc n) pc e =
      Tick (list_at code call h (list_to code call h n) (instr_at code pc) e)

  -- what a place does: its goals go on at lower places
  abbrev pub place_list : Code → TickedCalls → ℕ → ℕ → Bindings → Ticked Bindings
  place_list code call h pc e = list_to code call h (suc pc) pc e

  -- the list of a procedure's body from the inputs, its answers giving the outputs
  abbrev pub body_list : Code → TickedCalls → ℕ → Body → List (Option Val) → Ticked (List (Option Val))
  body_list code call h b vs =
      if ready (variables_at code b.first) vs
      then bind
      (place_list code call h b.entry
      (enter (variables_at code b.head) (variables_at code b.first) vs))
      (λ a. Answer (leave (variables_at code b.head) (variables_at code b.last) a) End)
      else Stuck

-- a procedure that isn't there: it has no arguments and answers once
abbrev pub no_part : Span
no_part = record { start = 0; count = 0 }

abbrev pub no_body : Body
no_body = record { entry = 0; head = no_part; first = no_part; last = no_part; size = 0 }

abbrev pub body_at : FlatProgram → ℕ → Body
body_at f k = slice_index_or f.bodies.items k no_body

-- what calls do with m levels of calls left
abbrev pub call_list : (Builtin → List Val → Outcome) → FlatProgram → ℕ → TickedCalls
call_list outcome f zero h p vs = Stopped budget
call_list outcome f (suc m) h p vs =
    Called (record { proc = p; args = vs })
    (body_list outcome f.code (call_list outcome f m) h (body_at f p) vs)

-- each of some places is lower than this one
abbrev pub EachBelow : ℕ → List ℕ → Type 0
EachBelow pc [] = Unit {0}
EachBelow pc (p ∷ ps) = (p < pc) × EachBelow pc ps

-- where branches go on
abbrev pub places_of : List Branch → List ℕ
places_of [] = []
places_of (b ∷ bs) = b.place ∷ places_of bs

-- a goal's places are lower than its own
abbrev pub Lower : Code → ℕ → Instr → Type 0
Lower code pc I.Done = Unit {0}
Lower code pc I.Fail = Unit {0}
Lower code pc (I.Same x y next) = next < pc
Lower code pc (I.Made x f ys next) = next < pc
Lower code pc (I.Constant x k next) = next < pc
Lower code pc (I.Or l r) = (l < pc) × (r < pc)
Lower code pc (I.If c t f) = (c < pc) × (t < pc) × (f < pc)
Lower code pc (I.Not g next) = (g < pc) × (next < pc)
Lower code pc (I.Once g next) = (g < pc) × (next < pc)
Lower code pc (I.Call p xs last next) = next < pc
Lower code pc (I.Apply op xs ys next) = next < pc
Lower code pc (I.Case x bs other) =
    (other < pc)
    × IsWithin code.branches.items bs
    × EachBelow pc (places_of (part_of code.branches.items bs))

-- Code whose goals go on at lower places, so that a body without calls ends, and whose place 0 is
-- an answer.
pub record IsCode (code : Code) : Type 0 where
  pub lower : (pc : ℕ) (i : Instr) → instr_at code pc ≡ Some i → Lower code pc i
  pub done : instr_at code 0 ≡ Some I.Done
