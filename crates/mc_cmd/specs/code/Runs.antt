-- A run that is asked for one step after another, and what is put of the steps.
use Rattle.std.specs.Prelude.{◌≡◌, ℕ, suc, ◌<◌, Bool, true, false, List, [], ◌++◌, map, Option, Some, None, Result, Ok, Err}
use Rattle.mc_program.specs.Values.{Val, plain_value}
use Rattle.mc_program.specs.declared.value.Value.{Value}
use Rattle.mc_model.specs.EventList.{Items, End, Stuck, Stopped, Answer, Called, Wrote, Read, Ends, Exc, zero_divide, error, Halt, budget, too_deep, thrown}
use Rattle.mc_model.specs.Output.{bytes_of, no_answer}
use Rattle.mc_model.specs.declared.run.Exception.{Exception}
use Rattle.mc_model.specs.declared.run.Exception.TheVariants as E
use Rattle.mc_model.specs.declared.run.Stop.{Stop}
use Rattle.mc_model.specs.declared.run.Stop.TheVariants as H
use Rattle.mc_model.specs.declared.run.Step.{Step}
use Rattle.mc_model.specs.declared.run.Step.TheVariants as N
use Rattle.mc_outside.specs.Meaning.{PutsFront}
use Rattle.mc_outside.specs.declared.traits.PutFault.{PutFault}
use Rattle.mc_cmd.specs.declared.run.Progress.{Progress}
use Rattle.mc_cmd.specs.declared.run.Progress.TheVariants as W
use Rattle.mc_cmd.specs.Call as call
use Rattle.mc_cmd.specs.Ends.{stop_of}

abbrev pub plain_exception : Exception → Exc
plain_exception E.ZeroDivide = zero_divide
plain_exception (E.Error text) = error text

-- why a run stops
abbrev pub plain_stop : Stop → Halt
plain_stop H.Budget = budget
plain_stop H.TooDeep = too_deep
plain_stop (H.Throw e) = thrown (plain_exception e)

abbrev pub plain_end : Option Stop → Option Halt
plain_end None = None
plain_end (Some s) = Some (plain_stop s)

-- the items of a query, each answer by the values of its variables
abbrev pub QueryItems : Type 0
QueryItems = Items (List (Option Val))

-- the items from the first one on that isn't a call
abbrev pub from_next : QueryItems → QueryItems
from_next End = End
from_next Stuck = Stuck
from_next (Stopped h) = Stopped h
from_next (Answer a xs) = Answer a xs
from_next (Called c xs) = from_next xs
from_next (Wrote t xs) = Wrote t xs
from_next (Read k xs) = Read k xs

-- an answer all of whose variables are bound
abbrev pub bound : List Value → List (Option Val)
bound values = map (λ v. Some (plain_value v)) values

-- What a step is, by the items that are left before it and after it. No run reads its input yet.
abbrev pub IsStep : (before after : QueryItems) → Step → Type 0
IsStep xs ys (N.Answer values) = from_next xs ≡ Answer (bound values) ys
IsStep xs ys (N.Wrote text) = from_next xs ≡ Wrote text ys
IsStep xs ys N.End = from_next xs ≡ End
IsStep xs ys (N.Stopped s) = from_next xs ≡ Stopped (plain_stop s)
IsStep xs ys (N.Wants k) = ⊥

-- a run that isn't stopped comes to its end
abbrev pub EndsUnless : Option Stop → QueryItems → Type 0
EndsUnless None xs = Ends xs
EndsUnless (Some s) xs = Unit {0}

-- how many items there are
abbrev pub size : QueryItems → ℕ
size End = 0
size Stuck = 0
size (Stopped h) = 0
size (Answer a xs) = suc (size xs)
size (Called c xs) = suc (size xs)
size (Wrote t xs) = suc (size xs)
size (Read k xs) = suc (size xs)

-- what the end adds: `false.`, where no answer came before
abbrev pub last_line : (is_answered : Bool) → QueryItems → List ℕ
last_line true xs = []
last_line false xs = no_answer xs

-- the bytes that are still to be put
abbrev pub rest_bytes :
    (text : Val → List ℕ) → (variables : List (List ℕ)) → (is_answered : Bool) → QueryItems → List ℕ
rest_bytes text variables is_answered xs =
    bytes_of text variables xs ++ last_line is_answered xs

-- A step was put, and the run goes on: there was a piece of the bytes, behind which those of the
-- items stand that are left.
pub record GoesOn (text : Val → List ℕ) (variables : List (List ℕ)) (answered0 answered1 : Bool) (xs ys : QueryItems) (w0 w1 : Option (List ℕ)) : Type 0 where
  pub piece : List ℕ
  pub wrote : call.Wrote w0 w1 piece
  pub behind :
      rest_bytes text variables answered0 xs ≡ piece ++ rest_bytes text variables answered1 ys
  pub fewer : size ys < size xs
  pub same_end : stop_of ys ≡ stop_of xs
  pub ends : Ends ys → Ends xs

-- what was put of a step
abbrev pub IsPut :
    (text : Val → List ℕ) → (variables : List (List ℕ)) → (answered : Bool)
    → (xs ys : QueryItems) → (w0 w1 : Option (List ℕ)) → Result Progress PutFault
    → Type 0
IsPut text variables answered xs ys w0 w1 (Ok (W.On now)) =
    GoesOn text variables answered now xs ys w0 w1
IsPut text variables answered xs ys w0 w1 (Ok W.Ended) =
    call.Wrote w0 w1 (rest_bytes text variables answered xs) × ((stop_of xs ≡ None) × Ends xs)
IsPut text variables answered xs ys w0 w1 (Ok (W.Stopped s)) =
    call.Wrote w0 w1 (rest_bytes text variables answered xs) × (stop_of xs ≡ Some (plain_stop s))
IsPut text variables answered xs ys w0 w1 (Err f) =
    PutsFront w0 w1 (rest_bytes text variables answered xs)
