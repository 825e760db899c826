-- The events of a run as a program keeps them: without the arguments of its calls. (This project's
-- profile of strict sequential execution.)
use Rattle.std.specs.Prelude.{ℕ, List, [], ◌∷◌, map, Option, Some, None}
use Rattle.mc_program.specs.Values.{Val, plain_value}
use Rattle.mc_model.specs.EventList.{Items, End, Stuck, Stopped, Answer, Called, Wrote, Read}
use Rattle.mc_model.specs.declared.run.Item.{Item}
use Rattle.mc_model.specs.declared.run.Item.TheVariants as I

-- a call of a procedure, a text that is written, an answer, or a reading of the input from a byte
-- on
pub data Event : Type 0 where
  called : (proc : ℕ) → Event
  wrote : (text : List ℕ) → Event
  answered : (values : List Val) → Event
  read : (from : ℕ) → Event

abbrev pub plain_item : Item → Event
plain_item (I.Call p) = called p
plain_item (I.Wrote t) = wrote t
plain_item (I.Answer vs) = answered (map plain_value vs)
plain_item (I.Read k) = read k

-- the values of an answer's arguments; of one that isn't bound there is none
abbrev pub bound_values : List (Option Val) → List Val
bound_values [] = []
bound_values (None ∷ os) = bound_values os
bound_values (Some v ∷ os) = v ∷ bound_values os

-- the events of a list, in order
abbrev pub events_of : Items (List (Option Val)) → List Event
events_of End = []
events_of Stuck = []
events_of (Stopped h) = []
events_of (Answer os xs) = answered (bound_values os) ∷ events_of xs
events_of (Called c xs) = called c.proc ∷ events_of xs
events_of (Wrote t xs) = wrote t ∷ events_of xs
events_of (Read k xs) = read k ∷ events_of xs
