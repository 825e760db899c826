-- What is written of a run by how it ends. (This project's profile.)
use Rattle.std.specs.Prelude.{ℕ, List, [], map, Option, Some, None}
use Rattle.mc_program.specs.Values.{Val}
use Rattle.mc_model.specs.EventList.{Items, End, Stuck, Stopped, Answer, Called, Wrote, Read, Halt, budget, too_deep, thrown, written}
use Rattle.mc_model.specs.Events.{bound_values}
use Rattle.mc_model.specs.Output.{query_bytes, stop_line}
use Rattle.mc_command_line.specs.Words.{Bounds}
use Rattle.mc_cmd.specs.declared.status.Status.{Status}
use Rattle.mc_cmd.specs.declared.status.Status.TheVariants as S

-- the bytes on the output and on the error output, and the status
pub record Outcome : Type 0 where
  pub out : List ℕ
  pub err : List ℕ
  pub status : Status

-- a line on the error output, and nothing on the output
abbrev pub said : List ℕ → Status → Outcome
said line s = record { out = []; err = line; status = s }

-- What a run shows: its events without its calls, and of each answer the values that are bound.
abbrev pub shown : Items (List (Option Val)) → Items (List (Option Val))
shown End = End
shown Stuck = Stuck
shown (Stopped h) = Stopped h
shown (Answer os xs) = Answer (map Some (bound_values os)) (shown xs)
shown (Called c xs) = shown xs
shown (Wrote t xs) = Wrote t (shown xs)
shown (Read k xs) = Read k (shown xs)

-- Why a run stops before its end, where it does. (A good run is never stuck.)
abbrev pub stop_of : {A : Type 0} → Items A → Option Halt
stop_of End = None
stop_of Stuck = None
stop_of (Stopped h) = Some h
stop_of (Answer a xs) = stop_of xs
stop_of (Called c xs) = stop_of xs
stop_of (Wrote t xs) = stop_of xs
stop_of (Read k xs) = stop_of xs

-- the line that is put on the error output at the end of a run: none where it ends of itself
abbrev pub end_line : Bounds → Option Halt → List ℕ
end_line b None = []
end_line b (Some h) = stop_line b.budget b.depth h

abbrev pub end_status : Option Halt → Status
end_status None = S.Done
end_status (Some budget) = S.Budget
end_status (Some too_deep) = S.TooDeep
end_status (Some (thrown e)) = S.Threw

-- What is written of the run of a query, by the text of a value and the variables' names: each text
-- that it writes and the line of each answer, `false.` where it ends without an answer, and on the
-- error output the line of its stop, where it is stopped by an exception, its budget or its depth.
abbrev pub written_run :
    Bounds → (text : Val → List ℕ) → (variables : List (List ℕ)) → Items (List (Option Val))
    → Outcome
written_run b text variables xs =
    record {
      out = query_bytes text variables xs;
      err = end_line b (stop_of xs);
      status = end_status (stop_of xs);
    }

-- What is written of the run of `main`: each text that it writes and nothing else, and on the error
-- output the same line.
abbrev pub written_main : {A : Type 0} → Bounds → Items A → Outcome
written_main b xs =
    record { out = written xs; err = end_line b (stop_of xs); status = end_status (stop_of xs) }
