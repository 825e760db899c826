-- A run at its first moment.
use Rattle.std.specs.Prelude.{ℕ, zero, suc, [], Bool, if◌then◌else◌}
use Rattle.mc_model.specs.EventList.{budget, too_deep}
use Rattle.mc_model.specs.Stream.{Bindings}
use Rattle.mc_plain.specs.code.Machine.{Machine, NextAction, at, stuck, stopped}

abbrev pub first_machine : (n h m : ℕ) → Bindings → NextAction → Machine
first_machine n h m e now =
    record {
      budget = n;
      points = [];
      segments = [];
      base = 0;
      level = m;
      height = h;
      bindings = e;
      now = now;
    }

-- of a call, with the budget n, at a height; its own call counts
abbrev pub called_machine : (n h : ℕ) → Bindings → NextAction → Machine
called_machine n zero e now = first_machine n 0 0 e (stopped too_deep)
called_machine zero (suc h) e now = first_machine 0 (suc h) 0 e (stopped budget)
called_machine (suc n) (suc h) e now = first_machine n h (suc n) e now

-- a body begins where its inputs are there, and else is stuck
abbrev pub first_now : ℕ → Bool → NextAction
first_now pc is_ready = if is_ready then at pc else stuck
