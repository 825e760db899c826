-- What is left of a run that begins is the run of the definitions, but for its ticks.
use Rattle.std.proofs.Common.{◌≡◌, ℕ, zero, suc, refl, sym, ap, ◌∙◌, true, List, [], Option, if◌then◌else◌}
use Rattle.mc_program.specs.Values.{Val}
use Rattle.mc_program.specs.declared.builtin.Builtin.{Builtin}
use Rattle.mc_model.specs.EventList as L
use Rattle.mc_model.specs.Outcomes.{Outcome}
use Rattle.mc_model.specs.Scheduled.{Procedure}
use Rattle.mc_model.specs.Stream.{Bindings, ready, enter, leave, calls, body_items}
use Rattle.mc_flat_code.specs.Ticked.{Ticked, End, Stuck, Stopped, Answer, Called, Wrote, Read, Tick, events, bind}
use Rattle.mc_flat_code.specs.Running.{variables_at, body_list, call_list, IsCode}
use Rattle.mc_flat_code.specs.Standing.{StandsFor, StandsForAll}
use Rattle.mc_flat_code.specs.declared.code.Body.{Body}
use Rattle.mc_flat_code.specs.declared.code.FlatProgram.{FlatProgram}
use Rattle.mc_flat_code.proofs.Source.{bodies_run_as_source}
use Rattle.mc_plain.specs.code.Machine.{at, cut, go, Machine, left}
use Rattle.mc_plain.proofs.TickedLaws.{append_end}

events_cut : {A : Type 0} (n : ℕ) (xs : Ticked A) → events (cut n xs) ≡ L.cut n (events xs)
events_cut n End = refl
events_cut n Stuck = refl
events_cut n (Stopped h) = refl
events_cut n (Answer a xs) = ap (λ l. L.Answer a l) (events_cut n xs)
events_cut zero (Called c xs) = refl
events_cut (suc n) (Called c xs) = ap (λ l. L.Called c l) (events_cut n xs)
events_cut n (Wrote t xs) = ap (λ l. L.Wrote t l) (events_cut n xs)
events_cut n (Read k xs) = ap (λ l. L.Read k l) (events_cut n xs)
events_cut n (Tick xs) = events_cut n xs

-- a body that begins with m levels of calls, at a height
abbrev pub begun : FlatProgram → Body → (b m h : ℕ) → List (Option Val) → Machine
begun f body b m h vs =
    record {
      budget = b;
      points = [];
      segments = [];
      base = 0;
      level = m;
      height = h;
      bindings = enter (variables_at f.code body.head) (variables_at f.code body.first) vs;
      now = at body.entry;
    }

module _ (outcome : Builtin → List Val → Outcome) (f : FlatProgram) (procs : ℕ → Procedure) (o : IsCode f.code) (s : StandsForAll f procs) (body : Body) (p : Procedure) (b : StandsFor f.code body p) where
  pub body_begun : (n m h : ℕ) (vs : List (Option Val)) → ready (variables_at f.code body.first) vs ≡ true → events (left outcome f (variables_at f.code body.head) (variables_at f.code body.last) (begun f body n m h vs)) ≡ L.cut n (body_items outcome (calls outcome procs m) h p vs)
  body_begun n m h vs r =
      let e : Bindings = enter (variables_at f.code body.head) (variables_at f.code body.first) vs in
      let gives : Bindings → Ticked (List (Option Val)) = λ a. Answer (leave (variables_at f.code body.head) (variables_at f.code body.last) a) End in
      ap (λ (l : Ticked Bindings). events (cut n (bind l gives))) (append_end (go outcome f m h body.entry e))
      ∙ ap (λ t. events (cut n (if t then bind (go outcome f m h body.entry e) gives else Stuck))) (sym r)
      ∙ events_cut n (body_list outcome f.code (call_list outcome f m) h body vs)
      ∙ ap (L.cut n) (bodies_run_as_source outcome f procs o s m h body p b vs)
