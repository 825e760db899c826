-- Each step of a run with its heap, from what its stacks and atoms do.
use Rattle.std.proofs.Common.{◌≡◌, ℕ, false, refl, sym, ap, subst, ◌∙◌, Option, Some, None, List, [], ◌∷◌, length, map, reverse, get_or}
use Rattle.std.specs.Prelude.{slice_get, option_map}
use Rattle.std.proofs.lemmas.Option.{slice_get-map, get_or_from_slice_get, slice_get_within}
use Rattle.mc_values.specs.declared.heap.Heap.{Heap}
use Rattle.mc_values.specs.Heap.{Extends, value_at}
use Rattle.std.specs.Prelude.{Vec}
use Rattle.std.specs.Global.{Global}
use Rattle.mc_plain.specs.Frames.{bindings}
use Rattle.mc_plain.specs.Values.{IsHeld, AreHeld}
use Rattle.mc_plain.proofs.Growth.{held_grows}
use Rattle.mc_program.specs.Values.{Val}
use Rattle.mc_program.specs.declared.builtin.Builtin.{Builtin}
use Rattle.mc_program.specs.declared.builtin.Builtin.TheVariants.{ReadLine}
use Rattle.mc_builtins.specs.Answers.{known}
use Rattle.mc_model.specs.EventList as L
use Rattle.mc_model.specs.EventList.{Items}
use Rattle.mc_model.specs.Events.{bound_values}
use Rattle.mc_model.specs.Outcomes.{Outcome}
use Rattle.mc_model.specs.Stream.{Bindings, leave, made_items, apply_items, gather}
use Rattle.mc_flat_code.specs.Ticked.{Ticked, End, Stuck, Stopped, Answer, Called, Wrote, Read, Tick, append, events, follow}
use Rattle.mc_flat_code.specs.Running.{instr_at, variables_at, part_of, list_of, call_list, IsCode, value_at as code_value}
use Rattle.mc_flat_code.specs.declared.code.Span.{Span}
use Rattle.mc_flat_code.specs.declared.code.Instr.{Instr}
use Rattle.mc_flat_code.specs.declared.code.Instr.TheVariants as I
use Rattle.mc_flat_code.specs.declared.code.FlatProgram.{FlatProgram}
use Rattle.mc_plain.specs.code.Machine.{Continuation, resume, resumed, close, at, stuck, shown, go, said, is_ended, left_of, Machine, Whole, left, Moved, GoesApart}
use Rattle.mc_plain.specs.code.Views.{machine, segment_in, plain_now}
use Rattle.mc_plain.specs.code.Held.{AllHeld}
use Rattle.mc_plain.specs.Rest.{Rest, rest_of, plain_halt}
use Rattle.mc_plain.specs.Rest as R
use Rattle.mc_plain.specs.code.Atoms.{Acted, ActedAfter}
use Rattle.mc_plain.specs.code.Cases.{case_now}
use Rattle.mc_plain.specs.code.RunState.{StepsIn, HasEnded, meaning, head_of, last_of, machine_of, left_in, rest_in, IsRunContext, HasConstants, IsReady, Moves, IsAt, IsWaiting}
use Rattle.mc_plain.specs.declared.state.Control.{Control}
use Rattle.mc_plain.specs.declared.state.NextAction.{NextAction as TheNow}
use Rattle.mc_plain.specs.declared.state.NextAction.TheVariants as N
use Rattle.mc_model.specs.declared.run.Stop.{Stop}
use Rattle.mc_plain.specs.declared.state.RunContext.{RunContext}
use Rattle.mc_plain.specs.declared.state.RunState.{RunState}
use Rattle.mc_plain.specs.Atoms.{ReadsFrom}
use Rattle.mc_plain.proofs.Moves as V
use Rattle.mc_plain.proofs.Steps as S
use Rattle.mc_plain.proofs.Looking.{values_stay, live_stay}
use Rattle.mc_plain.proofs.Strays.{absent_moved}
use Rattle.mc_plain.proofs.Casing.{case_moved}
use Rattle.mc_plain.proofs.OnlyReading.{only_reading}
use Rattle.mc_plain.proofs.Waiting.{goes_at}

-- what is left shows the same to its first answer, text or reading and on
pub rest_shown : (xs : Ticked (List (Option Val))) → rest_of (events (shown xs)) ≡ rest_of (events xs)
rest_shown End = refl
rest_shown Stuck = refl
rest_shown (Stopped h) = refl
rest_shown (Answer a xs) = ap (R.answered (bound_values a)) (rest_shown xs)
rest_shown (Called c xs) = rest_shown xs
rest_shown (Wrote t xs) = ap (R.wrote t) (rest_shown xs)
rest_shown (Read k xs) = ap (R.reads k) (rest_shown xs)
rest_shown (Tick xs) = rest_shown xs

pub same_rest : (xs ys : Ticked (List (Option Val))) → shown xs ≡ shown ys → rest_of (events xs) ≡ rest_of (events ys)
same_rest xs ys e = sym (rest_shown xs) ∙ ap (λ l. rest_of (events l)) e ∙ rest_shown ys

-- an atom that has gone
pub acted_moved : (outcome : Builtin → List Val → Outcome) (f : FlatProgram) (o : IsCode f.code) (head last : List ℕ) (M N : Machine) (w : Whole M) (pc : ℕ) → M.now ≡ at pc → (i : Instr) → instr_at f.code pc ≡ Some i → (items : Items Bindings) (next : ℕ) → list_of outcome f.code (call_list outcome f M.level) M.height (go outcome f M.level M.height) i M.bindings ≡ follow items (go outcome f M.level M.height next) → Acted items next M N → Moved outcome f head last M N
acted_moved outcome f o head last M N w pc n i q items next x a =
    subst (Moved outcome f head last M) (sym a.kept)
    (S.alone_moved outcome f o head last M w pc n i q N.now N.bindings a.going (x ∙ a.says outcome f (go outcome f M.level M.height)))

module _ (t : RunContext) (w : RunState) where
  abbrev MovedTo : Machine → Type 0
  MovedTo N = (input : List ℕ) → Moved (meaning t input) t.flat (head_of t) (last_of t) (machine_of t w) N

  -- a run whose heap stays
  pub moves_to : (c : Control) (N : Machine) → machine w.heap c ≡ N → IsReady t w → MovedTo N → AllHeld t.library.program.now w.heap c → Moves t w (record w { control = c })
  moves_to c N e r m held =
      let moved : MovedTo (machine w.heap c) = λ input. subst (Moved (meaning t input) t.flat (head_of t) (last_of t) (machine_of t w)) (sym e) (m input) in
      record {
        ready = record { held = held; constants = r.constants; whole = (moved []).whole };
        moved = moved;
      }

  pub steps_to : (c : Control) → StepsIn w.heap t.flat w.control c → IsRunContext t → IsReady t w → AllHeld t.library.program.now w.heap c → Moves t w (record w { control = c })
  steps_to c s set r held =
      moves_to c (machine w.heap c) refl r (λ input. s (meaning t input) (head_of t) (last_of t) set.code r.whole) held

  module _ (place : ℕ) (goal : Instr) (a : IsAt t w place goal) where
    here : (machine_of t w).now ≡ at place
    here = ap plain_now a.now

    pub atom_moves : (c : Control) (items : Items Bindings) (next : ℕ) → ((input : List ℕ) → list_of (meaning t input) t.flat.code (call_list (meaning t input) t.flat (machine_of t w).level) (machine_of t w).height (go (meaning t input) t.flat (machine_of t w).level (machine_of t w).height) goal (machine_of t w).bindings ≡ follow items (go (meaning t input) t.flat (machine_of t w).level (machine_of t w).height next)) → Acted items next (machine_of t w) (machine w.heap c) → AllHeld t.library.program.now w.heap c → Moves t w (record w { control = c })
    atom_moves c items next x acted held =
        moves_to c (machine w.heap c) refl a.ready
        (λ input. acted_moved (meaning t input) t.flat a.setting.code (head_of t) (last_of t) (machine_of t w) (machine w.heap c) a.ready.whole place here goal a.goal_is items next (x input) acted)
        held

    -- a goal that keeps to what is done next
    pub alone_moves : (now : TheNow) → is_ended (plain_now now) ≡ false → ((input : List ℕ) → list_of (meaning t input) t.flat.code (call_list (meaning t input) t.flat (machine_of t w).level) (machine_of t w).height (go (meaning t input) t.flat (machine_of t w).level (machine_of t w).height) goal (machine_of t w).bindings ≡ said (meaning t input) t.flat (go (meaning t input) t.flat (machine_of t w).level (machine_of t w).height) (plain_now now) (machine_of t w).bindings) → Moves t w (record w { control = record w.control { now = now } })
    alone_moves now going x =
        moves_to (record w.control { now = now }) (record (machine_of t w) { now = plain_now now }) refl a.ready
        (λ input. S.alone_moved (meaning t input) t.flat a.setting.code (head_of t) (last_of t) (machine_of t w) a.ready.whole place here goal a.goal_is (plain_now now) (machine_of t w).bindings going (x input))
        (record { frame = a.ready.held.frame; segments = a.ready.held.segments; points = a.ready.held.points })

    pub either_moves : (c : Control) (l r : ℕ) → goal ≡ I.Or l r → machine w.heap c ≡ record (machine_of t w) { points = resume r (machine_of t w).bindings ∷ (machine_of t w).points; now = at l } → AllHeld t.library.program.now w.heap c → Moves t w (record w { control = c })
    either_moves c l r d e held =
        moves_to c _ e a.ready
        (λ input. S.either_moved (meaning t input) t.flat a.setting.code (head_of t) (last_of t) (machine_of t w) a.ready.whole place here goal a.goal_is l r d)
        held

    pub apart_moves : (c : Control) (g : ℕ) (k : Continuation) → GoesApart goal g k → machine w.heap c ≡ record (machine_of t w) { segments = record { around = k; bindings = (machine_of t w).bindings; level = (machine_of t w).level; height = (machine_of t w).height; below = (machine_of t w).base } ∷ (machine_of t w).segments; base = length (machine_of t w).points; now = at g } → AllHeld t.library.program.now w.heap c → Moves t w (record w { control = c })
    apart_moves c g k d e held =
        moves_to c _ e a.ready
        (λ input. S.apart_moved (meaning t input) t.flat a.setting.code (head_of t) (last_of t) (machine_of t w) a.ready.whole place here goal a.goal_is g k d)
        held

  -- a place without a goal
  pub absent_moves : (place : ℕ) → IsRunContext t → IsReady t w → w.control.now ≡ N.At place → instr_at t.flat.code place ≡ None → Moves t w (record w { control = record w.control { now = N.Stuck } })
  absent_moves place set r n q =
      moves_to (record w.control { now = N.Stuck }) (record (machine_of t w) { now = stuck }) refl r
      (λ input. absent_moved (meaning t input) t.flat set.code (head_of t) (last_of t) (machine_of t w) r.whole place (ap plain_now n) q)
      (record { frame = r.held.frame; segments = r.held.segments; points = r.held.points })

  -- how a run ends
  at_end : (now : TheNow) → w.control.now ≡ now → (input : List ℕ) → rest_in t w input ≡ rest_of (events (left_of (meaning t input) t.flat (head_of t) (last_of t) (machine_of t w).budget (machine_of t w).points (machine_of t w).segments (machine_of t w).base (machine_of t w).level (machine_of t w).height (machine_of t w).bindings (plain_now now)))
  at_end now e input =
      ap (λ k. rest_of (events (left_of (meaning t input) t.flat (head_of t) (last_of t) (machine_of t w).budget (machine_of t w).points (machine_of t w).segments (machine_of t w).base (machine_of t w).level (machine_of t w).height (machine_of t w).bindings (plain_now k)))) e

  pub ended_rest : w.control.now ≡ N.Ended → (input : List ℕ) → rest_in t w input ≡ R.ended
  ended_rest e input = at_end N.Ended e input

  pub stuck_rest : w.control.now ≡ N.Stuck → (input : List ℕ) → rest_in t w input ≡ R.stuck
  stuck_rest e input = at_end N.Stuck e input

  pub stopped_rest : (s : Stop) → w.control.now ≡ N.Stopped s → (input : List ℕ) → rest_in t w input ≡ R.stopped (plain_halt s)
  stopped_rest s e input = at_end (N.Stopped s) e input

  -- a run that has ended
  pub end_gives : (c : Control) → c ≡ record w.control { now = N.Ended } → HasEnded t.flat w.control → IsReady t w → IsReady t (record w { control = c }) × ((input : List ℕ) → (rest_in t w input ≡ R.ended) × (rest_in t (record w { control = c }) input ≡ R.ended))
  end_gives c e none r =
      subst (λ k. IsReady t (record w { control = k }) × ((input : List ℕ) → (rest_in t w input ≡ R.ended) × (rest_in t (record w { control = k }) input ≡ R.ended))) (sym e) (
        record {
          held = record { frame = r.held.frame; segments = r.held.segments; points = r.held.points };
          constants = r.constants;
          whole = record { base = r.whole.base; ordered = r.whole.ordered };
        },
        λ input. (ap (λ l. rest_of (events l)) (none (meaning t input) (head_of t) (last_of t) w.heap), refl),
      )

  -- the run's own answer
  pub answer_gives : (place : ℕ) (a : IsAt t w place I.Done) (frame : Vec (Option ℕ) Global) (vs : List Val) → w.control.segments.items ≡ [] → bindings w.heap frame.items ≡ (machine_of t w).bindings → AreHeld t.library.program.now w.heap frame.items → vs ≡ bound_values (leave (head_of t) (last_of t) (bindings w.heap frame.items)) → IsReady t (record w { control = record w.control { frame = frame; now = N.Failing } }) × ((input : List ℕ) → rest_in t w input ≡ R.answered vs (rest_in t (record w { control = record w.control { frame = frame; now = N.Failing } }) input))
  answer_gives place a frame vs none same held v =
      let later : RunState = record w { control = record w.control { frame = frame; now = N.Failing } } in (
        record {
          held = record { frame = held; segments = a.ready.held.segments; points = a.ready.held.points };
          constants = a.ready.constants;
          whole = record { base = a.ready.whole.base; ordered = a.ready.whole.ordered };
        },
        λ input.
            sym (rest_shown (left_in t w input))
            ∙ ap (λ l. rest_of (events l)) (S.answer_shown (meaning t input) t.flat a.setting.code (head_of t) (last_of t) (machine_of t w) a.ready.whole place (ap plain_now a.now) I.Done a.goal_is refl (ap (λ l. reverse (map (segment_in w.heap) l)) none) (bindings w.heap frame.items))
            ∙ ap (R.answered (bound_values (leave (head_of t) (last_of t) (machine_of t w).bindings))) (rest_shown (left_in t later input))
            ∙ ap (λ b. R.answered (bound_values (leave (head_of t) (last_of t) b)) (rest_in t later input)) (sym same)
            ∙ ap (λ l. R.answered l (rest_in t later input)) (sym v),
      )

-- Refs of constants stay those while the heap grows
module _ (t : RunContext) (h k : Heap) (grows : Extends h k) where
  pub constants_stay : HasConstants t h → HasConstants t k
  constants_stay c =
      record {
        refs = record {
          live = live_stay h k grows t.constants.items c.refs.live;
          values = values_stay h k grows t.constants.items c.refs.live ∙ c.refs.values;
        };
        held = λ x d lt. held_grows h k grows t.library.program.now (get_or t.constants.items x d) (c.held x d lt);
      }

module _ (t : RunContext) (h : Heap) (c : HasConstants t h) (k : ℕ) where
  pub constant_at : (o : Option ℕ) → slice_get t.constants.items k ≡ o → code_value t.flat.code k ≡ option_map (value_at h) o
  constant_at o e =
      ap (λ l. slice_get l k) (sym c.refs.values) ∙ slice_get-map (value_at h) t.constants.items k ∙ ap (option_map (value_at h)) e

  pub constant_held : (r : ℕ) → slice_get t.constants.items k ≡ Some r → IsHeld t.library.program.now h r
  constant_held r e =
      subst (IsHeld t.library.program.now h) (get_or_from_slice_get t.constants.items k r r e)
      (c.held k r (slice_get_within t.constants.items k r e))

-- a variable meets a constructor, and the heap may grow
pub made_moves : (t : RunContext) (w v : RunState) (place x f : ℕ) (ys : Span) (next : ℕ) (a : IsAt t w place (I.Made x f ys next)) → Extends w.heap v.heap → Acted (made_items x f (variables_at t.flat.code ys) (machine_of t w).bindings ((machine_of t w).bindings x)) next (machine_of t w) (machine_of t v) → AllHeld t.library.program.now v.heap v.control → Moves t w v
made_moves t w v place x f ys next a grows acted held =
    let moved : (input : List ℕ) → Moved (meaning t input) t.flat (head_of t) (last_of t) (machine_of t w) (machine_of t v) = λ input.
    acted_moved (meaning t input) t.flat a.setting.code (head_of t) (last_of t) (machine_of t w) (machine_of t v) a.ready.whole place (ap plain_now a.now) (I.Made x f ys next) a.goal_is (made_items x f (variables_at t.flat.code ys) (machine_of t w).bindings ((machine_of t w).bindings x)) next refl acted in
    record {
      ready = record { held = held; constants = constants_stay t w.heap v.heap grows a.ready.constants; whole = (moved []).whole };
      moved = moved;
    }

-- a switch
pub case_moves : (t : RunContext) (w : RunState) (place x : ℕ) (bs : Span) (other : ℕ) (a : IsAt t w place (I.Case x bs other)) (c : Control) → machine w.heap c ≡ record (machine_of t w) { now = case_now t.flat.code other (part_of t.flat.code.branches.items bs) ((machine_of t w).bindings x) } → c ≡ record w.control { now = c.now } → Moves t w (record w { control = c })
case_moves t w place x bs other a c e k =
    moves_to t w c _ e a.ready
    (λ input. case_moved (meaning t input) t.flat a.setting.code (head_of t) (last_of t) (machine_of t w) a.ready.whole place (ap plain_now a.now) x bs other a.goal_is)
    (subst (AllHeld t.library.program.now w.heap) (sym k) (record { frame = a.ready.held.frame; segments = a.ready.held.segments; points = a.ready.held.points }))

-- a builtin, over each input
module _ (t : RunContext) (w v : RunState) (place : ℕ) (op : Builtin) (xs ys : Span) (next : ℕ) (a : IsAt t w place (I.Apply op xs ys next)) (grows : Extends w.heap v.heap) (held : AllHeld t.library.program.now v.heap v.control) where
  abbrev list : List ℕ → Items Bindings
  list input = apply_items (meaning t input op) (variables_at t.flat.code ys) (machine_of t w).bindings (gather (variables_at t.flat.code xs) (machine_of t w).bindings)

  pub applied_moves : ((input : List ℕ) → Acted (list input) next (machine_of t w) (machine_of t v)) → Moves t w v
  applied_moves acted =
      let moved : (input : List ℕ) → Moved (meaning t input) t.flat (head_of t) (last_of t) (machine_of t w) (machine_of t v) = λ input.
      acted_moved (meaning t input) t.flat a.setting.code (head_of t) (last_of t) (machine_of t w) (machine_of t v) a.ready.whole place (ap plain_now a.now) (I.Apply op xs ys next) a.goal_is (list input) next refl (acted input) in
      record {
        ready = record { held = held; constants = constants_stay t w.heap v.heap grows a.ready.constants; whole = (moved []).whole };
        moved = moved;
      }

  pub wrote_gives : (text : List ℕ) → ((input : List ℕ) → ActedAfter (Wrote text) (list input) next (machine_of t w) (machine_of t v)) → IsReady t v × ((input : List ℕ) → rest_in t w input ≡ R.wrote text (rest_in t v input))
  wrote_gives text acted =
      let kept : machine_of t v ≡ record (machine_of t w) { bindings = (machine_of t v).bindings; now = (machine_of t v).now } = (acted []).kept in (
        record {
          held = held;
          constants = constants_stay t w.heap v.heap grows a.ready.constants;
          whole = subst Whole (sym kept) (record { base = a.ready.whole.base; ordered = a.ready.whole.ordered });
        },
        λ input.
            let tells : (list_of (meaning t input) t.flat.code (call_list (meaning t input) t.flat (machine_of t w).level) (machine_of t w).height (go (meaning t input) t.flat (machine_of t w).level (machine_of t w).height) (I.Apply op xs ys next) (machine_of t w).bindings ≡ Wrote text (said (meaning t input) t.flat (go (meaning t input) t.flat (machine_of t w).level (machine_of t w).height) (machine_of t v).now (machine_of t v).bindings)) = (acted input).says (meaning t input) t.flat (go (meaning t input) t.flat (machine_of t w).level (machine_of t w).height) in
            sym (rest_shown (left_in t w input))
            ∙ ap (λ l. rest_of (events l)) (S.wrote_shown (meaning t input) t.flat a.setting.code (head_of t) (last_of t) (machine_of t w) a.ready.whole place (ap plain_now a.now) (I.Apply op xs ys next) a.goal_is text (machine_of t v).now (machine_of t v).bindings (acted input).going tells)
            ∙ ap (R.wrote text) (rest_shown (left (meaning t input) t.flat (head_of t) (last_of t) (record (machine_of t w) { bindings = (machine_of t v).bindings; now = (machine_of t v).now })))
            ∙ ap (λ N. R.wrote text (rest_of (events (left (meaning t input) t.flat (head_of t) (last_of t) N)))) (sym kept),
      )

  -- a line of the input is wanted, and nothing has been done yet
  wanted : (from : ℕ) (input : List ℕ) (later : Items Bindings) → list input ≡ L.Read from later → (r : Rest) × (rest_in t w input ≡ R.reads from r)
  wanted from input later e =
      let M : Machine = machine_of t w in
      let run : ℕ → Bindings → Ticked Bindings = go (meaning t input) t.flat M.level M.height in
      let around : Ticked Bindings = resumed (meaning t input) t.flat M.points M.level M.height M.base (length M.points) in (
        rest_of (events (V.seen (meaning t input) t.flat (head_of t) (last_of t) M.budget (close (meaning t input) t.flat M.points M.segments M.base (append (follow later (run next)) around)))),
        ap (λ l. rest_of (events l))
            (S.at_now (meaning t input) t.flat a.setting.code (head_of t) (last_of t) M a.ready.whole (at place) (ap plain_now a.now)
            ∙ V.at_left (meaning t input) t.flat (head_of t) (last_of t) M.budget M.points M.segments M.base M.level M.height M.bindings place (I.Apply op xs ys next) a.setting.code a.goal_is
            ∙ ap (λ (l : Items Bindings). Tick (V.seen (meaning t input) t.flat (head_of t) (last_of t) M.budget (close (meaning t input) t.flat M.points M.segments M.base (append (follow l (run next)) around)))) e
            ∙ ap (λ l. Tick (V.seen (meaning t input) t.flat (head_of t) (last_of t) M.budget l)) (V.read_close (meaning t input) t.flat M.points M.segments M.base from _)),
      )

  pub wants_gives : (from : ℕ) → machine_of t v ≡ machine_of t w → ((input : List ℕ) → ReadsFrom from (list input)) → IsReady t v × ((input : List ℕ) → ((r : Rest) × (rest_in t w input ≡ R.reads from r)) × (rest_in t v input ≡ rest_in t w input))
  wants_gives from same reads = (
    record {
      held = held;
      constants = constants_stay t w.heap v.heap grows a.ready.constants;
      whole = subst Whole (sym same) a.ready.whole;
    },
    λ input. (
      let r : ReadsFrom from (list input) = reads input in wanted from input r.0 r.1,
      ap (λ N. rest_of (events (left (meaning t input) t.flat (head_of t) (last_of t) N))) same,
    ),
  )

  -- a run that wants a line stands at a goal that reads
  pub wants_waits : (from : ℕ) → machine_of t v ≡ machine_of t w → ((input : List ℕ) → ReadsFrom from (list input)) → IsWaiting t v from
  wants_waits from same reads =
      let is : op ≡ ReadLine = only_reading (variables_at t.flat.code ys) (machine_of t w).bindings from (known t.library) [] op (gather (variables_at t.flat.code xs) (machine_of t w).bindings) (reads []) in
      record {
        place = place;
        inputs = xs;
        outputs = ys;
        next = next;
        stands = record {
          setting = a.setting;
          ready = (wants_gives from same reads).0;
          now = goes_at v.control.now place (ap (λ (N : Machine). N.now) same ∙ ap plain_now a.now);
          goal_is = a.goal_is ∙ ap (λ (o : Builtin). Some (I.Apply o xs ys next)) is;
        };
        reads = λ input.
            subst (λ (p : Builtin × Machine). ReadsFrom from (apply_items (meaning t input p.0) (variables_at t.flat.code ys) p.1.bindings (gather (variables_at t.flat.code xs) p.1.bindings))) (λ i. (is i, sym same i))
            (reads input);
        shows = λ input. let g = (wants_gives from same reads).1 input in (g.0.0, g.1 ∙ g.0.1);
      }

  -- a line of the input is read
  pub read_gives : (from : ℕ) (input : List ℕ) → ActedAfter (Read from) (list input) next (machine_of t w) (machine_of t v) → rest_in t w input ≡ R.reads from (rest_in t v input)
  read_gives from input acted =
      let tells : (list_of (meaning t input) t.flat.code (call_list (meaning t input) t.flat (machine_of t w).level) (machine_of t w).height (go (meaning t input) t.flat (machine_of t w).level (machine_of t w).height) (I.Apply op xs ys next) (machine_of t w).bindings ≡ Read from (said (meaning t input) t.flat (go (meaning t input) t.flat (machine_of t w).level (machine_of t w).height) (machine_of t v).now (machine_of t v).bindings)) = acted.says (meaning t input) t.flat (go (meaning t input) t.flat (machine_of t w).level (machine_of t w).height) in
      sym (rest_shown (left_in t w input))
      ∙ ap (λ l. rest_of (events l)) (S.read_shown (meaning t input) t.flat a.setting.code (head_of t) (last_of t) (machine_of t w) a.ready.whole place (ap plain_now a.now) (I.Apply op xs ys next) a.goal_is from (machine_of t v).now (machine_of t v).bindings acted.going tells)
      ∙ ap (R.reads from) (rest_shown (left (meaning t input) t.flat (head_of t) (last_of t) (record (machine_of t w) { bindings = (machine_of t v).bindings; now = (machine_of t v).now })))
      ∙ ap (λ N. R.reads from (rest_of (events (left (meaning t input) t.flat (head_of t) (last_of t) N)))) (sym acted.kept)

  pub read_ready : machine_of t v ≡ record (machine_of t w) { bindings = (machine_of t v).bindings; now = (machine_of t v).now } → IsReady t v
  read_ready kept =
      record {
        held = held;
        constants = constants_stay t w.heap v.heap grows a.ready.constants;
        whole = subst Whole (sym kept) (record { base = a.ready.whole.base; ordered = a.ready.whole.ordered });
      }
