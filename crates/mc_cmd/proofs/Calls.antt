-- What follows from what a call did.
use Rattle.std.proofs.Common.{◌≡◌, ◌≢◌, ◌⊎◌, inl, inr, ℕ, ◌<◌, List, [], ◌++◌, Option, Some, None, Result, Ok, Err, refl, sym, ap, ◌∙◌, subst, arith}
use Rattle.std.specs.Prelude.{IfOk}
use Rattle.mc_outside.specs.Counts.{Rose}
use Rattle.mc_outside.specs.Meaning.{Held, PutsFront}
use Rattle.mc_outside.specs.declared.traits.PutFault.{PutFault}
use Rattle.mc_outside.specs.declared.traits.PutFault.TheVariants as put
use Rattle.mc_model.specs.EventList.{Halt, budget, too_deep}
use Rattle.mc_command_line.specs.Words.{Meaning, meaning}
use Rattle.mc_command_line.specs.Plain.{plain_bounds}
use Rattle.mc_cmd.specs.Messages.{usage_line, unreadable_line, broken_lines}
use Rattle.mc_cmd.specs.Ends.{Outcome, said, stop_of, end_status}
use Rattle.mc_cmd.specs.Outcome.{files_of, bounds_of, run_of_goal, Answers, refused, ran, Texts, These, Missing, texts_in, AnswersOver, DefinedFor, Defined}
use Rattle.mc_cmd.specs.Call.{Told, NoneRose, AnswersWhole, Wrote, CannotRead, OfFiles, OfSources, BreaksRules, RunsToEnd, StopsBy, IsThrown, SaidAbsent, SaidUnreadable, SaysUnreadable, PutsDefined, HoldTexts}
use Rattle.mc_cmd.specs.Laws.{AtMostOneAnswer}
use Rattle.mc_cmd.specs.declared.status.Status.{Status}
use Rattle.mc_cmd.specs.declared.status.Status.TheVariants as S
use Rattle.mc_cmd.specs.declared.decision.Decision.{Decision}
use Rattle.mc_cmd.specs.declared.decision.Decision.TheVariants as D
use Rattle.mc_cmd.specs.code.Decisions.{Understood, IsDecided, CountsFaults, CountsAbsents, told_of, Writes, ended, CountPuts, Quiet, EndsRun, Sinks, Happened}
use Rattle.mc_cmd.proofs.Puts.{nothing_front, front_nothing, writes_front}
use Rattle.mc_cmd.proofs.Commands.{is_command}
use Rattle.mc_cmd.proofs.InTurn.{first_unread}
use Rattle.mc_cmd.proofs.Stops.{Stops, goal_status, ran_status, done_written, unasked_written, unasked_ends, ran_written, ran_ends, ran_stops, stops_thrown, stops_spent, stops_deep}

-- what is understood of texts is decided of the words
pub decided_of_texts : (words : List (List ℕ)) (store : Option Held) (m : Meaning) (names texts : List (List ℕ)) (d : Decision) → meaning words ≡ Some m → names ≡ files_of m → HoldTexts store names texts → Understood m texts d →
    IsDecided words store d
decided_of_texts words store m names texts d e n h u = at d u
  where
    held : HoldTexts store (files_of m) texts
    held = subst (λ (ns : List (List ℕ)). HoldTexts store ns texts) n h

    at : (d : Decision) → Understood m texts d → IsDecided words store d
    at D.Usage u = absurd u
    at (D.Absent line) u = absurd u
    at (D.Unreadable line) u = absurd u
    at (D.Rejected files broken) u = record { command = m; means = e; texts = texts; holds = held; understood = u }
    at D.Checked u = record { command = m; means = e; texts = texts; holds = held; understood = u }
    at (D.Ran b q goal) u = record { command = m; means = e; texts = texts; holds = held; understood = u }
    at D.Memory u = tt

-- an outcome of texts is a defined one
defined_over : (words : List (List ℕ)) (held : Held) (m : Meaning) (t : Texts) (o : Outcome) → meaning words ≡ Some m → texts_in held (files_of m) ≡ t → AnswersOver m t o → Defined words held o
defined_over words held m t o e h a = subst (λ (q : Option Meaning). DefinedFor q held o) (sym e) (subst (λ (x : Texts). AnswersOver m x o) (sym h) a)

over_defined : (words : List (List ℕ)) (held : Held) (m : Meaning) (t : Texts) (o : Outcome) → meaning words ≡ Some m → texts_in held (files_of m) ≡ t → Defined words held o → AnswersOver m t o
over_defined words held m t o e h d = subst (λ (x : Texts). AnswersOver m x o) h (subst (λ (q : Option Meaning). DefinedFor q held o) e d)

-- what is told of a decision is a defined answer
is_defined : (words : List (List ℕ)) (held : Held) (f0 f1 : ℕ) (d : Decision) → IsDecided words (Some held) d → CountsFaults d f0 f1 → (Rose f0 f1 → ⊥) → (told_of d).status ≢ S.Memory → Defined words held (told_of d)
is_defined words held f0 f1 D.Usage x cf n s = subst (λ (q : Option Meaning). DefinedFor q held (said usage_line S.Usage)) (sym x) refl
is_defined words held f0 f1 (D.Absent line) x cf n s =
    defined_over words held x.command (Missing x.stops.0) (told_of (D.Absent line)) x.means x.stops.1.0 (ap (λ (l : List ℕ). said l S.Absent) x.stops.1.1)
is_defined words held f0 f1 (D.Unreadable line) x cf n s = absurd (n cf)
is_defined words held f0 f1 (D.Rejected files broken) x cf n s =
    defined_over words held x.command (These x.texts) (told_of (D.Rejected files broken)) x.means x.holds
    (subst (λ (ns : List (List ℕ)). Answers x.command x.texts (said (broken_lines ns broken) S.Rejected)) (sym x.understood.0) (refused x.understood.1))
is_defined words held f0 f1 D.Checked x cf n s =
    let a = x.understood in
    defined_over words held x.command (These x.texts) (told_of D.Checked) x.means x.holds
    (subst (λ (o : Outcome). Answers x.command x.texts o) (unasked_written x.command a.executable a.unasked) (ran a.compiles))
is_defined words held f0 f1 (D.Ran b q goal) x cf n s =
    let a = x.understood in
    defined_over words held x.command (These x.texts) (told_of (D.Ran b q goal)) x.means x.holds
    (subst (λ (o : Outcome). Answers x.command x.texts o) (ran_written x.command x.texts b q goal a) (ran a.compiles))
is_defined words held f0 f1 D.Memory x cf n s = absurd (s refl)

-- and the one that is
one_defined : AtMostOneAnswer → (words : List (List ℕ)) (held : Held) (f0 f1 : ℕ) (d : Decision) → IsDecided words (Some held) d → CountsFaults d f0 f1 → (Rose f0 f1 → ⊥) → (told_of d).status ≢ S.Memory → (o : Outcome) → Defined words held o → told_of d ≡ o
one_defined one words held f0 f1 d x cf n s o y = one words held (told_of d) o (is_defined words held f0 f1 d x cf n s) y

-- the statuses of runs that stop
abbrev IsStopStatus : Status → Type 0
IsStopStatus S.Threw = Unit {0}
IsStopStatus S.Budget = Unit {0}
IsStopStatus S.TooDeep = Unit {0}
IsStopStatus _ = ⊥

-- memory was wanting for a decision, or an answer is told of it
memory_or_told : (d : Decision) → (d ≡ D.Memory) ⊎ ((told_of d).status ≢ S.Memory)
memory_or_told D.Usage = inr (λ e. cc)
memory_or_told (D.Absent line) = inr (λ e. cc)
memory_or_told (D.Unreadable line) = inr (λ e. cc)
memory_or_told (D.Rejected files broken) = inr (λ e. cc)
memory_or_told D.Checked = inr (λ e. cc)
memory_or_told (D.Ran b q goal) = inr (λ e. ran_status b q goal S.Memory e)
memory_or_told D.Memory = inl refl

wrote_told : (w0 w1 : Option (List ℕ)) (before bytes : List ℕ) → w0 ≡ Some before → Wrote w0 w1 bytes → w1 ≡ Some (before ++ bytes)
wrote_told w0 w1 before bytes e w = let z : Wrote (Some before) w1 bytes = subst (λ (x : Option (List ℕ)). Wrote x w1 bytes) e w in z

writes_none : (w0 w1 : Option (List ℕ)) (r : Result Status PutFault) → Writes w0 w1 r [] → Wrote w0 w1 []
writes_none w0 w1 (Ok u) w = w
writes_none w0 w1 (Err f) w = front_nothing w0 w1 w

-- a status other than those of a failed writing is the one that was to be answered
ended_is : (r : Result Status PutFault) (t x : Status) → IfOk r (λ u. u ≡ t) → ended r ≡ x → x ≢ S.WriteFault → x ≢ S.Memory → t ≡ x
ended_is (Ok u) t x i e w m = sym i ∙ e
ended_is (Err put.Failed) t x i e w m = absurd (w (sym e))
ended_is (Err put.Memory) t x i e w m = absurd (m (sym e))

ended_kinds : (r : Result Status PutFault) (t : Status) → IfOk r (λ u. u ≡ t) → (ended r ≡ t) ⊎ ((ended r ≡ S.WriteFault) ⊎ (ended r ≡ S.Memory))
ended_kinds (Ok u) t i = inl i
ended_kinds (Err put.Failed) t i = inr (inl refl)
ended_kinds (Err put.Memory) t i = inr (inr refl)

no_command : (words : List (List ℕ)) (m : Meaning) → meaning words ≡ None → meaning words ≡ Some m → ⊥
no_command words m n e = let q : None ≡ Some m = sym n ∙ e in cc

same_command : (words : List (List ℕ)) (m k : Meaning) → meaning words ≡ Some m → meaning words ≡ Some k → m ≡ k
same_command words m k e f = let q : Some m ≡ Some k = sym e ∙ f in cc

module _ (words : List (List ℕ)) (store : Option Held) (f0 f1 a0 a1 : ℕ) (out err : Sinks) (s : Status) (h : Happened words store f0 f1 a0 a1 out err s) where
  decided_told : (held : Held) → store ≡ Some held → IsDecided words (Some held) h.decision
  decided_told held e = subst (λ (x : Option Held). IsDecided words x h.decision) e h.decided

  -- where memory was wanting for the decision, nothing was put
  none_put : h.decision ≡ D.Memory → Wrote out.before out.after [] × Wrote err.before err.after []
  none_put e = (
    writes_none out.before out.after h.written (subst (λ (d : Decision). Writes out.before out.after h.written (told_of d).out) e h.output),
    writes_none err.before err.after h.written (subst (λ (d : Decision). Writes err.before err.after h.written (told_of d).err) e h.errors),
  )

  memory_status : h.decision ≡ D.Memory → s ≡ S.Memory
  memory_status e = h.status ∙ ap ended (subst (λ (d : Decision). Quiet d h.written) e h.quiet)

  pub whole : (held : Held) (bo be : List ℕ) → Told store held out.before bo err.before be → NoneRose f0 f1 out.faults_before out.faults_after err.faults_before err.faults_after → s ≢ S.Memory →
      AnswersWhole words held bo be s out.after err.after
  whole held bo be told none n = at h.written h.output h.errors h.puts h.told h.status
    where
      t : Outcome
      t = told_of h.decision

      at : (r : Result Status PutFault) → Writes out.before out.after r t.out → Writes err.before err.after r t.err → CountPuts r out.faults_before out.faults_after err.faults_before err.faults_after → IfOk r (λ u. u ≡ t.status) → s ≡ ended r →
          AnswersWhole words held bo be s out.after err.after
      at (Ok u) w v c i e = (
        t,
        is_defined words held f0 f1 h.decision (decided_told held told.files) h.faults none.files (λ m. n (e ∙ i ∙ m)),
        e ∙ i,
        wrote_told out.before out.after bo t.out told.output w,
        wrote_told err.before err.after be t.err told.errors v,
      )
      at (Err put.Failed) w v (inl c) i e = absurd (none.errors c.1)
      at (Err put.Failed) w v (inr c) i e = absurd (none.output c.0)
      at (Err put.Memory) w v c i e = absurd (n e)

  pub prefixes : AtMostOneAnswer → (held : Held) (bo be : List ℕ) → Told store held out.before bo err.before be → (Rose f0 f1 → ⊥) → (o : Outcome) → Defined words held o → PutsFront out.before out.after o.out × PutsFront err.before err.after o.err
  prefixes one held bo be told n o y = at (memory_or_told h.decision)
    where
      at : (h.decision ≡ D.Memory) ⊎ ((told_of h.decision).status ≢ S.Memory) → PutsFront out.before out.after o.out × PutsFront err.before err.after o.err
      at (inl e) = let w = none_put e in (nothing_front out.before out.after o.out w.0, nothing_front err.before err.after o.err w.1)
      at (inr m) =
          let e = one_defined one words held f0 f1 h.decision (decided_told held told.files) h.faults n m o y in (
            subst (λ (x : Outcome). PutsFront out.before out.after x.out) e (writes_front out.before out.after h.written (told_of h.decision).out h.output),
            subst (λ (x : Outcome). PutsFront err.before err.after x.err) e (writes_front err.before err.after h.written (told_of h.decision).err h.errors),
          )

  -- a front part of a defined answer was put, or memory was wanting and nothing was
  pub puts_defined : (held : Held) (bo be : List ℕ) → Told store held out.before bo err.before be → (Rose f0 f1 → ⊥) →
      PutsDefined words held out.before out.after err.before err.after ⊎ ((s ≡ S.Memory) × (Wrote out.before out.after [] × Wrote err.before err.after []))
  puts_defined held bo be told n = at (memory_or_told h.decision)
    where
      at : (h.decision ≡ D.Memory) ⊎ ((told_of h.decision).status ≢ S.Memory) →
          PutsDefined words held out.before out.after err.before err.after ⊎ ((s ≡ S.Memory) × (Wrote out.before out.after [] × Wrote err.before err.after []))
      at (inl e) = inr (memory_status e, none_put e)
      at (inr m) = inl (
        told_of h.decision,
        is_defined words held f0 f1 h.decision (decided_told held told.files) h.faults n m,
        writes_front out.before out.after h.written (told_of h.decision).out h.output,
        writes_front err.before err.after h.written (told_of h.decision).err h.errors,
      )

  -- where the count of the files' faults rose
  pub unread : (m : Meaning) → meaning words ≡ Some m → f0 < f1 → Wrote out.before out.after [] × SaysUnreadable store err.before err.after (files_of m)
  unread m e f = at h.decision h.decided h.faults h.output h.errors
    where
      at : (d : Decision) → IsDecided words store d → CountsFaults d f0 f1 → Writes out.before out.after h.written (told_of d).out → Writes err.before err.after h.written (told_of d).err →
          Wrote out.before out.after [] × SaysUnreadable store err.before err.after (files_of m)
      at D.Usage x cf w v = absurd (omega (arith, cf, f))
      at (D.Absent line) x cf w v = absurd (omega (arith, cf, f))
      at (D.Unreadable line) x cf w v =
          let y = x.stops in
          let front : PutsFront err.before err.after (unreadable_line y.0) = subst (λ (bs : List ℕ). PutsFront err.before err.after bs) y.1.1 (writes_front err.before err.after h.written line.items v) in
          (writes_none out.before out.after h.written w, (y.0, subst (λ (k : Meaning). CannotRead store (files_of k) y.0) (same_command words x.command m x.means e) y.1.0, front))
      at (D.Rejected files broken) x cf w v = absurd (omega (arith, cf, f))
      at D.Checked x cf w v = absurd (omega (arith, cf, f))
      at (D.Ran b q goal) x cf w v = absurd (omega (arith, cf, f))
      at D.Memory x cf w v =
          let first = first_unread store (files_of m) (is_command words m e).some in (
            writes_none out.before out.after h.written w,
            (first.0, first.1, nothing_front err.before err.after (unreadable_line first.0) (writes_none err.before err.after h.written v)),
          )

  told_status : (x : Status) → s ≡ x → x ≢ S.WriteFault → x ≢ S.Memory → (told_of h.decision).status ≡ x
  told_status x e w m = ended_is h.written (told_of h.decision).status x h.told (sym h.status ∙ e) w m

  pub usage_cause : s ≡ S.Usage → meaning words ≡ None
  usage_cause e = at h.decision h.decided (told_status S.Usage e (λ x. cc) (λ x. cc))
    where
      at : (d : Decision) → IsDecided words store d → (told_of d).status ≡ S.Usage → meaning words ≡ None
      at D.Usage x t = x
      at (D.Absent line) x t = cc
      at (D.Unreadable line) x t = cc
      at (D.Rejected files broken) x t = cc
      at D.Checked x t = cc
      at (D.Ran b q goal) x t = absurd (ran_status b q goal S.Usage t)
      at D.Memory x t = cc

  -- the status of a decision, or a fault
  kinds : (t : Status) → (told_of h.decision).status ≡ t → (s ≡ t) ⊎ ((s ≡ S.WriteFault) ⊎ (s ≡ S.Memory))
  kinds t e =
      subst (λ (u : Status). (s ≡ u) ⊎ ((s ≡ S.WriteFault) ⊎ (s ≡ S.Memory))) e
      (subst (λ (u : Status). (u ≡ (told_of h.decision).status) ⊎ ((u ≡ S.WriteFault) ⊎ (u ≡ S.Memory))) (sym h.status) (ended_kinds h.written (told_of h.decision).status h.told))

  wanting : (t : Status) → (told_of h.decision).status ≡ S.Memory → (s ≡ t) ⊎ ((s ≡ S.WriteFault) ⊎ (s ≡ S.Memory))
  wanting t e = at (kinds S.Memory e)
    where
      at : (s ≡ S.Memory) ⊎ ((s ≡ S.WriteFault) ⊎ (s ≡ S.Memory)) → (s ≡ t) ⊎ ((s ≡ S.WriteFault) ⊎ (s ≡ S.Memory))
      at (inl z) = inr (inr z)
      at (inr z) = inr z

  pub usage_told : meaning words ≡ None → (s ≡ S.Usage) ⊎ ((s ≡ S.WriteFault) ⊎ (s ≡ S.Memory))
  usage_told n = at h.decision h.decided refl
    where
      at : (d : Decision) → IsDecided words store d → (told_of h.decision).status ≡ (told_of d).status → (s ≡ S.Usage) ⊎ ((s ≡ S.WriteFault) ⊎ (s ≡ S.Memory))
      at D.Usage x e = kinds S.Usage e
      at (D.Absent line) x e = absurd (no_command words x.command n x.means)
      at (D.Unreadable line) x e = absurd (no_command words x.command n x.means)
      at (D.Rejected files broken) x e = absurd (no_command words x.command n x.means)
      at D.Checked x e = absurd (no_command words x.command n x.means)
      at (D.Ran b q goal) x e = absurd (no_command words x.command n x.means)
      at D.Memory x e = wanting S.Usage e

  pub done_cause : s ≡ S.Done → OfSources words store RunsToEnd
  done_cause e = at h.written h.decision h.decided h.ends (done_written h.written (sym h.status ∙ e)) (told_status S.Done e (λ x. cc) (λ x. cc))
    where
      at : (r : Result Status PutFault) (d : Decision) → IsDecided words store d → EndsRun d r → r ≡ Ok S.Done → (told_of d).status ≡ S.Done → OfSources words store RunsToEnd
      at r D.Usage x n w t = cc
      at r (D.Absent line) x n w t = cc
      at r (D.Unreadable line) x n w t = cc
      at r (D.Rejected files broken) x n w t = cc
      at r D.Checked x n w t =
          let a = x.understood in
          record { command = x.command; means = x.means; texts = x.texts; holds = x.holds; so = (a.executable, a.compiles, unasked_ends (bounds_of x.command) a.executable a.unasked) }
      at r (D.Ran b q goal) x n w t =
          let a = x.understood in
          let there : EndsRun (D.Ran b q goal) (Ok S.Done) = subst (λ (k : Result Status PutFault). EndsRun (D.Ran b q goal) k) w n in
          record { command = x.command; means = x.means; texts = x.texts; holds = x.holds; so = (record { procs = q; goal = Some goal }, a.compiles, ran_ends x.command x.texts b q goal a (there refl)) }
      at r D.Memory x n w t = cc

  pub rejected_cause : s ≡ S.Rejected → OfSources words store BreaksRules
  rejected_cause e = at h.decision h.decided (told_status S.Rejected e (λ x. cc) (λ x. cc))
    where
      at : (d : Decision) → IsDecided words store d → (told_of d).status ≡ S.Rejected →
          OfSources words store BreaksRules
      at D.Usage x t = cc
      at (D.Absent line) x t = cc
      at (D.Unreadable line) x t = cc
      at (D.Rejected files broken) x t = record { command = x.command; means = x.means; texts = x.texts; holds = x.holds; so = (broken, x.understood.1) }
      at D.Checked x t = cc
      at (D.Ran b q goal) x t = absurd (ran_status b q goal S.Rejected t)
      at D.Memory x t = cc

  pub absent_cause : s ≡ S.Absent → Rose a0 a1
  absent_cause e = at h.decision h.absents (told_status S.Absent e (λ x. cc) (λ x. cc))
    where
      at : (d : Decision) → CountsAbsents d a0 a1 → (told_of d).status ≡ S.Absent → Rose a0 a1
      at D.Usage x t = cc
      at (D.Absent line) x t = x
      at (D.Unreadable line) x t = cc
      at (D.Rejected files broken) x t = cc
      at D.Checked x t = cc
      at (D.Ran b q goal) x t = absurd (ran_status b q goal S.Absent t)
      at D.Memory x t = cc

  pub absent_told : s ≡ S.Absent →
      OfFiles words (SaidAbsent store out.before out.after err.before err.after)
  absent_told e = at h.written h.decision h.decided h.output h.errors h.told (sym h.status ∙ e)
    where
      at : (r : Result Status PutFault) (d : Decision) → IsDecided words store d → Writes out.before out.after r (told_of d).out → Writes err.before err.after r (told_of d).err → IfOk r (λ u. u ≡ (told_of d).status) → ended r ≡ S.Absent →
          OfFiles words (SaidAbsent store out.before out.after err.before err.after)
      at (Err put.Failed) d x w v i t = cc
      at (Err put.Memory) d x w v i t = cc
      at (Ok u) D.Usage x w v i t = let z : S.Usage ≡ S.Absent = sym i ∙ t in cc
      at (Ok u) (D.Absent line) x w v i t =
          let y = x.stops in
          (x.command, x.means, (y.0, y.1.0, w, subst (λ (bs : List ℕ). Wrote err.before err.after bs) y.1.1 v))
      at (Ok u) (D.Unreadable line) x w v i t = let z : S.ReadFault ≡ S.Absent = sym i ∙ t in cc
      at (Ok u) (D.Rejected files broken) x w v i t = let z : S.Rejected ≡ S.Absent = sym i ∙ t in cc
      at (Ok u) D.Checked x w v i t = let z : S.Done ≡ S.Absent = sym i ∙ t in cc
      at (Ok u) (D.Ran b q goal) x w v i t = absurd (ran_status b q goal S.Absent (sym i ∙ t))
      at (Ok u) D.Memory x w v i t = let z : S.Memory ≡ S.Absent = sym i ∙ t in cc

  pub read_cause : s ≡ S.ReadFault → Rose f0 f1
  read_cause e = at h.decision h.faults (told_status S.ReadFault e (λ x. cc) (λ x. cc))
    where
      at : (d : Decision) → CountsFaults d f0 f1 → (told_of d).status ≡ S.ReadFault → Rose f0 f1
      at D.Usage x t = cc
      at (D.Absent line) x t = cc
      at (D.Unreadable line) x t = x
      at (D.Rejected files broken) x t = cc
      at D.Checked x t = cc
      at (D.Ran b q goal) x t = absurd (ran_status b q goal S.ReadFault t)
      at D.Memory x t = cc

  pub read_told : s ≡ S.ReadFault →
      OfFiles words (SaidUnreadable store out.before out.after err.before err.after)
  read_told e = at h.written h.decision h.decided h.output h.errors h.told (sym h.status ∙ e)
    where
      at : (r : Result Status PutFault) (d : Decision) → IsDecided words store d → Writes out.before out.after r (told_of d).out → Writes err.before err.after r (told_of d).err → IfOk r (λ u. u ≡ (told_of d).status) → ended r ≡ S.ReadFault →
          OfFiles words (SaidUnreadable store out.before out.after err.before err.after)
      at (Err put.Failed) d x w v i t = cc
      at (Err put.Memory) d x w v i t = cc
      at (Ok u) D.Usage x w v i t = let z : S.Usage ≡ S.ReadFault = sym i ∙ t in cc
      at (Ok u) (D.Absent line) x w v i t = let z : S.Absent ≡ S.ReadFault = sym i ∙ t in cc
      at (Ok u) (D.Unreadable line) x w v i t =
          let y = x.stops in
          (x.command, x.means, (y.0, y.1.0, w, subst (λ (bs : List ℕ). Wrote err.before err.after bs) y.1.1 v))
      at (Ok u) (D.Rejected files broken) x w v i t = let z : S.Rejected ≡ S.ReadFault = sym i ∙ t in cc
      at (Ok u) D.Checked x w v i t = let z : S.Done ≡ S.ReadFault = sym i ∙ t in cc
      at (Ok u) (D.Ran b q goal) x w v i t = absurd (ran_status b q goal S.ReadFault (sym i ∙ t))
      at (Ok u) D.Memory x w v i t = let z : S.Memory ≡ S.ReadFault = sym i ∙ t in cc

  pub read_seen : f0 < f1 → (s ≡ S.ReadFault) ⊎ ((s ≡ S.WriteFault) ⊎ (s ≡ S.Memory))
  read_seen f = at h.decision h.faults refl
    where
      at : (d : Decision) → CountsFaults d f0 f1 → (told_of h.decision).status ≡ (told_of d).status → (s ≡ S.ReadFault) ⊎ ((s ≡ S.WriteFault) ⊎ (s ≡ S.Memory))
      at D.Usage x t = absurd (omega (arith, x, f))
      at (D.Absent line) x t = absurd (omega (arith, x, f))
      at (D.Unreadable line) x t = kinds S.ReadFault t
      at (D.Rejected files broken) x t = absurd (omega (arith, x, f))
      at D.Checked x t = absurd (omega (arith, x, f))
      at (D.Ran b q goal) x t = absurd (omega (arith, x, f))
      at D.Memory x t = wanting S.ReadFault t

  pub absent_seen : a0 < a1 → (s ≡ S.Absent) ⊎ ((s ≡ S.WriteFault) ⊎ (s ≡ S.Memory))
  absent_seen f = at h.decision h.absents refl
    where
      at : (d : Decision) → CountsAbsents d a0 a1 → (told_of h.decision).status ≡ (told_of d).status → (s ≡ S.Absent) ⊎ ((s ≡ S.WriteFault) ⊎ (s ≡ S.Memory))
      at D.Usage x t = absurd (omega (arith, x, f))
      at (D.Absent line) x t = kinds S.Absent t
      at (D.Unreadable line) x t = absurd (omega (arith, x, f))
      at (D.Rejected files broken) x t = absurd (omega (arith, x, f))
      at D.Checked x t = absurd (omega (arith, x, f))
      at (D.Ran b q goal) x t = absurd (omega (arith, x, f))
      at D.Memory x t = wanting S.Absent t

  told_no_fault : (d : Decision) → (told_of d).status ≢ S.WriteFault
  told_no_fault D.Usage t = cc
  told_no_fault (D.Absent line) t = cc
  told_no_fault (D.Unreadable line) t = cc
  told_no_fault (D.Rejected files broken) t = cc
  told_no_fault D.Checked t = cc
  told_no_fault (D.Ran b q goal) t = absurd (ran_status b q goal S.WriteFault t)
  told_no_fault D.Memory t = cc

  pub write_cause : s ≡ S.WriteFault → Rose out.faults_before out.faults_after ⊎ Rose err.faults_before err.faults_after
  write_cause e = at h.written h.puts h.told (sym h.status ∙ e)
    where
      at : (r : Result Status PutFault) → CountPuts r out.faults_before out.faults_after err.faults_before err.faults_after → IfOk r (λ u. u ≡ (told_of h.decision).status) → ended r ≡ S.WriteFault →
          Rose out.faults_before out.faults_after ⊎ Rose err.faults_before err.faults_after
      at (Ok u) c i t = absurd (told_no_fault h.decision (sym i ∙ t))
      at (Err put.Failed) (inl c) i t = inr c.1
      at (Err put.Failed) (inr c) i t = inl c.0
      at (Err put.Memory) c i t = cc

  pub write_seen : (out.faults_before < out.faults_after) ⊎ (err.faults_before < err.faults_after) → s ≡ S.WriteFault
  write_seen k = h.status ∙ at h.written h.puts k
    where
      at : (r : Result Status PutFault) → CountPuts r out.faults_before out.faults_after err.faults_before err.faults_after → (out.faults_before < out.faults_after) ⊎ (err.faults_before < err.faults_after) → ended r ≡ S.WriteFault
      at (Ok u) c (inl k) = absurd (omega (arith, c.0, k))
      at (Ok u) c (inr k) = absurd (omega (arith, c.1, k))
      at (Err put.Failed) c k = refl
      at (Err put.Memory) c (inl k) = absurd (omega (arith, c.0, k))
      at (Err put.Memory) c (inr k) = absurd (omega (arith, c.1, k))

  -- the run of a goal over procedures stopped
  stop_cause : (IsSo : Halt → Type 0) (x : Status) → IsStopStatus x → ((h : Option Halt) → end_status h ≡ x → Stops IsSo h) → s ≡ x → OfSources words store (StopsBy IsSo)
  stop_cause IsSo x k why e = at h.decision h.decided (told_status x e (λ i. subst IsStopStatus i k) (λ i. subst IsStopStatus i k))
    where
      at : (d : Decision) → IsDecided words store d → (told_of d).status ≡ x → OfSources words store (StopsBy IsSo)
      at D.Usage y t = absurd (subst IsStopStatus (sym t) k)
      at (D.Absent line) y t = absurd (subst IsStopStatus (sym t) k)
      at (D.Unreadable line) y t = absurd (subst IsStopStatus (sym t) k)
      at (D.Rejected files broken) y t = absurd (subst IsStopStatus (sym t) k)
      at D.Checked y t = absurd (subst IsStopStatus (sym t) k)
      at (D.Ran b q goal) y t = ran_stops IsSo words store b q goal y (why (stop_of (run_of_goal q goal b.budget b.depth)) (sym (goal_status (plain_bounds b) q goal) ∙ t))
      at D.Memory y t = absurd (subst IsStopStatus (sym t) k)

  pub threw_cause : s ≡ S.Threw → OfSources words store (StopsBy IsThrown)
  threw_cause e = stop_cause IsThrown S.Threw tt stops_thrown e

  pub spent_cause : s ≡ S.Budget → OfSources words store (StopsBy (λ halt. halt ≡ budget))
  spent_cause e = stop_cause (λ halt. halt ≡ budget) S.Budget tt stops_spent e

  pub deep_cause : s ≡ S.TooDeep → OfSources words store (StopsBy (λ halt. halt ≡ too_deep))
  deep_cause e = stop_cause (λ halt. halt ≡ too_deep) S.TooDeep tt stops_deep e
