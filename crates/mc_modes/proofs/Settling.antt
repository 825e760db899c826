-- Where a rule is broken, the state goes back to the moment before.
use Rattle.std.proofs.Common.{◌≡◌, ℕ, ◌≤◌, List, length, Result, Ok, Err, OnOk, sym, subst, arith}
use Rattle.mc_model.specs.Flat.{Flat_goal, variables_of}
use Rattle.mc_model.specs.declared.inst.Sig.{Sig}
use Rattle.mc_procs.specs.Procedures.{PlainProcs}
use Rattle.mc_mode_state.specs.States.{snapshot_of, TrailWithin, SameState, Later, SameLengths}
use Rattle.mc_mode_state.specs.Agreeing.{StateInvariant}
use Rattle.mc_mode_state.specs.declared.state.State.{State}
use Rattle.mc_mode_state.specs.declared.state.Snapshot.{Snapshot}
use Rattle.mc_mode_state.specs.declared.part.Part.{Part}
use Rattle.mc_mode_state.specs.declared.fault.Failed.{Failed}
use Rattle.mc_mode_state.specs.declared.fault.Failed.TheVariants as E
use Rattle.mc_mode_state.proofs.Returns.{moved-back}
use Rattle.mc_modes.specs.Tries.{OutsideKnown, Attempt, attempt_of, tells_outside, TryPost, AttemptPost, OnFault}
use Rattle.mc_modes.proofs.Ways.{breaks-undone}

pub goes-settles : (told : OutsideKnown) (a : Attempt) (q r : PlainProcs) (s t : State) (res : Result Part Failed) → AttemptPost told a q r s t res
    → OnFault res (TrailWithin (length t.insts.items) t.trail.items × SameLengths t)
goes-settles told a q r s t (Ok p) d = tt
goes-settles told a q r s t (Err (E.Fault f)) d = (d.stepped.moved.stands.trail, d.stepped.moved.stands.even)
goes-settles told a q r s t (Err E.Memory) d = tt

settled : (told : OutsideKnown) (a : Attempt) (q r : PlainProcs) (s t u : State) (res : Result Part Failed)
    → ((first : ℕ) (O : List ℕ) → told first O → first ≤ length s.insts.items) → StateInvariant q s → AttemptPost told a q r s t res
    → OnOk res (u ≡ t) → OnFault res (Later s t → SameLengths s → SameState s u) → OnFault res (u.nodes ≡ t.nodes) → TryPost told a q r s u res
settled told a q r s t u (Ok p) own st d k h n = subst (λ (v : State). TryPost told a q r s v (Ok p)) (sym k) d
settled told a q r s t u (Err (E.Fault f)) own st d k h n =
    let same = h d.stepped.later st.even in
    breaks-undone told a q r s t u f (λ first O w. let e : length s.types.items ≡ length s.insts.items = st.even.types in let l = own first O w in omega arith)
    d same (moved-back q r s t u st d.stepped same n) n same.types
settled told a q r s t u (Err E.Memory) own st d k h n = tt

pub settled-does : (told : OutsideKnown) (a : Attempt) (q r : PlainProcs) (s t u : State) (tried res : Result Part Failed) (mark : Snapshot)
    → ((first : ℕ) (O : List ℕ) → told first O → first ≤ length s.insts.items) → StateInvariant q s → AttemptPost told a q r s t tried → res ≡ tried → mark ≡ snapshot_of s
    → OnOk res (u ≡ t) → OnFault res ((v : State) → Later v t → SameLengths v → mark ≡ snapshot_of v → SameState v u) → OnFault res (u.nodes ≡ t.nodes)
    → TryPost told a q r s u res
settled-does told a q r s t u tried res mark own st d e m k h n =
    settled told a q r s t u res own st (subst (AttemptPost told a q r s t) (sym e) d) k (at res h) n
  where
    at : (o : Result Part Failed) → OnFault o ((v : State) → Later v t → SameLengths v → mark ≡ snapshot_of v → SameState v u) → OnFault o (Later s t → SameLengths s → SameState s u)
    at (Ok p) g = tt
    at (Err (E.Fault f)) g = λ l w. g s l w m
    at (Err E.Memory) g = tt

-- the same goal by another name
pub goes-as : (sigs : List Sig) (g h : Flat_goal) (q r : PlainProcs) (s t : State) (res : Result Part Failed) → h ≡ g
    → AttemptPost (tells_outside (variables_of g) s) (attempt_of sigs g q s) q r s t res → AttemptPost (tells_outside (variables_of h) s) (attempt_of sigs h q s) q r s t res
goes-as sigs g h q r s t res e d = subst (λ (k : Flat_goal). AttemptPost (tells_outside (variables_of k) s) (attempt_of sigs k q s) q r s t res) (sym e) d

-- where less is asked of what occurs outside
pub goes-told : (told other : OutsideKnown) (a : Attempt) (q r : PlainProcs) (s t : State) (res : Result Part Failed)
    → ((first : ℕ) (O : List ℕ) → other first O → told first O) → AttemptPost told a q r s t res → AttemptPost other a q r s t res
goes-told told other a q r s t (Ok p) f d = record { outcome = λ first O C T k v. d.outcome first O C T (f first O k) v; fresh = d.fresh; stepped = d.stepped }
goes-told told other a q r s t (Err (E.Fault e)) f d = record { outcome = λ first O C T k v. d.outcome first O C T (f first O k) v; stepped = d.stepped }
goes-told told other a q r s t (Err E.Memory) f d = tt
