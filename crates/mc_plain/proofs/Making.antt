-- Constructors that are built and taken apart.
use Rattle.std.proofs.Common.{◌≡◌, ℕ, zero, suc, ◌<◌, true, List, [], ◌∷◌, Option, Some, None, Result, Ok, Err, IfOk, length, get_or, set, ap, sym, subst, ◌∙◌, arith}
use Rattle.std.specs.List.{All}
use Rattle.mc_base.specs.declared.memory.Memory.{Memory}
use Rattle.mc_program.specs.Values.{Val, int, char, str, con, state, Vals, no_vals, val_then, vals, listed}
use Rattle.mc_program.specs.Printed.{AllSymbolsBelow}
use Rattle.mc_program.specs.declared.program.Program.{Program}
use Rattle.mc_values.specs.declared.heap.Heap.{Heap}
use Rattle.mc_values.specs.Heap.{IsLive, value_at, values_at, StandsFor, Extends}
use Rattle.mc_values.specs.Parts.{arguments}
use Rattle.mc_model.specs.EventList.{End, Answer}
use Rattle.mc_model.specs.Stream.{put, gather, build_items, made_items}
use Rattle.mc_plain.specs.Values.{AllProper, IsValue, IsHeld, AreLive}
use Rattle.mc_plain.specs.Frames.{bindings, seen, given}
use Rattle.mc_plain.specs.Atoms.{went_items}
use Rattle.mc_plain.specs.declared.results.AtomResult.{AtomResult}
use Rattle.mc_plain.proofs.Binding.{put_seen}
use Rattle.mc_plain.proofs.Giving.{AreValues}
use Rattle.mc_plain.proofs.Growth.{bindings_grow}

module _ (P : Program) where
  all_named : (vs : List Val) → AreValues P vs → AllSymbolsBelow (length P.symbols) (vals vs)
  all_named [] are = tt
  all_named (v ∷ vs) are = (are.0.named, all_named vs are.1)

  all_proper : (vs : List Val) → AreValues P vs → AllProper (vals vs)
  all_proper [] are = tt
  all_proper (v ∷ vs) are = (are.0.proper, all_proper vs are.1)

  listed_values : (vs : Vals) → AllSymbolsBelow (length P.symbols) vs → AllProper vs → AreValues P (listed vs)
  listed_values no_vals named proper = tt
  listed_values (val_then v vs) named proper = (record { named = named.0; proper = proper.0 }, listed_values vs named.1 proper.1)

  argument_values : (v : Val) → IsValue P v → AreValues P (arguments v)
  argument_values (int n) is = tt
  argument_values (char c) is = tt
  argument_values (str s) is = tt
  argument_values (con f vs) is = listed_values vs is.named.1 is.proper
  argument_values (state w k) is = tt

  module _ (h : Heap) where
    all_held : (refs : List ℕ) → All (IsLive h) refs → AreValues P (values_at h refs) → All (IsHeld P h) refs
    all_held [] live are k d lt = absurd (omega arith)
    all_held (r ∷ refs) live are zero d lt = record { live = live 0 d lt; value = are.0 }
    all_held (r ∷ refs) live are (suc k) d lt = all_held refs (λ j e within. live (suc j) e (omega arith)) are.1 k d (omega arith)

    -- the arguments of a value of the program are values of it
    pub args_held : (r : ℕ) (refs : List ℕ) → values_at h refs ≡ arguments (value_at h r) → All (IsLive h) refs → IsHeld P h r → All (IsHeld P h) refs
    args_held r refs e live held = all_held refs live (subst (AreValues P) (sym e) (argument_values (value_at h r) held.value))

    -- and a constructor over values of it is one
    pub con_held : (symbol r : ℕ) (vs : List Val) → StandsFor h r (con symbol (vals vs)) → symbol < length P.symbols → AreValues P vs → IsHeld P h r
    con_held symbol r vs stands lt are =
        let is : IsValue P (con symbol (vals vs)) = record { named = (lt, all_named vs are); proper = all_proper vs are } in
        record { live = stands.live; value = subst (IsValue P) (sym stands.is) is }

-- an unbound variable gets a constructor over the values of others
module _ (h k : Heap) (grows : Extends h k) (frame : List (Option ℕ)) (live : AreLive h frame) (x symbol r : ℕ) (args refs : List ℕ) where
  pub built_says : x < length frame → gather args (bindings h frame) ≡ given true (values_at h refs) → value_at k r ≡ con symbol (vals (values_at h refs)) → build_items x symbol (bindings h frame) (gather args (bindings h frame)) ≡ Answer (bindings k (set frame x (Some r))) End
  built_says lt all is =
      ap (build_items x symbol (bindings h frame)) all
      ∙ (λ i. Answer (put x (sym is i) (sym (bindings_grow h k grows frame live) i)) End)
      ∙ ap (λ e. Answer e End) (sym (put_seen k frame x r lt))

-- a bound variable is taken apart
pub if_taken : (h k : Heap) (frame new : List (Option ℕ)) (x symbol w : ℕ) (args : List ℕ) → get_or frame x None ≡ Some w → (r : Result AtomResult Memory) → IfOk r (λ went. (y : ℕ) → made_items y symbol args (bindings h frame) (Some (value_at h w)) ≡ went_items went (bindings k new)) → IfOk r (λ went. made_items x symbol args (bindings h frame) (bindings h frame x) ≡ went_items went (bindings k new))
if_taken h k frame new x symbol w args some (Ok went) e = ap (λ o. made_items x symbol args (bindings h frame) (seen h o)) some ∙ e x
if_taken h k frame new x symbol w args some (Err m) e = e

-- a Ref that stands for a value of the program
pub stands_held : (P : Program) (h : Heap) (r : ℕ) (v : Val) → StandsFor h r v → IsValue P v → IsHeld P h r
stands_held P h r v stands is = record { live = stands.live; value = subst (IsValue P) (sym stands.is) is }
