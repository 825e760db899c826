-- What an atom that went so does next, and a switch.
use Rattle.std.specs.Prelude.{◌≡◌, ℕ, List, false}
use Rattle.mc_program.specs.Values.{Val}
use Rattle.mc_program.specs.declared.builtin.Builtin.{Builtin}
use Rattle.mc_model.specs.EventList.{Items}
use Rattle.mc_model.specs.Outcomes.{Outcome}
use Rattle.mc_model.specs.Stream.{Bindings}
use Rattle.mc_flat_code.specs.Ticked.{Ticked, Wrote, follow}
use Rattle.mc_flat_code.specs.declared.code.FlatProgram.{FlatProgram}
use Rattle.mc_plain.specs.declared.results.AtomResult.{AtomResult}
use Rattle.mc_plain.specs.declared.results.AtomResult.TheVariants as W
use Rattle.mc_plain.specs.Atoms.{ReadsFrom}
use Rattle.mc_plain.specs.code.Machine.{Machine, NextAction, at, failing, stuck, said, is_ended}
use Rattle.mc_plain.specs.declared.atoms.Shown.{Shown}
use Rattle.mc_plain.specs.declared.atoms.Shown.TheVariants as S

abbrev pub now_of : AtomResult → ℕ → NextAction
now_of W.On next = at next
now_of W.Fails next = failing
now_of W.Stuck next = stuck

-- an atom has gone, and its list is what is done next
pub record Acted (items : Items Bindings) (next : ℕ) (old new : Machine) : Type 0 where
  pub kept : new ≡ record old { bindings = new.bindings; now = new.now }
  pub going : is_ended new.now ≡ false
  pub says :
      (outcome : Builtin → List Val → Outcome) (f : FlatProgram)
      (go : ℕ → Bindings → Ticked Bindings) →
      follow items (go next) ≡ said outcome f go new.now new.bindings

-- an atom has shown something of a run, and then its list is what is done next
pub record ActedAfter
    (show : Ticked Bindings → Ticked Bindings) (items : Items Bindings)
    (next : ℕ) (old new : Machine) : Type 0 where
  pub kept : new ≡ record old { bindings = new.bindings; now = new.now }
  pub going : is_ended new.now ≡ false
  pub says :
      (outcome : Builtin → List Val → Outcome) (f : FlatProgram)
      (go : ℕ → Bindings → Ticked Bindings) →
      follow items (go next) ≡ show (said outcome f go new.now new.bindings)

-- the application of a builtin, whose list over an input this is, has shown so much
abbrev pub Applied : ((input : List ℕ) → Items Bindings) → ℕ → Machine → Shown → Machine → Type 0
Applied items next old S.Nothing new = (input : List ℕ) → Acted (items input) next old new
Applied items next old (S.Wrote text) new =
    (input : List ℕ) → ActedAfter (Wrote text) (items input) next old new
Applied items next old (S.Wants from) new =
    (new ≡ old) × ((input : List ℕ) → ReadsFrom from (items input))
