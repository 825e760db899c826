-- An atom's list, as what is done next says it.
use Rattle.std.proofs.Common.{◌≡◌, ℕ, false, refl, sym, ap, ◌∙◌, List}
use Rattle.mc_program.specs.Values.{Val}
use Rattle.mc_program.specs.declared.builtin.Builtin.{Builtin}
use Rattle.mc_model.specs.EventList.{Items, Exc, Stopped, Wrote, Read, thrown}
use Rattle.mc_model.specs.Outcomes.{Outcome}
use Rattle.mc_model.specs.Stream.{Bindings}
use Rattle.mc_flat_code.specs.Ticked as T
use Rattle.mc_flat_code.specs.Ticked.{Ticked, follow}
use Rattle.mc_flat_code.specs.declared.code.FlatProgram.{FlatProgram}
use Rattle.mc_plain.specs.Atoms.{went_items}
use Rattle.mc_plain.specs.declared.results.AtomResult.{AtomResult}
use Rattle.mc_plain.specs.declared.results.AtomResult.TheVariants as W
use Rattle.mc_plain.specs.code.Machine.{Machine, stopped, said, is_ended}
use Rattle.mc_plain.specs.code.Atoms.{Acted, ActedAfter, now_of}
use Rattle.mc_plain.proofs.TickedLaws.{append_end}

pub going : (w : AtomResult) (next : ℕ) → is_ended (now_of w next) ≡ false
going W.On next = refl
going W.Fails next = refl
going W.Stuck next = refl

module _ (outcome : Builtin → List Val → Outcome) (f : FlatProgram) (go : ℕ → Bindings → Ticked Bindings) where
  pub went_said : (items : Items Bindings) (w : AtomResult) (next : ℕ) (e : Bindings) → items ≡ went_items w e → follow items (go next) ≡ said outcome f go (now_of w next) e
  went_said items W.On next e x = ap (λ l. follow l (go next)) x ∙ append_end (go next e)
  went_said items W.Fails next e x = ap (λ l. follow l (go next)) x
  went_said items W.Stuck next e x = ap (λ l. follow l (go next)) x

pub acted : (items : Items Bindings) (w : AtomResult) (next : ℕ) (old new : Machine) → items ≡ went_items w new.bindings → new.now ≡ now_of w next → new ≡ record old { bindings = new.bindings; now = new.now } → Acted items next old new
acted items w next old new x n k =
    record {
      kept = k;
      going = ap is_ended n ∙ going w next;
      says = λ outcome f go. went_said outcome f go items w next new.bindings x ∙ ap (λ j. said outcome f go j new.bindings) (sym n);
    }

-- an atom that throws
pub threw : (items : Items Bindings) (x : Exc) (next : ℕ) (old new : Machine) → items ≡ Stopped (thrown x) → new.now ≡ stopped (thrown x) → new ≡ record old { bindings = new.bindings; now = new.now } → Acted items next old new
threw items x next old new e n k =
    record {
      kept = k;
      going = ap is_ended n;
      says = λ outcome f go. ap (λ l. follow l (go next)) e ∙ ap (λ j. said outcome f go j new.bindings) (sym n);
    }

-- an atom that writes a text and then goes on
pub wrote : (text : List ℕ) (items : Items Bindings) (w : AtomResult) (next : ℕ) (old new : Machine) → items ≡ Wrote text (went_items w new.bindings) → new.now ≡ now_of w next → new ≡ record old { bindings = new.bindings; now = new.now } → ActedAfter (T.Wrote text) items next old new
wrote text items w next old new e n k =
    record {
      kept = k;
      going = ap is_ended n ∙ going w next;
      says = λ outcome f go. ap (λ l. follow l (go next)) e ∙ ap (T.Wrote text) (went_said outcome f go (went_items w new.bindings) w next new.bindings refl ∙ ap (λ j. said outcome f go j new.bindings) (sym n));
    }

-- an atom that reads and then goes on, or throws
pub read_went : (from : ℕ) (items : Items Bindings) (w : AtomResult) (next : ℕ) (old new : Machine) → items ≡ Read from (went_items w new.bindings) → new.now ≡ now_of w next → new ≡ record old { bindings = new.bindings; now = new.now } → ActedAfter (T.Read from) items next old new
read_went from items w next old new e n k =
    record {
      kept = k;
      going = ap is_ended n ∙ going w next;
      says = λ outcome f go. ap (λ l. follow l (go next)) e ∙ ap (T.Read from) (went_said outcome f go (went_items w new.bindings) w next new.bindings refl ∙ ap (λ j. said outcome f go j new.bindings) (sym n));
    }

pub read_threw : (from : ℕ) (items : Items Bindings) (x : Exc) (next : ℕ) (old new : Machine) → items ≡ Read from (Stopped (thrown x)) → new.now ≡ stopped (thrown x) → new ≡ record old { bindings = new.bindings; now = new.now } → ActedAfter (T.Read from) items next old new
read_threw from items x next old new e n k =
    record {
      kept = k;
      going = ap is_ended n;
      says = λ outcome f go. ap (λ l. follow l (go next)) e ∙ ap (λ j. T.Read from (said outcome f go j new.bindings)) (sym n);
    }
