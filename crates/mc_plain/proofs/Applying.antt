-- What the application of a builtin does to a run.
use Rattle.std.proofs.Common.{◌≡◌, ℕ, Option, List, refl, sym, ap, subst, ◌∙◌, Vec, Global}
use Rattle.mc_program.specs.declared.program.Program.{Program}
use Rattle.mc_values.specs.declared.heap.Heap.{Heap}
use Rattle.mc_values.specs.Heap.{Extends}
use Rattle.mc_model.specs.EventList.{Items, Stopped, Wrote, Read, thrown}
use Rattle.mc_model.specs.Stream.{Bindings}
use Rattle.mc_model.specs.declared.run.Exception.{Exception}
use Rattle.mc_model.specs.declared.run.Stop.TheVariants as E
use Rattle.mc_builtins.specs.Answers.{plain_exception}
use Rattle.mc_flat_code.specs.Ticked as T
use Rattle.mc_plain.specs.Frames.{bindings}
use Rattle.mc_plain.specs.Values.{AreHeld}
use Rattle.mc_plain.specs.Atoms.{went_items, ReadsFrom}
use Rattle.mc_plain.specs.declared.results.AtomResult.{AtomResult}
use Rattle.mc_plain.specs.code.Views.{machine, plain_now}
use Rattle.mc_plain.specs.code.Held.{AllHeld}
use Rattle.mc_plain.specs.code.Atoms.{ActedAfter, Applied, now_of}
use Rattle.mc_plain.specs.declared.atoms.Shown.TheVariants as S
use Rattle.mc_plain.specs.declared.state.NextAction.{NextAction}
use Rattle.mc_plain.specs.declared.state.NextAction.TheVariants as N
use Rattle.mc_plain.specs.declared.state.Control.{Control}
use Rattle.mc_plain.proofs.Going.{acted, threw, wrote, read_went, read_threw}
use Rattle.mc_plain.proofs.Growing.{atom_kept, frame_kept}

-- by the list of a builtin over bindings and an input, in a frame with room for its variables
module _ (program : Program) (h k : Heap) (grows : Extends h k) (c : Control) (x : AllHeld program h c) (frame : Vec (Option ℕ) Global)
    (items : Bindings → List ℕ → Items Bindings) (next : ℕ) (wide : List (Option ℕ)) (same : bindings h wide ≡ bindings h c.frame.items) where
  abbrev before : Bindings
  before = bindings h c.frame.items

  abbrev later : Bindings
  later = bindings k frame.items

  pub went_applied : (w : AtomResult) (now : NextAction) → plain_now now ≡ now_of w next → ((input : List ℕ) → items (bindings h wide) input ≡ went_items w later) → Applied (items before) next (machine h c) S.Nothing (machine k (record c { frame = frame; now = now }))
  went_applied w now n does =
      λ input. acted (items before input) w next (machine h c) (machine k (record c { frame = frame; now = now }))
      (ap (λ (e : Bindings). items e input) (sym same) ∙ does input) n (atom_kept program h k grows c frame now x)

  pub threw_applied : (e : Exception) → ((input : List ℕ) → items (bindings h wide) input ≡ Stopped (thrown (plain_exception e))) → Applied (items before) next (machine h c) S.Nothing (machine k (record c { frame = frame; now = N.Stopped (E.Throw e) }))
  threw_applied e does =
      λ input. threw (items before input) (plain_exception e) next (machine h c) (machine k (record c { frame = frame; now = N.Stopped (E.Throw e) }))
      (ap (λ (g : Bindings). items g input) (sym same) ∙ does input) refl (atom_kept program h k grows c frame (N.Stopped (E.Throw e)) x)

  pub wrote_applied : (text : List ℕ) (w : AtomResult) (now : NextAction) → plain_now now ≡ now_of w next → ((input : List ℕ) → items (bindings h wide) input ≡ Wrote text (went_items w later)) → Applied (items before) next (machine h c) (S.Wrote text) (machine k (record c { frame = frame; now = now }))
  wrote_applied text w now n does =
      λ input. wrote text (items before input) w next (machine h c) (machine k (record c { frame = frame; now = now }))
      (ap (λ (e : Bindings). items e input) (sym same) ∙ does input) n (atom_kept program h k grows c frame now x)

  pub reads_applied : (from : ℕ) → frame.items ≡ wide → AreHeld program h wide → ((input : List ℕ) → ReadsFrom from (items (bindings h wide) input)) → Applied (items before) next (machine h c) (S.Wants from) (machine k (record c { frame = frame }))
  reads_applied from waits held reads = (
    frame_kept program h k grows c frame x (subst (AreHeld program h) (sym waits) held) (ap (bindings h) waits ∙ same),
    λ input. subst (λ (e : Bindings). ReadsFrom from (items e input)) same (reads input),
  )

  pub fed_went : (from : ℕ) (input : List ℕ) (w : AtomResult) (now : NextAction) → plain_now now ≡ now_of w next → items (bindings h wide) input ≡ Read from (went_items w later) → ActedAfter (T.Read from) (items before input) next (machine h c) (machine k (record c { frame = frame; now = now }))
  fed_went from input w now n does =
      read_went from (items before input) w next (machine h c) (machine k (record c { frame = frame; now = now }))
      (ap (λ (e : Bindings). items e input) (sym same) ∙ does) n (atom_kept program h k grows c frame now x)

  pub fed_threw : (from : ℕ) (input : List ℕ) (e : Exception) → items (bindings h wide) input ≡ Read from (Stopped (thrown (plain_exception e))) → ActedAfter (T.Read from) (items before input) next (machine h c) (machine k (record c { frame = frame; now = N.Stopped (E.Throw e) }))
  fed_threw from input e does =
      read_threw from (items before input) (plain_exception e) next (machine h c) (machine k (record c { frame = frame; now = N.Stopped (E.Throw e) }))
      (ap (λ (g : Bindings). items g input) (sym same) ∙ does) refl (atom_kept program h k grows c frame (N.Stopped (E.Throw e)) x)
