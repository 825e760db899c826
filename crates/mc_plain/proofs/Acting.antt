-- What the application of a builtin does, by its outcome.
use Rattle.std.proofs.Common.{◌≡◌, ℕ, suc, ◌<◌, true, List, [], ◌∷◌, Option, Some, None, length, get_or, map, refl, ap, sym, subst, ◌∙◌, arith}
use Rattle.std.specs.Prelude.{IfSome}
use Rattle.std.specs.List.{All}
use Rattle.std.proofs.lemmas.List.{length-map, get_or-map}
use Rattle.mc_program.specs.Values.{Val, int, char, str, con, state}
use Rattle.mc_program.specs.declared.program.Program.{Program}
use Rattle.mc_program.specs.declared.builtin.Builtin.{Builtin}
use Rattle.mc_values.specs.declared.heap.Heap.{Heap}
use Rattle.mc_values.specs.Heap.{IsLive, value_at, values_at, Extends}
use Rattle.mc_model.specs.EventList.{Items, End, Stopped, Wrote, Read, thrown, of_option, Exc}
use Rattle.mc_model.specs.Outcomes.{Outcome, fails, gives, throws, writes, reads, reads_and_throws}
use Rattle.mc_model.specs.Builtins.{outcome}
use Rattle.mc_model.specs.Stream.{Bindings, unify, gather, outcome_items, apply_items}
use Rattle.mc_builtins.specs.Answers.{known, IsText, IsOf, output_at}
use Rattle.mc_builtins.specs.Answers.{ReadsFrom as OutcomeReads}
use Rattle.mc_builtins.specs.declared.library.Library.{Library}
use Rattle.mc_plain.specs.Values.{IsValue, IsHeld, AreLive, HasLists}
use Rattle.mc_plain.specs.Frames.{bindings, given}
use Rattle.mc_plain.specs.Atoms.{went_items, ReadsFrom}
use Rattle.mc_plain.specs.declared.results.AtomResult.{AtomResult}
use Rattle.mc_plain.proofs.Growth.{bindings_grow}
use Rattle.mc_plain.proofs.Giving.{AreValues, GivesValues, outcome_gives}

is_text : (P : Program) (v : Val) → IsValue P v → IsText v
is_text P (int n) is = tt
is_text P (char c) is = tt
is_text P (str s) is = is.proper
is_text P (con f vs) is = tt
is_text P (state w k) is = tt

module _ (P : Program) (h : Heap) where
  -- Refs of values of a program, as builtins want them
  pub of_held : (refs : List ℕ) → All (IsHeld P h) refs → All (IsOf P) (values_at h refs)
  of_held refs held k d lt =
      let within : k < length refs = omega (arith, length-map refs (value_at h)) in
      let is = (held k 0 within).value in
      subst (λ v. IsOf P v) (sym (get_or-map (value_at h) refs k 0 d within)) (record { named = is.named; text = is_text P (value_at h (get_or refs k 0)) is })

  pub are_values : (refs : List ℕ) → All (IsHeld P h) refs → AreValues P (values_at h refs)
  are_values [] held = tt
  are_values (r ∷ refs) held = ((held 0 0 (omega arith)).value, are_values refs (λ k d lt. held (suc k) d (omega arith)))

  output_held : (output : Option ℕ) → IfSome output (IsLive h) → AreValues P (output_at h output) → IfSome output (IsHeld P h)
  output_held None live are = tt
  output_held (Some r) live are = record { live = live; value = are.0 }

-- the outputs of a builtin at values of a program are values of it
module _ (l : Library) (h k : Heap) (op : Builtin) (lists : HasLists l op) (refs : List ℕ) (held : All (IsHeld l.program.now h) refs) where
  given_values : (o : Outcome) → outcome (known l) [] op (values_at h refs) ≡ o → GivesValues l.program.now o
  given_values o e = subst (GivesValues l.program.now) e (outcome_gives l.program.now (known l) [] op lists (values_at h refs) (are_values l.program.now h refs held))

  pub gives_held : (output : Option ℕ) → IfSome output (IsLive k) → ((input : List ℕ) → outcome (known l) input op (values_at h refs) ≡ gives (output_at k output)) → IfSome output (IsHeld l.program.now k)
  gives_held output live e = output_held l.program.now k output live (given_values (gives (output_at k output)) (e []))

  pub writes_held : (text : List ℕ) (r : ℕ) → IsLive k r → ((input : List ℕ) → outcome (known l) input op (values_at h refs) ≡ writes text (value_at k r ∷ [])) → IsHeld l.program.now k r
  writes_held text r live e = record { live = live; value = (given_values (writes text (value_at k r ∷ [])) (e [])).0 }

-- at inputs that are all bound
module _ (does : List ℕ → List Val → Outcome) (h k : Heap) (grows : Extends h k) (frame new : List (Option ℕ)) (live : AreLive h frame)
    (xs ys : List ℕ) (vs : List Val) (all : gather xs (bindings h frame) ≡ given true vs) where
  abbrev items : List ℕ → Items Bindings
  items input = apply_items (does input) ys (bindings h frame) (gather xs (bindings h frame))

  outcome_is : (input : List ℕ) (o : Outcome) → does input vs ≡ o → items input ≡ outcome_items ys (bindings h frame) o
  outcome_is input o e = ap (apply_items (does input) ys (bindings h frame)) all ∙ ap (outcome_items ys (bindings h frame)) e

  met_before : (ws : List Val) (went : AtomResult) → of_option (unify ys (map Some ws) (bindings k frame)) ≡ went_items went (bindings k new) → of_option (unify ys (map Some ws) (bindings h frame)) ≡ went_items went (bindings k new)
  met_before ws went goes = ap (λ e. of_option (unify ys (map Some ws) e)) (sym (bindings_grow h k grows frame live)) ∙ goes

  pub acted_gives : (ws : List Val) (went : AtomResult) → ((input : List ℕ) → does input vs ≡ gives ws) → of_option (unify ys (map Some ws) (bindings k frame)) ≡ went_items went (bindings k new) → (input : List ℕ) → items input ≡ went_items went (bindings k new)
  acted_gives ws went e goes input = outcome_is input (gives ws) (e input) ∙ met_before ws went goes

  pub acted_writes : (text : List ℕ) (ws : List Val) (went : AtomResult) → ((input : List ℕ) → does input vs ≡ writes text ws) → of_option (unify ys (map Some ws) (bindings k frame)) ≡ went_items went (bindings k new) → (input : List ℕ) → items input ≡ Wrote text (went_items went (bindings k new))
  acted_writes text ws went e goes input = outcome_is input (writes text ws) (e input) ∙ ap (Wrote text) (met_before ws went goes)

  pub acted_fails : ((input : List ℕ) → does input vs ≡ fails) → (input : List ℕ) → items input ≡ End
  acted_fails e input = outcome_is input fails (e input)

  pub acted_throws : (x : Exc) → ((input : List ℕ) → does input vs ≡ throws x) → (input : List ℕ) → items input ≡ Stopped (thrown x)
  acted_throws x e input = outcome_is input (throws x) (e input)

  reads_items : (from : ℕ) (o : Outcome) → OutcomeReads from o → ReadsFrom from (outcome_items ys (bindings h frame) o)
  reads_items from fails q = absurd q
  reads_items from (gives ws) q = absurd q
  reads_items from (throws x) q = absurd q
  reads_items from (writes t ws) q = absurd q
  reads_items from (reads j ws) q = (of_option (unify ys (map Some ws) (bindings h frame)), λ i. Read (q i) (of_option (unify ys (map Some ws) (bindings h frame))))
  reads_items from (reads_and_throws j x) q = (Stopped (thrown x), λ i. Read (q i) (Stopped (thrown x)))

  pub acted_reads : (from : ℕ) → ((input : List ℕ) → OutcomeReads from (does input vs)) → (input : List ℕ) → ReadsFrom from (items input)
  acted_reads from q input =
      let r = reads_items from (does input vs) (q input) in
      (r.0, outcome_is input (does input vs) refl ∙ r.1)
