-- What answers tell of readings.
use Rattle.std.proofs.Common.{◌≡◌, ℕ, ◌+◌, ◌<◌, ◌≤◌, Bool, true, false, List, [], ◌∷◌, length, nat_lt, refl, sym, ap₂, subst, ◌∙◌, arith, codes}
use Rattle.std.specs.Prelude.{if◌then◌else◌}
use Rattle.std.specs.Str.{IsUtf8, is_utf8}
use Rattle.std.proofs.lemmas.Str.{is_utf8-from_IsUtf8, IsUtf8-from_is_utf8}
use Rattle.std.proofs.lemmas.Bool.Decides.{nat_tests}
use Rattle.mc_program.specs.Values.{Val, str, con, state, no_vals, val_then}
use Rattle.mc_values.specs.declared.heap.Heap.{Heap}
use Rattle.mc_values.specs.Heap.{Extends, StandsFor}
use Rattle.mc_model.specs.EventList.{error}
use Rattle.mc_model.specs.Outcomes.{Outcome, reads, reads_and_throws}
use Rattle.mc_model.specs.Builtins.{Library, read_from, line_outcome, line_limit}
use Rattle.mc_model.specs.declared.run.Exception.TheVariants as X
use Rattle.mc_builtins.specs.Reading.{TellsRead}
use Rattle.mc_builtins.specs.declared.reading.ReadResult.{ReadResult}
use Rattle.mc_builtins.specs.declared.reading.ReadResult.TheVariants as G

-- a live Ref stands for what it stood for where the heap grows
pub still_stands : (h k : Heap) → Extends h k → (r : ℕ) (v : Val) → StandsFor h r v → StandsFor k r v
still_stands h k grows r v s = record { live = grows.live r s.live; is = grows.same r s.live ∙ s.is }

isnt_true : (b : Bool) → (b ≡ true → ⊥) → b ≡ false
isnt_true true h = absurd (h refl)
isnt_true false h = refl

is_short : (n m : ℕ) → n ≤ m → nat_lt m n ≡ false
is_short n m h = grind (arith, nat_tests)

is_long : (n m : ℕ) → m < n → nat_lt m n ≡ true
is_long n m h = grind (arith, nat_tests)

module _ (L : Library) (h : Heap) (w : List ℕ) (k : ℕ) where
  pub end_told : (end before : ℕ) (a : ReadResult) → a ≡ G.Gives end before → StandsFor h end (con L.eof no_vals) → StandsFor h before (state w k) → TellsRead h k (read_from L line_limit k w []) a
  end_told end before a is s t =
      subst (TellsRead h k (read_from L line_limit k w [])) (sym is)
      (ap₂ (λ (x y : Val). reads k (x ∷ y ∷ [])) (sym s.is) (sym t.is))

  -- what a line is read as, by whether it is too long and whether it is text
  abbrev read_as : List ℕ → Bool → Bool → Outcome
  read_as line long text =
      if long then reads_and_throws k (error (codes "input line is too long")) else
      if text then reads k (con L.ok (val_then (str line) no_vals) ∷ state w (k + length line) ∷ []) else
      reads_and_throws k (error (codes "input is not UTF-8"))

  pub line_told : (line : List ℕ) (read after : ℕ) (a : ReadResult) → a ≡ G.Gives read after → length line ≤ line_limit → IsUtf8 line
      → StandsFor h read (con L.ok (val_then (str line) no_vals)) → StandsFor h after (state w (k + length line)) → TellsRead h k (line_outcome L line_limit k w line) a
  line_told line read after a is short text s t =
      subst (TellsRead h k (line_outcome L line_limit k w line)) (sym is) (ap₂ (read_as line) (is_short (length line) line_limit short) (is_utf8-from_IsUtf8 line text) ∙ ap₂ (λ (x y : Val). reads k (x ∷ y ∷ [])) (sym s.is) (sym t.is))

  pub no_text_told : (line : List ℕ) (a : ReadResult) → a ≡ G.Throws (X.Error (codes "input is not UTF-8")) → length line ≤ line_limit → ¬ (IsUtf8 line) → TellsRead h k (line_outcome L line_limit k w line) a
  no_text_told line a is short no_text =
      subst (TellsRead h k (line_outcome L line_limit k w line)) (sym is)
      (ap₂ (read_as line) (is_short (length line) line_limit short) (isnt_true (is_utf8 line) (λ e. no_text (IsUtf8-from_is_utf8 line e))))
