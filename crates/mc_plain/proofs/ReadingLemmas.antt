-- What a builtin that reads does, by what it gives.
use Rattle.std.proofs.Common.{◌≡◌, ℕ, ◌<◌, Bool, true, false, List, [], ◌∷◌, Some, None, length, get_or, ◌≤◌, ◌+◌, drop, map, refl, ap, sym, subst, ◌∙◌, arith, inl, inr}
use Rattle.std.specs.Prelude.{nat_lt, if◌then◌else◌}
use Rattle.std.specs.Str.{is_utf8}
use Rattle.mc_program.specs.Values.{Val, int, char, str, con, state, no_vals, val_then}
use Rattle.mc_program.specs.declared.program.Program.{Program}
use Rattle.mc_program.specs.declared.builtin.Builtin.TheVariants.{ReadLine}
use Rattle.mc_values.specs.declared.heap.Heap.{Heap}
use Rattle.mc_values.specs.Heap.{value_at}
use Rattle.mc_values.specs.Parts.{IsState, taken_of}
use Rattle.mc_model.specs.EventList.{Items, Stopped, Read, thrown, of_option, Exc}
use Rattle.mc_model.specs.Outcomes.{Outcome, fails, reads, reads_and_throws}
use Rattle.mc_model.specs.Builtins.{Library, outcome, read_from, line_of, line_limit}
use Rattle.mc_model.specs.Stream.{Bindings, unify, outcome_items}
use Rattle.mc_builtins.specs.Answers.{known}
use Rattle.mc_builtins.specs.Reading.{TellsRead, IsResult, GivesResult}
use Rattle.mc_builtins.specs.declared.library.Library.{Library as Held}
use Rattle.mc_builtins.specs.declared.reading.ReadResult.{ReadResult}
use Rattle.mc_builtins.specs.declared.reading.ReadResult.TheVariants as G
use Rattle.mc_plain.specs.Values.{IsValue, IsHeld, HasResults}
use Rattle.mc_plain.specs.Atoms.{ReadsFrom, IsUnread}
use Rattle.mc_plain.specs.code.Steps.{got_items}

-- a reading reads from the byte on at which its state stands
module _ (ys : List ℕ) (e : Bindings) where
  abbrev items_of : Outcome → Items Bindings
  items_of = outcome_items ys e

  -- the first byte that an outcome reads
  abbrev ReadsAt : ℕ → Outcome → Type 0
  ReadsAt k o = (from : ℕ) → ReadsFrom from (items_of o) → from ≡ k

  either_at : (k : ℕ) (b : Bool) (o p : Outcome) → ReadsAt k o → ReadsAt k p → ReadsAt k (if b then o else p)
  either_at k true o p x y = x
  either_at k false o p x y = y

  read_at : (k : ℕ) (vs : List Val) → ReadsAt k (reads k vs)
  read_at k vs from r = let e : Read k (of_option (unify ys (map Some vs) e)) ≡ Read from r.0 = r.1 in cc

  thrown_at : (k : ℕ) (x : Exc) → ReadsAt k (reads_and_throws k x)
  thrown_at k x from r = let e : Read k (Stopped (thrown x)) ≡ Read from r.0 = r.1 in cc

  line_at : (L : Library) (limit k : ℕ) (w left : List ℕ) → ReadsAt k (read_from L limit k w left)
  line_at L limit k w [] = read_at k (con L.eof no_vals ∷ state w k ∷ [])
  line_at L limit k w (b ∷ bs) =
      either_at k (nat_lt limit (length (line_of (b ∷ bs)))) _ _ (thrown_at k _) (either_at k (is_utf8 (line_of (b ∷ bs))) _ _ (read_at k (con L.ok (val_then (str (line_of (b ∷ bs))) no_vals) ∷ state w (k + length (line_of (b ∷ bs))) ∷ [])) (thrown_at k _))

  -- what is told of the outcome, as items
  told_items : (h : Heap) (k : ℕ) (o : Outcome) (g : ReadResult) → TellsRead h k o g → items_of o ≡ Read k (got_items h ys e g)
  told_items h k o (G.Gives read after) t = ap items_of t
  told_items h k o (G.Throws x) t = ap items_of t

  -- at one input that is a state
  pub got_read : (L : Library) (input : List ℕ) (h : Heap) (v : Val) (w : List ℕ) (k : ℕ) (g : ReadResult) → v ≡ state w k
      → (from : ℕ) → ReadsFrom from (items_of (outcome L input ReadLine (v ∷ [])))
      → (from ≡ k → TellsRead h k (outcome L input ReadLine (v ∷ [])) g)
      → items_of (outcome L input ReadLine (v ∷ [])) ≡ Read from (got_items h ys e g)
  got_read L input h v w k g is from r tells =
      let at : from ≡ k = line_at L line_limit k w (drop k input) from (subst (λ (x : Val). ReadsFrom from (items_of (outcome L input ReadLine (x ∷ [])))) is r) in
      told_items h k (outcome L input ReadLine (v ∷ [])) g (tells at) ∙ ap (λ j. Read j (got_items h ys e g)) (sym at)

  -- a reading reads at a state
  abbrev Reads : Outcome → Type 0
  Reads o = IsUnread (items_of o) → ⊥

  either_reads : (b : Bool) (o p : Outcome) → Reads o → Reads p → Reads (if b then o else p)
  either_reads true o p x y = x
  either_reads false o p x y = y

  pub line_reads : (L : Library) (limit k : ℕ) (w left : List ℕ) → Reads (read_from L limit k w left)
  line_reads L limit k w [] = λ u. u
  line_reads L limit k w (b ∷ bs) =
      either_reads (nat_lt limit (length (line_of (b ∷ bs)))) _ _ (λ u. u) (either_reads (is_utf8 (line_of (b ∷ bs))) _ _ (λ u. u) (λ u. u))

-- at a value that is no state, a reading fails
pub no_state_read : (L : Library) (input : List ℕ) (v : Val) → taken_of v ≡ None → outcome L input ReadLine (v ∷ []) ≡ fails
no_state_read L input (int n) is = refl
no_state_read L input (char c) is = refl
no_state_read L input (str t) is = refl
no_state_read L input (con f vs) is = refl
no_state_read L input (state w k) is = cc

-- the one element of a list
pub only_one : (refs : List ℕ) → 1 ≤ length refs → length refs < 2 → refs ≡ get_or refs 0 0 ∷ []
only_one [] some few = absurd (omega arith)
only_one (r ∷ []) some few = refl
only_one (r ∷ q ∷ refs) some few = absurd (omega arith)

-- the parts of a state of io
pub state_parts : (v : Val) → IsState v → (w : List ℕ) × ((k : ℕ) × (v ≡ state w k))
state_parts (state w k) s = (w, (k, refl))
state_parts (int n) s = cc
state_parts (char c) s = cc
state_parts (str t) s = cc
state_parts (con f vs) s = cc

-- what a reading gives is a value of the program
pub result_is : (l : Held) (v : Val) → HasResults l → IsResult (known l) v → IsValue l.program.now v
result_is l v has (inl e) = subst (IsValue l.program.now) (sym e) (record { named = (has.eof, tt); proper = tt })
result_is l v has (inr (t, (u, e))) = subst (IsValue l.program.now) (sym e) (record { named = (has.ok, (tt, tt)); proper = (u, tt) })

state_is : (P : Program) (v : Val) → IsState v → IsValue P v
state_is P (state w k) s = record { named = tt; proper = tt }
state_is P (int n) s = cc
state_is P (char c) s = cc
state_is P (str t) s = cc
state_is P (con f vs) s = cc

-- both Refs of what is given stand for values of the program
pub result_held : (l : Held) (h : Heap) (read after : ℕ) → HasResults l → GivesResult (known l) h (G.Gives read after) → (IsHeld l.program.now h read) × (IsHeld l.program.now h after)
result_held l h read after has both = (
  record { live = both.0; value = result_is l (value_at h read) has both.2 },
  record { live = both.1; value = state_is l.program.now (value_at h after) both.3 },
)
