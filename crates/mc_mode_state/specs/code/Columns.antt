-- Ends of branches, variable by variable.
use Rattle.std.specs.Prelude.{◌≡◌, ◌<◌, ℕ, Bool, true, false, not, ◌&&◌, if◌then◌else◌, List, [], ◌∷◌, length, get_or, map, Option, Some}
use Rattle.std.specs.List.{list_any}
use Rattle.mc_program.specs.Programs.{TypeTerm}
use Rattle.mc_model.specs.Lists.{is_in}
use Rattle.mc_model.specs.Stream.{is_bound}
use Rattle.mc_accepted.specs.Arranged.{Point, with_inst, ascending}
use Rattle.mc_accepted.specs.NodeOracle.{NodeOracle}
use Rattle.mc_accepted.specs.Least.{least}
use Rattle.mc_procs.specs.Procedures.{PlainProcs}
use Rattle.mc_mode_state.specs.States.{point_of}
use Rattle.mc_mode_state.specs.Agreeing.{OracleAgrees}
use Rattle.mc_mode_state.specs.Merged.{rows_at}
use Rattle.mc_mode_state.specs.declared.state.State.{State}

abbrev pub column : ℕ → List (List ℕ) → List ℕ
column k rows = map (λ (row : List ℕ). get_or row k 0) rows

abbrev pub LongerThan : ℕ → List (List ℕ) → Type 0
LongerThan k [] = Unit {0}
LongerThan k (row ∷ rows) = (k < length row) × LongerThan k rows

abbrev pub ends_differ : List (Point ℕ) → ℕ → Bool
ends_differ ends x =
    list_any (λ (c : Point ℕ). not (is_bound (c x))) ends
    && list_any (λ (c : Point ℕ). is_bound (c x)) ends

-- the least of the seen variables that only some of the ends bind
abbrev pub FirstDiffering : (seen : List ℕ) → (rows : List (List ℕ)) → Option ℕ → Type 0
FirstDiffering seen rows o =
    (ends : List (Point ℕ)) → rows ≡ rows_at seen ends
    → (wanted : ℕ → Bool) (xs : List ℕ) → seen ≡ ascending wanted xs
    → least (λ x. wanted x && ends_differ ends x) xs ≡ o

-- Variables that are done have what one of their insts at the ends allows, any other what it had.
pub record JoinedSoFar (seen done : List ℕ) (rows : List (List ℕ)) (r : PlainProcs) (s t : State) : Type 0 where
  pub found :
      (ends : List (Point ℕ)) → rows ≡ rows_at seen ends
      → (C : NodeOracle) (T : ℕ → TypeTerm) → OracleAgrees r t C T → (x : ℕ) → is_in x done ≡ true
      → C.joined (T x) (map (λ (c : Point ℕ). c x) ends) ≡ Some (point_of t.insts.items x)
  pub others :
      (x : ℕ) → is_in x done ≡ false
      → point_of t.insts.items x ≡ point_of s.insts.items x

abbrev pub freed_one : (ℕ → Bool) → ℕ → Point ℕ → Point ℕ
freed_one f x b = if f x then b else with_inst ℕ x 0 b

-- those for which the test doesn't hold are free
abbrev pub freed : (ℕ → Bool) → List ℕ → Point ℕ → Point ℕ
freed f [] b = b
freed f (x ∷ xs) b = freed f xs (freed_one f x b)
