-- Accepted procedures are good: where a system fits and its procedures are accepted, each run of
-- each procedure is good, from all inputs of its types and insts and at every budget and height.
-- (Mercury Language Reference Manual: Semantics; Modes; Determinism; this project's certificates.)
use Rattle.std.specs.Prelude.{◌≡◌, ℕ, List, [], ◌∷◌}
use Rattle.mc_model.specs.Scheduled.{Procedure}
use Rattle.mc_model.specs.Good.{System, GoodProcedures, GoodQuery}
use Rattle.mc_accepted.specs.ProperTypes.{Parameters}
use Rattle.mc_accepted.specs.Fits.{Fits, FitsProcedure}
use Rattle.mc_accepted.specs.Accepted.{AcceptedProcedure, Accepted}

abbrev pub AcceptedAreGood : Type 0
AcceptedAreGood = (S : System) (D : Parameters) → Fits S D → Accepted S → GoodProcedures S

-- a query has no inputs
abbrev pub NoInputs : List ℕ → Type 0
NoInputs [] = Unit {0}
NoInputs (i ∷ is) = (i ≡ 0) × NoInputs is

-- so is each run of a query that fits and is accepted
abbrev pub AcceptedQueriesAreGood : Type 0
AcceptedQueriesAreGood =
    (S : System) (D : Parameters)
    → Fits S D → Accepted S → (q : Procedure)
    → FitsProcedure S D q → AcceptedProcedure S q → NoInputs q.first → (n h : ℕ)
    → GoodQuery S n h q
