-- The runs that are asked for: what is left of each when it begins.
use Rattle.std.specs.Prelude.{ℕ, List, [], ◌∷◌, Some, None}
use Rattle.mc_program.specs.Values.{state}
use Rattle.mc_program.specs.declared.program.Program.{Program}
use Rattle.mc_model.specs.Builtins.{outcome}
use Rattle.mc_model.specs.Worlds.{library_of}
use Rattle.mc_model.specs.Scheduled.{Procedure}
use Rattle.mc_model.specs.Stream.{run_call, run_query}
use Rattle.mc_model.specs.declared.run.Limits.{Limits}
use Rattle.mc_flat_code.specs.Standing.{StandsFor, StandsForAll}
use Rattle.mc_flat_code.specs.declared.program.FlatQuery.{FlatQuery}
use Rattle.mc_plain.specs.Rest.{Rest, rest_of}

-- flat code that stands for procedures, and for a query over them
pub record StandsForQuery (flat : FlatQuery) (procs : ℕ → Procedure) (q : Procedure) : Type 0 where
  pub program : StandsForAll flat.program procs
  pub query : StandsFor flat.program.code flat.query q

module _ (P : Program) (limits : Limits) (procs : ℕ → Procedure) where
  -- the run of a query over each input
  abbrev pub query_rest : Procedure → List ℕ → Rest
  query_rest q input =
      rest_of (run_query (outcome (library_of P) input) procs limits.budget limits.depth q)

  -- the run of the call of a procedure with io's first state, to which it gives the last one
  abbrev pub main_rest : ℕ → List ℕ → Rest
  main_rest k input =
      rest_of
      (run_call (outcome (library_of P) input) procs limits.budget limits.depth k
      (Some (state [] 0) ∷ None ∷ []))
