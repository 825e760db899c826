-- The least determinisms of procedures that declare none, and such as aren't the least.
use Rattle.std.specs.Prelude.{ℕ, zero, suc, [], ◌∷◌, None, true, false}
use Rattle.mc_source.specs.declared.det.Det.{Det}
use Rattle.mc_accepted.specs.Inferred.{DeclaredSystem, Closed, LeastClosed}
use Rattle.laws_accepted.specs.code.Examples.{pick, uncommitted, call, procedure}
use Rattle.laws_accepted.specs.code.ExamplesOfSwitches.{fact}
use Rattle.laws_accepted.specs.code.ExamplesOfDeterminisms.{many_or_none}
use Rattle.laws_accepted.specs.code.ExamplesOfFaults.{on_line, system}

-- the one procedure of a program, without a declared determinism: `loop :- loop.`, and the fact
-- `p(1, 2).`, whose first argument is given
abbrev pub loops : DeclaredSystem
loops = system (on_line 4 false None (procedure pick [] [] [] (uncommitted false) (call 0 [])) ∷ [])

abbrev pub one_fact : DeclaredSystem
one_fact =
    system
    (on_line 4 false None
    (procedure pick (0 ∷ 1 ∷ []) (1 ∷ 0 ∷ []) (1 ∷ 1 ∷ []) (uncommitted false) (fact 1 2)) ∷ [])

-- the one procedure has this determinism
abbrev pub it_is : Det → ℕ → Det
it_is d zero = d
it_is d (suc k) = uncommitted false

-- `loop` is det, since nothing in it can fail, though it is closed too that it is nondet; the fact
-- is semidet
abbrev pub LeastOnes : Type 0
LeastOnes =
    LeastClosed loops (it_is (uncommitted false))
    × Closed loops (it_is many_or_none)
    × (LeastClosed loops (it_is many_or_none) → ⊥)
    × LeastClosed one_fact (it_is (uncommitted true))
    × (Closed one_fact (it_is (uncommitted false)) → ⊥)
