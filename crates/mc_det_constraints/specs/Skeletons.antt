-- The skeleton of a goal: what its determinism is made of by the table, as steps over a stack. Each
-- step puts a determinism on the stack, or takes those of the parts off and puts the whole's on.
-- (Mercury Language Reference Manual: Determinism, inference.)
use Rattle.std.specs.Prelude.{ℕ, nat_eq, List, [], ◌∷◌, Bool, true, false, ◌||◌, Option, Some, None, if◌then◌else◌}
use Rattle.mc_source.specs.Determinism.{Determinism, det, semidet, row_of, greater, conj, disj, ite, negated, pruned}
use Rattle.mc_source.specs.declared.det.Det.{Det}
use Rattle.mc_det_constraints.specs.declared.constraint.Step.{Step}
use Rattle.mc_det_constraints.specs.declared.constraint.Step.TheVariants as T

abbrev pub top : List Determinism → Determinism
top [] = det
top (d ∷ ds) = d

abbrev pub below : List Determinism → List Determinism
below [] = []
below (d ∷ ds) = ds

-- of two arms: some arm can fail, and the most answers of an arm
abbrev pub either : Determinism → Determinism → Determinism
either a b = record { can_fail = a.can_fail || b.can_fail; most = greater a.most b.most }

abbrev pub may_fail : Determinism → Determinism
may_fail a = record { can_fail = true; most = a.most }

-- the stack after a step, where the procedures have these determinisms
abbrev pub after_step : (ℕ → Det) → Step → List Determinism → List Determinism
after_step ds (T.Fixed d) stack = row_of d ∷ stack
after_step ds (T.Call k is_tested) stack =
    (if is_tested then conj (row_of (ds k)) semidet else row_of (ds k)) ∷ stack
after_step ds T.Conj stack = conj (top (below stack)) (top stack) ∷ below (below stack)
after_step ds T.Disj stack = disj (top (below stack)) (top stack) ∷ below (below stack)
after_step ds T.Arms stack = either (top (below stack)) (top stack) ∷ below (below stack)
after_step ds T.Misses stack = may_fail (top stack) ∷ below stack
after_step ds T.Ite stack =
    ite (top (below (below stack))) (top (below stack)) (top stack) ∷ below (below (below stack))
after_step ds T.Not stack = negated (top stack) ∷ below stack
after_step ds T.Pruned stack = pruned (top stack) ∷ below stack

-- the stack after steps
abbrev pub after_steps : (ℕ → Det) → List Step → List Determinism → List Determinism
after_steps ds [] stack = stack
after_steps ds (s ∷ steps) stack = after_steps ds steps (after_step ds s stack)

-- the determinism that the steps come to
abbrev pub value : (ℕ → Det) → List Step → Determinism
value ds steps = top (after_steps ds steps [])

-- the procedure that is called, and whether that is this one
abbrev pub called : Step → Option ℕ
called (T.Call k is_tested) = Some k
called s = None

abbrev pub is_this : ℕ → Option ℕ → Bool
is_this q None = false
is_this q (Some k) = nat_eq k q

abbrev pub is_call_of : ℕ → Step → Bool
is_call_of q s = is_this q (called s)

abbrev pub calls : ℕ → List Step → Bool
calls q [] = false
calls q (s ∷ steps) = is_call_of q s || calls q steps
