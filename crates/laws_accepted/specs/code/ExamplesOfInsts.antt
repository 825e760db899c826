-- Definitions of insts that break rules, and beside each one that doesn't.
use Rattle.std.specs.Prelude.{◌≡◌, ℕ, zero, suc, List, [], ◌∷◌, Option, Some, None, false, codes}
use Rattle.mc_source.specs.declared.rule.Rule.TheVariants as R
use Rattle.mc_model.specs.declared.inst.InstRef.{InstRef}
use Rattle.mc_model.specs.declared.inst.InstRef.TheVariants.{Old, New}
use Rattle.mc_model.specs.Scheduled.{Procedure}
use Rattle.mc_accepted.specs.InstRules.{PlainChoice, PlainInstDef, same_inst, bound_inst, IsUnfounded, HasFreeInside, InstTerm, parameter, inst_node, defined, bound_over, InstTerms, no_insts, inst_then, Bodies, ReachesOthers, NotWellFounded, PutsFreeInside, ModeIsUnfounded, IsUntidy, free_inside, not_well_founded, outside_io}
use Rattle.laws_accepted.specs.code.Examples.{main, pick, program, procedure, uncommitted, nothing}

abbrev pub choice : List ℕ → (arity : ℕ) → List InstRef → PlainChoice
choice name n rs = record { name = name; arity = n; args = rs }

abbrev pub box_of : InstRef → PlainInstDef
box_of r = bound_inst (choice (codes "empty") 0 [] ∷ choice (codes "box") 1 (r ∷ []) ∷ [])

-- `:- inst boxed == boxed.`, and `:- inst boxed == bound(empty ; box(boxed)).`
abbrev pub boxed_itself : List PlainInstDef
boxed_itself = same_inst (New 0) ∷ []

abbrev pub boxed : List PlainInstDef
boxed = box_of (New 0) ∷ []

-- `:- inst a == b. :- inst b == a. :- inst c == a.`
abbrev pub in_a_ring : List PlainInstDef
in_a_ring = same_inst (New 1) ∷ same_inst (New 0) ∷ same_inst (New 0) ∷ []

-- A definition that comes back to itself isn't well founded. One that passes a constructor is, and
-- so is one that only leads to one that isn't.
abbrev pub Unfounded : Type 0
Unfounded =
    IsUnfounded boxed_itself 0
    × (IsUnfounded boxed 0 → ⊥)
    × IsUnfounded in_a_ring 0
    × IsUnfounded in_a_ring 1
    × (IsUnfounded in_a_ring 2 → ⊥)

-- `:- inst none == free. :- inst some == bound(empty ; box(none)). :- inst more == bound(empty ;
-- box(some)). :- inst other == some.`, and with `ground` for `free`
abbrev pub boxes_of : (node : ℕ) → List PlainInstDef
boxes_of i = same_inst (Old i) ∷ box_of (New 0) ∷ box_of (New 1) ∷ same_inst (New 1) ∷ []

-- `free` stands inside the definition whose constructor it is an argument of, also by another name,
-- and not inside those that use that definition
abbrev pub FreeInside : Type 0
FreeInside =
    HasFreeInside (boxes_of 0) 1
    × (HasFreeInside (boxes_of 0) 0 → ⊥)
    × (HasFreeInside (boxes_of 0) 2 → ⊥)
    × (HasFreeInside (boxes_of 0) 3 → ⊥)
    × (HasFreeInside (boxes_of 1) 1 → ⊥)
    × HasFreeInside (box_of (Old 0) ∷ []) 0

-- `:- inst list(I) == bound([] ; [I | list(I)]).`, and with `list(list(I))` for the rest
abbrev pub one : InstTerm → InstTerms
one i = inst_then i no_insts

abbrev pub list : InstTerm → InstTerm
list i = defined 0 (one i)

abbrev pub cells_of : InstTerm → Bodies
cells_of rest d = bound_over [] (inst_then (parameter 0) (one rest))

abbrev pub OtherParameters : Type 0
OtherParameters =
    (ReachesOthers (cells_of (list (parameter 0))) 1 0 → ⊥)
    × ReachesOthers (cells_of (list (list (parameter 0)))) 1 0
    × ReachesOthers (cells_of (list (inst_node 1))) 1 0

-- `:- inst f(I) == I.`, or whatever f and a are
abbrev pub f_and_a : (f a : InstTerm) → Bodies
f_and_a f a zero = f
f_and_a f a (suc d) = a

abbrev pub f_of : InstTerm → InstTerm
f_of i = defined 0 (one i)

abbrev pub a : InstTerm
a = defined 1 no_insts

-- the bodies of `f(I) == I`, and of f(I) that lists `x(I)` and `c(I, free)`, or another than `free`
abbrev pub its_parameter : InstTerm
its_parameter = parameter 0

abbrev pub x_of_it : InstTerm
x_of_it = bound_over [] (one (parameter 0))

abbrev pub c_of_it : InstTerm → InstTerm
c_of_it i = bound_over [] (inst_then (parameter 0) (one i))

-- `:- inst list(I) == list(I).` comes back to itself, and the list above doesn't. Where f(I) is I,
-- `:- inst a == f(a).` comes back to itself, f doesn't, nor does `:- inst a == f(ground).`; and
-- where f(I) lists `x(I)`, `:- inst a == f(a).` is well founded.
abbrev pub ParametersFounded : Type 0
ParametersFounded =
    NotWellFounded (λ d. list (parameter 0)) 1 0
    × (NotWellFounded (cells_of (list (parameter 0))) 1 0 → ⊥)
    × NotWellFounded (f_and_a its_parameter (f_of a)) 0 1
    × (NotWellFounded (f_and_a its_parameter (f_of a)) 1 0 → ⊥)
    × (NotWellFounded (f_and_a its_parameter (f_of (inst_node 1))) 0 1 → ⊥)
    × (NotWellFounded (f_and_a x_of_it (f_of a)) 0 1 → ⊥)

-- Where f(I) lists `c(I, free)`, f has `free` inside, and `:- inst a == f(ground).` only uses that;
-- with `ground` for `free` nothing has. Where f(I) lists `x(I)`, `:- inst a == f(free).` puts it
-- inside, f doesn't, nor does one that uses a.
abbrev pub ParametersInside : Type 0
ParametersInside =
    PutsFreeInside (f_and_a (c_of_it (inst_node 0)) (f_of (inst_node 1))) (c_of_it (inst_node 0))
    × (PutsFreeInside (f_and_a (c_of_it (inst_node 0)) (f_of (inst_node 1))) (f_of (inst_node 1))
    → ⊥)
    × (PutsFreeInside (f_and_a (c_of_it (inst_node 1)) (f_of (inst_node 1)))
    (c_of_it (inst_node 1)) → ⊥)
    × PutsFreeInside (f_and_a x_of_it (f_of (inst_node 0))) (f_of (inst_node 0))
    × (PutsFreeInside (f_and_a x_of_it (f_of (inst_node 0))) x_of_it → ⊥)
    × (PutsFreeInside (f_and_a x_of_it (f_of (inst_node 0))) a → ⊥)

-- what is told of them
abbrev pub InstTexts : Type 0
InstTexts =
    (free_inside ≡ (R.M6, codes "free inside a bound inst"))
    × (not_well_founded (codes "boxed") ≡ (R.M7, codes "inst boxed is not well founded"))
    × (outside_io ≡ (R.M8, codes "unique or dead outside io"))

-- `:- mode m == n. :- mode n == m. :- mode o == m.`, where modes 0 and 1 name one another
abbrev pub named : ℕ → Option ℕ
named zero = Some 1
named (suc zero) = Some 0
named (suc (suc zero)) = Some 0
named (suc (suc (suc k))) = None

abbrev pub UnfoundedModes : Type 0
UnfoundedModes =
    ModeIsUnfounded named 0 × (ModeIsUnfounded named 2 → ⊥) × (ModeIsUnfounded named 3 → ⊥)

-- `main(io::di, io::uo)`, and modes whose integer is `unique` at the call, and `dead` at an answer
abbrev pub mode_of : (predicate : ℕ) → (first last : List ℕ) → Procedure
mode_of k is ls = procedure k [] is ls (uncommitted false) nothing

abbrev pub TidyModes : Type 0
TidyModes =
    (IsUntidy (program []) (mode_of main (2 ∷ 0 ∷ []) (3 ∷ 2 ∷ [])) → ⊥)
    × IsUntidy (program []) (mode_of pick (2 ∷ []) (1 ∷ []))
    × IsUntidy (program []) (mode_of pick (1 ∷ []) (3 ∷ []))
