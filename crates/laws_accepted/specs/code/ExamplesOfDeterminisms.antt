-- Computed determinisms and marks. Each group has an equation that doesn't hold.
use Rattle.std.specs.Prelude.{◌≡◌, ◌≢◌, ℕ, [], ◌∷◌, Some, None, true, false}
use Rattle.mc_program.specs.Programs.{TypeTerm}
use Rattle.mc_source.specs.Determinism.{Determinism, failure, det, semidet, multi, nondet}
use Rattle.mc_source.specs.declared.det.Det.{Det}
use Rattle.mc_source.specs.declared.det.Most.TheVariants.{Many}
use Rattle.mc_model.specs.Scheduled.{Node, Ite, Assign, Take}
use Rattle.mc_accepted.specs.Ordered.{Insts, also, is_pruned}
use Rattle.mc_accepted.specs.Unmarked.{unmarked}
use Rattle.mc_accepted.specs.Determined.{nothing_known, determined}
use Rattle.mc_accepted.specs.Inferred.{join}
use Rattle.laws_accepted.specs.code.Examples.{nil, cell, filled, head, uncommitted, in_a_row, one_of, const, test, call, apply, changing, ground_are, procedure, program, form_of, nothing}
use Rattle.laws_accepted.specs.code.ExamplesOfSwitches.{fact, integers, append_empty, append_cell, select_first, select_later, safe_empty, safe_cell, lists, seven, by_zero}
use Rattle.mc_program.specs.declared.builtin.Builtin.TheVariants as B

-- the determinism of a goal's switch form, where procedure 0, the only one that is called, has this
-- determinism
abbrev pub found : Det → (ℕ → TypeTerm) → Insts → Node → Determinism
found d T b n =
    determined (program (procedure head [] [] [] d nothing ∷ [])) T b nothing_known (form_of T b n)

abbrev pub many_or_none : Det
many_or_none = record { can_fail = true; most = Many; committed = false }

-- `append` is det where its first list is given, since its switch misses no constructor; `select`
-- gives any of several elements; `safe` can fail.
abbrev pub ListsDetermined : Type 0
ListsDetermined =
    (found (uncommitted false) lists (ground_are (0 ∷ 1 ∷ []))
    (one_of (append_empty ∷ append_cell ∷ []))
    ≡ det)
    × (found many_or_none lists (ground_are (1 ∷ [])) (one_of (select_first ∷ select_later ∷ []))
    ≡ nondet)
    × (found (uncommitted true) lists (ground_are (0 ∷ 1 ∷ 2 ∷ []))
    (one_of (safe_empty ∷ safe_cell ∷ []))
    ≡ semidet)
    × (found (uncommitted true) lists (ground_are (0 ∷ 1 ∷ []))
    (one_of (append_empty ∷ append_cell ∷ []))
    ≢ det)

-- Facts on integers can fail, and may have many answers where two are of one integer. Two clauses
-- that take nothing apart may both answer.
abbrev pub FactsDetermined : Type 0
FactsDetermined =
    (found (uncommitted false) integers (ground_are (0 ∷ [])) (one_of (fact 2 20 ∷ fact 3 30 ∷ []))
    ≡ semidet)
    × (found (uncommitted false) integers (ground_are (0 ∷ []))
    (one_of (fact 1 3 ∷ fact 1 2 ∷ []))
    ≡ nondet)
    × (found (uncommitted false) integers (ground_are []) (one_of (seven ∷ by_zero ∷ [])) ≡ multi)
    × (found (uncommitted false) integers (ground_are (0 ∷ []))
    (one_of (fact 2 20 ∷ fact 3 30 ∷ []))
    ≢ nondet)

-- `head([X | _], X).`: it can fail unless the list's inst excludes the empty list
abbrev pub first_element : Node
first_element =
    in_a_row
    (changing (Take 0 cell (2 ∷ 3 ∷ [])) ((0, filled) ∷ (2, 1) ∷ (3, 1) ∷ [])
    ∷ changing (Assign 1 2) ((1, 1) ∷ [])
    ∷ [])

-- `first([_], _).`: the rest of the list is there before, and is tested
abbrev pub only_element : Node
only_element =
    in_a_row
    (changing (Take 0 cell (2 ∷ 3 ∷ [])) ((0, filled) ∷ (2, 1) ∷ (3, 1) ∷ [])
    ∷ changing (Take 3 nil []) ((3, 5) ∷ [])
    ∷ [])

abbrev pub list_of_inst : ℕ → Insts
list_of_inst i = also 0 i (λ x. 0)

abbrev pub HeadsDetermined : Type 0
HeadsDetermined =
    (found (uncommitted false) lists (list_of_inst 1) first_element ≡ semidet)
    × (found (uncommitted false) lists (list_of_inst filled) first_element ≡ det)
    × (found (uncommitted false) lists (list_of_inst 5) first_element ≡ failure)
    × (found (uncommitted false) lists (list_of_inst filled) only_element ≡ semidet)
    × (found (uncommitted false) lists (also 2 1 (list_of_inst filled)) first_element ≡ semidet)
    × (found (uncommitted false) lists (list_of_inst 1) first_element ≢ det)

-- `depth(N, D) :- ( if N = 0 then D = 0 else depth(N - 1, D0), D = D0 + 1 ).` and `loop :- loop.`
abbrev pub depth : Node
depth =
    unmarked
    (Ite [] (test 0 0) (const 1 0)
    (in_a_row
    (const 3 1 ∷ apply B.IntMinus (0 ∷ 3 ∷ []) (4 ∷ []) ∷ call 0 (4 ∷ 2 ∷ []) ∷ const 5 1
    ∷ apply B.IntPlus (2 ∷ 5 ∷ []) (1 ∷ []) ∷ [])))

abbrev pub CallsDetermined : Type 0
CallsDetermined =
    (found (uncommitted false) integers (ground_are (0 ∷ [])) depth ≡ det)
    × (found (uncommitted true) integers (ground_are (0 ∷ [])) depth ≡ semidet)
    × (found (uncommitted false) integers (ground_are []) (call 0 []) ≡ det)
    × (join semidet multi ≡ nondet)
    × (found (uncommitted true) integers (ground_are []) (call 0 []) ≢ det)

-- `parent(_, _)` binds nothing that occurs outside it, so its first answer is enough; not so
-- `parent(X, _)` where X occurs outside, and what never answers isn't pruned
abbrev pub parents : Insts
parents = ground_are (0 ∷ 1 ∷ [])

abbrev pub Marks : Type 0
Marks =
    (is_pruned [] (ground_are []) (Some parents) ≡ true)
    × (is_pruned (0 ∷ []) (ground_are []) (Some parents) ≡ false)
    × (is_pruned (0 ∷ []) (ground_are (0 ∷ [])) (Some parents) ≡ true)
    × (is_pruned [] (ground_are []) None ≡ false)
    × (is_pruned (1 ∷ []) (ground_are []) (Some parents) ≢ true)
