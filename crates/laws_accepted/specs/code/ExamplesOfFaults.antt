-- Computed rules of determinism: procedures that break them, and beside each one that doesn't.
use Rattle.std.specs.Prelude.{◌≡◌, ◌≢◌, ℕ, zero, suc, List, [], ◌∷◌, length, Option, Some, None, Bool, true, false, codes}
use Rattle.mc_source.specs.Rules.{Fault}
use Rattle.mc_source.specs.declared.det.Det.{Det}
use Rattle.mc_source.specs.declared.place.Place.{Place}
use Rattle.mc_source.specs.declared.rule.Broken.{Broken}
use Rattle.mc_source.specs.declared.rule.Rule.{Rule}
use Rattle.mc_source.specs.declared.rule.Rule.TheVariants as R
use Rattle.mc_source.specs.Determinism.{inferred, det}
use Rattle.mc_model.specs.Scheduled.{Node, node, Ite, Not, Assign, Test, Call, Apply, Procedure}
use Rattle.mc_accepted.specs.Unmarked.{unmarked}
use Rattle.mc_accepted.specs.Inferred.{DeclaredProcedure, DeclaredSystem, system_of}
use Rattle.mc_accepted.specs.DeterminismFaults.{procedure_fault, determinism_faults}
use Rattle.laws_accepted.specs.code.Examples.{filled, head, pick, choose, main, list_type, program, uncommitted, cc_nondet, cc_multi, in_a_row, one_of, nothing, const, test, call, changing, procedure}
use Rattle.laws_accepted.specs.code.ExamplesOfDeterminisms.{first_element, many_or_none}
use Rattle.mc_program.specs.declared.builtin.Builtin.TheVariants as B

-- a procedure as it is declared in a line of the first file
abbrev pub place : (file line : ℕ) → Place
place f l = record { file = f; line = l }

abbrev pub on_line : ℕ → (exported : Bool) → Option Det → Procedure → DeclaredProcedure
on_line l e d p = record { procedure = p; declared = d; exported = e; at = place 0 l }

abbrev pub declared : Procedure → DeclaredProcedure
declared p = on_line 4 false (Some p.det) p

abbrev pub nth : List DeclaredProcedure → ℕ → DeclaredProcedure
nth [] k = declared (procedure pick [] [] [] (uncommitted false) nothing)
nth (p ∷ ps) zero = p
nth (p ∷ ps) (suc k) = nth ps k

abbrev pub system : List DeclaredProcedure → DeclaredSystem
system ps =
    record {
      world = (program []).world;
      count = length ps;
      procs = nth ps;
      insts = (program []).insts;
    }

-- the determinisms that the procedures are given with
abbrev pub given : List DeclaredProcedure → ℕ → Det
given ps k = (nth ps k).procedure.det

-- the first rule that the last of some procedures breaks, the others being called by their numbers
abbrev pub fault_of : DeclaredProcedure → (others : List DeclaredProcedure) → Option Fault
fault_of p others =
    procedure_fault (system_of (system (p ∷ others)) (given (p ∷ others))) p p.procedure

-- `head([X | _], X).`, whose list has this inst
abbrev pub head_of : (inst : ℕ) → Det → Procedure
head_of i d =
    record (procedure head (0 ∷ 1 ∷ []) (i ∷ 0 ∷ []) (i ∷ 1 ∷ []) d first_element) {
      var_types = list_type ∷ [];
    }

-- three facts, one of which is taken
abbrev pub picks : Det → Procedure
picks d =
    procedure pick (0 ∷ []) (0 ∷ []) (1 ∷ []) d (one_of (const 0 3 ∷ const 0 1 ∷ const 0 2 ∷ []))

abbrev pub NotAllowed : Type 0
NotAllowed =
    (fault_of (declared (head_of 1 (uncommitted false))) []
    ≡ Some (R.E1, codes "declared det, inferred semidet"))
    × (fault_of (declared (head_of 1 (uncommitted true))) [] ≡ None)
    × (fault_of (declared (head_of filled (uncommitted false))) [] ≡ None)
    × (fault_of (declared (picks (uncommitted true))) []
    ≡ Some (R.E1, codes "declared semidet, inferred multi"))
    × (fault_of (declared (picks cc_multi)) [] ≡ None)
    × (fault_of
    (declared (procedure pick (0 ∷ []) (1 ∷ []) (1 ∷ []) cc_multi (test 0 1))) []
    ≡ Some (R.E1, codes "declared cc_multi, inferred semidet"))
    × (fault_of (declared (head_of 1 (uncommitted false))) [] ≢ None)

-- the same without a declared determinism, exported and not
abbrev pub Undeclared : Type 0
Undeclared =
    (fault_of (on_line 4 true None (picks many_or_none)) []
    ≡ Some (R.E2, codes "pick/1 has no determinism"))
    × (fault_of (on_line 4 false None (picks many_or_none)) [] ≡ None)
    × (fault_of (on_line 4 true (Some many_or_none) (picks many_or_none)) [] ≡ None)
    × (fault_of (on_line 4 false None (picks many_or_none)) []
    ≢ fault_of (on_line 4 true None (picks many_or_none)) [])

-- `choose` calls procedures 1 and 2, `pick` and another one, which are committed
abbrev pub chooses : Det → Node → Option Fault
chooses d n =
    fault_of (declared (procedure choose (0 ∷ []) (0 ∷ []) (1 ∷ []) d n))
    (declared (picks cc_multi)
    ∷ declared (procedure choose (0 ∷ []) (0 ∷ []) (1 ∷ []) cc_multi (const 0 1))
    ∷ [])

abbrev pub needs_all : Option Fault
needs_all = Some (R.E3, codes "pick/1 is called where all solutions are needed")

-- A committed call stands where one answer is enough: in a committed procedure whose later goals
-- cannot fail, or in a negation. The first one that doesn't is told.
abbrev pub MisplacedCalls : Type 0
MisplacedCalls =
    (chooses many_or_none (call 1 (0 ∷ [])) ≡ needs_all)
    × (chooses cc_nondet (call 1 (0 ∷ [])) ≡ None)
    × (chooses cc_nondet (in_a_row (call 1 (1 ∷ []) ∷ const 0 1 ∷ [])) ≡ None)
    × (chooses cc_nondet (in_a_row (call 1 (0 ∷ []) ∷ test 0 3 ∷ [])) ≡ needs_all)
    × (chooses many_or_none (unmarked (Not (call 1 (0 ∷ [])))) ≡ None)
    × (chooses many_or_none (in_a_row (call 1 (0 ∷ []) ∷ call 2 (1 ∷ []) ∷ [])) ≡ needs_all)
    × (chooses many_or_none (in_a_row (call 2 (0 ∷ []) ∷ call 1 (1 ∷ []) ∷ []))
    ≡ Some (R.E3, codes "choose/1 is called where all solutions are needed"))
    × (chooses cc_nondet (call 1 (0 ∷ [])) ≢ needs_all)

-- `( if pick(Y) then THEN else X = 2 )`
abbrev pub picks_if : Node → Node
picks_if t =
    unmarked (Ite (1 ∷ []) (changing (Call 1 (1 ∷ []) [] false) ((1, 1) ∷ [])) t (const 0 2))

-- A condition's first answer is enough where the then part sees nothing that it binds, or where the
-- whole has one answer asked for and the then part cannot fail. A pruned goal is asked for one; not
-- so a call whose argument is tested after it.
abbrev pub Contexts : Type 0
Contexts =
    (chooses many_or_none (picks_if (const 0 1)) ≡ None)
    × (chooses many_or_none (picks_if (unmarked (Assign 0 1))) ≡ needs_all)
    × (chooses cc_nondet (picks_if (unmarked (Assign 0 1))) ≡ None)
    × (chooses cc_nondet (picks_if (unmarked (Test 0 1))) ≡ needs_all)
    × (chooses many_or_none (node (Call 1 (1 ∷ []) [] false) [] (inferred det) true) ≡ None)
    × (chooses cc_nondet (unmarked (Call 1 (0 ∷ []) (0 ∷ []) false)) ≡ needs_all)
    × (chooses cc_nondet (one_of (call 1 (0 ∷ []) ∷ const 0 5 ∷ [])) ≡ None)
    × (chooses many_or_none (picks_if (const 0 1)) ≢ needs_all)

-- `main(!IO)` with this body
abbrev pub main_of : Det → Node → Procedure
main_of d n = procedure main (0 ∷ 1 ∷ []) (2 ∷ 0 ∷ []) (3 ∷ 2 ∷ []) d n

abbrev pub new_line : Node
new_line = unmarked (Apply B.Nl (0 ∷ []) (1 ∷ []))

-- `( if nl(!IO) then true else true )`, and `nl(!IO), X = 1` where X is 2
abbrev pub writes_in_a_condition : Node
writes_in_a_condition = unmarked (Ite [] new_line nothing nothing)

abbrev pub writes_and_fails : Node
writes_and_fails = in_a_row (const 2 2 ∷ new_line ∷ test 2 1 ∷ [])

-- `q(A, C) :- nl(A, C).`, called with two states: the one that comes out is tested
abbrev pub compares_states : Det → Procedure
compares_states d =
    procedure main (0 ∷ 1 ∷ []) (2 ∷ 1 ∷ []) (3 ∷ 1 ∷ []) d
    (in_a_row (unmarked (Apply B.Nl (0 ∷ []) (2 ∷ [])) ∷ unmarked (Test 2 1) ∷ []))

abbrev pub misplaced_io : Option Fault
misplaced_io = Some (R.U1, codes "io goal is misplaced")

-- A goal that writes stands in no condition and cannot fail. Of two rules the earlier is told.
abbrev pub MisplacedIo : Type 0
MisplacedIo =
    (fault_of (declared (main_of (uncommitted false) writes_in_a_condition)) [] ≡ misplaced_io)
    × (fault_of (declared (main_of (uncommitted false) new_line)) [] ≡ None)
    × (fault_of (declared (main_of (uncommitted true) writes_and_fails)) [] ≡ misplaced_io)
    × (fault_of (declared (compares_states (uncommitted true))) [] ≡ misplaced_io)
    × (fault_of (declared (main_of (uncommitted false) writes_and_fails)) []
    ≡ Some (R.E1, codes "declared det, inferred semidet"))
    × (fault_of (declared (main_of (uncommitted false) new_line)) [] ≢ misplaced_io)

abbrev pub faults_of : (runs : Bool) → List DeclaredProcedure → List Broken
faults_of runs ps = determinism_faults runs (system ps) (given ps)

abbrev pub told : Rule → (file line : ℕ) → List ℕ → Broken
told r f l text = record { rule = r; at = place f l; what = text }

abbrev pub no_main : Broken
no_main = told R.E4 0 1 (codes "main is not a det or cc_multi predicate on io")

abbrev pub main_on : ℕ → (exported : Bool) → Det → DeclaredProcedure
main_on l e d = on_line l e (Some d) (main_of d new_line)

-- `run` asks for `main`, exported by the first file's module and det or cc_multi.
abbrev pub MainIsAsked : Type 0
MainIsAsked =
    (faults_of true [] ≡ no_main ∷ [])
    × (faults_of false [] ≡ [])
    × (faults_of true (main_on 4 true (uncommitted false) ∷ []) ≡ [])
    × (faults_of true (main_on 4 true cc_multi ∷ []) ≡ [])
    × (faults_of true (main_on 4 false (uncommitted false) ∷ []) ≡ no_main ∷ [])
    × (faults_of true (main_on 4 true (uncommitted true) ∷ []) ≡ no_main ∷ [])
    × (faults_of true (record (main_on 4 true (uncommitted false)) { at = place 1 4 } ∷ [])
    ≡ no_main ∷ [])
    × (faults_of true [] ≢ [])

abbrev pub wrong_head : ℕ → DeclaredProcedure
wrong_head l = on_line l false (Some (uncommitted false)) (head_of 1 (uncommitted false))

abbrev pub wrong_pick : ℕ → DeclaredProcedure
wrong_pick l = on_line l true None (picks many_or_none)

abbrev pub head_told : ℕ → Broken
head_told l = told R.E1 0 l (codes "declared det, inferred semidet")

abbrev pub pick_told : ℕ → Broken
pick_told l = told R.E2 0 l (codes "pick/1 has no determinism")

-- Faults stand in the order of their lines, and on one line in that of the procedures.
abbrev pub FaultsInOrder : Type 0
FaultsInOrder =
    (faults_of true (wrong_head 7 ∷ wrong_pick 3 ∷ [])
    ≡ no_main ∷ pick_told 3 ∷ head_told 7 ∷ [])
    × (faults_of false (wrong_head 3 ∷ wrong_pick 3 ∷ []) ≡ head_told 3 ∷ pick_told 3 ∷ [])
    × (faults_of false (wrong_pick 3 ∷ wrong_head 3 ∷ []) ≡ pick_told 3 ∷ head_told 3 ∷ [])
    × (faults_of false (wrong_head 7 ∷ wrong_pick 3 ∷ [])
    ≢ faults_of true (wrong_head 7 ∷ wrong_pick 3 ∷ []))
