-- Goals in switch form that are ordered, and a procedure that is accepted in its switch form: append,
-- whose two clauses are a switch on the first list. All that is asked of phases is met.
use Rattle.std.specs.Prelude.{◌≡◌, ℕ, ◌<◌, List, [], ◌∷◌, Some, None, true, false, pos}
use Rattle.mc_program.specs.Values.{int}
use Rattle.mc_program.specs.Programs.{TypeTerm, int_type}
use Rattle.mc_model.specs.Flat as F
use Rattle.mc_model.specs.Flat.{Flat_goal, flats}
use Rattle.mc_source.specs.declared.det.Det.{Det}
use Rattle.mc_model.specs.Scheduled.{for_constant, Node, node, Conj, Disj, Switch, Const, TestConst, nodes, no_arms, arm_then, Procedure}
use Rattle.mc_accepted.specs.Ordered.{Insts, also, OrderedNode}
use Rattle.mc_accepted.specs.MergedArms.{ArmsMerge}
use Rattle.mc_accepted.specs.Switched.{Kept, formed}
use Rattle.mc_accepted.specs.Fits.{type_of}
use Rattle.mc_accepted.specs.Accepted.{entered, AcceptedProcedure}
use Rattle.mc_accepted.specs.Inferred.{DeclaredSystem, system_of, Closed}
use Rattle.mc_accepted.specs.DeterminismFaults.{procedure_fault}
use Rattle.laws_language.specs.code.Examples.{det}
use Rattle.laws_language.specs.code.ExamplesOfProcedures.{append_system, append_procedure, append_goals, append_body}
use Rattle.laws_accepted.specs.Told.{Retold}
use Rattle.laws_accepted.specs.AcceptedLaws.{IsTold, BodyIsOrdered, IsFormed, IsComputed}

-- `:- mode append(in, in, out) is det.`
abbrev pub append_declared : DeclaredSystem
append_declared =
    record {
      world = append_system.world;
      count = 1;
      procs = λ k.
          record {
            procedure = append_procedure det det;
            declared = Some det;
            exported = false;
            at = record { file = 0; line = 1 };
          };
      insts = append_system.insts;
    }

abbrev pub all_det : ℕ → Det
all_det k = det

abbrev pub append : Procedure
append = append_procedure det det

-- no arm is one of several disjuncts, so nothing is kept of any
abbrev pub keeps_nothing : (before after : Insts) → Kept
keeps_nothing b c ds = []

abbrev pub entry : Insts
entry = entered append.head append.first

abbrev pub after_both : Insts
after_both = entered (0 ∷ 1 ∷ 2 ∷ []) (6 ∷ 1 ∷ 1 ∷ [])

abbrev pub AppendIsFormed : Type 0
AppendIsFormed =
    (formed append_system (type_of append_system append) keeps_nothing entry append_goals
    ≡ append_body det)
    × (append_goals ≡ append_body det → ⊥)
    × Closed append_declared all_det
    × (0 < append_declared.count)
    × (procedure_fault (system_of append_declared all_det) (append_declared.procs 0) append ≡ None)
    × IsTold (system_of append_declared all_det) append
    × BodyIsOrdered (system_of append_declared all_det) append append_goals (Some after_both)
    × IsFormed (system_of append_declared all_det) append append_goals
    × IsComputed (system_of append_declared all_det) (append_declared.procs 0) append
    × AcceptedProcedure (system_of append_declared all_det) append

-- `q(1, 3). q(1, 2).`, where the first argument is given
abbrev pub fact_goal : (y : ℕ) → Flat_goal
fact_goal y = F.And (flats (F.Is 0 (int (pos 1)) ∷ F.Is 1 (int (pos y)) ∷ []))

abbrev pub fact_node : (y : ℕ) → Node
fact_node y =
    node
    (Conj (nodes (
    node (TestConst 0 (int (pos 1))) [] det true
    ∷ node (Const 1 (int (pos y))) ((1, 1) ∷ []) det false
    ∷ []
    )))
    ((1, 1) ∷ []) det false

abbrev pub facts : Node
facts = node (Disj (nodes (fact_node 3 ∷ fact_node 2 ∷ []))) ((1, 1) ∷ []) det false

abbrev pub integers : ℕ → TypeTerm
integers x = int_type

abbrev pub given : Insts
given = entered (0 ∷ 1 ∷ []) (1 ∷ 0 ∷ [])

-- the one arm is that of both facts, and keeps what both give
abbrev pub arm_changes : List (ℕ × ℕ)
arm_changes = (1, 1) ∷ []

abbrev pub keeps_both : (before after : Insts) → Kept
keeps_both b c ds = arm_changes

abbrev pub facts_switched : Node
facts_switched =
    node
    (Switch 0
    (arm_then (for_constant (int (pos 1)))
    (node (Disj (nodes (fact_node 3 ∷ fact_node 2 ∷ []))) arm_changes det false) no_arms))
    ((1, 1) ∷ []) det false

abbrev pub IsOrdered : Node → Type 0
IsOrdered n =
    OrderedNode append_system integers (0 ∷ 1 ∷ []) (0 ∷ 1 ∷ []) given
    (F.Or (flats (fact_goal 3 ∷ fact_goal 2 ∷ []))) n (Some (also 1 1 given))

abbrev pub FactsAreFormed : Type 0
FactsAreFormed =
    IsOrdered facts
    × (formed append_system integers keeps_both given facts ≡ facts_switched)
    × ArmsMerge append_system integers given facts_switched
    × ((m : Node) × Retold facts_switched m × IsOrdered m)
    × (facts_switched ≡ facts → ⊥)
