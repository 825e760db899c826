-- The rules of the phase that infers determinisms, procedure by procedure. (Mercury Language
-- Reference Manual: Determinism; this project's profile of io, its rules and texts.)
use Rattle.std.specs.Prelude.{ℕ, Bool, true, false, not, nat_eq, nat_le, ◌&&◌, ◌||◌, List, [], ◌∷◌, ◌++◌, Option, Some, None, codes, decimal, if◌then◌else◌}
use Rattle.std.specs.List.{list_any}
use Rattle.std.specs.Option.{option_or}
use Rattle.std.specs.Cmp.Lexicographic.{pointwise}
use Rattle.mc_program.specs.Programs.{TypeTerm, FullName}
use Rattle.mc_source.specs.Determinism.{Determinism, row_of, rank, is_many}
use Rattle.mc_source.specs.Rules.{Fault, broken_at, by_place, first_rules}
use Rattle.mc_source.specs.declared.det.Det.{Det}
use Rattle.mc_source.specs.declared.det.Most.{Most}
use Rattle.mc_source.specs.declared.det.Most.TheVariants.{Zero, One, Many}
use Rattle.mc_source.specs.declared.rule.Broken.{Broken}
use Rattle.mc_source.specs.declared.rule.Rule.TheVariants as R
use Rattle.mc_model.specs.Lists.{from}
use Rattle.mc_model.specs.Scheduled.{Node, node, Scheduled, Conj, Disj, Switch, Ite, Not, Exists, Assign, Test, Build, Take, Const, TestConst, Call, Apply, Nodes, no_nodes, node_then, Arms, no_arms, arm_then, Procedure}
use Rattle.mc_model.specs.Good.{System}
use Rattle.mc_accepted.specs.Ordered.{Insts, Mode, is_state, di_mode, uo_mode, modes_of_procedure, binds_one, variables_of_node}
use Rattle.mc_accepted.specs.Determined.{Known, nothing_known, learned, insts_after, determined, none_fails, no_disjunct_fails, is_io, is_io_in, one_is_io}
use Rattle.mc_accepted.specs.Fits.{type_of}
use Rattle.mc_accepted.specs.Accepted.{entered}
use Rattle.mc_accepted.specs.Inferred.{DeclaredProcedure, DeclaredSystem, system_of, body_determinism}

-- the six names of determinisms, and two of committed ones
abbrev pub name_of : Bool → Most → List ℕ
name_of false Zero = codes "erroneous"
name_of true Zero = codes "failure"
name_of false One = codes "det"
name_of true One = codes "semidet"
name_of false Many = codes "multi"
name_of true Many = codes "nondet"

abbrev pub declared_name : Det → List ℕ
declared_name d =
    if d.committed then codes "cc_" ++ name_of d.can_fail d.most else name_of d.can_fail d.most

-- `name/arity`
abbrev pub shown : FullName → List ℕ
shown name = name.bytes ++ (47 ∷ decimal name.arity)

abbrev pub shown_procedure : System → Procedure → List ℕ
shown_procedure S p = shown (S.world.source.preds p.pred).name

-- whether a declared determinism allows an inferred one
abbrev pub allows : (declared inferred : Determinism) → Bool
allows d i = (not i.can_fail || d.can_fail) && nat_le (rank i.most) (rank d.most)

-- a body whose determinism its declaration doesn't allow
abbrev pub both_named : (declared : Det) → (inferred : Determinism) → List ℕ
both_named d i =
    codes "declared " ++ (declared_name d ++ (codes ", inferred " ++ name_of i.can_fail i.most))

abbrev pub not_allowed : Option Det → (inferred : Determinism) → Option Fault
not_allowed None i = None
not_allowed (Some d) i = if allows (row_of d) i then None else Some (R.E1, both_named d i)

-- an exported procedure without a declared determinism
abbrev pub undeclared : (exported : Bool) → Option Det → (name : List ℕ) → Option Fault
undeclared false d name = None
undeclared true None name = Some (R.E2, name ++ codes " has no determinism")
undeclared true (Some d) name = None

abbrev pub is_empty : List ℕ → Bool
is_empty [] = true
is_empty (x ∷ xs) = false

-- an io goal that is pruned or can fail, or that may succeed more than once in `all`
abbrev pub is_wrong_io : (is_io first is_pruned : Bool) → Determinism → Bool
is_wrong_io false first is_pruned d = false
is_wrong_io true first is_pruned d = is_pruned || (d.can_fail || (not first && is_many d.most))

module _ (S : System) (T : ℕ → TypeTerm) where
  -- whether a condition has its first answer alone asked for: the then part sees nothing that it
  -- binds, or the whole is in `first` and the then part cannot fail
  abbrev pub condition_first : Insts → Known → (first : Bool) → (condition then_part : Node) → Bool
  condition_first b known first c t =
      not (binds_one (variables_of_node t) b (insts_after c b))
      || (first && not (determined S T (insts_after c b) known t).can_fail)

  -- the procedure of the first committed call that stands where all solutions are needed, in the
  -- order in which goals are numbered: a goal before its parts, and those in order
  abbrev mutual
    pub first_misplaced : Insts → Known → (first : Bool) → Node → Option ℕ
    first_misplaced b known first (node s changes d is_pruned) =
        first_misplaced_in b known (first || is_pruned) s

    pub first_misplaced_in : Insts → Known → (first : Bool) → Scheduled → Option ℕ
    first_misplaced_in b known first (Conj ns) = misplaced_of_all b known first ns
    first_misplaced_in b known first (Disj ns) = misplaced_of_each b known first ns
    first_misplaced_in b known first (Switch x arms) = misplaced_of_arms b known first x arms
    first_misplaced_in b known first (Ite vs c t e) =
        option_or (first_misplaced b known (condition_first b known first c t) c)
        (option_or (first_misplaced (insts_after c b) known first t)
        (first_misplaced b known first e))
    first_misplaced_in b known first (Not n) = first_misplaced b known true n
    first_misplaced_in b known first (Exists vs n) = first_misplaced b known first n
    first_misplaced_in b known first (Assign x y) = None
    first_misplaced_in b known first (Test x y) = None
    first_misplaced_in b known first (Build x s ys) = None
    first_misplaced_in b known first (Take x s ys) = None
    first_misplaced_in b known first (Const x v) = None
    first_misplaced_in b known first (TestConst x v) = None
    first_misplaced_in b known first (Call p xs implied last) =
        if (S.procs p).det.committed && not (first && is_empty implied) then Some p else None
    first_misplaced_in b known first (Apply op xs ys) = None

    pub misplaced_of_all : Insts → Known → (first : Bool) → Nodes → Option ℕ
    misplaced_of_all b known first no_nodes = None
    misplaced_of_all b known first (node_then n ns) =
        option_or
        (first_misplaced b known (first && none_fails S T (insts_after n b) known ns) n)
        (misplaced_of_all (insts_after n b) known first ns)

    pub misplaced_of_each : Insts → Known → (first : Bool) → Nodes → Option ℕ
    misplaced_of_each b known first no_nodes = None
    misplaced_of_each b known first (node_then n ns) =
        option_or (first_misplaced b known first n) (misplaced_of_each b known first ns)

    pub misplaced_of_arms : Insts → Known → (first : Bool) → ℕ → Arms → Option ℕ
    misplaced_of_arms b known first x no_arms = None
    misplaced_of_arms b known first x (arm_then l n arms) =
        option_or (first_misplaced b (learned x l known) first n)
        (misplaced_of_arms b known first x arms)

  -- whether some io goal stands where it must not
  abbrev mutual
    pub misplaces_io : Insts → Known → (first : Bool) → Node → Bool
    misplaces_io b known first (node s changes d is_pruned) =
        is_wrong_io (is_io_in S T s) first is_pruned
        (determined S T b known (node s changes d is_pruned))
        || misplaces_io_in b known (first || is_pruned) s

    pub misplaces_io_in : Insts → Known → (first : Bool) → Scheduled → Bool
    misplaces_io_in b known first (Conj ns) = all_misplace_io b known first ns
    misplaces_io_in b known first (Disj ns) =
        (first && (one_is_io S T ns && not (no_disjunct_fails S T b known ns)))
        || each_misplaces_io b known first ns
    misplaces_io_in b known first (Switch x arms) = arms_misplace_io b known first x arms
    misplaces_io_in b known first (Ite vs c t e) =
        is_io S T c
        || (misplaces_io (insts_after c b) known first t || misplaces_io b known first e)
    misplaces_io_in b known first (Not n) = is_io S T n
    misplaces_io_in b known first (Exists vs n) = misplaces_io b known first n
    misplaces_io_in b known first (Assign x y) = false
    misplaces_io_in b known first (Test x y) = false
    misplaces_io_in b known first (Build x s ys) = false
    misplaces_io_in b known first (Take x s ys) = false
    misplaces_io_in b known first (Const x v) = false
    misplaces_io_in b known first (TestConst x v) = false
    misplaces_io_in b known first (Call p xs implied last) = false
    misplaces_io_in b known first (Apply op xs ys) = false

    pub all_misplace_io : Insts → Known → (first : Bool) → Nodes → Bool
    all_misplace_io b known first no_nodes = false
    all_misplace_io b known first (node_then n ns) =
        misplaces_io b known (first && none_fails S T (insts_after n b) known ns) n
        || all_misplace_io (insts_after n b) known first ns

    pub each_misplaces_io : Insts → Known → (first : Bool) → Nodes → Bool
    each_misplaces_io b known first no_nodes = false
    each_misplaces_io b known first (node_then n ns) =
        misplaces_io b known first n || each_misplaces_io b known first ns

    pub arms_misplace_io : Insts → Known → (first : Bool) → ℕ → Arms → Bool
    arms_misplace_io b known first x no_arms = false
    arms_misplace_io b known first x (arm_then l n arms) =
        misplaces_io b (learned x l known) first n || arms_misplace_io b known first x arms

-- a body with a committed call where all solutions are needed, in the context that the procedure's
-- own determinism gives
abbrev pub call_fault : System → Option ℕ → Option Fault
call_fault S None = None
call_fault S (Some k) =
    Some (R.E3, shown_procedure S (S.procs k) ++ codes " is called where all solutions are needed")

abbrev pub misplaced_call : System → Procedure → Option ℕ
misplaced_call S p =
    first_misplaced S (type_of S p) (entered p.head p.first) nothing_known p.det.committed p.body

abbrev pub io_fault : System → Procedure → Option Fault
io_fault S p =
    if misplaces_io S (type_of S p) (entered p.head p.first) nothing_known p.det.committed p.body
    then Some (R.U1, codes "io goal is misplaced")
    else None

-- The first rule of determinism that a procedure breaks, where all have these determinisms.
abbrev pub procedure_fault : System → DeclaredProcedure → Procedure → Option Fault
procedure_fault S d p =
    option_or (not_allowed d.declared (body_determinism S p))
    (option_or (undeclared d.exported d.declared (shown_procedure S p))
    (option_or (call_fault S (misplaced_call S p)) (io_fault S p)))

-- `main(io::di, io::uo)` that is det or cc_multi, in the interface of the first file's module
abbrev pub is_main_name : FullName → Bool
is_main_name name = pointwise nat_eq name.bytes (codes "main") && nat_eq name.arity 2

abbrev pub are_states : List TypeTerm → Bool
are_states (s ∷ t ∷ []) = is_state s && is_state t
are_states ts = false

abbrev pub is_mode : Mode → Mode → Bool
is_mode m n = nat_eq m.0 n.0 && nat_eq m.1 n.1

abbrev pub takes_states : List Mode → Bool
takes_states (m ∷ n ∷ []) = is_mode m di_mode && is_mode n uo_mode
takes_states ms = false

abbrev pub is_one : Most → Bool
is_one Zero = false
is_one One = true
is_one Many = false

abbrev pub is_det_or_cc_multi : Option Det → Bool
is_det_or_cc_multi None = false
is_det_or_cc_multi (Some d) =
    not d.can_fail && (if d.committed then is_many d.most else is_one d.most)

abbrev pub is_main : System → DeclaredProcedure → Bool
is_main S d =
    d.exported
    && (nat_eq d.at.file 0
    && (is_main_name (S.world.source.preds d.procedure.pred).name
    && (are_states (S.world.source.preds d.procedure.pred).types
    && (takes_states (modes_of_procedure d.procedure) && is_det_or_cc_multi d.declared))))

abbrev pub main_fault : (runs : Bool) → (has_main : Bool) → Option Fault
main_fault true false = Some (R.E4, codes "main is not a det or cc_multi predicate on io")
main_fault _ _ = None

-- The rules that a program's procedures break where they have these determinisms: what `run` asks
-- of `main` first, then each faulty procedure's first rule, in the order of the places where they
-- are declared, and of their numbers in one place.
abbrev pub determinism_faults : (runs : Bool) → DeclaredSystem → (ℕ → Det) → List Broken
determinism_faults runs D ds =
    broken_at (record { file = 0; line = 1 })
    (main_fault runs (list_any (λ k. is_main (system_of D ds) (D.procs k)) (from 0 D.count)))
    ++ by_place
    (first_rules (λ k. (D.procs k).at)
    (λ k. procedure_fault (system_of D ds) (D.procs k) ((system_of D ds).procs k))
    (from 0 D.count))
