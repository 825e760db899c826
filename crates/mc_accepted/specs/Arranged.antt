-- Goals in order: the one order in which a goal runs, or the rule that it breaks. (Mercury Language
-- Reference Manual: Modes, strict sequential semantics; this project's profile of implied modes,
-- uniqueness and the choice of faults.)
--
-- A conjunction runs the first of its goals that is mode-correct, then the first of the others that
-- is mode-correct now, and so on. A goal is tried from the insts at a point. What it does there is
-- a function of the variables that occur outside it, the next number for a variable, and those
-- insts.
use Rattle.std.specs.Prelude.{ℕ, suc, zero, ◌+◌, List, [], ◌∷◌, ◌++◌, map, length, Option, Some, None, Bool, true, false, if◌then◌else◌, not, nat_eq, nat_lt, ◌&&◌, ◌||◌}
use Rattle.std.specs.List.{list_any, list_all}
use Rattle.mc_program.specs.Values.{Val}
use Rattle.mc_program.specs.Programs.{TypeTerm, Source}
use Rattle.mc_model.specs.Outcomes.{inputs_of}
use Rattle.mc_model.specs.Flat as F
use Rattle.mc_model.specs.Flat.{Flat_goal, Flat_goals, no_flat, flat_then, variables_of, variables_of_all, free_in}
use Rattle.mc_model.specs.Lists.{is_in, without}
use Rattle.mc_model.specs.Scheduled.{Node, node, Scheduled, Conj, Disj, Ite, Not, Exists, Assign, Test, Build, Take, Const, TestConst, Call, Apply, Nodes, no_nodes, node_then}
use Rattle.mc_model.specs.Stream.{is_bound}
use Rattle.mc_source.specs.Determinism.{is_zero, inferred, det}
use Rattle.mc_accepted.specs.Least.{least}
use Rattle.mc_accepted.specs.Unmarked.{unmarked}
use Rattle.mc_accepted.specs.Ordered.{Mode, is_state, modes_of, implied_places, times_in, at_inputs, at_outputs, builtin_most}
use Rattle.mc_program.specs.declared.builtin.Builtin.{Builtin}

-- Insts as the order asks for them: a node of the graph, whether one is bound or dead, one symbol
-- over insts, what one of several allows at a type, the insts of a symbol's arguments where the
-- inst allows it, whether it allows constants, whether it is included in a node at a type, and what
-- is kept of an inst that isn't the one before. None: there is no such inst, or nothing is kept.
pub record Operations (I : Type 0) : Type 0 where
  pub node : (node : ℕ) → I
  pub is_bound : I → Bool
  pub is_dead : I → Bool
  pub over : (symbol : ℕ) → List I → Option I
  pub joined : TypeTerm → List I → Option I
  pub narrowed : I → (symbol : ℕ) → Option (List I)
  pub takes_constants : I → Bool
  pub fits : I → (node : ℕ) → TypeTerm → Bool
  pub changed : (before after : I) → Option ℕ

-- A mode of a predicate: its procedure, its arguments' insts, and whether a call never answers.
pub record Declared : Type 0 where
  pub proc : ℕ
  pub modes : List Mode
  pub never : Bool

-- Which rule a goal breaks: so many goals wait, and these of their variables are free; a negated
-- goal or a condition binds a variable; branches bind a variable differently; or an inst that it
-- needs isn't there.
pub data Fault : Type 0 where
  waits : (goals : ℕ) → (free : List ℕ) → Fault
  negated_binds : (v : ℕ) → Fault
  branches_differ : (v : ℕ) → Fault
  lacks : Fault

-- What becomes of a procedure's goal: its order, its fault, or the place of the first argument
-- whose final inst isn't met.
pub data Verdict : Type 0 where
  in_order : Node → Verdict
  faulty : Fault → Verdict
  unmet : (place : ℕ) → Verdict

abbrev pub unless_unmet : Node → Option ℕ → Verdict
unless_unmet g None = in_order g
unless_unmet g (Some k) = unmet k

-- those of a list's variables for which a test holds, ascending, each once
abbrev pub placed : ℕ → List ℕ → List ℕ
placed x [] = x ∷ []
placed x (y ∷ ys) =
    if nat_lt x y then x ∷ y ∷ ys else if nat_eq x y then y ∷ ys else y ∷ placed x ys

abbrev pub ascending : (ℕ → Bool) → List ℕ → List ℕ
ascending f [] = []
ascending f (x ∷ xs) = if f x then placed x (ascending f xs) else ascending f xs

-- those of a list that are in another
abbrev pub those_in : List ℕ → List ℕ → List ℕ
those_in [] ys = []
those_in (x ∷ xs) ys = if is_in x ys then x ∷ those_in xs ys else those_in xs ys

abbrev pub is_there : {A : Type 0} → Option A → Bool
is_there None = false
is_there (Some a) = true

abbrev pub nodes_before : Nodes → Nodes → Nodes
nodes_before no_nodes hs = hs
nodes_before (node_then g gs) hs = node_then g (nodes_before gs hs)

abbrev pub two_goals : (Node → Node → Scheduled) → Nodes → Scheduled
two_goals f (node_then g (node_then h no_nodes)) = f g h
two_goals f gs = Conj gs

abbrev pub count_flat : Flat_goals → ℕ
count_flat no_flat = 0
count_flat (flat_then g gs) = suc (count_flat gs)

-- A builtin's implied outputs are fresh variables, numbered on, which are tested directly after it:
-- its arguments, and each fresh one with the variable for which it stands.
abbrev pub fresh_at : (place : ℕ) → (implied : List ℕ) → List ℕ → (next : ℕ) → List ℕ
fresh_at k is [] n = []
fresh_at k is (x ∷ xs) n =
    if is_in k is then n ∷ fresh_at (suc k) is xs (suc n) else x ∷ fresh_at (suc k) is xs n

abbrev pub tests_at : (place : ℕ) → (implied : List ℕ) → List ℕ → (next : ℕ) → List (ℕ × ℕ)
tests_at k is [] n = []
tests_at k is (x ∷ xs) n =
    if is_in k is then (n, x) ∷ tests_at (suc k) is xs (suc n) else tests_at (suc k) is xs n

abbrev pub test_nodes : List (ℕ × ℕ) → Nodes
test_nodes [] = no_nodes
test_nodes (t ∷ ts) = node_then (unmarked (Test t.0 t.1)) (test_nodes ts)

-- what counts as outside what comes after a goal: its variables, and fresh ones
abbrev pub with_fresh : List ℕ → List ℕ → List ℕ
with_fresh vs [] = vs
with_fresh vs (z ∷ zs) = vs ++ z ∷ zs

module _ (I : Type 0) where
  -- the insts of variables at a point
  abbrev pub Point : Type 0
  Point = ℕ → I

  abbrev pub with_inst : ℕ → I → Point → Point
  with_inst x i b = λ y. if nat_eq y x then i else b y

  -- The goals that a goal is in its order, the insts after it, None where that point is
  -- unreachable, the next number for a variable, and a builtin's arguments where fresh variables
  -- stand among them; or the rule that it breaks.
  pub data Arranged : Type 0 where
    runs : Nodes → Option Point → (next : ℕ) → (freshened : List ℕ) → Arranged
    breaks : Fault → Arranged

  -- a waiting goal: its variables, and what it does when it is tried
  abbrev pub Trial : Type 0
  Trial = (outside : List ℕ) → (next : ℕ) → Point → Arranged

  pub record Waiting : Type 0 where
    pub variables : List ℕ
    pub trial : Trial

  -- The first waiting goal that runs, with the others; where none does, the fault of the first that
  -- has one. A goal of which parts wait only waits itself.
  pub data Picked : Type 0 where
    takes :
        (variables : List ℕ) → (others : List Waiting) → Nodes → Option Point → (next : ℕ) → Picked
    none_runs : Option Fault → Picked

  -- branches, each from the same point: their goals with the reachable ends, or the fault of the
  -- first that has one
  pub data Branches : Type 0 where
    all_run : Nodes → (ends : List Point) → (next : ℕ) → Branches
    one_breaks : Fault → Branches

abbrev pub with_change : ℕ → Option ℕ → List (ℕ × ℕ) → List (ℕ × ℕ)
with_change x None changes = changes
with_change x (Some i) changes = (x, i) ∷ changes

-- What a goal changes, by what is kept of an inst that isn't the one before: in order of variables,
-- and nothing where the point after the goal is unreachable. Variables from the next number on have
-- one inst before and after.
module _ {I : Type 0} (changed : (before after : I) → Option ℕ) where
  abbrev pub changes_from : (first count : ℕ) → Point I → Point I → List (ℕ × ℕ)
  changes_from x zero b c = []
  changes_from x (suc k) b c = with_change x (changed (b x) (c x)) (changes_from (suc x) k b c)

  abbrev pub changes : (next : ℕ) → Point I → Option (Point I) → List (ℕ × ℕ)
  changes n b None = []
  changes n b (Some c) = changes_from 0 n b c

  abbrev pub changing : (next : ℕ) → Point I → Option (Point I) → Scheduled → Node
  changing n b o s = node s (changes n b o) (inferred det) false

module _ {I : Type 0} where
  abbrev pub variables_of_waiting : List (Waiting I) → List ℕ
  variables_of_waiting [] = []
  variables_of_waiting (w ∷ ws) = w.variables ++ variables_of_waiting ws

  abbrev pub or_first : Fault → Picked I → Picked I
  or_first f (takes vs ws gs o n) = takes vs ws gs o n
  or_first f (none_runs (Some lacks)) = none_runs (Some lacks)
  or_first f (none_runs later) = none_runs (Some f)

  abbrev pub picked : Waiting I → (others : List (Waiting I)) → Arranged I → Picked I → Picked I
  picked w ws (runs gs o n zs) later = takes (with_fresh w.variables zs) ws gs o n
  picked w ws (breaks (waits k vs)) later = later
  picked w ws (breaks lacks) later = none_runs (Some lacks)
  picked w ws (breaks f) later = or_first f later

  -- What occurs outside a waiting goal occurs outside the conjunction, or in another goal of it.
  abbrev pub pick : (tried waiting : List (Waiting I)) → List ℕ → ℕ → Point I → Picked I
  pick vs [] O n b = none_runs None
  pick vs (w ∷ ws) O n b =
      picked w (vs ++ ws) (w.trial (O ++ variables_of_waiting (vs ++ ws)) n b)
      (pick (vs ++ w ∷ []) ws O n b)

  abbrev pub behind : Nodes → Arranged I → Arranged I
  behind gs (breaks f) = breaks f
  behind gs (runs hs o n zs) = runs (nodes_before gs hs) o n []

  -- after an unreachable point the rest is dropped
  abbrev pub goes_on :
      (stuck : Fault) → Picked I → (List ℕ → List (Waiting I) → ℕ → Point I → Arranged I)
      → Arranged I
  goes_on stuck (none_runs None) rest = breaks stuck
  goes_on stuck (none_runs (Some f)) rest = breaks f
  goes_on stuck (takes vs ws gs None n) rest = runs gs None n []
  goes_on stuck (takes vs ws gs (Some c) n) rest = behind gs (rest vs ws n c)

  abbrev pub with_end : Option (Point I) → List (Point I) → List (Point I)
  with_end None ends = ends
  with_end (Some c) ends = c ∷ ends

  abbrev pub with_branch : Node → Option (Point I) → Branches I → Branches I
  with_branch g o (one_breaks f) = one_breaks f
  with_branch g o (all_run gs ends n) = all_run (node_then g gs) (with_end o ends) n

  abbrev pub no_branch : ℕ → Branches I
  no_branch n = all_run no_nodes [] n

  abbrev pub unless : Option ℕ → (ℕ → Fault) → Arranged I → Arranged I
  unless None f r = r
  unless (Some v) f r = breaks (f v)

module _ {I : Type 0} (Op : Operations I) where
  abbrev pub one : Point I → Scheduled → Option (Point I) → ℕ → Arranged I
  one b s o n = runs (node_then (changing Op.changed n b o s) no_nodes) o n []

  -- one goal stands alone, others are a conjunction
  abbrev pub alone : (next : ℕ) → Point I → Option (Point I) → Nodes → Node
  alone n b o (node_then g no_nodes) = g
  alone n b o gs = changing Op.changed n b o (Conj gs)

  abbrev pub and_branches : Point I → Arranged I → (ℕ → Branches I) → Branches I
  and_branches b (breaks f) rest = one_breaks f
  and_branches b (runs gs o n zs) rest = with_branch (alone n b o gs) o (rest n)

  abbrev pub each_branch : List (Waiting I) → List ℕ → ℕ → Point I → Branches I
  each_branch [] O n b = no_branch n
  each_branch (w ∷ ws) O n b = and_branches b (w.trial O n b) (λ m. each_branch ws O m b)

  abbrev pub wrapped :
      (ℕ → Option (Point I) → Nodes → Scheduled) → Point I → Arranged I → Arranged I
  wrapped f b (breaks e) = breaks e
  wrapped f b (runs gs o n zs) = one b (f n o gs) o n

module _ {I : Type 0} (Op : Operations I) (P : Source) (declared : ℕ → List Declared)
    (T : ℕ → TypeTerm) where
  abbrev pub free_at : Point I → List ℕ → List ℕ
  free_at b xs = ascending (λ x. not (Op.is_bound (b x))) xs

  -- a goal that can't run now
  abbrev pub wait : List ℕ → Point I → Arranged I
  wait xs b = breaks (waits 1 (free_at b xs))

  abbrev pub stuck : List (Waiting I) → Point I → Fault
  stuck ws b = waits (length ws) (free_at b (variables_of_waiting ws))

  -- a conjunction: the first goal that runs, then the first of the rest that runs now, and so on;
  -- the count is that of the waiting goals
  abbrev pub in_turn : (count : ℕ) → List (Waiting I) → Trial I
  in_turn zero ws O n b = runs no_nodes (Some b) n []
  in_turn (suc k) ws O n b =
      goes_on (stuck ws b) (pick [] ws O n b) (λ vs rest m c. in_turn k rest (O ++ vs) m c)

  -- an atom that holds a dead variable waits
  abbrev pub atom : List ℕ → Point I → Arranged I → Arranged I
  atom xs b r = if list_any (λ x. Op.is_dead (b x)) xs then wait xs b else r

  -- A state of io that is assigned is dead afterwards.
  abbrev pub assigned : ℕ → ℕ → Point I → Point I
  assigned x y b = with_inst I x (b y) (if is_state (T y) then with_inst I y (Op.node 3) b else b)

  abbrev pub same : ℕ → ℕ → ℕ → Point I → Arranged I
  same x y n b =
      if Op.is_bound (b x)
      then (if Op.is_bound (b y)
      then (if is_state (T x) then wait (x ∷ y ∷ []) b else one Op b (Test x y) (Some b) n)
      else one Op b (Assign y x) (Some (assigned y x b)) n)
      else (if Op.is_bound (b y) then one Op b (Assign x y) (Some (assigned x y b)) n
      else wait (x ∷ y ∷ []) b)

  -- free variables of a deconstruction get the insts of the symbol's arguments
  abbrev pub taken : List ℕ → List I → Point I → Point I
  taken [] is b = b
  taken (y ∷ ys) [] b = b
  taken (y ∷ ys) (i ∷ is) b = taken ys is (if Op.is_bound (b y) then b else with_inst I y i b)

  abbrev pub built : ℕ → ℕ → List ℕ → ℕ → Point I → Option I → Arranged I
  built x s ys n b None = breaks lacks
  built x s ys n b (Some i) = one Op b (Build x s ys) (Some (with_inst I x i b)) n

  abbrev pub took : ℕ → ℕ → List ℕ → List I → ℕ → Point I → Option I → Arranged I
  took x s ys is n b None = breaks lacks
  took x s ys is n b (Some i) = one Op b (Take x s ys) (Some (taken ys is (with_inst I x i b))) n

  -- where the inst excludes the symbol, the point after it is unreachable
  abbrev pub take : ℕ → ℕ → List ℕ → ℕ → Point I → Option (List I) → Arranged I
  take x s ys n b None = one Op b (Take x s ys) None n
  take x s ys n b (Some is) = took x s ys is n b (Op.over s is)

  abbrev pub made : ℕ → ℕ → List ℕ → ℕ → Point I → Arranged I
  made x s ys n b =
      if Op.is_bound (b x) then take x s ys n b (Op.narrowed (b x) s)
      else (if list_any (λ y. not (Op.is_bound (b y)) || is_state (T y)) ys then wait (x ∷ ys) b
      else built x s ys n b (Op.over s (map b ys)))

  abbrev pub constant : ℕ → Val → ℕ → Point I → Arranged I
  constant x v n b =
      if Op.is_bound (b x)
      then one Op b (TestConst x v) (if Op.takes_constants (b x) then Some b else None) n
      else one Op b (Const x v) (Some (with_inst I x (Op.node 1) b)) n

  -- Modes: an input is bound and included, and one that dies stands at no other place; any other
  -- argument is an output or implied, or isn't passed.
  abbrev pub is_input : List ℕ → Mode → ℕ → Point I → Bool
  is_input all m x b =
      Op.is_bound (b x)
      && (Op.fits (b x) m.0 (T x) && (not (Op.is_dead (Op.node m.1)) || nat_eq (times_in x all) 1))

  abbrev pub usable : List ℕ → List Mode → List ℕ → Point I → Bool
  usable all [] [] b = true
  usable all (m ∷ ms) (x ∷ xs) b = (not (is_bound m.0) || is_input all m x b) && usable all ms xs b
  usable all _ _ b = false

  -- an input becomes dead where its final inst is; any other keeps its inst where the final inst
  -- includes it, else has the final inst
  abbrev pub input_after : Mode → ℕ → Point I → Point I
  input_after m x b =
      if not (Op.is_dead (Op.node m.1)) && Op.fits (b x) m.1 (T x) then b
      else with_inst I x (Op.node m.1) b

  -- The insts after a call. An output has the final inst; one that is there before the call, or is
  -- an earlier output, is implied and keeps its inst.
  abbrev pub after_call : (is_there : ℕ → Bool) → List Mode → List ℕ → Point I → Point I
  after_call is_there [] xs b = b
  after_call is_there (m ∷ ms) [] b = b
  after_call is_there (m ∷ ms) (x ∷ xs) b =
      if is_bound m.0 then after_call is_there ms xs (input_after m x b)
      else if not (is_bound m.1) || is_there x then after_call is_there ms xs b
      else after_call (λ y. if nat_eq y x then true else is_there y) ms xs
      (with_inst I x (Op.node m.1) b)

  abbrev pub after : List Mode → List ℕ → Point I → Point I
  after ms xs b = after_call (λ x. Op.is_bound (b x)) ms xs b

  abbrev pub implied_in : List Mode → List ℕ → Point I → List ℕ
  implied_in ms xs b = implied_places 0 ms xs (λ x. Op.is_bound (b x))

  -- of the usable modes the one with the fewest implied arguments, the earliest of these
  abbrev pub better : List ℕ → Point I → Declared → Option Declared → Declared
  better xs b d None = d
  better xs b d (Some e) =
      if nat_lt (length (implied_in e.modes xs b)) (length (implied_in d.modes xs b)) then e else d

  abbrev pub best : List Declared → List ℕ → Point I → Option Declared
  best [] xs b = None
  best (d ∷ ds) xs b =
      if usable xs d.modes xs b then Some (better xs b d (best ds xs b)) else best ds xs b

  abbrev pub called : Option Declared → List ℕ → ℕ → Point I → Arranged I
  called None xs n b = wait xs b
  called (Some d) xs n b =
      one Op b (Call d.proc xs (implied_in d.modes xs b) false)
      (if d.never then None else Some (after d.modes xs b)) n

  abbrev pub applying : Builtin → List ℕ → Scheduled
  applying op xs = Apply op (at_inputs (inputs_of op) xs) (at_outputs (inputs_of op) xs)

  abbrev pub applied_to : Builtin → List ℕ → ℕ → Point I → Arranged I
  applied_to op xs n b =
      one Op b (applying op xs)
      (if is_zero (builtin_most op) then None else Some (after (modes_of op) xs b)) n

  abbrev pub applied_freshly :
      Builtin → (freshened : List ℕ) → List (ℕ × ℕ) → ℕ → Point I → Arranged I
  applied_freshly op zs ts n b =
      let o = Some (after (modes_of op) zs b) in
      runs
      (node_then (changing Op.changed (n + length ts) b o (applying op zs)) (test_nodes ts)) o
      (n + length ts) zs

  abbrev pub applied_with : (implied : List ℕ) → Builtin → List ℕ → ℕ → Point I → Arranged I
  applied_with [] op xs n b = applied_to op xs n b
  applied_with (i ∷ is) op xs n b =
      applied_freshly op (fresh_at 0 (i ∷ is) xs n) (tests_at 0 (i ∷ is) xs n) n b

  abbrev pub applied : Builtin → List ℕ → ℕ → Point I → Arranged I
  applied op xs n b =
      if usable xs (modes_of op) xs b then applied_with (implied_in (modes_of op) xs b) op xs n b
      else wait xs b

  abbrev pub call_of : Option Builtin → ℕ → List ℕ → ℕ → Point I → Arranged I
  call_of None p xs n b = called (best (declared p) xs b) xs n b
  call_of (Some op) p xs n b = applied op xs n b

  -- the least of these variables that is bound and was free
  abbrev pub binds : List ℕ → Point I → Option (Point I) → Option ℕ
  binds xs b None = None
  binds xs b (Some c) = least (λ x. not (Op.is_bound (b x)) && Op.is_bound (c x)) xs

  abbrev pub differs : List (Point I) → ℕ → Bool
  differs ends x =
      list_any (λ (c : Point I). not (Op.is_bound (c x))) ends
      && list_any (λ (c : Point I). Op.is_bound (c x)) ends

  -- what one of the ends allows
  abbrev pub joined_at : List (Point I) → ℕ → Option I
  joined_at ends x = Op.joined (T x) (map (λ (c : Point I). c x) ends)

  abbrev pub or_free : Option I → I
  or_free None = Op.node 0
  or_free (Some i) = i

  -- After branches a variable of the goal that occurs outside has the joined inst, any other of the
  -- goal is free, and no other variable is changed. Where all are unreachable, so is the whole.
  abbrev pub merged : (own outside : List ℕ) → Point I → List (Point I) → Option (Point I)
  merged own O b [] = None
  merged own O b (c ∷ ends) =
      Some
      (λ x.
      if is_in x own then (if is_in x O then or_free (joined_at (c ∷ ends) x) else Op.node 0)
      else b x)

  abbrev pub merges : List ℕ → List (Point I) → Bool
  merges xs [] = true
  merges xs (c ∷ ends) = list_all (λ x. is_there (joined_at (c ∷ ends) x)) xs

  -- The faults of the parts come first, then a condition that binds a variable, then a variable
  -- that is bound differently.
  abbrev pub branched :
      (bound_by_condition : Option ℕ) → (Nodes → Scheduled) → (own outside : List ℕ) → Point I
      → Branches I → Arranged I
  branched v f own O b (one_breaks e) = breaks e
  branched v f own O b (all_run gs ends n) =
      unless v negated_binds
      (unless (least (differs ends) (those_in own O)) branches_differ
      (if merges (those_in own O) ends then one Op b (f gs) (merged own O b ends) n
      else breaks lacks))

  -- A condition binds none of the variables that are free in it and that it doesn't quantify.
  -- Behind an unreachable point the then part stands as the empty conjunction.
  abbrev pub conditional :
      (vars free_here own outside : List ℕ) → Point I → Arranged I
      → (then_part : ℕ → Point I → Arranged I) → (else_part : ℕ → Arranged I) → Arranged I
  conditional vs xs own O b (breaks f) t e = breaks f
  conditional vs xs own O b (runs gs None n zs) t e =
      branched None (two_goals (Ite vs (alone Op n b None gs))) own O b
      (with_branch (unmarked (Conj no_nodes)) None (and_branches Op b (e n) no_branch))
  conditional vs xs own O b (runs gs (Some c) n zs) t e =
      branched (binds xs b (Some c)) (two_goals (Ite vs (alone Op n b (Some c) gs))) own O b
      (and_branches Op c (t n c) (λ m. and_branches Op b (e m) no_branch))

  -- after a negation the insts are those before it
  abbrev pub negation : (free_here : List ℕ) → Point I → Arranged I → Arranged I
  negation xs b (breaks f) = breaks f
  negation xs b (runs gs o n zs) =
      unless (binds xs b o) negated_binds (one Op b (Not (alone Op n b o gs)) (Some b) n)

  -- What a goal does when it is tried. Its free variables count as outside a negation and a
  -- condition in it.
  abbrev mutual
    pub trial : Flat_goal → Trial I
    trial (F.Same x y) O n b = atom (x ∷ y ∷ []) b (same x y n b)
    trial (F.Made x s ys) O n b = atom (x ∷ ys) b (made x s ys n b)
    trial (F.Is x v) O n b = atom (x ∷ []) b (constant x v n b)
    trial (F.Call p xs) O n b = atom xs b (call_of (P.preds p).builtin p xs n b)
    trial (F.And gs) O n b =
        wrapped Op (λ m o hs. Conj hs) b (in_turn (count_flat gs) (trials gs) O n b)
    trial (F.Or gs) O n b =
        branched None Disj (variables_of_all gs) O b (each_branch Op (trials gs) O n b)
    trial (F.If vs g h k) O n b =
        conditional vs (without (free_in g) vs) (variables_of (F.If vs g h k)) O b
        (trial g (O ++ (without (free_in g) vs ++ variables_of h)) n b)
        (λ m c. trial h (O ++ variables_of g) m c) (λ m. trial k O m b)
    trial (F.Not g) O n b = negation (free_in g) b (trial g (O ++ free_in g) n b)
    trial (F.Exists vs g) O n b =
        wrapped Op (λ m o gs. Exists vs (alone Op m b o gs)) b (trial g O n b)

    pub trials : Flat_goals → List (Waiting I)
    trials no_flat = []
    trials (flat_then g gs) = record { variables = variables_of g; trial = trial g } ∷ trials gs

  -- the place of the first argument whose final inst doesn't include the inst that it has
  abbrev pub first_unmet : (place : ℕ) → (head last : List ℕ) → Point I → Option ℕ
  first_unmet k (x ∷ xs) (l ∷ ls) c =
      if Op.fits (c x) l (T x) then first_unmet (suc k) xs ls c else Some k
  first_unmet k _ _ c = None

  abbrev pub judged : (head last : List ℕ) → Point I → Arranged I → Verdict
  judged xs ls b (breaks f) = faulty f
  judged xs ls b (runs gs None n zs) = in_order (alone Op n b None gs)
  judged xs ls b (runs gs (Some c) n zs) =
      unless_unmet (alone Op n b (Some c) gs) (first_unmet 0 xs ls c)

  abbrev pub entry : (head first : List ℕ) → Point I
  entry [] is = λ x. Op.node 0
  entry (y ∷ ys) [] = λ x. Op.node 0
  entry (y ∷ ys) (i ∷ is) = λ x. if nat_eq x y then Op.node i else entry ys is x

  -- a procedure's goal from its initial insts, every other variable free; variables from next on
  -- are in no goal
  abbrev pub arrange : (next : ℕ) → (head first last : List ℕ) → Flat_goal → Verdict
  arrange next head first last g =
      judged head last (entry head first) (trial g head next (entry head first))
