-- Words for programs that are written out as scheduled procedures, and for what their runs show.
use Rattle.std.specs.Prelude.{◌≡◌, ℕ, zero, suc, true, false, List, [], ◌∷◌, map, Option, Some, pos}
use Rattle.mc_program.specs.Values.{Val, int, con, no_vals, vals}
use Rattle.mc_model.specs.EventList.{Items, End, Stuck, Stopped, Answer, Called, Wrote, Read, Halt}
use Rattle.mc_model.specs.Scheduled.{Label, Node, node, Scheduled, Conj, Disj, Switch, Const, Call, Apply, nodes, Arms, no_arms, arm_then, Procedure}
use Rattle.mc_model.specs.Builtins.{Library, outcome}
use Rattle.mc_model.specs.Stream.{run_call, run_query}
use Rattle.mc_program.specs.declared.builtin.Builtin.{Builtin}
use Rattle.mc_source.specs.declared.det.Det.{Det}
use Rattle.mc_source.specs.declared.det.Most.TheVariants.{One, Many}

-- determinisms
abbrev pub det : Det
det = record { can_fail = false; most = One; committed = false }

abbrev pub semidet : Det
semidet = record { can_fail = true; most = One; committed = false }

abbrev pub multi : Det
multi = record { can_fail = false; most = Many; committed = false }

abbrev pub nondet : Det
nondet = record { can_fail = true; most = Many; committed = false }

abbrev pub cc_nondet : Det
cc_nondet = record { can_fail = true; most = Many; committed = true }

-- A goal. The insts that it changes and its determinism are left open, since no run reads them.
abbrev pub goal : Scheduled → Node
goal s = node s [] nondet false

-- a goal that is pruned to its first answer
abbrev pub once : Scheduled → Node
once s = node s [] nondet true

abbrev pub all_of : List Node → Scheduled
all_of ns = Conj (nodes ns)

abbrev pub one_of : List Node → Scheduled
one_of ns = Disj (nodes ns)

abbrev pub arms_of : List (Label × Node) → Arms
arms_of [] = no_arms
arms_of (arm ∷ arms) = arm_then arm.0 arm.1 (arms_of arms)

abbrev pub switch_on : ℕ → List (Label × Node) → Scheduled
switch_on v arms = Switch v (arms_of arms)

abbrev pub call : ℕ → List ℕ → Node
call p xs = goal (Call p xs [] false)

abbrev pub apply : Builtin → List ℕ → List ℕ → Node
apply op xs ys = goal (Apply op xs ys)

-- a variable is an integer
abbrev pub number : ℕ → ℕ → Node
number x n = goal (Const x (int (pos n)))

-- insts
abbrev pub free_inst : ℕ
free_inst = 0

abbrev pub ground_inst : ℕ
ground_inst = 1

-- a procedure with its head's variables, their insts at the call and at an answer, its determinism
-- and its body
abbrev pub procedure : (head first last : List ℕ) → Det → Node → Procedure
procedure head first last d body =
    record {
      pred = 0;
      head = head;
      first = first;
      last = last;
      body = body;
      det = d;
      var_types = [];
    }

-- a query, whose variables are unbound at first
abbrev pub query : (head : List ℕ) → Det → Node → Procedure
query head d body = procedure head (map (λ x. free_inst) head) (map (λ x. ground_inst) head) d body

-- the procedures of a program, by number
abbrev pub numbered : List Procedure → ℕ → Procedure
numbered [] k = procedure [] [] [] det (goal (all_of []))
numbered (p ∷ ps) zero = p
numbered (p ∷ ps) (suc k) = numbered ps k

-- the symbols of lists, which every program of these examples has
abbrev pub nil : ℕ
nil = 0

abbrev pub cell : ℕ
cell = 1

abbrev pub library : Library
library = record { nil = nil; cons = cell; ok = 2; eof = 3; text_of = λ v. [] }

abbrev pub list_of : List Val → Val
list_of [] = con nil no_vals
list_of (v ∷ vs) = con cell (vals (v ∷ list_of vs ∷ []))

abbrev pub ints : List ℕ → Val
ints ns = list_of (map (λ n. int (pos n)) ns)

-- What a run shows: its events, but for the arguments of calls.
pub data Shown : Type 0 where
  called : (proc : ℕ) → Shown
  answer : List (Option Val) → Shown
  wrote : (text : List ℕ) → Shown
  read : (from : ℕ) → Shown

abbrev pub answered : List Val → Shown
answered vs = answer (map Some vs)

abbrev pub shown : Items (List (Option Val)) → List Shown
shown End = []
shown Stuck = []
shown (Stopped h) = []
shown (Answer vs xs) = answer vs ∷ shown xs
shown (Called c xs) = called c.proc ∷ shown xs
shown (Wrote t xs) = wrote t ∷ shown xs
shown (Read k xs) = read k ∷ shown xs

-- how a run ends
pub data Ending : Type 0 where
  at_end : Ending
  at_unbound : Ending
  at_stop : Halt → Ending

abbrev pub ending : {A : Type 0} → Items A → Ending
ending End = at_end
ending Stuck = at_unbound
ending (Stopped h) = at_stop h
ending (Answer a xs) = ending xs
ending (Called c xs) = ending xs
ending (Wrote t xs) = ending xs
ending (Read k xs) = ending xs

-- the answers, and how many calls are made
abbrev pub answers_of : {A : Type 0} → Items A → List A
answers_of End = []
answers_of Stuck = []
answers_of (Stopped h) = []
answers_of (Answer a xs) = a ∷ answers_of xs
answers_of (Called c xs) = answers_of xs
answers_of (Wrote t xs) = answers_of xs
answers_of (Read k xs) = answers_of xs

abbrev pub calls_of : {A : Type 0} → Items A → ℕ
calls_of End = 0
calls_of Stuck = 0
calls_of (Stopped h) = 0
calls_of (Answer a xs) = calls_of xs
calls_of (Called c xs) = suc (calls_of xs)
calls_of (Wrote t xs) = calls_of xs
calls_of (Read k xs) = calls_of xs

-- the run shows these events and ends so
abbrev pub Shows : Items (List (Option Val)) → List Shown → Ending → Type 0
Shows xs items end = (shown xs ≡ items) × (ending xs ≡ end)

-- the run has these answers and ends
abbrev pub Answers : Items (List (Option Val)) → List (List Val) → Type 0
Answers xs answers = (answers_of xs ≡ map (λ vs. map Some vs) answers) × (ending xs ≡ at_end)

-- the run of a query over a program without input, with a budget and a depth
abbrev pub asked : List Procedure → (budget depth : ℕ) → Procedure → Items (List (Option Val))
asked program budget depth q = run_query (outcome library []) (numbered program) budget depth q

-- the run of a call
abbrev pub started :
    List Procedure → (budget depth proc : ℕ) → List (Option Val) → Items (List (Option Val))
started program budget depth k vs =
    run_call (outcome library []) (numbered program) budget depth k vs

-- enough of both for the examples that name none
abbrev pub plenty : ℕ
plenty = 1000
