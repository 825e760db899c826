-- Words for goals in their order: a program of lists, colours and integers.
use Rattle.std.specs.Prelude.{ℕ, zero, suc, List, [], ◌∷◌, None, Bool, true, false, nat_eq, pos, codes, if◌then◌else◌}
use Rattle.mc_program.specs.Values.{int}
use Rattle.mc_program.specs.Programs.{TypeTerm, int_type, state_type, union_type, no_types, Constructor, Source}
use Rattle.mc_source.specs.Determinism.{inferred, nondet}
use Rattle.mc_source.specs.declared.det.Det.{Det}
use Rattle.mc_source.specs.declared.det.Most.TheVariants.{One, Many}
use Rattle.mc_model.specs.Insts.{free, ground, unique, dead, bound, Graph}
use Rattle.mc_model.specs.Outcomes.{fails}
use Rattle.mc_model.specs.Scheduled.{Label, for_constant, Node, node, Scheduled, Conj, Disj, Switch, Build, Take, Const, TestConst, Call, Apply, nodes, Arms, no_arms, arm_then, Procedure}
use Rattle.mc_model.specs.Good.{System}
use Rattle.mc_accepted.specs.Ordered.{Insts}
use Rattle.mc_accepted.specs.Unmarked.{unmarked}
use Rattle.mc_accepted.specs.Switched.{formed}
use Rattle.mc_program.specs.declared.builtin.Builtin.{Builtin}

-- constructors: `[]` and `[|]` of lists, `red` and `blue` of colours
abbrev pub nil : ℕ
nil = 0

abbrev pub cell : ℕ
cell = 1

abbrev pub red : ℕ
red = 2

abbrev pub blue : ℕ
blue = 3

abbrev pub symbol : ℕ → Constructor
symbol s =
    record {
      name = record { module_name = []; bytes = s ∷ []; arity = if nat_eq s cell then 2 else 0 };
      of_type = if nat_eq s nil then 0 else if nat_eq s cell then 0 else 1;
      args = if nat_eq s cell then int_type ∷ union_type 0 no_types ∷ [] else [];
    }

abbrev pub list_type : TypeTerm
list_type = union_type 0 no_types

abbrev pub colour_type : TypeTerm
colour_type = union_type 1 no_types

-- predicates
abbrev pub head : ℕ
head = 0

abbrev pub pick : ℕ
pick = 1

abbrev pub choose : ℕ
choose = 2

abbrev pub main : ℕ
main = 3

abbrev pub name : ℕ → List ℕ
name k =
    if nat_eq k head then codes "head"
    else if nat_eq k pick then codes "pick"
    else if nat_eq k choose then codes "choose" else codes "main"

abbrev pub types : ℕ → List TypeTerm
types k =
    if nat_eq k head then list_type ∷ int_type ∷ []
    else if nat_eq k main then state_type ∷ state_type ∷ [] else int_type ∷ []

abbrev pub arity : ℕ → ℕ
arity k = if nat_eq k head then 2 else if nat_eq k main then 2 else 1

abbrev pub source : Source
source =
    record {
      symbols = symbol;
      symbols_of = λ u. if nat_eq u 0 then nil ∷ cell ∷ [] else red ∷ blue ∷ [];
      preds =
          λ k.
          record {
            name = record { module_name = []; bytes = name k; arity = arity k };
            types = types k;
            clauses = [];
            builtin = None;
          };
    }

-- insts: 4 is that of lists that aren't empty, 5 that of the empty list
abbrev pub filled : ℕ
filled = 4

abbrev pub graph : Graph
graph zero = free
graph (suc zero) = ground
graph (suc (suc zero)) = unique
graph (suc (suc (suc zero))) = dead
graph (suc (suc (suc (suc zero)))) =
    bound (record { name = cell ∷ []; arity = 2; args = 1 ∷ 1 ∷ [] } ∷ [])
graph (suc (suc (suc (suc (suc i))))) =
    bound (record { name = nil ∷ []; arity = 0; args = [] } ∷ [])

-- determinisms
abbrev pub uncommitted : (can_fail : Bool) → Det
uncommitted can_fail = record { can_fail = can_fail; most = One; committed = false }

abbrev pub cc_nondet : Det
cc_nondet = record { can_fail = true; most = Many; committed = true }

abbrev pub cc_multi : Det
cc_multi = record { can_fail = false; most = Many; committed = true }

-- goals in their order, without what is kept of them, and with the insts that they change
abbrev pub in_a_row : List Node → Node
in_a_row ns = unmarked (Conj (nodes ns))

abbrev pub one_of : List Node → Node
one_of ns = unmarked (Disj (nodes ns))

abbrev pub nothing : Node
nothing = in_a_row []

abbrev pub arms : List (Label × Node) → Arms
arms [] = no_arms
arms (a ∷ as_well) = arm_then a.0 a.1 (arms as_well)

abbrev pub switch_on : ℕ → List (Label × Node) → Node
switch_on x as_well = unmarked (Switch x (arms as_well))

abbrev pub const : (v n : ℕ) → Node
const v n = unmarked (Const v (int (pos n)))

abbrev pub test : (v n : ℕ) → Node
test v n = unmarked (TestConst v (int (pos n)))

abbrev pub number : ℕ → Label
number n = for_constant (int (pos n))

abbrev pub take : (v symbol : ℕ) → List ℕ → Node
take v s ys = unmarked (Take v s ys)

abbrev pub build : (v symbol : ℕ) → List ℕ → Node
build v s ys = unmarked (Build v s ys)

abbrev pub call : (procedure : ℕ) → List ℕ → Node
call p xs = unmarked (Call p xs [] false)

abbrev pub apply : Builtin → List ℕ → List ℕ → Node
apply op xs ys = unmarked (Apply op xs ys)

abbrev pub changing : Scheduled → List (ℕ × ℕ) → Node
changing s changes = node s changes (inferred nondet) false

-- these variables are ground, and every other is free
abbrev pub ground_are : List ℕ → Insts
ground_are [] = λ x. 0
ground_are (y ∷ ys) = λ x. if nat_eq x y then 1 else ground_are ys x

abbrev pub typed : (lists : List ℕ) → (colours : List ℕ) → ℕ → TypeTerm
typed [] [] = λ x. int_type
typed [] (c ∷ cs) = λ x. if nat_eq x c then colour_type else typed [] cs x
typed (l ∷ ls) cs = λ x. if nat_eq x l then list_type else typed ls cs x

-- procedures with their determinisms, by number
abbrev pub procedure : (pred : ℕ) → (head first last : List ℕ) → Det → Node → Procedure
procedure k xs is ls d n =
    record {
      pred = k;
      head = xs;
      first = is;
      last = ls;
      body = n;
      det = d;
      var_types = [];
    }

abbrev pub numbered : List Procedure → ℕ → Procedure
numbered [] k = procedure 0 [] [] [] (uncommitted false) nothing
numbered (p ∷ ps) zero = p
numbered (p ∷ ps) (suc k) = numbered ps k

abbrev pub program : List Procedure → System
program ps =
    record {
      world = record { source = source; outcome = λ op vs. fails };
      count = 0;
      procs = numbered ps;
      insts = graph;
    }

-- the switch form of a goal, where no insts are kept of arms
abbrev pub form_of : (ℕ → TypeTerm) → Insts → Node → Node
form_of T b n = formed (program []) T (λ before after ds. []) b n
