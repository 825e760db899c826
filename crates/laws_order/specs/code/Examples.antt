-- Words for clauses whose goals are put in order: a program of lists, persons and integers.
use Rattle.std.specs.Prelude.{ℕ, zero, suc, List, [], ◌∷◌, length, Option, Some, None, Bool, false, not, nat_eq, ◌&&◌, pos, if◌then◌else◌}
use Rattle.mc_program.specs.Values.{int}
use Rattle.mc_program.specs.Programs.{TypeTerm, int_type, state_type, union_type, type_then, no_types, Expression, variable, constant, made, applied, expressions, Formula, Equal, And, Or, Formulas, no_formulas, formula_then, ClauseForm, Constructor, Predicate, Source}
use Rattle.mc_program.specs.Programs as P
use Rattle.mc_model.specs.Lists.{from}
use Rattle.mc_model.specs.Insts.{free, ground, unique, dead, bound, Graph}
use Rattle.mc_model.specs.Scheduled.{Node, Conj, Build, Take, Const, TestConst, Call, Apply, nodes}
use Rattle.mc_accepted.specs.Scope.{clause_scoped}
use Rattle.mc_accepted.specs.Normal.{normal_goal}
use Rattle.mc_accepted.specs.Ordered.{Mode, in_mode, out_mode}
use Rattle.mc_accepted.specs.Unmarked.{unmarked}
use Rattle.mc_accepted.specs.Arranged.{Declared, Verdict, arrange}
use Rattle.mc_accepted.specs.Forms.{Form, at, only, either, is_bound_form, of_forms}
use Rattle.mc_program.specs.declared.builtin.Builtin.{Builtin}
use Rattle.mc_program.specs.declared.builtin.Builtin.TheVariants as B

-- constructors: of lists, and persons
abbrev pub nil : ℕ
nil = 0

abbrev pub cell : ℕ
cell = 1

abbrev pub ann : ℕ
ann = 2

-- predicates and functions; the first five have modes of their own, and others are builtins
abbrev pub append : ℕ
append = 0

abbrev pub parent : ℕ
parent = 1

abbrev pub member : ℕ
member = 2

-- one integer from another
abbrev pub step : ℕ
step = 3

-- an integer, without any
abbrev pub one : ℕ
one = 4

-- the first element of a list that isn't empty
abbrev pub head : ℕ
head = 5

abbrev pub safe : ℕ
safe = 6

abbrev pub plus : ℕ
plus = 7

abbrev pub minus : ℕ
minus = 8

abbrev pub greater : ℕ
greater = 9

abbrev pub new_line : ℕ
new_line = 10

abbrev pub builtin : ℕ → Option Builtin
builtin k =
    if nat_eq k plus then Some B.IntPlus
    else if nat_eq k minus then Some B.IntMinus
    else if nat_eq k greater then Some B.IntGreater
    else if nat_eq k new_line then Some B.Nl else None

abbrev pub symbol : ℕ → Constructor
symbol s =
    record {
      name = record { module_name = []; bytes = s ∷ []; arity = if nat_eq s cell then 2 else 0 };
      of_type = if nat_eq s nil then 0 else if nat_eq s cell then 0 else 1;
      args =
          if nat_eq s cell
          then int_type ∷ union_type 0 no_types ∷ [] else [];
    }

abbrev pub source : Source
source =
    record {
      symbols = symbol;
      symbols_of = λ u. if nat_eq u 0 then nil ∷ cell ∷ [] else ann ∷ [];
      preds =
          λ k.
          record {
            name = record { module_name = []; bytes = k ∷ []; arity = 2 };
            types = [];
            clauses = [];
            builtin = builtin k;
          };
    }

-- lists that aren't empty
abbrev pub filled : ℕ
filled = 4

abbrev pub graph : Graph
graph zero = free
graph (suc zero) = ground
graph (suc (suc zero)) = unique
graph (suc (suc (suc zero))) = dead
graph i = bound (record { name = cell ∷ []; arity = 2; args = 1 ∷ 1 ∷ [] } ∷ [])

abbrev pub is_filled : Form → Bool
is_filled (at i) = nat_eq i filled
is_filled (only s is) = nat_eq s cell
is_filled (either i j) = is_filled i && is_filled j

abbrev pub is_unique : Form → Bool
is_unique (at i) = nat_eq i 2
is_unique i = false

-- whether an inst is included in a node of the graph, for insts that aren't dead
abbrev pub fits : Form → ℕ → TypeTerm → Bool
fits i zero t = not (is_bound_form i)
fits i (suc zero) t = is_bound_form i
fits i (suc (suc zero)) t = is_unique i
fits i (suc (suc (suc zero))) t = is_bound_form i
fits i j t = is_filled i

abbrev pub mode : (procedure : ℕ) → List Mode → Declared
mode k ms = record { proc = k; modes = ms; never = false }

-- The modes of predicates, with their procedures. `append` takes lists apart by procedure 11, and
-- `member` gives elements by procedure 12.
abbrev pub filled_in : Mode
filled_in = (4, 4)

abbrev pub modes : ℕ → List Declared
modes k =
    if nat_eq k append
    then mode append (in_mode ∷ in_mode ∷ out_mode ∷ [])
    ∷ mode 11 (out_mode ∷ out_mode ∷ in_mode ∷ []) ∷ []
    else if nat_eq k parent then mode parent (out_mode ∷ out_mode ∷ []) ∷ []
    else if nat_eq k member
    then mode member (in_mode ∷ in_mode ∷ []) ∷ mode 12 (out_mode ∷ in_mode ∷ []) ∷ []
    else if nat_eq k step then mode step (in_mode ∷ out_mode ∷ []) ∷ []
    else if nat_eq k one then mode one (out_mode ∷ []) ∷ []
    else if nat_eq k head then mode head (filled_in ∷ out_mode ∷ []) ∷ []
    else mode k (in_mode ∷ in_mode ∷ in_mode ∷ []) ∷ []

-- The order of clauses' one goal, from the insts of the head's variables at a call to those at an
-- answer.
abbrev pub order_with : (ℕ → TypeTerm) → (first last : List ℕ) → List ClauseForm → Verdict
order_with T first last cs =
    let n = normal_goal (length first) cs in
    arrange (of_forms source graph fits) source modes T n.variables (from 0 (length first)) first
    last n.body

abbrev pub order_of : (first last : List ℕ) → List ClauseForm → Verdict
order_of first last cs = order_with (λ x. int_type) first last cs

abbrev pub in_out : List ℕ
in_out = 1 ∷ 0 ∷ []

abbrev pub both_ground : List ℕ
both_ground = 1 ∷ 1 ∷ []

-- clauses
abbrev pub clause : List Expression → Formula → ClauseForm
clause h g = clause_scoped (record { head = h; body = g })

abbrev pub over : (variables : List ℕ) → List Expression
over [] = []
over (x ∷ xs) = variable x ∷ over xs

abbrev pub goals : List Formula → Formulas
goals [] = no_formulas
goals (g ∷ gs) = formula_then g (goals gs)

abbrev pub all_of : List Formula → Formula
all_of gs = And (goals gs)

abbrev pub one_of : List Formula → Formula
one_of gs = Or (goals gs)

abbrev pub holds : Formula
holds = all_of []

abbrev pub call_of : (predicate : ℕ) → List Expression → Formula
call_of p ts = P.Call p (expressions ts)

abbrev pub is : (v : ℕ) → Expression → Formula
is v t = Equal (variable v) t

abbrev pub number : ℕ → Expression
number n = constant (int (pos n))

abbrev pub empty : Expression
empty = made nil (expressions [])

abbrev pub pair : Expression → Expression → Expression
pair t ts = made cell (expressions (t ∷ ts ∷ []))

abbrev pub sum : Expression → Expression → Expression
sum a b = applied plus (expressions (a ∷ b ∷ []))

abbrev pub difference : Expression → Expression → Expression
difference a b = applied minus (expressions (a ∷ b ∷ []))

abbrev pub numbers : List ℕ → Expression
numbers [] = empty
numbers (n ∷ ns) = pair (number n) (numbers ns)

-- goals in their order
abbrev pub in_a_row : List Node → Node
in_a_row ns = unmarked (Conj (nodes ns))

abbrev pub const : (v n : ℕ) → Node
const v n = unmarked (Const v (int (pos n)))

abbrev pub test_const : (v n : ℕ) → Node
test_const v n = unmarked (TestConst v (int (pos n)))

abbrev pub build : (v symbol : ℕ) → List ℕ → Node
build v s ys = unmarked (Build v s ys)

abbrev pub take : (v symbol : ℕ) → List ℕ → Node
take v s ys = unmarked (Take v s ys)

abbrev pub call : (procedure : ℕ) → List ℕ → (implied : List ℕ) → Node
call p xs is = unmarked (Call p xs is false)

abbrev pub apply : Builtin → List ℕ → List ℕ → Node
apply op xs ys = unmarked (Apply op xs ys)
