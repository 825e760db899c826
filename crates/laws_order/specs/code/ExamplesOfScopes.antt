-- Clauses whose scopes are written out, and whose quantifiers are not named apart: the relation of
-- ordered goals has no order of their goals.
use Rattle.std.specs.Prelude.{◌≡◌, ℕ, List, [], ◌∷◌, Option}
use Rattle.mc_program.specs.Programs.{TypeTerm, Formula, Not, Exists, ClauseForm}
use Rattle.mc_model.specs.Scheduled.{Node}
use Rattle.mc_model.specs.Scheduled as S
use Rattle.mc_model.specs.Good.{System}
use Rattle.mc_accepted.specs.Scope.{ClauseHasScopes}
use Rattle.mc_accepted.specs.Normal.{normal_goal}
use Rattle.mc_accepted.specs.Ordered.{Insts, OrderedNode}
use Rattle.mc_accepted.specs.Unmarked.{unmarked}
use Rattle.mc_accepted.specs.Arranged.{in_order}
use Rattle.laws_order.specs.OrderLaws.{FlatScopes}
use Rattle.laws_order.specs.NormalScopes.{ClauseNamedApart}
use Rattle.laws_order.specs.code.Examples.{member, safe, over, all_of, one_of, holds, call_of, order_of, in_a_row}

-- a clause without arguments
abbrev pub plain : Formula → ClauseForm
plain g = record { head = []; body = g }

-- `p :- some [X] true, some [Y] true.`, by the numbers of X and Y
abbrev pub two_scopes : (x y : ℕ) → ClauseForm
two_scopes x y = plain (all_of (Exists (x ∷ []) holds ∷ Exists (y ∷ []) holds ∷ []))

-- `p :- some [X] not ( some [Y] member(Y) ; safe(X) ).`
abbrev pub nested_scopes : (x y : ℕ) → ClauseForm
nested_scopes x y =
    plain
    (Exists (x ∷ [])
    (Not
    (one_of
    (Exists (y ∷ []) (call_of member (over (y ∷ []))) ∷ call_of safe (over (x ∷ [])) ∷ []))))

abbrev pub MeetsFlatScopes : ClauseForm → Type 0
MeetsFlatScopes c = FlatScopes [] (normal_goal 0 (c ∷ [])).body

-- no insts and no goal in an order
abbrev pub HasNoOrder : ClauseForm → Type 0
HasNoOrder c =
    (S : System) (T : ℕ → TypeTerm) (O Q : List ℕ) (b : Insts) (n : Node) (o : Option Insts)
    → OrderedNode S T O Q b (normal_goal 0 (c ∷ [])).body n o → ⊥

-- the empty conjunction under a quantifier
abbrev pub empty_scope : ℕ → Node
empty_scope x = unmarked (S.Exists (x ∷ []) (unmarked (S.Conj S.no_nodes)))

-- With one number for both variables the scopes are written out all the same, and the computed order
-- takes the first goal.
abbrev pub ScopesAlone : Type 0
ScopesAlone =
    ClauseHasScopes (two_scopes 0 0)
    × (ClauseNamedApart (two_scopes 0 0) → ⊥)
    × (MeetsFlatScopes (two_scopes 0 0) → ⊥)
    × (order_of [] [] (two_scopes 0 0 ∷ []) ≡ in_order (in_a_row (empty_scope 0 ∷ empty_scope 0 ∷ [])))
    × HasNoOrder (two_scopes 0 0)
    × ClauseHasScopes (nested_scopes 0 0)
    × (ClauseNamedApart (nested_scopes 0 0) → ⊥)
    × (MeetsFlatScopes (nested_scopes 0 0) → ⊥)

-- with two numbers the quantifiers are named apart
abbrev pub ScopesApart : Type 0
ScopesApart =
    ClauseHasScopes (two_scopes 0 1)
    × ClauseNamedApart (two_scopes 0 1)
    × ClauseHasScopes (nested_scopes 0 1)
    × ClauseNamedApart (nested_scopes 0 1)
