-- What ties the one order of goals, which is computed, to the relation of ordered goals.
use Rattle.std.specs.Prelude.{◌≡◌, ◌≢◌, ◌↔◌, ◌⊎◌, ℕ, ◌<◌, ◌≤◌, List, [], ◌∷◌, ◌++◌, map, length, Option, Some, None, Bool, true, false}
use Rattle.mc_program.specs.Programs.{TypeTerm, Source}
use Rattle.mc_model.specs.Flat as F
use Rattle.mc_model.specs.Flat.{Flat_goal, Flat_goals, no_flat, flat_then, variables_of, variables_of_all, free_in}
use Rattle.mc_model.specs.Lists.{Apart, In, without}
use Rattle.mc_model.specs.Insts.{Graph}
use Rattle.mc_model.specs.Good.{System}
use Rattle.mc_model.specs.Scheduled.{Node, Nodes, Procedure}
use Rattle.mc_accepted.specs.Ordered.{Insts, OrderedNode}
use Rattle.mc_accepted.specs.Fits.{type_of}
use Rattle.mc_accepted.specs.Accepted.{entered, FinalAfter}
use Rattle.mc_accepted.specs.Least.{least}
use Rattle.mc_accepted.specs.Unmarked.{changed_node}
use Rattle.mc_accepted.specs.Arranged.{Operations, Declared, Point, runs, trial, alone, lacks, in_order, faulty, ascending, arrange}
use Rattle.mc_accepted.specs.NodeOracle.{NodeOracle, of_nodes}
use Rattle.mc_accepted.specs.FreshTests.{TestsAlike, AllAlike}
use Rattle.mc_accepted.specs.Forms.{Form, of_forms}
use Rattle.mc_accepted.specs.Typing.{TypedGoal}
use Rattle.mc_accepted.specs.InOrder.{Tells, modes_declared}
use Rattle.mc_accepted.specs.code.Truthful.{Truthful, AllDeclared}
use Rattle.mc_accepted.specs.code.Standing.{Standing}
use Rattle.laws_order.specs.Tidying.{EndsTidily, TidyPoint}

-- Variables from the next number on are in no goal.
abbrev pub Below : (next : ℕ) → List ℕ → Type 0
Below n xs = (x : ℕ) → In x xs → x < n

-- Quantified variables don't occur outside the goal that quantifies them, where the first list is
-- what occurs outside. The free variables of a negation and a condition count as outside it.
abbrev mutual
  pub FlatScopes : (outside : List ℕ) → Flat_goal → Type 0
  FlatScopes O (F.Same x y) = Unit {0}
  FlatScopes O (F.Made x s ys) = Unit {0}
  FlatScopes O (F.Is x v) = Unit {0}
  FlatScopes O (F.Call p xs) = Unit {0}
  FlatScopes O (F.And gs) = PartsScoped O gs
  FlatScopes O (F.Or gs) = DisjunctsScoped O gs
  FlatScopes O (F.If vs c t e) =
      Apart vs O
      × FlatScopes (O ++ (without (free_in c) vs ++ variables_of t)) c
      × FlatScopes (O ++ variables_of c) t
      × FlatScopes O e
  FlatScopes O (F.Not g) = FlatScopes (O ++ free_in g) g
  FlatScopes O (F.Exists vs g) = Apart vs O × FlatScopes O g

  pub PartsScoped : (outside : List ℕ) → Flat_goals → Type 0
  PartsScoped O no_flat = Unit {0}
  PartsScoped O (flat_then g gs) =
      FlatScopes (O ++ variables_of_all gs) g × PartsScoped (O ++ variables_of g) gs

  pub DisjunctsScoped : (outside : List ℕ) → Flat_goals → Type 0
  DisjunctsScoped O no_flat = Unit {0}
  DisjunctsScoped O (flat_then g gs) = FlatScopes O g × DisjunctsScoped O gs

-- What is arranged over nodes of a graph stands in the relation, where the functions that look for
-- nodes tell the truth of the graph. It is that of a typed goal, from tidy insts, and fresh variables
-- in it are typed like those for which they stand: tidy insts have merged ones. A builtin predicate
-- has no procedures.
abbrev pub ArrangedStands : Type 0
ArrangedStands =
    (S : System) (T : ℕ → TypeTerm) (C : NodeOracle) (declared : ℕ → List Declared) → Truthful S T C
    → ((p : ℕ) → (S.world.source.preds p).builtin ≡ None → AllDeclared S T p (declared p))
    → EndsTidily S
    → (g : Flat_goal) (O : List ℕ) (n : ℕ) (b : Insts) (gs : Nodes) (o : Option Insts) (m : ℕ)
    (zs : List ℕ)
    → TypedGoal S.world.source T g → TidyPoint S T b
    → trial (of_nodes C) S.world.source declared T g O n b ≡ runs gs o m zs → AllAlike T n gs
    → Standing S T O n b g (alone (of_nodes C) m b o gs) o m

-- no variable of the list is one of those numbered from n on and below m
abbrev pub Clear : (n m : ℕ) → List ℕ → Type 0
Clear n m xs = (x : ℕ) → In x xs → (x < n) ⊎ (m ≤ x)

-- the order of a goal that is ordered, with the insts that each goal changes
abbrev pub IsOrderOf :
    System → (ℕ → TypeTerm) → (O Q : List ℕ) → Insts → Flat_goal → Node → Option Insts → Type 0
IsOrderOf S T O Q b g x o =
    (n : Node) × (changed_node n ≡ x) × OrderedNode S T O Q b g n o

-- A goal that stands in its order is the order of an ordered goal: determinisms and marks can be
-- told, where its scopes are written out, variables from the next number on are free and new, and
-- those that stand for implied outputs are typed like them.
abbrev pub StandingIsOrdered : Type 0
StandingIsOrdered =
    (S : System) (T : ℕ → TypeTerm) (O Q : List ℕ) (n m : ℕ) (b : Insts) (g : Flat_goal) (x : Node)
    (o : Option Insts) → Standing S T O n b g x o m → TestsAlike T n x
    → Below n O → Below n (variables_of g) → FlatScopes O g → Clear n m Q
    → ((y : ℕ) → n ≤ y → b y ≡ 0)
    → IsOrderOf S T O Q b g x o

-- Where a procedure's typed goal is in order over nodes, from tidy insts, and in that order the
-- variables that stand for implied outputs are typed like them, it is the order of an ordered goal,
-- from the insts at a call, and each argument is included in its final inst at its end. So the body
-- of an accepted procedure can be had from it.
abbrev pub InOrderIsOrdered : Type 0
InOrderIsOrdered =
    (S : System) (p : Procedure) (C : NodeOracle) (declared : ℕ → List Declared)
    → Truthful S (type_of S p) C
    → ((q : ℕ)
    → (S.world.source.preds q).builtin ≡ None → AllDeclared S (type_of S p) q (declared q))
    → EndsTidily S
    → (n : ℕ) (g : Flat_goal) (x : Node) → length p.last ≡ length p.head
    → Below n p.head → Below n (variables_of g) → FlatScopes p.head g
    → TypedGoal S.world.source (type_of S p) g
    → TidyPoint S (type_of S p) (entered p.head p.first)
    → arrange (of_nodes C) S.world.source declared (type_of S p) n p.head p.first p.last g
    ≡ in_order x
    → TestsAlike (type_of S p) n x
    → (o : Option Insts)
    × IsOrderOf S (type_of S p) p.head p.head (entered p.head p.first) g x o
    × FinalAfter S p o

-- A goal changes no variable but its own, and those that are numbered on.
abbrev pub OthersStay : (I : Type 0) → Type 0
OthersStay I =
    (Op : Operations I) (P : Source) (declared : ℕ → List Declared)
    (T : ℕ → TypeTerm) (g : Flat_goal) (O : List ℕ) (n : ℕ) (b c : Point I) (gs : Nodes) (m : ℕ)
    (zs : List ℕ) → trial Op P declared T g O n b ≡ runs gs (Some c) m zs
    → (n ≤ m) × ((x : ℕ) → (In x (variables_of g) → ⊥) → x < n → c x ≡ b x)

-- Two tests that tell inclusion give one order, or one fault.
abbrev pub OneOrder : Type 0
OneOrder =
    (P : Source) (G : Graph) (declared : ℕ → List Declared) (T : ℕ → TypeTerm)
    (f h : Form → ℕ → TypeTerm → Bool) → Tells P G f → Tells P G h
    → (next : ℕ) (head first last : List ℕ) (g : Flat_goal)
    → arrange (of_forms P G f) P declared T next head first last g
    ≡ arrange (of_forms P G h) P declared T next head first last g

-- Over forms no inst is ever lacking: a goal has its order, or breaks a rule.
abbrev pub NothingLacks : Type 0
NothingLacks =
    (P : Source) (G : Graph) (declared : ℕ → List Declared) (T : ℕ → TypeTerm)
    (f : Form → ℕ → TypeTerm → Bool) (next : ℕ) (head first last : List ℕ) (g : Flat_goal)
    → arrange (of_forms P G f) P declared T next head first last g ≢ faulty lacks

-- What a fault names: those variables of a list for which a test holds, rising and so each once;
-- and the least of them.
abbrev pub Rising : List ℕ → Type 0
Rising [] = Unit {0}
Rising (x ∷ xs) = ((y : ℕ) → In y xs → x < y) × Rising xs

abbrev pub IsLeast : (ℕ → Bool) → List ℕ → Option ℕ → Type 0
IsLeast f xs None = (y : ℕ) → In y xs → f y ≡ false
IsLeast f xs (Some v) = In v xs × (f v ≡ true) × ((y : ℕ) → In y xs → f y ≡ true → v ≤ y)

abbrev pub NamedByFaults : Type 0
NamedByFaults =
    (f : ℕ → Bool) (xs : List ℕ)
    → Rising (ascending f xs)
    × ((y : ℕ) → In y (ascending f xs) ↔ (In y xs × (f y ≡ true)))
    × IsLeast f xs (least f xs)

-- The declared modes of a predicate are those of its procedures: of each of them, rising and so
-- each once.
abbrev pub procedures_declared : System → (predicate : ℕ) → List ℕ
procedures_declared S p = map (λ (d : Declared). d.proc) (modes_declared S p)

abbrev pub ModesAreDeclared : Type 0
ModesAreDeclared =
    (S : System) (T : ℕ → TypeTerm) (p : ℕ)
    → AllDeclared S T p (modes_declared S p)
    × Rising (procedures_declared S p)
    × ((k : ℕ) → In k (procedures_declared S p) ↔ ((k < S.count) × ((S.procs k).pred ≡ p)))
