-- Switch forms: which disjunctions of an ordered goal are switches, and their arms. (Mercury
-- Language Reference Manual: Determinism, switches; this project's choice among several variables.)
use Rattle.std.specs.Prelude.{ℕ, ◌+◌, suc, zero, List, [], ◌∷◌, ◌++◌, map, length, Option, Some, None, Bool, true, false, if◌then◌else◌, not, nat_eq, ◌&&◌}
use Rattle.std.specs.List.{list_any, list_all}
use Rattle.std.specs.Option.{option_or}
use Rattle.mc_program.specs.Values.{Val, int, char, str, con, state, same_value}
use Rattle.mc_program.specs.Programs.{TypeTerm}
use Rattle.mc_source.specs.Determinism.{inferred, det}
use Rattle.mc_model.specs.Lists.{is_in}
use Rattle.mc_model.specs.Scheduled.{Label, for_symbol, for_constant, Node, node, Scheduled, Conj, Disj, Switch, Ite, Not, Exists, Assign, Test, Build, Take, Const, TestConst, Nodes, no_nodes, node_then, nodes, Arms, no_arms, arm_then}
use Rattle.mc_model.specs.Stream.{is_bound}
use Rattle.mc_model.specs.Good.{System}
use Rattle.mc_accepted.specs.Least.{least}
use Rattle.mc_accepted.specs.Ordered.{Insts}
use Rattle.mc_accepted.specs.Determined.{insts_after, allowed_in}

abbrev pub is_equation : Node → Bool
is_equation (node (Assign x y) changes d m) = true
is_equation (node (Test x y) changes d m) = true
is_equation (node (Build x s ys) changes d m) = true
is_equation (node (Take x s ys) changes d m) = true
is_equation (node (Const x v) changes d m) = true
is_equation (node (TestConst x v) changes d m) = true
is_equation n = false

-- integers, characters and strings
abbrev pub is_constant : Val → Bool
is_constant (int n) = true
is_constant (char c) = true
is_constant (str t) = true
is_constant (con f vs) = false
is_constant (state t k) = false

-- a variable that a goal deconstructs, with the symbol or constant
abbrev pub Opening : Type 0
Opening = ℕ × Label

-- what a disjunct deconstructs before its first goal that is no equation; a quantifier around it is
-- looked through
abbrev mutual
  pub openings : Node → List Opening
  openings (node s changes d m) = openings_in s

  pub openings_in : Scheduled → List Opening
  openings_in (Conj ns) = openings_all ns
  openings_in (Exists vs n) = openings n
  openings_in (Take x s ys) = (x, for_symbol s) ∷ []
  openings_in (TestConst x v) = if is_constant v then (x, for_constant v) ∷ [] else []
  openings_in s = []

  pub openings_all : Nodes → List Opening
  openings_all no_nodes = []
  openings_all (node_then n ns) = if is_equation n then openings n ++ openings_all ns else []

-- A disjunct with what it deconstructs.
pub record Disjunct : Type 0 where
  pub opens : List Opening
  pub goal : Node

abbrev pub goals_of : List Disjunct → Nodes
goals_of ds = nodes (map (λ (d : Disjunct). d.goal) ds)

-- the first label with which a variable is deconstructed
abbrev pub label_in : ℕ → List Opening → Option Label
label_in x [] = None
label_in x (o ∷ os) = if nat_eq o.0 x then Some o.1 else label_in x os

abbrev pub same_label : Label → Label → Bool
same_label (for_symbol s) (for_symbol t) = nat_eq s t
same_label (for_constant v) (for_constant w) = same_value v w
same_label _ _ = false

abbrev pub is_label : Label → Option Label → Bool
is_label l None = false
is_label l (Some k) = same_label l k

abbrev pub opens_with : ℕ → Label → Disjunct → Bool
opens_with x l d = is_label l (label_in x d.opens)

abbrev pub is_told : Option Label → Bool
is_told None = false
is_told (Some l) = true

-- the labels of a variable's arms, each once, in the order of the disjuncts
abbrev pub others : Label → List Label → List Label
others l [] = []
others l (k ∷ ks) = if same_label l k then others l ks else k ∷ others l ks

abbrev pub and_label : Option Label → List Label → List Label
and_label None ls = ls
and_label (Some l) ls = l ∷ others l ls

abbrev pub labels_of : ℕ → List Disjunct → List Label
labels_of x [] = []
labels_of x (d ∷ ds) = and_label (label_in x d.opens) (labels_of x ds)

abbrev pub those : (Disjunct → Bool) → List Disjunct → List Disjunct
those f [] = []
those f (d ∷ ds) = if f d then d ∷ those f ds else those f ds

-- a variable that each disjunct deconstructs is among those of the first
abbrev pub opened_variables : List Disjunct → List ℕ
opened_variables [] = []
opened_variables (d ∷ ds) = map (λ (o : Opening). o.0) d.opens

-- how often the disjuncts deconstruct a variable: no more variables than that are taken one behind
-- another
abbrev pub openings_of : List Disjunct → ℕ
openings_of [] = 0
openings_of (d ∷ ds) = length d.opens + openings_of ds

-- the insts that are kept of an arm of several disjuncts
abbrev pub Kept : Type 0
Kept = List Disjunct → List (ℕ × ℕ)

-- one disjunct is an arm as it is; several are looked at again
abbrev pub arm_of : Kept → (List Disjunct → Scheduled) → List Disjunct → Node
arm_of kept again (d ∷ []) = d.goal
arm_of kept again ds = node (again ds) (kept ds) (inferred det) false

abbrev pub arms_on : (List Disjunct → Node) → ℕ → List Disjunct → List Label → Arms
arms_on arm x ds [] = no_arms
arms_on arm x ds (l ∷ ls) = arm_then l (arm (those (opens_with x l) ds)) (arms_on arm x ds ls)

-- disjuncts are a switch where a variable is chosen, which is left out in the arms
abbrev pub on_chosen :
    (List ℕ → List Disjunct → Node) → (out : List ℕ) → List Disjunct → Option ℕ → Scheduled
on_chosen arm out ds None = Disj (goals_of ds)
on_chosen arm out ds (Some x) = Switch x (arms_on (arm (x ∷ out)) x ds (labels_of x ds))

module _ (S : System) (T : ℕ → TypeTerm) where
  -- constants are never covered
  abbrev pub covers : Option (List ℕ) → List Label → Bool
  covers None ls = false
  covers (Some ss) ls = list_all (λ s. list_any (same_label (for_symbol s)) ls) ss

  -- a variable that isn't free before, that each disjunct deconstructs and that isn't left out
  abbrev pub is_opened : (out : List ℕ) → Insts → List Disjunct → ℕ → Bool
  is_opened out b ds x =
      is_bound (b x)
      && (not (is_in x out) && list_all (λ (d : Disjunct). is_told (label_in x d.opens)) ds)

  -- the disjuncts miss no symbol that type and inst allow
  abbrev pub misses_none : Insts → List Disjunct → ℕ → Bool
  misses_none b ds x = covers (allowed_in S T (T x) (b x)) (labels_of x ds)

  -- the least of those that miss no symbol; where there is none, the least of all
  abbrev pub chosen : (out : List ℕ) → Insts → List Disjunct → Option ℕ
  chosen out b ds =
      option_or
      (least (λ x. is_opened out b ds x && misses_none b ds x) (opened_variables ds))
      (least (is_opened out b ds) (opened_variables ds))

  -- disjuncts from these insts, where so many variables may be taken one behind another
  abbrev pub grouped :
      Kept → (variables : ℕ) → Insts → (out : List ℕ) → List Disjunct → Scheduled
  grouped kept zero b out ds = Disj (goals_of ds)
  grouped kept (suc k) b out ds =
      on_chosen (λ out. arm_of kept (grouped kept k b out)) out ds (chosen out b ds)

  -- The switch form of a goal, from the insts before it: all else that is kept of its parts stays.
  -- What is kept of an arm goes by the insts before and after the whole disjunction.
  module _ (kept : (before after : Insts) → Kept) where
    abbrev mutual
      pub formed : Insts → Node → Node
      formed b (node s changes d m) =
          node (formed_in b (insts_after (node s changes d m) b) s) changes d m

      pub formed_in : (before after : Insts) → Scheduled → Scheduled
      formed_in b c (Conj ns) = Conj (formed_all b ns)
      formed_in b c (Disj ns) =
          grouped (kept b c) (openings_of (disjuncts b ns)) b [] (disjuncts b ns)
      formed_in b c (Ite vs n t e) =
          Ite vs (formed b n) (formed (insts_after n b) t) (formed b e)
      formed_in b c (Not n) = Not (formed b n)
      formed_in b c (Exists vs n) = Exists vs (formed b n)
      formed_in b c s = s

      pub formed_all : Insts → Nodes → Nodes
      formed_all b no_nodes = no_nodes
      formed_all b (node_then n ns) =
          node_then (formed b n) (formed_all (insts_after n b) ns)

      pub disjuncts : Insts → Nodes → List Disjunct
      disjuncts b no_nodes = []
      disjuncts b (node_then n ns) =
          record { opens = openings n; goal = formed b n } ∷ disjuncts b ns
