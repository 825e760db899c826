-- Goals whose numbers name what is there. (This project's form of scheduled goals.)
use Rattle.std.specs.Prelude.{ℕ, ◌<◌, List, [], ◌∷◌, length}
use Rattle.mc_model.specs.Scheduled.{Label, for_symbol, for_constant, Node, node, Scheduled, Conj, Disj, Switch, Ite, Not, Exists, Assign, Test, Build, Take, Const, TestConst, Call, Apply, Nodes, no_nodes, node_then, Arms, no_arms, arm_then}

-- how many variables, symbols, procedures and insts there are
pub record Bounds : Type 0 where
  pub variables : ℕ
  pub symbols : ℕ
  pub procedures : ℕ
  pub insts : ℕ

abbrev pub NumbersBelow : (top : ℕ) → List ℕ → Type 0
NumbersBelow top [] = Unit {0}
NumbersBelow top (x ∷ xs) = (x < top) × NumbersBelow top xs

-- the variables and their insts are there
abbrev pub ChangesNamed : Bounds → List (ℕ × ℕ) → Type 0
ChangesNamed B [] = Unit {0}
ChangesNamed B ((x, i) ∷ changes) = (x < B.variables) × (i < B.insts) × ChangesNamed B changes

abbrev pub LabelNamed : Bounds → Label → Type 0
LabelNamed B (for_symbol s) = s < B.symbols
LabelNamed B (for_constant v) = Unit {0}

-- The variables, symbols, procedures and insts of a goal are there; the implied arguments of a call
-- are among its arguments.
abbrev mutual
  pub Named : Bounds → Node → Type 0
  Named B (node s changes d m) = ChangesNamed B changes × NamedIn B s

  pub NamedIn : Bounds → Scheduled → Type 0
  NamedIn B (Conj ns) = EachNamed B ns
  NamedIn B (Disj ns) = EachNamed B ns
  NamedIn B (Switch v arms) = (v < B.variables) × EachArmNamed B arms
  NamedIn B (Ite vs c t e) = NumbersBelow B.variables vs × Named B c × Named B t × Named B e
  NamedIn B (Not n) = Named B n
  NamedIn B (Exists vs n) = NumbersBelow B.variables vs × Named B n
  NamedIn B (Assign v w) = (v < B.variables) × (w < B.variables)
  NamedIn B (Test v w) = (v < B.variables) × (w < B.variables)
  NamedIn B (Build v s xs) = (v < B.variables) × (s < B.symbols) × NumbersBelow B.variables xs
  NamedIn B (Take v s xs) = (v < B.variables) × (s < B.symbols) × NumbersBelow B.variables xs
  NamedIn B (Const v c) = v < B.variables
  NamedIn B (TestConst v c) = v < B.variables
  NamedIn B (Call k xs implied last) =
      (k < B.procedures) × NumbersBelow B.variables xs × NumbersBelow (length xs) implied
  NamedIn B (Apply op xs ys) = NumbersBelow B.variables xs × NumbersBelow B.variables ys

  pub EachNamed : Bounds → Nodes → Type 0
  EachNamed B no_nodes = Unit {0}
  EachNamed B (node_then n ns) = Named B n × EachNamed B ns

  pub EachArmNamed : Bounds → Arms → Type 0
  EachArmNamed B no_arms = Unit {0}
  EachArmNamed B (arm_then l n arms) = LabelNamed B l × Named B n × EachArmNamed B arms
