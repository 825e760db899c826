-- Orders of goals whose numbers name what is there. (This project's form of scheduled goals.)
use Rattle.std.specs.Prelude.{◌≡◌, ℕ, ◌<◌, ◌≤◌, List, [], ◌∷◌, Option, Some, None}
use Rattle.mc_program.specs.Programs.{TypeTerm, Source}
use Rattle.mc_model.specs.Flat as F
use Rattle.mc_model.specs.Flat.{Flat_goal, Flat_goals, no_flat, flat_then, variables_of}
use Rattle.mc_model.specs.Lists.{In}
use Rattle.mc_model.specs.Scheduled.{Nodes}
use Rattle.mc_accepted.specs.Ordered.{Mode}
use Rattle.mc_accepted.specs.Arranged.{Declared, Point, runs, trial}
use Rattle.mc_accepted.specs.NodeOracle.{NodeOracle, of_nodes}
use Rattle.mc_procs.specs.Named.{Bounds, NumbersBelow, EachNamed}

-- the nodes that are looked for are among so many
pub record FindsBelow (insts : ℕ) (C : NodeOracle) : Type 0 where
  pub some : 3 < insts
  pub over : (s k : ℕ) (is : List ℕ) → C.over s is ≡ Some k → k < insts
  pub joined : (t : TypeTerm) (k : ℕ) (is : List ℕ) → C.joined t is ≡ Some k → k < insts
  pub narrowed :
      (i s : ℕ) (is : List ℕ) → i < insts → C.narrowed i s ≡ Some is → NumbersBelow insts is

-- the procedures and the final insts of modes are there
abbrev pub FinalsBelow : (insts : ℕ) → List Mode → Type 0
FinalsBelow n [] = Unit {0}
FinalsBelow n (m ∷ ms) = (m.1 < n) × FinalsBelow n ms

abbrev pub DeclaredBelow : Bounds → List Declared → Type 0
DeclaredBelow B [] = Unit {0}
DeclaredBelow B (d ∷ ds) =
    (d.proc < B.procedures) × FinalsBelow B.insts d.modes × DeclaredBelow B ds

-- the constructors of a goal are there
abbrev mutual
  pub SymbolsBelow : (symbols : ℕ) → Flat_goal → Type 0
  SymbolsBelow n (F.Same x y) = Unit {0}
  SymbolsBelow n (F.Made x s ys) = s < n
  SymbolsBelow n (F.Is x v) = Unit {0}
  SymbolsBelow n (F.Call p xs) = Unit {0}
  SymbolsBelow n (F.And gs) = AllSymbolsBelow n gs
  SymbolsBelow n (F.Or gs) = AllSymbolsBelow n gs
  SymbolsBelow n (F.If vs c t e) = SymbolsBelow n c × SymbolsBelow n t × SymbolsBelow n e
  SymbolsBelow n (F.Not g) = SymbolsBelow n g
  SymbolsBelow n (F.Exists vs g) = SymbolsBelow n g

  pub AllSymbolsBelow : (symbols : ℕ) → Flat_goals → Type 0
  AllSymbolsBelow n no_flat = Unit {0}
  AllSymbolsBelow n (flat_then g gs) = SymbolsBelow n g × AllSymbolsBelow n gs

-- the insts at a point are there
abbrev pub PointBelow : (insts : ℕ) → Point ℕ → Type 0
PointBelow n b = (x : ℕ) → b x < n

abbrev pub EndBelow : (insts : ℕ) → Option (Point ℕ) → Type 0
EndBelow n None = Unit {0}
EndBelow n (Some c) = PointBelow n c

-- What an order of a goal names is there, where what it is arranged from is there; and so are the
-- insts after it. A builtin predicate has no procedures.
abbrev pub OrdersAreNamed : Type 0
OrdersAreNamed =
    (B : Bounds) (C : NodeOracle) (P : Source) (declared : ℕ → List Declared) (T : ℕ → TypeTerm)
    → FindsBelow B.insts C
    → ((p : ℕ) → (P.preds p).builtin ≡ None → DeclaredBelow B (declared p))
    → (g : Flat_goal) (O : List ℕ) (n : ℕ) (b : Point ℕ) (gs : Nodes) (o : Option (Point ℕ)) (m : ℕ)
    (zs : List ℕ) → SymbolsBelow B.symbols g → ((x : ℕ) → In x (variables_of g) → x < n)
    → PointBelow B.insts b → trial (of_nodes C) P declared T g O n b ≡ runs gs o m zs
    → m ≤ B.variables → (n ≤ m) × EachNamed B gs × EndBelow B.insts o
