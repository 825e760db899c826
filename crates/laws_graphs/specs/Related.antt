-- Insts of two kinds, such as the nodes of two graphs, that mean one thing at types: what is asked
-- of them, so that goals have one order over both. (Mercury Language Reference Manual: Modes,
-- insts.)
use Rattle.std.specs.Prelude.{◌≡◌, ℕ, ◌<◌, List, [], ◌∷◌, map, Option, Some, None, Bool}
use Rattle.mc_program.specs.Values.{Val}
use Rattle.mc_program.specs.Programs.{TypeTerm, state_type, Source}
use Rattle.mc_program.specs.declared.builtin.Builtin.{Builtin}
use Rattle.mc_model.specs.Lists.{In}
use Rattle.mc_model.specs.Stream.{is_bound}
use Rattle.mc_model.specs.Types.{instance_of}
use Rattle.mc_accepted.specs.Ordered.{Mode, modes_of}
use Rattle.mc_accepted.specs.Typing.{constructor_types, ConstantOf}
use Rattle.mc_accepted.specs.Unmarked.{unmarked_node}
use Rattle.mc_accepted.specs.Arranged.{Operations, Declared, Verdict, in_order, faulty, unmet}

-- the variables are below a number
abbrev pub Below : (first : ℕ) → List ℕ → Type 0
Below first xs = (x : ℕ) → In x xs → x < first

-- Two verdicts are one, but for the changes of goals and their marks.
abbrev pub OneVerdict : Verdict → Verdict → Type 0
OneVerdict (in_order g) (in_order h) = unmarked_node g ≡ unmarked_node h
OneVerdict (faulty f) (faulty e) = f ≡ e
OneVerdict (unmet k) (unmet l) = k ≡ l
OneVerdict _ _ = ⊥

-- two modes of an argument are both bound or both free, before a call and after it
abbrev pub BoundAlike : Mode → Mode → Type 0
BoundAlike m n = (is_bound m.0 ≡ is_bound n.0) × (is_bound m.1 ≡ is_bound n.1)

module _ {I J : Type 0} (Op : Operations I) (Other : Operations J)
    (R : TypeTerm → I → J → Type 0) where
  -- place by place
  abbrev pub EachRelated : List TypeTerm → List I → List J → Type 0
  EachRelated [] [] [] = Unit {0}
  EachRelated (t ∷ ts) (i ∷ is) (j ∷ js) = R t i j × EachRelated ts is js
  EachRelated _ _ _ = ⊥

  -- all at one type
  abbrev pub AllRelated : TypeTerm → List I → List J → Type 0
  AllRelated t [] [] = Unit {0}
  AllRelated t (i ∷ is) (j ∷ js) = R t i j × AllRelated t is js
  AllRelated t _ _ = ⊥

  -- where both are found
  abbrev pub FoundRelated : TypeTerm → Option I → Option J → Type 0
  FoundRelated t (Some i) (Some j) = R t i j
  FoundRelated t _ _ = Unit {0}

  -- both allow a symbol, or neither
  abbrev pub NarrowedRelated : List TypeTerm → Option (List I) → Option (List J) → Type 0
  NarrowedRelated ts None None = Unit {0}
  NarrowedRelated ts (Some is) (Some js) = EachRelated ts is js
  NarrowedRelated ts _ _ = ⊥

  abbrev pub AreBound : (t : Bool) → List I → Type 0
  AreBound t [] = Unit {0}
  AreBound t (i ∷ is) = (Op.is_bound i ≡ t) × AreBound t is

  -- Related insts are told apart by nothing that the order asks of them, and what comes of related
  -- insts is related. Insts that aren't there are of no account.
  pub record Related (P : Source) : Type 0 where
    pub bound : (t : TypeTerm) (i : I) (j : J) → R t i j → Op.is_bound i ≡ Other.is_bound j
    pub dead : (t : TypeTerm) (i : I) (j : J) → R t i j → Op.is_dead i ≡ Other.is_dead j
    pub free : (t : TypeTerm) → R t (Op.node 0) (Other.node 0)
    pub ground_there : (t : TypeTerm) → R t (Op.node 1) (Other.node 1)
    pub gone : R state_type (Op.node 3) (Other.node 3)
    pub over :
        (t : TypeTerm) (ts : List TypeTerm) (s : ℕ) (is : List I) (js : List J)
        → constructor_types P s t ≡ Some ts → EachRelated ts is js
        → FoundRelated t (Op.over s is) (Other.over s js)
    pub joined :
        (t : TypeTerm) (b : Bool) (i : I) (is : List I) (j : J) (js : List J)
        → AreBound b (i ∷ is) → AllRelated t (i ∷ is) (j ∷ js)
        → FoundRelated t (Op.joined t (i ∷ is)) (Other.joined t (j ∷ js))
    pub narrowed :
        (t : TypeTerm) (ts : List TypeTerm) (s : ℕ) (i : I) (j : J)
        → constructor_types P s t ≡ Some ts → R t i j
        → NarrowedRelated ts (Op.narrowed i s) (Other.narrowed j s)
    pub constants :
        (t : TypeTerm) (v : Val) (i : I) (j : J)
        → ConstantOf v t → R t i j → Op.takes_constants i ≡ Other.takes_constants j
    pub fits :
        (t : TypeTerm) (i : I) (j : J) (k l : ℕ)
        → R t i j → R t (Op.node k) (Other.node l) → Op.fits i k t ≡ Other.fits j l t

  -- insts of modes, at the types of the arguments
  abbrev pub NodesRelated : (here there : List ℕ) → List TypeTerm → Type 0
  NodesRelated [] [] ts = Unit {0}
  NodesRelated (k ∷ ks) (l ∷ ls) [] = Unit {0}
  NodesRelated (k ∷ ks) (l ∷ ls) (t ∷ ts) = R t (Op.node k) (Other.node l) × NodesRelated ks ls ts
  NodesRelated _ _ _ = ⊥

  abbrev pub ModesRelated : (here there : List Mode) → List TypeTerm → Type 0
  ModesRelated [] [] ts = Unit {0}
  ModesRelated (m ∷ ms) (n ∷ ns) [] = Unit {0}
  ModesRelated (m ∷ ms) (n ∷ ns) (t ∷ ts) =
      BoundAlike m n
      × R t (Op.node m.0) (Other.node n.0)
      × R t (Op.node m.1) (Other.node n.1)
      × ModesRelated ms ns ts
  ModesRelated _ _ _ = ⊥

  -- two modes are of one procedure, which answers or doesn't, and their insts mean one thing
  abbrev pub DeclaredAlike : Declared → Declared → List TypeTerm → Type 0
  DeclaredAlike d e ts = (d.proc ≡ e.proc) × (d.never ≡ e.never) × ModesRelated d.modes e.modes ts

  abbrev pub EachModeRelated : (here there : List Declared) → List TypeTerm → Type 0
  EachModeRelated [] [] ts = Unit {0}
  EachModeRelated (d ∷ ds) (e ∷ es) ts = DeclaredAlike d e ts × EachModeRelated ds es ts
  EachModeRelated _ _ _ = ⊥

  -- the insts of modes of the predicates that count mean one thing at each instance of their types
  pub record DeclaredRelated (P : Source) (Counts : ℕ → Type 0) (declared other : ℕ → List Declared)
      : Type 0 where
    pub modes :
        (p : ℕ) (σ : ℕ → TypeTerm)
        → Counts p → (P.preds p).builtin ≡ None
        → EachModeRelated (declared p) (other p) (map (instance_of σ) (P.preds p).types)
    pub builtins :
        (p : ℕ) (op : Builtin) (σ : ℕ → TypeTerm)
        → (P.preds p).builtin ≡ Some op
        → ModesRelated (modes_of op) (modes_of op) (map (instance_of σ) (P.preds p).types)
