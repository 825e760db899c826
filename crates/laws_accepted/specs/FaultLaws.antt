-- The laws of the rules of determinism: what the computed faults tell of the relations that
-- accepted procedures meet, and that the least determinisms are one assignment. (Mercury Language
-- Reference Manual: Determinism; this project's profile of io.)
use Rattle.std.specs.Prelude.{◌≡◌, ◌↔◌, ℕ, ◌<◌, List, [], ◌∷◌, length, Bool, true, false, None}
use Rattle.mc_source.specs.declared.rule.Broken.{Broken}
use Rattle.mc_program.specs.Programs.{TypeTerm}
use Rattle.mc_source.specs.Determinism.{Determinism, Allows, row_of}
use Rattle.mc_source.specs.declared.det.Det.{Det}
use Rattle.mc_model.specs.Good.{System}
use Rattle.mc_model.specs.Scheduled.{Node, Procedure}
use Rattle.mc_accepted.specs.Ordered.{Insts}
use Rattle.mc_accepted.specs.Determined.{Known, nothing_known, Placed, IoPlaced}
use Rattle.mc_accepted.specs.Fits.{type_of}
use Rattle.mc_accepted.specs.Accepted.{entered}
use Rattle.mc_accepted.specs.Inferred.{join, DeclaredSystem, system_of, body_determinism, Closed, LeastClosed}
use Rattle.mc_accepted.specs.DeterminismFaults.{allows, first_misplaced, misplaces_io, procedure_fault, determinism_faults}
use Rattle.mc_source.specs.Rules.{stands_before, by_place}

-- the test of allowing tells it
abbrev pub AllowsTells : Type 0
AllowsTells = (d i : Determinism) → (allows d i ≡ true) ↔ Allows d i

-- there is no misplaced call exactly where all committed calls stand where they may
abbrev pub MisplacedTells : Type 0
MisplacedTells =
    (S : System) (T : ℕ → TypeTerm) (b : Insts) (known : Known) (first : Bool) (n : Node)
    → (first_misplaced S T b known first n ≡ None) ↔ Placed S T b known first n

-- no io goal is misplaced exactly where all stand where they may
abbrev pub MisplacesIoTells : Type 0
MisplacesIoTells =
    (S : System) (T : ℕ → TypeTerm) (b : Insts) (known : Known) (first : Bool) (n : Node)
    → (misplaces_io S T b known first n ≡ false) ↔ IoPlaced S T b known first n

-- `join` allows both, and what allows both allows it
abbrev pub JoinIsLeast : Type 0
JoinIsLeast =
    (a b : Determinism)
    → Allows (join a b) a
    × Allows (join a b) b
    × ((c : Determinism) → Allows c a → Allows c b → Allows c (join a b))

-- there is one least assignment, and so one list of faults
abbrev pub LeastIsOne : Type 0
LeastIsOne =
    (D : DeclaredSystem) (ds es : ℕ → Det) → LeastClosed D ds → LeastClosed D es → ds ≡ es

abbrev pub FaultsAreOne : Type 0
FaultsAreOne =
    (runs : Bool) (D : DeclaredSystem) (ds es : ℕ → Det)
    → LeastClosed D ds → LeastClosed D es →
    determinism_faults runs D ds ≡ determinism_faults runs D es

-- no rule stands before the one that is listed before it
abbrev pub FirstNotBefore : Broken → List Broken → Type 0
FirstNotBefore b [] = Unit {0}
FirstNotBefore b (c ∷ cs) = stands_before c.at b.at ≡ false

abbrev pub InPlaces : List Broken → Type 0
InPlaces [] = Unit {0}
InPlaces (b ∷ bs) = FirstNotBefore b bs × InPlaces bs

-- broken rules by their places are in the order of their places, and are as many
abbrev pub ByPlaceIsInPlaces : Type 0
ByPlaceIsInPlaces =
    (bs : List Broken) → InPlaces (by_place bs) × (length (by_place bs) ≡ length bs)

-- What is asked of a procedure's determinism where it is accepted: it allows the body's, and
-- committed calls and io goals stand where they may.
pub record MeetsDeterminism (S : System) (p : Procedure) : Type 0 where
  pub allowed : Allows (row_of p.det) (body_determinism S p)
  pub placed :
      Placed S (type_of S p) (entered p.head p.first) nothing_known p.det.committed p.body
  pub io :
      IoPlaced S (type_of S p) (entered p.head p.first) nothing_known p.det.committed p.body

-- a procedure without a fault, where determinisms are closed, meets that
abbrev pub FaultlessMeets : Type 0
FaultlessMeets =
    (D : DeclaredSystem) (ds : ℕ → Det) (k : ℕ)
    → Closed D ds → k < D.count →
    procedure_fault (system_of D ds) (D.procs k) ((system_of D ds).procs k) ≡ None →
    MeetsDeterminism (system_of D ds) ((system_of D ds).procs k)

-- where no rule of determinism is broken, no procedure has a fault
abbrev pub NoFaultAnywhere : Type 0
NoFaultAnywhere =
    (runs : Bool) (D : DeclaredSystem) (ds : ℕ → Det) → determinism_faults runs D ds ≡ []
    → (k : ℕ) → k < D.count
    → procedure_fault (system_of D ds) (D.procs k) ((system_of D ds).procs k) ≡ None
