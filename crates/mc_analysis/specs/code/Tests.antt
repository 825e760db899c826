-- What is tested of declared modes and of goals, part by part.
use Rattle.std.specs.Prelude.{◌≡◌, ◌<◌, ◌+◌, ℕ, List, [], ◌∷◌, length, None}
use Rattle.mc_program.specs.PlainPrograms.{plain_program}
use Rattle.mc_program.specs.declared.program.Program.{Program}
use Rattle.mc_model.specs.Flat as F
use Rattle.mc_model.specs.Flat.{Flat_goal, Flat_goals, no_flat, flat_then}
use Rattle.mc_model.specs.PlainGoals.{plain_flat}
use Rattle.mc_model.specs.declared.flat.Normal.{Normal}
use Rattle.mc_model.specs.declared.inst.ModeDecl.{ModeDecl}
use Rattle.mc_model.specs.declared.inst.Sig.{Sig}
use Rattle.mc_self_check.specs.TypedGoals.{IsTyped}
use Rattle.mc_procs.specs.Named.{NumbersBelow}
use Rattle.mc_procs.specs.Procedures.{PlainProcs, source_of}
use Rattle.mc_mode_state.specs.Modes.{ModesFit}
use Rattle.mc_modes.specs.Schedules.{NormalFits}
use Rattle.mc_modes.specs.Signatures.{modes_at, mode_in}
use Rattle.mc_modes.specs.NormalGoals.{goal_at}
use Rattle.mc_modes.specs.declared.modes.ModeId.{ModeId}

-- the insts of all modes of all predicates are there
abbrev pub EachModesFit : (insts : ℕ) → List Sig → Type 0
EachModesFit n [] = Unit {0}
EachModesFit n (s ∷ ss) = ModesFit n s.modes × EachModesFit n ss

abbrev pub ModeParts : (insts : ℕ) → ModeDecl → Type 0
ModeParts n m = (length m.first ≡ length m.last) × NumbersBelow n m.first × NumbersBelow n m.last

abbrev pub number_in : List Sig → ModeId → ℕ
number_in sigs m = (mode_in sigs m.pred m.mode).proc

-- modes tell numbers one behind another
abbrev pub FollowOn : List Sig → (number : ℕ) → List ModeId → Type 0
FollowOn sigs n [] = Unit {0}
FollowOn sigs n (m ∷ ms) = (number_in sigs m ≡ n) × FollowOn sigs (n + 1) ms

-- the goal fits each of these modes
abbrev pub FitsEach : PlainProcs → Normal → List ModeDecl → Type 0
FitsEach q g [] = Unit {0}
FitsEach q g (m ∷ ms) = NormalFits q m g × FitsEach q g ms

-- a predicate's goal fits each of its modes, where it is no builtin
abbrev pub PredFits : PlainProcs → List Sig → List Normal → ℕ → Type 0
PredFits q sigs goals p =
    ((source_of q).preds p).builtin ≡ None
    → (k : ℕ) → k < length (modes_at sigs p) → NormalFits q (mode_in sigs p k) (goal_at goals p)

-- the goal of one that is no builtin is typed
abbrev pub PredIsTyped : Program → List Normal → ℕ → Type 0
PredIsTyped P goals p =
    ((plain_program P).preds p).builtin ≡ None → IsTyped (plain_program P) p (goal_at goals p)

-- a constructor is there, and has that many arguments
abbrev pub MakesKnown : Program → (symbol : ℕ) → (args : List ℕ) → Type 0
MakesKnown P s ys =
    (s < length P.symbols) × (length ys ≡ ((plain_program P).symbols s).name.arity)

-- its variables are below a number, and its constructors and predicates are there
abbrev mutual
  pub FitsFlat : (top : ℕ) → Program → Flat_goal → Type 0
  FitsFlat n P (F.Same x y) = (x < n) × (y < n)
  FitsFlat n P (F.Made x s ys) = (x < n) × NumbersBelow n ys × MakesKnown P s ys
  FitsFlat n P (F.Is x v) = x < n
  FitsFlat n P (F.Call p xs) = (p < length P.preds) × NumbersBelow n xs
  FitsFlat n P (F.And gs) = AllFitFlat n P gs
  FitsFlat n P (F.Or gs) = AllFitFlat n P gs
  FitsFlat n P (F.If vs c t e) =
      NumbersBelow n vs × FitsFlat n P c × FitsFlat n P t × FitsFlat n P e
  FitsFlat n P (F.Not g) = FitsFlat n P g
  FitsFlat n P (F.Exists vs g) = NumbersBelow n vs × FitsFlat n P g

  pub AllFitFlat : (top : ℕ) → Program → Flat_goals → Type 0
  AllFitFlat n P no_flat = Unit {0}
  AllFitFlat n P (flat_then g gs) = FitsFlat n P g × AllFitFlat n P gs

abbrev pub NormalParts : PlainProcs → ModeDecl → Normal → Type 0
NormalParts q m g =
    NumbersBelow (length g.var_types) g.head
    × (length m.first ≡ length g.head)
    × FitsFlat (length g.var_types) q.program (plain_flat g.body)
