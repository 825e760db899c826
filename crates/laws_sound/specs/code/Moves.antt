-- What io writes, and the state that tells it. One variable holds the state that stands for all
-- that was written so far; it is passed on, and no other variable is unique. (Mercury Language
-- Reference Manual: the library's io; Modes, unique modes; this project's profile of io.)
use Rattle.std.specs.Prelude.{◌≡◌, ◌≢◌, ◌⊎◌, ℕ, zero, suc, ◌<◌, List, [], ◌∷◌, ◌++◌, length, get_or, Option, Some, None, Bool, true, false}
use Rattle.mc_program.specs.Values.{Val, int, char, str, con, state, Vals, no_vals, val_then}
use Rattle.mc_program.specs.Programs.{TypeTerm, state_type, Source}
use Rattle.mc_model.specs.Insts.{dead, Graph, AllowsSymbol}
use Rattle.mc_model.specs.Lists.{In, Among}
use Rattle.mc_model.specs.EventList.{Items, End, Stuck, Stopped, Answer, Called, Wrote, Read}
use Rattle.mc_model.specs.Stream.{Bindings, Calls, stream}
use Rattle.mc_model.specs.Scheduled.{Procedure, Node}
use Rattle.mc_model.specs.Flat.{Flat_goal, variables_of}
use Rattle.mc_accepted.specs.Ordered.{Insts, Mode, OrderedNode, modes_of_procedure}
use Rattle.mc_accepted.specs.Determined.{Known, IoPlaced, is_io}
use Rattle.mc_accepted.specs.Inclusion.{Path, AllowsMark, shared}
use Rattle.mc_accepted.specs.Typing.{TypedGoal}
use Rattle.mc_model.specs.Good.{System, TypeChoice, Given, types_of}
use Rattle.laws_sound.specs.code.Passes.{Closed, TypedAt, Knows}

-- the list neither answers nor ends
abbrev pub Never : {A : Type 0} → Items A → Type 0
Never End = ⊥
Never Stuck = Unit {0}
Never (Stopped h) = Unit {0}
Never (Answer a xs) = ⊥
Never (Called c xs) = Never xs
Never (Wrote t xs) = Never xs
Never (Read k xs) = Never xs

-- P holds of each answer, and what writes or reads neither answers nor ends from there on
abbrev pub Calm : {A : Type 0} → (A → Type 0) → Items A → Type 0
Calm P End = Unit {0}
Calm P Stuck = Unit {0}
Calm P (Stopped h) = Unit {0}
Calm P (Answer a xs) = P a × Calm P xs
Calm P (Called c xs) = Calm P xs
Calm P (Wrote t xs) = Never xs
Calm P (Read k xs) = Never xs

-- what was written so far, where some variable holds a state that tells it
abbrev pub World : Type 0
World = Option (List ℕ)

abbrev pub and_text : World → List ℕ → World
and_text None t = None
and_text (Some w) t = Some (w ++ t)

abbrev pub Behind : {A : Type 0} → (one : Bool) → (A → Type 0) → Items A → Type 0
Behind true P xs = Unit {0}
Behind false P xs = Calm P xs

abbrev pub IfTold : World → Type 0 → Type 0 → Type 0
IfTold None X Y = X
IfTold (Some w) X Y = Y

-- The first answer is as the world says with what is written before it. Where all answers count,
-- what follows is calm. Where no state tells the world, the whole is calm.
abbrev pub Flow : {A : Type 0} → (World → A → Type 0) → (one : Bool) → World → Items A → Type 0
Flow Q one W End = Unit {0}
Flow Q one W Stuck = Unit {0}
Flow Q one W (Stopped h) = Unit {0}
Flow Q one W (Answer a xs) = Q W a × Behind one (Q W) xs
Flow Q one W (Called c xs) = Flow Q one W xs
Flow Q one None (Wrote t xs) = Never xs
Flow Q one (Some w) (Wrote t xs) = Flow Q one (Some (w ++ t)) xs
Flow Q one None (Read k xs) = Never xs
Flow Q one (Some w) (Read k xs) = Flow Q one (Some w) xs

-- a goal that holds no io goal is calm, any other flows
abbrev pub Moves : {A : Type 0} → (World → A → Type 0) → (io one : Bool) → World → Items A → Type 0
Moves Q false one W xs = Calm (Q W) xs
Moves Q true one W xs = Flow Q one W xs

-- the value is a state of those bytes
abbrev pub Tells : World → Option Val → Type 0
Tells W o = (w : List ℕ) × (taken : ℕ) × (W ≡ Some w) × (o ≡ Some (state w taken))

-- a state is at the path in the value
abbrev mutual
  pub StateAt : Val → Path → Type 0
  StateAt (int n) path = ⊥
  StateAt (char c) path = ⊥
  StateAt (str bytes) path = ⊥
  StateAt (state w k) [] = Unit {0}
  StateAt (state w k) (step ∷ path) = ⊥
  StateAt (con s vs) [] = ⊥
  StateAt (con s vs) (step ∷ path) = (s ≡ step.0) × ArgumentAt vs step.1 path

  pub ArgumentAt : Vals → ℕ → Path → Type 0
  ArgumentAt no_vals k path = ⊥
  ArgumentAt (val_then v vs) zero path = StateAt v path
  ArgumentAt (val_then v vs) (suc k) path = ArgumentAt vs k path

-- the inst allows a shared state at the path
abbrev pub AllowsShared : Source → Graph → Path → ℕ → Type 0
AllowsShared P G [] i = AllowsMark (G i) shared
AllowsShared P G (step ∷ path) i =
    AllowsSymbol P (G i) i step.0
    (λ is. (step.1 < length is) × AllowsShared P G path (get_or is step.1 0))

-- each state that the value holds may be shared, but one that it is itself, where it is of the
-- state's type
abbrev pub Shares : Source → Graph → Val → ℕ → TypeTerm → Type 0
Shares P G v i t =
    (path : Path)
    → StateAt v path → ((path ≡ []) × (t ≡ state_type)) ⊎ AllowsShared P G path i

module _ (S : System) (T : ℕ → TypeTerm) where
  abbrev pub SharesAt : List ℕ → Insts → Bindings → Type 0
  SharesAt M b e =
      (x : ℕ)
      → In x M → S.insts (b x) ≢ dead → (v : Val)
      → e x ≡ Some v → Shares S.world.source S.insts v (b x) (T x)

  -- a variable holds the state that may be used
  abbrev pub Live : Insts → ℕ → Type 0
  Live b x = (T x ≡ state_type) × (b x ≡ 2)

  -- of these variables at most one is live, and its state tells the world; no other state that a
  -- value holds may be one that is not shared
  pub record Holds (W : World) (M : List ℕ) (b : Insts) (e : Bindings) : Type 0 where
    pub tells : (x : ℕ) → In x M → Live b x → Tells W (e x)
    pub alone : (x y : ℕ) → In x M → In y M → Live b x → Live b y → x ≡ y
    pub shares : SharesAt M b e

  abbrev pub HoldsAfter : List ℕ → Option Insts → World → Bindings → Type 0
  HoldsAfter L None W a = ⊥
  HoldsAfter L (Some c) W a = Holds W L c a

-- Modes are tidy: `unique` stands at io's state alone.
abbrev pub TidyModes : System → List Mode → List TypeTerm → Type 0
TidyModes S [] [] = Unit {0}
TidyModes S (m ∷ ms) (t ∷ ts) =
    (m.0 ≡ 2 → t ≡ state_type) × (m.1 ≡ 2 → t ≡ state_type) × TidyModes S ms ts
TidyModes S _ _ = ⊥

abbrev pub TidyProcedures : System → Type 0
TidyProcedures S =
    (k : ℕ) → k < S.count → TidyModes S (modes_of_procedure (S.procs k)) (types_of S (S.procs k))

-- at a call: the arguments that are unique, at most one, tell the world
abbrev pub Handed : List Mode → List (Option Val) → (Option Val → Type 0) → Type 0
Handed [] [] Q = Unit {0}
Handed (m ∷ ms) (v ∷ vs) Q = (m.0 ≡ 2 → Q v) × Handed ms vs Q
Handed _ _ Q = ⊥

-- no place, or at most one place, where P holds of the mode
abbrev pub NoPlace : (Mode → Type 0) → List Mode → Type 0
NoPlace P [] = Unit {0}
NoPlace P (m ∷ ms) = (P m → ⊥) × NoPlace P ms

abbrev pub OnePlace : (Mode → Type 0) → List Mode → Type 0
OnePlace P [] = Unit {0}
OnePlace P (m ∷ ms) = (P m → NoPlace P ms) × OnePlace P ms

-- an argument that is unique at the call; one that is unique at an answer alone
abbrev pub Taken : Mode → Type 0
Taken m = m.0 ≡ 2

abbrev pub Made : Mode → Type 0
Made m = m.1 ≡ 2

-- a variable stands where an argument that is unique dies: the call takes its state
abbrev pub TakenAt : System → ℕ → List Mode → List ℕ → Type 0
TakenAt S z (m ∷ ms) (x ∷ xs) =
    ((m.0 ≡ 2) × (S.insts m.1 ≡ dead) × (z ≡ x)) ⊎ TakenAt S z ms xs
TakenAt S z _ _ = ⊥

-- the arguments that are unique at an answer tell the world
abbrev pub Returned : List Mode → List (Option Val) → (Option Val → Type 0) → Type 0
Returned [] [] Q = Unit {0}
Returned (m ∷ ms) (v ∷ vs) Q = (m.1 ≡ 2 → Q v) × Returned ms vs Q
Returned _ _ Q = ⊥

-- the values of these insts and types hold no state that may not be shared
abbrev pub EachShares : System → List ℕ → List TypeTerm → List (Option Val) → Type 0
EachShares S [] ts os = Unit {0}
EachShares S (i ∷ is) [] os = Unit {0}
EachShares S (i ∷ is) (t ∷ ts) [] = Unit {0}
EachShares S (i ∷ is) (t ∷ ts) (o ∷ os) =
    (i ≢ 0 → S.insts i ≢ dead → (v : Val) → o ≡ Some v → Shares S.world.source S.insts v i t)
    × EachShares S is ts os

abbrev pub ReturnedWith : List Mode → World → List (Option Val) → Type 0
ReturnedWith ms W os = OnePlace Made ms × Returned ms os (Tells W)

abbrev pub ReturnedBy : System → Procedure → World → List (Option Val) → Type 0
ReturnedBy S p W os =
    ReturnedWith (modes_of_procedure p) W os × EachShares S p.last (types_of S p) os

-- what calls do to the world
abbrev pub CallsMove : System → Calls → Type 0
CallsMove S C =
    (θ : TypeChoice) (h k : ℕ) (vs : List (Option Val)) → k < S.count →
    Given S θ (S.procs k).first (types_of S (S.procs k)) vs →
    EachShares S (S.procs k).first (types_of S (S.procs k)) vs →
    (W : World) → OnePlace Taken (modes_of_procedure (S.procs k)) →
    Handed (modes_of_procedure (S.procs k)) vs (Tells W) →
    Flow (ReturnedBy S (S.procs k)) false W (C h k vs)

-- A call that takes no state: what is unique at the call isn't dead at an answer, it is lent.
abbrev pub Lends : System → List Mode → Type 0
Lends S [] = Unit {0}
Lends S (m ∷ ms) = (m.0 ≡ 2 → S.insts m.1 ≢ dead) × Lends S ms

-- no argument is unique at an answer that wasn't at the call
abbrev pub MakesNone : List Mode → Type 0
MakesNone [] = Unit {0}
MakesNone (m ∷ ms) = (m.1 ≡ 2 → m.0 ≡ 2) × MakesNone ms

abbrev pub LentBy : System → Procedure → List (Option Val) → Type 0
LentBy S p os = MakesNone (modes_of_procedure p) × EachShares S p.last (types_of S p) os

-- calls that take no state are calm, and make none
abbrev pub CallsLend : System → Calls → Type 0
CallsLend S C =
    (θ : TypeChoice) (h k : ℕ) (vs : List (Option Val)) → k < S.count →
    Given S θ (S.procs k).first (types_of S (S.procs k)) vs →
    EachShares S (S.procs k).first (types_of S (S.procs k)) vs →
    Lends S (modes_of_procedure (S.procs k)) → Calm (LentBy S (S.procs k)) (C h k vs)

-- the variables whose states are lent to a goal
abbrev pub Lent : Type 0
Lent = ℕ → Bool

abbrev pub all_lent : Lent
all_lent x = true

module _ (S : System) (T : ℕ → TypeTerm) where
  -- of these variables only lent ones are live
  abbrev pub LiveWithin : Lent → List ℕ → Insts → Type 0
  LiveWithin N M b = (x : ℕ) → In x M → Live S T b x → N x ≡ true

  -- so it is after a goal; no other state that a value holds may be one that is not shared
  abbrev pub LentAfter : Lent → List ℕ → Option Insts → Bindings → Type 0
  LentAfter N L None a = ⊥
  LentAfter N L (Some c) a = LiveWithin N L c × SharesAt S T L c a

  -- each is a variable of these, and not dead
  abbrev pub Alive : Lent → List ℕ → Insts → Type 0
  Alive N O c = (x : ℕ) → N x ≡ true → In x O × (S.insts (c x) ≢ dead)

  abbrev pub Survives : Lent → List ℕ → Option Insts → Type 0
  Survives N O None = Unit {0}
  Survives N O (Some c) = Alive N O c

  abbrev pub AliveAfter : Lent → List ℕ → Option Insts → Type 0
  AliveAfter N O None = ⊥
  AliveAfter N O (Some c) = Alive N O c

-- The pass of what is lent at a goal. One is calm that holds no io goal, whatever is live at it; or
-- whose end is unreachable, since an io goal cannot fail; or at whose end no lent variable is dead,
-- since io would have taken one.
abbrev pub GoalLends : System → (T : ℕ → TypeTerm) → Calls → Type 0
GoalLends S T C =
    (O Q : List ℕ) (b : Insts) (g : Flat_goal) (n : Node) (o : Option Insts)
    → OrderedNode S T O Q b g n o → TypedGoal S.world.source T g → (θ : TypeChoice) (known : Known)
    (h : ℕ) (one : Bool) → IoPlaced S T b known one n → (L : List ℕ) → Among L O → (e : Bindings)
    → Closed O Q b e → TypedAt S θ T (variables_of g) b e → TypedAt S θ T L b e → Knows known e
    → (N : Lent) → LiveWithin S T N (L ++ variables_of g) b
    → SharesAt S T (L ++ variables_of g) b e
    → ((is_io S T n ≡ false) × ((x : ℕ) → N x ≡ true)) ⊎ Survives S T N O o
    → Calm (LentAfter S T N L o) (stream S.world.outcome C h n e)

-- The third pass at a goal.
abbrev pub GoalMoves : System → (T : ℕ → TypeTerm) → Calls → Type 0
GoalMoves S T C =
    (O Q : List ℕ) (b : Insts) (g : Flat_goal) (n : Node) (o : Option Insts)
    → OrderedNode S T O Q b g n o → TypedGoal S.world.source T g → (θ : TypeChoice) (known : Known)
    (h : ℕ) (one : Bool) → IoPlaced S T b known one n → (L : List ℕ) → Among L O → (e : Bindings)
    → Closed O Q b e → TypedAt S θ T (variables_of g) b e → TypedAt S θ T L b e → Knows known e
    → (W : World) → Holds S T W (L ++ variables_of g) b e → Moves (HoldsAfter S T L o) (is_io S T n)
    one W (stream S.world.outcome C h n e)
