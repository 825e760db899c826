-- What is proved of each goal, in two passes. The first: no run is stuck, bindings are as the insts
-- say, answers obey determinism, calls have their inputs. The second: answers are true, and none is
-- missing.
use Rattle.std.specs.Prelude.{◌≡◌, ◌⊎◌, ℕ, ◌<◌, List, Option, Some, None, Bool, true, false}
use Rattle.mc_program.specs.Values.{Val, con, Vals}
use Rattle.mc_program.specs.Programs.{TypeTerm}
use Rattle.mc_model.specs.Flat.{Flat_goal, FlatYes, FlatNo, variables_of, free_in}
use Rattle.mc_model.specs.Truth.{Assignment, Facts, GivenBy, DeniedBy}
use Rattle.mc_model.specs.Lists.{In, Among}
use Rattle.mc_model.specs.EventList.{Items, Each, EachCall, AtMost, Succeeds, Covers}
use Rattle.mc_model.specs.Stream.{Bindings, Calls, stream}
use Rattle.mc_model.specs.Scheduled.{Label, for_symbol, for_constant, Node, Procedure}
use Rattle.mc_source.specs.Determinism.{Determinism}
use Rattle.mc_accepted.specs.Ordered.{Insts, OrderedNode, variables_of_node}
use Rattle.mc_accepted.specs.Determined.{Known, determined, Placed}
use Rattle.mc_accepted.specs.Typing.{TypedGoal}
use Rattle.mc_model.specs.Good.{System, TypeChoice, BoundAs, Shape, Given, Keeps, GivenCall, types_of}
use Rattle.mc_program.specs.declared.builtin.Builtin.{Builtin}
use Rattle.mc_model.specs.Good as G

-- bindings grow
abbrev pub Grows : Bindings → Bindings → Type 0
Grows e a = (x : ℕ) (v : Val) → e x ≡ Some v → a x ≡ Some v

-- what is bound after was bound before or is one of these variables
abbrev pub BindsOnly : List ℕ → Bindings → Bindings → Type 0
BindsOnly xs e a = (x : ℕ) (v : Val) → a x ≡ Some v → (e x ≡ Some v) ⊎ In x xs

-- the assignment has the values that are bound of these variables
abbrev pub Agrees : List ℕ → Bindings → Assignment → Type 0
Agrees xs e s = (x : ℕ) → In x xs → (v : Val) → e x ≡ Some v → s x ≡ v

-- outside these nothing is bound
abbrev pub Closed : (O Q : List ℕ) → Insts → Bindings → Type 0
Closed O Q b e = (x : ℕ) → (In x O ⊎ In x Q) ⊎ ((b x ≡ 0) × (e x ≡ None))

-- a value has the label of an arm
abbrev pub HasLabel : Label → Val → Type 0
HasLabel (for_symbol s) v = (vs : Vals) × (v ≡ con s vs)
HasLabel (for_constant w) v = v ≡ w

-- the known labels are those of the values
abbrev pub Knows : Known → Bindings → Type 0
Knows known e = (x : ℕ) (l : Label) → known x ≡ Some l → (v : Val) × (e x ≡ Some v) × HasLabel l v

-- what an answer has to do with an assignment: nothing where one answer is enough, else the same
-- bindings of these variables
abbrev pub Hit : Bool → List ℕ → Assignment → Bindings → Type 0
Hit true L s a = Unit {0}
Hit false L s a = Agrees L a s

module _ (S : System) (θ : TypeChoice) (T : ℕ → TypeTerm) where
  -- bound as the insts say
  abbrev pub TypedAt : List ℕ → Insts → Bindings → Type 0
  TypedAt L b e = (x : ℕ) → In x L → BoundAs S θ (b x) (T x) (e x)

  -- none comes where the point after is unreachable
  abbrev pub Reached : List ℕ → Option Insts → Bindings → Type 0
  Reached L None a = ⊥
  Reached L (Some c) a = TypedAt L c a

  -- a list of answers from bindings e: vs are the goal's variables, L those that are live after it
  pub record Sound (known : Known) (L vs : List ℕ) (e : Bindings) (o : Option Insts)
      (d : Determinism) (xs : Items Bindings) : Type 0 where
    pub each : Each (λ a. Grows e a × (BindsOnly vs e a × Reached L o a)) xs
    pub calls : EachCall (GivenCall S) xs
    pub count : Knows known e → AtMost d.most xs
    pub sure : Knows known e → d.can_fail ≡ false → Succeeds xs

-- what calls are known to do: at every height, of every procedure that is there, from inputs of its
-- types and insts
pub record CallSound (S : System) (θ : TypeChoice) (p : Procedure) (vs : List (Option Val))
    (xs : Items (List (Option Val))) : Type 0 where
  pub each : Each (λ os. Shape S θ p.last (types_of S p) os × Keeps p.first vs os) xs
  pub calls : EachCall (GivenCall S) xs
  pub count : AtMost p.det.most xs
  pub sure : p.det.can_fail ≡ false → Succeeds xs

abbrev pub CallsSound : System → Calls → Type 0
CallsSound S C =
    (θ :
    TypeChoice) (h k : ℕ) (vs : List (Option Val)) → k < S.count → Given S θ (S.procs k).first
    (types_of S (S.procs k)) vs → CallSound S θ (S.procs k) vs (C h k vs)

-- The first pass at a goal.
abbrev pub GoalSound : System → (T : ℕ → TypeTerm) → Calls → Type 0
GoalSound S T C =
    (O Q : List ℕ) (b : Insts) (g : Flat_goal) (n : Node) (o : Option Insts)
    → OrderedNode S T O Q b g n o → TypedGoal S.world.source T g → (θ : TypeChoice) (known : Known)
    (h : ℕ) (L : List ℕ) → Among L O → (e : Bindings) → Closed O Q b e
    → TypedAt S θ T (variables_of g) b e → TypedAt S θ T L b e
    → Sound S θ T known L (variables_of_node n) e o (determined S T b known n)
    (stream S.world.outcome C h n e)

-- what calls are known to tell: each answer is true, and where the list ends each assignment of the
-- arguments is one of an answer, or false
abbrev pub HitArguments : Bool → List Val → List (Option Val) → Type 0
HitArguments true ws os = Unit {0}
HitArguments false ws os = G.Extends os ws

pub record CallTells (C : Facts) (p : Procedure) (vs : List (Option Val))
    (xs : Items (List (Option Val))) : Type 0 where
  pub yes : Each (λ os. (ws : List Val) → G.Extends os ws → C.yes p.pred ws) xs
  pub no :
      (ws : List Val) → G.Extends vs ws → Covers (HitArguments p.det.committed ws) (C.no p.pred ws)
      xs

-- the assignment has the values that are bound of those variables
abbrev pub AgreesFor : (ℕ → Type 0) → Bindings → Assignment → Type 0
AgreesFor P e s = (x : ℕ) → P x → (v : Val) → e x ≡ Some v → s x ≡ v

-- a variable of both lists: of the free ones of a normal goal, those that the scheduled goal has
abbrev pub Shared : List ℕ → List ℕ → ℕ → Type 0
Shared xs ys x = In x xs × In x ys

-- The second pass at a list of answers: of the variables that P says, Y is what answers make true,
-- N what is false where no answer is hit; one: one answer is enough; L: the variables that are live
-- after it.
pub record Tells (P : ℕ → Type 0) (Y N : Assignment → Type 0) (one : Bool) (L : List ℕ)
    (e : Bindings) (xs : Items Bindings) : Type 0 where
  pub yes : Each (λ a. (s : Assignment) → AgreesFor P a s → Y s) xs
  pub no : (s : Assignment) → AgreesFor P e s → Agrees L e s → Covers (Hit one L s) (N s) xs

-- a variable of a goal that occurs outside its scheduled form occurs outside its normal form
abbrev pub Scoped : (O Q vars : List ℕ) → Type 0
Scoped O Q vars = (x : ℕ) → In x vars → In x Q → In x O

abbrev pub CallsTell : System → Calls → Facts → Type 0
CallsTell S R C =
    (θ :
    TypeChoice) (h k : ℕ) (vs : List (Option Val)) → k < S.count → Given S θ (S.procs k).first
    (types_of S (S.procs k)) vs → CallTells C (S.procs k) vs (R h k vs)

-- what is said of builtins' predicates is what their outcomes say
abbrev pub SaysBuiltins : System → Facts → Type 0
SaysBuiltins S C =
    (p :
    ℕ) (op : Builtin) (ws : List Val) → (S.world.source.preds p).builtin ≡ Some op
    → (GivenBy S.world.outcome op ws → C.yes p ws)
    × (DeniedBy S.world.outcome op ws → C.no p ws)

-- The second pass at a goal.
abbrev pub GoalTells : System → (T : ℕ → TypeTerm) → Calls → Facts → Type 0
GoalTells S T R C =
    (O Q : List ℕ) (b : Insts) (g : Flat_goal) (n : Node) (o : Option Insts)
    → OrderedNode S T O Q b g n o → TypedGoal S.world.source T g → Scoped O Q (variables_of g)
    → (θ : TypeChoice) (known : Known) (h : ℕ) (one : Bool) → Placed S T b known one n
    → (L : List ℕ) → Among L O → Among L Q → (e : Bindings) → Closed O Q b e
    → TypedAt S θ T (variables_of g) b e → TypedAt S θ T L b e → Knows known e
    → Tells (Shared (free_in g) (variables_of_node n)) (FlatYes C g) (FlatNo C g) one L e
    (stream S.world.outcome R h n e)
