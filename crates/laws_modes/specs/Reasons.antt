-- Why a goal waits, and that it waits as long as that is so. (Mercury Language Reference Manual:
-- Modes; this project's order of goals.)
--
-- A goal that waits is tried again after other goals ran. It needn't be while what it waits for
-- isn't there: of each list of variables for which it waits one is free, and the others at which
-- the try looked have the insts that they had.
use Rattle.std.specs.Prelude.{◌≡◌, ◌⊎◌, ℕ, suc, ◌<◌, ◌≤◌, List, [], ◌∷◌, ◌++◌, Option, Some, None, true, false, if◌then◌else◌}
use Rattle.mc_program.specs.Programs.{TypeTerm, Source}
use Rattle.mc_program.specs.declared.builtin.Builtin.{Builtin}
use Rattle.mc_model.specs.Flat as F
use Rattle.mc_model.specs.Flat.{Flat_goal, Flat_goals, no_flat, flat_then, variables_of, free_in}
use Rattle.mc_model.specs.Lists.{In, without, Among}
use Rattle.mc_model.specs.Scheduled.{Nodes}
use Rattle.mc_model.specs.Stream.{is_bound}
use Rattle.mc_accepted.specs.Ordered.{Mode, is_state, modes_of}
use Rattle.mc_accepted.specs.Arranged.{Operations, Declared, Fault, waits, negated_binds, branches_differ, lacks, Point, Arranged, runs, breaks, Trial, Waiting, takes, none_runs, variables_of_waiting, pick, count_flat, is_input, in_turn, trial, trials}
use Rattle.laws_modes.specs.Waits.{Below, SameOutside, SameAt}

-- lists of variables, of each of which one is free, and other variables, whose insts are of account
pub record Why : Type 0 where
  pub free : List (List ℕ)
  pub looked_at : List ℕ

abbrev pub IsOneOf : List ℕ → List (List ℕ) → Type 0
IsOneOf vs [] = ⊥
IsOneOf vs (us ∷ uss) = (vs ≡ us) ⊎ IsOneOf vs uss

-- The second says at least what the first says. A list holds where one within it does.
abbrev pub Wider : Why → Why → Type 0
Wider y z =
    ((vs : List ℕ) → IsOneOf vs y.free → (us : List ℕ) × IsOneOf us z.free × Among us vs)
    × Among y.looked_at z.looked_at

-- goals wait
abbrev pub IsWaiting : Fault → Type 0
IsWaiting (waits k vs) = Unit {0}
IsWaiting (negated_binds v) = ⊥
IsWaiting (branches_differ v) = ⊥
IsWaiting lacks = ⊥

module _ {I : Type 0} where
  abbrev pub Waits : Arranged I → Type 0
  Waits (runs gs o n zs) = ⊥
  Waits (breaks f) = IsWaiting f

  abbrev pub Runs : Arranged I → Type 0
  Runs (runs gs o n zs) = Unit {0}
  Runs (breaks f) = ⊥

  -- it runs, and leads to that point
  abbrev pub Leaves : Arranged I → Point I → Type 0
  Leaves (runs gs None n zs) d = ⊥
  Leaves (runs gs (Some c) n zs) d = c ≡ d
  Leaves (breaks f) d = ⊥

module _ {I : Type 0} (Op : Operations I) where
  abbrev pub OneIsFree : List ℕ → Point I → Type 0
  OneIsFree vs c = (x : ℕ) × In x vs × (Op.is_bound (c x) ≡ false)

  -- at the second point it is so as at the first
  abbrev pub StillSo : Why → Point I → Point I → Type 0
  StillSo y b c =
      ((vs : List ℕ) → IsOneOf vs y.free → OneIsFree vs c) × SameAt y.looked_at b c

  -- A try at this point tells why it waits: it waits at each point at which that is so, whatever
  -- the next number is, where of its own variables the same ones occur outside.
  abbrev pub Remains :
      (own : List ℕ) → (first : ℕ) → Trial I → List ℕ → Point I → Why → Type 0
  Remains own first t O b y =
      (U : List ℕ) (m : ℕ) (c : Point I) → first ≤ m → SameOutside own O U → StillSo y b c
      → Waits (t U m c)

  -- What a later try tells, at a point behind goals with these variables, told of the point before
  -- them. Of a list of variables those are of account that those goals left free, or aren't theirs.
  abbrev pub Carried : (ran : List ℕ) → (first : ℕ) → Why → Point I → Why → Type 0
  Carried ran first y d z =
      ((vs : List ℕ) → IsOneOf vs y.free
      → (us : List ℕ) × IsOneOf us z.free
      × ((x : ℕ) → In x us
      → In x vs × (x < first) × (In x ran → Op.is_bound (d x) ≡ false)))
      × ((x : ℕ) → In x y.looked_at → (x < first) × (In x ran ⊎ In x z.looked_at))

  -- Goals with these variables lead from b to d, and from c to e.
  abbrev pub Since : (first : ℕ) → (ran : List ℕ) → (b c d e : Point I) → Type 0
  Since first ran b c d e =
      (x : ℕ) → x < first
      → (In x ran → d x ≡ e x) × ((In x ran → ⊥) → (d x ≡ b x) × (e x ≡ c x))

  module _ (own : List ℕ) (first : ℕ) where
    -- What one try in a pass over waiting goals tells, and the rest of the pass: why a goal waits;
    -- of one that runs, or that breaks another rule, all its variables are of account. Nothing is
    -- asked where the conjunction breaks `lacks`.
    abbrev pub Told : Waiting I → List ℕ → Point I → Why → Arranged I → Type 0 → Type 0
    Told w O b y (runs gs o n zs) rest = Among w.variables y.looked_at
    Told w O b y (breaks (waits k vs)) rest = Remains own first w.trial O b y × rest
    Told w O b y (breaks (negated_binds v)) rest = Among w.variables y.looked_at × rest
    Told w O b y (breaks (branches_differ v)) rest = Among w.variables y.looked_at × rest
    Told w O b y (breaks lacks) rest = Unit {0}

    abbrev pub Tells : (tried waiting : List (Waiting I)) → List ℕ → ℕ → Point I → Why → Type 0
    Tells vs [] O n b y = Unit {0}
    Tells vs (w ∷ ws) O n b y =
        Told w (O ++ variables_of_waiting (vs ++ ws)) b y
        (w.trial (O ++ variables_of_waiting (vs ++ ws)) n b)
        (Tells (vs ++ w ∷ []) ws O n b y)

module _ {I : Type 0} (Op : Operations I) (P : Source) (declared : ℕ → List Declared)
    (T : ℕ → TypeTerm) where
  -- the variables at inputs
  abbrev pub inputs_at : List Mode → List ℕ → List ℕ
  inputs_at [] xs = []
  inputs_at (m ∷ ms) [] = []
  inputs_at (m ∷ ms) (x ∷ xs) = if is_bound m.0 then x ∷ inputs_at ms xs else inputs_at ms xs

  -- An input that was looked at makes a mode unusable: it is free, or its inst isn't included, or
  -- would die at two places. So do other numbers of arguments and of modes.
  abbrev pub Unusable : (all : List ℕ) → List Mode → List ℕ → Why → Point I → Type 0
  Unusable all [] [] y b = ⊥
  Unusable all [] (x ∷ xs) y b = Unit {0}
  Unusable all (m ∷ ms) [] y b = Unit {0}
  Unusable all (m ∷ ms) (x ∷ xs) y b =
      ((is_bound m.0 ≡ true) × In x y.looked_at
      × (is_input Op P declared T all m x b ≡ false))
      ⊎ Unusable all ms xs y b

  -- one of these inputs is free, or one that was looked at makes the mode unusable
  abbrev pub Blocked : List Mode → List ℕ → Why → Point I → Type 0
  Blocked ms xs y b =
      ((us : List ℕ) × IsOneOf us y.free × Among us (inputs_at ms xs)) ⊎ Unusable xs ms xs y b

  abbrev pub EachBlocked : (xs : List ℕ) → List Declared → Why → Point I → Type 0
  EachBlocked xs [] y b = Unit {0}
  EachBlocked xs (d ∷ ds) y b = Blocked d.modes xs y b × EachBlocked xs ds y b

  abbrev pub CallBlocked : Option Builtin → (pred : ℕ) → (xs : List ℕ) → Why → Point I → Type 0
  CallBlocked None p xs y b = EachBlocked xs (declared p) y b
  CallBlocked (Some op) p xs y b = Blocked (modes_of op) xs y b

  module _ (own : List ℕ) (first : ℕ) where
    abbrev pub GoalRemains : Flat_goal → List ℕ → Point I → Why → Type 0
    GoalRemains g O b y = Remains Op own first (trial Op P declared T g) O b y

    -- these are waiting goals whose variables are own ones
    abbrev pub AreGoals : List (Waiting I) → Type 0
    AreGoals [] = Unit {0}
    AreGoals (w ∷ ws) =
        ((g : Flat_goal) × Among (variables_of g) own
        × (w ≡ record { variables = variables_of g; trial = trial Op P declared T g }))
        × AreGoals ws

    -- of goals from one point the first ones run, and the next one waits
    abbrev pub OneWaits : Flat_goals → List ℕ → Point I → Why → Type 0
    OneWaits no_flat O b y = ⊥
    OneWaits (flat_then g gs) O b y =
        GoalRemains g O b y
        ⊎ (((n : ℕ) × (first ≤ n) × Runs (trial Op P declared T g O n b))
        × Among (variables_of g) y.looked_at × OneWaits gs O b y)

    -- A conjunction that begins at b has come to d, by goals with these variables. Wherever it is
    -- so as y says, the same goals run, and if the rest waits then so does the whole.
    abbrev pub HasCome :
        (count : ℕ) → List (Waiting I) → List ℕ → Point I → (left : ℕ) → List (Waiting I) → List ℕ
        → Point I → (ran : List ℕ) → Why → Type 0
    HasCome k ws O b j us Q d ran y =
        (U : List ℕ) (m : ℕ) (c : Point I) → first ≤ m → SameOutside own O U → StillSo Op y b c
        → (X : List ℕ) × (i : ℕ) × (e : Point I) × (first ≤ i) × SameOutside own Q X
        × Since Op first ran b c d e
        × (Waits (in_turn Op P declared T j us X i e) → Waits (in_turn Op P declared T k ws U m c))

    -- the then part runs where it is reached
    abbrev pub ThenRuns : Flat_goal → List ℕ → Why → Arranged I → Type 0
    ThenRuns h O y (breaks f) = ⊥
    ThenRuns h O y (runs gs None m zs) = Unit {0}
    ThenRuns h O y (runs gs (Some d) m zs) =
        Among (variables_of h) y.looked_at
        × ((j : ℕ) × (first ≤ j) × Runs (trial Op P declared T h O j d))

abbrev pub IsAtom : Flat_goal → Type 0
IsAtom (F.Same x y) = Unit {0}
IsAtom (F.Made x s ys) = Unit {0}
IsAtom (F.Is x v) = Unit {0}
IsAtom (F.Call p xs) = Unit {0}
IsAtom (F.And gs) = ⊥
IsAtom (F.Or gs) = ⊥
IsAtom (F.If vs g h k) = ⊥
IsAtom (F.Not g) = ⊥
IsAtom (F.Exists vs g) = ⊥

-- what is said for all points, goals, and ways to look for insts; own variables are below the first
-- that is numbered on
abbrev pub EachGoal :
    (I : Type 0)
    → ((Op : Operations I) → Source → (ℕ → List Declared) → (ℕ → TypeTerm) → (own : List ℕ)
    → (first : ℕ) → List ℕ → Point I → Why → Type 0)
    → Type 0
EachGoal I Q =
    (Op : Operations I) (P : Source) (declared : ℕ → List Declared) (T : ℕ → TypeTerm)
    (own : List ℕ) (first : ℕ) (O : List ℕ) (b : Point I) (y : Why) → Below first own
    → Q Op P declared T own first O b y

-- A wider reason is a reason; so is one that speaks of fewer own variables.
abbrev pub WiderRemains : (I : Type 0) → Type 0
WiderRemains I =
    EachGoal I
    (λ Op P declared T own first O b y. (fewer : List ℕ) (g : Flat_goal) (z : Why)
    → Among fewer own → Wider y z → GoalRemains Op P declared T fewer first g O b y
    → GoalRemains Op P declared T own first g O b z)

-- A reason is one at each point at which the variables that were looked at have those insts.
abbrev pub LaterRemains : (I : Type 0) → Type 0
LaterRemains I =
    EachGoal I
    (λ Op P declared T own first O b y. (g : Flat_goal) (U : List ℕ) (c : Point I)
    → SameOutside own O U → SameAt y.looked_at b c → GoalRemains Op P declared T own first g O b y
    → GoalRemains Op P declared T own first g U c y)

-- A goal that waits does so as long as none of its variables has another inst.
abbrev pub UnchangedRemains : (I : Type 0) → Type 0
UnchangedRemains I =
    EachGoal I
    (λ Op P declared T own first O b y. (g : Flat_goal) (n : ℕ) → first ≤ n
    → Among (variables_of g) own → Among (variables_of g) y.looked_at
    → Waits (trial Op P declared T g O n b) → GoalRemains Op P declared T own first g O b y)

-- an atom with a dead variable
abbrev pub DeadRemains : (I : Type 0) → Type 0
DeadRemains I =
    EachGoal I
    (λ Op P declared T own first O b y. (g : Flat_goal) (x : ℕ) → IsAtom g → In x (variables_of g)
    → In x y.looked_at → Op.is_dead (b x) ≡ true → GoalRemains Op P declared T own first g O b y)

-- an equation of two free variables
abbrev pub EquationRemains : (I : Type 0) → Type 0
EquationRemains I =
    EachGoal I
    (λ Op P declared T own first O b y. (x z : ℕ) → IsOneOf (x ∷ []) y.free
    → IsOneOf (z ∷ []) y.free
    → GoalRemains Op P declared T own first (F.Same x z) O b y)

-- a construction with a free argument, or a state of io among these
abbrev pub ConstructionRemains : (I : Type 0) → Type 0
ConstructionRemains I =
    EachGoal I
    (λ Op P declared T own first O b y. (x s : ℕ) (zs : List ℕ) → IsOneOf (x ∷ []) y.free
    → ((us : List ℕ) × IsOneOf us y.free × Among us zs)
    ⊎ ((z : ℕ) × In z zs × (is_state (T z) ≡ true))
    → GoalRemains Op P declared T own first (F.Made x s zs) O b y)

-- a call of which no mode is usable
abbrev pub CallRemains : (I : Type 0) → Type 0
CallRemains I =
    EachGoal I
    (λ Op P declared T own first O b y. (p : ℕ) (xs : List ℕ)
    → CallBlocked Op P declared T (P.preds p).builtin p xs y b
    → GoalRemains Op P declared T own first (F.Call p xs) O b y)

-- a negation, whose goal waits
abbrev pub NegationRemains : (I : Type 0) → Type 0
NegationRemains I =
    EachGoal I
    (λ Op P declared T own first O b y. (g : Flat_goal)
    → GoalRemains Op P declared T own first g (O ++ free_in g) b y
    → GoalRemains Op P declared T own first (F.Not g) O b y)

-- a goal around which variables are quantified
abbrev pub QuantifiedRemains : (I : Type 0) → Type 0
QuantifiedRemains I =
    EachGoal I
    (λ Op P declared T own first O b y. (vs : List ℕ) (g : Flat_goal)
    → GoalRemains Op P declared T own first g O b y
    → GoalRemains Op P declared T own first (F.Exists vs g) O b y)

-- a disjunction of which one part waits, and those before it run
abbrev pub DisjunctionRemains : (I : Type 0) → Type 0
DisjunctionRemains I =
    EachGoal I
    (λ Op P declared T own first O b y. (gs : Flat_goals) → Among (variables_of (F.Or gs)) own
    → OneWaits Op P declared T own first gs O b y
    → GoalRemains Op P declared T own first (F.Or gs) O b y)

-- an if-then-else, whose condition waits
abbrev pub ConditionRemains : (I : Type 0) → Type 0
ConditionRemains I =
    EachGoal I
    (λ Op P declared T own first O b y. (vs : List ℕ) (g h k : Flat_goal)
    → GoalRemains Op P declared T own first g (O ++ (without (free_in g) vs ++ variables_of h)) b y
    → GoalRemains Op P declared T own first (F.If vs g h k) O b y)

-- whose then part waits, behind the condition
abbrev pub ThenRemains : (I : Type 0) → Type 0
ThenRemains I =
    EachGoal I
    (λ Op P declared T own first O b y. (vs : List ℕ) (g h k : Flat_goal) (n : ℕ) (d : Point I)
    (z : Why) → first ≤ n → Among (variables_of (F.If vs g h k)) own
    → Leaves (trial Op P declared T g (O ++ (without (free_in g) vs ++ variables_of h)) n b) d
    → GoalRemains Op P declared T own first h (O ++ variables_of g) d z
    → Among (variables_of g) y.looked_at → Carried Op (variables_of g) first z d y
    → GoalRemains Op P declared T own first (F.If vs g h k) O b y)

-- whose else part waits
abbrev pub ElseRemains : (I : Type 0) → Type 0
ElseRemains I =
    EachGoal I
    (λ Op P declared T own first O b y. (vs : List ℕ) (g h k : Flat_goal) (n : ℕ) → first ≤ n
    → Among (variables_of (F.If vs g h k)) own
    → ThenRuns Op P declared T own first h (O ++ variables_of g) y
    (trial Op P declared T g (O ++ (without (free_in g) vs ++ variables_of h)) n b)
    → Among (variables_of g) y.looked_at → GoalRemains Op P declared T own first k O b y
    → GoalRemains Op P declared T own first (F.If vs g h k) O b y)

-- a conjunction: of its goals in turn, from where it begins
abbrev pub TurnsBegin : (I : Type 0) → Type 0
TurnsBegin I =
    EachGoal I
    (λ Op P declared T own first O b y. (k : ℕ) (ws : List (Waiting I))
    → HasCome Op P declared T own first k ws O b k ws O b [] y)

-- one more goal runs
abbrev pub TurnsGoOn : (I : Type 0) → Type 0
TurnsGoOn I =
    EachGoal I
    (λ Op P declared T own first O b y. (k j n m : ℕ) (ws us rest : List (Waiting I))
    (Q vs ran : List ℕ) (d e : Point I) (gs : Nodes) (z all : Why)
    → HasCome Op P declared T own first k ws O b (suc j) us Q d ran y
    → AreGoals Op P declared T own first us → first ≤ n → Tells Op own first [] us Q n d z
    → pick [] us Q n d ≡ takes vs rest gs (Some e) m → Carried Op ran first z d all → Wider y all
    → HasCome Op P declared T own first k ws O b j rest (Q ++ vs) e (vs ++ ran) all)

-- all that are left wait
abbrev pub TurnsStop : (I : Type 0) → Type 0
TurnsStop I =
    EachGoal I
    (λ Op P declared T own first O b y. (k j n : ℕ) (ws us : List (Waiting I)) (Q ran : List ℕ)
    (d : Point I) (z all : Why)
    → HasCome Op P declared T own first k ws O b (suc j) us Q d ran y
    → Tells Op own first [] us Q n d z → pick [] us Q n d ≡ none_runs None
    → Carried Op ran first z d all → Wider y all
    → Remains Op own first (in_turn Op P declared T k ws) O b all)

abbrev pub ConjunctionRemains : (I : Type 0) → Type 0
ConjunctionRemains I =
    EachGoal I
    (λ Op P declared T own first O b y. (gs : Flat_goals)
    → Remains Op own first (in_turn Op P declared T (count_flat gs) (trials Op P declared T gs)) O
    b y
    → GoalRemains Op P declared T own first (F.And gs) O b y)
