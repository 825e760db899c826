-- The rules that definitions of insts and modes break. (Mercury Language Reference Manual: Modes,
-- insts; this project's profile: insts are finite graphs.)
use Rattle.std.specs.Prelude.{◌≡◌, ◌≢◌, ◌⊎◌, ℕ, zero, suc, List, [], ◌∷◌, ◌++◌, get_or, Option, Some, None, codes}
use Rattle.mc_source.specs.Rules.{Fault}
use Rattle.mc_source.specs.declared.rule.Rule.TheVariants as R
use Rattle.mc_model.specs.Good.{System}
use Rattle.mc_model.specs.Scheduled.{Procedure}
use Rattle.mc_model.specs.declared.inst.InstRef.{InstRef}
use Rattle.mc_model.specs.declared.inst.InstRef.TheVariants.{Old, New}
use Rattle.mc_accepted.specs.Tidy.{EachTidy}

-- One number leads to another where it is followed by that one, at once or by others between.
pub data LeadsTo (next : ℕ → Option ℕ) : ℕ → ℕ → Type 0 where
  at_once : {k j : ℕ} → next k ≡ Some j → LeadsTo next k j
  by_another : {k i j : ℕ} → next k ≡ Some i → LeadsTo next i j → LeadsTo next k j

-- a constructor that a definition lists, with the insts of its arguments, of which some are there
-- already and others are those that definitions make
pub record PlainChoice : Type 0 where
  pub name : List ℕ
  pub arity : ℕ
  pub args : List InstRef

-- a definition: another name of an inst, or what a bound inst lists
pub data PlainInstDef : Type 0 where
  same_inst : InstRef → PlainInstDef
  bound_inst : List PlainChoice → PlainInstDef

abbrev pub definition_at : List PlainInstDef → ℕ → PlainInstDef
definition_at ds k = get_or ds k (bound_inst [])

-- the definition that one is another name of
abbrev pub new_one : InstRef → Option ℕ
new_one (Old i) = None
new_one (New k) = Some k

abbrev pub named_by : PlainInstDef → Option ℕ
named_by (same_inst r) = new_one r
named_by (bound_inst cs) = None

-- A definition isn't well founded where it comes back to itself without passing a constructor. One
-- that only leads to such a definition is.
abbrev pub IsUnfounded : List PlainInstDef → ℕ → Type 0
IsUnfounded ds k = LeadsTo (λ j. named_by (definition_at ds j)) k k

-- an inst stands for a node where that is its node, or that of the definition that it names
pub data StandsFor (ds : List PlainInstDef) : InstRef → (node : ℕ) → Type 0 where
  that_node : {i : ℕ} → StandsFor ds (Old i) i
  another_name :
      {k i : ℕ} {r : InstRef} → definition_at ds k ≡ same_inst r → StandsFor ds r i
      → StandsFor ds (New k) i

-- one of these insts is `free`
abbrev pub OneIsFree : List PlainInstDef → List InstRef → Type 0
OneIsFree ds [] = ⊥
OneIsFree ds (r ∷ rs) = StandsFor ds r 0 ⊎ OneIsFree ds rs

abbrev pub OneHasFree : List PlainInstDef → List PlainChoice → Type 0
OneHasFree ds [] = ⊥
OneHasFree ds (c ∷ cs) = OneIsFree ds c.args ⊎ OneHasFree ds cs

-- `free` is an argument of a constructor that the definition itself lists
abbrev pub HasFree : List PlainInstDef → PlainInstDef → Type 0
HasFree ds (same_inst r) = ⊥
HasFree ds (bound_inst cs) = OneHasFree ds cs

abbrev pub HasFreeInside : List PlainInstDef → ℕ → Type 0
HasFreeInside ds k = HasFree ds (definition_at ds k)

-- a constructor that an inst lists, by its name and its number of arguments
pub record Functor : Type 0 where
  pub name : List ℕ
  pub arity : ℕ

-- Definitions with parameters, before they are expanded for the insts that stand for those.
mutual
  -- an inst: a parameter, a node, a definition over insts, or what a bound inst lists
  pub data InstTerm : Type 0 where
    parameter : (number : ℕ) → InstTerm
    inst_node : (node : ℕ) → InstTerm
    defined : (definition : ℕ) → InstTerms → InstTerm
    bound_over : List Functor → InstTerms → InstTerm

  -- the insts of arguments; of a bound inst those of all its constructors, one behind another
  pub data InstTerms : Type 0 where
    no_insts : InstTerms
    inst_then : InstTerm → InstTerms → InstTerms

-- an inst with others for its parameters
abbrev pub inst_at : InstTerms → ℕ → InstTerm
inst_at no_insts k = parameter k
inst_at (inst_then i is) zero = i
inst_at (inst_then i is) (suc k) = inst_at is k

abbrev mutual
  pub over : InstTerms → InstTerm → InstTerm
  over ts (parameter k) = inst_at ts k
  over ts (inst_node i) = inst_node i
  over ts (defined d is) = defined d (each_over ts is)
  over ts (bound_over fs is) = bound_over fs (each_over ts is)

  pub each_over : InstTerms → InstTerms → InstTerms
  each_over ts no_insts = no_insts
  each_over ts (inst_then i is) = inst_then (over ts i) (each_over ts is)

-- an inst has a definition over these insts in it
abbrev mutual
  pub Mentions : InstTerm → (definition : ℕ) → InstTerms → Type 0
  Mentions (parameter k) d ts = ⊥
  Mentions (inst_node i) d ts = ⊥
  Mentions (defined e is) d ts = ((e ≡ d) × (is ≡ ts)) ⊎ OneMentions is d ts
  Mentions (bound_over fs is) d ts = OneMentions is d ts

  pub OneMentions : InstTerms → (definition : ℕ) → InstTerms → Type 0
  OneMentions no_insts d ts = ⊥
  OneMentions (inst_then i is) d ts = Mentions i d ts ⊎ OneMentions is d ts

-- the bodies of the definitions
abbrev pub Bodies : Type 0
Bodies = (definition : ℕ) → InstTerm

-- a definition reaches another over insts, which speak of its own parameters
pub data Reaches (body : Bodies) : (from to : ℕ) → InstTerms → Type 0 where
  in_body : {d e : ℕ} {ts : InstTerms} → Mentions (body d) e ts → Reaches body d e ts
  in_body_of :
      {d e f : ℕ} {ts : InstTerms} (is : InstTerms) → Reaches body d e ts → Mentions (body e) f is
      → Reaches body d f (each_over ts is)

abbrev pub parameters_from : (first count : ℕ) → InstTerms
parameters_from n zero = no_insts
parameters_from n (suc k) = inst_then (parameter n) (parameters_from (suc n) k)

-- A definition isn't well founded either where it reaches itself with others than its own
-- parameters: there would be no end of insts in it.
abbrev pub ReachesOthers : Bodies → (parameters definition : ℕ) → Type 0
ReachesOthers body n d = (ts : InstTerms) × Reaches body d d ts × (ts ≢ parameters_from 0 n)

-- One inst comes to another before any constructor: at once, or by definitions that are names of
-- others. (`StandsFor` says so of expanded definitions.)
pub data ComesTo (body : Bodies) : InstTerm → InstTerm → Type 0 where
  at_that : {i : InstTerm} → ComesTo body i i
  by_definition :
      {d : ℕ} {is : InstTerms} {i : InstTerm} → ComesTo body (over is (body d)) i
      → ComesTo body (defined d is) i

-- The item of a definition breaks the rule where the definition, by itself, comes back to itself,
-- over whatever insts, or reaches itself with others than its own parameters. So of
-- `f(I) == I. a == f(a).` it is that of a, which gives the argument. What is said of items stands
-- from here on; what is said of expanded definitions serves those that are added to a graph.
abbrev pub ComesBack : Bodies → (definition : ℕ) → Type 0
ComesBack body d = (is : InstTerms) × ComesTo body (body d) (defined d is)

abbrev pub NotWellFounded : Bodies → (parameters definition : ℕ) → Type 0
NotWellFounded body n d = ComesBack body d ⊎ ReachesOthers body n d

abbrev pub OneIs : InstTerms → InstTerm → Type 0
OneIs no_insts i = ⊥
OneIs (inst_then j js) i = (j ≡ i) ⊎ OneIs js i

-- An inst puts another into a constructor: as an argument of one that it lists, or as an argument
-- of a definition that puts that parameter into a constructor. So does one that is written in it.
pub data PutsInside (body : Bodies) : InstTerm → InstTerm → Type 0 where
  listed :
      {fs : List Functor} {is : InstTerms} {i j : InstTerm} → OneIs is j → ComesTo body j i
      → PutsInside body (bound_over fs is) i
  given :
      {d k : ℕ} {is : InstTerms} {i : InstTerm} → PutsInside body (body d) (parameter k)
      → ComesTo body (inst_at is k) i → PutsInside body (defined d is) i
  in_listed :
      {fs : List Functor} {is : InstTerms} {i j : InstTerm} → OneIs is j → PutsInside body j i
      → PutsInside body (bound_over fs is) i
  in_given :
      {d : ℕ} {is : InstTerms} {i j : InstTerm} → OneIs is j → PutsInside body j i
      → PutsInside body (defined d is) i

-- An item, of a definition or a mode, breaks the rule where an inst that is written in it puts
-- `free` into a constructor. One that only uses such a definition doesn't.
abbrev pub PutsFreeInside : Bodies → InstTerm → Type 0
PutsFreeInside body i = PutsInside body i (inst_node 0)

-- Nor is a mode definition well founded that reaches itself, where each is followed by the one
-- that it names.
abbrev pub ModeIsUnfounded : (named : ℕ → Option ℕ) → ℕ → Type 0
ModeIsUnfounded named k = LeadsTo named k k

-- the insts of a procedure hold `unique` or `dead` where the type isn't io's state
abbrev pub IsUntidy : System → Procedure → Type 0
IsUntidy S p =
    EachTidy S.world.source S.insts p.first (S.world.source.preds p.pred).types
    × EachTidy S.world.source S.insts p.last (S.world.source.preds p.pred).types
    → ⊥

-- what is told of a definition with `free` inside, of one, named so, that isn't well founded, and
-- of a mode whose insts aren't tidy
abbrev pub free_inside : Fault
free_inside = (R.M6, codes "free inside a bound inst")

abbrev pub not_well_founded : (name : List ℕ) → Fault
not_well_founded name = (R.M7, codes "inst " ++ (name ++ codes " is not well founded"))

abbrev pub outside_io : Fault
outside_io = (R.M8, codes "unique or dead outside io")
