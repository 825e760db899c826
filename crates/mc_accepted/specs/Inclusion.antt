-- Inclusion of insts, by paths: at a type, an inst allows a path where it allows each symbol on it.
-- (Mercury Language Reference Manual: Modes, insts; this project's profile of uniqueness.)
use Rattle.std.specs.Prelude.{◌≡◌, ◌≢◌, ◌⊎◌, ℕ, ◌<◌, List, [], ◌∷◌, length, get_or, Option, Some, None, true}
use Rattle.mc_program.specs.Programs.{TypeTerm, state_type, variable_type, Source}
use Rattle.mc_model.specs.Types.{takes, argument_types}
use Rattle.mc_accepted.specs.Proper.{ProperGraph}
use Rattle.mc_model.specs.Insts.{InstNode, free, ground, unique, dead, bound, Graph, AllowsSymbol, AllowsConstants}

-- What a state of io is marked with: it has one holder, several, or none that may use it. The state
-- is taken once for each mark, so that `unique` and `ground` differ there.
pub data Mark : Type 0 where
  sole : Mark
  shared : Mark
  gone : Mark

-- what stands at a path's end: a symbol, a constant of a builtin type, or a state with a mark
pub data Tip : Type 0 where
  symbol_tip : (symbol : ℕ) → Tip
  constant_tip : (builtin : TypeTerm) → Tip
  state_tip : Mark → Tip

-- a path: symbols, each with the number of the argument that it goes into
abbrev pub Path : Type 0
Path = List (ℕ × ℕ)

-- a node allows the state with a mark
abbrev pub AllowsMark : InstNode → Mark → Type 0
AllowsMark free m = ⊥
AllowsMark ground sole = Unit {0}
AllowsMark ground shared = Unit {0}
AllowsMark ground gone = ⊥
AllowsMark unique sole = Unit {0}
AllowsMark unique shared = ⊥
AllowsMark unique gone = ⊥
AllowsMark dead m = Unit {0}
AllowsMark (bound ls) m = ⊥

-- with the types of the constructor's arguments, where it is one of the type
abbrev pub OnTypes : Option (List TypeTerm) → (List TypeTerm → Type 0) → Type 0
OnTypes None Q = ⊥
OnTypes (Some ts) Q = Q ts

abbrev pub AllowsTip : Source → InstNode → (node : ℕ) → TypeTerm → Tip → Type 0
AllowsTip P N i t (symbol_tip s) =
    OnTypes (argument_types P s t) (λ ts. AllowsSymbol P N i s (λ is. Unit {0}))
AllowsTip P N i t (constant_tip b) = (takes b t ≡ true) × AllowsConstants N
AllowsTip P N i t (state_tip m) = (takes state_type t ≡ true) × AllowsMark N m

-- the inst allows, at the type, the path and what stands at its end
abbrev pub Allows : Source → Graph → Path → Tip → ℕ → TypeTerm → Type 0
Allows P G [] e i t = AllowsTip P (G i) i t e
Allows P G ((s, k) ∷ path) e i t =
    OnTypes (argument_types P s t)
    (λ ts.
    AllowsSymbol P (G i) i s
    (λ is.
    (k < length is) × Allows P G path e (get_or is k 0) (get_or ts k (variable_type 0))))

-- the first inst allows no more than the second
abbrev pub NoMore : Source → Graph → ℕ → ℕ → TypeTerm → Type 0
NoMore P G i j t = (path : Path) (e : Tip) → Allows P G path e i t → Allows P G path e j t

-- `free` is included in `free` alone; every other inst is included in `dead`, and `dead` in `dead`
-- alone; any other is included where it allows no more
abbrev pub IncludedNodes : InstNode → InstNode → Type 0 → Type 0
IncludedNodes free free Q = Unit {0}
IncludedNodes free _ Q = ⊥
IncludedNodes dead dead Q = Unit {0}
IncludedNodes dead _ Q = ⊥
IncludedNodes ground free Q = ⊥
IncludedNodes unique free Q = ⊥
IncludedNodes (bound ls) free Q = ⊥
IncludedNodes ground dead Q = Unit {0}
IncludedNodes unique dead Q = Unit {0}
IncludedNodes (bound ls) dead Q = Unit {0}
IncludedNodes _ _ Q = Q

abbrev pub Included : Source → Graph → ℕ → ℕ → TypeTerm → Type 0
Included P G i j t = IncludedNodes (G i) (G j) (NoMore P G i j t)

-- Merging: `free` of insts that are all free; else none of them is free, and it is `dead` where one
-- of them is, or allows what each of them allows and is the least such inst.
abbrev pub AllFree : Graph → List ℕ → Type 0
AllFree G [] = Unit {0}
AllFree G (i ∷ is) = (G i ≡ free) × AllFree G is

abbrev pub NoneIs : InstNode → Graph → List ℕ → Type 0
NoneIs N G [] = Unit {0}
NoneIs N G (i ∷ is) = (G i ≢ N) × NoneIs N G is

abbrev pub OneIsDead : Graph → List ℕ → Type 0
OneIsDead G [] = ⊥
OneIsDead G (i ∷ is) = (G i ≡ dead) ⊎ OneIsDead G is

-- an inst of one graph allows no more than an inst of another
abbrev pub NoMoreThere : Source → (G : Graph) → ℕ → (H : Graph) → ℕ → TypeTerm → Type 0
NoMoreThere P G i H j t = (path : Path) (e : Tip) → Allows P G path e i t → Allows P H path e j t

abbrev pub NoneMore : Source → (G : Graph) → List ℕ → (H : Graph) → ℕ → TypeTerm → Type 0
NoneMore P G [] H k t = Unit {0}
NoneMore P G (i ∷ is) H k t = NoMoreThere P G i H k t × NoneMore P G is H k t

-- The inst is above all of these, and no inst of any graph that is above them all allows less.
pub record LeastAbove (P : Source) (G : Graph) (is : List ℕ) (k : ℕ) (t : TypeTerm) : Type 0 where
  pub above : NoneMore P G is G k t
  pub least :
      (H : Graph) → ProperGraph H → (h : ℕ) → NoneMore P G is H h t → NoMoreThere P G k H h t

abbrev pub MergedNodes : Graph → List ℕ → InstNode → Type 0 → Type 0
MergedNodes G is free Q = AllFree G is
MergedNodes G is dead Q = NoneIs free G is × OneIsDead G is
MergedNodes G is _ Q = NoneIs free G is × NoneIs dead G is × Q

abbrev pub Merged : Source → Graph → List ℕ → ℕ → TypeTerm → Type 0
Merged P G is k t = MergedNodes G is (G k) (LeastAbove P G is k t)
