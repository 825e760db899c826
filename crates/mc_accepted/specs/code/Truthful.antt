-- What is asked of the functions that look for nodes, and of the modes that are declared, so that
-- what is arranged over nodes stands in the relation of ordered goals.
use Rattle.std.specs.Prelude.{◌≡◌, ◌≢◌, ℕ, ◌<◌, List, [], ◌∷◌, Option, Some, None, Bool, true, false}
use Rattle.mc_program.specs.Programs.{TypeTerm}
use Rattle.mc_model.specs.Insts.{dead, AllowsSymbol, AllowsConstants}
use Rattle.mc_accepted.specs.Inclusion.{Included, Merged}
use Rattle.mc_accepted.specs.Tidy.{Tidy, EachIsTidy}
use Rattle.mc_model.specs.Stream.{is_bound}
use Rattle.mc_model.specs.Good.{System}
use Rattle.mc_source.specs.Determinism.{is_zero}
use Rattle.mc_accepted.specs.Ordered.{modes_of_procedure, IsSymbolOver}
use Rattle.mc_accepted.specs.Arranged.{Declared}
use Rattle.mc_accepted.specs.NodeOracle.{NodeOracle}

-- all of the nodes are free, or none is
abbrev pub AllAre : (t : Bool) → List ℕ → Type 0
AllAre t [] = Unit {0}
AllAre t (i ∷ is) = (is_bound i ≡ t) × AllAre t is

module _ (S : System) (T : ℕ → TypeTerm) where
  abbrev pub IsNarrowed : ℕ → ℕ → Option (List ℕ) → Type 0
  IsNarrowed i s None = AllowsSymbol S.world.source (S.insts i) i s (λ js. Unit {0}) → ⊥
  IsNarrowed i s (Some is) = AllowsSymbol S.world.source (S.insts i) i s (λ js. js ≡ is)

  pub record Truthful (C : NodeOracle) : Type 0 where
    pub dies : (i : ℕ) → C.is_dead i ≡ true → S.insts i ≡ dead
    pub lives : (i : ℕ) → C.is_dead i ≡ false → S.insts i ≢ dead
    pub over : (s i : ℕ) (is : List ℕ) → C.over s is ≡ Some i → IsSymbolOver S T i s is
    -- Not all insts have a merged one: at a type variable `unique` and a bound inst that holds a dead
    -- one have none. Tidy ones have, and it is tidy.
    pub joined :
        (t : TypeTerm) (is : List ℕ) (k : ℕ) (all : Bool) → AllAre all is → is ≢ []
        → EachIsTidy S.world.source S.insts is t → C.joined t is ≡ Some k
        → Merged S.world.source S.insts is k t × Tidy S.world.source S.insts k t
    pub narrowed : (i s : ℕ) → IsNarrowed i s (C.narrowed i s)
    pub constants : (i : ℕ) → C.takes_constants i ≡ true → AllowsConstants (S.insts i)
    pub no_constants : (i : ℕ) → C.takes_constants i ≡ false → AllowsConstants (S.insts i) → ⊥
    pub fits :
        (i j : ℕ) (t : TypeTerm) → C.fits i j t ≡ true → Included S.world.source S.insts i j t
    pub fits_not :
        (i j : ℕ) (t : TypeTerm) → C.fits i j t ≡ false → Included S.world.source S.insts i j t → ⊥

  -- the modes are those of the procedures
  pub record IsDeclared (p : ℕ) (d : Declared) : Type 0 where
    pub known : d.proc < S.count
    pub pred : (S.procs d.proc).pred ≡ p
    pub modes : d.modes ≡ modes_of_procedure (S.procs d.proc)
    pub never : d.never ≡ is_zero (S.procs d.proc).det.most

  abbrev pub AllDeclared : ℕ → List Declared → Type 0
  AllDeclared p [] = Unit {0}
  AllDeclared p (d ∷ ds) = IsDeclared p d × AllDeclared p ds
