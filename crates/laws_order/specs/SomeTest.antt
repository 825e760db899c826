-- Some test tells inclusion, of a graph of finitely many insts and a program under whose types
-- finitely many types are met. (Mercury Language Reference Manual: Modes, insts; Types.)
use Rattle.std.specs.Prelude.{◌≡◌, ◌↔◌, ℕ, ◌≤◌, List, Contains, Some, Bool, true}
use Rattle.mc_program.specs.Programs.{TypeTerm, Source}
use Rattle.mc_model.specs.Types.{argument_types}
use Rattle.mc_model.specs.Insts.{Graph}
use Rattle.mc_accepted.specs.Inclusion.{Included}
use Rattle.mc_accepted.specs.Fits.{FitsInsts}
use Rattle.mc_accepted.specs.Forms.{Form, at}
use Rattle.mc_accepted.specs.InOrder.{Tells}

-- from that number on all insts are one, so there are finitely many; the same of a program's symbols
abbrev pub InstsEnd : Graph → ℕ → Type 0
InstsEnd G n = (i : ℕ) → n ≤ i → G i ≡ G n

abbrev pub SymbolsEnd : Source → ℕ → Type 0
SymbolsEnd P n = (s : ℕ) → n ≤ s → P.symbols s ≡ P.symbols n

-- Finitely many types are met under a type: a list has it, and with each type those of its symbols'
-- arguments. (They are more where a type's symbol has that type over a larger one as an argument.)
pub record TypesMet (P : Source) (t : TypeTerm) : Type 0 where
  pub types : List TypeTerm
  pub itself : Contains types t
  pub closed :
      (u v : TypeTerm) (s : ℕ) (us : List TypeTerm)
      → Contains types u → argument_types P s u ≡ Some us → Contains us v → Contains types v

abbrev pub SomeTestTells : Type 0
SomeTestTells =
    (P : Source) (G : Graph) (n m : ℕ) → FitsInsts G → InstsEnd G n → SymbolsEnd P m
    → ((t : TypeTerm) → TypesMet P t)
    → (fits : Form → ℕ → TypeTerm → Bool) × Tells P G fits

-- such a test tells inclusion of nodes too
abbrev pub NodesAreTold : Type 0
NodesAreTold =
    (P : Source) (G : Graph) (fits : Form → ℕ → TypeTerm → Bool) → Tells P G fits
    → (i j : ℕ) (t : TypeTerm) → (fits (at i) j t ≡ true) ↔ Included P G i j t
