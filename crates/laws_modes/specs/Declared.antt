-- Types that break no rule are regular, so some test tells inclusion under them. (Mercury Language
-- Reference Manual: Types; Modes, insts.)
use Rattle.std.specs.Prelude.{◌≡◌, ℕ, [], length, Bool}
use Rattle.mc_program.specs.Programs.{TypeTerm, Source}
use Rattle.mc_model.specs.Insts.{Graph}
use Rattle.mc_accepted.specs.Fits.{FitsInsts}
use Rattle.mc_accepted.specs.Forms.{Form}
use Rattle.mc_accepted.specs.InOrder.{Tells}
use Rattle.mc_names.specs.Linked.{Linked}
use Rattle.mc_type_table.specs.Rules.{definitions, type_faults}
use Rattle.mc_declarations.specs.Declarations.{declarations}
use Rattle.laws_order.specs.SomeTest.{InstsEnd}
use Rattle.laws_modes.specs.Regular.{AreRegular}

module _ (l : Linked) where
  -- what is declared, whoever sees which definitions
  abbrev pub declared : Source
  declared = declarations l (definitions l)

  -- a program has the types and constructors that are declared, whatever its predicates
  pub record HasDeclared (P : Source) : Type 0 where
    pub symbols : P.symbols ≡ declared.symbols
    pub symbols_of : P.symbols_of ≡ declared.symbols_of

abbrev pub DeclaredAreRegular : Type 0
DeclaredAreRegular =
    (l : Linked) (P : Source)
    → HasDeclared l P → type_faults l ≡ [] → AreRegular P (length l.types)

-- so some test tells inclusion of finitely many insts
abbrev pub DeclaredAreTold : Type 0
DeclaredAreTold =
    (l : Linked) (P : Source) (G : Graph) (n : ℕ)
    → HasDeclared l P → type_faults l ≡ [] → FitsInsts G → InstsEnd G n
    → (fits : Form → ℕ → TypeTerm → Bool) × Tells P G fits
