-- What is asked of one constructor of a program whose types fit.
use Rattle.std.specs.Prelude.{◌≡◌, ℕ, List, length, Some}
use Rattle.mc_program.specs.Programs.{TypeTerm, Source}
use Rattle.mc_model.specs.Lists.{In}
use Rattle.mc_accepted.specs.ProperTypes.{Parameters, EachProper, EachBelow}

-- where type u lists constructor s, these argument types are over its parameters and well formed
abbrev pub ArgumentsFit : Source → Parameters → (s u : ℕ) → List TypeTerm → Type 0
ArgumentsFit P D s u ts =
    (k : ℕ) → D u ≡ Some k → In s (P.symbols_of u) → EachBelow k ts × EachProper D ts

abbrev pub SymbolFits : Source → Parameters → ℕ → Type 0
SymbolFits P D s =
    ((P.symbols s).name.arity ≡ length (P.symbols s).args)
    × ArgumentsFit P D s (P.symbols s).of_type (P.symbols s).args
