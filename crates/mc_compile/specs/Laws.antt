-- Laws of what sources are compiled to.
use Rattle.std.specs.Prelude.{◌≡◌, ℕ, true, false, Some, Ok, is_some}
use Rattle.mc_compile.specs.Sources.{Sources}
use Rattle.mc_compile.specs.Compiling.{Compiles}
use Rattle.mc_compile.specs.Ruling.{PlainExecutable}
use Rattle.mc_compile.specs.declared.executable.Goal.TheVariants as G

-- where `main` isn't wanted, something is run exactly where there is a query
abbrev pub QueryIsAsked : Type 0
QueryIsAsked =
    (sources : Sources) (e : PlainExecutable)
    → Compiles sources (Ok e) → sources.wants_main ≡ false
    → is_some e.goal ≡ is_some sources.query

-- where `main` is wanted, it is what is run
abbrev pub MainIsRun : Type 0
MainIsRun =
    (sources : Sources) (e : PlainExecutable)
    → Compiles sources (Ok e) → sources.wants_main ≡ true
    → (number : ℕ) × (e.goal ≡ Some (G.Main number))
