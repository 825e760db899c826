-- What inclusion says of values. (Mercury Language Reference Manual: Modes, insts.)
use Rattle.std.specs.Prelude.{ℕ}
use Rattle.mc_program.specs.Values.{Val}
use Rattle.mc_program.specs.Programs.{TypeTerm, Source}
use Rattle.mc_model.specs.Types.{OfType}
use Rattle.mc_model.specs.Insts.{Graph, Within}
use Rattle.mc_accepted.specs.Inclusion.{Included}
use Rattle.mc_accepted.specs.Proper.{ProperGraph}

-- included insts have included sets
abbrev pub IncludedSets : Type 0
IncludedSets =
    (P : Source) (G : Graph) → ProperGraph G → (i j : ℕ) (t : TypeTerm) → Included P G i j t →
    (v : Val) → OfType P v t → Within P G v i → Within P G v j
