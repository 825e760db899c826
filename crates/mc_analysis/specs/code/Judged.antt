-- What is answered as procedures are judged.
use Rattle.std.specs.Prelude.{◌≡◌, Bool, []}
use Rattle.mc_procs.specs.Fitting.{AllFit}
use Rattle.mc_procs.specs.Procedures.{PlainProcs}
use Rattle.mc_analysis.specs.Rules.{Determined, FaultsAre}
use Rattle.mc_analysis.specs.declared.rules.AnalysisResult.{AnalysisResult}
use Rattle.mc_analysis.specs.declared.rules.AnalysisResult.TheVariants as R

-- goals that are in order are judged by determinism
abbrev pub ByDeterminism : (runs : Bool) → PlainProcs → AnalysisResult → Type 0
ByDeterminism runs q (R.Procs r) = Determined q r × FaultsAre runs r [] × AllFit r
ByDeterminism runs q (R.Broken list) =
    (r : PlainProcs)
    × Determined q r
    × FaultsAre runs r list.items
    × (list.items ≡ [] → ⊥)
    × AllFit r
