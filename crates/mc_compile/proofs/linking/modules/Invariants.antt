use Rattle.std.proofs.Common.{take, map}
use Rattle.mc_compile.proofs.ReadFiles.{AreDone}
use Rattle.mc_compile.proofs.linking.modules.Given as goal

abbrev pub invariant-loop-text : goal.invariant-loop-text
invariant-loop-text l = AreDone l.first (map (λ text. text.now) (take l.text-index l.texts)) l.reader
