use Rattle.std.proofs.Common.{take}
use Rattle.mc_compile.specs.Sources.{texts_of}
use Rattle.mc_compile.proofs.ReadFiles.{AreDone}
use Rattle.mc_compile.proofs.reading.Read.of.Given as goal

abbrev pub invariant-loop-given : goal.invariant-loop-given
invariant-loop-given l = AreDone 0 (texts_of (take l.given-index l.files)) l.reader
