use Rattle.std.proofs.Common.{take}
use Rattle.mc_insts.specs.Defining.{AllFitThere}
use Rattle.test_support.proofs.fits.args_fit.Given as goal

abbrev pub invariant-loop-arg : goal.invariant-loop-arg
invariant-loop-arg l = AllFitThere l.nodes l.definitions (take l.arg-index l.args)
