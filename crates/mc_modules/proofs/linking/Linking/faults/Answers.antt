use Rattle.std.proofs.Common.{arith}
use Rattle.mc_modules.proofs.Blamed.{faults_from-more, all-faults}
use Rattle.mc_modules.proofs.linking.Linking.faults.Goals as goal

pub loop-own-preserved : goal.loop-own-preserved
loop-own-preserved c =
    faults_from-more c.args.self.now c.loop-own.own c.loop-own.broken.items _ _ (omega (arith, c.given-own-end.ensures)) c.in_ok-file_faults.ensures c.loop-own.invariant

pub returns : goal.returns
returns c = all-faults c.args.self.now c.loop-own.own c.loop-own.broken.items _ (omega (arith, c.given-own-end.ensures)) c.loop-own.invariant
