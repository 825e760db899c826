use Rattle.std.proofs.Common.{[], arith}
use Rattle.mc_decl_syntax.specs.Entries.{plain_files}
use Rattle.mc_modules.proofs.ModulesSeen.{visibilities-more}
use Rattle.mc_modules.proofs.visibility.visibilities.Goals as goal

pub loop-own-preserved : goal.loop-own-preserved
loop-own-preserved c =
    visibilities-more (plain_files c.args.files.now) c.args.files.now c.loop-own.own [] c.in_ok-visibility_of.field-0 c.loop-own.all.items c.push.new.self.items _ (omega arith)
    c.in_ok-push.ensures.items c.in_ok-visibility_of.ensures c.loop-own.invariant
