use Rattle.std.proofs.Common.{sym, ◌∙◌}
use Rattle.mc_decl_syntax.specs.Entries.{plain_files}
use Rattle.mc_modules.proofs.Found.{ambiguous-there}
use Rattle.mc_modules.proofs.linking.Linking.ambiguous.Goals as goal

pub returns-then-is_ambiguous : goal.returns-then-is_ambiguous
returns-then-is_ambiguous c =
    ambiguous-there (plain_files c.args.self.now) c.args.own c.args.uses.now c.loop-used.used-index c.used-item.result _ c.loop-used-test.true c.used-item.is (sym c.is_ambiguous.ensures ∙ c.if-is_ambiguous.true) c.in_ok-what.ensures c.loop-used.invariant
