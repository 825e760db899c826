use Rattle.std.proofs.Common.{sym, ◌∙◌}
use Rattle.mc_modules.specs.Files.{items_in_file}
use Rattle.mc_decl_syntax.specs.Entries.{plain_files}
use Rattle.mc_modules.specs.Visible.{file_at}
use Rattle.mc_modules.proofs.Found.{first-undefined}
use Rattle.mc_modules.proofs.linking.Linking.undefined_fault.Goals as goal

pub returns-in_ok-what-in-len1-up : goal.returns-in_ok-what-in-len1-up
returns-in_ok-what-in-len1-up c =
    first-undefined (items_in_file (file_at (plain_files c.args.self.now) c.args.own)) c.args.definitions.now _ _ c.in-len1-up.len_at_least (sym c.is_undefined.ensures ∙ c.if-is_undefined.true) c.in_ok-what-in-len1-up.ensures
