use Rattle.std.proofs.Common.{◌∙◌, ap, Some}
use Rattle.mc_modules.specs.Visible.{with_module}
use Rattle.mc_modules.proofs.ModulesSeen.{visibility-is}
use Rattle.mc_modules.proofs.visibility.visibility_of.Goals as goal

pub returns : goal.returns
returns c =
    visibility-is c.args.files.now c.args.own c.index-files-own.result c.as_slice-file.result.now _ c.add.new.modules _ _ _ c.requires.own c.requires.names
    (c.as_slice-file.ensures.items ∙ c.index-files-own.is) (c.in_ok-add.ensures ∙ ap (with_module (Some c.args.own)) c.new-unqualified.ensures)
    c.in_ok-add_imported.ensures c.in_ok-seen.ensures c.in_ok-add_only_used.ensures
