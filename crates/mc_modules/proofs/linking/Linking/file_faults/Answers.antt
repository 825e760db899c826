use Rattle.std.proofs.Common.{◌++◌, ◌∙◌, ap, sym}
use Rattle.mc_decl_syntax.specs.Entries.{plain_files}
use Rattle.mc_modules.specs.Faults.{faults_of}
use Rattle.mc_modules.proofs.Blamed.{empty-file, some-file}
use Rattle.mc_modules.proofs.linking.Linking.file_faults.Goals as goal

pub returns-then-is_empty : goal.returns-then-is_empty
returns-then-is_empty c =
    c.in_ok-add_empty.ensures (plain_files c.args.self.now)
    ∙ ap (λ f. c.args.broken.now.items ++ faults_of (plain_files c.args.self.now) c.args.own f)
    (sym (empty-file c.args.self.now c.args.own c.items-items.result.now c.items-items.ensures c.if-is_empty.ensures))

pub returns : goal.returns
returns c = some-file c.args.self.now c.args.own c.items-items.result.now c.items-items.ensures _ _ c.if-is_empty.ensures c.in_ok-item_faults.ensures
