use Rattle.std.proofs.Common.{◌≡◌, [], ◌+◌, ℕ, List, map, refl, sym, ap, subst, arith}
use Rattle.mc_source.specs.declared.rule.Broken.{Broken}
use Rattle.mc_decl_syntax.specs.Entries.{plain_entry}
use Rattle.mc_names.specs.Linked.{plain_names}
use Rattle.mc_inst_table.specs.Rules.{module_items}
use Rattle.mc_inst_table.specs.code.Faults.{AddsFaults}
use Rattle.mc_inst_table.proofs.Faulting.{adds_none, file_more, adds_all}
use Rattle.mc_inst_table.proofs.faults.inst_faults.Goals as goal

pub loop-file-init : goal.loop-file-init
loop-file-init c = (
  refl,
  subst (λ (bs : List Broken). AddsFaults (plain_names c.args.names.now) [] [] bs) (sym c.new-broken.ensures.items)
      (adds_none (plain_names c.args.names.now) []),
)

pub loop-file-preserved : goal.loop-file-preserved
loop-file-preserved c =
    let l = plain_names c.args.names.now in (
      omega (arith, c.loop-file.invariant.0),
      file_more l c.args.files.now c.loop-file.file-index c.file-item.result c.as_slice.result.now []
          c.loop-file.broken.items c.put_faults.new.broken.items c.loop-file-test.true c.file-item.is c.as_slice.ensures.items
          c.loop-file.invariant.1
          (subst
          (λ (own : ℕ). AddsFaults l (module_items own (map plain_entry c.as_slice.result.now)) c.loop-file.broken.items c.put_faults.new.broken.items)
          c.loop-file.invariant.0 c.in_ok-put_faults.ensures),
    )
