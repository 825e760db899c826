use Rattle.std.proofs.Common.{◌-◌, ◌<◌, ◌∙◌, ap, map, arith}
use Rattle.mc_decl_syntax.specs.Entries.{plain_entry}
use Rattle.mc_modules.specs.Files.{module_name}
use Rattle.mc_names.specs.Numbers.{number_of}
use Rattle.mc_modules.specs.code.Visibilities.{put_name}
use Rattle.mc_modules.proofs.ModulesSeen.{named-none, named-more}
use Rattle.mc_modules.proofs.module_names.ModuleNames.put_from.Goals as goal

pub loop-k-init : goal.loop-k-init
loop-k-init c = record { above = c.requires; within = omega arith; named = named-none c.args.files.now _ }

pub loop-k-preserved : goal.loop-k-preserved
loop-k-preserved c =
    let p : 0 < c.loop-k.k = omega arith in
    record {
      above = omega arith;
      within = omega arith;
      named = named-more c.args.files.now c.loop-k.k c.index-files-k.result _ _ _ p c.loop-k.invariant.within c.loop-k.invariant.named
          (c.in_ok-put_file.ensures
          ∙ ap (λ l. put_name (module_name (map plain_entry l)) (c.loop-k.k - 1) (number_of c.loop-k.self)) (c.as_slice.ensures.items ∙ c.index-files-k.is));
    }
