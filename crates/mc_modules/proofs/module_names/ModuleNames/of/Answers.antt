use Rattle.std.proofs.Common.{ap}
use Rattle.mc_names.specs.Numbers.{number_of}
use Rattle.mc_modules.proofs.Numbers.{entries_of, vec_name}
use Rattle.mc_modules.proofs.ModulesSeen.{all_named}
use Rattle.mc_modules.proofs.module_names.ModuleNames.of.Goals as goal

pub returns : goal.returns
returns c =
    all_named c.args.files.now c.saturating_sub.result _ _ _ c.saturating_sub.ensures (λ w. ap (λ es. number_of (entries_of vec_name es) w) c.new.ensures.empty)
    c.in_ok-put_from.ensures c.in_ok-put_from-2.ensures
