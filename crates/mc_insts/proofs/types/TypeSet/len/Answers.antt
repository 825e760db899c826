use Rattle.std.proofs.Common.{List, length, sym, ap, ◌∙◌}
use Rattle.mc_insts.specs.declared.types.TypeKey.{TypeKey}
use Rattle.mc_insts.proofs.TypeKeys.{keys_length}
use Rattle.mc_insts.proofs.types.TypeSet.len.Goals as goal

pub returns : goal.returns
returns c = c.len.ensures.len ∙ ap (λ (keys : List TypeKey). length keys) c.self.view_is ∙ sym (keys_length c.args.self.now)
