use Rattle.std.proofs.Common.{ap}
use Rattle.mc_model.specs.Builtins.{outcome}
use Rattle.mc_values.specs.Heap.{value_at}
use Rattle.mc_builtins.specs.Answers.{known}
use Rattle.mc_builtins.proofs.Telling.{tells_same, one_value, two_values}
use Rattle.mc_builtins.proofs.applying.answered.Goals as goal

pub returns-in-len1-clause-tells : goal.returns-in-len1-clause-tells
returns-in-len1-clause-tells c =
    tells_same _ _ _ (λ input. ap (outcome (known c.args.library.now) input c.args.op) (one_value (value_at c.args.heap.now) c.args.args.now c.in-len1.len_at_least c.in-len1.len_below)) _ c.at_one.ensures.tells

pub returns-in-len2-clause-tells : goal.returns-in-len2-clause-tells
returns-in-len2-clause-tells c =
    tells_same _ _ _ (λ input. ap (outcome (known c.args.library.now) input c.args.op) (two_values (value_at c.args.heap.now) c.args.args.now c.in-len2.len_at_least c.in-len2.len_below)) _ c.at_two.ensures.tells
