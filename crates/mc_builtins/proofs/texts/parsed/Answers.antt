use Rattle.std.proofs.Common.{◌∙◌}
use Rattle.mc_builtins.proofs.Numbers.{number_parsed, none_parsed}
use Rattle.mc_builtins.proofs.texts.parsed.Goals as goal

pub returns-in-Ok-parse : goal.returns-in-Ok-parse
returns-in-Ok-parse c library =
    number_parsed c.in-Ok.text.now c.args.text.now ((c.in-Ok.ensures {u = tt}).cases.0 ∙ c.bytes.ensures.items) c.in-Ok-parse.n (c.in-Ok-parse.ensures {u = tt}).value.0

pub returns-in-Err-parse : goal.returns-in-Err-parse
returns-in-Err-parse c library =
    none_parsed c.in-Ok.text.now c.args.text.now ((c.in-Ok.ensures {u = tt}).cases.0 ∙ c.bytes.ensures.items) (c.in-Err-parse.ensures {u = tt}).value.0
