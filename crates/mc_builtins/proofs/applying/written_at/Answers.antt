use Rattle.std.proofs.Common.{sym, ◌∙◌}
use Rattle.mc_builtins.proofs.Telling.{tells_same, outcome_written}
use Rattle.mc_builtins.proofs.applying.written_at.Goals as goal

pub returns-in-Some-clause-tells : goal.returns-in-Some-clause-tells
returns-in-Some-clause-tells c =
    tells_same _ _ _ (λ input. outcome_written _ input _ _ _ _ c.requires.state (sym (c.in_ok-text.ensures {u = tt}) ∙ c.in-Some.is)) _ c.wrote.ensures.tells
