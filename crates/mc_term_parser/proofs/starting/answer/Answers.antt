use Rattle.std.proofs.Common.{drop, ap, refl}
use Rattle.mc_term_parser.specs.code.Views.{frames, part, now}
use Rattle.mc_term_parser.proofs.starting.answer.Goals as goal

pub returns-in-Yes-clause-found : goal.returns-in-Yes-clause-found
returns-in-Yes-clause-found c =
    λ tokens. (
      part c.in-Yes.part,
      ap (now (frames c.args.machine.parser.stack.items) (drop c.args.machine.parser.at tokens))
          c.in-Yes.is,
      refl,
    )
