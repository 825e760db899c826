use Rattle.std.proofs.Common.{ap, ◌∙◌}
use Rattle.mc_term_parser.specs.code.Views.{frames}
use Rattle.mc_term_parser.proofs.Steps.{frames_push}
use Rattle.mc_term_parser.proofs.frame.ParserStack.with.Goals as goal

pub returns-clause-frames : goal.returns-clause-frames
returns-clause-frames c =
    ap frames c.in_ok-push.ensures.items ∙ frames_push c.args.self.stack.items _
