use Rattle.std.proofs.Common.{◌≡◌, drop, sym, ap, ◌∙◌, subst, IfOk}
use Rattle.mc_term_parser.specs.code.Machine as M
use Rattle.mc_term_parser.specs.code.Seen.{seen_making}
use Rattle.mc_term_parser.specs.code.Views.{state, frames, part}
use Rattle.mc_term_parser.proofs.Steps.{frames_push}
use Rattle.mc_term_parser.proofs.reader.reduce.Goals as goal

pub returns-in-Some : goal.returns-in-Some
returns-in-Some c =
    let tokens = c.args.tokens.now in
    subst
    (λ fs.
    IfOk c.reduce_in.result
    (λ m.
    state tokens m
    ≡ M.reduce seen_making c.args.commas fs (part c.args.part)
    (drop c.args.parser.at tokens)))
    (sym (ap frames c.in-Some.ensures.items ∙ frames_push c.pop.new.self.items c.in-Some.frame))
    c.reduce_in.ensures
