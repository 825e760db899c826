use Rattle.std.proofs.Common.{◌∷◌, drop, true, sym, ap, ◌∙◌, subst, IfOk}
use Rattle.std.proofs.lemmas.List.{drop_all}
use Rattle.mc_term_parser.specs.declared.frame.ParserStack.{ParserStack}
use Rattle.mc_term_parser.specs.declared.frame.Series.TheVariants.{Arguments}
use Rattle.mc_term_parser.specs.code.Machine as M
use Rattle.mc_term_parser.specs.code.Seen.{no_seen}
use Rattle.mc_term_parser.specs.code.Views.{state, frames}
use Rattle.mc_term_parser.specs.code.Arguments.{Reaches}
use Rattle.mc_term_parser.proofs.Leading.{at_once}
use Rattle.mc_term_parser.proofs.Starts.{compound_on}
use Rattle.mc_term_parser.proofs.starting.start_compound.Goals as goal

pub returns : goal.returns
returns c =
    let s = c.args.context in
    let tokens = c.args.tokens.now in
    let fs = frames c.args.parser.stack.items in
    subst (λ u. IfOk c.start_arguments.result (Reaches tokens u))
    (ap
    (λ (p : ParserStack).
    M.Start true 1200
    (M.InParts (Arguments c.args.name) c.args.line no_seen s.commas s.limit
    ∷ frames p.stack.items) (drop p.at tokens)) c.past.ensures
    ∙ sym
    (compound_on tokens c.args.parser.at s.commas s.limit fs c.args.line c.args.name
    c.if-parser-tokens.false)) c.start_arguments.ensures

pub returns-then-parser-tokens : goal.returns-then-parser-tokens
returns-then-parser-tokens c =
    let tokens = c.args.tokens.now in
    at_once tokens _ c.refused.result
    (rw (drop_all c.args.parser.at tokens c.if-parser-tokens.true)
    (ap (state tokens) c.refused.ensures))
