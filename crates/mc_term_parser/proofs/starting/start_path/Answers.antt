use Rattle.std.proofs.Common.{rules, ◌∷◌, drop, true, sym, ap, ◌∙◌, subst, IfOk}
use Rattle.mc_term_parser.specs.declared.frame.ParserStack.{ParserStack}
use Rattle.mc_term_parser.specs.declared.frame.Series.TheVariants.{Arguments}
use Rattle.mc_term_parser.specs.code.Machine as M
use Rattle.mc_term_parser.specs.code.Seen.{no_seen}
use Rattle.mc_term_parser.specs.code.Views.{frames}
use Rattle.mc_term_parser.specs.code.Arguments.{Reaches}
use Rattle.mc_term_parser.proofs.Leading.{at_once}
use Rattle.mc_term_parser.proofs.Starts.{path_on}
use Rattle.mc_term_parser.proofs.starting.start_path.Goals as goal

pub returns-in-OpenCt : goal.returns-in-OpenCt
returns-in-OpenCt c =
    let s = c.args.context in
    let tokens = c.args.tokens.now in
    let fs = frames c.args.parser.stack.items in
    subst (λ u. IfOk c.start_arguments.result (Reaches tokens u))
    (ap
    (λ (p : ParserStack).
    M.Start true 1200
    (M.InParts (Arguments c.args.name) c.args.line no_seen s.commas s.limit
    ∷ frames p.stack.items) (drop p.at tokens)) c.past.ensures
    ∙ sym
    (path_on tokens c.args.parser.at s.commas s.limit fs c.args.line c.args.name
    (sym c.mark.ensures ∙ c.in-OpenCt.is))) c.start_arguments.ensures

pub returns : goal.returns
returns c = at_once c.args.tokens.now _ c.done.result (search rules)
