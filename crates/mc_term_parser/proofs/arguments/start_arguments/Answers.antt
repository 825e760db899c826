use Rattle.std.proofs.Common.{◌∷◌, drop, true, sym, ap, ◌∙◌}
use Rattle.mc_term_parser.specs.Part as P
use Rattle.mc_term_parser.specs.declared.frame.Series.TheVariants.{Arguments}
use Rattle.mc_term_parser.specs.code.Machine as M
use Rattle.mc_term_parser.specs.code.Views.{state, frames, readings}
use Rattle.mc_term_parser.specs.code.Arguments.{with_arguments}
use Rattle.mc_term_parser.proofs.Steps.{start_at}
use Rattle.mc_term_parser.proofs.Leading.{led, then}
use Rattle.mc_term_parser.proofs.arguments.start_arguments.Goals as goal

pub returns-then-read : goal.returns-then-read
returns-then-read c =
    let tokens = c.args.tokens.now in
    let s = c.args.context in
    let fs = frames c.args.parser.stack.items in
    let read = c.in_ok-read.read in
    let ts = drop read.at tokens in
    then (c.in_ok-read.ensures.reads c.args.name c.args.line s.commas s.limit fs)
    (led _ _
    (ap (λ b. with_arguments b c.args.name c.args.line (readings read.parts) s.commas s.limit fs ts)
    c.if-read.true
    ∙ ap (λ p. M.Done s.commas s.limit fs p ts) (sym (c.closed.ensures ∙ ap P.closed c.in_ok-term.ensures))
    ∙ ap (state tokens) (sym c.done.ensures)))

pub returns : goal.returns
returns c =
    let tokens = c.args.tokens.now in
    let s = c.args.context in
    let fs = frames c.args.parser.stack.items in
    let read = c.in_ok-read.read in
    let ts = drop read.at tokens in
    then (c.in_ok-read.ensures.reads c.args.name c.args.line s.commas s.limit fs)
    (led _ _
    (ap (λ b. with_arguments b c.args.name c.args.line (readings read.parts) s.commas s.limit fs ts)
    c.if-read.false
    ∙ sym (start_at tokens _ _ _ _ _ c.start.ensures c.in_ok-with.ensures.frames c.in_ok-with.ensures.at)))
