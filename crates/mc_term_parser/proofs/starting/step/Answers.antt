use Rattle.std.proofs.Common.{rules, ◌≡◌, drop, sym, ap, ◌∙◌, subst, IfOk}
use Rattle.mc_term_parser.specs.code.Machine as M
use Rattle.mc_term_parser.specs.code.Seen.{seen_making}
use Rattle.mc_term_parser.specs.code.Views.{state, frames, part, now}
use Rattle.mc_term_parser.specs.code.Arguments.{Reaches}
use Rattle.mc_term_parser.proofs.Starts.{rest_cut}
use Rattle.mc_term_parser.proofs.Leading.{led, at_once, ok_at_once}
use Rattle.mc_term_parser.proofs.starting.step.Goals as goal

pub returns-in-Start : goal.returns-in-Start
returns-in-Start c =
    let tokens = c.args.tokens.now in
    let m = c.args.machine in
    let fs = frames m.parser.stack.items in
    subst (λ s. IfOk c.start_at.result (Reaches tokens s))
    (ap (M.start seen_making c.in-Start.context.commas c.in-Start.context.limit fs)
    (ap (λ n. drop n tokens) c.min-at.ensures ∙ rest_cut tokens m.parser.at) ∙ ap
    (λ p. M.step seen_making (now fs (drop m.parser.at tokens) p)) (sym c.in-Start.is))
    c.start_at.ensures

pub returns-in-Done : goal.returns-in-Done
returns-in-Done c =
    let tokens = c.args.tokens.now in
    let m = c.args.machine in
    let fs = frames m.parser.stack.items in
    ok_at_once tokens (M.step seen_making (state tokens m)) c.step_done.result
    (subst (λ s. IfOk c.step_done.result (λ m. state tokens m ≡ s))
    (ap
    (λ ts.
    M.step seen_making
    (M.Done c.in-Done.context.commas c.in-Done.context.limit fs (part c.in-Done.part) ts))
    (ap (λ n. drop n tokens) c.min-at.ensures ∙ rest_cut tokens m.parser.at) ∙ ap
    (λ p. M.step seen_making (now fs (drop m.parser.at tokens) p)) (sym c.in-Done.is))
    c.step_done.ensures)

pub returns-in-Yes : goal.returns-in-Yes
returns-in-Yes c =
    let tokens = c.args.tokens.now in
    let m = c.args.machine in
    led _ _
    (ap (λ p. M.step seen_making (now (frames m.parser.stack.items) (drop m.parser.at tokens) p))
    c.in-Yes.is)

pub returns-in-No : goal.returns-in-No
returns-in-No c = at_once c.args.tokens.now _ c.refused.result (search rules)
