use Rattle.std.proofs.Common.{◌≡◌, ◌<◌, drop, false, sym, ap, ◌∙◌, subst, arith}
use Rattle.mc_term_parser.specs.code.Machine as M
use Rattle.mc_term_parser.specs.Part as P
use Rattle.mc_term_parser.specs.code.Seen.{Seen}
use Rattle.mc_term_parser.specs.code.Leads as Run
use Rattle.mc_term_parser.specs.code.Views.{state, frames, reading}
use Rattle.mc_term_parser.proofs.Falls.{weight, falls, run_falls}
use Rattle.mc_term_parser.proofs.Ends.{Runs, found_reads, none_reads, at_some, at_none, step_more}
use Rattle.mc_term_parser.proofs.starting.read.Goals as goal

pub run-init : goal.run-init
run-init c =
    let tokens = c.args.tokens.now in
    subst (Runs (drop 0 tokens))
    (sym
    (ap (state tokens) c.start-machine.ensures ∙ ap
    (λ xs. M.Start false 1200 (frames xs) (drop 0 tokens)) c.new.ensures.items)) Run.here

pub run-smaller : goal.run-smaller
run-smaller c =
    let tokens = c.args.tokens.now in
    let s = state tokens c.run.machine in
    omega (arith, run_falls c.in_ok-machine.ensures, falls s (sym (c.is_over.ensures tokens) ∙ c.run-test.true))

pub run-preserved : goal.run-preserved
run-preserved c =
    let tokens = c.args.tokens.now in
    step_more (drop 0 tokens) (state tokens c.run.machine) _ c.run.invariant c.in_ok-machine.ensures

pub returns-clause-found : goal.returns-clause-found
returns-clause-found c =
    let tokens = c.args.tokens.now in
    found_reads (drop 0 tokens) (state tokens c.run.machine) c.answer.result c.run.invariant
    (at_some c.answer.result (λ ts r. (p : P.Part Seen) × (state ts c.run.machine ≡ M.Yes p) × (p.tree ≡ reading r)) tokens c.answer.ensures.found)

pub returns-clause-none : goal.returns-clause-none
returns-clause-none c =
    let tokens = c.args.tokens.now in
    at_none c.answer.result _ _
    (λ f.
    none_reads (drop 0 tokens) (state tokens c.run.machine) c.run.invariant
    (f tokens (sym (c.is_over.ensures tokens) ∙ c.run-test.false))) c.answer.ensures.none
