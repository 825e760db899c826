use Rattle.std.proofs.Common.{sym, ◌∙◌}
use Rattle.std.proofs.lemmas.Result.{IfOk-weaker}
use Rattle.std.proofs.lemmas.Option.{IfSome_then}
use Rattle.mc_term_parser.specs.code.Views.{reading}
use Rattle.mc_term_parser.proofs.Leading.{reads_at_comma, reads_at_close}
use Rattle.mc_term_parser.proofs.arguments.argument_at.Goals as goal

pub returns-in-Comma-clause-reads : goal.returns-in-Comma-clause-reads
returns-in-Comma-clause-reads c =
    IfOk-weaker c.lone_argument.result _ _
    (λ one h.
    IfSome_then one h
    (λ s p ms.
    reads_at_comma c.args.tokens.now c.args.at c.index-tokens-at.result (reading s.reading) s.is_last
    ms c.index-tokens-at.is p.0 (sym c.mark.ensures ∙ c.in-Comma.is) p.1))
    c.lone_argument.ensures

pub returns-in-Close-clause-reads : goal.returns-in-Close-clause-reads
returns-in-Close-clause-reads c =
    IfOk-weaker c.lone_argument-in-Close.result _ _
    (λ one h.
    IfSome_then one h
    (λ s p ms.
    reads_at_close c.args.tokens.now c.args.at c.index-tokens-at-in-Close.result (reading s.reading)
    s.is_last ms c.index-tokens-at-in-Close.is p.0 (sym c.mark.ensures ∙ c.in-Close.is) p.1))
    c.lone_argument-in-Close.ensures
