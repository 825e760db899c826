use Rattle.std.proofs.Common.{◌+◌, ◌++◌, drop, sym, ap, ◌∙◌, encode_utf8}
use Rattle.mc_tokens.specs.Spots.{Plain}
use Rattle.mc_tokens.specs.Contents.{contents}
use Rattle.mc_tokens.proofs.Escapes.{some_if, none_if, end_walk, end_says, no_end_walk, no_end_says}
use Rattle.mc_tokens.proofs.quoting.numeral_end.Goals as goal

pub returns-in-Some-clause-value : goal.returns-in-Some-clause-value
returns-in-Some-clause-value c = λ q start. end_walk q start c.args.at c.args.i c.args.text.now c.requires.range.1 c.args.base c.args.value c.args.some c.requires.stops (some_if _ _ _ c.in-Some.ensures).0

pub returns-in-Some-clause-says : goal.returns-in-Some-clause-says
returns-in-Some-clause-says c = λ q.
    end_says q 0 0 c.args.i c.args.text.now c.requires.range.1 c.args.base c.args.value c.args.some c.requires.stops (some_if _ _ _ c.in-Some.ensures).0
    ∙ ap (λ v. encode_utf8 v ++ contents q Plain 0 (drop (c.args.i + 1) c.args.text.now)) (sym (some_if _ _ _ c.in-Some.ensures).1)

pub returns-in-None-clause-value : goal.returns-in-None-clause-value
returns-in-None-clause-value c = λ q start.
    no_end_walk q start c.args.at c.args.i c.args.text.now c.requires.range.1 c.args.base c.args.value c.args.some c.requires.stops (none_if _ _ c.in-None.ensures) ∙ sym (c.no_escape.ensures.value start)

pub returns-in-None-clause-says : goal.returns-in-None-clause-says
returns-in-None-clause-says c = λ q. no_end_says q 0 0 c.args.i c.args.text.now c.requires.range.1 c.args.base c.args.value c.args.some c.requires.stops (none_if _ _ c.in-None.ensures)
