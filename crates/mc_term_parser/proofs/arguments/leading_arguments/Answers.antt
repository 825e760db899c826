use Rattle.std.proofs.Common.{◌+◌, drop}
use Rattle.mc_term_parser.specs.code.Seen.{no_seen}
use Rattle.mc_term_parser.specs.code.Views.{reading, readings}
use Rattle.mc_term_parser.proofs.Leading.{reads_none, reads_more}
use Rattle.mc_term_parser.proofs.arguments.leading_arguments.Goals as goal

pub arguments-init : goal.arguments-init
arguments-init c = record {
  within = c.requires;
  reads = reads_none _ _ _ c.in_ok-parts.ensures;
}

pub returns-then-argument-clause-reads : goal.returns-then-argument-clause-reads
returns-then-argument-clause-reads c =
    let tokens = c.args.tokens.now in
    let ts = drop (c.arguments.at + 2) tokens in
    reads_more no_seen (readings c.arguments.parts) _ _ (drop c.arguments.at tokens) ts (reading c.in-Some.argument.reading) _ _
    c.arguments.invariant.reads (rw c.in-Some.is at c.in_ok-argument_at.ensures.reads) c.in_ok-parts-in-Some.ensures c.if-argument.true

pub arguments-preserved : goal.arguments-preserved
arguments-preserved c = record {
  within = rw c.in-Some.is at c.in_ok-argument_at.ensures.within;
  reads =
      let tokens = c.args.tokens.now in
      let ts = drop (c.arguments.at + 2) tokens in
      reads_more no_seen (readings c.arguments.parts) _ _ (drop c.arguments.at tokens) ts (reading c.in-Some.argument.reading) _ _
      c.arguments.invariant.reads (rw c.in-Some.is at c.in_ok-argument_at.ensures.reads) c.in_ok-parts-in-Some.ensures c.if-argument.false;
}
