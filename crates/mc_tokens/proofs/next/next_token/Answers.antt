use Rattle.mc_tokens.proofs.next.next_token.Goals as goal

pub next_seen-requires-clause-seen : goal.next_seen-requires-clause-seen
next_seen-requires-clause-seen c = c.nothing.ensures c.args.text.now
