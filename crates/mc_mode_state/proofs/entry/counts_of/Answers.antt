use Rattle.std.proofs.Common.{◌∙◌, ◌+◌, ℕ, ap, sym, subst, zero-add}
use Rattle.mc_accepted.specs.Ordered.{times_in}
use Rattle.mc_procs.specs.Named.{NumbersBelow}
use Rattle.mc_mode_state.proofs.entry.counts_of.Goals as goal

pub count_up-requires : goal.count_up-requires
count_up-requires c = subst (λ (n : ℕ). NumbersBelow n c.args.vars.now) (sym c.in_ok-row.ensures.many) c.requires

pub returns-clause-counts : goal.returns-clause-counts
returns-clause-counts c = λ x.
    c.in_ok-count_up.ensures.counts x
    ∙ (ap (λ (n : ℕ). n + times_in x c.args.vars.now) (c.in_ok-row.ensures.zeros x) ∙ zero-add (times_in x c.args.vars.now))
