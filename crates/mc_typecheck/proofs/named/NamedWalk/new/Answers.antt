use Rattle.mc_typecheck.proofs.Naming.{named_first}
use Rattle.mc_typecheck.proofs.named.NamedWalk.new.Goals as goal

pub returns : goal.returns
returns c = λ P D.
    named_first P D (record { types = c.in_ok-all_free.field-0; stack = c.in_ok-with_capacity.field-0; picks = c.in_ok-with_capacity-2.field-0 }) c.args.vars
    c.in_ok-all_free.ensures c.in_ok-with_capacity.ensures.items c.in_ok-with_capacity-2.ensures.items
