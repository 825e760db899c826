use Rattle.std.proofs.Common.{nat_lt, true, subst}
use Rattle.mc_cmd.specs.code.Looking.{IsLooked}
use Rattle.mc_cmd.proofs.Looking.{first_and_rest, looked_con, looked_other, is_below}
use Rattle.mc_cmd.proofs.named.look.Goals as goal

pub returns-in_ok-put-in-Some : goal.returns-in_ok-put-in-Some
returns-in_ok-put-in-Some c =
    subst (λ vs. IsLooked c.args.count vs c.args.left.now.items c.put-in-Some.new.left.items (nat_lt c.in-Some.symbol c.args.count))
    (first_and_rest c.args.values.now c.first-item.result c.in-len1-up.len_at_least c.first-item.is)
    (looked_con c.args.count c.first-item.result _ c.in-Some.symbol c.in-Some.args.now c.args.left.now.items c.put.new.left.items c.put-in-Some.new.left.items (nat_lt c.in-Some.symbol c.args.count) (c.in-Some.ensures {u = tt}) (c.in_ok-put.ensures {u = tt}) (c.in_ok-put-in-Some.ensures {u = tt})
    (is_below c.in-Some.symbol c.args.count))

pub returns-in-None : goal.returns-in-None
returns-in-None c =
    subst (λ vs. IsLooked c.args.count vs c.args.left.now.items c.put.new.left.items true)
    (first_and_rest c.args.values.now c.first-item.result c.in-len1-up.len_at_least c.first-item.is)
    (looked_other c.args.count c.first-item.result _ c.args.left.now.items c.put.new.left.items (c.in-None.ensures {u = tt}) (c.in_ok-put.ensures {u = tt}))
