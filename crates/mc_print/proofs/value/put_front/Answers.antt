use Rattle.std.proofs.Common.{◌-◌, ap, sym, subst, arith}
use Rattle.mc_program.specs.Values.{plain_value}
use Rattle.mc_program.specs.Printed.{printed, SymbolsBelow}
use Rattle.mc_print.specs.code.Tasks.{heft}
use Rattle.mc_print.proofs.Pendings.{front_more}
use Rattle.mc_print.proofs.value.put_front.Goals as goal

pub front-preserved : goal.front-preserved
front-preserved c =
    let is = c.index-front-k.is in
    front_more c.args.is_list c.args.front.now c.args.tasks.now.items c.front.tasks.items c.put_separator.new.tasks.items c.push.new.self.items c.front.k (c.front.k - 1) _ c.index-front-k.result
    c.front.invariant (omega (arith, c.front-test.true)) c.in_ok-put_separator.ensures c.in_ok-push.ensures.items
    (λ names. ap (λ v. printed names (plain_value v)) is) (ap (λ v. heft (plain_value v)) is) (λ n. subst (λ v. SymbolsBelow n (plain_value v)) (sym is))
