use Rattle.std.proofs.Common.{◌≡◌, ◌-◌, length, subst, arith}
use Rattle.mc_typecheck.specs.Ties.{Declared, of_head, sole, topmost}
use Rattle.mc_typecheck.specs.code.Named.{IsTaken}
use Rattle.mc_typecheck.proofs.Naming.{near, sole_means, named_taken}
use Rattle.mc_typecheck.proofs.named.NamedWalk.close_head.Goals as goal

pub returns-in-Some : goal.returns-in-Some
returns-in-Some c = λ yes P D s shows at.
    let w = c.args.self.now in
    let n = c.args.arguments in
    let from = c.saturating_sub-from.result in
    let Q : Declared → Type 0 = λ d. IsTaken d from w c.take.new.self in
    let left : from ≡ length w.stack.items - n = omega (arith, c.saturating_sub-from.ensures, c.len.ensures, w.stack.ok) in
    named_taken P D w c.take.new.self s (sole P D (of_head c.args.pred) (topmost n s.stack)) (of_head c.args.pred) n from left
    (sole_means P D (of_head c.args.pred) (topmost n s.stack)) (near P D w s at) (subst Q (c.in-Some.ensures P D shows) (c.take.ensures yes))
