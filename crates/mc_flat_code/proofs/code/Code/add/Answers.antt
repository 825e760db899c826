use Rattle.std.proofs.Common.{◌≡◌, subst, sym, length, arith}
use Rattle.mc_flat_code.specs.Standing.{At}
use Rattle.mc_flat_code.specs.code.Building.{Laid}
use Rattle.mc_flat_code.proofs.Building.{add_laid, add_at}
use Rattle.mc_flat_code.proofs.Mentioning.{brings_goal}
use Rattle.mc_flat_code.proofs.code.Code.add.Goals as goal

pub returns-clause-laid : goal.returns-clause-laid
returns-clause-laid c =
    let last : c.len-place.result ≡ length c.args.self.now.instrs.items = omega (arith, c.len-place.ensures) in
    subst (λ n. Laid c.args.self.now (record c.args.self.now { instrs = c.push.new.self }) n) (sym last)
    (add_laid c.args.self.now c.args.goal c.push.new.self c.in_ok-push.ensures.items c.requires.is_code c.requires.lower)

pub returns-clause-at : goal.returns-clause-at
returns-clause-at c =
    let last : c.len-place.result ≡ length c.args.self.now.instrs.items = omega (arith, c.len-place.ensures) in
    subst (λ n. At (record c.args.self.now { instrs = c.push.new.self }) n c.args.goal) (sym last)
    (add_at c.args.self.now c.args.goal c.push.new.self c.in_ok-push.ensures.items)

pub returns-clause-brings : goal.returns-clause-brings
returns-clause-brings c = brings_goal c.args.self.now c.args.goal c.push.new.self c.in_ok-push.ensures.items
