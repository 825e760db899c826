use Rattle.std.proofs.Common.{refl}
use Rattle.mc_typecheck.specs.Ties.{of_number, declared}
use Rattle.mc_typecheck.proofs.Naming.{named_constant}
use Rattle.mc_typecheck.proofs.named.NamedWalk.push_number.Goals as goal

pub returns : goal.returns
returns c = λ yes P D s shows at.
    named_constant P D c.args.self.now c.push_constant.new.self s of_number refl at (c.in_ok-named.ensures yes (declared P D of_number) shows.1)
