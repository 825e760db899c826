use Rattle.std.proofs.Common.{◌↔◌, IsTrue, map, subst, arith}
use Rattle.mc_program.specs.PlainPrograms.{plain_type}
use Rattle.mc_model.specs.Lists.{In}
use Rattle.mc_self_check.proofs.Listing.{not_listed}
use Rattle.mc_self_check.proofs.types.arguments_fit.Goals as goal

pub returns-else-all_fit : goal.returns-else-all_fit
returns-else-all_fit c =
    not_listed c.args.program.now c.args.symbol c.args.of_type (map plain_type c.args.args.now) c.get-def.result.now c.is_listed.result (omega arith) c.get-def.ensures
    (λ h. let no = c.if-all_fit.false in let yes = c.all_fit.ensures.1 h in cc)
    (subst (λ l. IsTrue c.is_listed.result ↔ In c.args.symbol l) c.as_slice.ensures.items c.is_listed.ensures)
