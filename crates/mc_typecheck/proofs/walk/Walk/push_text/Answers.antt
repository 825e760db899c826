use Rattle.std.proofs.Common.{refl}
use Rattle.mc_typecheck.specs.Ties.{of_text}
use Rattle.mc_typecheck.proofs.Stepping.{constant_taken}
use Rattle.mc_typecheck.proofs.walk.Walk.push_text.Goals as goal

pub returns : goal.returns
returns c = λ P D s shows at.
    let e = c.in_ok-push_constant.ensures in
    constant_taken P D c.args.signatures.now c.args.self.now c.push_constant.new.self s of_text refl shows at e.next e.stack e.steps
