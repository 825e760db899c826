use Rattle.std.proofs.Common.{◌∙◌, sym, ap, refl}
use Rattle.mc_self_check.specs.code.Bindings.{bound_to}
use Rattle.mc_self_check.proofs.Agreeing.{known_matched, bound_matched}
use Rattle.mc_self_check.proofs.matching.matches_variable.Goals as goal

pub returns-in-Some : goal.returns-in-Some
returns-in-Some c =
    known_matched c.args.bound.now.items c.args.variable c.in-Some.known.now c.args.t.now c.same_type.result
    (ap (λ l. bound_to l c.args.variable) (sym c.as_slice.ensures.value) ∙ c.in-Some.ensures) c.same_type.ensures

pub returns-in_ok-push-in-None : goal.returns-in_ok-push-in-None
returns-in_ok-push-in-None c =
    bound_matched c.args.bound.now.items c.push.new.self.items _ c.args.variable c.args.t.now
    c.in_ok-push-in-None.ensures.items
    (ap (λ l. bound_to l c.args.variable) (sym c.as_slice.ensures.value) ∙ c.in-None.ensures)
    refl c.in_ok-t-in-None.ensures
