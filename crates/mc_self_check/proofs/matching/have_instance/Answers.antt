use Rattle.std.proofs.Common.{◌≡◌, length, map, refl, arith}
use Rattle.mc_program.specs.PlainPrograms.{plain_type}
use Rattle.mc_model.specs.Types.{instance_of}
use Rattle.mc_procs.specs.VariableTypes.{type_in}
use Rattle.mc_self_check.proofs.Agreeing.{finished, by_bindings, it_agrees}
use Rattle.mc_self_check.proofs.matching.have_instance.Goals as goal

pub returns : goal.returns
returns c =
    let bs = c.loop-place.bound.items in
    let same : length c.args.variables.now ≡ length c.args.patterns.now = omega arith in
    let whole = (finished (type_in c.args.types.now) c.args.variables.now c.args.patterns.now c.loop-place.place bs
    (λ σ. map (type_in c.args.types.now) c.args.variables.now ≡ map (instance_of σ) (map plain_type c.args.patterns.now))
    (omega arith) (omega arith) c.loop-place.invariant (by_bindings bs)).0 (it_agrees bs) in
    (λ h. (by_bindings bs, whole), λ h. refl)
