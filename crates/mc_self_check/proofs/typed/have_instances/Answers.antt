use Rattle.std.proofs.Common.{◌≡◌, ◌↔◌, ◌<◌, length, map, get_or, sym, subst, arith}
use Rattle.std.proofs.lemmas.Grind.{get_or_default_zero}
use Rattle.std.specs.Prelude.{IsTrue}
use Rattle.mc_program.specs.PlainPrograms.{plain_type, type_terms}
use Rattle.mc_model.specs.Types.{instance_of, type_at}
use Rattle.mc_procs.specs.VariableTypes.{type_in}
use Rattle.mc_self_check.proofs.Agreeing.{place_tested}
use Rattle.mc_self_check.proofs.typed.have_instances.Goals as goal

pub loop-place-preserved : goal.loop-place-preserved
loop-place-preserved c =
    let at = type_at (type_terms (map plain_type c.args.inner.now)) in
    let x = get_or c.args.variables.now c.loop-place.place 0 in
    let ltx : c.loop-place.place < length c.args.variables.now = omega arith in
    let ltp : c.loop-place.place < length c.args.patterns.now = omega arith in
    (place_tested (type_in c.args.types.now) c.args.variables.now c.args.patterns.now c.loop-place.place x c.index-patterns-place.result at _ c.is_instance.result
    ltx ltp (sym (get_or_default_zero c.args.variables.now c.loop-place.place x ltx)) c.index-patterns-place.is
    (subst (λ y. IsTrue c.is_instance.result ↔ (y ≡ instance_of at (plain_type c.index-patterns-place.result))) c.type_of-t.ensures c.is_instance.ensures)
    c.loop-place.invariant).0 c.if-not-is_instance.false

pub returns-then-not-is_instance : goal.returns-then-not-is_instance
returns-then-not-is_instance c =
    let at = type_at (type_terms (map plain_type c.args.inner.now)) in
    let x = get_or c.args.variables.now c.loop-place.place 0 in
    let ltx : c.loop-place.place < length c.args.variables.now = omega arith in
    let ltp : c.loop-place.place < length c.args.patterns.now = omega arith in (
      λ h. cc,
      λ w. let told = (place_tested (type_in c.args.types.now) c.args.variables.now c.args.patterns.now c.loop-place.place x c.index-patterns-place.result at _ c.is_instance.result
          ltx ltp (sym (get_or_default_zero c.args.variables.now c.loop-place.place x ltx)) c.index-patterns-place.is
          (subst (λ y. IsTrue c.is_instance.result ↔ (y ≡ instance_of at (plain_type c.index-patterns-place.result))) c.type_of-t.ensures c.is_instance.ensures)
          c.loop-place.invariant).1 w in
          let isnt = c.if-not-is_instance.true in cc,
    )
