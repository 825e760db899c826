use Rattle.std.proofs.Common.{◌≡◌, ◌↔◌, ◌<◌, List, length, map, subst, arith}
use Rattle.std.specs.Prelude.{IsTrue}
use Rattle.mc_program.specs.PlainPrograms.{plain_type, type_terms}
use Rattle.mc_program.specs.declared.ty.Ty.{Ty}
use Rattle.mc_model.specs.Types.{instance_of, type_at}
use Rattle.mc_self_check.proofs.Agreeing.{place_tested, union_matched}
use Rattle.mc_self_check.proofs.instance.+instance.Goals as goal

pub are_instances-loop-place-preserved : goal.are_instances-loop-place-preserved
are_instances-loop-place-preserved t c =
    let ltx : c.loop-place.place < length c.args.types.now = omega arith in
    let ltp : c.loop-place.place < length c.args.patterns.now = omega arith in
    (place_tested plain_type c.args.types.now c.args.patterns.now c.loop-place.place c.index-types-place.result c.index-patterns-place.result
    (type_at (type_terms (map plain_type c.args.args.now))) _ c.is_instance.result ltx ltp c.index-types-place.is c.index-patterns-place.is
    c.is_instance.ensures c.loop-place.invariant).0 c.if-not-is_instance.false

pub are_instances-returns-then-not-is_instance : goal.are_instances-returns-then-not-is_instance
are_instances-returns-then-not-is_instance t c =
    let ltx : c.loop-place.place < length c.args.types.now = omega arith in
    let ltp : c.loop-place.place < length c.args.patterns.now = omega arith in (
      λ h. cc,
      λ w. let told = (place_tested plain_type c.args.types.now c.args.patterns.now c.loop-place.place c.index-types-place.result c.index-patterns-place.result
          (type_at (type_terms (map plain_type c.args.args.now))) _ c.is_instance.result ltx ltp c.index-types-place.is c.index-patterns-place.is
          c.is_instance.ensures c.loop-place.invariant).1 w in
          let isnt = c.if-not-is_instance.true in cc,
    )

pub is_instance-returns-then-u-w : goal.is_instance-returns-then-u-w
is_instance-returns-then-u-w t c =
    let at = type_at (type_terms (map plain_type c.args.args.now)) in
    let b = c.are_instances.result in
    let same = union_matched at c.in-Union.u c.in-Union-t.w c.in-Union.patterns c.in-Union-t.types c.args.pattern.now c.args.t.now c.in-Union.is c.in-Union-t.is (omega arith) in
    let inner = subst (λ (l : List Ty). IsTrue b ↔ (map plain_type c.in-Union-t.types ≡ map (instance_of at) (map plain_type l))) c.as_slice.ensures.items
    (subst (λ (l : List Ty). IsTrue b ↔ (map plain_type l ≡ map (instance_of at) (map plain_type c.as_slice.result.now))) c.as_slice-then-u-w.ensures.items
    c.are_instances.ensures) in
    (λ h. same.0 (inner.0 h), λ e. inner.1 (same.1 e))
