use Rattle.std.proofs.Common.{◌≡◌, Bool, true, false, not, length, refl, sym, ap, ◌∙◌, arith}
use Rattle.std.specs.Prelude.{Option, Some, None, is_some}
use Rattle.std.specs.Option.{option_map}
use Rattle.mc_type_table.proofs.Expanding.{begins_by, known_begun}
use Rattle.mc_type_table.proofs.expansion.Known.of.Goals as goal

none_by :
    {A B : Type 0} (f : A → B) (o : Option A) (d : Option B) (b : Bool)
    → is_some o ≡ not b → option_map f o ≡ d → b ≡ true → d ≡ None
none_by f None d b tells is holds = sym is
none_by f (Some a) d b tells is holds =
    absurd (let clash : true ≡ false = tells ∙ ap not holds in cc)

pub loop-number-preserved : goal.loop-number-preserved
loop-number-preserved c =
    λ p are.
    begins_by p c.args.hidden.now c.loop-number.number c.loop-number.bodies.items c.push.new.self.items
    c.loop-number.done.items c.push-in-loop-number.new.self.items c.is_none.result
    (none_by _ c.definition.result _ c.is_none.result c.is_none.ensures (c.definition.ensures p are))
    (c.loop-number.invariant p are) c.in_ok-push.ensures.items c.in_ok-push-2.ensures.items

pub returns : goal.returns
returns c =
    λ l are.
    let count : length c.args.equivalences.now.graph ≡ length l.types = are.count in
    known_begun l c.args.hidden.now c.loop-number.number c.loop-number.bodies.items c.loop-number.done.items _
    (c.loop-number.invariant l are) (omega arith) refl refl
