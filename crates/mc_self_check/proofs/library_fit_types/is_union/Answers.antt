use Rattle.std.proofs.Common.{◌≡◌, ◌↔◌, IsTrue, List, [], ◌∷◌, map, subst}
use Rattle.mc_program.specs.PlainPrograms.{plain_type}
use Rattle.mc_program.specs.declared.ty.Ty.{Ty}
use Rattle.mc_self_check.specs.code.Types.{simple_type}
use Rattle.mc_self_check.proofs.OneArgument.{is_over_one}
use Rattle.mc_self_check.proofs.library_fit_types.is_union.Goals as goal

pub returns-then-of-number : goal.returns-then-of-number
returns-then-of-number c =
    let Is : List Ty → Type 0 =
    λ ts. IsTrue c.is_one.result ↔ (map plain_type ts ≡ simple_type c.args.arg ∷ []) in
    is_over_one c.args.t.now c.in-Union.of c.args.number c.in-Union.args (simple_type c.args.arg)
    c.is_one.result c.in-Union.is c.if-of-number.true
    (subst Is c.as_slice.ensures.items c.is_one.ensures)
