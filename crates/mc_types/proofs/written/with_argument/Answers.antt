use Rattle.std.proofs.Common.{◌≡◌, List, [], ◌++◌, ◌∷◌, Option, Some, None, map, sym, ◌∙◌, ap}
use Rattle.mc_program.specs.Programs.{union_type}
use Rattle.mc_program.specs.PlainPrograms.{plain_type, type_terms}
use Rattle.mc_program.specs.declared.ty.Ty.{Ty}
use Rattle.mc_types.specs.Trees.{applied}
use Rattle.mc_types.proofs.TypeViews.{plain_type-Union, type_terms-push}
use Rattle.mc_types.proofs.written.with_argument.Goals as goal

abbrev held : Option (List Ty) → List Ty
held (Some ts) = ts
held None = []

pub returns : goal.returns
returns c =
    let u = c.in-Union.number in
    let same : c.in-Some.args ≡ c.in-Union.field-1 = ap held (c.in-Some.ensures.arguments u c.in-Union.field-1 c.in-Union.is) in
    let ty = ap plain_type c.in-Union.is ∙ plain_type-Union u c.in-Union.field-1 in
    plain_type-Union u _
    ∙ ap (λ ts. union_type u (type_terms (map plain_type ts))) (c.in_ok-push-in-Some.ensures.ok ∙ ap (λ ts. ts ++ c.args.arg ∷ []) same)
    ∙ ap (union_type u) (type_terms-push c.in-Union.field-1 c.args.arg)
    ∙ sym (ap (λ t. applied t (plain_type c.args.arg)) ty)
