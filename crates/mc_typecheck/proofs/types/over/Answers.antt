use Rattle.std.proofs.Common.{◌≡◌, ◌++◌, ◌∷◌, [], List, Option, Some, None, sym, ap, ◌∙◌}
use Rattle.mc_program.specs.declared.ty.Ty.{Ty}
use Rattle.mc_typecheck.proofs.Written.{union_applied}
use Rattle.mc_typecheck.proofs.types.over.Goals as goal

abbrev held : List Ty → Option (List Ty) → List Ty
held d None = d
held d (Some x) = x

held_some : (a b : List Ty) → Some a ≡ Some b → a ≡ b
held_some a b e = ap (held a) e

pub returns-in_ok-of-in-Some : goal.returns-in_ok-of-in-Some
returns-in_ok-of-in-Some c = λ all e.
    let same : c.in-Some.args ≡ all = held_some c.in-Some.args all (sym c.in-Some.is ∙ e) in
    union_applied c.args.number all c.in_ok-of-in-Some.field-0 c.args.last (c.in_ok-of-in-Some.ensures.elements ∙ c.in_ok-push-in-Some.ensures.items ∙ ap (λ (xs : List Ty). xs ++ c.args.last ∷ []) (c.into_vec-args.ensures.items ∙ same))
