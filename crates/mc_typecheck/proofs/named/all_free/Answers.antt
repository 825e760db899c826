use Rattle.std.proofs.Common.{◌∙◌, ◌++◌, [], ◌∷◌, ap, sym}
use Rattle.mc_types.specs.declared.written_types.Written.{Free}
use Rattle.mc_typecheck.proofs.Naming.{free_next}
use Rattle.mc_typecheck.proofs.named.all_free.Goals as goal

pub loop-place-preserved : goal.loop-place-preserved
loop-place-preserved c = c.in_ok-push.ensures.items ∙ ap (λ xs. xs ++ Free c.loop-place.place ∷ []) c.loop-place.invariant ∙ sym (free_next c.loop-place.place)
