use Rattle.std.proofs.Common.{◌∙◌, ◌++◌, ◌∷◌, [], ap, arith, ◌≡◌, length}
use Rattle.mc_typecheck.specs.Ties.{of_head}
use Rattle.mc_typecheck.proofs.Stepping.{sole_taken}
use Rattle.mc_typecheck.proofs.walk.Walk.close_head.Goals as goal

pub returns : goal.returns
returns c = λ P D s shows at.
    sole_taken P D c.args.signatures.now c.args.self.now c.tie.new.self s (of_head c.args.pred) c.args.arguments c.len.result (record { candidates = c.in_ok-meanings.meanings; places = c.in_ok-places.places }) shows at
    (c.tie.ensures.next ∙ c.take.ensures.next)
    (c.tie.ensures.stack ∙ c.take.ensures.left)
    (c.in_ok-tie.ensures.steps ∙ ap (λ xs. xs ++ record { candidates = c.in_ok-meanings.meanings; places = c.in_ok-places.places } ∷ []) c.take.ensures.steps)
    c.in_ok-places.ensures.taken
    (let long : c.len.result ≡ length c.in_ok-places.places.items = omega (arith, c.len.ensures) in long)
    (λ d e. c.in_ok-meanings.ensures d shows.0 e)
