use Rattle.std.proofs.Common.{arith, rules, FitsSigned, ◌≡◌, ◌++◌, ◌∷◌, [], List, length, sym, ap, ap₂, ◌∙◌}
use Rattle.std.specs.Int.{w64}
use Rattle.std.specs.Prelude.{ℤ}
use Rattle.std.proofs.lemmas.Int.{to_z-of_z}
use Rattle.mc_program.proofs.Fronts.{front_last, last_below, rebuilt, opens, closes}
use Rattle.mc_program.specs.PlainPrograms.{plain_expression}
use Rattle.mc_program.specs.declared.expr.Expr.{Expr, Int}
use Rattle.mc_accepted.specs.Resolving.{resolved_term}
use Rattle.mc_unresolved.specs.Unresolved.{plain_unresolved}
use Rattle.mc_unresolved.specs.declared.picks.Picks.{Picks}
use Rattle.mc_unresolved.specs.declared.term.Unresolved.{size-Unresolved}
use Rattle.mc_unresolved.proofs.Makings.{Picked, over, front_items, front_push, name_above, front_made, whole_made, bare_made, variable_made, number_made, text_made}
use Rattle.mc_unresolved.proofs.resolved.+terms.Goals as goal
use Rattle.mc_unresolved.proofs.resolved.+terms.Goals.{make_term-in-Variable, make_term-in-Number, make_term-in-Text+in_ok-copied-in-Text, make_term-in-Name+in-empty}

pub make_term-loop-rest-preserved : goal.make_term-loop-rest-preserved
make_term-loop-rest-preserved t c =
    let last = c.last-item.result in
    let split : c.in-Name.args ≡ _ ++ (last ∷ []) = sym c.as_slice.ensures.items ∙ front_last _ _ c.in-len1-up.len_at_least c.last-item.is in
    let smaller = last_below size-Unresolved _ _ _ _ split (name_above _ _ _ c.in-Name.is) in
    let args = c.in_ok-args-in-len1-up.args in
    let step = front_made _ c.in-Name.field-0 _ _ last args.items _ _ c.in-Name.is split (c.in_ok-args-in-len1-up.ensures {u = tt}) in
    (opens Picked (List Expr) over _ _ args.items _ _ _ step (front_push _ _ args (c.in_ok-push-in-len1-up.ensures {u = tt}).items) c.loop-rest.invariant.0, omega arith)

pub make_term-loop-front-init : goal.make_term-loop-front-init
make_term-loop-front-init t c =
    let finish : (e : Expr) (p : Picks) → c.match-rest.made ≡ e → c.match-rest.picks ≡ p → (plain_expression e, p.rest.now) ≡ resolved_term (plain_unresolved c.loop-rest.rest.now) c.loop-rest.picks.rest.now
    → rebuilt Picked (List Expr) over (front_items c.loop-rest.fronts.items) (plain_expression c.match-rest.made, c.match-rest.picks.rest.now) ≡ resolved_term (plain_unresolved c.args.term.now) c.args.picks.now.rest.now =
    λ e p i j so. ap (rebuilt Picked (List Expr) over (front_items c.loop-rest.fronts.items)) (ap₂ (λ (x : Expr) (q : Picks). (plain_expression x, q.rest.now)) i j ∙ so) ∙ c.loop-rest.invariant.0 in
    elim c.match-rest.branch [
      | make_term-in-Variable w ↦ finish _ _ w.made-is w.picks-is (variable_made _ w.in-Variable.v _ w.in-Variable.is)
      | make_term-in-Number w ↦
          let fits : FitsSigned w64 w.in-Number.n = search rules in
          let left = c.loop-rest.picks.rest.now in
          finish _ _ w.made-is w.picks-is (ap (λ (n : ℤ). (plain_expression (Int n), left)) (to_z-of_z w64 w.in-Number.n fits) ∙ number_made _ w.in-Number.n left w.in-Number.is)
      | make_term-in-Text+in_ok-copied-in-Text w ↦ finish _ _ w.made-is w.picks-is (text_made _ w.in-Text.bytes _ _ w.in-Text.is (w.in_ok-copied-in-Text.ensures {u = tt}))
      | make_term-in-Name+in-empty w ↦ finish _ _ w.made-is w.picks-is (bare_made _ w.in-Name.field-0 w.in-Name.args _ _ _ w.in-Name.is (omega (arith, ap length w.as_slice.ensures.items)) w.new.ensures w.named-made.ensures)
    ]

pub make_term-loop-front-preserved : goal.make_term-loop-front-preserved
make_term-loop-front-preserved t c =
    closes Picked (List Expr) over _ _ c.in-Some.front.items (plain_expression c.loop-front.made, c.loop-front.picks.rest.now) _ _ (front_push _ _ c.in-Some.front (c.in-Some.ensures {u = tt}).items)
    (whole_made c.in-Some.front.items _ c.loop-front.made _ _ _ ((c.in_ok-of.ensures {u = tt}).elements ∙ (c.in_ok-push.ensures {u = tt}).items) c.named-made-in-Some.ensures)
    c.loop-front.invariant
