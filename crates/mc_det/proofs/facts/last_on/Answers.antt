use Rattle.std.proofs.Common.{◌≡◌, ℕ, suc, ◌-◌, drop, None, sym, subst, arith}
use Rattle.std.proofs.lemmas.Bool.{eq-eqb}
use Rattle.mc_det.specs.code.Facts.{known_in}
use Rattle.mc_det.proofs.Knowing.{known_at}
use Rattle.mc_det.proofs.facts.last_on.Goals as goal

pub returns-then-fact-x : goal.returns-then-fact-x
returns-then-fact-x c =
    let k = c.loop-n.n - 1 in
    let next : c.loop-n.n ≡ suc k = omega arith in
    known_at c.args.facts.now k c.args.x c.index-facts-n.result (let h = c.loop-n.invariant.left in omega arith)
    (subst (λ (m : ℕ). known_in (drop m c.args.facts.now) c.args.x ≡ None) next c.loop-n.invariant.none)
    c.index-facts-n.is
    (eq-eqb c.args.x c.index-facts-n.result.variable (sym c.if-fact-x.true))
