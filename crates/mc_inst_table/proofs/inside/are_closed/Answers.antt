use Rattle.std.proofs.Common.{◌≡◌, ◌<◌, ◌≤◌, ℕ, true, inl, inr, length, sym, subst, arith}
use Rattle.std.proofs.lemmas.Bool.{cases_lt}
use Rattle.mc_model.specs.Lists.{is_in}
use Rattle.mc_inst_table.specs.declared.heads.Head.TheVariants as H
use Rattle.mc_inst_table.specs.code.Ends.{head_at, bodies_of}
use Rattle.mc_inst_table.specs.code.Insides.{inside_at, put_ends, HeadIn}
use Rattle.mc_inst_table.proofs.Parameters.{one_closed}
use Rattle.mc_inst_table.proofs.PuttingInside.{all_closed}
use Rattle.mc_inst_table.proofs.inside.are_closed.Goals as goal

pub loop-k-preserved : goal.loop-k-preserved
loop-k-preserved c d below k m =
    elim (cases_lt d c.loop-k.k) [
      | inl less ↦ c.loop-k.invariant d less k m
      | inr past ↦
          let there : c.loop-k.k < length c.args.bodies.now = omega (arith, c.loop-k-test.true, c.len-k-end.ensures) in
          let one : d ≡ c.loop-k.k = omega (arith, below, past) in
          subst (λ (j : ℕ). is_in k (inside_at c.args.inside.now j) ≡ true) (sym one)
          (one_closed c.args.bodies.now (head_at c.args.heads.now) c.args.inside.now c.loop-k.k
          c.get.result.now c.get-in-loop-k.result.now c.as_slice.result.now c.in_ok-is_closed.field-0
          c.requires there c.get.ensures c.get-in-loop-k.ensures c.as_slice.ensures.items
          c.in_ok-is_closed.ensures c.if-not-branch.false k
          (subst
          (λ (j : ℕ). HeadIn (H.Parameter k) (put_ends (head_at c.args.heads.now) (inside_at c.args.inside.now) (bodies_of c.args.bodies.now j)))
          one m))
    ]

pub returns : goal.returns
returns c holds =
    all_closed c.args.bodies.now (head_at c.args.heads.now) c.args.inside.now c.requires
    (λ d below.
    let within : d < c.loop-k.k = omega (arith, below, c.loop-k-test.false, c.len-k-end.ensures) in
    c.loop-k.invariant d within)
