use Rattle.std.proofs.Common.{◌≡◌, ◌+◌, ◌-◌, length, sym, ap, ◌∙◌, arith}
use Rattle.mc_model.specs.Types.{type_at}
use Rattle.mc_insts.specs.code.TypeRows.{terms, terms_at}
use Rattle.mc_insts.specs.code.Frames.{rebuilt}
use Rattle.mc_insts.proofs.Results.{if_ok}
use Rattle.mc_insts.proofs.Climbing.{at_variable, past_variable, climbs_at}
use Rattle.mc_insts.proofs.intern.variable.Goals as goal

pub returns-then-place-env-clause-climbed : goal.returns-then-place-env-clause-climbed
returns-then-place-env-clause-climbed c =
    let ts = terms c.args.types.now in
    if_ok _ _ c.climb.result
    (λ x h σ. climbs_at σ _ _ _ _ x (ap (rebuilt ts σ c.args.frames.now.items) (sym (at_variable ts c.args.env.now c.args.v c.if-place-env.true))) (h σ))
    c.climb.ensures.climbed

pub returns-clause-climbed : goal.returns-clause-climbed
returns-clause-climbed c =
    let ts = terms c.args.types.now in
    let n = length c.args.env.now in
    let place : n + (c.args.v - n) ≡ c.args.v = omega arith in
    if_ok _ _ c.leaf.result
    (λ x h σ. climbs_at σ _ _ _ _ x (ap (rebuilt ts σ c.args.frames.now.items) (sym (past_variable ts c.args.env.now (c.args.v - n)) ∙ ap (type_at (terms_at ts c.args.env.now)) place)) (h σ))
    c.leaf.ensures.climbed
