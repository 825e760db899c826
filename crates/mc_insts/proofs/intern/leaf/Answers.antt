use Rattle.std.proofs.Common.{◌∙◌, ap}
use Rattle.mc_insts.specs.code.TypeRows.{terms, term_at}
use Rattle.mc_insts.specs.code.Frames.{rebuilt}
use Rattle.mc_insts.proofs.Growth.{extends_length}
use Rattle.mc_insts.proofs.Results.{if_ok}
use Rattle.mc_insts.proofs.Climbing.{rebuilt_on, frames_more, climbs_at}
use Rattle.mc_insts.proofs.intern.leaf.Goals as goal

pub climb-requires-clause-fit : goal.climb-requires-clause-fit
climb-requires-clause-fit c = frames_more _ _ _ (extends_length _ _ c.insert.ensures.extends) c.requires.fit

pub returns-clause-climbed : goal.returns-clause-climbed
returns-clause-climbed c =
    let ts = terms c.args.types.now in
    let us = terms c.insert.new.self in
    let fs = c.args.frames.now.items in
    if_ok _ _ c.climb.result
    (λ x h σ. climbs_at σ _ _ _ _ x (rebuilt_on ts us σ fs (term_at us c.in_ok-row.row) c.insert.ensures.extends c.requires.fit ∙ ap (rebuilt ts σ fs) c.in_ok-row.ensures.row.is) (h σ))
    c.climb.ensures.climbed
