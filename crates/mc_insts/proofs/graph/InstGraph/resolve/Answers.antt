use Rattle.mc_insts.specs.code.Walks.{scene}
use Rattle.mc_insts.specs.code.Merges.{Open}
use Rattle.mc_insts.proofs.Opens.{sound_put}
use Rattle.mc_insts.proofs.Results.{match_none}
use Rattle.mc_insts.proofs.graph.InstGraph.resolve.Goals as goal

pub returns-then-n-base-clause-sound : goal.returns-then-n-base-clause-sound
returns-then-n-base-clause-sound c =
    let C = scene c.args.self.now c.args.shapes.now in
    let o : Open C c.args.u = record { within = c.requires.within; bare = match_none _ _ c.in_ok-k.field-0 c.in_default.is c.in_ok-k.ensures } in
    sound_put C c.args.u _ _ o c.insert.ensures.extends c.requires.sound c.in_ok-n.ensures.last

pub returns-clause-sound : goal.returns-clause-sound
returns-clause-sound c =
    let C = scene c.args.self.now c.args.shapes.now in
    let o : Open C c.args.u = record { within = c.requires.within; bare = match_none _ _ c.in_ok-k.field-0 c.in_default.is c.in_ok-k.ensures } in
    sound_put C c.args.u _ _ o c.insert.ensures.extends c.requires.sound c.in_ok-n.ensures.last
