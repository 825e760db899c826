use Rattle.std.proofs.Common.{length, ap, arith}
use Rattle.mc_modes.proofs.WaitingPlaces.{length-places}
use Rattle.mc_modes.proofs.places.Places.len.Goals as goal

pub returns : goal.returns
returns c =
    let p = c.self.inside in
    omega (arith, c.len.ensures, p.passed.ok.0, length-places p.passed.items p.next p.rest, ap length c.self.view_is)
