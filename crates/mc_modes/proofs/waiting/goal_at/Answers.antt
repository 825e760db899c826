use Rattle.std.proofs.Common.{rules, ◌<◌, length, subst, sym}
use Rattle.mc_modes.proofs.Placing.{place-below}
use Rattle.mc_modes.proofs.waiting.goal_at.Goals as goal

pub offset_bounds-goals-get : goal.offset_bounds-goals-get
offset_bounds-goals-get c =
    let gs = c.args.goals.now in
    let inside : c.get.result < length gs = subst (λ k. k < length gs) (sym c.get.ensures) (place-below (length gs) c.args.waiting.now c.args.place c.requires.waiting c.requires.place) in
    search rules

pub bounds-goals-get : goal.bounds-goals-get
bounds-goals-get c =
    let gs = c.args.goals.now in
    subst (λ k. k < length gs) (sym c.get.ensures) (place-below (length gs) c.args.waiting.now c.args.place c.requires.waiting c.requires.place)
