use Rattle.std.proofs.Common.{◌≡◌, ◌<◌, ◌+◌, [], ◌∷◌, length, get_or, ap, ◌∙◌, refl, arith}
use Rattle.std.proofs.lemmas.Grind.{common_steps}
use Rattle.std.specs.Vec.{with_item}
use Rattle.mc_goals.specs.declared.outside.Outside.{Outside}
use Rattle.mc_goals.specs.code.Outside.{more}
use Rattle.mc_goals.proofs.OutsideCounts.{count_more}
use Rattle.mc_goals.proofs.outside.Outside.add.Goals as goal

pub returns-in-Some : goal.returns-in-Some
returns-in-Some c =
    let before = c.make_room.new.self in
    let after : Outside = record { counts = with_item before.counts c.args.variable c.in-Some.count } in
    let room : c.args.variable < length before.counts.items = (c.in_ok-make_room.ensures {u = tt}).room in
    let raised : c.in-Some.count ≡ get_or before.counts.items c.args.variable 0 + 1 = grind (arith, common_steps) in
    count_more before after c.args.variable c.in-Some.count room raised refl ∙ ap (λ f. more f (c.args.variable ∷ [])) (c.in_ok-make_room.ensures {u = tt}).counts
