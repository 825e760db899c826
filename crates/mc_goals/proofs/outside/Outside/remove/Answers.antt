use Rattle.std.proofs.Common.{◌≡◌, ◌<◌, ◌≤◌, ◌-◌, length, get_or, refl, arith}
use Rattle.std.proofs.lemmas.Grind.{common_steps}
use Rattle.std.specs.Vec.{with_item}
use Rattle.mc_goals.specs.declared.outside.Outside.{Outside}
use Rattle.mc_goals.proofs.OutsideCounts.{count_less, count_beyond}
use Rattle.mc_goals.proofs.outside.Outside.remove.Goals as goal

pub returns-then-k-len : goal.returns-then-k-len
returns-then-k-len c =
    let before = c.args.self.now in
    let after : Outside = record { counts = with_item before.counts c.args.variable c.saturating_sub.result } in
    let there : c.args.variable < length before.counts.items = grind (arith, common_steps) in
    let lowered : c.saturating_sub.result ≡ get_or before.counts.items c.args.variable 0 - 1 = grind (arith, common_steps) in
    count_less before after c.args.variable c.saturating_sub.result there lowered refl

pub returns-else-k-len : goal.returns-else-k-len
returns-else-k-len c =
    let beyond : length c.args.self.now.counts.items ≤ c.args.variable = grind (arith, common_steps) in
    count_beyond c.args.self.now c.args.variable beyond
