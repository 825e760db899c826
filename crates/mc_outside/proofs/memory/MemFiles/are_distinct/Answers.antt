use Rattle.std.proofs.Common.{arith}
use Rattle.std.proofs.lemmas.Grind.{common_steps}
use Rattle.mc_outside.proofs.Lookups.{later_names_differ}
use Rattle.mc_outside.proofs.memory.MemFiles.are_distinct.Goals as goal

pub returns-then-not-lack : goal.returns-then-not-lack
returns-then-not-lack c =
    let differ = c.if-not-lack.ensures {u = tt} in
    (λ no. cc, λ distinct. let all = later_names_differ _ _ _ c.loop-at-test.true c.index-files-at.is (c.loop-at.invariant.1 distinct) in differ.1 (rw c.as_str.ensures.value (grind (arith, common_steps, all))))
