use Rattle.mc_builtins.proofs.Division.{floor_less, floor_same}
use Rattle.mc_builtins.proofs.integers.floor_of.Goals as goal

pub returns-then-wrapping_rem-gt0 : goal.returns-then-wrapping_rem-gt0
returns-then-wrapping_rem-gt0 c =
    floor_less _ _ _ _ c.ranges.a c.ranges.b c.requires c.if-b-gt0.false c.wrapping_rem.ensures (record { sfits = c.wrapping_rem.type_inv }) c.wrapping_div.ensures c.if-wrapping_rem-gt0.true

pub returns-else-wrapping_rem-gt0 : goal.returns-else-wrapping_rem-gt0
returns-else-wrapping_rem-gt0 c =
    floor_same _ _ _ _ c.ranges.a c.ranges.b c.requires c.if-b-gt0.false c.wrapping_rem.ensures (record { sfits = c.wrapping_rem.type_inv }) c.wrapping_div-else-wrapping_rem-gt0.ensures c.if-wrapping_rem-gt0.false
