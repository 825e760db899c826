use Rattle.std.proofs.Common.{◌≡◌, ◌<◌, ◌-◌, length, take, vec_len, ◌∙◌, ap, arith, length-take}
use Rattle.mc_types.proofs.Visiting.{walk_done, walk_more, walk_cycle, walk_past, top_of, done_less, more_less}
use Rattle.mc_types.proofs.visits.visit.Goals as goal

pub loop-path-preserved-in-None : goal.loop-path-preserved-in-None
loop-path-preserved-in-None c =
    let some : 0 < length c.loop-path.path.items = omega arith in
    let n : c.len-in-loop-path.result ≡ length c.loop-path.path.items = omega (arith, c.len-in-loop-path.ensures) in
    let top = top_of c.loop-path.path.items c.len-in-loop-path.result c.index-at.result.now n some c.index-at.ensures in
    let path = c.loop-path.path.items in
    let rest : c.pop.new.self.items ≡ take (length path - 1) path = c.pop.ensures.rest ∙ ap (λ k. take (k - 1) path) (let e : vec_len c.loop-path.path ≡ length path = omega arith in e) in
    rw rest (walk_done _ _ _ _ _ _ c.loop-path.invariant c.index-at.result.now some top c.in-None.ensures.found)

pub returns-then-marks-part : goal.returns-then-marks-part
returns-then-marks-part c =
    let some : 0 < length c.loop-path.path.items = omega arith in
    let n : c.len-in-loop-path.result ≡ length c.loop-path.path.items = omega (arith, c.len-in-loop-path.ensures) in
    let top = top_of c.loop-path.path.items c.len-in-loop-path.result c.index-at.result.now n some c.index-at.ensures in
    record { past = walk_past _ _ _ _ _ _ c.loop-path.invariant; answer = walk_cycle _ _ _ _ _ _ c.loop-path.invariant c.index-at.result.now some top c.in-Some.part c.requires.in_order c.in-Some.ensures.found.0 c.if-marks-part.true }

pub loop-path-preserved : goal.loop-path-preserved
loop-path-preserved c =
    let some : 0 < length c.loop-path.path.items = omega arith in
    let n : c.len-in-loop-path.result ≡ length c.loop-path.path.items = omega (arith, c.len-in-loop-path.ensures) in
    let top = top_of c.loop-path.path.items c.len-in-loop-path.result c.index-at.result.now n some c.index-at.ensures in
    rw c.in_ok-push-in-Some.ensures.items
    (walk_more _ _ _ _ _ _ c.loop-path.invariant c.index-at.result.now some top c.in-Some.part c.in-Some.ensures.found.0 c.in-Some.ensures.found.1 c.if-marks-part.false c.requires.in_order)

pub loop-path-smaller-in-None : goal.loop-path-smaller-in-None
loop-path-smaller-in-None c =
    let some : 0 < length c.loop-path.path.items = omega arith in
    let n : c.len-in-loop-path.result ≡ length c.loop-path.path.items = omega (arith, c.len-in-loop-path.ensures) in
    let top = top_of c.loop-path.path.items c.len-in-loop-path.result c.index-at.result.now n some c.index-at.ensures in
    let less = done_less _ _ _ _ _ _ c.loop-path.invariant c.index-at.result.now some top in
    let path = c.loop-path.path.items in
    let rest : c.pop.new.self.items ≡ take (length path - 1) path = c.pop.ensures.rest ∙ ap (λ k. take (k - 1) path) (let e : vec_len c.loop-path.path ≡ length path = omega arith in e) in
    omega (arith, less, ap length rest, length-take (length path - 1) path)

pub loop-path-smaller : goal.loop-path-smaller
loop-path-smaller c =
    let some : 0 < length c.loop-path.path.items = omega arith in
    let n : c.len-in-loop-path.result ≡ length c.loop-path.path.items = omega (arith, c.len-in-loop-path.ensures) in
    let top = top_of c.loop-path.path.items c.len-in-loop-path.result c.index-at.result.now n some c.index-at.ensures in
    let less = more_less _ _ _ _ _ _ c.loop-path.invariant c.index-at.result.now some top c.in-Some.part c.in-Some.ensures.found.0 c.in-Some.ensures.found.1 c.if-marks-part.false c.requires.in_order in
    omega (arith, less, c.in_ok-push-in-Some.ensures.len)
