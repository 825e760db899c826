use Rattle.std.proofs.Common.{◌≡◌, ◌≤◌, List, ℕ, length, ◌∙◌, arith}
use Rattle.mc_det_rules.proofs.Entering.{no_pair, pair}
use Rattle.mc_det_rules.proofs.entry.takes_states.Goals as goal

pub returns-then-fewer-ne2 : goal.returns-then-fewer-ne2
returns-then-fewer-ne2 c =
    let f : List ℕ = c.args.first.now in
    let l : List ℕ = c.args.last.now in
    no_pair f l
    (λ (a : length f ≡ 2) (b : 2 ≤ length l). let h = c.fewer.ensures in let t = c.if-fewer-ne2.true in omega (arith, h.first, h.second, h.either))
    (λ (a : length l ≡ 2) (b : 2 ≤ length f). let h = c.fewer.ensures in let t = c.if-fewer-ne2.true in omega (arith, h.first, h.second, h.either))

pub returns : goal.returns
returns c =
    let h = c.fewer.ensures in
    c.are_wanted.ensures ∙ pair c.args.first.now c.args.last.now c.fewer.result h.first h.second h.either c.if-fewer-ne2.false
