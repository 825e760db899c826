use Rattle.std.proofs.Common.{ℕ, ◌<◌, List, length, map, sym, subst, arith}
use Rattle.mc_insts.proofs.Results.{if_ok_two}
use Rattle.mc_insts.proofs.Growth.{extends_same, extends_on}
use Rattle.mc_inst_table.specs.declared.inst.Inst.{Inst}
use Rattle.mc_inst_table.specs.Plain.{plain_inst, plain_mode}
use Rattle.mc_signatures.specs.declared.meant.Between.{Between}
use Rattle.mc_signatures.specs.code.Keys.{terms, IsInst, AreInsts, with_insts}
use Rattle.mc_signatures.specs.code.Definitions.{Follows}
use Rattle.mc_signatures.proofs.Following.{follows_itself, follows_on, follows_end}
use Rattle.mc_signatures.proofs.meant.Definitions.meant.Goals as goal

pub loop-init : goal.loop-init
loop-init c =
    let ts = terms c.args.insts.now in
    let written = plain_mode c.args.written.now in
    let empty = c.new-given.ensures.items in
    record {
      extends = extends_same ts;
      below = λ k lt. absurd (let h : k < 0 = subst (λ (ks : List ℕ). k < length ks) empty lt in omega arith);
      follows = λ l are.
          subst (λ (ks : List ℕ). Follows l ts ks written written) (sym empty) (follows_itself l ts written);
    }

pub loop-preserved : goal.loop-preserved
loop-preserved c =
    let ts = terms c.loop.insts in
    let us = terms c.all_expanded.new.insts in
    let given = c.loop.given.items in
    let over = c.in-Defined.over in
    let told = c.in_ok-given-in-Defined.ensures in
    let news = c.in_ok-given-in-Defined.given.items in
    let insts : AreInsts us news (map (with_insts ts given) (map plain_inst over)) =
    subst (λ (ks : List ℕ). AreInsts us news (map (with_insts ts ks) (map plain_inst over))) c.as_slice.ensures.value
    (subst (λ (is : List Inst). AreInsts us news (map (with_insts ts c.as_slice.result.now) (map plain_inst is)))
    c.as_slice-in-Defined.ensures.items told.insts) in
    record {
      extends = extends_on (terms c.args.insts.now) ts us c.loop.invariant.extends told.extends;
      below = insts.there;
      follows = λ l are.
          follows_on l ts us given news (plain_mode c.args.written.now) c.loop.mode.now c.in_ok-mode-in-Defined.mode.now
          c.in-Defined.number over c.in-Defined.is (c.in_ok-mode-in-Defined.ensures l are) insts
          (c.loop.invariant.follows l are);
    }

pub returns-in-FromTo-mode-clause-goes : goal.returns-in-FromTo-mode-clause-goes
returns-in-FromTo-mode-clause-goes c =
    let ts = terms c.loop.insts in
    let us = terms c.ends_of.new.insts in
    let first = c.in-FromTo-mode.first in
    let last = c.in-FromTo-mode.last in
    let given = c.as_slice-in-FromTo-mode.ensures.value in
    if_ok_two _ _ _ c.ends_of.result
    (λ (b : Between) is_first is_last l are.
    follows_end l ts us c.loop.given.items (plain_mode c.args.written.now) c.loop.mode.now first last b.first b.last
    c.in-FromTo-mode.is
    (subst (λ (ks : List ℕ). IsInst us b.first (with_insts ts ks (plain_inst first))) given is_first)
    (subst (λ (ks : List ℕ). IsInst us b.last (with_insts ts ks (plain_inst last))) given is_last)
    (c.loop.invariant.follows l are))
    c.ends_of.ensures.first c.ends_of.ensures.last
