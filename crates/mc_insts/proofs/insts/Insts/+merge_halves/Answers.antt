use Rattle.std.proofs.Common.{◌≡◌, ℕ, ◌/◌, ◌∙◌, List, length, sym, subst, arith}
use Rattle.mc_program.specs.PlainPrograms.{plain_program}
use Rattle.mc_insts.specs.Merging.{EachIs}
use Rattle.mc_insts.specs.code.TypeRows.{terms}
use Rattle.mc_insts.specs.code.Pairs.{Stood}
use Rattle.mc_insts.proofs.Results.{if_ok}
use Rattle.mc_insts.proofs.Readies.{take_rest, stood_halves, each_take, each_drop}
use Rattle.mc_insts.proofs.insts.Insts.+merge_halves.Goals as goal

pub returns-clause-stood : goal.returns-clause-stood
returns-clause-stood t c =
    let P = plain_program c.args.program.now in
    let is : List ℕ = c.args.insts.now in
    let I2 = c.merge_halves-2.new.self in
    if_ok _ _ c.merge_pair.result
    (λ k s. stood_halves P c.args.self.now c.merge_halves.new.self I2 c.merge_pair.new.self is (length is / 2) c.args.r c.in_ok-i.i c.in_ok-j.j k (omega arith) c.requires.there
    c.in_ok-i.ensures.onward c.in_ok-i.ensures.ready c.in_ok-j.ensures.onward c.in_ok-j.ensures.ready c.merge_pair.ensures.onward
    c.in_ok-i.ensures.stood
    (subst (λ (js : List ℕ). Stood P I2.graph (terms I2.types) js c.args.r c.in_ok-j.j) (take_rest (length is / 2) is) c.in_ok-j.ensures.stood)
    s)
    c.merge_pair.ensures.stood

pub returns-clause-alike : goal.returns-clause-alike
returns-clause-alike t c =
    let is : List ℕ = c.args.insts.now in
    if_ok _ _ c.merge_pair.result
    (λ k same i all.
    let first : c.in_ok-i.i ≡ i = c.in_ok-i.ensures.alike i (each_take (length is / 2) i is all) in
    let second : c.in_ok-j.j ≡ i = c.in_ok-j.ensures.alike i (subst (EachIs i) (sym (take_rest (length is / 2) is)) (each_drop (length is / 2) i is all)) in
    same (first ∙ sym second) ∙ first)
    c.merge_pair.ensures.alike
