use Rattle.std.proofs.Common.{◌<◌, ap, sym, ◌∙◌, arith, length, get_or, [], ◌∷◌, ◌++◌}
use Rattle.mc_values.specs.Heap.{value_at}
use Rattle.mc_plain.specs.code.Cases.{listed_place}
use Rattle.mc_plain.proofs.Casing.{no_branch, passed, found, several}
use Rattle.mc_plain.proofs.cases.chosen.Goals.{then-branch+in-None, else-branch}
use Rattle.mc_plain.proofs.cases.chosen.Goals as goal

pub returns-in-Some : goal.returns-in-Some
returns-in-Some c =
    let within : c.loop-branch.branch-index < length c.args.branches.now = omega arith in
    sym
    (several c.args.code.now (value_at c.args.heap.now c.args.value) c.args.branches.now c.loop-branch.branch-index within (listed_place c.loop-branch.only) c.loop-branch.invariant
    c.args.other c.in-Some.field-0 (ap listed_place c.in-Some.is)
    (c.in_ok-fits.ensures {u = tt} c.args.code.now c.requires.constants ∙ c.if-branch.true))

pub loop-branch-preserved : goal.loop-branch-preserved
loop-branch-preserved c =
    let w0 = value_at c.args.heap.now c.args.value in
    let e = c.in_ok-fits.ensures {u = tt} c.args.code.now c.requires.constants in
    let within : c.loop-branch.branch-index < length c.args.branches.now = omega arith in
    elim c.if-branch.branch [
      | then-branch+in-None w ↦
          found c.args.code.now w0 c.args.branches.now c.loop-branch.branch-index within (listed_place c.loop-branch.only) c.loop-branch.invariant (e ∙ w.if-branch.true)
          ∙ ap (λ o. listed_place o ++ (get_or c.args.branches.now c.loop-branch.branch-index no_branch).place ∷ []) w.in-None.is ∙ sym (ap listed_place w.only-is)
      | else-branch w ↦
          passed c.args.code.now w0 c.args.branches.now c.loop-branch.branch-index within (listed_place c.loop-branch.only) c.loop-branch.invariant (e ∙ w.if-branch.false)
          ∙ sym (ap listed_place w.only-is)
    ]
