use Rattle.std.proofs.Common.{◌≡◌, ◌<◌, ℕ, false, true, get_or, inr, sym, subst, ◌∙◌, arith}
use Rattle.mc_procs.specs.Procedures.{source_of, insts_of}
use Rattle.mc_procs.specs.VariableTypes.{type_in}
use Rattle.mc_self_check.proofs.Assembling.{then_others}
use Rattle.mc_self_check.proofs.Distinct.{holds, isnt}
use Rattle.mc_self_check.proofs.Tidying.{number_below, at_end, at_place, tidy_told}
use Rattle.mc_self_check.proofs.procedure.are_tidy.Goals as goal

pub returns-then-place-variables-clause-tidy : goal.returns-then-place-variables-clause-tidy
returns-then-place-variables-clause-tidy c =
    let q = c.args.procs.now in
    holds (c.loop-place.invariant.0.0
    (at_end (source_of q) (insts_of q) (type_in c.args.types.now) c.args.insts.now c.args.variables.now c.loop-place.place (inr (omega arith))))

pub is_tidy-requires : goal.is_tidy-requires
is_tidy-requires c =
    subst (λ n. get_or c.args.insts.now c.loop-place.place 0 < n) (sym c.loop-place.invariant.3)
    (number_below _ c.args.insts.now c.loop-place.place (omega arith) c.requires)

pub returns-then-not-branch-clause-tidy : goal.returns-then-not-branch-clause-tidy
returns-then-not-branch-clause-tidy c = isnt (λ whole.
    let q = c.args.procs.now in
    let inv = c.loop-place.invariant in
    let both = (at_place (source_of q) (insts_of q) (type_in c.args.types.now) c.args.insts.now c.args.variables.now c.loop-place.place (omega arith) (omega arith)).0 (inv.0.1 whole) in
    let told = tidy_told q c.loop-place.procs _ _ _ c.in_ok-is_tidy.field-0 inv.1 inv.2 c.type_of.ensures c.in_ok-is_tidy.ensures.tidy in
    let t = told.1 both.0 in
    let x : false ≡ true = sym c.if-not-branch.true ∙ t in cc)

pub loop-place-preserved : goal.loop-place-preserved
loop-place-preserved c =
    let q = c.args.procs.now in
    let inv = c.loop-place.invariant in
    let here = at_place (source_of q) (insts_of q) (type_in c.args.types.now) c.args.insts.now c.args.variables.now c.loop-place.place (omega arith) (omega arith) in
    let told = tidy_told q c.loop-place.procs _ _ _ c.in_ok-is_tidy.field-0 inv.1 inv.2 c.type_of.ensures c.in_ok-is_tidy.ensures.tidy in (
      (λ rest. inv.0.0 (here.1 (told.0 c.if-not-branch.false, rest)), λ whole. (here.0 (inv.0.1 whole)).1),
      then_others q c.loop-place.procs c.is_tidy.new.self inv.1 c.is_tidy.ensures.others,
      c.is_tidy.ensures.graph ∙ inv.2,
      c.is_tidy.ensures.count ∙ inv.3,
    )
