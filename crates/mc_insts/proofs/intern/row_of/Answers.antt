use Rattle.std.proofs.Common.{◌≡◌, ap, subst}
use Rattle.mc_program.specs.PlainPrograms.{plain_type, type_terms}
use Rattle.mc_model.specs.Types.{type_at}
use Rattle.mc_insts.specs.declared.intern.Climbed.{Climbed}
use Rattle.mc_insts.specs.code.TypeRows.{terms, terms_at, over_rows}
use Rattle.mc_insts.specs.code.Frames.{Climbs}
use Rattle.mc_insts.proofs.Growth.{extends_on}
use Rattle.mc_insts.proofs.TypeKeys.{terms_on}
use Rattle.mc_insts.proofs.Climbing.{climbs_at}
use Rattle.mc_insts.proofs.intern.row_of.Goals as goal

pub returns-in-Whole-clause-row : goal.returns-in-Whole-clause-row
returns-in-Whole-clause-row c =
    let ts0 = terms c.args.types.now in
    let ts = terms c.loop.types in
    let us = terms c.step.new.types in
    let es = terms_at ts0 c.args.env.now in
    let same : terms_at ts c.args.env.now ≡ es = ap type_terms (terms_on ts0 ts c.args.env.now c.loop.invariant.extends c.requires) in
    let h : Climbs (type_at es) (over_rows ts0 c.args.env.now (plain_type c.args.t.now)) us c.step.new.frames.items c.in_ok-r.field-0 =
    climbs_at (type_at es) _ _ us c.step.new.frames.items c.in_ok-r.field-0 c.loop.invariant.same (c.in_ok-r.ensures.climbed es same) in
    subst (λ (x : Climbed). Climbs (type_at es) (over_rows ts0 c.args.env.now (plain_type c.args.t.now)) us c.step.new.frames.items x) c.in-Whole.is h

pub loop-preserved : goal.loop-preserved
loop-preserved c =
    let ts0 = terms c.args.types.now in
    let ts = terms c.loop.types in
    let us = terms c.step.new.types in
    let es = terms_at ts0 c.args.env.now in
    let same : terms_at ts c.args.env.now ≡ es = ap type_terms (terms_on ts0 ts c.args.env.now c.loop.invariant.extends c.requires) in
    let h : Climbs (type_at es) (over_rows ts0 c.args.env.now (plain_type c.args.t.now)) us c.step.new.frames.items c.in_ok-r.field-0 =
    climbs_at (type_at es) _ _ us c.step.new.frames.items c.in_ok-r.field-0 c.loop.invariant.same (c.in_ok-r.ensures.climbed es same) in
    let k = subst (λ (x : Climbed). Climbs (type_at es) (over_rows ts0 c.args.env.now (plain_type c.args.t.now)) us c.step.new.frames.items x) c.in-Next.is h in
    record { extends = extends_on ts0 ts us c.loop.invariant.extends c.step.ensures.extends; fit = k.1; same = k.0 }
