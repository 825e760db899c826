use Rattle.std.proofs.Common.{map, sym, ap, ◌∙◌}
use Rattle.mc_program.specs.Programs.{union_type}
use Rattle.mc_program.specs.PlainPrograms.{plain_type}
use Rattle.mc_program.specs.declared.ty.Ty.{Ty}
use Rattle.mc_model.specs.Types.{instance_of, type_at}
use Rattle.mc_insts.specs.code.TypeRows.{terms}
use Rattle.mc_insts.specs.code.Frames.{rebuilt}
use Rattle.mc_insts.proofs.Results.{if_ok}
use Rattle.mc_insts.proofs.Climbing.{plain_union, instances, climbs_at}
use Rattle.mc_insts.proofs.intern.step.Goals as goal

pub returns-in-Union-clause-climbed : goal.returns-in-Union-clause-climbed
returns-in-Union-clause-climbed c =
    let ts = terms c.args.types.now in
    if_ok _ _ c.enter.result
    (λ x h es e. climbs_at (type_at es) _ _ _ _ x
    (ap (rebuilt ts (type_at es) c.args.frames.now.items)
    (sym
    (ap (λ (t : Ty). instance_of (type_at es) (plain_type t)) c.in-Union.is
    ∙ ap (instance_of (type_at es)) (plain_union c.in-Union.number c.in-Union.args)
    ∙ ap (union_type c.in-Union.number) (instances (type_at es) (map plain_type c.in-Union.args)))))
    (h (type_at es)))
    c.enter.ensures.climbed
