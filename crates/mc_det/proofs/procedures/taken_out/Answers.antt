use Rattle.std.proofs.Common.{subst, ◌∙◌}
use Rattle.std.proofs.lemmas.List.{get_or_default}
use Rattle.mc_model.specs.declared.sched.Proc.{Proc}
use Rattle.mc_procs.specs.Procedures.{PlainProcs}
use Rattle.mc_det.specs.code.Places.{HasNoGoals}
use Rattle.mc_det.proofs.Placing.{of_its_pred, one_fits, stand_in_may}
use Rattle.mc_det.proofs.procedures.taken_out.Goals as goal

pub replace-requires : goal.replace-requires
replace-requires c =
    let q : PlainProcs = c.args.procs.now in
    let k = c.args.k in
    let p : Proc = c.get.result.now in
    let may = stand_in_may q p c.in_ok-stand_in.stand_in c.in_ok-stand_in.ensures in
    record {
      there = c.requires;
      pred = may.0 ∙ of_its_pred q c.fit.ensures.all k c.requires p c.get.ensures;
      fits = may.1 (one_fits q c.fit.ensures.all k c.requires p c.get.ensures);
    }

pub returns : goal.returns
returns c =
    let q : PlainProcs = c.args.procs.now in
    let k = c.args.k in
    let s : Proc = c.in_ok-stand_in.stand_in in
    record {
      taken = c.replace.ensures.old;
      left = record {
        placed = s;
        others = c.replace.ensures.new;
        so = subst (λ (p : Proc). HasNoGoals p s) (c.get.ensures ∙ get_or_default q.added k c.get.result.now s c.requires) c.in_ok-stand_in.ensures;
      };
    }
