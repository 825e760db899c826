use Rattle.std.proofs.Common.{◌≡◌, get_or, set, refl, sym, ap, ◌∙◌, subst}
use Rattle.std.proofs.lemmas.Result.{IfOk-weaker}
use Rattle.mc_model.specs.PlainGoals.{plain_proc}
use Rattle.mc_model.specs.Scheduled.{Procedure}
use Rattle.mc_model.specs.declared.sched.Proc.{Proc}
use Rattle.mc_procs.specs.Fitting.{ProcedureFits}
use Rattle.mc_procs.specs.Procedures.{PlainProcs, with_procs}
use Rattle.mc_det.proofs.Declaring.{procedure_is}
use Rattle.mc_det.proofs.Replacing.{beside, get_any}
use Rattle.mc_switch.specs.Kept.{OnlyGrew}
use Rattle.mc_switch.specs.SwitchedBodies.{IsSwitched}
use Rattle.mc_switch.proofs.SwitchedProcs.{meanwhile, stub_fits, back_grew, form_back, comes_back, made_switched}
use Rattle.mc_switch.proofs.procedures.switched_proc.Goals as goal

pub replace-p-requires-clause-fits : goal.replace-p-requires-clause-fits
replace-p-requires-clause-fits c =
    let q : PlainProcs = c.args.procs.now in
    let p : Proc = c.get.result.now in
    let f = subst (ProcedureFits q) (procedure_is q.added c.args.k p c.requires.there ∙ ap plain_proc (sym c.get.ensures)) (c.fit.ensures.all.each c.args.k c.requires.there) in
    stub_fits q c.args.k p c.in_ok-stand_in.stand_in c.get.ensures c.in_ok-stand_in.ensures.others f c.in_ok-stand_in.ensures.body

pub formed_body-body-requires : goal.formed_body-body-requires
formed_body-body-requires c =
    let q : PlainProcs = c.args.procs.now in
    let p : Proc = c.replace-p.result in
    let f = subst (ProcedureFits q) (procedure_is q.added c.args.k p c.requires.there ∙ ap plain_proc (sym c.replace-p.ensures.old)) (c.fit.ensures.all.each c.args.k c.requires.there) in
    subst (λ (v : PlainProcs). ProcedureFits v (plain_proc p)) (sym c.replace-p.ensures.new)
    (beside q (set q.added c.args.k c.in_ok-stand_in.stand_in) (plain_proc p) f)

pub replace-requires-clause-pred : goal.replace-requires-clause-pred
replace-requires-clause-pred c =
    let q : PlainProcs = c.args.procs.now in
    let p : Proc = c.replace-p.result in
    let k = c.args.k in
    let grew = c.formed_body-body.ensures.grew in
    ap (λ (x : Procedure). x.pred) (sym (procedure_is q.added k p c.requires.there ∙ ap plain_proc (sym c.replace-p.ensures.old)))
    ∙ c.fit.ensures.all.preds k c.requires.there
    ∙ ap (λ (v : PlainProcs). get_or v.preds k 0) (sym c.replace-p.ensures.new)
    ∙ ap (λ (v : PlainProcs). get_or v.preds k 0) (sym grew.others)

pub replace-requires-clause-fits : goal.replace-requires-clause-fits
replace-requires-clause-fits c =
    let q : PlainProcs = c.args.procs.now in
    let p : Proc = c.replace-p.result in
    let stub : Proc = c.in_ok-stand_in.stand_in in
    let r : PlainProcs = c.formed_body-body.new.procs in
    let k = c.args.k in
    let is = c.replace-p.ensures.old in
    let got : c.get.result.now ≡ p = c.get.ensures ∙ get_any q.added k c.get.result.now p c.requires.there ∙ sym is in
    let same : stub ≡ record p { body = stub.body } = c.in_ok-stand_in.ensures.others ∙ ap (λ (x : Proc). record x { body = stub.body }) got in
    let grew : OnlyGrew (meanwhile q k p stub is same) r = subst (λ (v : PlainProcs). OnlyGrew v r) c.replace-p.ensures.new c.formed_body-body.ensures.grew in
    let f = subst (ProcedureFits q) (procedure_is q.added k p c.requires.there ∙ ap plain_proc (sym is)) (c.fit.ensures.all.each k c.requires.there) in
    comes_back q k p stub is same c.requires.there r (with_procs r (set r.added k p)) grew refl f c.fit-2.ensures.all

pub returns-in_err-body-clause-grew : goal.returns-in_err-body-clause-grew
returns-in_err-body-clause-grew c =
    let q : PlainProcs = c.args.procs.now in
    let p : Proc = c.replace-p.result in
    let stub : Proc = c.in_ok-stand_in.stand_in in
    let r : PlainProcs = c.formed_body-body.new.procs in
    let k = c.args.k in
    let is = c.replace-p.ensures.old in
    let got : c.get.result.now ≡ p = c.get.ensures ∙ get_any q.added k c.get.result.now p c.requires.there ∙ sym is in
    let same : stub ≡ record p { body = stub.body } = c.in_ok-stand_in.ensures.others ∙ ap (λ (x : Proc). record x { body = stub.body }) got in
    let grew : OnlyGrew (meanwhile q k p stub is same) r = subst (λ (v : PlainProcs). OnlyGrew v r) c.replace-p.ensures.new c.formed_body-body.ensures.grew in
    back_grew q k p stub is same c.requires.there r c.replace.new.self grew c.replace.ensures.new

pub returns-clause-grew : goal.returns-clause-grew
returns-clause-grew c =
    let q : PlainProcs = c.args.procs.now in
    let p : Proc = c.replace-p.result in
    let stub : Proc = c.in_ok-stand_in.stand_in in
    let r : PlainProcs = c.formed_body-body.new.procs in
    let k = c.args.k in
    let is = c.replace-p.ensures.old in
    let got : c.get.result.now ≡ p = c.get.ensures ∙ get_any q.added k c.get.result.now p c.requires.there ∙ sym is in
    let same : stub ≡ record p { body = stub.body } = c.in_ok-stand_in.ensures.others ∙ ap (λ (x : Proc). record x { body = stub.body }) got in
    let grew : OnlyGrew (meanwhile q k p stub is same) r = subst (λ (v : PlainProcs). OnlyGrew v r) c.replace-p.ensures.new c.formed_body-body.ensures.grew in
    back_grew q k p stub is same c.requires.there r c.replace.new.self grew c.replace.ensures.new

pub returns-clause-switched : goal.returns-clause-switched
returns-clause-switched c =
    let q : PlainProcs = c.args.procs.now in
    let p : Proc = c.replace-p.result in
    let stub : Proc = c.in_ok-stand_in.stand_in in
    let r : PlainProcs = c.formed_body-body.new.procs in
    let s : PlainProcs = c.replace.new.self in
    let k = c.args.k in
    let body = c.in_ok-body.body in
    let is = c.replace-p.ensures.old in
    let got : c.get.result.now ≡ p = c.get.ensures ∙ get_any q.added k c.get.result.now p c.requires.there ∙ sym is in
    let same : stub ≡ record p { body = stub.body } = c.in_ok-stand_in.ensures.others ∙ ap (λ (x : Proc). record x { body = stub.body }) got in
    let grew : OnlyGrew (meanwhile q k p stub is same) r = subst (λ (v : PlainProcs). OnlyGrew v r) c.replace-p.ensures.new c.formed_body-body.ensures.grew in
    let all = back_grew q k p stub is same c.requires.there r s grew c.replace.ensures.new in
    let again : c.get-p.result.now ≡ p =
    c.get-p.ensures ∙ ap (λ (v : PlainProcs). get_or v.added k c.get-p.result.now) all.others ∙ get_any q.added k c.get-p.result.now p c.requires.there ∙ sym is in
    let form = form_back q k p stub is same c.requires.there r s grew c.replace.ensures.new p body c.in_ok-body.ensures.form in
    IfOk-weaker c.with_body.result (λ (x : Proc). x ≡ record c.get-p.result.now { body = body; det = c.get-p.result.now.det })
    (λ (x : Proc). IsSwitched s (get_or q.added k x) x)
    (λ x e.
    subst (λ (y : Proc). IsSwitched s y x) (is ∙ get_any q.added k p x c.requires.there)
    (made_switched s p x body (e ∙ ap (λ (y : Proc). record y { body = body; det = y.det }) again) form))
    c.with_body.ensures
