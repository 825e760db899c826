use Rattle.std.proofs.Common.{◌↔◌, IsTrue, subst}
use Rattle.mc_program.specs.Programs.{TypeTerm}
use Rattle.mc_accepted.specs.Inclusion.{Included}
use Rattle.mc_procs.specs.Procedures.{source_of, insts_of}
use Rattle.mc_mode_state.specs.Nodes.{type_in}
use Rattle.mc_mode_state.specs.States.{point_of}
use Rattle.mc_mode_state.proofs.CallOutcomes.{grown-same, asked, fits-is}
use Rattle.mc_mode_state.proofs.Growths.{refused_by}
use Rattle.mc_mode_state.proofs.state.State.fits.Goals as goal

pub returns-clause-fits : goal.returns-clause-fits
returns-clause-fits c =
    let q = c.args.procs.now in
    let s = c.args.self.now in
    let j = c.args.inst in
    let e = c.in_ok-fits.ensures in
    let h : IsTrue c.in_ok-fits.fits ↔ Included (source_of q) (insts_of q) (point_of s.insts.items c.args.x) j (type_in s.types.items c.args.x) =
    subst (λ i. IsTrue c.in_ok-fits.fits ↔ Included (source_of q) (insts_of q) i j (type_in s.types.items c.args.x)) c.inst.ensures
    (subst (λ (t : TypeTerm). IsTrue c.in_ok-fits.fits ↔ Included (source_of q) (insts_of q) c.inst.result j t) c.type_of.ensures e.included) in
    fits-is q c.includes.new.self s c.args.x j c.in_ok-fits.fits c.requires.stands c.requires.variable c.requires.inst e.others e.graph e.count h

pub returns-clause-stepped : goal.returns-clause-stepped
returns-clause-stepped c =
    let e = c.in_ok-fits.ensures in
    asked c.args.procs.now c.includes.new.self c.args.self.now c.requires.stands c.fit.ensures.all e.others e.graph e.count

pub returns-in_err-fits-clause-kept : goal.returns-in_err-fits-clause-kept
returns-in_err-fits-clause-kept c =
    let q = c.args.procs.now in
    let r = c.includes.new.self in
    let e = c.in_err-fits.ensures in
    refused_by c.from_residual.result q r (record { others = e.others; grown = grown-same (source_of q) q.insts r.insts e.graph e.count })
