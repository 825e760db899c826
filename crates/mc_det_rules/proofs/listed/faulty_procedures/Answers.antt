use Rattle.std.proofs.Common.{◌<◌, length, ap, ◌∙◌, arith}
use Rattle.mc_source.specs.Rules.{first_rules}
use Rattle.mc_model.specs.Lists.{from}
use Rattle.mc_model.specs.declared.sched.Proc.{Proc}
use Rattle.mc_procs.specs.Procedures.{as_system}
use Rattle.mc_det_rules.specs.code.Listed.{place_of, rule_of}
use Rattle.mc_det_rules.proofs.Bridging.{one_listed, place_is}
use Rattle.mc_det_rules.proofs.listed.faulty_procedures.Goals as goal

pub loop-k-preserved : goal.loop-k-preserved
loop-k-preserved c outcome =
    let q = c.args.procs.now in
    let k = c.loop-k.k in
    let lt : k < length q.added = omega (arith, c.loop-k-test.true, c.count-k-end.ensures) in
    one_listed (place_of q) (rule_of (as_system outcome q) q) k c.loop-k.faults.items c.put.new.faults.items c.get.result.now.at c.in_ok-fault.fault (c.loop-k.invariant outcome)
    (ap (λ (p : Proc). p.at) c.get.ensures ∙ place_is q.added k c.get.result.now lt)
    (c.in_ok-fault.ensures outcome)
    c.in_ok-put.ensures

pub returns : goal.returns
returns c outcome =
    let q = c.args.procs.now in
    c.loop-k.invariant outcome ∙ ap (λ n. first_rules (place_of q) (rule_of (as_system outcome q) q) (from 0 n)) (omega (arith, c.count-k-end.ensures))
