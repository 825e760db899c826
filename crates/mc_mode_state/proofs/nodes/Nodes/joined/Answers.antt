use Rattle.std.proofs.Common.{refl, sym, ◌∙◌, subst, arith}
use Rattle.mc_program.specs.Programs.{TypeTerm}
use Rattle.mc_insts.specs.Merging.{StandsForAll}
use Rattle.mc_procs.specs.Procedures.{source_of, insts_of}
use Rattle.mc_mode_state.proofs.Found.{types-moved, join-found, join-moved, grown-refl}
use Rattle.mc_mode_state.proofs.nodes.Nodes.joined.Goals as goal

pub returns-in-Some-clause-moved : goal.returns-in-Some-clause-moved
returns-in-Some-clause-moved c =
    let q = c.args.procs.now in
    let p = c.in_ok-place.ensures in
    join-found q c.args.self.now c.place_of.new.self c.fit.ensures.all
    (types-moved (source_of q) q.insts c.args.self.now c.place_of.new.self c.requires.nodes p.overs p.joins p.types p.once)
    p.overs p.joins p.types

pub returns-in_ok-put-in-None-clause-moved : goal.returns-in_ok-put-in-None-clause-moved
returns-in_ok-put-in-None-clause-moved c =
    let q = c.args.procs.now in
    let r = c.merge_all.new.self in
    let p = c.in_ok-place.ensures in
    let m = c.in_ok-node-in-None.ensures in
    let L = c.place_of.new.self in
    join-moved q r c.args.self.now L (record { overs = L.overs; joins = c.put.new.self; types = L.types })
    c.in_ok-place.place c.args.insts.now c.in_ok-node-in-None.node c.fit-in-None.ensures.all m.others m.grown
    (types-moved (source_of q) q.insts c.args.self.now L c.requires.nodes p.overs p.joins p.types p.once)
    p.overs p.joins p.types c.in_ok-put-in-None.ensures.ok (sym c.in_ok-node.ensures ∙ c.in-None.is) refl refl p.there
    (record {
      before = r.insts;
      insts = λ n l. let a = c.requires.insts n l in let b = m.grown.more in omega arith;
      there = m.there;
      stands = subst (λ (t : TypeTerm). StandsForAll (source_of q) (insts_of r) c.args.insts.now c.in_ok-node-in-None.node t) (sym p.place) m.merged;
      grown = grown-refl (source_of q) r.insts;
    })
