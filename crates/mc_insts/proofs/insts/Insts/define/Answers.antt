use Rattle.std.proofs.Common.{◌≡◌, ℕ, ◌<◌, List, length, get_or, refl, sym, ap, ◌∙◌, subst}
use Rattle.mc_program.specs.Programs.{Source}
use Rattle.mc_program.specs.PlainPrograms.{plain_program}
use Rattle.mc_accepted.specs.InstRules.{PlainInstDef}
use Rattle.mc_insts.specs.declared.insts.Insts.{Insts}
use Rattle.mc_insts.specs.declared.graph.Node.{Node}
use Rattle.mc_insts.specs.Graphs.{graph_of, count_of}
use Rattle.mc_insts.specs.Growing.{Grown}
use Rattle.mc_insts.specs.Kept.{AreOf}
use Rattle.mc_insts.specs.Defining.{plain_definitions, Defined}
use Rattle.mc_insts.specs.code.Chains.{InstsAre}
use Rattle.mc_insts.specs.code.Functors.{Functor}
use Rattle.mc_insts.specs.code.Lists.{Extends}
use Rattle.mc_insts.specs.code.Shown.{Distinct, plain_graph}
use Rattle.mc_insts.proofs.Kept.{insts_of}
use Rattle.mc_insts.proofs.Readies.{with_graph, on_err_always}
use Rattle.mc_insts.proofs.MoreFunctors.{functors_more, shown_same, grown_shown}
use Rattle.mc_insts.proofs.Added.{added_are, added_grown, added_defined, added_there}
use Rattle.mc_insts.proofs.insts.Insts.define.Goals as goal

insts_there : (ds : List PlainInstDef) (n m : ℕ) (insts : List ℕ) → n ≡ m → InstsAre ds n insts → InstsAre ds m insts
insts_there ds n m insts e h = subst (λ k. InstsAre ds k insts) e h

-- more functors alone, with the nodes as they were
module _ (P : Source) (I : Insts) (of : AreOf P I) (fs : List Functor) (ns : List Node) (more : Extends I.graph.functors fs) (distinct : Distinct I.graph.functors → Distinct fs) (same : ns ≡ I.graph.nodes) where
  abbrev J : Insts
  J = with_graph I (insts_of fs ns) I.pairs

  refused_are : AreOf P J
  refused_are = subst (λ (ms : List Node). AreOf P (with_graph I (insts_of fs ms) I.pairs)) (sym same) (functors_more P I of fs more (distinct of.distinct))

  refused_graph : graph_of J ≡ graph_of I
  refused_graph = ap (λ (ms : List Node). plain_graph fs ms) same ∙ shown_same P I of fs more (distinct of.distinct)

  refused_grown : Grown P I J
  refused_grown = grown_shown P I J (ap (λ (ms : List Node). length ms) same) refused_graph

pub returns-in_err-nodes-clause-program : goal.returns-in_err-nodes-clause-program
returns-in_err-nodes-clause-program c =
    refused_are (plain_program c.args.program.now) c.args.self.now c.requires.program c.nodes_of.new.functors c.args.self.now.graph.nodes c.nodes_of.ensures.extends c.nodes_of.ensures.distinct refl

pub returns-in_err-nodes-clause-grown : goal.returns-in_err-nodes-clause-grown
returns-in_err-nodes-clause-grown c =
    refused_grown (plain_program c.args.program.now) c.args.self.now c.requires.program c.nodes_of.new.functors c.args.self.now.graph.nodes c.nodes_of.ensures.extends c.nodes_of.ensures.distinct refl

pub returns-in_err-nodes-clause-graph : goal.returns-in_err-nodes-clause-graph
returns-in_err-nodes-clause-graph c =
    on_err_always c.from_residual-in_err-nodes.result _
    (refused_graph (plain_program c.args.program.now) c.args.self.now c.requires.program c.nodes_of.new.functors c.args.self.now.graph.nodes c.nodes_of.ensures.extends c.nodes_of.ensures.distinct refl)

pub returns-in_err-append-clause-program : goal.returns-in_err-append-clause-program
returns-in_err-append-clause-program c =
    refused_are (plain_program c.args.program.now) c.args.self.now c.requires.program c.nodes_of.new.functors c.append.new.row c.nodes_of.ensures.extends c.nodes_of.ensures.distinct c.in_err-append.ensures.err

pub returns-in_err-append-clause-grown : goal.returns-in_err-append-clause-grown
returns-in_err-append-clause-grown c =
    refused_grown (plain_program c.args.program.now) c.args.self.now c.requires.program c.nodes_of.new.functors c.append.new.row c.nodes_of.ensures.extends c.nodes_of.ensures.distinct c.in_err-append.ensures.err

pub returns-in_err-append-clause-graph : goal.returns-in_err-append-clause-graph
returns-in_err-append-clause-graph c =
    on_err_always c.from_residual-in_err-append.result _
    (refused_graph (plain_program c.args.program.now) c.args.self.now c.requires.program c.nodes_of.new.functors c.append.new.row c.nodes_of.ensures.extends c.nodes_of.ensures.distinct c.in_err-append.ensures.err)

pub returns-clause-defined : goal.returns-clause-defined
returns-clause-defined c =
    let P = plain_program c.args.program.now in
    let I : Insts = c.args.self.now in
    let fs : List Functor = c.nodes_of.new.functors in
    subst (λ (ns : List Node). Defined (plain_definitions c.args.defs.now) (count_of I) (plain_graph fs ns) c.in_ok-insts.insts) (sym c.in_ok-append.ensures.ok)
    (added_defined P I c.requires.program c.args.defs.now fs c.nodes_of.ensures.extends (c.nodes_of.ensures.distinct c.requires.program.distinct) c.in_ok-insts.insts c.in_ok-nodes.nodes
    (insts_there _ _ _ _ c.len.ensures c.in_ok-insts.ensures.insts) c.in_ok-nodes.ensures.nodes c.requires.fit c.in_ok-insts.ensures.sound)

pub returns-clause-there : goal.returns-clause-there
returns-clause-there c =
    let P = plain_program c.args.program.now in
    let I : Insts = c.args.self.now in
    λ n lt.
    subst (λ (ns : List Node). get_or c.in_ok-insts.insts n 0 < length ns) (sym c.in_ok-append.ensures.ok)
    (added_there P I c.requires.program c.args.defs.now c.nodes_of.new.functors c.nodes_of.ensures.extends (c.nodes_of.ensures.distinct c.requires.program.distinct) c.in_ok-insts.insts c.in_ok-nodes.nodes
    (insts_there _ _ _ _ c.len.ensures c.in_ok-insts.ensures.insts) c.in_ok-nodes.ensures.nodes c.requires.fit c.in_ok-insts.ensures.sound n lt)

pub returns-clause-program : goal.returns-clause-program
returns-clause-program c =
    let P = plain_program c.args.program.now in
    let I : Insts = c.args.self.now in
    let fs : List Functor = c.nodes_of.new.functors in
    subst (λ (ns : List Node). AreOf P (with_graph I (insts_of fs ns) I.pairs)) (sym c.in_ok-append.ensures.ok)
    (added_are P I c.requires.program c.args.defs.now fs c.nodes_of.ensures.extends (c.nodes_of.ensures.distinct c.requires.program.distinct) c.in_ok-insts.insts c.in_ok-nodes.nodes
    (insts_there _ _ _ _ c.len.ensures c.in_ok-insts.ensures.insts) c.in_ok-nodes.ensures.nodes c.requires.fit c.in_ok-insts.ensures.sound)

pub returns-clause-grown : goal.returns-clause-grown
returns-clause-grown c =
    let P = plain_program c.args.program.now in
    let I : Insts = c.args.self.now in
    let fs : List Functor = c.nodes_of.new.functors in
    subst (λ (ns : List Node). Grown P I (with_graph I (insts_of fs ns) I.pairs)) (sym c.in_ok-append.ensures.ok)
    (added_grown P I c.requires.program c.args.defs.now fs c.nodes_of.ensures.extends (c.nodes_of.ensures.distinct c.requires.program.distinct) c.in_ok-insts.insts c.in_ok-nodes.nodes
    (insts_there _ _ _ _ c.len.ensures c.in_ok-insts.ensures.insts) c.in_ok-nodes.ensures.nodes c.requires.fit c.in_ok-insts.ensures.sound)
