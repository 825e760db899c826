use Rattle.std.proofs.Common.{◌≡◌, ℕ, ◌<◌, List, length, take, sym, ap, ◌∙◌, subst}
use Rattle.mc_program.specs.PlainPrograms.{plain_program, plain_type}
use Rattle.mc_insts.specs.declared.graph.InstGraph.{InstGraph}
use Rattle.mc_insts.specs.Merging.{EachIs}
use Rattle.mc_insts.specs.code.TypeRows.{terms, AllBelow}
use Rattle.mc_insts.specs.code.Pairs.{Stood}
use Rattle.mc_insts.proofs.SameElements.{stood_same, is_same, below_same, some_same}
use Rattle.mc_insts.proofs.Readies.{answered, grown, grown_same, back_graph, forgotten}
use Rattle.mc_insts.proofs.insts.Insts.merge_all.Goals as goal

pub merge_halves-requires-clause-some : goal.merge_halves-requires-clause-some
merge_halves-requires-clause-some c =
    subst (λ (is : List ℕ). 0 < length is) (sym c.as_slice.ensures.keys) (some_same c.in_ok-once.once.keys c.args.insts.now c.in_ok-once.ensures c.requires.some)

pub merge_halves-requires-clause-there : goal.merge_halves-requires-clause-there
merge_halves-requires-clause-there c =
    subst (λ (is : List ℕ). AllBelow (length c.row.new.self.graph.nodes) is) (sym c.as_slice.ensures.keys)
    (subst (λ (g : InstGraph). AllBelow (length g.nodes) c.in_ok-once.once.keys) (sym c.row.ensures.graph) (below_same (length c.args.self.now.graph.nodes) c.in_ok-once.once.keys c.args.insts.now c.in_ok-once.ensures c.requires.insts))

pub returns-in-Ok-clause-merged : goal.returns-in-Ok-clause-merged
returns-in-Ok-clause-merged c =
    let P = plain_program c.args.program.now in
    let J = c.merge_halves.new.self in
    answered P c.row.new.self J c.args.insts.now c.in_ok-r.r c.in-Ok.k (plain_type c.args.t.now) c.in-Ok.ensures.onward c.in_ok-r.ensures.is
    (stood_same P J.graph (terms J.types) c.in_ok-once.once.keys c.args.insts.now c.in_ok-r.r c.in-Ok.k c.in_ok-once.ensures
    (subst (λ (is : List ℕ). Stood P J.graph (terms J.types) is c.in_ok-r.r c.in-Ok.k) c.as_slice.ensures.keys c.in-Ok.ensures.stood))

pub returns-in-Ok-clause-alike : goal.returns-in-Ok-clause-alike
returns-in-Ok-clause-alike c = λ i h.
    c.in-Ok.ensures.alike i (subst (λ (is : List ℕ). EachIs i is) (sym c.as_slice.ensures.keys) (is_same c.in_ok-once.once.keys c.args.insts.now i c.in_ok-once.ensures h))

pub returns-in-Ok-clause-grown : goal.returns-in-Ok-clause-grown
returns-in-Ok-clause-grown c =
    grown (plain_program c.args.program.now) c.args.self.now c.row.new.self c.merge_halves.new.self c.row.ensures.graph
    (record { of = c.row.ensures.program; proper = c.in_ok-r.ensures.proper; rows = c.in_ok-r.ensures.rows }) c.in-Ok.ensures.onward

pub returns-clause-program : goal.returns-clause-program
returns-clause-program c =
    let I = c.row.new.self in
    let mid = c.merge_halves.new.self in
    let J = c.forget.new.self in
    let o = c.in-Err.ensures.onward in
    let f = c.forget.ensures in
    forgotten (plain_program c.args.program.now) I J c.row.ensures.program
    (back_graph I.graph J.graph mid.graph.nodes o.older (f.nodes ∙ ap (λ n. take n mid.graph.nodes) c.len-count.ensures) (f.functors ∙ o.functors))
    (f.symbols ∙ o.symbols) (f.types ∙ o.types) (f.shapes ∙ o.shapes) f.pairs

pub returns-clause-grown : goal.returns-clause-grown
returns-clause-grown c =
    let I = c.row.new.self in
    let mid = c.merge_halves.new.self in
    let J = c.forget.new.self in
    let o = c.in-Err.ensures.onward in
    let f = c.forget.ensures in
    let back : J.graph ≡ I.graph = back_graph I.graph J.graph mid.graph.nodes o.older (f.nodes ∙ ap (λ n. take n mid.graph.nodes) c.len-count.ensures) (f.functors ∙ o.functors) in
    grown_same (plain_program c.args.program.now) c.args.self.now J (back ∙ c.row.ensures.graph)
