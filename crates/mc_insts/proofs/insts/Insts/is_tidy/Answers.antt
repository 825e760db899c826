use Rattle.std.proofs.Common.{◌↔◌, IsTrue, subst}
use Rattle.mc_program.specs.Programs.{TypeTerm}
use Rattle.mc_program.specs.PlainPrograms.{plain_program, plain_type}
use Rattle.mc_accepted.specs.Tidy.{Tidy}
use Rattle.mc_insts.specs.declared.graph.InstGraph.{InstGraph}
use Rattle.mc_insts.specs.code.Shown.{plain_graph}
use Rattle.mc_insts.specs.code.TypeRows.{terms, term_at}
use Rattle.mc_insts.proofs.Results.{if_ok}
use Rattle.mc_insts.proofs.insts.Insts.is_tidy.Goals as goal

pub returns-clause-tidy : goal.returns-clause-tidy
returns-clause-tidy c =
    let P = plain_program c.args.program.now in
    if_ok _ _ c.is_tidy.result
    (λ b h.
    subst (λ (G : InstGraph). IsTrue b ↔ Tidy P (plain_graph G.functors G.nodes) c.args.i (plain_type c.args.t.now)) c.row.ensures.graph
    (subst (λ (t : TypeTerm). IsTrue b ↔ Tidy P (plain_graph c.row.new.self.graph.functors c.row.new.self.graph.nodes) c.args.i t) c.in_ok-r.ensures.is
    (h P (term_at (terms c.row.new.self.types)) c.in_ok-r.ensures.rows)))
    c.is_tidy.ensures
