use Rattle.mc_program.specs.PlainPrograms.{plain_program, plain_type}
use Rattle.mc_insts.proofs.Results.{if_ok}
use Rattle.mc_insts.proofs.Readies.{on_err, answered, grown, grown_same, same_graph_of, same_count_of, on_ok, kept_count}
use Rattle.mc_insts.proofs.insts.Insts.merge.Goals as goal

pub merge_pair-requires-clause-ready : goal.merge_pair-requires-clause-ready
merge_pair-requires-clause-ready c = record { of = c.row.ensures.program; proper = c.in_ok-r.ensures.proper; rows = c.in_ok-r.ensures.rows }

pub returns-in_err-r-clause-grown : goal.returns-in_err-r-clause-grown
returns-in_err-r-clause-grown c = grown_same (plain_program c.args.program.now) c.args.self.now c.row.new.self c.row.ensures.graph

pub returns-clause-there : goal.returns-clause-there
returns-clause-there c = if_ok _ _ c.merge_pair.result (λ k s. s.there) c.merge_pair.ensures.stood

pub returns-clause-merged : goal.returns-clause-merged
returns-clause-merged c =
    if_ok _ _ c.merge_pair.result
    (λ k s. answered (plain_program c.args.program.now) c.row.new.self c.merge_pair.new.self _ c.in_ok-r.r k (plain_type c.args.t.now) c.merge_pair.ensures.onward c.in_ok-r.ensures.is s)
    c.merge_pair.ensures.stood

pub returns-clause-grown : goal.returns-clause-grown
returns-clause-grown c =
    grown (plain_program c.args.program.now) c.args.self.now c.row.new.self c.merge_pair.new.self c.row.ensures.graph
    (record { of = c.row.ensures.program; proper = c.in_ok-r.ensures.proper; rows = c.in_ok-r.ensures.rows }) c.merge_pair.ensures.onward

pub returns-clause-graph : goal.returns-clause-graph
returns-clause-graph c = on_err c.merge_pair.result _ _ (λ e. same_graph_of c.args.self.now c.row.new.self c.merge_pair.new.self c.row.ensures.graph e) c.merge_pair.ensures.err

pub returns-clause-count : goal.returns-clause-count
returns-clause-count c = on_err c.merge_pair.result _ _ (λ e. same_count_of c.args.self.now c.row.new.self c.merge_pair.new.self c.row.ensures.graph e) c.merge_pair.ensures.err

pub returns-clause-kept : goal.returns-clause-kept
returns-clause-kept c =
    on_ok c.merge_pair.result _ _
    (λ h. kept_count (plain_program c.args.program.now) c.args.self.now c.row.new.self c.merge_pair.new.self c.args.i c.args.j c.in_ok-r.r (plain_type c.args.t.now) c.row.ensures.graph c.in_ok-r.ensures.is h)
    c.merge_pair.ensures.same
