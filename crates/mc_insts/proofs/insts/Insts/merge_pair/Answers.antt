use Rattle.mc_program.specs.PlainPrograms.{plain_program}
use Rattle.mc_insts.specs.code.TypeRows.{terms, term_at}
use Rattle.mc_insts.proofs.Readies.{ready_pair, stood_there}
use Rattle.mc_insts.proofs.insts.Insts.merge_pair.Goals as goal

pub returns-clause-ready : goal.returns-clause-ready
returns-clause-ready c =
    ready_pair (plain_program c.args.program.now) c.args.self.now c.requires.ready c.merge.new.self c.args.i c.args.j c.args.r c.in_ok-k.k c.requires.first c.requires.second c.requires.row c.in_ok-k.ensures.merge c.put.new.self c.put.ensures

pub returns-clause-stood : goal.returns-clause-stood
returns-clause-stood c =
    stood_there (plain_program c.args.program.now) c.args.self.now c.requires.ready c.merge.new.self c.args.i c.args.j c.args.r c.in_ok-k.k c.requires.first c.requires.second c.requires.row c.in_ok-k.ensures.merge

pub returns-clause-same : goal.returns-clause-same
returns-clause-same c = c.in_ok-k.ensures.same (plain_program c.args.program.now) (term_at (terms c.args.self.now.types)) c.requires.ready.rows
