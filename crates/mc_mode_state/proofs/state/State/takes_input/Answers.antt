use Rattle.std.proofs.Common.{◌∙◌, ◌<◌, sym, arith}
use Rattle.mc_insts.specs.Graphs.{count_of}
use Rattle.mc_procs.specs.Procedures.{source_of}
use Rattle.mc_mode_state.proofs.CallOutcomes.{input-barred, input-asked}
use Rattle.mc_mode_state.proofs.state.State.takes_input.Goals as goal

pub returns-then-is_barred-clause-takes : goal.returns-then-is_barred-clause-takes
returns-then-is_barred-clause-takes c = λ declared C T a.
    input-barred c.args.procs.now c.args.self.now declared c.requires.stands C T a (source_of c.args.procs.now) c.args.all.now c.args.x c.args.first c.args.last c.requires.last
    (sym c.is_barred.ensures ∙ c.if-is_barred.true)

pub returns-clause-takes : goal.returns-clause-takes
returns-clause-takes c = λ declared C T a.
    let e = c.in_ok-fits.ensures in
    let more = e.stepped.moved.nodes.grown.more in
    let old = c.requires.last in
    let l : c.args.last < count_of c.fits.new.procs.insts = omega arith in
    input-asked c.fits.new.procs c.args.self.now declared e.stepped.moved.stands C T a (source_of c.args.procs.now) c.args.all.now c.args.x c.args.first c.args.last c.in_ok-fits.fits l
    (sym c.is_barred.ensures ∙ c.if-is_barred.false) (e.fits C T a)
