use Rattle.std.proofs.Common.{◌∙◌, length, sym, ap}
use Rattle.mc_model.specs.declared.inst.ModeDecl.{ModeDecl}
use Rattle.mc_insts.specs.Graphs.{count_of}
use Rattle.mc_mode_state.specs.Modes.{ModeFits}
use Rattle.mc_modes.specs.Signatures.{mode_in}
use Rattle.mc_modes.proofs.MadeProcedures.{mode-fits, scheduled}
use Rattle.mc_modes.proofs.scheduling.schedule.Goals as goal

pub arrange-requires-clause-first : goal.arrange-requires-clause-first
arrange-requires-clause-first c =
    (mode-fits (count_of c.args.procs.now.insts) c.args.sigs.now c.args.goal.now.pred c.args.mode c.mode_of-declared.result.now c.requires.sigs c.requires.mode c.mode_of-declared.ensures).first

pub arrange-requires-clause-last : goal.arrange-requires-clause-last
arrange-requires-clause-last c =
    (mode-fits (count_of c.args.procs.now.insts) c.args.sigs.now c.args.goal.now.pred c.args.mode c.mode_of-declared.result.now c.requires.sigs c.requires.mode c.mode_of-declared.ensures).last

pub arrange-requires-clause-lasts : goal.arrange-requires-clause-lasts
arrange-requires-clause-lasts c =
    let m = c.mode_of-declared.result.now in
    let fits : ModeFits (count_of c.args.procs.now.insts) m = mode-fits (count_of c.args.procs.now.insts) c.args.sigs.now c.args.goal.now.pred c.args.mode m c.requires.sigs c.requires.mode c.mode_of-declared.ensures in
    sym fits.as_many ∙ (ap (λ (d : ModeDecl). length d.first) c.mode_of-declared.ensures ∙ c.requires.fits.as_many)

pub returns-in_ok-proc-in-Ok : goal.returns-in_ok-proc-in-Ok
returns-in_ok-proc-in-Ok c =
    scheduled c.args.sigs.now c.args.goal.now c.args.mode c.mode_of-declared.result.now (mode_in c.args.sigs.now c.args.goal.now.pred c.args.mode) c.in_ok-types.types.items
    c.args.procs.now c.arrange.new.procs c.in-Ok.arranged c.in_ok-proc-in-Ok.proc c.mode_of-declared.ensures c.in_ok-types.ensures c.in-Ok.ensures c.in_ok-proc-in-Ok.ensures
