use Rattle.std.proofs.Common.{ℕ, refl, sym, subst, arith}
use Rattle.mc_program.specs.PlainPrograms.{plain_program}
use Rattle.mc_insts.specs.Graphs.{graph_of, count_of}
use Rattle.mc_mode_state.specs.Modes.{ModesFit}
use Rattle.mc_analysis.proofs.Untidying.{no_predicate_yet, sig_fits_at}
use Rattle.mc_analysis.proofs.untidy.untidy_modes.Goals as goal

pub loop-sig-init : goal.loop-sig-init
loop-sig-init c = record {
  program = c.requires.program;
  graph = refl;
  count = refl;
  told = no_predicate_yet (plain_program c.args.program.now) (graph_of c.args.insts.now) c.new-broken.result.items c.new-broken.ensures.items;
}

pub untidy_among-requires-clause-modes : goal.untidy_among-requires-clause-modes
untidy_among-requires-clause-modes c =
    subst (ModesFit (count_of c.loop-sig.insts)) (sym c.as_slice.ensures.items)
    (subst (λ (n : ℕ). ModesFit n c.sig-item.result.modes) (sym c.loop-sig.invariant.count)
    (sig_fits_at _ c.args.sigs.now c.loop-sig.sig-index c.sig-item.result (omega arith) c.sig-item.is c.requires.sigs))
