use Rattle.std.proofs.Common.{ℕ, map, refl, sym, subst, arith}
use Rattle.mc_program.specs.PlainPrograms.{plain_program, plain_type}
use Rattle.mc_insts.specs.Graphs.{graph_of}
use Rattle.mc_mode_state.specs.Modes.{ModeFits}
use Rattle.mc_analysis.proofs.Untidying.{no_mode_yet, mode_fits_at}
use Rattle.mc_analysis.proofs.untidy.untidy_among.Goals as goal

pub loop-mode-init : goal.loop-mode-init
loop-mode-init c = record {
  program = c.requires.program;
  graph = refl;
  count = refl;
  told = no_mode_yet (plain_program c.args.program.now) (graph_of c.args.insts.now) (map plain_type c.args.types.now) c.new-broken.result.items c.new-broken.ensures.items;
}

pub mode_is_tidy-requires-clause-mode : goal.mode_is_tidy-requires-clause-mode
mode_is_tidy-requires-clause-mode c =
    let m = c.mode-item.result in
    subst (λ (n : ℕ). ModeFits n m) (sym c.loop-mode.invariant.count)
    (mode_fits_at _ c.args.modes.now c.loop-mode.mode-index m (omega arith) c.mode-item.is c.requires.modes)
