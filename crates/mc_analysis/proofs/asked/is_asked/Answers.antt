use Rattle.std.proofs.Common.{◌≡◌, ◌<◌, ◌↔◌, ℕ, List, Bool, length, get_or, map, IsTrue, sym, ap, ◌∙◌, subst, arith}
use Rattle.std.proofs.lemmas.List.{get_or_default}
use Rattle.mc_program.specs.PlainPrograms.{plain_program, plain_type}
use Rattle.mc_model.specs.declared.inst.ModeDecl.{ModeDecl}
use Rattle.mc_insts.specs.Graphs.{graph_of, count_of}
use Rattle.mc_mode_state.specs.Modes.{ModesFit}
use Rattle.mc_modes.specs.Signatures.{modes_at, no_mode}
use Rattle.mc_modes.specs.NormalGoals.{no_goal}
use Rattle.mc_analysis.specs.Untidy.{ModeIsTidy, OverTidy}
use Rattle.mc_analysis.proofs.Asking.{over_by, not_over}
use Rattle.mc_analysis.proofs.Coming.{if_ok}
use Rattle.mc_analysis.proofs.Untidying.{mode_fits_at}
use Rattle.mc_analysis.proofs.asked.is_asked.Goals as goal

pub bounds-goals-id : goal.bounds-goals-id
bounds-goals-id c = let m = c.requires.id.pred in let n = c.requires.goals in omega arith

pub returns-then-not-calls_tidy-clause-asked : goal.returns-then-not-calls_tidy-clause-asked
returns-then-not-calls_tidy-clause-asked c =
    let id = c.args.id in
    let goals = c.args.goals.now in
    let r = c.index-goals-id.result in
    let lt : id.pred < length goals = let m = c.requires.id.pred in let n = c.requires.goals in omega arith in
    not_over (plain_program c.args.program.now) (graph_of c.args.insts.now) c.args.sigs.now goals c.args.tidy.now id (get_or goals id.pred r) c.calls_tidy.result c.requires.tidy
    (get_or_default goals id.pred r no_goal lt) c.if-not-calls_tidy.true c.calls_tidy.ensures

pub bounds-modes_at-id : goal.bounds-modes_at-id
bounds-modes_at-id c = subst (λ (ms : List ModeDecl). c.args.id.mode < length ms) (sym c.modes_at.ensures) c.requires.id.mode

pub mode_is_tidy-requires-clause-mode : goal.mode_is_tidy-requires-clause-mode
mode_is_tidy-requires-clause-mode c =
    let n = count_of c.args.insts.now in
    mode_fits_at n c.modes_at.result.now c.args.id.mode c.index-modes_at-id.result
    (subst (λ (ms : List ModeDecl). c.args.id.mode < length ms) (sym c.modes_at.ensures) c.requires.id.mode)
    c.index-modes_at-id.is
    (subst (ModesFit n) (sym c.modes_at.ensures) (c.requires.sigs c.args.id.pred))

pub returns-clause-asked : goal.returns-clause-asked
returns-clause-asked c =
    let P = plain_program c.args.program.now in
    let G = graph_of c.args.insts.now in
    let id = c.args.id in
    let goals = c.args.goals.now in
    let r = c.index-goals-id.result in
    let m = c.index-modes_at-id.result in
    let ts = map plain_type c.types_of-types.result.now in
    let lt : id.pred < length goals = let m = c.requires.id.pred in let n = c.requires.goals in omega arith in
    if_ok c.mode_is_tidy.result (λ b. IsTrue b ↔ ModeIsTidy P G ts m) (λ b. IsTrue b ↔ OverTidy P G c.args.sigs.now goals id) c.mode_is_tidy.ensures.tidy
    (λ b h.
    over_by P G c.args.sigs.now goals c.args.tidy.now id (get_or goals id.pred r) ts m b c.requires.tidy
    (get_or_default goals id.pred r no_goal lt)
    (c.calls_tidy.ensures.0 c.if-not-calls_tidy.false) c.types_of-types.ensures
    (c.index-modes_at-id.is ∙ ap (λ (ms : List ModeDecl). get_or ms id.mode m) c.modes_at.ensures ∙ get_or_default (modes_at c.args.sigs.now id.pred) id.mode m no_mode c.requires.id.mode)
    h)
