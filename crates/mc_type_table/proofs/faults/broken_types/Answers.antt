use Rattle.std.proofs.Common.{◌≡◌, ℕ, length, ap, ◌∙◌, subst}
use Rattle.std.specs.Prelude.{Option}
use Rattle.std.proofs.Math.Path.{fun_ext}
use Rattle.mc_program.specs.Programs.{TypeTerm}
use Rattle.mc_names.specs.Linked.{plain_names}
use Rattle.mc_type_table.specs.Expanded.{after_rounds}
use Rattle.mc_type_table.specs.Rules.{definitions}
use Rattle.mc_type_table.specs.Held.{held}
use Rattle.mc_type_table.specs.code.Kept.{AreBodies}
use Rattle.mc_type_table.proofs.faults.broken_types.Goals as goal

pub faults_by-requires-clause-bodies : goal.faults_by-requires-clause-bodies
faults_by-requires-clause-bodies c =
    let l = plain_names c.args.names.now in
    let expanded : held c.as_slice.result.now ≡ after_rounds (length l.types) (definitions l) =
    ap held c.as_slice.ensures.value
    ∙ fun_ext (c.in_ok-definitions.ensures l c.in_ok-equivalences.ensures)
    in
    subst (λ (D : ℕ → Option TypeTerm). AreBodies l D c.in_ok-bodies.bodies) expanded
    c.in_ok-bodies.ensures
