use Rattle.std.proofs.Common.{ℕ, length, ap, ◌∙◌}
use Rattle.std.specs.Prelude.{Option}
use Rattle.std.proofs.lemmas.Result.{IfOk-weaker}
use Rattle.mc_program.specs.Programs.{TypeTerm}
use Rattle.mc_names.specs.Linked.{plain_names}
use Rattle.mc_type_table.specs.Expanded.{after_rounds}
use Rattle.mc_type_table.proofs.Seeing.{open_is_seen}
use Rattle.mc_type_table.proofs.visibility.seen_of.Goals as goal

pub returns : goal.returns
returns c =
    let l = plain_names c.args.names.now in
    IfOk-weaker c.expanded_definitions.result _ _
    (λ row made are u.
    made l are u
    ∙ ap (λ (D : ℕ → Option TypeTerm). after_rounds (length l.types) D u)
    (open_is_seen c.args.names.now c.args.own c.as_slice.result.now
    (c.as_slice.ensures.value ∙ c.in_ok-hidden.ensures)))
    c.expanded_definitions.ensures
