use Rattle.std.proofs.Common.{◌≡◌, length, sym, ◌∙◌, subst, ℕ, ◌<◌}
use Rattle.mc_inst_table.specs.declared.heads.Head.TheVariants as H
use Rattle.mc_inst_table.specs.code.Ends.{head_at}
use Rattle.mc_inst_table.proofs.Finding.{none_known}
use Rattle.mc_inst_table.proofs.heads.heads_of.Goals as goal

pub loop-init : goal.loop-init
loop-init c =
    let count : length c.in_ok-heads.heads ≡ length c.args.bodies.now =
    c.in_ok-heads.ensures.count ∙ c.len.ensures
    in (
      count,
      none_known c.args.bodies.now c.in_ok-heads.heads count
          (λ d below.
          c.in_ok-heads.ensures.unknown d (subst (λ (n : ℕ). d < n) (sym c.len.ensures) below)),
    )
