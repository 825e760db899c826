use Rattle.std.proofs.Common.{ℕ, List, length, refl, sym, ap, ◌∙◌, subst}
use Rattle.mc_accepted.specs.Ordered.{change_at}
use Rattle.mc_det.specs.code.Points.{ChangesBelow}
use Rattle.mc_det.specs.code.Walks.{bounds_in}
use Rattle.mc_det.proofs.Walking.{changes_below, both_ok}
use Rattle.mc_switch.specs.Types.{inst_in}
use Rattle.mc_switch.proofs.Walking.{enters_fit}
use Rattle.mc_switch.proofs.forming.SwitchDetection.enter.Goals as goal

pub enter-requires : goal.enter-requires
enter-requires c =
    let p = c.args.self.now.point in
    subst (ChangesBelow (length p)) (sym c.as_slice.ensures.items)
    (changes_below (bounds_in c.args.procs.now (length c.args.types.now)) (length p) c.args.changes.now c.requires.ready.many c.requires.named)

pub returns-clause-enters : goal.returns-clause-enters
returns-clause-enters c =
    let p = c.args.self.now.point in
    both_ok c.enter.result
    (λ e i. record {
      ready = enters_fit c.args.procs.now c.args.types.now p c.enter.new.self c.args.changes.now c.requires.ready c.requires.named e (i ∙ ap (λ (cs : List (ℕ × ℕ)). λ x. change_at x cs (inst_in p x)) c.as_slice.ensures.items);
      found = refl;
    })
    c.enter.ensures.count c.enter.ensures.insts
