use Rattle.std.proofs.Common.{ap, sym, ◌∙◌}
use Rattle.std.proofs.lemmas.Result.{on_ok_weaker}
use Rattle.mc_program.specs.PlainPrograms.{plain_type}
use Rattle.mc_type_table.specs.Expanded.{replaced}
use Rattle.mc_type_table.specs.Held.{held}
use Rattle.mc_type_table.specs.code.Kept.{all_done}
use Rattle.mc_type_table.proofs.Expanding.{known_put}
use Rattle.mc_type_table.proofs.expansion.Known.expand.Goals as goal

pub returns : goal.returns
returns c =
    on_ok_weaker c.put.result
    (λ h l rounds are is.
    known_put l c.args.hidden.now c.args.equivalences.now rounds c.args.self.now c.put.new.self c.args.number
    (plain_type c.in-Some.body.now) c.in_ok-body.body c.row.result.now are is
    (sym (c.in-Some.ensures l are)) c.row.ensures
    (ap (λ ds. all_done ds c.row.result.now) (sym c.as_slice-2.ensures.value)
    ∙ sym c.all_done.ensures
    ∙ c.if-not-all_done.false)
    (c.in_ok-body.ensures
    ∙ ap (λ os. replaced (held os) (plain_type c.in-Some.body.now)) c.as_slice-3.ensures.value)
    h.2 h.0 h.1)
    c.put.ensures
