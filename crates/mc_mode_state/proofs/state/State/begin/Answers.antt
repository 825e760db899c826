use Rattle.std.proofs.Common.{◌≡◌, ◌∙◌, ◌<◌, ℕ, length, ap, sym, subst, arith}
use Rattle.mc_accepted.specs.Arranged.{Point}
use Rattle.mc_insts.specs.Graphs.{count_of}
use Rattle.mc_procs.specs.Named.{NumbersBelow}
use Rattle.mc_mode_state.specs.States.{TrailWithin}
use Rattle.mc_mode_state.proofs.Beginnings.{entered-is, entered-below, outside-is}
use Rattle.mc_mode_state.proofs.state.State.begin.Goals as goal

pub at_entry-requires-clause-head : goal.at_entry-requires-clause-head
at_entry-requires-clause-head c = subst (λ (n : ℕ). NumbersBelow n c.args.head.now) (sym (ap length c.as_slice-many.ensures.value)) c.requires.head

pub returns-clause-point : goal.returns-clause-point
returns-clause-point c = λ P declared C T. entered-is C P declared T c.args.head.now c.args.first.now ∙ sym c.in_ok-entry.ensures.point

pub returns-clause-outside : goal.returns-clause-outside
returns-clause-outside c = outside-is c.in_ok-entry.entry.outside.items c.args.head.now c.in_ok-entry.ensures.counts

pub returns-clause-stands : goal.returns-clause-stands
returns-clause-stands c = λ q fit first are.
    let e = c.in_ok-entry.ensures in
    let is = c.in_ok-entry.entry.insts.items in
    let n : length is ≡ length c.args.types.items = e.insts ∙ ap length c.as_slice-many.ensures.value in
    let some : 3 < count_of q.insts = fit.program.insts_are.builtins.many in
    record {
      fit = fit;
      even = record {
        outside = e.outside ∙ sym e.insts;
        types = sym n;
      };
      insts = λ x. subst (λ (b : Point ℕ). b x < count_of q.insts) (sym e.point) (entered-below (count_of q.insts) c.args.head.now c.args.first.now (omega (arith, some)) first x);
      trail = subst (TrailWithin (length is)) (sym c.new.ensures.items) tt;
      nodes = are;
    }
