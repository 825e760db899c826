use Rattle.std.proofs.Common.{◌∙◌, sym}
use Rattle.mc_type_phase.proofs.Passing.{none_before, none_at_end, all_left_before, all_left_at_end}
use Rattle.mc_type_phase.proofs.alike.has_clauses.Goals as goal

pub loop-entry-init : goal.loop-entry-init
loop-entry-init c = record { none = λ names own e. e; others = λ all. all }

pub loop-entry-preserved : goal.loop-entry-preserved
loop-entry-preserved c =
    let now = c.loop-entry in
    let entry = c.entry-item.result in
    let other = sym c.is_clause.ensures ∙ c.if-is_clause.false in
    record {
      none =
          λ names own e.
          now.invariant.none names own
          (none_before c.args.file.now now.entry-index entry names own c.loop-entry-test.true
          c.entry-item.is other e);
      others =
          λ all.
          now.invariant.others
          (all_left_before c.args.file.now now.entry-index entry c.loop-entry-test.true
          c.entry-item.is other all);
    }

pub returns-clause-none : goal.returns-clause-none
returns-clause-none c =
    λ found names own.
    c.loop-entry.invariant.none names own
    (none_at_end c.args.file.now c.loop-entry.entry-index names own c.loop-entry-test.false)

pub returns-clause-others : goal.returns-clause-others
returns-clause-others c =
    λ found.
    c.loop-entry.invariant.others
    (all_left_at_end c.args.file.now c.loop-entry.entry-index c.loop-entry-test.false)
