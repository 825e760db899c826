use Rattle.mc_cmd.proofs.Calls.{whole, prefixes, puts_defined, unread, done_cause, usage_cause, usage_told, rejected_cause, absent_cause, absent_told, absent_seen, read_cause, read_told, read_seen, write_cause, write_seen, threw_cause, spent_cause, deep_cause}
use Rattle.mc_cmd.proofs.top.merc.Goals as goal

pub returns-clause-whole_answer : goal.returns-clause-whole_answer
returns-clause-whole_answer g c =
    λ held bo be told none n. whole _ _ _ _ _ _ _ _ _ c.carry_out.ensures.happened held bo be told none n

pub returns-clause-prefix : goal.returns-clause-prefix
returns-clause-prefix g c =
    λ held bo be told n o defined. prefixes _ _ _ _ _ _ _ _ _ c.carry_out.ensures.happened c.at_most_one_answer.ensures held bo be told n o defined

pub returns-clause-defined : goal.returns-clause-defined
returns-clause-defined g c =
    λ held bo be told n. puts_defined _ _ _ _ _ _ _ _ _ c.carry_out.ensures.happened held bo be told n

pub returns-clause-unreadable : goal.returns-clause-unreadable
returns-clause-unreadable g c = λ m e f. unread _ _ _ _ _ _ _ _ _ c.carry_out.ensures.happened m e f

pub returns-clause-truth : goal.returns-clause-truth
returns-clause-truth g c = c.executables_are_true.ensures

pub returns-clause-done : goal.returns-clause-done
returns-clause-done g c =
    λ e. done_cause _ _ _ _ _ _ _ _ _ c.carry_out.ensures.happened e

pub returns-clause-usage : goal.returns-clause-usage
returns-clause-usage g c = λ e. usage_cause _ _ _ _ _ _ _ _ _ c.carry_out.ensures.happened e

pub returns-clause-usage_told : goal.returns-clause-usage_told
returns-clause-usage_told g c = λ e. usage_told _ _ _ _ _ _ _ _ _ c.carry_out.ensures.happened e

pub returns-clause-rejected : goal.returns-clause-rejected
returns-clause-rejected g c = λ e. rejected_cause _ _ _ _ _ _ _ _ _ c.carry_out.ensures.happened e

pub returns-clause-absent : goal.returns-clause-absent
returns-clause-absent g c = λ e. absent_cause _ _ _ _ _ _ _ _ _ c.carry_out.ensures.happened e

pub returns-clause-absent_told : goal.returns-clause-absent_told
returns-clause-absent_told g c = λ e. absent_told _ _ _ _ _ _ _ _ _ c.carry_out.ensures.happened e

pub returns-clause-absent_seen : goal.returns-clause-absent_seen
returns-clause-absent_seen g c = λ e. absent_seen _ _ _ _ _ _ _ _ _ c.carry_out.ensures.happened e

pub returns-clause-read : goal.returns-clause-read
returns-clause-read g c = λ e. read_cause _ _ _ _ _ _ _ _ _ c.carry_out.ensures.happened e

pub returns-clause-read_told : goal.returns-clause-read_told
returns-clause-read_told g c = λ e. read_told _ _ _ _ _ _ _ _ _ c.carry_out.ensures.happened e

pub returns-clause-read_seen : goal.returns-clause-read_seen
returns-clause-read_seen g c = λ e. read_seen _ _ _ _ _ _ _ _ _ c.carry_out.ensures.happened e

pub returns-clause-write : goal.returns-clause-write
returns-clause-write g c = λ e. write_cause _ _ _ _ _ _ _ _ _ c.carry_out.ensures.happened e

pub returns-clause-write_seen : goal.returns-clause-write_seen
returns-clause-write_seen g c = λ e. write_seen _ _ _ _ _ _ _ _ _ c.carry_out.ensures.happened e

pub returns-clause-threw : goal.returns-clause-threw
returns-clause-threw g c = λ e. threw_cause _ _ _ _ _ _ _ _ _ c.carry_out.ensures.happened e

pub returns-clause-spent : goal.returns-clause-spent
returns-clause-spent g c = λ e. spent_cause _ _ _ _ _ _ _ _ _ c.carry_out.ensures.happened e

pub returns-clause-deep : goal.returns-clause-deep
returns-clause-deep g c = λ e. deep_cause _ _ _ _ _ _ _ _ _ c.carry_out.ensures.happened e
