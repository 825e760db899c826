-- append is accepted in its switch form.
use Rattle.std.proofs.Common.{Some, refl, sym, arith}
use Rattle.std.proofs.lemmas.Option.{none-some, same_Some}
use Rattle.mc_accepted.specs.Inferred.{Closed, system_of}
use Rattle.laws_language.specs.code.Examples.{det}
use Rattle.laws_language.specs.code.ExamplesOfProcedures.{append_goals, append_body}
use Rattle.laws_language.proofs.AcceptedAppend.{goals_are_ordered, final_is_met, accepted_append, insts_fit}
use Rattle.laws_language.proofs.ListInsts.{differ}
use Rattle.laws_accepted.specs.AcceptedLaws.{IsTold, BodyIsOrdered, IsFormed, IsComputed}
use Rattle.laws_accepted.specs.code.AcceptanceExamples.{append_declared, all_det, append, keeps_nothing, after_both, AppendIsFormed}
use Rattle.laws_accepted.proofs.Accepting.{form_is_accepted}
use Rattle.laws_accepted.proofs.Retelling.{self}

closed : Closed append_declared all_det
closed =
    record {
      declared = λ k d lt e. same_Some det d e;
      at_least_det = λ k lt e. absurd (none-some det (sym e));
      uncommitted = λ k lt e. absurd (none-some det (sym e));
      allows = λ k lt e. absurd (none-some det (sym e));
      others = λ k le. refl;
    }

is_told : IsTold (system_of append_declared all_det) append
is_told = record { head = refl; first = refl; last = refl; determinisms = accepted_append.kept; committed = λ e. absurd (differ e) }

is_ordered : BodyIsOrdered (system_of append_declared all_det) append append_goals (Some after_both)
is_ordered = (goals_are_ordered, final_is_met)

is_formed : IsFormed (system_of append_declared all_det) append append_goals
is_formed =
    record {
      goal = append_goals;
      same = self append_goals;
      kept = keeps_nothing;
      merge = (tt, (tt, (tt, tt)), (tt, (tt, (tt, (tt, tt))), tt));
      told = self (append_body det);
      marks = (refl, ((refl, ((refl, tt), ((refl, tt), tt))), ((refl, ((refl, tt), ((refl, tt), ((refl, tt), tt)))), tt)));
    }

is_computed : IsComputed (system_of append_declared all_det) (append_declared.procs 0) append
is_computed =
    record {
      goal = append_goals;
      after = Some after_both;
      ordered = is_ordered;
      form = is_formed;
      told = is_told;
      faultless = refl;
    }

pub append_is_formed : AppendIsFormed
append_is_formed = (
  refl,
  (λ e. cc),
  closed,
  omega arith,
  refl,
  is_told,
  is_ordered,
  is_formed,
  is_computed,
  form_is_accepted append_declared all_det 0 append_goals (Some after_both) closed (omega arith) insts_fit refl is_told is_ordered is_formed,
)
