-- Of words and of what files hold there is one defined answer at most, since what sources are compiled to is one thing.
use Rattle.std.proofs.Common.{◌≡◌, ℕ, List, Option, Some, None, Result, Ok, Err, sym, ap, ◌∙◌}
use Rattle.mc_outside.specs.Meaning.{Held}
use Rattle.mc_source.specs.declared.rule.Broken.{Broken}
use Rattle.mc_command_line.specs.Words.{Meaning, meaning}
use Rattle.mc_compile.specs.Phases.{Refusal, Breaks}
use Rattle.mc_compile.specs.Compiling.{Compiles}
use Rattle.mc_compile.specs.Ruling.{PlainExecutable}
use Rattle.laws_one_answer.specs.OneCompiled.{CompiledAreOne, OneCompiled, OneToBeRun}
use Rattle.mc_cmd.specs.Ends.{Outcome}
use Rattle.mc_cmd.specs.Outcome.{bounds_of, files_of, sources_of, refusal, written, Answers, refused, ran, Texts, These, Missing, texts_in, AnswersOver, DefinedFor}
use Rattle.mc_cmd.specs.Laws.{AtMostOneAnswer}
use Rattle.mc_cmd.proofs.Written.{written_as_one}

-- what is answered of what sources are compiled to
abbrev told : Meaning → Result PlainExecutable Refusal → Outcome
told m (Ok e) = written m e
told m (Err r) = refusal m r

module _ (one : CompiledAreOne) (to_be_run : OneToBeRun) where
  -- what is told is one thing
  one_told : (m : Meaning) (r q : Result PlainExecutable Refusal) → OneCompiled r q → told m r ≡ told m q
  one_told m (Ok e) (Ok f) h = written_as_one to_be_run (bounds_of m) e f h
  one_told m (Ok e) (Err (Breaks rules)) h = absurd h
  one_told m (Err (Breaks rules)) (Ok f) h = absurd h
  one_told m (Err (Breaks rules)) (Err (Breaks others)) h = ap (λ (bs : List Broken). refusal m (Breaks bs)) (sym h)

  module _ (m : Meaning) (texts : List (List ℕ)) where
    same_told : (r q : Result PlainExecutable Refusal) → Compiles (sources_of m texts) r → Compiles (sources_of m texts) q → told m r ≡ told m q
    same_told r q x y = one_told m r q (one (sources_of m texts) r q x y)

    one_of_texts : (o p : Outcome) → Answers m texts o → Answers m texts p → o ≡ p
    one_of_texts o p (refused {r = r} x) (refused {r = q} y) = same_told (Err r) (Err q) x y
    one_of_texts o p (refused {r = r} x) (ran {e = f} y) = same_told (Err r) (Ok f) x y
    one_of_texts o p (ran {e = f} x) (refused {r = r} y) = same_told (Ok f) (Err r) x y
    one_of_texts o p (ran {e = f} x) (ran {e = g} y) = same_told (Ok f) (Ok g) x y

  one_over : (m : Meaning) (t : Texts) (o p : Outcome) → AnswersOver m t o → AnswersOver m t p → o ≡ p
  one_over m (These texts) o p x y = one_of_texts m texts o p x y
  one_over m (Missing file) o p x y = x ∙ sym y

  one_for : (k : Option Meaning) (held : Held) (o p : Outcome) → DefinedFor k held o → DefinedFor k held p → o ≡ p
  one_for None held o p x y = x ∙ sym y
  one_for (Some m) held o p x y = one_over m (texts_in held (files_of m)) o p x y

  pub one_answer : AtMostOneAnswer
  one_answer words held o p x y = one_for (meaning words) held o p x y
