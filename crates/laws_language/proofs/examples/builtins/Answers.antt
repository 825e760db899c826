use Rattle.std.proofs.Common.{refl}
use Rattle.std.specs.Char.{encode_utf8}
use Rattle.std.specs.Int.{int_wrap}
use Rattle.std.specs.Fmt.{digits}
use Rattle.std.specs.Str.{chars, is_utf8}
use Rattle.laws_language.proofs.examples.builtins.Goals as goal

pub returns-clause-numbers_wrap : goal.returns-clause-numbers_wrap
unfolding int_wrap digits chars is_utf8 encode_utf8
returns-clause-numbers_wrap c = (refl, refl, refl, refl, refl, (λ e. cc))

pub returns-clause-division_rounds : goal.returns-clause-division_rounds
unfolding int_wrap digits chars is_utf8 encode_utf8
returns-clause-division_rounds c = (refl, refl, refl, refl, refl, refl, refl, refl, refl, refl, refl, refl, refl, refl, refl, refl, refl, (λ e. cc))

pub returns-clause-division_at_its_ends : goal.returns-clause-division_at_its_ends
unfolding int_wrap digits chars is_utf8 encode_utf8
returns-clause-division_at_its_ends c = (refl, refl, refl, refl, refl, refl, refl, refl, (λ e. cc))

pub returns-clause-comparisons : goal.returns-clause-comparisons
unfolding int_wrap digits chars is_utf8 encode_utf8
returns-clause-comparisons c = (refl, refl, refl, refl, refl, refl, refl, refl, (λ e. cc))

pub returns-clause-numbers_in_texts : goal.returns-clause-numbers_in_texts
unfolding int_wrap digits chars is_utf8 encode_utf8
returns-clause-numbers_in_texts c = (refl, refl, refl, refl, refl, refl, refl, refl, refl, refl, refl, refl, (λ e. cc))

pub returns-clause-characters_in_texts : goal.returns-clause-characters_in_texts
unfolding int_wrap digits chars is_utf8 encode_utf8
returns-clause-characters_in_texts c = (refl, refl, refl, refl, refl, refl, refl, refl, refl, refl, refl, refl, refl, (λ e. cc))

pub returns-clause-writing : goal.returns-clause-writing
unfolding int_wrap digits chars is_utf8 encode_utf8
returns-clause-writing c = (refl, refl, refl, refl, refl, refl, (λ e. cc))

pub returns-clause-reading : goal.returns-clause-reading
unfolding int_wrap digits chars is_utf8 encode_utf8
returns-clause-reading c = (refl, refl, refl, refl, refl, refl, (λ e. cc))

pub returns-clause-in_programs : goal.returns-clause-in_programs
unfolding int_wrap digits chars is_utf8 encode_utf8
returns-clause-in_programs c = (refl, refl, refl, refl, (λ e. cc))
