-- The files, the source and the sink in memory, as contracts see them. Source: this project's
-- profile.
use Rattle.std.specs.Prelude.{◌≡◌, ℕ, List, ◌++◌, drop, Contains, Result, Ok, Err, refl}
use Rattle.std.specs.FinMap as map
use Rattle.std.specs.Coded.{Coded, code_by, coded×, coded_ℕ, coded_list}
use Rattle.mc_outside.specs.declared.traits.FileAnswer.{FileAnswer}
use Rattle.mc_outside.specs.declared.traits.FileAnswer.TheVariants as file
use Rattle.mc_outside.specs.declared.traits.PutFault.{PutFault}
use Rattle.mc_outside.specs.declared.traits.PutFault.TheVariants as put
use Rattle.mc_outside.specs.Counts.{raised}
use Rattle.mc_outside.specs.Meaning.{Held}

-- how often a form in memory was called, how many of these calls failed, and the numbers of the
-- calls that fail, counted from 1
pub record CallsState : Type 0 where
  pub fail : List ℕ
  pub made : ℕ
  pub faults : ℕ

-- no calls yet
abbrev pub fresh : List ℕ → CallsState
fresh fail = record { fail = fail; made = 0; faults = 0 }

-- the next call fails
abbrev pub FailsNext : CallsState → Type 0
FailsNext calls = Contains calls.fail (raised calls.made)

-- one more call, which didn't fail
abbrev pub passed : CallsState → CallsState
passed calls = record calls { made = raised calls.made }

-- one more call, which failed
abbrev pub failed : CallsState → CallsState
failed calls = record calls { made = raised calls.made; faults = raised calls.faults }

-- files in memory: their bytes by name, the calls, and how many of these found no file
pub record FilesState : Type 0 where
  pub held : Held
  pub calls : CallsState
  pub absents : ℕ

-- a source in memory: the bytes not yet taken, and the calls
pub record SourceState : Type 0 where
  pub left : List ℕ
  pub calls : CallsState

-- a sink in memory: the bytes put so far, and the calls
pub record SinkState : Type 0 where
  pub written : List ℕ
  pub calls : CallsState

-- calls are stored as the tuple of their parts
abbrev pub calls_code : Coded CallsState
calls_code =
    code_by (List ℕ × (ℕ × ℕ)) (coded× (coded_list coded_ℕ) (coded× coded_ℕ coded_ℕ))
    (λ c. (c.fail, (c.made, c.faults)))
    (λ p. record { fail = p.0; made = p.1.0; faults = p.1.1 }) (λ _. refl)

-- files in memory are stored as the tuple of their parts
abbrev pub files_code : Coded FilesState
files_code =
    code_by (Held × (CallsState × ℕ))
    (coded× (map.code (coded_list coded_ℕ) (coded_list coded_ℕ)) (coded× calls_code coded_ℕ))
    (λ s. (s.held, (s.calls, s.absents)))
    (λ p. record { held = p.0; calls = p.1.0; absents = p.1.1 }) (λ _. refl)

-- after a read of files in memory: nothing but the counts has changed
abbrev pub FilesRead : {T : Type 0} → FilesState → FilesState → Result T FileAnswer → Type 0
FilesRead old new (Ok bytes) = new ≡ record old { calls = passed old.calls }
FilesRead old new (Err file.Absent) =
    new ≡ record old { calls = passed old.calls; absents = raised old.absents }
FilesRead old new (Err file.Failed) = new ≡ record old { calls = failed old.calls }
FilesRead old new (Err file.Memory) = new ≡ record old { calls = passed old.calls }

-- after a taking from a source in memory: a call that fails changes nothing but the counts
abbrev pub SourceTakes : {E : Type 0} → SourceState → SourceState → Result ℕ E → Type 0
SourceTakes old new (Ok count) =
    new ≡ record { left = drop count old.left; calls = passed old.calls }
SourceTakes old new (Err e) = new ≡ record old { calls = failed old.calls }

-- after a put into a sink in memory: a call that fails changes nothing but the counts
abbrev pub SinkPuts : {T : Type 0} → SinkState → SinkState → Result T PutFault → List ℕ → Type 0
SinkPuts old new (Ok u) piece =
    new ≡ record { written = old.written ++ piece; calls = passed old.calls }
SinkPuts old new (Err put.Failed) piece = new ≡ record old { calls = failed old.calls }
SinkPuts old new (Err put.Memory) piece = new ≡ record old { calls = passed old.calls }
