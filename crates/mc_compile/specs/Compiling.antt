-- What sources are compiled to: the phases, one behind another. The rules that sources break are
-- those of the first phase with a fault.
use Rattle.std.specs.Prelude.{Result}
use Rattle.mc_compile.specs.Phases.{Refusal, Then}
use Rattle.mc_compile.specs.Sources.{Sources}
use Rattle.mc_compile.specs.Reading.{PlainRead, Reads}
use Rattle.mc_compile.specs.Linking.{PlainNamed, Links}
use Rattle.mc_compile.specs.Typing.{PlainTyped, Types}
use Rattle.mc_compile.specs.Checking.{Clauses}
use Rattle.mc_compile.specs.Ruling.{PlainExecutable, Rules}

-- the phases from clauses on
abbrev pub FromClauses : Sources → PlainTyped → Result PlainExecutable Refusal → Type 0
FromClauses sources = Then Clauses (Rules sources)

-- the phases from types on
abbrev pub FromTypes : Sources → PlainNamed → Result PlainExecutable Refusal → Type 0
FromTypes sources = Then Types (FromClauses sources)

-- the phases from linking on
abbrev pub FromLinking : Sources → PlainRead → Result PlainExecutable Refusal → Type 0
FromLinking sources = Then Links (FromTypes sources)

-- all phases
abbrev pub Compiles : Sources → Result PlainExecutable Refusal → Type 0
Compiles sources = Then Reads (FromLinking sources) sources
