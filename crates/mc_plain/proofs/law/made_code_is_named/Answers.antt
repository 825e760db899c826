use Rattle.mc_plain.proofs.Mentioned.{code_named}
use Rattle.mc_plain.proofs.law.made_code_is_named.Goals as goal

pub returns-clause-code : goal.returns-clause-code
returns-clause-code c = code_named

pub returns-clause-procedures : goal.returns-clause-procedures
returns-clause-procedures c = λ P code procs made has. code_named P code (λ m x. has m (made m x))
