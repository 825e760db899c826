use Rattle.laws_language.proofs.PlainProcedures.{plain-procedures}
use Rattle.laws_language.proofs.examples.plain_procedures.Goals as goal

pub returns : goal.returns
returns c = plain-procedures
