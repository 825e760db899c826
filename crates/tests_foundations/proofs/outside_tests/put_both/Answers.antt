use Rattle.mc_outside.proofs.InTurn.{Puts-front, PutsFront-after}
use Rattle.tests_foundations.proofs.outside_tests.put_both.Goals as goal

pub returns-clause-part : goal.returns-clause-part
returns-clause-part g c = PutsFront-after _ _ _ _ _ _ c.in_ok-put.ensures.bytes (Puts-front _ _ _ _ c.put-2.ensures.bytes)
