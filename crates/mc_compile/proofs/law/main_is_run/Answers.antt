use Rattle.mc_compile.proofs.Mains.{main_run}
use Rattle.mc_compile.proofs.law.main_is_run.Goals as goal

pub returns : goal.returns
returns c = main_run c.main_is_there.ensures
