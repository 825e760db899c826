use Rattle.mc_compile.specs.Library.{library_texts}
use Rattle.mc_compile.proofs.linking.library.Goals as goal

pub returns : goal.returns
unfolding library_texts
returns c = c.modules.ensures
