use Rattle.laws_made_types.proofs.Tracing.{walks_have_traces}
use Rattle.laws_made_types.proofs.laws.walks_have_traces.Goals as goal

pub returns : goal.returns
returns c = walks_have_traces
