use Rattle.mc_mode_state.proofs.Returns.{moved-back}
use Rattle.mc_mode_state.proofs.state.State.abandon.Goals as goal

pub returns-clause-same : goal.returns-clause-same
returns-clause-same c = λ q r s st step is. c.undo.ensures.same s step.later st.even is

pub returns-clause-moved : goal.returns-clause-moved
returns-clause-moved c = λ q r s st step is.
    moved-back q r s c.args.self.now c.undo.new.self st step (c.undo.ensures.same s step.later st.even is) c.undo.ensures.nodes
