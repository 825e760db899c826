use Rattle.std.proofs.Common.{◌∙◌, ◌<◌, ℕ, List, length, get_or, ap, sym, subst}
use Rattle.mc_insts.specs.Graphs.{count_of}
use Rattle.mc_mode_state.specs.States.{point_of}
use Rattle.mc_mode_state.proofs.MadeOutcomes.{insts-below}
use Rattle.mc_mode_state.proofs.state.State.over_these.Goals as goal

pub over-requires-clause-insts : goal.over-requires-clause-insts
over-requires-clause-insts c =
    let q = c.args.procs.now in
    let b = point_of c.args.self.now.insts.items in
    subst (λ (is : List ℕ). (n : ℕ) → n < length is → get_or is n 0 < count_of q.insts) (sym (c.deref.ensures.value ∙ c.in_ok-insts.ensures))
    (insts-below b (count_of q.insts) c.args.ys.now c.requires.stands.insts)

pub returns-clause-found : goal.returns-clause-found
returns-clause-found c = λ C T a.
    ap (C.over c.args.symbol) (sym (c.deref.ensures.value ∙ c.in_ok-insts.ensures)) ∙ c.in_ok-inst.ensures.found C T a
