use Rattle.std.proofs.Common.{List, sym, subst}
use Rattle.mc_source.specs.declared.name.Candidate.{Candidate}
use Rattle.mc_typecheck.specs.Outcomes.{IsOnly}
use Rattle.mc_typecheck.proofs.Soles.{named_only}
use Rattle.mc_typecheck.proofs.named.NamedWalk.resolution.Goals as goal

pub returns : goal.returns
returns c = λ P D clause limit vars some own at.
    let w = c.args.self.now in
    let Q : List Candidate → Type 0 = λ cs. IsOnly P D clause limit vars cs w.types.items in
    subst Q (sym c.as_slice.ensures.value) (named_only P D clause limit vars w some own at)
