use Rattle.std.proofs.Common.{List, sym, ap₂, ◌∙◌}
use Rattle.mc_source.specs.declared.name.Candidate.{Candidate}
use Rattle.mc_unresolved.specs.declared.term.Unresolved.{Unresolved, Name}
use Rattle.mc_unresolved.proofs.Pendings.{name_opened}
use Rattle.mc_unresolved.proofs.tasks.open_term.Goals as goal

pub returns-in_ok-put_terms-in-Name : goal.returns-in_ok-put_terms-in-Name
returns-in_ok-put_terms-in-Name c =
    name_opened c.args.term.now c.as_slice.result.now c.as_slice-args.result.now _ _ _
    (c.in-Name.is ∙ ap₂ (λ (cs : List Candidate) (xs : List Unresolved). Name cs xs) (sym c.as_slice.ensures.items) (sym c.as_slice-args.ensures.items))
    c.in_ok-put-in-Name.ensures c.in_ok-put_terms-in-Name.ensures
