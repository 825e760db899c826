use Rattle.std.proofs.Common.{[], ap, ◌∙◌, map}
use Rattle.std.specs.Prelude.{slice_index_or}
use Rattle.mc_names.specs.Linked.{plain_named, plain_names}
use Rattle.mc_signatures.specs.WrittenModes.{plain_written, callable_of, modes_among, or_default}
use Rattle.mc_signatures.specs.code.Callables.{plain_callable}
use Rattle.mc_signatures.proofs.Named.{among_named}
use Rattle.mc_signatures.proofs.declared.modes_of.Goals as goal

pub returns : goal.returns
returns c files are =
    let linked = plain_names c.args.names.now in
    let named = plain_named c.args.named.now in
    let own = c.defining_module-own.result in
    let wanted = plain_callable c.callable_of-wanted.result in
    ap (map plain_written) c.in_ok-row.ensures.elements
    ∙ c.in_ok-all.ensures
    ∙ ap (or_default named)
    (c.in_ok-modes.ensures
    ∙ ap (modes_among linked own wanted) (are own wanted.id.name)
    ∙ among_named linked own wanted (slice_index_or files own [])
    ∙ ap (λ x. modes_among linked own x (slice_index_or files own [])) c.callable_of-wanted.ensures
    ∙ ap (λ n. modes_among linked n (callable_of named) (slice_index_or files n [])) c.defining_module-own.ensures)
