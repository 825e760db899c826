use Rattle.std.proofs.Common.{◌≡◌, map, ap, ◌∙◌}
use Rattle.std.proofs.lemmas.Result.{IfOk-weaker}
use Rattle.mc_term_data.specs.Plain.{plain_term, term_list}
use Rattle.mc_decl_syntax.specs.Plain.{plain_item}
use Rattle.mc_names.specs.Linked.{plain_named, plain_names, defining_module}
use Rattle.mc_type_table.specs.Written.{written_type}
use Rattle.mc_type_table.specs.Expanded.{replaced}
use Rattle.mc_type_table.specs.Rules.{types_in_all, union_fields}
use Rattle.mc_type_table.specs.Held.{held}
use Rattle.mc_type_table.specs.code.Grown.{grown_in_all}
use Rattle.mc_type_table.specs.code.Kept.{contents_by}
use Rattle.mc_type_table.proofs.Grouping.{contents_is}
use Rattle.mc_type_table.proofs.bodies.union_contents.Goals as goal

pub returns-in_ok-fields-in-UnionType-clause-types :
    goal.returns-in_ok-fields-in-UnionType-clause-types
returns-in_ok-fields-in-UnionType-clause-types c =
    let l = plain_names c.args.names.now in
    let D = held c.args.definitions.now in
    IfOk-weaker c.contents_of_fields.result
    (λ r.
    r.types.items
    ≡ types_in_all
    (map
    (λ t. replaced D (written_type l c.defining_module.result c.as_slice-in-UnionType.result.now (plain_term t.now)))
    c.as_slice-in-UnionType-2.result.now))
    (λ r.
    r.types.items
    ≡ types_in_all
    (contents_by D l (defining_module l (plain_named c.args.named.now)) (plain_item c.args.named.now.decl)))
    (λ r is.
    is
    ∙ ap types_in_all
    (contents_is D l (defining_module l (plain_named c.args.named.now)) c.defining_module.result (λ t. plain_term t.now)
    c.in_ok-fields-in-UnionType.fields.items c.as_slice-in-UnionType-2.result.now
    c.in_ok-variables-in-UnionType.variables c.as_slice-in-UnionType.result.now
    (plain_item c.args.named.now.decl) (plain_term c.in-UnionType.head)
    (term_list (map plain_term c.in-UnionType.constructors.value)) (ap plain_item c.in-UnionType.is)
    c.defining_module.ensures c.as_slice-in-UnionType.ensures.items c.in_ok-variables-in-UnionType.ensures
    c.as_slice-in-UnionType-2.ensures.value
    (c.in_ok-fields-in-UnionType.ensures
    ∙ ap (λ ts. union_fields (term_list (map plain_term ts))) (c.as_slice.ensures.items ∙ c.deref.ensures))))
    c.contents_of_fields.ensures.types

pub returns-in_ok-fields-in-UnionType-clause-grown :
    goal.returns-in_ok-fields-in-UnionType-clause-grown
returns-in_ok-fields-in-UnionType-clause-grown c =
    let l = plain_names c.args.names.now in
    let D = held c.args.definitions.now in
    IfOk-weaker c.contents_of_fields.result
    (λ r.
    r.grown.items
    ≡ grown_in_all
    (map
    (λ t. replaced D (written_type l c.defining_module.result c.as_slice-in-UnionType.result.now (plain_term t.now)))
    c.as_slice-in-UnionType-2.result.now))
    (λ r.
    r.grown.items
    ≡ grown_in_all
    (contents_by D l (defining_module l (plain_named c.args.named.now)) (plain_item c.args.named.now.decl)))
    (λ r is.
    is
    ∙ ap grown_in_all
    (contents_is D l (defining_module l (plain_named c.args.named.now)) c.defining_module.result (λ t. plain_term t.now)
    c.in_ok-fields-in-UnionType.fields.items c.as_slice-in-UnionType-2.result.now
    c.in_ok-variables-in-UnionType.variables c.as_slice-in-UnionType.result.now
    (plain_item c.args.named.now.decl) (plain_term c.in-UnionType.head)
    (term_list (map plain_term c.in-UnionType.constructors.value)) (ap plain_item c.in-UnionType.is)
    c.defining_module.ensures c.as_slice-in-UnionType.ensures.items c.in_ok-variables-in-UnionType.ensures
    c.as_slice-in-UnionType-2.ensures.value
    (c.in_ok-fields-in-UnionType.ensures
    ∙ ap (λ ts. union_fields (term_list (map plain_term ts))) (c.as_slice.ensures.items ∙ c.deref.ensures))))
    c.contents_of_fields.ensures.grown
