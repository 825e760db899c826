use Rattle.std.proofs.Common.{◌≡◌, ◌∷◌, [], ap, ◌∙◌, subst}
use Rattle.std.specs.Prelude.{IfOk, slice_get}
use Rattle.mc_names.specs.declared.definition.Kind.TheVariants as K
use Rattle.mc_names.specs.Plain.{id, qualifiers, last_part, plain_occurrence, used}
use Rattle.mc_names.specs.Numbers.{numbers_where}
use Rattle.mc_names.specs.Linked.{plain_names}
use Rattle.mc_names.specs.Candidates.{looked_in, type_candidates}
use Rattle.mc_names.specs.code.Chosen.{has_id, types_seen}
use Rattle.mc_names.proofs.Uses.{qualifiers_are, id_is}
use Rattle.mc_names.proofs.Chosen.{seen_of_id}
use Rattle.mc_names.proofs.names.Names.type_candidates.Goals as goal

pub returns : goal.returns
returns c =
    let w = c.args.name.now in
    let n = c.args.arity in
    let own = c.args.own in
    let l = plain_names c.args.self.now in
    let u = plain_occurrence c.of-used.result in
    let js = looked_in l (slice_get c.args.self.now.scopes own) u.qualifiers in
    let e : u ∷ [] ≡ used K.DefinedType w n = c.of-used.ensures ∙ ap (λ v. used K.DefinedType v n) c.as_slice.ensures.items in
    let modules : c.modules.result.now ≡ js = c.modules.ensures ∙ (c.in_ok-searched.ensures {u = tt}) in
    let types : c.as_slice-2.result.now ≡ numbers_where (has_id u.id) 0 l.types = c.as_slice-2.ensures.value ∙ (c.in_ok-types.ensures {u = tt}) in
    let whole : c.in_ok-seen.seen.items ≡ type_candidates l own (qualifiers w) (id (last_part w) n) =
    (c.in_ok-seen.ensures {u = tt}) ∙ ap (λ js. types_seen l own c.as_slice-2.result.now js) modules ∙ ap (λ ks. types_seen l own ks js) types
    ∙ seen_of_id l own u.id js
    ∙ ap (λ q. type_candidates l own q u.id) (qualifiers_are K.DefinedType u w n e)
    ∙ ap (λ x. type_candidates l own (qualifiers w) x) (id_is K.DefinedType u w n e) in
    subst (λ xs. IfOk c.of.result (λ row. row ≡ xs)) whole c.of.ensures.elements
