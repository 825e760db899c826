use Rattle.std.proofs.Common.{◌≡◌, ◌∷◌, ◌++◌, [], ap, ◌∙◌, subst}
use Rattle.std.specs.Prelude.{IfOk, slice_get}
use Rattle.mc_names.specs.declared.definition.Kind.TheVariants as K
use Rattle.mc_names.specs.Plain.{id, qualifiers, last_part, plain_occurrence, used}
use Rattle.mc_names.specs.Characters.{character}
use Rattle.mc_names.specs.Linked.{plain_names}
use Rattle.mc_names.specs.Candidates.{fitting_in, looked_in, as_character, candidates}
use Rattle.mc_names.proofs.Uses.{qualifiers_are, id_is}
use Rattle.mc_names.proofs.names.Names.candidates.Goals as goal

pub returns : goal.returns
returns c =
    let w = c.args.name.now in
    let n = c.args.arity in
    let own = c.args.own in
    let l = plain_names c.args.self.now in
    let scope = slice_get c.args.self.now.scopes own in
    let u = plain_occurrence c.of-used.result in
    let e : u ∷ [] ≡ used K.Symbol w n = c.of-used.ensures ∙ ap (λ v. used K.Symbol v n) c.as_slice.ensures.items in
    let modules : c.modules.result.now ≡ looked_in l scope u.qualifiers = c.modules.ensures ∙ (c.in_ok-searched.ensures {u = tt}) in
    let found : c.put_of_modules.new.all.items ≡ fitting_in l own u.id (looked_in l scope u.qualifiers) =
    (c.in_ok-put_of_modules.ensures {u = tt}) ∙ ap (λ zs. zs ++ fitting_in l own u.id c.modules.result.now) c.new-all.ensures.items ∙ ap (fitting_in l own u.id) modules in
    let whole : c.put_character.new.all.items ≡ candidates l own (qualifiers w) (id (last_part w) n) =
    (c.in_ok-put_character.ensures {u = tt}) ∙ ap (λ zs. zs ++ as_character (character u.qualifiers u.id)) found
    ∙ ap (λ q. candidates l own q u.id) (qualifiers_are K.Symbol u w n e)
    ∙ ap (λ x. candidates l own (qualifiers w) x) (id_is K.Symbol u w n e) in
    subst (λ xs. IfOk c.of.result (λ row. row ≡ xs)) whole c.of.ensures.elements
