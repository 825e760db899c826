-- What a set of definitions tells of abstract types.
use Rattle.std.proofs.Common.{◌≡◌, Bool, true, false, ◌||◌, ◌&&◌, List, [], ◌∷◌, refl}
use Rattle.std.specs.List.{list_any}
use Rattle.std.specs.Set.{is_member}
use Rattle.mc_names.specs.declared.definition.Kind.{Kind}
use Rattle.mc_names.specs.declared.definition.Kind.TheVariants as K
use Rattle.mc_names.specs.Plain.{PlainDefinition, is_kind, is_name_arity, is_definition}
use Rattle.mc_defs_uses.specs.code.Steps.{TellsAbstractTypes}

abbrev is_abstract : PlainDefinition → Bool
is_abstract t = is_kind t.kind K.AbstractType

either_false : (a b : Bool) → (a || b) ≡ false → (a ≡ false) × (b ≡ false)
either_false true b e = cc
either_false false b e = (refl, e)

both_false : (a b : Bool) → a ≡ false → b ≡ false → (a || b) ≡ false
both_false true b e f = cc
both_false false b e f = f

-- a definition of an abstract type is none of another kind
apart : (k j : Kind) (b : Bool) → is_kind k K.AbstractType ≡ true → is_kind j K.AbstractType ≡ false → (is_kind k j && b) ≡ false
apart K.AbstractType K.AbstractType b e f = cc
apart K.AbstractType K.DefinedType b e f = refl
apart K.AbstractType K.Inst b e f = refl
apart K.AbstractType K.Mode b e f = refl
apart K.AbstractType K.Pred b e f = refl
apart K.AbstractType K.Func b e f = refl
apart K.AbstractType K.Symbol b e f = refl
apart K.DefinedType j b e f = cc
apart K.Inst j b e f = cc
apart K.Mode j b e f = cc
apart K.Pred j b e f = cc
apart K.Func j b e f = cc
apart K.Symbol j b e f = cc

pub none_of_them : (has : Bool) (ts : List PlainDefinition) (q : PlainDefinition) → TellsAbstractTypes has ts → has ≡ false → is_kind q.kind K.AbstractType ≡ true → is_member is_definition ts q ≡ false
none_of_them has ts q told none e = among ts (told none)
  where
    among : (us : List PlainDefinition) → list_any is_abstract us ≡ false → is_member is_definition us q ≡ false
    among [] h = refl
    among (u ∷ us) h =
        let g = either_false (is_abstract u) (list_any is_abstract us) h in
        both_false (is_definition q u) (is_member is_definition us q) (apart q.kind u.kind (is_name_arity q.id u.id) e g.0) (among us g.1)
