-- What putting definitions in, one after another, makes.
use Rattle.std.proofs.Common.{◌≡◌, List, [], ◌∷◌, ◌||◌, refl, ap, sym, ◌∙◌}
use Rattle.std.specs.Set.{is_member}
use Rattle.mc_base.proofs.NameSetLaws.{or_false, or_assoc, is_member-push_unless}
use Rattle.mc_names.specs.Plain.{PlainDefinition, is_definition}
use Rattle.mc_defs_uses.specs.Sets.{put, put_all}
use Rattle.mc_names.proofs.Same.{is_definition_equiv}

-- a definition is there after another is put in where it was there or is that one
pub is_member-put : (ts : List PlainDefinition) (t q : PlainDefinition) → is_member is_definition (put ts t) q ≡ (is_member is_definition ts q || is_definition q t)
is_member-put ts t q = is_member-push_unless is_definition_equiv ts t q (is_member is_definition ts t) refl

-- a definition is there after others are put in where it was there or is one of those
pub is_member-put_all : (ts us : List PlainDefinition) (q : PlainDefinition) → is_member is_definition (put_all ts us) q ≡ (is_member is_definition ts q || is_member is_definition us q)
is_member-put_all ts [] q = sym (or_false (is_member is_definition ts q))
is_member-put_all ts (u ∷ us) q =
    is_member-put_all (put ts u) us q ∙ ap (λ b. b || is_member is_definition us q) (is_member-put ts u q) ∙ or_assoc (is_member is_definition ts q) (is_definition q u) (is_member is_definition us q)
