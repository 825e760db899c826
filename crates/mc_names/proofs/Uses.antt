-- The parts of a name as it is looked up.
use Rattle.std.proofs.Common.{◌≡◌, ℕ, List, [], ◌∷◌, ap}
use Rattle.mc_decl_syntax.specs.Plain.{Path}
use Rattle.mc_names.specs.declared.definition.Kind.{Kind}
use Rattle.mc_names.specs.Plain.{id, PlainOccurrence, qualifiers, last_part, used}

abbrev first : PlainOccurrence → List PlainOccurrence → PlainOccurrence
first u [] = u
first u (v ∷ vs) = v

pub qualifiers_are : (k : Kind) (u : PlainOccurrence) (w : Path) (n : ℕ) → u ∷ [] ≡ used k w n → u.qualifiers ≡ qualifiers w
qualifiers_are k u w n e = ap (λ us. (first u us).qualifiers) e

pub id_is : (k : Kind) (u : PlainOccurrence) (w : Path) (n : ℕ) → u ∷ [] ≡ used k w n → u.id ≡ id (last_part w) n
id_is k u w n e = ap (λ us. (first u us).id) e
