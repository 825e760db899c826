-- A constructor of a type takes arguments of the types that it is declared with, at the type's
-- argument; so what builtins make is of their types.
use Rattle.std.proofs.Common.{◌≡◌, ℕ, Bool, true, false, List, [], ◌∷◌, map, Some, cond, inl, inr, refl, ap, ◌∙◌}
use Rattle.std.proofs.lemmas.Bool.{eq-eqb, and_from, cond-true}
use Rattle.mc_program.specs.Programs.{TypeTerm, char_type, string_type, TypeTerms, no_types, type_then, union_type}
use Rattle.mc_program.specs.PlainPrograms.{plain_program}
use Rattle.mc_program.specs.declared.builtin.Builtin.{Builtin}
use Rattle.mc_program.specs.declared.builtin.Builtin.TheVariants as B
use Rattle.mc_program.specs.declared.program.Program.{Program}
use Rattle.mc_model.specs.Builtins.{Library}
use Rattle.mc_model.specs.Lists.{In, is_in}
use Rattle.mc_model.specs.Types.{argument_types, instance_of, type_at}
use Rattle.mc_model.specs.Worlds.{library_of}
use Rattle.mc_accepted.specs.BuiltinTypes.{Library_types, list_of}
use Rattle.mc_self_check.specs.HasLibrary.{item, IsConstructor, HasMade}
use Rattle.mc_self_check.specs.MadeTypes.{MakesTypes, LibraryMakesTypes}

in_list : (x : ℕ) (xs : List ℕ) → In x xs → is_in x xs ≡ true
in_list x [] i = absurd i
in_list x (y ∷ ys) (inl e) = cond-true _ _ _ (eq-eqb x y e)
in_list x (y ∷ ys) (inr i) = either _ _ (in_list x ys i)
  where
    either : (t b : Bool) → b ≡ true → cond t true b ≡ true
    either true b e = refl
    either false b e = e

constructs :
    (P : Program) (s u : ℕ) (types : List TypeTerm) (ts : TypeTerms)
    → IsConstructor P s u types
    → argument_types (plain_program P) s (union_type u ts)
    ≡ Some (map (instance_of (type_at ts)) types)
constructs P s u types ts is =
    cond-true _ _ _ (and_from _ _ (eq-eqb _ _ is.of_type) (in_list _ _ is.listed))
    ∙ ap (λ (args : List TypeTerm). Some (map (instance_of (type_at ts)) args)) is.args

chars : TypeTerms
chars = type_then char_type no_types

line : TypeTerms
line = type_then string_type no_types

makes_types :
    (P : Program) (L : Library) (K : Library_types) (op : Builtin)
    → HasMade P L K op → MakesTypes (plain_program P) L K op
unfolding chars line
makes_types P L K B.ToCharList has =
    record {
      nil = constructs P L.nil K.list [] chars has.nil;
      cons = constructs P L.cons K.list (item ∷ list_of K item ∷ []) chars has.cons;
    }
makes_types P L K B.ReadLine has =
    record {
      ok = constructs P L.ok K.result (item ∷ []) line has.ok;
      eof = constructs P L.eof K.result [] line has.eof;
    }
makes_types P L K _ has = tt

pub library_makes_types : LibraryMakesTypes
library_makes_types P has =
    (has.0, has.1, λ p op is. makes_types P (library_of P) has.0 op (has.2 p op is))
