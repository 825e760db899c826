-- What one pass over the items of a file finds is what the file has.
use Rattle.std.proofs.Common.{◌≡◌, ℕ, List, [], ◌∷◌, ◌++◌, refl, ap, ◌∙◌}
use Rattle.mc_decl_syntax.specs.Plain.{PlainDecl, AbstractType, UnionType, SameType}
use Rattle.mc_names.specs.declared.definition.Kind.TheVariants as K
use Rattle.mc_names.specs.Plain.{definition}
use Rattle.mc_names.specs.Definitions.{head_name}
use Rattle.mc_modules.proofs.Tables.{has-set, is_member_set}
use Rattle.mc_modules.specs.Files.{PlainItemInFile, definitions_of, shown_of}
use Rattle.mc_modules.specs.Kept.{table}
use Rattle.mc_modules.specs.Linked.{types_by, types_in}
use Rattle.mc_modules.specs.code.Passes.{types_with, types_pass}

types_there : (m : List ℕ) (all : List PlainItemInFile) (s : PlainItemInFile) (i : PlainDecl) → types_with m (table all) s i ≡ types_by m all s i
types_there m all s (AbstractType h) =
    rw (is_member_set (definitions_of all) (definition K.DefinedType (head_name h)), has-set K.DefinedType (head_name h) (shown_of all)) refl
types_there m all s (UnionType h cs) = rw (has-set K.DefinedType (head_name h) (shown_of all)) refl
types_there m all s (SameType h t) = rw (has-set K.DefinedType (head_name h) (shown_of all)) refl
types_there m all s i = refl

pub types_are : (m : List ℕ) (all ss : List PlainItemInFile) → types_pass m (table all) ss ≡ types_in m all ss
types_are m all [] = refl
types_are m all (s ∷ ss) =
    ap (λ ds. ds ++ types_pass m (table all) ss) (types_there m all s s.item) ∙ ap (λ ds. types_by m all s s.item ++ ds) (types_are m all ss)
