-- What one pass over the items of a file finds, and what each file has.
use Rattle.std.specs.Prelude.{◌≡◌, ℕ, ◌+◌, List, [], ◌∷◌, ◌++◌, length, map, if◌then◌else◌}
use Rattle.std.specs.Set.{is_member}
use Rattle.mc_decl_syntax.specs.Plain.{PlainDecl, AbstractType, UnionType, SameType}
use Rattle.mc_names.specs.declared.definition.Kind.TheVariants as K
use Rattle.mc_names.specs.Plain.{definition, is_definition}
use Rattle.mc_names.specs.Definitions.{head_name}
use Rattle.mc_modules.specs.declared.table.Table.{Table}
use Rattle.mc_modules.specs.declared.visibility.Visibility.{Visibility}
use Rattle.mc_decl_syntax.specs.Entries.{File}
use Rattle.mc_modules.specs.Files.{PlainItemInFile, has}
use Rattle.mc_names.specs.declared.names.Named.{Named}
use Rattle.mc_names.specs.declared.names.Scope.{Scope}
use Rattle.mc_names.specs.Linked.{Defined, plain_named}
use Rattle.mc_modules.specs.Linked.{defined, visible, each, types_of, symbols_of, preds_of, insts_of, modes_defined}

-- the types of an item of a file that has this table
abbrev pub types_with : («module» : List ℕ) → Table → PlainItemInFile → PlainDecl → List Defined
types_with m t s (AbstractType h) =
    if is_member is_definition t.definitions (definition K.DefinedType (head_name h)) then []
    else defined m s (has K.DefinedType (head_name h) t.shown) s.item (head_name h) ∷ []
types_with m t s (UnionType h ts) =
    defined m s (has K.DefinedType (head_name h) t.shown) s.item (head_name h) ∷ []
types_with m t s (SameType h b) =
    defined m s (has K.DefinedType (head_name h) t.shown) s.item (head_name h) ∷ []
types_with m t s i = []

abbrev pub types_pass : («module» : List ℕ) → Table → List PlainItemInFile → List Defined
types_pass m t [] = []
types_pass m t (s ∷ ss) = types_with m t s s.item ++ types_pass m t ss

-- how many definitions come before each of some lists
abbrev pub starts_from : {A : Type 0} → ℕ → List (List A) → List ℕ
starts_from n [] = []
starts_from n (xs ∷ xss) = n ∷ starts_from (n + length xs) xss

-- what a module of a name sees, where each file has these types, constructors, predicates with
-- functions, insts and modes
abbrev pub scope_over :
    (name : List ℕ)
    → Visibility → (own : ℕ) → (types symbols preds insts modes : List (List Defined)) → Scope
scope_over w s own types symbols preds insts modes =
    record {
      «module» = w;
      types = visible own s.seen types;
      symbols = visible own s.seen symbols;
      preds = visible own s.seen preds;
      insts = visible own s.seen insts;
      modes = visible own s.seen modes;
      unqualified = s.unqualified;
      seen = s.seen;
    }

-- These are what each of these files has of each sort.
pub record AreParts (files : List File) (types symbols preds insts modes : List (List Named)) : Type 0 where
  pub types_are : map (map plain_named) types ≡ each types_of files
  pub symbols_are : map (map plain_named) symbols ≡ each symbols_of files
  pub preds_are : map (map plain_named) preds ≡ each preds_of files
  pub insts_are : map (map plain_named) insts ≡ each insts_of files
  pub modes_are : map (map plain_named) modes ≡ each modes_defined files
