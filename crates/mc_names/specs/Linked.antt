-- The names of a program as plain data (the Mercury manual: The module system).
use Rattle.std.specs.Prelude.{ℕ, ◌+◌, Bool, List, [], ◌∷◌, map, if◌then◌else◌}
use Rattle.mc_source.specs.declared.name.Name.{Name}
use Rattle.mc_source.specs.declared.place.Place.{Place}
use Rattle.mc_decl_syntax.specs.Plain.{PlainDecl, plain_item}
use Rattle.mc_source.specs.declared.name.Candidate.{Candidate}
use Rattle.mc_names.specs.declared.names.Named.{Named}
use Rattle.mc_names.specs.declared.names.Scope.{Scope}
use Rattle.mc_names.specs.declared.names.Names.{Names}
use Rattle.std.specs.Str.{bytes_eq}

-- what is declared or defined: its name, its item, where that stands, whether other modules see it,
-- and whether they see its item
pub record Defined : Type 0 where
  pub name : Name
  pub item : PlainDecl
  pub at : Place
  pub exported : Bool
  pub shown : Bool

-- The names of a program: what is defined, in the order of the files and their items; what each
-- module sees; and what each has that a name in a term or a goal may mean.
pub record Linked : Type 0 where
  pub types : List Defined
  pub symbols : List Defined
  pub preds : List Defined
  pub insts : List Defined
  pub modes : List Defined
  pub scopes : List Scope
  pub declared : List (List Candidate)

-- the values that these stand for
abbrev pub plain_named : Named → Defined
plain_named d =
    record {
      name = d.name;
      item = plain_item d.decl;
      at = d.at;
      exported = d.exported;
      shown = d.shown;
    }

abbrev pub plain_names : Names → Linked
plain_names n =
    record {
      types = map plain_named n.types;
      symbols = map plain_named n.symbols;
      preds = map plain_named n.preds;
      insts = map plain_named n.insts;
      modes = map plain_named n.modes;
      scopes = n.scopes;
      declared = n.declared;
    }

-- the number of the first module of this name among these, the first of which has the number k
abbrev pub module_from : (k : ℕ) → List ℕ → List Scope → ℕ
module_from k w [] = k
module_from k w (s ∷ ss) = if bytes_eq s.«module» w then k else module_from (k + 1) w ss

-- the number of the module in which a type is defined
abbrev pub defining_module : Linked → Defined → ℕ
defining_module l d = module_from 0 d.name.«module» l.scopes
