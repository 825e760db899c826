-- Types that are declared, as the walk over what writes them makes them.
use Rattle.std.specs.Prelude.{◌≡◌, List, [], ◌∷◌}
use Rattle.mc_term_data.specs.Plain.{PlainTerm, term_list}
use Rattle.mc_program.specs.Programs.{TypeTerm, TypeTerms, type_then}
use Rattle.mc_program.specs.PlainPrograms.{plain_type}
use Rattle.mc_program.specs.declared.ty.Ty.{Ty}
use Rattle.mc_names.specs.Linked.{plain_names}
use Rattle.mc_clauses.specs.Variables.{Met}
use Rattle.mc_declarations.specs.Declarations.{declared_type, declared_types}
use Rattle.mc_clauses.specs.code.Meanings.{Knows}
use Rattle.mc_clauses.specs.declared.terms.Module.{Module}
use Rattle.mc_clauses.specs.declared.variables.Variables.{Variables}

-- this is what a walk makes, and the variables are those that are met then
pub record Comes {B : Type 0} (it : B) (walked : B × Met) (after : Variables) : Type 0 where
  pub is : it ≡ walked.0
  pub knows : Knows [] walked.1 after

-- This is made from the variables before, and those after are known: it stands for what the walk
-- makes after anything that was met.
abbrev pub Walked :
    {A B : Type 0}
    → (view : A → B) → (walk : Met → B × Met) → (before after : Variables) → A → Type 0
Walked view walk before after it =
    (m : Met) → Knows [] m before → Comes (view it) (walk m) after

-- the walks over what writes types in a module
abbrev pub type_walk : Module → PlainTerm → Met → TypeTerm × Met
type_walk at t = declared_type (plain_names at.names.now) at.own t

abbrev pub types_walk : Module → List PlainTerm → Met → TypeTerms × Met
types_walk at ts = declared_types (plain_names at.names.now) at.own (term_list ts)

-- types in front of others
abbrev pub in_front : List Ty → TypeTerms → TypeTerms
in_front [] ts = ts
in_front (d ∷ ds) ts = type_then (plain_type d) (in_front ds ts)

-- Some of these types are made, in order, and the rest is still to be walked.
pub record Taken
    (at : Module) (m : Met) (all rest : List PlainTerm) (done : List Ty) (now : Variables)
    : Type 0 where
  pub met : Met
  pub knows : Knows [] met now
  pub is :
      types_walk at all m
      ≡ (in_front done (types_walk at rest met).0, (types_walk at rest met).1)
