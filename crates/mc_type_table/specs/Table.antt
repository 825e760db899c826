-- The types of a program as a table (the Mercury manual: Types).
use Rattle.std.specs.Prelude.{◌≡◌, ◌≢◌, ℕ, ◌+◌, List, [], ◌∷◌}
use Rattle.mc_term_data.specs.Names.{count}
use Rattle.mc_decl_syntax.specs.declared.entry.ItemsFault.{ItemsFault}
use Rattle.mc_decl_syntax.specs.declared.entry.ItemsFault.TheVariants as I
use Rattle.mc_program.specs.declared.program.TypeDef.{TypeDef}
use Rattle.mc_model.specs.Lists.{from}
use Rattle.mc_decl_syntax.specs.Plain.{PlainDecl, UnionType}
use Rattle.mc_names.specs.Linked.{Defined, Linked}
use Rattle.mc_type_table.specs.Rules.{type_faults}

-- how many constructors a definition has; an equivalence and an abstract type have none
abbrev pub constructor_count : PlainDecl → ℕ
constructor_count (UnionType h ts) = count ts
constructor_count i = 0

-- types whose constructors are numbered from a number on, as constructors stand in the order of the
-- types
abbrev pub table_from : (first : ℕ) → List Defined → List TypeDef
table_from n [] = []
table_from n (d ∷ ds) =
    record {
      name = d.name;
      params = d.name.arity;
      symbols = from n (constructor_count d.item);
    }
    ∷ table_from (n + constructor_count d.item) ds

-- THE TABLE: the types of a program by their numbers, with their parameters and constructors
abbrev pub table : Linked → List TypeDef
table l = table_from 0 l.types

-- why a program has no table
abbrev pub IsRefusedTable : Linked → ItemsFault → Type 0
IsRefusedTable l (I.Broken bs) = (bs ≡ type_faults l) × (bs ≢ [])
IsRefusedTable l I.Memory = Unit {0}
