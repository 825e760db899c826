-- What a scene stands for: a graph of insts with names, and the types of a program that its rows are.
use Rattle.std.specs.Prelude.{◌≡◌, ◌⊎◌, ℕ, ◌<◌, true, List, length, map, get_or, Some}
use Rattle.mc_program.specs.Programs.{TypeTerm, int_type, char_type, string_type, state_type, variable_type, union_type, TypeTerms, Source}
use Rattle.mc_model.specs.Types.{argument_types}
use Rattle.mc_model.specs.Insts.{Listed, InstNode, free, ground, unique, dead, bound, Graph}
use Rattle.mc_insts.specs.declared.graph.Case.{Case}
use Rattle.mc_insts.specs.code.Functors.{Functor}
use Rattle.mc_insts.specs.declared.graph.Node.{Node}
use Rattle.mc_insts.specs.declared.graph.Node.TheVariants as N
use Rattle.mc_insts.specs.declared.graph.Shape.{Shape}
use Rattle.mc_insts.specs.declared.graph.Shape.TheVariants as S
use Rattle.mc_insts.specs.code.Cases.{row_has, row_arg}
use Rattle.mc_insts.specs.code.Walks.{Scene, node_at, shape_at, functor_at, arity_of}

abbrev pub plain_case : List Functor → Case → Listed
plain_case fs c = record { name = (functor_at fs c.functor).name; arity = (functor_at fs c.functor).arity; args = c.args }

abbrev pub plain_node : List Functor → Node → InstNode
plain_node fs N.Free = free
plain_node fs N.Ground = ground
plain_node fs N.Unique = unique
plain_node fs N.Dead = dead
plain_node fs (N.Bound cs) = bound (map (plain_case fs) cs)

-- the graph that functors and nodes stand for
abbrev pub plain_graph : List Functor → List Node → Graph
plain_graph fs ns i = plain_node fs (node_at ns i)

-- no two functors have one name and number of arguments
abbrev pub Distinct : List Functor → Type 0
Distinct fs = (f g : ℕ) → f < length fs → g < length fs → (functor_at fs f).name ≡ (functor_at fs g).name → (functor_at fs f).arity ≡ (functor_at fs g).arity → f ≡ g

-- the kind of a row is that of a type
abbrev pub Kind : Shape → TypeTerm → Type 0
Kind S.Constants t = (t ≡ int_type) ⊎ ((t ≡ char_type) ⊎ (t ≡ string_type))
Kind S.State t = t ≡ state_type
Kind S.Any t = (v : ℕ) × (t ≡ variable_type v)
Kind (S.Union cs) t = (u : ℕ) × ((ts : TypeTerms) × (t ≡ union_type u ts))

-- a constructor of a row's type, with its arguments' types, has the functor there, whose arguments' rows are these types
pub record Meant (P : Source) (C : Scene) (type : ℕ → TypeTerm) (r s : ℕ) (ts : List TypeTerm) (f : ℕ) : Type 0 where
  pub typed : row_has C.known (shape_at C.rows r) f ≡ true
  pub within : f < length C.functors
  pub name : (functor_at C.functors f).name ≡ (P.symbols s).name.bytes
  pub arity : (functor_at C.functors f).arity ≡ (P.symbols s).name.arity
  pub types : (k : ℕ) → k < arity_of C f → get_or ts k (variable_type 0) ≡ type (row_arg (shape_at C.rows r) r f k)

pub record RowIs (P : Source) (C : Scene) (type : ℕ → TypeTerm) (r : ℕ) : Type 0 where
  pub kind : Kind (shape_at C.rows r) (type r)
  pub complete : (s : ℕ) (ts : List TypeTerm) → argument_types P s (type r) ≡ Some ts → (f : ℕ) × Meant P C type r s ts f
  pub sound : (f : ℕ) → row_has C.known (shape_at C.rows r) f ≡ true → (s : ℕ) × ((ts : List TypeTerm) × ((argument_types P s (type r) ≡ Some ts) × Meant P C type r s ts f))

-- the rows are these types of the program
abbrev pub RowsAre : Source → Scene → (ℕ → TypeTerm) → Type 0
RowsAre P C type = (r : ℕ) → r < length C.rows → RowIs P C type r
