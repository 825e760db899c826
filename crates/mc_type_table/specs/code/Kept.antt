-- What is kept of a program while its types are judged.
use Rattle.std.specs.Prelude.{◌≡◌, ◌≤◌, ℕ, Bool, true, ◌&&◌, List, [], ◌∷◌, map, length, Option, Some, None, slice_get}
use Rattle.mc_program.specs.Programs.{TypeTerm}
use Rattle.mc_components.specs.Components.{steps, NumbersComponents}
use Rattle.mc_decl_syntax.specs.Plain.{PlainDecl, UnionType}
use Rattle.mc_names.specs.Linked.{Defined, Linked, defining_module}
use Rattle.mc_type_table.specs.declared.bodies.Bodies.{Bodies}
use Rattle.mc_type_table.specs.declared.definitions.Equivalences.{Equivalences}
use Rattle.mc_type_table.specs.declared.expansion.Known.{Known}
use Rattle.mc_type_table.specs.Written.{written_type}
use Rattle.mc_names.specs.Parameters.{parameters_of}
use Rattle.mc_type_table.specs.Expanded.{equivalent, replaced, after_rounds}
use Rattle.mc_type_table.specs.Rules.{union_fields, types_in_body, types_in_all}
use Rattle.mc_type_table.specs.code.Grown.{grown_in_all}
use Rattle.mc_type_table.specs.Held.{held}
use Rattle.mc_type_table.specs.code.Hidden.{not_hidden}

-- These are the equivalences of a program, as they are written, with the graph of the types that stand
-- in them.
pub record AreEquivalences (l : Linked) (e : Equivalences) : Type 0 where
  pub bodies : (u : ℕ) → held e.bodies.items u ≡ equivalent l u
  pub steps : (u : ℕ) → steps e.graph u ≡ types_in_body (equivalent l u)
  pub count : length e.graph ≡ length l.types
  pub numbered : length e.components ≡ length e.graph
  pub alike : NumbersComponents e.graph e.components

-- the types that the body of a union writes, with these definitions of types
abbrev pub contents_by :
    (definitions : ℕ → Option TypeTerm) → Linked → (own : ℕ) → PlainDecl → List TypeTerm
contents_by D l own (UnionType h ts) =
    map (λ t. replaced D (written_type l own (parameters_of h) t)) (union_fields ts)
contents_by D l own i = []

abbrev pub contents : (definitions : ℕ → Option TypeTerm) → Linked → Option Defined → List TypeTerm
contents D l None = []
contents D l (Some d) = contents_by D l (defining_module l d) d.item

-- These are the bodies of a program's unions, with these definitions of types, and the graph of the
-- types that stand in them.
pub record AreBodies
    (l : Linked) (definitions : ℕ → Option TypeTerm) (b : Bodies) : Type 0 where
  pub types : (u : ℕ) → steps b.graph u ≡ types_in_all (contents definitions l (slice_get l.types u))
  pub grown : (u : ℕ) → steps b.grown u ≡ grown_in_all (contents definitions l (slice_get l.types u))
  pub count : length b.graph ≡ length l.types
  pub numbered : length b.components ≡ length b.graph
  pub alike : NumbersComponents b.graph b.components

-- whether a type is done; one past the last is
abbrev pub is_done_by : Option Bool → Bool
is_done_by None = true
is_done_by (Some b) = b

abbrev pub is_done : List Bool → ℕ → Bool
is_done done u = is_done_by (slice_get done u)

abbrev pub all_done : List Bool → List ℕ → Bool
all_done done [] = true
all_done done (u ∷ us) = is_done done u && all_done done us

-- Definitions that aren't hidden, of which those that are done are expanded, after so many rounds as
-- well as after more.
pub record IsKnown
    (l : Linked) (hidden : List Bool) (rounds : ℕ) (k : Known) : Type 0 where
  pub counted : length k.bodies.items ≡ length l.types
  pub marked : length k.done.items ≡ length l.types
  pub agree :
      (u : ℕ) → is_done k.done.items u ≡ true
      → (n : ℕ) → rounds ≤ n → held k.bodies.items u ≡ after_rounds n (not_hidden l hidden) u
