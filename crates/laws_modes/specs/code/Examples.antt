-- Programs whose types are regular, and one whose types are not: infinitely many are met under one.
use Rattle.std.specs.Prelude.{ℕ, List, [], ◌∷◌, get_or, Option, Some, None, slice_get}
use Rattle.mc_program.specs.Programs.{TypeTerm, int_type, variable_type, union_type, no_types, type_then, Source}
use Rattle.mc_program.specs.PlainPrograms.{no_name, no_pred}
use Rattle.laws_order.specs.SomeTest.{TypesMet}
use Rattle.laws_modes.specs.Regular.{AreRegular}

-- a program whose unions have one constructor each, over these types
abbrev pub own_symbols : (u : ℕ) → Option (List TypeTerm) → List ℕ
own_symbols u None = []
own_symbols u (Some ts) = u ∷ []

abbrev pub program : List (List TypeTerm) → Source
program rows =
    record {
      symbols = λ s. record { name = no_name; of_type = s; args = get_or rows s [] };
      symbols_of = λ u. own_symbols u (slice_get rows u);
      preds = λ k. no_pred;
    }

-- the first type parameter, and three types of one parameter
abbrev pub item : TypeTerm
item = variable_type 0

abbrev pub first : TypeTerm → TypeTerm
first t = union_type 0 (type_then t no_types)

abbrev pub second : TypeTerm → TypeTerm
second t = union_type 1 (type_then t no_types)

abbrev pub third : TypeTerm → TypeTerm
third t = union_type 2 (type_then t no_types)

-- Lists, and trees with lists of trees: these lists are of no group with the trees.
abbrev pub trees : Source
trees = program ((item ∷ first item ∷ []) ∷ (item ∷ first (second item) ∷ []) ∷ [])

abbrev pub TreesAreRegular : Type 0
TreesAreRegular = AreRegular trees 2

-- Two types that reach each other, over a parameter and over a type without variables.
abbrev pub turns : Source
turns = program ((second item ∷ []) ∷ (first (third int_type) ∷ []) ∷ (item ∷ []) ∷ [])

abbrev pub TurnsAreRegular : Type 0
TurnsAreRegular = AreRegular turns 3

-- A type that stands over a larger argument in its own body isn't regular, and no list has all that
-- is met under it.
abbrev pub nests : Source
nests = program ((first (second item) ∷ []) ∷ (item ∷ []) ∷ [])

abbrev pub NestsAreIrregular : Type 0
NestsAreIrregular = AreRegular nests 2 → ⊥

abbrev pub NestsMeetMany : Type 0
NestsMeetMany = TypesMet nests (first int_type) → ⊥
