-- What pairs of insts were merged to.
use Rattle.std.specs.Prelude.{◌≡◌, ◌⊎◌, ℕ, ◌<◌, List, [], ◌∷◌, length}
use Rattle.mc_program.specs.Programs.{TypeTerm, Source}
use Rattle.mc_insts.specs.declared.graph.InstGraph.{InstGraph}
use Rattle.mc_insts.specs.declared.triples.Triple.{Triple}
use Rattle.mc_insts.specs.code.Shown.{plain_graph}
use Rattle.mc_insts.specs.code.TypeRows.{term_at}
use Rattle.mc_insts.specs.code.Answers.{Gathers}

-- the table has this inst for a pair at a row
abbrev pub Holds : List (Triple × ℕ) → Triple → ℕ → Type 0
Holds [] pair k = ⊥
Holds (e ∷ es) pair k = ((e.0 ≡ pair) × (e.1 ≡ k)) ⊎ Holds es pair k

-- the inst stands for all of these at a row's type
pub record Stood (P : Source) (I : InstGraph) (ts : List TypeTerm) (is : List ℕ) (r k : ℕ) : Type 0 where
  pub there : k < length I.nodes
  pub gathers : Gathers P (plain_graph I.functors I.nodes) is k (term_at ts r)

-- an entry of the table is right
pub record PairIs (P : Source) (I : InstGraph) (ts : List TypeTerm) (pair : Triple) (k : ℕ) : Type 0 where
  pub first : pair.low < length I.nodes
  pub second : pair.high < length I.nodes
  pub row : pair.row < length ts
  pub stood : Stood P I ts (pair.low ∷ pair.high ∷ []) pair.row k

abbrev pub PairsAre : Source → InstGraph → List TypeTerm → List (Triple × ℕ) → Type 0
PairsAre P I ts pairs = (pair : Triple) (k : ℕ) → Holds pairs pair k → PairIs P I ts pair k
