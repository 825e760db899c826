-- Nodes of the graph of insts that were looked for, and that stay what they are while the graph
-- grows. (Mercury Language Reference Manual: Modes, insts.)
use Rattle.std.specs.Prelude.{◌≡◌, ℕ, ◌<◌, List, [], ◌∷◌, length, get_or, map, take, Some}
use Rattle.mc_program.specs.Programs.{TypeTerm, variable_type, Source}
use Rattle.mc_program.specs.PlainPrograms.{plain_type}
use Rattle.mc_program.specs.declared.ty.Ty.{Ty}
use Rattle.mc_model.specs.Insts.{bound, Graph}
use Rattle.mc_insts.specs.declared.insts.Insts.{Insts}
use Rattle.mc_insts.specs.Graphs.{graph_of, count_of}
use Rattle.mc_insts.specs.Growing.{Grown}
use Rattle.mc_insts.specs.Merging.{StandsForAll}
use Rattle.mc_procs.specs.Procedures.{PlainProcs, source_of, with_insts}
use Rattle.mc_procs.specs.Fitting.{AllFit}
use Rattle.mc_mode_state.specs.Tables.{node_in}
use Rattle.mc_mode_state.specs.declared.nodes.Nodes.{Nodes}

abbrev pub type_in : List Ty → ℕ → TypeTerm
type_in types x = get_or (map plain_type types) x (variable_type 0)

-- types, each once
abbrev pub Once : List Ty → Type 0
Once ts = (r u : ℕ) (t : Ty) → r < u → u < length ts → get_or ts r t ≡ get_or ts u t → ⊥

-- the bound inst of one symbol over these insts
abbrev pub IsOver : Source → Graph → (node symbol : ℕ) → List ℕ → Type 0
IsOver P G i s is =
    G i
    ≡ bound
    (record {
      name = (P.symbols s).name.bytes;
      arity = (P.symbols s).name.arity;
      args = is;
    } ∷ [])

-- The inst was found to stand for all of these at the type; what older insts mean stays.
pub record StoodFor (P : Source) (I : Insts) (is : List ℕ) (k : ℕ) (t : TypeTerm) : Type 0 where
  pub before : Insts
  pub insts : (n : ℕ) → n < length is → get_or is n 0 < count_of before
  pub there : k < count_of before
  pub stands : StandsForAll P (graph_of before) is k t
  pub grown : Grown P before I

-- Each node that was found is what it was looked for as. Types are met once each.
pub record NodesAre (P : Source) (I : Insts) (N : Nodes) : Type 0 where
  pub overs :
      (s k : ℕ) (is : List ℕ) → node_in N.overs s is ≡ Some k
      → (k < count_of I) × IsOver P (graph_of I) k s is
  pub joins :
      (r k : ℕ) (is : List ℕ) → node_in N.joins r is ≡ Some k
      → (r < length N.types.items) × StoodFor P I is k (type_in N.types.items r)
  pub once : Once N.types.items

-- The graph grew, nothing else of the procedures changed, and what was found stays found.
pub record NodesMoved (q r : PlainProcs) (N M : Nodes) : Type 0 where
  pub others : r ≡ with_insts q r.insts
  pub grown : Grown (source_of q) q.insts r.insts
  pub overs :
      (s k : ℕ) (is : List ℕ) → node_in N.overs s is ≡ Some k → node_in M.overs s is ≡ Some k
  pub joins :
      (s k : ℕ) (is : List ℕ) → node_in N.joins s is ≡ Some k → node_in M.joins s is ≡ Some k
  pub types : take (length N.types.items) M.types.items ≡ N.types.items
  pub are : NodesAre (source_of q) r.insts M
  pub fit : AllFit r
